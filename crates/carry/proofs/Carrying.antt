-- An assignment in a table, tested against a store, repaired, and carried over loaded lines: one invariant for both directions.
use Rattle.theory_base.proofs.Fitting.{highest_snoc}
use mathlib.Core.Path.{◌≡◌, refl, sym, ap, ◌∙◌}
use mathlib.Core.Bool.{Bool, true, false, cond}
use mathlib.Core.List.{List, [], ◌∷◌}
use Prim.Native.Nat.{ℕ, ◌≤◌, ◌<◌, max}
use native.Mathlib.Omega.{arith}
use lib.IntN.{ℤ}
use lib.ListN.{length, take, drop}
use Rattle.std.specs.Prelude.{Some, None}
use Rattle.std.specs.List.{slice_get}
use Rattle.std.proofs.lemmas.Option.{none-some, same_Some}
use Rattle.definition.specs.Lists.{all}
use Rattle.definition.specs.Text.{Bytes}
use Rattle.definition.specs.Literals.{Clause, Formula, highest}
use Rattle.definition.specs.Standing.{Line, literals, highest_in}
use Rattle.definition.specs.Assignments.{Assignment, has_true, satisfies, repaired, carried, carried_back, forwarded, carried_forward}
use Rattle.theory_base.proofs.Tests.{differ, by_test}
use Rattle.store.specs.Store.{stored, deleted_at, clause_at, past}
use Rattle.store.proofs.Laws.{rest_deleted, rest_stands, stored_end}
use Rattle.answer.specs.Table.{marked, naming}
use Rattle.answer.proofs.Table.{marked_naming}
use Rattle.theory_base.proofs.Lines.{carried_back_snoc, repaired_empty}
use Rattle.drat.specs.Lines.{line_of}
use Rattle.drat.specs.Loaded.{Loaded, lines_in, line_at, past_line}
use Rattle.drat.proofs.Loaded.{lines_none, lines_next, loaded_next, line_literals}
use Rattle.carry.specs.declared.Direction.{Direction}
use Rattle.carry.specs.declared.Direction.TheVariants.{Back, Forward}
use Rattle.carry.specs.Lines.{LastLine, over, repairs}
use Rattle.carry.specs.Carried.{holds_at}

-- ---- what stands is satisfied

first_true : (a : Assignment) (c : Clause) (f : Formula) → has_true a c ≡ true → satisfies a f ≡ satisfies a (c ∷ f)
unfolding satisfies all
first_true a c f e = rw e refl

first_false : (a : Assignment) (c : Clause) (f : Formula) → has_true a c ≡ false → false ≡ satisfies a (c ∷ f)
unfolding satisfies all
first_false a c f e = rw e refl

module _ (a : Assignment) (s : List ℤ) (at : ℕ) (h : at < length s) (r : Bool) (q : r ≡ holds_at a s at) where
  pub satisfied_more : r ≡ true → satisfies a (stored (drop (past s at) s)) ≡ satisfies a (stored (drop at s))
  satisfied_more e =
      by_test (deleted_at s at) (λ d. ap (satisfies a) (sym (rest_deleted s at h d)))
      (λ d. first_true a (clause_at s at) (stored (drop (past s at) s)) (rw d at (sym q ∙ e)) ∙ ap (satisfies a) (sym (rest_stands s at h d)))

  pub satisfied_not : r ≡ false → false ≡ satisfies a (stored (drop at s))
  satisfied_not e =
      by_test (deleted_at s at) (λ d. differ {b = true} tt (rw d at (sym q ∙ e)))
      (λ d. first_false a (clause_at s at) (stored (drop (past s at) s)) (rw d at (sym q ∙ e)) ∙ ap (satisfies a) (sym (rest_stands s at h d)))

pub satisfied_end : (a : Assignment) (s : List ℤ) (at : ℕ) → length s ≤ at → true ≡ satisfies a (stored (drop at s))
unfolding satisfies all
satisfied_end a s at h = rw (stored_end s at h) refl

-- ---- a clause repaired

pub repaired_first : (m : Bytes) (c : Clause) (l : ℤ) → Some l ≡ slice_get c 0 → highest c < length m → has_true (marked m) c ≡ false → marked (naming l m) ≡ repaired c (marked m)
unfolding repaired highest
repaired_first m [] l f h e = absurd (none-some l (sym f))
repaired_first m (x ∷ c) l f h e = rw (same_Some l x f) (rw e (marked_naming m x (omega arith)))

pub repaired_none : (a : Assignment) (c : Clause) → None ≡ slice_get c 0 → a ≡ repaired c a
repaired_none a [] f = repaired_empty [] a refl
repaired_none a (x ∷ c) f = absurd (none-some x f)

-- ---- one line, forward or back

-- over an addition or a deletion: one of the two is repaired
over_line : (direction : Direction) (d : Bool) (c : Clause) (a : Assignment) → over direction a (line_of d c) ≡ cond (repairs direction d) (repaired c a) a
unfolding carried forwarded
over_line Forward true c a = refl
over_line Forward false c a = refl
over_line Back true c a = refl
over_line Back false c a = refl

-- over the line at a place, by the test of its header
module _ (s : List ℤ) (at : ℕ) (m : Bytes) (direction : Direction) where
  abbrev tested : Bool
  tested = repairs direction (deleted_at s at)

  pub over_repaired : (n : Bytes) → tested ≡ true → (highest (clause_at s at) < length m → marked n ≡ repaired (clause_at s at) (marked m))
      → highest (literals (line_at s at)) < length m → marked n ≡ over direction (marked m) (line_at s at)
  over_repaired n e r w =
      r (rw (line_literals (deleted_at s at) (clause_at s at)) at w) ∙ sym (over_line direction (deleted_at s at) (clause_at s at) (marked m) ∙ rw e refl)

  pub over_kept : tested ≡ false → marked m ≡ over direction (marked m) (line_at s at)
  over_kept e = sym (over_line direction (deleted_at s at) (clause_at s at) (marked m) ∙ rw e refl)

-- ---- the lines, forward or back: those that `left` holds are still to come

abbrev over_all : Direction → Assignment → List Line → Assignment
over_all Forward = carried_forward
over_all Back = carried_back

pub record Carrying (direction : Direction) (s : List ℤ) (old m : Bytes) (left : List ℤ) : Type 0 where
  pub len : length m ≡ length old
  pub loaded : Loaded left
  pub within : highest_in (lines_in s) < length old → highest_in (lines_in left) < length old
  pub same : highest_in (lines_in s) < length old → over_all direction (marked m) (lines_in left) ≡ over_all direction (marked old) (lines_in s)

-- the line that is carried over next, and what is left after it
record Next (direction : Direction) (left : List ℤ) (x : Line) (rest : List ℤ) : Type 0 where
  pub loaded : Loaded rest
  pub highest_here : highest_in (lines_in left) ≡ max (highest (literals x)) (highest_in (lines_in rest))
  pub over_first : (a : Assignment) → over_all direction (over direction a x) (lines_in rest) ≡ over_all direction a (lines_in left)

carrying_step : (direction : Direction) (s : List ℤ) (old m n : Bytes) (left : List ℤ) (x : Line) (rest : List ℤ) → Carrying direction s old m left → Next direction left x rest → length n ≡ length m
    → (highest (literals x) < length m → marked n ≡ over direction (marked m) x) → Carrying direction s old n rest
carrying_step direction s old m n left x rest i l k r = record {
  len = k ∙ i.len;
  loaded = l.loaded;
  within = λ w. omega (arith, l.highest_here, i.within w);
  same =
      λ w.
      ap (λ (a : Assignment). over_all direction a (lines_in rest)) (r (omega (arith, l.highest_here, i.within w, i.len)))
      ∙ l.over_first (marked m)
      ∙ i.same w;
}

over_none : (direction : Direction) (a : Assignment) (ss : List Line) → ss ≡ [] → a ≡ over_all direction a ss
unfolding carried_forward carried_back
over_none Forward a ss e = rw e refl
over_none Back a ss e = rw e refl

pub carrying_end : (direction : Direction) (s : List ℤ) (old m : Bytes) (left : List ℤ) → Carrying direction s old m left → lines_in left ≡ [] → highest_in (lines_in s) < length old
    → marked m ≡ over_all direction (marked old) (lines_in s)
carrying_end direction s old m left i e w = over_none direction (marked m) (lines_in left) e ∙ i.same w

-- ---- the loop of `carry_back`: the lines up to `end` are left

last_next : (s : List ℤ) (end start : ℕ) → LastLine s end start → Next Back (take end s) (line_at s start) (take start s)
last_next s end start l = record {
  loaded = l.before;
  highest_here = let h = ap highest_in l.lines ∙ highest_snoc (lines_in (take start s)) (line_at s start) in omega (arith, h);
  over_first = λ a. sym (ap (carried_back a) l.lines ∙ carried_back_snoc a (lines_in (take start s)) (line_at s start));
}

pub back_step : (s : List ℤ) (old m n : Bytes) (end start : ℕ) → Carrying Back s old m (take end s) → LastLine s end start → length n ≡ length m
    → (highest (literals (line_at s start)) < length m → marked n ≡ carried (marked m) (line_at s start)) → Carrying Back s old n (take start s)
back_step s old m n end start i l k r = carrying_step Back s old m n (take end s) (line_at s start) (take start s) i (last_next s end start l) k r

pub back_end : (s : List ℤ) (end : ℕ) → end ≤ 0 → lines_in (take end s) ≡ []
back_end s end h = let z : end ≡ 0 = omega arith in ap (λ (k : ℕ). lines_in (take k s)) z ∙ lines_none

-- ---- the loop of `carry_forward`: the lines from `at` on are left

first_next : (s : List ℤ) (at : ℕ) → at < length s → Loaded (drop at s) → Next Forward (drop at s) (line_at s at) (drop (past_line s at) s)
unfolding highest_in carried_forward
first_next s at h f = record {
  loaded = (loaded_next s at h f).1;
  highest_here = ap highest_in (lines_next s at h);
  over_first = λ a. sym (ap (carried_forward a) (lines_next s at h));
}

pub forward_step : (s : List ℤ) (old m n : Bytes) (at past : ℕ) → Carrying Forward s old m (drop at s) → at < length s → past ≡ past_line s at → length n ≡ length m
    → (highest (literals (line_at s at)) < length m → marked n ≡ forwarded (marked m) (line_at s at)) → Carrying Forward s old n (drop past s)
forward_step s old m n at past i h e k r =
    rw e (carrying_step Forward s old m n (drop at s) (line_at s at) (drop (past_line s at) s) i (first_next s at h i.loaded) k r)
