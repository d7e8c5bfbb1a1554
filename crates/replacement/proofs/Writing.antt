-- Writing the result behind the store, literal by literal. Assumes nothing.
use mathlib.Core.Path.{◌≡◌, refl, sym, ap, ap₂, ◌∙◌}
use mathlib.Core.List.{List, [], ◌∷◌, ◌++◌, append-nil}
use Prim.Native.Nat.{ℕ, ◌+◌, ◌-◌, ◌≤◌, ◌<◌}
use native.Mathlib.Omega.{arith}
use native.Mathlib.Numerals.{add-one}
use lib.IntN.{ℤ, pos}
use lib.ListN.{length, get_or, set, take, drop, length-append, length-drop, take-append-drop}
use lib.Seq.{take-suc, take-take, get_or-drop, sets, length-sets}
use Rattle.definition.specs.Lists.{for_each}
use Rattle.definition.specs.Literals.{Clause}
use Rattle.theory_base.proofs.Loops.{for_each-++}
use Rattle.theory_base.proofs.Slices.{sets_then, sets_first, sets_before, getD_before}
use Rattle.literals.specs.Literal.{header_of}
use Rattle.literals.proofs.Laws.{at_arg, answer}
use Rattle.store.specs.Store.{entry}
use mir.Syntax.{w32}
use mir.Val.{SFits, of_z, to_z}
use Rattle.definition.specs.Events.{Choice}
use Rattle.tables.specs.Places.{place_in, Places}
use Rattle.replacement.specs.Replaced.{instead_by}
use Rattle.replacement.proofs.Replaced.{instead, instead_is}

-- ---- literal by literal

-- what g gives for the first i of n literals is written
pub record Writing (g : ℤ → Clause) (old : List ℤ) (to from n i end : ℕ) (work : List ℤ) : Type 0 where
  pub inside : i ≤ n
  pub size : length work ≡ length old
  pub next : end ≡ to + length (for_each (take i (drop from old)) g)
  pub written : work ≡ sets old to (for_each (take i (drop from old)) g)

pub writing_start : (g : ℤ → Clause) (old : List ℤ) (to from n : ℕ) → Writing g old to from n 0 to old
unfolding for_each
writing_start g old to from n = record { inside = omega arith; size = refl; next = omega arith; written = refl }

one_each : (g : ℤ → Clause) (x : ℤ) → for_each (x ∷ []) g ≡ g x
unfolding for_each
one_each g x = append-nil (g x)

each_part : (g : ℤ → Clause) (k : ℕ) (c : Clause) → length (for_each (take k c) g) ≤ length (for_each c g)
each_part g k c =
    omega (arith, length-append (for_each (take k c) g) (for_each (drop k c) g), ap length (for_each-++ (take k c) (drop k c) g), ap (λ (d : Clause). length (for_each d g)) (take-append-drop k c))

module _ {g : ℤ → Clause} {old work : List ℤ} {to from n i end : ℕ} (s : Writing g old to from n i end work) (h : i < n) (r : from + n ≤ to) (m : to ≤ length old) where
  abbrev before : Clause
  before = for_each (take i (drop from old)) g

  abbrev literal : ℤ
  literal = get_or work (from + i) (pos 0)

  same_literal : literal ≡ get_or (drop from old) i (pos 0)
  same_literal = getD_before work old to (from + i) (pos 0) (ap (take to) s.written ∙ sets_before before old to to (omega arith)) (omega arith) ∙ sym (get_or-drop from old i (pos 0))

  chunk : for_each (take (i + 1) (drop from old)) g ≡ before ++ g literal
  chunk =
      ap (λ (c : Clause). for_each c g) (ap (λ (k : ℕ). take k (drop from old)) (add-one i) ∙ take-suc (drop from old) i (pos 0) (omega (arith, length-drop from old)) ∙ ap (λ (z : ℤ). take i (drop from old) ++ (z ∷ [])) (sym same_literal))
      ∙ for_each-++ (take i (drop from old)) (literal ∷ []) g
      ∙ ap (λ (c : Clause). before ++ c) (one_each g literal)

  -- what is written for the literal there, as the code has it
  module _ {c : Clause} (e : c ≡ g (get_or work (from + i) (pos 0))) where
    pub writing_room : to + length (for_each (take n (drop from old)) g) ≤ length old → end + length c ≤ length work
    writing_room w =
        omega (
          arith,
          w,
          s.next,
          s.size,
          ap length e,
          ap length chunk,
          length-append before (g literal),
          each_part g (i + 1) (take n (drop from old)),
          ap (λ (c : Clause). length (for_each c g)) (take-take (i + 1) n (drop from old) (omega arith)),
        )

    pub writing_step : {new : List ℤ} {q : ℕ} → q ≡ end + length c → new ≡ sets work end c → Writing g old to from n (i + 1) q new
    writing_step {new} {q} a b =
        let f : new ≡ sets work end (g literal) = b ∙ ap (sets work end) e in record {
          inside = omega arith;
          size = ap length f ∙ length-sets work end (g literal) ∙ s.size;
          next = omega (arith, a, ap length e, s.next, ap length chunk, length-append before (g literal));
          written = f ∙ ap (λ (k : List ℤ). sets k end (g literal)) s.written ∙ ap (λ (k : ℕ). sets (sets old to before) k (g literal)) s.next ∙ sets_then before (g literal) old to ∙ ap (sets old to) (sym chunk);
        }

pub writing_end : {g : ℤ → Clause} {old work : List ℤ} {to from n i end : ℕ} → Writing g old to from n i end work → n ≤ i →
    (end ≡ to + length (for_each (take n (drop from old)) g)) × (work ≡ sets old to (for_each (take n (drop from old)) g))
writing_end {g} {old} {work} {to} {from} {n} {i} s h =
    let k : i ≡ n = omega (arith, s.inside) in
    (s.next ∙ ap (λ (j : ℕ). to + length (for_each (take j (drop from old)) g)) k, s.written ∙ ap (λ (j : ℕ). sets old to (for_each (take j (drop from old)) g)) k)

-- ---- an entry: its literals, then its header
pub header_written : (W old w : List ℤ) (end next : ℕ) {h : ℤ} → w ≡ sets old (end + 1) W → next ≡ end + 1 + length W → h ≡ header_of (next - (end + 1)) → set w end h ≡ sets old end (entry W)
header_written W old w end next {h} e f q =
    let n : next - (end + 1) ≡ length W = omega arith in
    ap₂ (λ (s : List ℤ) (z : ℤ). set s end z) (e ∙ ap (λ (k : ℕ). sets old k W) (add-one end)) (q ∙ ap header_of n)
    ∙ sets_first W old end (header_of (length W))

-- ---- what put_instead writes for an element of the store
pub instead_arg : {t : List ℕ} (k : Choice) → Places t k.literals → (x : ℤ) (r : ℕ) → SFits w32 x → r ≡ place_in t (to_z w32 (of_z w32 x)) → instead_by (length k.literals) k.below (to_z w32 (of_z w32 x)) r ≡ instead k x
instead_arg {t} k v x r f e =
    let n = length k.literals in
    at_arg (λ (z : ℤ). instead_by n k.below z r) x f ∙ ap (instead_by n k.below x) (answer (place_in t) x f e) ∙ instead_is k v x
