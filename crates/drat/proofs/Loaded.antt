-- Loaded lines: the line at a place, lines after lines, and that the entries of lines hold them.
use mathlib.Core.Path.{◌≡◌, refl, sym, ap, ap₂, ◌∙◌}
use mathlib.Core.Bool.{Bool, true, false}
use mathlib.Core.List.Memᴰ.{head as here}
use mathlib.Core.List.Memᴰ.{tail as there}
use mathlib.Core.List.{List, [], ◌∷◌, ◌++◌, append-nil}
use Prim.Native.Nat.{ℕ, zero, suc, ◌+◌, ◌≤◌, ◌<◌}
use native.Mathlib.Omega.{arith}
use lib.IntN.{ℤ, pos}
use lib.ListN.{get_or-append, length, drop, length-append, length-drop}
use lib.Seq.{drop-drop, take-append-le, take_at, get_or_at}
use Rattle.definition.specs.Literals.{Clause}
use Rattle.definition.specs.Standing.{Line, addition, deletion, literals}
use Rattle.literals.specs.Literal.{largest, negative, header_of, flip, header_literals}
use Rattle.literals.proofs.Laws.{literals_flip, literals_header}
use Rattle.store.specs.Store.{header_at, size_at, deleted_at, clause_at}
use Rattle.theory_base.proofs.Slices.{drop_step, drop_end}
use Rattle.definition.specs.Lists.{for_each, sum_of}
use Rattle.definition.specs.LogReading.{numbers_in}
use Rattle.theory_base.proofs.Loops.{for_each-++}
use Rattle.theory_base.proofs.Fitting.{line_to, proper_length}
use Rattle.theory_text.proofs.LogLines.{AllFit}
use Rattle.drat.specs.Lines.{line_of}
use Rattle.drat.specs.Loaded.{line_entry, line_entries, LoadedFrom, Loaded, lines_from, lines_in, line_at, past_line}

-- ---- what follows a line's elements

pub lines_skip : (k : ℕ) (s : List ℤ) → lines_from k s ≡ lines_in (drop k s)
unfolding lines_from
lines_skip zero s = refl
lines_skip (suc k) [] = refl
lines_skip (suc k) (x ∷ s) = lines_skip k s

pub loaded_skip : (k : ℕ) (s : List ℤ) → LoadedFrom k s → (k ≤ length s) × Loaded (drop k s)
loaded_skip zero s f = (omega arith, f)
loaded_skip (suc k) [] f = absurd f
loaded_skip (suc k) (x ∷ s) f = let m = loaded_skip k s f in (omega (arith, m.0), m.1)

pub lines_none : lines_in [] ≡ []
unfolding lines_from
lines_none = refl

-- no line past the end
pub lines_end : (s : List ℤ) (at : ℕ) → length s ≤ at → lines_in (drop at s) ≡ []
lines_end s at h = ap lines_in (drop_end s at h) ∙ lines_none

-- ---- the line at a place
module _ (s : List ℤ) (at : ℕ) (h : at < length s) where
  first_element : drop at s ≡ header_at s at ∷ drop (at + 1) s
  first_element = drop_step s at (pos 0) h

  drop_past : drop (suc (size_at s at)) (drop (at + 1) s) ≡ drop (past_line s at) s
  drop_past = let e : at + 1 + suc (size_at s at) ≡ past_line s at = omega arith in drop-drop (suc (size_at s at)) (at + 1) s ∙ ap (λ (k : ℕ). drop k s) e

  pub loaded_next : Loaded (drop at s) → (past_line s at ≤ length s) × Loaded (drop (past_line s at) s)
  loaded_next f =
      let g : LoadedFrom 0 (header_at s at ∷ drop (at + 1) s) = rw first_element at f in
      let m = loaded_skip (suc (size_at s at)) (drop (at + 1) s) g.1 in
      (omega (arith, m.0, length-drop (at + 1) s), rw drop_past at m.1)

  pub lines_next : lines_in (drop at s) ≡ line_at s at ∷ lines_in (drop (past_line s at) s)
  unfolding lines_from
  lines_next = rw (first_element, lines_skip (suc (size_at s at)) (drop (at + 1) s), drop_past) refl

pub line_deletion : (s : List ℤ) (at : ℕ) → deleted_at s at ≡ true → line_at s at ≡ deletion (clause_at s at)
line_deletion s at e = rw e

pub line_addition : (s : List ℤ) (at : ℕ) → deleted_at s at ≡ false → line_at s at ≡ addition (clause_at s at)
line_addition s at e = rw e

pub line_literals : (d : Bool) (c : Clause) → literals (line_of d c) ≡ c
unfolding literals
line_literals true c = refl
line_literals false c = refl

-- ---- lines after lines

lines_from-++ : (k : ℕ) (s t : List ℤ) → LoadedFrom k s → lines_from k (s ++ t) ≡ lines_from k s ++ lines_in t
unfolding lines_from
lines_from-++ zero [] t f = refl
lines_from-++ (suc k) [] t f = absurd f
lines_from-++ zero (h ∷ s) t f =
    let m = loaded_skip (suc (header_literals h)) s f.1 in
    ap₂ (λ (c : Clause) (xs : List Line). line_of (negative h) c ∷ xs) (take-append-le (header_literals h) s t (omega (arith, m.0))) (lines_from-++ (suc (header_literals h)) s t f.1)
lines_from-++ (suc k) (x ∷ s) t f = lines_from-++ k s t f

loaded_from-++ : (k : ℕ) (s t : List ℤ) → LoadedFrom k s → Loaded t → LoadedFrom k (s ++ t)
loaded_from-++ zero [] t f g = g
loaded_from-++ (suc k) [] t f g = absurd f
loaded_from-++ zero (h ∷ s) t f g =
    let m = loaded_skip (suc (header_literals h)) s f.1 in
    (ap header_literals (get_or-append s t (pos 0) (header_literals h) (omega (arith, m.0))) ∙ f.0, loaded_from-++ (suc (header_literals h)) s t f.1 g)
loaded_from-++ (suc k) (x ∷ s) t f g = loaded_from-++ k s t f g

lines-++ : (s t : List ℤ) → Loaded s → lines_in (s ++ t) ≡ lines_in s ++ lines_in t
lines-++ s t f = lines_from-++ 0 s t f

loaded-++ : (s t : List ℤ) → Loaded s → Loaded t → Loaded (s ++ t)
loaded-++ s t f g = loaded_from-++ 0 s t f g

-- ---- one line more

loaded_all : (k : ℕ) (s : List ℤ) → length s ≡ k → LoadedFrom k s
loaded_all zero [] e = tt
loaded_all (suc k) [] e = absurd (omega arith)
loaded_all zero (x ∷ s) e = absurd (omega arith)
loaded_all (suc k) (x ∷ s) e = loaded_all k s (omega arith)

-- a header, its literals and a header of as many
module _ (h t : ℤ) (c : Clause) (n : header_literals h ≡ length c) (m : header_literals t ≡ length c) where
  one_loaded : Loaded (h ∷ (c ++ (t ∷ [])))
  one_loaded =
      (ap header_literals (get_or_at c t [] (pos 0) (header_literals h) (sym n)) ∙ m ∙ sym n, loaded_all (suc (header_literals h)) (c ++ (t ∷ [])) (omega (arith, length-append c (t ∷ []))))

  one_line : lines_in (h ∷ (c ++ (t ∷ []))) ≡ line_of (negative h) c ∷ []
  unfolding lines_from
  one_line =
      ap₂ (λ (d : Clause) (xs : List Line). line_of (negative h) d ∷ xs) (take_at c (t ∷ []) (header_literals h) (sym n))
      (lines_skip (suc (header_literals h)) (c ++ (t ∷ [])) ∙ lines_end (c ++ (t ∷ [])) (suc (header_literals h)) (omega (arith, length-append c (t ∷ []))))

entry_loaded : (x : Line) → length (literals x) ≤ largest → Loaded (line_entry x) × (lines_in (line_entry x) ≡ x ∷ [])
unfolding literals
entry_loaded (addition c) l =
    let h = header_of (length c) in
    let n = literals_header (length c) (omega arith) in
    (one_loaded h h c n n, one_line h h c n n)
entry_loaded (deletion c) l =
    let h = header_of (length c) in
    let n = literals_header (length c) (omega arith) in
    let m = literals_flip h ∙ n in
    (one_loaded (flip h) h c m n, one_line (flip h) h c m n)

-- ---- the entries of lines

pub entry_size : (s : Line) → length (line_entry s) ≡ length (literals s) + 2
unfolding literals
entry_size (addition c) = omega (arith, length-append c (header_of (length c) ∷ []))
entry_size (deletion c) = omega (arith, length-append c (header_of (length c) ∷ []))

pub entries_size : (ss : List Line) → length (line_entries ss) ≡ numbers_in ss + length ss
unfolding for_each numbers_in sum_of
entries_size [] = refl
entries_size (s ∷ ss) = omega (arith, length-append (line_entry s) (for_each ss line_entry), entry_size s, entries_size ss)

pub entries_snoc : (ss : List Line) (s : Line) → line_entries ss ++ line_entry s ≡ line_entries (ss ++ (s ∷ []))
unfolding for_each
entries_snoc ss s = sym (for_each-++ ss (s ∷ []) line_entry ∙ ap (λ (x : List ℤ). line_entries ss ++ x) (append-nil (line_entry s)))

pub entries_loaded : (ss : List Line) → AllFit ss → Loaded (line_entries ss) × (lines_in (line_entries ss) ≡ ss)
unfolding for_each
entries_loaded [] h = (tt, lines_none)
entries_loaded (s ∷ ss) h =
    let r = entries_loaded ss (λ x i. h x (there i)) in
    let one = entry_loaded s (omega (arith, proper_length 70_000 (literals s) (line_to 70_000 s (h s (here refl))))) in
    (loaded-++ (line_entry s) (line_entries ss) one.0 r.0, lines-++ (line_entry s) (line_entries ss) one.0 ∙ ap₂ (λ (xs ys : List Line). xs ++ ys) one.1 r.1)
