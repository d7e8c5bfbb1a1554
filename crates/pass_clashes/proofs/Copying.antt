-- Copying the literals of two clauses without a variable, behind each other, gives the entry of the resolvent. Assumes nothing.
use mathlib.Core.Path.{◌≡◌, refl, sym, ap, ◌∙◌}
use mathlib.Core.Bool.{true, false}
use mathlib.Core.List.{List, [], ◌∷◌, ◌++◌}
use Prim.Native.Nat.{ℕ, ◌+◌, ◌-◌, ◌≤◌, ◌<◌}
use native.Mathlib.Omega.{arith}
use native.Mathlib.Numerals.{add-one}
use lib.IntN.{ℤ, pos}
use lib.ListN.{length, get_or, set, take, drop, length-append, length-drop, length-set, take-append-drop}
use lib.Seq.{take-suc, take-take, get_or-drop, sets, length-sets}
use mir.Syntax.{w32}
use mir.Val.{SFits, of_z}
use Rattle.definition.specs.Lists.{those}
use Rattle.definition.specs.Literals.{Clause, same, without}
use Rattle.theory_base.proofs.Slices.{sets_then, sets_first, sets_before, getD_before, part_before}
use Rattle.literals.specs.Literal.{signed_of, header_of}
use borrow.Author.Tests.{eq-eqb, ne_eqb}
use Rattle.literals.proofs.Bits.{same_bits}
use Rattle.store.specs.Store.{entry}
use Rattle.progress.proofs.Writing.{without-++}
use Rattle.pass_clashes.specs.Resolving.{part_without, Copied, joined, Joinable}

-- ---- copying one literal, by the comparison of bits
module _ (out l : ℤ) (a : SFits w32 out) (b : SFits w32 l) where
  pub without_same : of_z w32 out ≡ of_z w32 l → without out (l ∷ []) ≡ []
  unfolding without those
  without_same k = let d : same out l ≡ true = sym (same_bits out l a b) ∙ eq-eqb _ _ k in rw d refl

  pub without_other : (of_z w32 out ≡ of_z w32 l → ⊥) → without out (l ∷ []) ≡ l ∷ []
  unfolding without those
  without_other k = let d : same out l ≡ false = sym (same_bits out l a b) ∙ ne_eqb _ _ k in rw d refl

-- ---- copying literals

-- none is copied yet
pub copying_start : (old : List ℤ) (to from : ℕ) (out : ℤ) → Copied old to from 0 out old to
unfolding without those
copying_start old to from out = record { next = omega arith; copied = refl }

without_part : (out : ℤ) (k : ℕ) (c : Clause) → length (without out (take k c)) ≤ length (without out c)
without_part out k c =
    omega (arith, length-append (without out (take k c)) (without out (drop k c)), ap length (without-++ out (take k c) (drop k c)), ap (λ (d : Clause). length (without out d)) (take-append-drop k c))

module _ {old work : List ℤ} {to from n i end : ℕ} {out : ℤ} (s : Copied old to from i out work end) (h : i < n) (r : from + n ≤ to) (m : to + length (part_without old from n out) ≤ length old) where
  abbrev front : Clause
  front = part_without old from i out

  abbrev one : Clause
  one = without out (get_or work (from + i) (pos 0) ∷ [])

  size : length work ≡ length old
  size = ap length s.copied ∙ length-sets old to front

  same_literal : get_or work (from + i) (pos 0) ≡ get_or (drop from old) i (pos 0)
  same_literal = getD_before work old to (from + i) (pos 0) (ap (take to) s.copied ∙ sets_before front old to to (omega arith)) (omega arith) ∙ sym (get_or-drop from old i (pos 0))

  one_more : part_without old from (i + 1) out ≡ front ++ one
  one_more =
      ap (λ (c : Clause). without out c) (ap (λ (k : ℕ). take k (drop from old)) (add-one i) ∙ take-suc (drop from old) i (pos 0) (omega (arith, length-drop from old)) ∙ ap (λ (z : ℤ). take i (drop from old) ++ (z ∷ [])) (sym same_literal))
      ∙ without-++ out (take i (drop from old)) (get_or work (from + i) (pos 0) ∷ [])

  pub copying_room : (from + i < length work) × (end + length one ≤ length work)
  copying_room = (
    omega (arith, size),
    omega (
      arith,
      s.next,
      size,
      ap length one_more,
      length-append front one,
      without_part out (i + 1) (take n (drop from old)),
      ap (λ (c : Clause). length (without out c)) (take-take (i + 1) n (drop from old) (omega arith)),
    ),
  )

  pub copying_step : {new : List ℤ} {q : ℕ} → q ≡ end + length one → new ≡ sets work end one → Copied old to from (i + 1) out new q
  copying_step {new} {q} e f = record {
    next = omega (arith, e, s.next, ap length one_more, length-append front one);
    copied = f ∙ ap (λ (k : List ℤ). sets k end one) s.copied ∙ ap (λ (k : ℕ). sets (sets old to front) k one) s.next ∙ sets_then front one old to ∙ ap (sets old to) (sym one_more);
  }

-- ---- the entry of the resolvent

pub first_room : {old : List ℤ} {end a na b nb v : ℕ} → Joinable old end a na b nb v → (a + na ≤ end + 1) × (end + 1 + length (part_without old a na (signed_of false v)) ≤ length old)
first_room {old} {end} {a} {na} {b} {nb} {v} k = (omega (arith, k.one), omega (arith, k.space, length-append (part_without old a na (signed_of false v)) (part_without old b nb (signed_of true v))))

module _ {old mid : List ℤ} {end a na b nb v c : ℕ} (k : Joinable old end a na b nb v) (p : Copied old (end + 1) a na (signed_of false v) mid c) where
  abbrev W₁ : Clause
  W₁ = part_without old a na (signed_of false v)

  abbrev W₂ : Clause
  W₂ = part_without old b nb (signed_of true v)

  second_part : take nb (drop b mid) ≡ take nb (drop b old)
  second_part = ap (λ (s : List ℤ). take nb (drop b s)) p.copied ∙ part_before W₁ old (end + 1) b nb (omega (arith, k.other)) (omega (arith, k.space))

  pub second_room : (b + nb ≤ c) × (c + length (part_without mid b nb (signed_of true v)) ≤ length mid)
  second_room = (
    omega (arith, k.other, p.next),
    omega (
      arith,
      k.space,
      p.next,
      ap length p.copied,
      length-sets old (end + 1) W₁,
      length-append W₁ W₂,
      ap (λ (k : Clause). length (without (signed_of true v) k)) second_part,
    ),
  )

  module _ {new : List ℤ} {d : ℕ} (q : Copied mid c b nb (signed_of true v) new d) where
    pub entry_next : d ≡ end + (length (joined old a na b nb v) + 1)
    entry_next = omega (arith, p.next, q.next, length-append W₁ W₂, ap (λ (k : Clause). length (without (signed_of true v) k)) second_part)

    both_copied : new ≡ sets old (end + 1) (joined old a na b nb v)
    both_copied =
        q.copied ∙ ap (λ (k : Clause). sets mid c (without (signed_of true v) k)) second_part
        ∙ ap (λ (s : List ℤ). sets s c W₂) p.copied
        ∙ ap (λ (k : ℕ). sets (sets old (end + 1) W₁) k W₂) p.next
        ∙ sets_then W₁ W₂ old (end + 1)

    pub entry_written : {h : ℤ} → h ≡ header_of (d - (end + 1)) → set new end h ≡ sets old end (entry (joined old a na b nb v))
    entry_written {h} e =
        let n : d - (end + 1) ≡ length (joined old a na b nb v) = omega (arith, entry_next) in
        ap (λ (z : ℤ). set new end z) (e ∙ ap header_of n)
        ∙ ap (λ (s : List ℤ). set s end (header_of (length (joined old a na b nb v)))) (both_copied ∙ ap (λ (k : ℕ). sets old k (joined old a na b nb v)) (add-one end))
        ∙ sets_first (joined old a na b nb v) old end (header_of (length (joined old a na b nb v)))

    pub entry_length : (h : ℤ) → length (set new end h) ≡ length old
    entry_length h = length-set new end h ∙ ap length both_copied ∙ length-sets old (end + 1) (joined old a na b nb v)
