-- Elements copied further on in a slice, and the header put in front.
use Rattle.std.proofs.Common.{◌≡◌, sym, ap, ap₂, ◌∙◌, List, ℕ, ◌+◌, ◌-◌, ◌≤◌, ◌++◌, ℤ, length, set, take, drop, add-one, arith, length-drop}
use Rattle.std.proofs.Math.Seq.{length-take-le}
use Rattle.std.proofs.lemmas.List.Edits.{sets, sets-eq}
use Rattle.std.specs.List.{copy_within}
use Rattle.literals.specs.Literal.{header_of}
use Rattle.store.specs.Store.{entry}
use Rattle.theory_base.proofs.Slices.{sets_first}

pub copied : (w : List ℤ) (from n to : ℕ) → from + n ≤ length w → to + n ≤ length w → copy_within w from (from + n) to ≡ sets w to (take n (drop from w))
copied w from n to h l =
    let k : length (take n (drop from w)) ≡ n = length-take-le n (drop from w) (omega (arith, length-drop from w)) in
    let e : from + n - from ≡ n = omega arith in
    rw e (sym (sets-eq (take n (drop from w)) w to (omega (arith, k)) ∙ ap (λ (j : ℕ). take to w ++ take n (drop from w) ++ drop (to + j) w) k))

pub copied_front : (w : List ℤ) (n to : ℕ) → n ≤ length w → to + n ≤ length w → copy_within w 0 n to ≡ sets w to (take n w)
copied_front w n to h l = let e : n ≡ 0 + n = omega arith in ap (λ (k : ℕ). copy_within w 0 k to) e ∙ copied w 0 n to (omega arith) l

-- the header in front
pub entry_written : (old work : List ℤ) (end n : ℕ) (c : List ℤ) (h : ℤ) → length c ≡ n → work ≡ sets old (end + 1) c → h ≡ header_of n → set work end h ≡ sets old end (entry c)
entry_written old work end n c h k w e =
    ap₂ (λ (s : List ℤ) (x : ℤ). set s end x) (w ∙ ap (λ (j : ℕ). sets old j c) (add-one end)) (e ∙ ap header_of (sym k)) ∙ sets_first c old end (header_of (length c))
