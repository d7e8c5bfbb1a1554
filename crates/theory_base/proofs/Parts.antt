-- Parts of a list: their elements, one element more, what follows them, and what a change of the list leaves of them.
use mathlib.Core.Path.{◌≡◌, sym, ap, ◌∙◌}
use mathlib.Core.List.{List, [], ◌∷◌, ◌++◌}
use Prim.Native.Nat.{ℕ, zero, suc, ◌+◌, ◌-◌, ◌≤◌, ◌<◌, min}
use native.Mathlib.Nat.{sub-zero}
use native.Mathlib.Omega.{arith}
use lib.Dec.{ltb}
use borrow.Author.Tests.{ltb-true, ltb-false}
use lib.ListN.{length, get_or, set, take, drop, length-drop, take-append-drop}
use lib.Seq.{sets, take-nil, length-take-le, take-set-lt, drop-set-add, drop-append-le, get_or-take, get_or-drop, take-take, take-suc, drop-drop}
use Rattle.theory_base.specs.Slices.{between}
use Rattle.theory_base.proofs.Slices.{taken_sets, sets_past, sets_rest}
use Rattle.theory_base.proofs.Tests.{by_test}

module _ {A : Type 0} where
  pub drop_take : (a b : ℕ) (s : List A) → drop a (take b s) ≡ between a b s
  drop_take zero b s = ap (λ (k : ℕ). take k s) (sym (sub-zero b))
  drop_take (suc a) zero s = let e : 0 - suc a ≡ 0 = omega arith in ap (λ (k : ℕ). take k (drop (suc a) s)) (sym e)
  drop_take (suc a) (suc b) [] = sym (take-nil (suc b - suc a))
  drop_take (suc a) (suc b) (x ∷ s) = let e : suc b - suc a ≡ b - a = omega arith in drop_take a b s ∙ ap (λ (k : ℕ). take k (drop a s)) (sym e)

  pub between_none : (a : ℕ) (s : List A) → between a a s ≡ []
  between_none a s = let e : a - a ≡ 0 = omega arith in ap (λ (i : ℕ). take i (drop a s)) e

  module _ (a b : ℕ) (s : List A) where
    pub length_between : b ≤ length s → length (between a b s) ≡ b - a
    length_between h = length-take-le (b - a) (drop a s) (omega (arith, length-drop a s))

    pub get_d_between : (i : ℕ) (d : A) → i < b - a → get_or (between a b s) i d ≡ get_or s (a + i) d
    get_d_between i d h = get_or-take (b - a) (drop a s) i d h ∙ get_or-drop a s i d

    pub between_snoc : (d : A) → a ≤ b → b < length s → between a (b + 1) s ≡ between a b s ++ (get_or s b d ∷ [])
    between_snoc d h k =
        let e : b + 1 - a ≡ suc (b - a) = omega arith in
        let f : a + (b - a) ≡ b = omega arith in
        ap (λ (i : ℕ). take i (drop a s)) e ∙ take-suc (drop a s) (b - a) d (omega (arith, length-drop a s)) ∙ ap (λ (x : A). between a b s ++ (x ∷ [])) (get_or-drop a s (b - a) d ∙ ap (λ (i : ℕ). get_or s i d) f)

    pub between_then : a ≤ b → drop a s ≡ between a b s ++ drop b s
    between_then h =
        let f : a + (b - a) ≡ b = omega arith in
        sym (take-append-drop (b - a) (drop a s)) ∙ ap (λ (r : List A). between a b s ++ r) (drop-drop (b - a) a s ∙ ap (λ (i : ℕ). drop i s) f)

    -- ---- the list changed

    pub set_between : (i : ℕ) (x : A) → i < b - a → between a b (set s (a + i) x) ≡ set (between a b s) i x
    set_between i x h = ap (take (b - a)) (drop-set-add a s i x) ∙ take-set-lt (b - a) (drop a s) i x h

    -- elements written behind the part
    pub sets_between : (xs : List A) → a ≤ b → b + length xs ≤ length s → between a (b + length xs) (sets s b xs) ≡ between a b s ++ xs
    sets_between xs h l =
        sym (drop_take a (b + length xs) (sets s b xs))
        ∙ ap (drop a) (taken_sets xs s b l)
        ∙ drop-append-le a (take b s) xs (omega (arith, length-take-le b s (omega arith)))
        ∙ ap (λ (r : List A). r ++ xs) (drop_take a b s)

  -- a run written into the rest from a place on, which may lie past the end: a call with `&mut s[to..]` leaves s so
  pub sets_capped : (xs s rest : List A) (at to : ℕ) → to ≡ min at (length s) → rest ≡ sets (take (length s - to) (drop to s)) 0 xs → take to s ++ (rest ++ drop (length s - to) (drop to s)) ≡ sets s at xs
  sets_capped xs s rest at to m e =
      let z : to + 0 ≡ to = omega arith in
      sets_rest xs s rest to 0 e ∙ ap (λ (k : ℕ). sets s k xs) z ∙ by_test (ltb at (length s))
      (λ l. ap (λ (k : ℕ). sets s k xs) (omega (arith, ltb-true at (length s) l)))
      (λ l. sets_past xs s to (omega (arith, ltb-false at (length s) l)) ∙ sym (sets_past xs s at (ltb-false at (length s) l)))

  -- a part of what two lists share at their start
  pub between_same : (a b m : ℕ) (s t : List A) → b ≤ m → take m s ≡ take m t → between a b s ≡ between a b t
  between_same a b m s t h e = sym (drop_take a b s) ∙ ap (drop a) (sym (take-take b m s h) ∙ ap (take b) e ∙ take-take b m t h) ∙ drop_take a b t
