-- The table of weights: what one clash does to it by the entries, and that all weights together grow by 1 where a clause goes. Assumes nothing.
use mathlib.Core.Path.{◌≡◌, refl, sym, ap, ap₂, subst, ◌∙◌}
use mathlib.Core.Logic.{◌≢◌, ◌⊎◌, inl, inr, ⊎_elim}
use mathlib.Core.Bool.{true, false}
use mathlib.Core.List.Memᴰ
use mathlib.Core.List.Memᴰ.{head as here}
use mathlib.Core.List.{List, [], ◌∷◌, ◌++◌, Memᴰ}
use Prim.Native.Nat.{ℕ, zero, suc, ◌+◌, ◌≤◌, ◌<◌, ◌^◌}
use native.Mathlib.Omega.{arith}
use lib.IntN.{ℤ, pos, neg_ℤ}
use lib.ListN.{length, get_or, set, length-set, replicate, length-replicate}
use lib.Seq.{get_or-set_same}
use Rattle.definition.specs.Lists.{sum_of}
use Rattle.definition.specs.Literals.{Clause, Formula, opposed}
use Rattle.definition.specs.Standing.{after}
use Rattle.definition.specs.Events.{Clash, Event, clash_cleared}
use Rattle.definition.specs.Clearing.{resolvent, clash_lines}
use Rattle.definition.specs.Reencoding.{resolved_into}
use Rattle.theory_base.specs.Clauses.{ProperAll, Fit, Fits}
use Rattle.theory_base.proofs.Members.{own}
use Rattle.theory_base.proofs.Sums.{sum_none}
use Rattle.theory_base.proofs.Loops.{replicate_mem}
use Rattle.theory_clearing.proofs.Clash.{IsClash, resolvent_parents, after_shorter, v_unresolved, negation_unresolved}
use Rattle.theory_clearing.proofs.Weights.{weighs_kept, weighs_given, resolved-++}
use Rattle.literals.specs.Literal.{index_of}
use Rattle.literals.proofs.Laws.{signed_small}
use Rattle.tables.specs.Sizes.{input_reach, input_size}
use Rattle.tables.specs.Entries.{entry_of}
use Rattle.tables.proofs.Laws.{index_inside, entry_set_other, entry_zeros}
use Rattle.pass_clashes.specs.Weights.{Weighed, given, reweighed, weight, Light, Reweighs}

-- ---- all weights together
weight_set : (w : List ℕ) (i n : ℕ) → i < length w → weight (set w i n) + get_or w i 0 ≡ weight w + n
unfolding sum_of
weight_set [] i n h = absurd (omega arith)
weight_set (x ∷ w) zero n h = omega arith
weight_set (x ∷ w) (suc i) n h = omega (arith, weight_set w i n (omega arith))

-- a weight taken away, where the table may have none
weight_taken : (w : List ℕ) (i : ℕ) → weight (set w i 0) + get_or w i 0 ≡ weight w
unfolding sum_of
weight_taken [] i = refl
weight_taken (x ∷ w) zero = omega arith
weight_taken (x ∷ w) (suc i) = omega (arith, weight_taken w i)

entry_within : (w : List ℕ) (l : ℤ) → entry_of w l ≤ weight w
entry_within w l = omega (arith, weight_taken w (index_of l))

weight_zeros : (n : ℕ) → weight (replicate n 0) ≡ 0
weight_zeros n = sum_none (λ n. n) (replicate n 0) (λ x i. replicate_mem n 0 x i)

-- ---- a literal gets the weights of two others
module _ (w : List ℕ) (l k x : ℤ) where
  abbrev t : List ℕ
  t = set w (index_of l) 0

  abbrev u : List ℕ
  u = set t (index_of k) 0

  -- they fit together
  given_within : entry_of w l + entry_of t k + entry_of u x ≤ weight w
  given_within = omega (arith, weight_taken w (index_of l), weight_taken t (index_of k), entry_within u x)

  given_size : length (given w l k x) ≡ length w
  given_size = length-set u (index_of x) _ ∙ length-set t (index_of k) 0 ∙ length-set w (index_of l) 0

  given_other : (y : ℤ) → y ≢ x → y ≢ l → y ≢ k → entry_of (given w l k x) y ≡ entry_of w y
  given_other y a b c = entry_set_other u _ x y a ∙ entry_set_other t 0 k y c ∙ entry_set_other w 0 l y b

  module _ (h : index_of x < length w) where
    inside : index_of x < length u
    inside = omega (arith, h, length-set t (index_of k) 0, length-set w (index_of l) 0)

    given_weight : weight (given w l k x) ≡ weight w + 1
    given_weight = omega (arith, weight_set u (index_of x) (entry_of w l + entry_of t k + entry_of u x + 1) inside, weight_taken w (index_of l), weight_taken t (index_of k))

    given_first : k ≢ l → x ≢ l → x ≢ k → entry_of (given w l k x) x ≡ entry_of w x + entry_of w l + entry_of w k + 1
    given_first a b c =
        omega (
          arith,
          get_or-set_same u (index_of x) (entry_of w l + entry_of t k + entry_of u x + 1) 0 inside,
          entry_set_other w 0 l k a,
          entry_set_other t 0 k x c,
          entry_set_other w 0 l x b,
        )

  -- by what the calls answer
  module _ {s r : List ℕ} {a b n : ℕ} (d : a ≡ entry_of w l) (e : s ≡ t) (f : b ≡ entry_of s k) (g : r ≡ set s (index_of k) 0) (h : n ≡ entry_of r x) where
    left_is : r ≡ u
    left_is = g ∙ ap (λ (q : List ℕ). set q (index_of k) 0) e

    sum_is : a + b + n ≡ entry_of w l + entry_of t k + entry_of u x
    sum_is = omega (arith, d, f ∙ ap (λ (q : List ℕ). entry_of q k) e, h ∙ ap (λ (q : List ℕ). entry_of q x) left_is)

    pub answers_within : a + b + n ≤ weight w
    answers_within = omega (arith, sum_is, given_within)

-- ---- one clash
module _ (F : Formula) (v : ℕ) (one other : Clause) where
  abbrev c : Clash
  c = record { v = pos v; one = one; other = other }

  module _ (p : ProperAll F) (f : Fits input_reach F) (q : IsClash F c) (w : List ℕ) where
    kept_then : (opposed (resolvent c) ≡ true) ⊎ (resolvent c ≡ []) → Reweighs (clash_cleared c ∷ []) F w (after F (clash_lines c)) w
    unfolding resolved_into
    kept_then n = record { counts = λ count h. weighs_kept F c p q count (entry_of w) h n; lighter = omega (arith, after_shorter F c p q); size = refl }

    -- the resolvent is not added
    pub dropped_reweighs : opposed (resolvent c) ≡ true → Reweighs (clash_cleared c ∷ []) F w (after F (clash_lines c)) w
    dropped_reweighs o = kept_then (inl o)

    v_small : Fit input_reach (pos v)
    v_small = f one q.one_stands (pos v) q.one_holds

    module _ (s : length w ≡ input_size) where
      given_then : (x : ℤ) (r : Clause) → resolvent c ≡ x ∷ r → Reweighs (clash_cleared c ∷ []) F w (after F (clash_lines c)) (given w (pos v) (neg_ℤ (pos v)) x)
      unfolding resolved_into
      given_then x r e = record {
        counts = λ count h. weighs_given F c p q count (entry_of w) h (entry_of (given w (pos v) (neg_ℤ (pos v)) x)) x r e
            (given_first w (pos v) (neg_ℤ (pos v)) x inside (λ n. own (pos v) v_small.0 (sym n)) (λ n. v_unresolved F c p q (Memᴰ.cast (sym n) there)) (λ n. negation_unresolved F c p q (Memᴰ.cast (sym n) there)))
            (given_other w (pos v) (neg_ℤ (pos v)) x);
        lighter = omega (arith, given_weight w (pos v) (neg_ℤ (pos v)) x inside, after_shorter F c p q);
        size = given_size w (pos v) (neg_ℤ (pos v)) x;
      }
        where
          there : Memᴰ x (resolvent c)
          there = rw e (here refl)

          inside : index_of x < length w
          inside = index_inside input_reach w x (omega (arith, s))
              (⊎_elim (λ i. (f one q.one_stands x i).1) (λ i. (f other q.other_stands x i).1) (resolvent_parents F c p q x there))

      -- the resolvent is added
      pub added_reweighs : Reweighs (clash_cleared c ∷ []) F w (after F (clash_lines c)) (reweighed w (resolvent c) v)
      added_reweighs = go (resolvent c) refl
        where
          go : (d : Clause) → resolvent c ≡ d → Reweighs (clash_cleared c ∷ []) F w (after F (clash_lines c)) (reweighed w d v)
          go [] e = kept_then (inr e)
          go (x ∷ r) e =
              subst (λ (u : List ℕ). Reweighs (clash_cleared c ∷ []) F w (after F (clash_lines c)) u)
              (ap₂ (λ (l k : ℤ). given w l k x) (sym (signed_small false v (omega (arith, v_small.1)))) (sym (signed_small true v (omega (arith, v_small.1)))))
              (given_then x r e)

-- ---- the loop
pub light_then : {es : List Event} {F G : Formula} {w u : List ℕ} → Light F w → Reweighs es F w G u → Light G u
light_then l r = record { size = r.size ∙ l.size; small = omega (arith, l.small, r.lighter) }

pub reweighs_none : (F : Formula) (w : List ℕ) → Reweighs [] F w F w
unfolding resolved_into
reweighs_none F w = record { counts = λ count h. h; lighter = omega arith; size = refl }

pub reweighs_join : {xs ys : List Event} {F G H : Formula} {w u t : List ℕ} → Reweighs xs F w G u → Reweighs ys G u H t → Reweighs (xs ++ ys) F w H t
reweighs_join {xs} {ys} a b = record {
  counts = λ count h d i k. b.counts (resolved_into count xs) (a.counts count h) d i k ∙ sym (resolved-++ count xs ys d);
  lighter = omega (arith, a.lighter, b.lighter);
  size = b.size ∙ a.size;
}

-- from zeros
pub zeros_light : {F : Formula} {w : List ℕ} → w ≡ replicate input_size 0 → length F < 2 ^ 31 → Light F w
zeros_light e h = record { size = ap length e ∙ length-replicate {A = ℕ} input_size 0; small = omega (arith, ap (λ (t : List ℕ). weight t) e, weight_zeros input_size) }

pub zeros_weighed : {es : List Event} {F G : Formula} {w u : List ℕ} → w ≡ replicate input_size 0 → Reweighs es F w G u → Weighed (resolved_into (λ d. 1) es) (length F) G u
zeros_weighed {w = w} {u = u} e r = record {
  counts = r.counts (λ d. 1) (λ d i k. ap (λ (n : ℕ). n + 1) (sum_none (entry_of w) d (λ x j. ap (λ (t : List ℕ). entry_of t x) e ∙ entry_zeros input_size x)));
  few = λ l. omega (arith, entry_within u l, r.lighter, ap (λ (t : List ℕ). weight t) e, weight_zeros input_size);
}
