-- The order form by recursion along the literals of a choice: `suc h` is the last counter variable before the literal.
use mathlib.Core.Path.{◌≡◌, refl, ◌∙◌, ap}
use mathlib.Core.Bool.{Bool, true, false, cond}
use mathlib.Core.List.{[], ◌∷◌, ◌++◌}
use mathlib.Core.Option.{some, none}
use Prim.Native.Nat.{ℕ, suc, ◌+◌, ◌≤◌, ◌<◌}
use native.Mathlib.Numerals.{add-one}
use native.Mathlib.Omega.{arith}
use lib.IntN.{ℤ, pos, negsuc, neg_ℤ}
use lib.ListN.{length}
use borrow.Author.Tests.{lt-ltb, le-ltb}
use Rattle.definition.specs.Lists.{only_if, for_each, for_from}
use Rattle.definition.specs.Literals.{Clause, Formula, same}
use Rattle.definition.specs.Events.{Choice}
use Rattle.definition.specs.Counter.{size, lit, new}
use Rattle.theory_counter.proofs.CounterClauses.{Written, From, from_next, from_literal, from_new, from_previous, from_second, full_size}
use Rattle.definition.specs.Order.{place_from, previous, negated_new, instead_of, replaced, deletions_of}

-- ---- what stands for a literal
abbrev pub link_instead : ℕ → Clause → ℤ → Clause
link_instead h [] x = x ∷ []
link_instead h (m ∷ []) x = cond (same (neg_ℤ x) m) (pos (suc h) ∷ []) (x ∷ [])
link_instead h (m ∷ n ∷ c) x = cond (same (neg_ℤ x) m) (pos (suc h) ∷ negsuc (suc h) ∷ []) (link_instead (suc h) (n ∷ c) x)

abbrev pub instead_from : ℕ → ℤ → Clause → ℤ → Clause
instead_from h l c x = cond (same (neg_ℤ x) l) (negsuc h ∷ []) (link_instead h c x)

abbrev pub replaced_from : ℕ → ℤ → Clause → Clause → Clause
replaced_from h l c [] = []
replaced_from h l c (x ∷ d) = instead_from h l c x ++ replaced_from h l c d

-- ---- the clauses that are deleted in the end
abbrev pub link_deletions : ℕ → Clause → Formula
link_deletions h [] = []
link_deletions h (l ∷ []) = (l ∷ pos (suc h) ∷ []) ∷ (neg_ℤ l ∷ negsuc h ∷ []) ∷ []
link_deletions h (l ∷ m ∷ c) =
    (l ∷ negsuc (suc h) ∷ pos (suc h) ∷ [])
    ∷ (neg_ℤ l ∷ pos (suc (suc h)) ∷ [])
    ∷ (neg_ℤ l ∷ negsuc h ∷ [])
    ∷ link_deletions (suc h) (m ∷ c)

abbrev pub deletions_from : ℕ → ℤ → Clause → Formula
deletions_from h l c = (l ∷ negsuc h ∷ []) ∷ (neg_ℤ l ∷ pos (suc h) ∷ []) ∷ link_deletions h c

-- the clauses that the definition deletes in the end
abbrev pub deletions : Choice → Formula
deletions k = for_from 1 (size k) (deletions_of k)

-- ---- the definition writes them by index
module _ (k : Choice) where
  no_negated_new : (i : ℕ) → size k ≤ i → negated_new k i ≡ []
  unfolding negated_new only_if
  no_negated_new i b = rw (le-ltb i (size k) b)

  module _ {j h : ℕ} {c : Clause} (f : From k (suc (suc j)) h c) where
    previous_is : previous k (suc (suc j)) ≡ pos (suc h) ∷ []
    unfolding previous only_if
    previous_is = rw (lt-ltb 1 (suc (suc j)) (omega arith), from_previous k f)

    negated_new_is : suc (suc j) < size k → negated_new k (suc (suc j)) ≡ negsuc (suc h) ∷ []
    unfolding negated_new only_if
    negated_new_is b = rw (lt-ltb (suc (suc j)) (size k) b, from_new k f)

  module _ {j h : ℕ} {n : ℤ} {c : Clause} (f : From k (suc (suc j)) h (n ∷ c)) where
    last_deletions : size k ≡ suc (suc j) → deletions_of k (suc (suc j)) ≡ (n ∷ pos (suc h) ∷ []) ∷ (neg_ℤ n ∷ negsuc h ∷ []) ∷ []
    unfolding deletions_of only_if
    last_deletions e =
        rw (from_literal k f, previous_is f, no_negated_new (suc (suc j)) (omega arith), le-ltb (suc (suc j)) (size k) (omega arith), lt-ltb 1 (suc (suc j)) (omega arith), from_previous k f)

    inner_deletions : suc (suc j) < size k →
        deletions_of k (suc (suc j)) ≡ (n ∷ negsuc (suc h) ∷ pos (suc h) ∷ []) ∷ (neg_ℤ n ∷ pos (suc (suc h)) ∷ []) ∷ (neg_ℤ n ∷ negsuc h ∷ []) ∷ []
    unfolding deletions_of only_if
    inner_deletions b =
        rw (from_literal k f, previous_is f, negated_new_is f b, lt-ltb (suc (suc j)) (size k) b, lt-ltb 1 (suc (suc j)) (omega arith), from_new k f, from_previous k f)

  links_replaced : (j h : ℕ) (c : Clause) (x : ℤ) → size k ≡ suc j + length c → From k (suc (suc j)) h c →
      instead_of k x (place_from (suc (suc j)) (neg_ℤ x) c) ≡ link_instead h c x
  unfolding place_from instead_of
  links_replaced j h [] x e f = refl
  links_replaced j h (m ∷ []) x e f = go (same (neg_ℤ x) m)
    where
      go : (b : Bool) → instead_of k x (cond b (some (suc (suc j))) none) ≡ cond b (pos (suc h) ∷ []) (x ∷ [])
      go true = rw (previous_is f, no_negated_new (suc (suc j)) (omega arith))
      go false = refl
  links_replaced j h (m ∷ n ∷ c) x e f = go (same (neg_ℤ x) m) (links_replaced (suc j) (suc h) (n ∷ c) x (omega arith) (from_next k f))
    where
      go : (b : Bool) → instead_of k x (place_from (suc (suc (suc j))) (neg_ℤ x) (n ∷ c)) ≡ link_instead (suc h) (n ∷ c) x →
          instead_of k x (cond b (some (suc (suc j))) (place_from (suc (suc (suc j))) (neg_ℤ x) (n ∷ c)))
          ≡ cond b (pos (suc h) ∷ negsuc (suc h) ∷ []) (link_instead (suc h) (n ∷ c) x)
      go true ih = rw (previous_is f, negated_new_is f (omega arith))
      go false ih = ih

  links_deleted : (j h : ℕ) (c : Clause) → size k ≡ suc j + length c → From k (suc (suc j)) h c →
      for_from (suc (suc j)) (length c) (deletions_of k) ≡ link_deletions h c
  unfolding for_from
  links_deleted j h [] e f = refl
  links_deleted j h (n ∷ []) e f = rw (last_deletions f (omega arith))
  links_deleted j h (n ∷ o ∷ c) e f = rw (inner_deletions f (omega arith), links_deleted (suc j) (suc h) (o ∷ c) (omega arith) (from_next k f))

module _ (k : Choice) (l m : ℤ) (c : Clause) (e : k.literals ≡ l ∷ m ∷ c) where
  enough : 1 < size k
  enough = omega (arith, full_size k l m c e)

  first_negated : negated_new k 1 ≡ negsuc k.below ∷ []
  unfolding negated_new only_if new
  first_negated = rw (lt-ltb 1 (size k) enough, add-one k.below)

  instead_recursive : (x : ℤ) → instead_of k x (place_from 1 (neg_ℤ x) k.literals) ≡ instead_from k.below l (m ∷ c) x
  unfolding place_from instead_of previous only_if
  instead_recursive x =
      ap (λ (s : Clause). instead_of k x (place_from 1 (neg_ℤ x) s)) e
      ∙ go (same (neg_ℤ x) l) (links_replaced k 0 k.below (m ∷ c) x (omega (arith, full_size k l m c e)) (from_second k l m c e))
    where
      go : (b : Bool) → instead_of k x (place_from 2 (neg_ℤ x) (m ∷ c)) ≡ link_instead k.below (m ∷ c) x →
          instead_of k x (cond b (some 1) (place_from 2 (neg_ℤ x) (m ∷ c))) ≡ cond b (negsuc k.below ∷ []) (link_instead k.below (m ∷ c) x)
      go true ih = first_negated
      go false ih = ih

  replaced_recursive : (d : Clause) → replaced k d ≡ replaced_from k.below l (m ∷ c) d
  unfolding replaced for_each
  replaced_recursive [] = refl
  replaced_recursive (x ∷ d) = rw (instead_recursive x, replaced_recursive d)

  first_deletions : deletions_of k 1 ≡ (l ∷ negsuc k.below ∷ []) ∷ (neg_ℤ l ∷ pos (suc k.below) ∷ []) ∷ []
  unfolding deletions_of previous only_if new lit
  first_deletions = rw (first_negated, lt-ltb 1 (size k) enough, add-one k.below, e)

  deletions_recursive : deletions k ≡ deletions_from k.below l (m ∷ c)
  unfolding for_from
  deletions_recursive =
      let s : size k ≡ suc (suc (length c)) = omega (arith, full_size k l m c e) in
      rw (s, first_deletions, links_deleted k 0 k.below (m ∷ c) (omega (arith, full_size k l m c e)) (from_second k l m c e))

-- by the literals written out
module _ {k : Choice} (w : Written k) where
  pub replaced_is : (d : Clause) → replaced k d ≡ replaced_from k.below w.one (w.two ∷ w.others) d
  replaced_is = replaced_recursive k w.one w.two w.others w.are

  pub deletions_is : deletions k ≡ deletions_from k.below w.one (w.two ∷ w.others)
  deletions_is = deletions_recursive k w.one w.two w.others w.are
