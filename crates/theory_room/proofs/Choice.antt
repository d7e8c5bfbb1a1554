-- The clauses of one choice, its pairs and its counter clauses, are proper. Assumes that its literals are.
use mathlib.Core.Path.{◌≡◌, sym, ◌∙◌, ap}
use mathlib.Core.Logic.{◌≢◌, ⊎_elim}
use mathlib.Core.List.Memᴰ
use mathlib.Core.List.{[], ◌∷◌, Memᴰ}
use Prim.Native.Nat.{ℕ, ◌+◌, suc, ◌-◌, ◌≤◌, ◌<◌}
use native.Mathlib.Omega.{arith}
use lib.ListN.{length}
use lib.IntN.{ℤ, pos, negsuc, neg_ℤ, nat_abs}
use Rattle.definition.specs.Literals.{Clause}
use Rattle.definition.specs.Events.{Choice}
use Rattle.definition.specs.Counter.{last_new, pairs, size, lit, counter}
use Rattle.theory_base.proofs.Members.{natAbs_neg, proper_unopposed, same_variable}
use Rattle.theory_base.proofs.Loops.{getD_mem}
use Rattle.theory_base.proofs.Fitting.{ProperTo, Between, fit_between, literal_between, negated_between, two_to, three_to}
use Rattle.theory_base.proofs.Replay.{AllClauses}
use Rattle.theory_soundness.proofs.Written.{Each, each, of_each, each-++}
use Rattle.theory_counter.proofs.CounterClauses.{stage_2_from, stage_3_from, counter_from, Written, written, counter_is}
use Rattle.theory_counter.specs.Ready.{WellFormed}
use Rattle.theory_counter.proofs.Pairs.{pair_form}
use Rattle.theory_order.proofs.Recursive.{link_deletions, deletions_from, deletions, deletions_is}

-- ---- the pairs
pub pairs_to : (h : ℕ) (l : Clause) → ProperTo h l → AllClauses (ProperTo h) (pairs l)
pairs_to h l p d m =
    let r = pair_form l p.0 d m in
    let a = literal_between p r.one r.one_in in
    let b = literal_between p r.two r.two_in in
    rw r.is
    (two_to h (neg_ℤ r.one) (neg_ℤ r.two) (negated_between 1 h r.one a) (negated_between 1 h r.two b)
    (λ e. other r.one r.two r.one_in r.two_in r.differ (sym (natAbs_neg r.one) ∙ e ∙ natAbs_neg r.two)))
  where
    other : (x y : ℤ) → Memᴰ x l → Memᴰ y l → y ≢ x → nat_abs x ≢ nat_abs y
    other x y i j n e = ⊎_elim (λ q. n (sym q)) (λ q. proper_unopposed l p.0 y j (Memᴰ.cast (sym q) i)) (same_variable x y e)

-- ---- the counter clauses
pub lit_mem : (c : Choice) (i : ℕ) → 1 ≤ i → i ≤ size c → Memᴰ (lit c i) c.literals
unfolding size lit
lit_mem c i a b = getD_mem c.literals (i - 1) (pos 0) (omega arith)

-- clauses of a choice's literal, whose variable is up to h, and of counter literals
module _ (g h : ℕ) where
  two : (x y : ℤ) → 1 ≤ nat_abs x → nat_abs x < nat_abs y → nat_abs y ≤ g → ProperTo g (x ∷ y ∷ []) × ProperTo g (y ∷ x ∷ [])
  two x y a b c = (two_to g x y (a, omega arith) (omega arith, c) (λ e. omega arith), two_to g y x (omega arith, c) (a, omega arith) (λ e. omega arith))

  -- those of the counter, and those that the order form deletes
  links_to : (n : ℕ) (m : ℤ) (c : Clause) → h ≤ n → n + length (m ∷ c) ≤ g → Each (Between 1 h) (m ∷ c) →
      Each (ProperTo g) (stage_2_from n (m ∷ c)) × Each (ProperTo g) (stage_3_from n (m ∷ c)) × Each (ProperTo g) (link_deletions n (m ∷ c))
  links_to n m [] a b f =
      let o = f.0 in
      let q = negated_between 1 h m o in
      let p = two m (pos (suc n)) o.0 (omega arith) (omega arith) in
      let r = two (neg_ℤ m) (negsuc n) q.0 (omega arith) (omega arith) in
      (tt, (r.0, (p.1, tt)), (p.0, (r.0, tt)))
  links_to n m (k ∷ c) a b f =
      let o = f.0 in
      let q = negated_between 1 h m o in
      let p = two (neg_ℤ m) (pos (suc (suc n))) q.0 (omega arith) (omega arith) in
      let r = two (neg_ℤ m) (negsuc n) q.0 (omega arith) (omega arith) in
      let t = two (negsuc n) (pos (suc (suc n))) (omega arith) (omega arith) (omega arith) in
      let u = three_to g (negsuc (suc n)) (pos (suc n)) m (omega arith, omega arith) (omega arith, omega arith) (o.0, omega arith) (λ e. omega arith) (λ e. omega arith) (λ e. omega arith) in
      let v = three_to g m (negsuc (suc n)) (pos (suc n)) (o.0, omega arith) (omega arith, omega arith) (omega arith, omega arith) (λ e. omega arith) (λ e. omega arith) (λ e. omega arith) in
      let i = links_to (suc n) k c (omega arith) (omega arith) f.1 in
      ((u, (t.1, (p.1, i.0))), (r.0, i.1), (v, (p.0, (r.0, i.2))))

module _ (c : Choice) (u : WellFormed c) where
  w : Written c
  w = written c u.long

  g : ℕ
  g = c.below + length (w.two ∷ w.others)

  last_is : last_new c ≡ g
  unfolding last_new g
  last_is = omega (arith, ap length w.are)

  old : Each (Between 1 c.below) (w.one ∷ w.two ∷ w.others)
  old = rw w.are at (of_each (Between 1 c.below) c.literals (λ x i. fit_between c.below x (u.fit x i)))

  pub counter_clause : AllClauses (ProperTo (last_new c)) (counter c)
  unfolding g
  counter_clause =
      let n = c.below in
      let o = old.0 in
      let q = negated_between 1 n w.one o in
      let r = links_to g n n w.two w.others (omega arith) (omega arith) old.1 in
      rw (last_is, counter_is w)
      (each (ProperTo g) (counter_from n w.one (w.two ∷ w.others))
      ((two g n w.one (negsuc n) o.0 (omega arith) (omega arith)).1, ((two g n (neg_ℤ w.one) (pos (suc n)) q.0 (omega arith) (omega arith)).1, each-++ (ProperTo g) (stage_2_from n (w.two ∷ w.others)) (stage_3_from n (w.two ∷ w.others)) r.0 r.1)))

  pub deletions_clause : AllClauses (ProperTo (last_new c)) (deletions c)
  unfolding g
  deletions_clause =
      let n = c.below in
      let o = old.0 in
      let q = negated_between 1 n w.one o in
      rw (last_is, deletions_is w)
      (each (ProperTo g) (deletions_from n w.one (w.two ∷ w.others))
      ((two g n w.one (negsuc n) o.0 (omega arith) (omega arith)).0, ((two g n (neg_ℤ w.one) (pos (suc n)) q.0 (omega arith) (omega arith)).0, (links_to g n n w.two w.others (omega arith) (omega arith) old.1).2)))
