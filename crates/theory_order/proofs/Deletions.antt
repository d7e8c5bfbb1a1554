-- The deletions that end the order form of a choice: each is sound where no other clause holds a literal of the choice.
use mathlib.Core.Path.{◌≡◌, refl, subst}
use mathlib.Core.Logic.{◌≢◌}
use mathlib.Core.List.Memᴰ.{head as here}
use mathlib.Core.List.Memᴰ.{tail as there}
use mathlib.Core.List.{List, [], ◌∷◌, ◌++◌, Memᴰ, map}
use Prim.Native.Nat.{ℕ, suc, ◌≤◌, ◌<◌}
use native.Mathlib.Omega.{arith}
use lib.IntN.{ℤ, pos, negsuc, neg_ℤ, neg_ℤ-neg_ℤ, nat_abs}
use Rattle.definition.specs.Lists.{count}
use Rattle.definition.specs.Literals.{Clause, Formula}
use Rattle.definition.specs.Standing.{Line, deletion}
use Rattle.definition.specs.Assignments.{Assignment, true_in, trues, make_true}
use Rattle.definition.specs.Events.{Choice, Event}
use Rattle.theory_base.proofs.Tests.{bit_not}
use Rattle.theory_base.proofs.Members.{own, far, turn, natAbs_neg}
use Rattle.theory_base.specs.Clauses.{Proper, Absent}
use Rattle.theory_base.proofs.Trues.{unmoved, trues_cons, trues_same, hit_in, Sat}
use Rattle.theory_base.proofs.Fitting.{UpTo}
use Rattle.theory_soundness.proofs.Sound.{Sound}
use Rattle.theory_soundness.proofs.Rules.{Clear, negation_only, del_first, del_blocked}
use Rattle.theory_soundness.proofs.Removals.{Removes, none_left, next, removes_split, each_of, absent_before}
use Rattle.theory_soundness.proofs.Written.{Every, every, InNone, in_none}
use Rattle.theory_counter.proofs.CounterClauses.{Written, written}
use Rattle.theory_counter.specs.Ready.{WellFormed}
use Rattle.theory_order.proofs.Recursive.{link_deletions, deletions_from, deletions, deletions_is}

-- ---- one literal: the clause with it, then those with its negation
abbrev pub each_first : ℤ → List Clause → Formula
each_first l N = map (λ q. l ∷ q) N

-- no literal of the clause has this variable
abbrev Away : ℤ → Clause → Type 0
Away l c = (x : ℤ) → Memᴰ x c → nat_abs x ≢ nat_abs l

abbrev AllAway : ℤ → List Clause → Type 0
AllAway l N = (q : Clause) → Memᴰ q N → Away l q

away_first : (l k : ℤ) (N : List Clause) → l ≢ k → AllAway l N → Absent l (each_first k N)
away_first l k (q ∷ N) z w d (here i) m = go (rw i at m)
  where
    go : Memᴰ l (k ∷ q) → ⊥
    go (here e) = z e
    go (there n) = w q (here refl) l n refl
away_first l k (q ∷ N) z w d (there i) m = away_first l k N z (λ x y. w x (there y)) d i m
away_first l k [] z w d x4 m = elim x4 [ ]

others_hold : (σ : Assignment) (l k : ℤ) (N : List Clause) → AllAway l N → Sat σ N → (d : Clause) → Memᴰ d (each_first k N) → 1 ≤ trues (make_true l σ) d
unfolding trues count
others_hold σ l k (q ∷ N) w s d (here i) = rw i (omega (arith, s.0, trues_same σ (make_true l σ) q (λ x m. unmoved l x σ (w q (here refl) x m))))
others_hold σ l k (q ∷ N) w s d (there i) = others_hold σ l k N (λ x y. w x (there y)) s.1 d i
others_hold σ l k [] w s d x3 = elim x3 [ ]

module _ {H : Formula} {K L : List Event} {xs : List Line} (l : ℤ) (z : l ≢ pos 0) (k : Clear l K) where
  negations_deleted : {F G : Formula} (N : List Clause) → AllAway l N → Removes F (each_first (neg_ℤ l) N) G → Absent l G →
      Sound G K xs H L → Sound F K (map deletion (each_first (neg_ℤ l) N) ++ xs) H L
  negations_deleted [] w none_left g s = s
  negations_deleted (q ∷ N) w (next e r) g s =
      del_blocked e
      (rw neg_ℤ-neg_ℤ (absent_before l r (away_first l (neg_ℤ l) N (own l z) (λ x y. w x (there y))) g))
      (λ d m x y. rw natAbs_neg (k d m x y))
      (negations_deleted N (λ x y. w x (there y)) r g s)

  literal_deleted : {F G : Formula} (p : Clause) (N : List Clause) → AllAway l N → ((σ : Assignment) → trues σ p ≡ 0 → Sat σ N) →
      Removes F ((l ∷ p) ∷ each_first (neg_ℤ l) N) G → Absent l G → Absent (neg_ℤ l) G →
      Sound G K xs H L → Sound F K (map deletion ((l ∷ p) ∷ each_first (neg_ℤ l) N) ++ xs) H L
  literal_deleted {F} {G} p N w holds_rest (next {E = E} e r) g n s =
      del_first e
      (λ σ t o. negation_only σ l E t
      (each_of (λ d. Memᴰ (neg_ℤ l) d → 1 ≤ trues (make_true l σ) d) (λ c d i h m. hit_in (make_true l σ) c d i.0 (h (i.1 (neg_ℤ l) m)))
      r (λ d i m. others_hold σ l (neg_ℤ l) N w (holds_rest σ (omega (arith, trues_cons σ l p))) d i) (λ d i m. absurd (n d i m))))
      k
      (negations_deleted N w r g s)

-- ---- all literals of the choice, one after the other

-- a literal of a variable up to h that is neither in c nor the negation of one in c stands in none of the deletions of c
pub strange : (l : ℤ) (h : ℕ) (c : Clause) → nat_abs l ≤ h → (Memᴰ l c → ⊥) → (Memᴰ (neg_ℤ l) c → ⊥) → InNone l (link_deletions h c)
strange l h [] b n p = tt
strange l h (m ∷ []) b n p =
    ((λ e. n (here e), (far l (pos (suc h)) (omega arith), tt)), ((λ e. p (here (turn l m e)), (far l (negsuc h) (omega arith), tt)), tt))
strange l h (m ∷ k ∷ c) b n p = (
  (λ e. n (here e), (far l (negsuc (suc h)) (omega arith), (far l (pos (suc h)) (omega arith), tt))),
  (
    (λ e. p (here (turn l m e)), (far l (pos (suc (suc h))) (omega arith), tt)),
    (
      (λ e. p (here (turn l m e)), (far l (negsuc h) (omega arith), tt)),
      strange l (suc h) (k ∷ c) (omega arith) (λ i. n (there i)) (λ i. p (there i)),
    ),
  ),
)

-- clauses of higher variables only
abbrev Highers : ℤ → List Clause → Type 0
Highers l N = Every (λ x. nat_abs l < nat_abs x) N

highers_away : (l : ℤ) (N : List Clause) → Highers l N → AllAway l N
highers_away l N h q i x j e = omega (arith, every (λ x. nat_abs l < nat_abs x) N h q i x j)

-- the literals of the choice and their negations stand in no clause of G
abbrev pub Gone : Clause → Formula → Type 0
Gone c G = (x : ℤ) → Memᴰ x c → Absent x G × Absent (neg_ℤ x) G

abbrev pub ClearAll : Clause → List Event → Type 0
ClearAll c K = (x : ℤ) → Memᴰ x c → Clear x K

-- one literal and then those of c: both it and its negation are absent once its own clauses are gone
literal_first : {F G H : Formula} {K L : List Event} {ys : List Line} (l : ℤ) (p : Clause) (N : List Clause) (h : ℕ) (c : Clause) → Proper (l ∷ c) → nat_abs l ≤ h →
    Highers l N → ((σ : Assignment) → trues σ p ≡ 0 → Sat σ N) → Gone (l ∷ c) G → Clear l K →
    Removes F (((l ∷ p) ∷ each_first (neg_ℤ l) N) ++ link_deletions h c) G →
    ((E : Formula) → Removes E (link_deletions h c) G → Sound E K ys H L) →
    Sound F K (map deletion ((l ∷ p) ∷ each_first (neg_ℤ l) N) ++ ys) H L
literal_first l p N h c a b w holds_rest g k r s =
    let t = removes_split ((l ∷ p) ∷ each_first (neg_ℤ l) N) (link_deletions h c) r in
    literal_deleted l a.0 k p N (highers_away l N w) holds_rest t.1
    (absent_before l t.2 (in_none l (link_deletions h c) (strange l h c b a.1 a.2)) (g l (here refl)).0)
    (absent_before (neg_ℤ l) t.2 (in_none (neg_ℤ l) (link_deletions h c) (strange (neg_ℤ l) h c (rw natAbs_neg b) a.2 (rw neg_ℤ-neg_ℤ a.1))) (g l (here refl)).1)
    (s t.0 t.2)

module _ {H : Formula} {K L : List Event} {xs : List Line} where
  none_deleted : {E G : Formula} → Removes E [] G → Sound G K xs H L → Sound E K xs H L
  none_deleted none_left s = s

  links_sound : {F G : Formula} (h : ℕ) (m : ℤ) (c : Clause) → Proper (m ∷ c) → UpTo h (m ∷ c) → Gone (m ∷ c) G → ClearAll (m ∷ c) K →
      Removes F (link_deletions h (m ∷ c)) G → Sound G K xs H L → Sound F K (map deletion (link_deletions h (m ∷ c)) ++ xs) H L
  unfolding trues count true_in
  links_sound h m [] a b g k r s =
      let o = b m (here refl) in
      literal_first m (pos (suc h) ∷ []) ((negsuc h ∷ []) ∷ []) h [] a o (((omega arith), tt), tt)
      (λ σ q. (omega (arith, bit_not (σ (suc h))), tt)) g (k m (here refl)) r (λ E t. none_deleted t s)
  links_sound h m (y ∷ c) a b g k r s =
      let o = b m (here refl) in
      literal_first m (negsuc (suc h) ∷ pos (suc h) ∷ []) ((pos (suc (suc h)) ∷ []) ∷ (negsuc h ∷ []) ∷ []) (suc h) (y ∷ c) a (omega arith)
      ((omega arith, tt), ((omega arith, tt), tt))
      (λ σ q. (omega (arith, bit_not (σ (suc (suc h)))), (omega (arith, bit_not (σ (suc h))), tt))) g (k m (here refl)) r
      (λ E t. links_sound (suc h) y c a.3 (λ x i. omega (arith, b x (there i))) (λ x i. g x (there i)) (λ x i. k x (there i)) t s)

  pub deletions_sound : {F G : Formula} (h : ℕ) (l m : ℤ) (c : Clause) → Proper (l ∷ m ∷ c) → UpTo h (l ∷ m ∷ c) → Gone (l ∷ m ∷ c) G → ClearAll (l ∷ m ∷ c) K →
      Removes F (deletions_from h l (m ∷ c)) G → Sound G K xs H L → Sound F K (map deletion (deletions_from h l (m ∷ c)) ++ xs) H L
  unfolding trues count true_in
  deletions_sound h l m c a b g k r s =
      let o = b l (here refl) in
      literal_first l (negsuc h ∷ []) ((pos (suc h) ∷ []) ∷ []) h (m ∷ c) a o ((omega arith, tt), tt)
      (λ σ q. (omega (arith, bit_not (σ (suc h))), tt)) g (k l (here refl)) r
      (λ E t. links_sound h m c a.3 (λ x i. b x (there i)) (λ x i. g x (there i)) (λ x i. k x (there i)) t s)

-- ---- in the definition's words
module _ (k : Choice) (u : WellFormed k) where
  w : Written k
  w = written k u.long

  pub literals_deleted_sound : {F G H : Formula} {K L : List Event} {xs : List Line} → Gone k.literals G → ClearAll k.literals K →
      Removes F (deletions k) G → Sound G K xs H L → Sound F K (map deletion (deletions k) ++ xs) H L
  literals_deleted_sound {F} {G} {H} {K} {L} {xs} g q r s =
      let e = deletions_is w in
      rw e
      (deletions_sound k.below w.one w.two w.others (rw w.are at u.proper) (subst (UpTo k.below) w.are (λ x i. (u.fit x i).1))
      (rw w.are at g) (rw w.are at q) (rw e at r) s)

  pub deletions_absent : (x : ℤ) → nat_abs x ≤ k.below → (Memᴰ x k.literals → ⊥) → (Memᴰ (neg_ℤ x) k.literals → ⊥) → Absent x (deletions k)
  deletions_absent x b n p =
      rw (deletions_is w)
      (deletions_from_absent (rw w.are at n) (rw w.are at p))
    where
      deletions_from_absent : (Memᴰ x (w.one ∷ w.two ∷ w.others) → ⊥) → (Memᴰ (neg_ℤ x) (w.one ∷ w.two ∷ w.others) → ⊥) →
          Absent x (deletions_from k.below w.one (w.two ∷ w.others))
      deletions_from_absent n p =
          in_none x (deletions_from k.below w.one (w.two ∷ w.others)) (
            (λ e. n (here e), (far x (negsuc k.below) (omega arith), tt)),
            (
              (λ e. p (here (turn x w.one e)), (far x (pos (suc k.below)) (omega arith), tt)),
              strange x k.below (w.two ∷ w.others) b (λ i. n (there i)) (λ i. p (there i)),
            ),
          )
