-- Stages 2 and 3 may be added, and the counter clauses say that exactly one literal is true.
use mathlib.Core.Path.{◌≡◌, refl, sym, ap, subst}
use mathlib.Core.Logic.{◌⊎◌, inl, inr, ⊎_elim}
use mathlib.Core.List.Memᴰ
use mathlib.Core.List.Memᴰ.{head as here}
use mathlib.Core.List.Memᴰ.{tail as there}
use mathlib.Core.List.{List, [], ◌∷◌, ◌++◌, map, Memᴰ, append_assoc, append-nil, map-append}
use Prim.Native.Nat.{ℕ, suc, ◌≤◌}
use native.Mathlib.Omega.{arith}
use lib.IntN.{ℤ, pos, negsuc, neg_ℤ, neg_ℤ-neg_ℤ, nat_abs}
use Rattle.definition.specs.Lists.{bit, count}
use Rattle.definition.specs.Literals.{Clause, Formula}
use Rattle.definition.specs.Standing.{Line, addition}
use Rattle.definition.specs.Assignments.{Assignment, true_in, trues, make_true}
use Rattle.definition.specs.Events.{Event}
use Rattle.theory_base.proofs.Tests.{bit_not}
use Rattle.theory_base.proofs.Members.{own, far, natAbs_neg}
use Rattle.theory_base.specs.Clauses.{Within, Proper, Fit, Fits, Absent, FitAll}
use Rattle.theory_base.proofs.Trues.{negated, unmoved, trues_at, hit_in, Sat, sat_left, sat_right}
use Rattle.theory_base.proofs.Removal.{Removed, split, sat_of}
use Rattle.theory_soundness.proofs.Sound.{Sound}
use Rattle.theory_soundness.proofs.Rules.{stays, negation_only, absent_stays, add_first, add_implied}
use Rattle.theory_soundness.proofs.Written.{every, not_in, in_none}
use Rattle.theory_counter.proofs.CounterClauses.{stage_2_from, stage_3_from, counter_from}
use Rattle.theory_base.proofs.Fitting.{fit_neg, fit_pos, fit_negsuc, fit_up, fits_up, fits-++, above}
use Rattle.theory_counter.proofs.CounterLiterals.{stages_absent}

-- ---- the counter clauses say: exactly one
counted : (σ : Assignment) (h : ℕ) (m : ℤ) (c : Clause) → Proper (m ∷ c) → Sat σ (stage_2_from h (m ∷ c)) → Sat σ (stage_3_from h (m ∷ c)) → trues σ (pos (suc h) ∷ m ∷ c) ≡ 1
unfolding trues count true_in
counted σ h m [] p s t = omega (arith, negated σ m p.0, bit_not (σ (suc h)))
counted σ h m (k ∷ c) p s t =
    omega (
      arith,
      counted σ (suc h) k c p.3 s.1.1.1 t.1,
      negated σ m p.0,
      bit_not (σ (suc h)),
      bit_not (σ (suc (suc h))),
      s.0,
      s.1.0,
      s.1.1.0,
      t.0,
    )

pub counter_one : (σ : Assignment) (h : ℕ) (l m : ℤ) (c : Clause) → Proper (l ∷ m ∷ c) → Sat σ (counter_from h l (m ∷ c)) → trues σ (l ∷ m ∷ c) ≡ 1
unfolding trues count true_in
counter_one σ h l m c p s =
    let u = sat_left σ (stage_2_from h (m ∷ c)) (stage_3_from h (m ∷ c)) s.1.1 in
    let v = sat_right σ (stage_2_from h (m ∷ c)) (stage_3_from h (m ∷ c)) s.1.1 in
    omega (arith, counted σ h m c p.3 u v, negated σ l p.0, bit_not (σ (suc h)), s.0, s.1.0)

-- ---- stage 2: a new variable, h + 1; the only clauses with its negation hold the literal that forces it
upper : (h : ℕ) (F : Formula) (y : ℤ) → Fit h y → ((d : Clause) → Memᴰ d F → Memᴰ (negsuc h) d → Memᴰ y d) →
    (σ : Assignment) → Sat σ F → trues σ (pos (suc h) ∷ neg_ℤ y ∷ []) ≡ 0 → Sat (make_true (pos (suc h)) σ) F
unfolding trues count
upper h F y f w σ s o =
    negation_only σ (pos (suc h)) F s (λ d i m. omega (arith, negated σ y f.0, ap bit (unmoved (pos (suc h)) y σ (λ e. omega (arith, f.1))), trues_at (make_true (pos (suc h)) σ) (w d i m)))

-- the clauses of which each says that a literal of ys makes it true
abbrev uppers : ℕ → Clause → Formula
uppers h ys = map (λ y. pos (suc h) ∷ neg_ℤ y ∷ []) ys

module _ {H : Formula} {K L : List Event} {xs : List Line} where
  uppers_added : (h : ℕ) (F : Formula) (ys : Clause) → FitAll h ys → ((y : ℤ) → Memᴰ y ys → (d : Clause) → Memᴰ d F → Memᴰ (negsuc h) d → Memᴰ y d) →
      Sound (F ++ uppers h ys) K xs H L → Sound F K (map addition (uppers h ys) ++ xs) H L
  uppers_added h F [] f w s = subst (λ (X : Formula). Sound X K xs H L) (append-nil F) s
  uppers_added h F (y ∷ ys) f w s =
      add_first (upper h F y (f y (here refl)) (w y (here refl)))
      (uppers_added h (F ++ ((pos (suc h) ∷ neg_ℤ y ∷ []) ∷ [])) ys (λ x i. f x (there i))
      (λ x i d j m. ⊎_elim (λ k. w x (there i) d k m) (λ k. absurd (none (subst (λ (v : Clause). Memᴰ (negsuc h) v) (Memᴰ.eq_of_singleton k) m))) (Memᴰ.append_cases F j))
      (simp append_assoc s))
    where
      none : Memᴰ (negsuc h) (pos (suc h) ∷ neg_ℤ y ∷ []) → ⊥
      none (here e) = let k : ◌≡◌ {A = ℕ} 0 1 = cc in omega arith
      none (there (here e)) = omega (arith, ap nat_abs e, natAbs_neg y, (f y (here refl)).1)
      none (there (there x11)) = elim x11 [ ]

  -- defined by the clause r, which follows from it, and the clauses for the literals of r
  defined : (h : ℕ) (F : Formula) (r : Clause) → Fits h F → FitAll h r →
      Sound (F ++ ((negsuc h ∷ r) ∷ uppers h r)) K xs H L → Sound F K (addition (negsuc h ∷ r) ∷ (map addition (uppers h r) ++ xs)) H L
  defined h F r u f s =
      add_first (λ σ t o. absent_stays σ (negsuc h) F (above h (pos (suc h)) F u (omega arith)) t)
      (uppers_added h (F ++ ((negsuc h ∷ r) ∷ [])) r f
      (λ y i d j m.
      ⊎_elim (λ k. absurd (above h (negsuc h) F u (omega arith) d k m)) (λ k. subst (λ (v : Clause). Memᴰ y v) (sym (Memᴰ.eq_of_singleton k)) (there i))
      (Memᴰ.append_cases F j))
      (simp append_assoc s))

stage_2_added : {H : Formula} {K L : List Event} (xs : List Line) (h : ℕ) (m : ℤ) (c : Clause) (F : Formula) → FitAll (suc h) (m ∷ c) → Fits (suc h) F →
    Sound (F ++ stage_2_from h (m ∷ c)) K xs H L → Sound F K (map addition (stage_2_from h (m ∷ c)) ++ xs) H L
stage_2_added {H} {K} {L} xs h m [] F f u s = rw (append-nil F) at s
stage_2_added {H} {K} {L} xs h m (k ∷ c) F f u s =
    defined (suc h) F (pos (suc h) ∷ m ∷ []) u lits
    (stage_2_added xs (suc h) k c (F ++ three) (λ x i. fit_up (suc (suc h)) (suc h) x (omega arith) (f x (there i)))
    (fits-++ (suc (suc h)) F three (fits_up (suc (suc h)) (suc h) F (omega arith) u) fits_three)
    (rw (append_assoc F three (stage_2_from (suc h) (k ∷ c))) s))
  where
    three : Formula
    three = (negsuc (suc h) ∷ pos (suc h) ∷ m ∷ []) ∷ (pos (suc (suc h)) ∷ negsuc h ∷ []) ∷ (pos (suc (suc h)) ∷ neg_ℤ m ∷ []) ∷ []

    lits : FitAll (suc h) (pos (suc h) ∷ m ∷ [])
    lits y (here e) = rw e (fit_pos (suc h) h (omega arith))
    lits y (there (here e)) = rw e (f m (here refl))
    lits y (there (there x11)) = elim x11 [ ]

    fits_three : Fits (suc (suc h)) three
    fits_three =
        let v = fit_up (suc (suc h)) (suc h) m (omega arith) (f m (here refl)) in
        let p = fit_pos (suc (suc h)) (suc h) (omega arith) in
        every (Fit (suc (suc h))) three (
          (fit_negsuc (suc (suc h)) (suc h) (omega arith), (fit_pos (suc (suc h)) h (omega arith), (v, tt))),
          ((p, (fit_negsuc (suc (suc h)) h (omega arith), tt)), ((p, (fit_neg (suc (suc h)) m v, tt)), tt)),
        )

-- ---- stage 3: where -m -s is all false, s says that a literal before m is true, so m can be made false

-- what stands says of m, the next literal, with c after it and s = h + 1 the counter variable of those before it:
record Next (S : Formula) (h : ℕ) (before : Clause) (m : ℤ) (c : Clause) : Type 0 where
  fresh : Memᴰ m before → ⊥
  -- where s is true, one before is;
  chain : (σ : Assignment) → Sat σ S → bit (σ (suc h)) ≤ trues σ before
  -- s, m or one after it is true;
  some : (σ : Assignment) → Sat σ S → 1 ≤ trues σ (pos (suc h) ∷ m ∷ c)
  -- a clause with m holds all those before, or s
  holders : (d : Clause) → Memᴰ d S → Memᴰ m d → Within before d ⊎ Memᴰ (pos (suc h)) d

-- so of every literal to come
abbrev Ahead : Formula → ℕ → Clause → Clause → Type 0
Ahead S h before [] = Unit {0}
Ahead S h before (m ∷ c) = Next S h before m c × Ahead S (suc h) (m ∷ before) c

ahead_more : (S T : Formula) (h : ℕ) (before c : Clause) → ((x : ℤ) → Memᴰ x c → Absent x T) → Ahead S h before c → Ahead (S ++ T) h before c
ahead_more S T h before [] n a = tt
ahead_more S T h before (m ∷ c) n a = (
  record {
    fresh = a.0.fresh;
    chain = λ σ s. a.0.chain σ (sat_left σ S T s);
    some = λ σ s. a.0.some σ (sat_left σ S T s);
    holders = λ d i j. ⊎_elim (λ q. a.0.holders d q j) (λ q. absurd (n m (here refl) d q j)) (Memᴰ.append_cases S i);
  },
  ahead_more S T (suc h) (m ∷ before) c (λ x i. n x (there i)) a.1,
)

made_false : {S : Formula} {h : ℕ} {before : Clause} {m : ℤ} {c : Clause} → Next S h before m c → Fit h m →
    (σ : Assignment) → Sat σ S → trues σ (neg_ℤ m ∷ negsuc h ∷ []) ≡ 0 → Sat (make_true (neg_ℤ m) σ) S
unfolding trues count true_in
made_false {S} {h} {before} {m} n f σ s o =
    negation_only σ (neg_ℤ m) S s (λ d i j. ⊎_elim (by_one d) (by_counter d) (n.holders d i (Memᴰ.cast (sym (neg_ℤ-neg_ℤ m)) j)))
  where
    τ : Assignment
    τ = make_true (neg_ℤ m) σ

    by_one : (d : Clause) → Within before d → 1 ≤ trues τ d
    by_one d w =
        hit_in τ before d w
        (omega (arith, n.chain σ s, bit_not (σ (suc h)), stays σ (neg_ℤ m) before (λ j. n.fresh (Memᴰ.cast (sym (neg_ℤ-neg_ℤ m)) j))))

    by_counter : (d : Clause) → Memᴰ (pos (suc h)) d → 1 ≤ trues τ d
    by_counter d j =
        omega (arith, trues_at τ j, bit_not (σ (suc h)), ap bit (unmoved (neg_ℤ m) (pos (suc h)) σ (λ e. omega (arith, natAbs_neg m, f.1))))

stage_3_added : {H : Formula} {K L : List Event} {xs : List Line} (S : Formula) (g h : ℕ) (before : Clause) (m : ℤ) (c : Clause) → g ≤ h → Proper (m ∷ c) → FitAll g (m ∷ c) → Ahead S h before (m ∷ c) →
    Sound (S ++ stage_3_from h (m ∷ c)) K xs H L → Sound S K (map addition (stage_3_from h (m ∷ c)) ++ xs) H L
stage_3_added S g h before m [] b p f a s =
    add_first (made_false a.0 (fit_up h g m b (f m (here refl))))
    (add_implied (λ σ t. a.0.some σ (sat_left σ S ((neg_ℤ m ∷ negsuc h ∷ []) ∷ []) t)) (simp append_assoc s))
stage_3_added S g h before m (k ∷ c) b p f a s =
    add_first (made_false a.0 (fit_up h g m b (f m (here refl))))
    (stage_3_added (S ++ line) g (suc h) (m ∷ before) k c (omega arith) p.3 (λ x i. f x (there i)) (ahead_more S line (suc h) (m ∷ before) (k ∷ c) absent a.1) (simp append_assoc s))
  where
    line : Formula
    line = (neg_ℤ m ∷ negsuc h ∷ []) ∷ []

    absent : (x : ℤ) → Memᴰ x (k ∷ c) → Absent x line
    absent x i = in_none x line ((λ e. p.2 (Memᴰ.cast (sym e) i), (far x (negsuc h) (omega (arith, (f x (there i)).1)), tt)), tt)

-- what stands where stage 2 ends: a clause with one of the literals to come is w, the choice, or of stage 2
ahead : (S : Formula) (w : Clause) (g h : ℕ) (before : Clause) (m : ℤ) (c : Clause) → g ≤ h → Proper (m ∷ c) → FitAll g (m ∷ c) → Within before w → Within (m ∷ c) w →
    ((x : ℤ) → Memᴰ x (m ∷ c) → Memᴰ x before → ⊥) →
    ((σ : Assignment) → Sat σ S → Sat σ (stage_2_from h (m ∷ c))) →
    ((σ : Assignment) → Sat σ S → bit (σ (suc h)) ≤ trues σ before) →
    ((σ : Assignment) → Sat σ S → 1 ≤ trues σ (pos (suc h) ∷ m ∷ c)) →
    ((x : ℤ) → Memᴰ x (m ∷ c) → (d : Clause) → Memᴰ d S → Memᴰ x d → Within w d ⊎ Memᴰ d (stage_2_from h (m ∷ c))) →
    Ahead S h before (m ∷ c)
unfolding trues count true_in
ahead S w g h before m [] b p f u v new says chain some held = (
  record {
    fresh = new m (here refl);
    chain = chain;
    some = some;
    holders = λ d i j. ⊎_elim (λ t. inl (λ l q. t l (u l q))) (λ q. absurd (Memᴰ.not-nil q)) (held m (here refl) d i j);
  },
  tt,
)
ahead S w g h before m (k ∷ c) b p f u v new says chain some held = (
  record {
    fresh = new m (here refl);
    chain = chain;
    some = some;
    holders = λ d i j. ⊎_elim (λ t. inl (λ l q. t l (u l q))) (λ q. inr (of_link d q j)) (held m (here refl) d i j);
  },
  ahead S w g (suc h) (m ∷ before) k c (omega arith) p.3 (λ x i. f x (there i)) before_in (λ l i. v l (there i)) apart
      (λ σ s. (says σ s).1.1.1)
      (λ σ s. omega (arith, (says σ s).0, chain σ s, bit_not (σ (suc (suc h)))))
      (λ σ s. omega (arith, (says σ s).1.0, (says σ s).1.1.0, some σ s, bit_not (σ (suc h)), negated σ m p.0))
      (λ x i d j q. ⊎_elim inl (λ t. inr (later x i d t q)) (held x (there i) d j q)),
)
  where
    before_in : Within (m ∷ before) w
    before_in l (here e) = rw e (v m (here refl))
    before_in l (there i) = u l i

    apart : (x : ℤ) → Memᴰ x (k ∷ c) → Memᴰ x (m ∷ before) → ⊥
    apart x i (here e) = p.1 (Memᴰ.cast (sym e) i)
    apart x i (there j) = new x (there i) j

    old : (x : ℤ) → Memᴰ x (m ∷ k ∷ c) → nat_abs x ≤ h
    old x i = omega (arith, (f x i).1)

    of_link : (d : Clause) → Memᴰ d (stage_2_from h (m ∷ k ∷ c)) → Memᴰ m d → Memᴰ (pos (suc h)) d
    of_link d (here e) j = rw e (there (here refl))
    of_link d (there (here e)) j =
        absurd (not_in m (pos (suc (suc h)) ∷ negsuc h ∷ []) (far m _ (omega (arith, old m (here refl))), (far m _ (omega (arith, old m (here refl))), tt)) (rw e at j))
    of_link d (there (there (here e))) j =
        absurd (not_in m (pos (suc (suc h)) ∷ neg_ℤ m ∷ []) (far m _ (omega (arith, old m (here refl))), (own m p.0, tt)) (rw e at j))
    of_link d (there (there (there i))) j =
        absurd (in_none m (stage_2_from (suc h) (k ∷ c)) (stages_absent m (suc h) (k ∷ c) (omega (arith, old m (here refl))) p.1 p.2).0 d i j)

    links : Formula
    links = (negsuc (suc h) ∷ pos (suc h) ∷ m ∷ []) ∷ (pos (suc (suc h)) ∷ negsuc h ∷ []) ∷ (pos (suc (suc h)) ∷ neg_ℤ m ∷ []) ∷ []

    none_of_links : (x : ℤ) → Memᴰ x (k ∷ c) → Absent x links
    none_of_links x i =
        let o = old x (there i) in
        let n = far x (pos (suc (suc h))) (omega arith) in
        in_none x links (
          (far x (negsuc (suc h)) (omega arith), (far x (pos (suc h)) (omega arith), (λ e. p.1 (Memᴰ.cast (sym e) i), tt))),
          ((n, (far x (negsuc h) (omega arith), tt)), ((n, (λ e. p.2 (Memᴰ.cast (sym e) i), tt)), tt)),
        )

    later : (x : ℤ) → Memᴰ x (k ∷ c) → (d : Clause) → Memᴰ d (stage_2_from h (m ∷ k ∷ c)) → Memᴰ x d → Memᴰ d (stage_2_from (suc h) (k ∷ c))
    later x i d t j = ⊎_elim (λ q. absurd (none_of_links x i d q j)) (λ q. q) (Memᴰ.append_cases links t)

-- ---- stages 2 and 3, where the choice stands in F and no other clause holds a literal of it
pub counter_added : {F G H : Formula} {K L : List Event} {xs : List Line} (h : ℕ) (l m : ℤ) (c : Clause) → Proper (l ∷ m ∷ c) → Fits h F → FitAll h (l ∷ m ∷ c) →
    Removed (l ∷ m ∷ c) F G → ((x : ℤ) → Memᴰ x (l ∷ m ∷ c) → Absent x G) →
    Sound (F ++ counter_from h l (m ∷ c)) K xs H L → Sound F K (map addition (counter_from h l (m ∷ c)) ++ xs) H L
unfolding trues count true_in
counter_added {F} {G} {H} {K} {L} {xs} h l m c p u f taken alone s =
    simp (map-append, append_assoc)
    (defined h F (l ∷ []) u only
    (stage_2_added (map addition (stage_3_from h (m ∷ c)) ++ xs) h m c (F ++ firsts) (λ x i. fit_up (suc h) h x (omega arith) (f x (there i))) fits
    (stage_3_added stands h h (l ∷ []) m c (omega arith) p.3 (λ x i. f x (there i))
    (ahead stands (l ∷ m ∷ c) h h (l ∷ []) m c (omega arith) p.3 (λ x i. f x (there i)) first_in (λ x i. there i) apart (λ σ t. sat_right σ (F ++ firsts) (stage_2_from h (m ∷ c)) t)
    (λ σ t. omega (arith, (says σ t).0, bit_not (σ (suc h))))
    (λ σ t. omega (arith, (says σ t).1.0, negated σ l p.0, sat_of σ taken (sat_left σ F firsts (sat_left σ (F ++ firsts) (stage_2_from h (m ∷ c)) t))))
    held)
    (simp append_assoc s))))
  where
    firsts : Formula
    firsts = (negsuc h ∷ l ∷ []) ∷ (pos (suc h) ∷ neg_ℤ l ∷ []) ∷ []

    stands : Formula
    stands = (F ++ firsts) ++ stage_2_from h (m ∷ c)

    only : FitAll h (l ∷ [])
    only y (here e) = rw e (f l (here refl))
    only y (there x4) = elim x4 [ ]

    fits : Fits (suc h) (F ++ firsts)
    fits =
        let v = fit_up (suc h) h l (omega arith) (f l (here refl)) in
        fits-++ (suc h) F firsts (fits_up (suc h) h F (omega arith) u)
        (every (Fit (suc h)) firsts ((fit_negsuc (suc h) h (omega arith), (v, tt)), ((fit_pos (suc h) h (omega arith), (fit_neg (suc h) l v, tt)), tt)))

    says : (σ : Assignment) → Sat σ stands → Sat σ firsts
    says σ t = sat_right σ F firsts (sat_left σ (F ++ firsts) (stage_2_from h (m ∷ c)) t)

    first_in : Within (l ∷ []) (l ∷ m ∷ c)
    first_in x (here e) = here e
    first_in x (there x5) = elim x5 [ ]

    apart : (x : ℤ) → Memᴰ x (m ∷ c) → Memᴰ x (l ∷ []) → ⊥
    apart x i (here e) = p.1 (Memᴰ.cast (sym e) i)
    apart x i (there x5) = elim x5 [ ]

    none_of_firsts : (x : ℤ) → Memᴰ x (m ∷ c) → Absent x firsts
    none_of_firsts x i =
        let o = (f x (there i)).1 in
        in_none x firsts (
          (far x (negsuc h) (omega arith), (λ e. p.1 (Memᴰ.cast (sym e) i), tt)),
          ((far x (pos (suc h)) (omega arith), (λ e. p.2 (Memᴰ.cast (sym e) i), tt)), tt),
        )

    held : (x : ℤ) → Memᴰ x (m ∷ c) → (d : Clause) → Memᴰ d stands → Memᴰ x d → Within (l ∷ m ∷ c) d ⊎ Memᴰ d (stage_2_from h (m ∷ c))
    held x i d j q =
        ⊎_elim
        (λ t. ⊎_elim
        (λ v. inl (⊎_elim (λ e. e.0) (λ e. absurd (alone x (there i) d e q)) (split taken v)))
        (λ v. absurd (none_of_firsts x i d v q))
        (Memᴰ.append_cases F t))
        inr
        (Memᴰ.append_cases (F ++ firsts) j)
