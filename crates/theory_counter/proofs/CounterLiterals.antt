-- The literals of the counter clauses, and the number of these clauses.
use mathlib.Core.Path.{◌≡◌, refl, ap}
use mathlib.Core.Logic.{◌≢◌}
use mathlib.Core.List.Memᴰ.{head as here}
use mathlib.Core.List.Memᴰ.{tail as there}
use mathlib.Core.List.{[], ◌∷◌, Memᴰ}
use Prim.Native.Nat.{ℕ, suc, ◌+◌, ◌-◌, ◌*◌, ◌≤◌, ◌<◌}
use native.Mathlib.Omega.{arith}
use lib.IntN.{ℤ, pos, negsuc, neg_ℤ, nat_abs}
use lib.ListN.{length, length-append}
use Rattle.definition.specs.Literals.{Clause}
use Rattle.definition.specs.Events.{Choice}
use Rattle.definition.specs.Counter.{counter, last_new}
use Rattle.theory_base.proofs.Members.{far, turn}
use Rattle.theory_base.specs.Clauses.{Same, Fit, Fits, Absent, FitAll}
use Rattle.theory_soundness.proofs.Written.{Each, each, Every, every, each-++, of_each, InNone, in_none}
use Rattle.theory_counter.proofs.CounterClauses.{stage_2_from, stage_3_from, counter_from, written, counter_is}
use Rattle.theory_counter.specs.Ready.{WellFormed, Other}
use Rattle.theory_base.proofs.Fitting.{fit_neg, fit_pos, fit_negsuc, fit_up}

-- ---- each holds a new literal, so none is a clause of old ones
abbrev Above : ℕ → Clause → Type 0
Above g d = (x : ℤ) × Memᴰ x d × (g < nat_abs x)

stages_above : (g h : ℕ) (c : Clause) → g ≤ h → Each (Above g) (stage_2_from h c) × Each (Above g) (stage_3_from h c)
stages_above g h [] b = (tt, tt)
stages_above g h (l ∷ []) b = (tt, ((negsuc h, there (here refl), omega arith), ((pos (suc h), here refl, omega arith), tt)))
stages_above g h (l ∷ m ∷ c) b =
    let r = stages_above g (suc h) (m ∷ c) (omega arith) in
    let s = pos (suc (suc h)) in (
      ((negsuc (suc h), here refl, omega arith), ((s, here refl, omega arith), ((s, here refl, omega arith), r.0))),
      ((negsuc h, there (here refl), omega arith), r.1),
    )

counter_from_new : (h : ℕ) (l : ℤ) (c p : Clause) → FitAll h p → (d : Clause) → Memᴰ d (counter_from h l c) → Same p d → ⊥
counter_from_new h l c p f d i s =
    let r = stages_above h h c (omega arith) in
    let a = each (Above h) (counter_from h l c) (
      (negsuc h, here refl, omega arith),
      ((pos (suc h), here refl, omega arith), each-++ (Above h) (stage_2_from h c) (stage_3_from h c) r.0 r.1),
    ) d i in
    omega (arith, a.2, (f a.0 (s.1 a.0 a.1)).1)

-- ---- they hold no literal of another variable
pub stages_absent : (x : ℤ) (h : ℕ) (c : Clause) → nat_abs x ≤ h → (Memᴰ x c → ⊥) → (Memᴰ (neg_ℤ x) c → ⊥) → InNone x (stage_2_from h c) × InNone x (stage_3_from h c)
stages_absent x h [] b n p = (tt, tt)
stages_absent x h (m ∷ []) b n p = (
  tt,
  ((λ e. p (here (turn x m e)), (far x (negsuc h) (omega arith), tt)), ((far x (pos (suc h)) (omega arith), (λ e. n (here e), tt)), tt)),
)
stages_absent x h (m ∷ k ∷ c) b n p =
    let r = stages_absent x (suc h) (k ∷ c) (omega arith) (λ i. n (there i)) (λ i. p (there i)) in (
      (
        (far x (negsuc (suc h)) (omega arith), (far x (pos (suc h)) (omega arith), (λ e. n (here e), tt))),
        (
          (far x (pos (suc (suc h))) (omega arith), (far x (negsuc h) (omega arith), tt)),
          ((far x (pos (suc (suc h))) (omega arith), (λ e. p (here (turn x m e)), tt)), r.0),
        ),
      ),
      ((λ e. p (here (turn x m e)), (far x (negsuc h) (omega arith), tt)), r.1),
    )

counter_from_absent : (x : ℤ) (h : ℕ) (l : ℤ) (c : Clause) → nat_abs x ≤ h → (Memᴰ x (l ∷ c) → ⊥) → (Memᴰ (neg_ℤ x) (l ∷ c) → ⊥) → Absent x (counter_from h l c)
counter_from_absent x h l c b n p =
    let r = stages_absent x h c b (λ i. n (there i)) (λ i. p (there i)) in
    in_none x (counter_from h l c) (
      (far x (negsuc h) (omega arith), (λ e. n (here e), tt)),
      (
        (far x (pos (suc h)) (omega arith), (λ e. p (here (turn x l e)), tt)),
        each-++ (Each (λ y. x ≢ y)) (stage_2_from h c) (stage_3_from h c) r.0 r.1,
      ),
    )

-- ---- they hold variables up to the last new one
stages_fit : (g h : ℕ) (m : ℤ) (c : Clause) → h + length (m ∷ c) ≤ g → Each (Fit g) (m ∷ c) → Every (Fit g) (stage_2_from h (m ∷ c)) × Every (Fit g) (stage_3_from h (m ∷ c))
stages_fit g h m [] b f =
    let p = fit_pos g h (omega arith) in
    let n = fit_negsuc g h (omega arith) in
    (tt, ((fit_neg g m f.0, (n, tt)), ((p, (f.0, tt)), tt)))
stages_fit g h m (k ∷ c) b f =
    let p = fit_pos g h (omega arith) in
    let n = fit_negsuc g h (omega arith) in
    let q = fit_pos g (suc h) (omega arith) in
    let o = fit_negsuc g (suc h) (omega arith) in
    let r = stages_fit g (suc h) k c (omega arith) f.1 in
    (((o, (p, (f.0, tt))), ((q, (n, tt)), ((q, (fit_neg g m f.0, tt)), r.0))), ((fit_neg g m f.0, (n, tt)), r.1))

counter_from_fits : (h : ℕ) (l m : ℤ) (c : Clause) → FitAll h (l ∷ m ∷ c) → Fits (h + length (m ∷ c)) (counter_from h l (m ∷ c))
counter_from_fits h l m c f =
    every (Fit g) (counter_from h l (m ∷ c)) (
      (fit_negsuc g h (omega arith), (up l (here refl), tt)),
      ((fit_pos g h (omega arith), (fit_neg g l (up l (here refl)), tt)), each-++ (Each (Fit g)) (stage_2_from h (m ∷ c)) (stage_3_from h (m ∷ c)) s.0 s.1),
    )
  where
    g : ℕ
    g = h + length (m ∷ c)

    up : FitAll g (l ∷ m ∷ c)
    up x i = fit_up g h x (omega arith) (f x i)

    s : Every (Fit g) (stage_2_from h (m ∷ c)) × Every (Fit g) (stage_3_from h (m ∷ c))
    s = stages_fit g h m c (omega arith) (of_each (Fit g) (m ∷ c) (λ x i. up x (there i)))

-- ---- their number
stage_2_length : (h : ℕ) (m : ℤ) (c : Clause) → length (stage_2_from h (m ∷ c)) ≡ 3 * length c
stage_2_length h m [] = refl
stage_2_length h m (k ∷ c) = omega (arith, stage_2_length (suc h) k c)

stage_3_length : (h : ℕ) (m : ℤ) (c : Clause) → length (stage_3_from h (m ∷ c)) ≡ 2 + length c
stage_3_length h m [] = refl
stage_3_length h m (k ∷ c) = omega (arith, stage_3_length (suc h) k c)

counter_from_length : (h : ℕ) (l m : ℤ) (c : Clause) → length (counter_from h l (m ∷ c)) ≡ 4 * length (m ∷ c)
counter_from_length h l m c =
    omega (arith, length-append (stage_2_from h (m ∷ c)) (stage_3_from h (m ∷ c)), stage_2_length h m c, stage_3_length h m c)

-- ---- a choice of two literals or more
pub counter_new : (k : Choice) → 2 ≤ length k.literals → (p : Clause) → FitAll k.below p → (d : Clause) → Memᴰ d (counter k) → Same p d → ⊥
counter_new k b p f = let w = written k b in rw (counter_is w) (counter_from_new k.below w.one (w.two ∷ w.others) p f)

pub counter_absent : (k : Choice) → 2 ≤ length k.literals → (x : ℤ) → Other k x → Absent x (counter k)
counter_absent k b x o =
    let w = written k b in
    rw (counter_is w) (counter_from_absent x k.below w.one (w.two ∷ w.others) o.small (λ i. o.not_in (rw w.are i)) (λ i. o.not_negated (rw w.are i)))

pub counter_fits : {k : Choice} → WellFormed k → Fits (last_new k) (counter k)
unfolding last_new
counter_fits {k} u =
    let w = written k u.long in
    let e : length k.literals - 1 ≡ length (w.two ∷ w.others) = omega (arith, ap length w.are) in
    rw (e, counter_is w) (counter_from_fits k.below w.one w.two w.others (λ x i. u.fit x (rw w.are i)))

pub counter_length : (k : Choice) → 2 ≤ length k.literals → length (counter k) ≡ 4 * (length k.literals - 1)
counter_length k b = let w = written k b in rw (counter_is w) (omega (arith, ap length w.are, counter_from_length k.below w.one w.two w.others))
