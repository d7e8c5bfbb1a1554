-- Literals of 1 to h, formulas of such literals, and the highest variable. Assumes nothing.
use mathlib.Core.Path.{◌≡◌, refl, sym, ◌∙◌, ap}
use mathlib.Core.Logic.{◌≢◌, ⊎_elim}
use mathlib.Core.List.Memᴰ
use mathlib.Core.List.Memᴰ.{head as here}
use mathlib.Core.List.Memᴰ.{tail as there}
use mathlib.Core.List.{List, [], ◌∷◌, ◌++◌, map, Memᴰ}
use Prim.Native.Nat.{ℕ, zero, suc, ◌≤◌, ◌<◌, max}
use native.Mathlib.Omega.{arith}
use lib.ListN.{length, length-map}
use lib.IntN.{ℤ, pos, negsuc, neg_ℤ, neg_ℤ-neg_ℤ, nat_abs}
use Rattle.definition.specs.Literals.{Clause, Formula, highest, highest_of}
use Rattle.definition.specs.Standing.{Line, literals, highest_in, after}
use Rattle.theory_base.proofs.Loops.{by_order}
use Rattle.theory_base.proofs.Sums.{Distinct, sum_within, count_length}
use Rattle.theory_base.proofs.Members.{natAbs_neg, proper_literal, proper_first}
use Rattle.theory_base.proofs.Replay.{AllLines, all_after}
use Rattle.theory_base.specs.Clauses.{Fit, Fits, Proper, ProperAll, Absent, FitAll}

pub fit_neg : (h : ℕ) (x : ℤ) → Fit h x → Fit h (neg_ℤ x)
fit_neg h x f = (λ e. f.0 (sym (neg_ℤ-neg_ℤ x) ∙ ap neg_ℤ e), rw natAbs_neg f.1)

pub fit_pos : (h n : ℕ) → n < h → Fit h (pos (suc n))
fit_pos h n b = (λ e. omega (arith, ap nat_abs e), omega arith)

pub fit_negsuc : (h n : ℕ) → n < h → Fit h (negsuc n)
fit_negsuc h n b = fit_neg h (pos (suc n)) (fit_pos h n b)

pub fit_up : (g h : ℕ) (x : ℤ) → h ≤ g → Fit h x → Fit g x
fit_up g h x b f = (f.0, omega (arith, f.1))

pub fits_up : (g h : ℕ) (F : Formula) → h ≤ g → Fits h F → Fits g F
fits_up g h F b f d i x j = fit_up g h x b (f d i x j)

pub fits-++ : (h : ℕ) (F G : Formula) → Fits h F → Fits h G → Fits h (F ++ G)
fits-++ h F G f g d i = ⊎_elim (f d) (g d) (Memᴰ.append_cases F i)

-- a literal of a variable above h stands in no clause
pub above : (h : ℕ) (x : ℤ) (F : Formula) → Fits h F → h < nat_abs x → Absent x F
above h x F f b d i j = omega (arith, (f d i x j).1)

-- ---- the highest variable
pub highest_at : (c : Clause) (x : ℤ) → Memᴰ x c → nat_abs x ≤ highest c
unfolding highest
highest_at (y ∷ c) x (here e) = rw e (omega arith)
highest_at (y ∷ c) x (there i) = omega (arith, highest_at c x i)
highest_at [] x x3 = elim x3 [ ]

pub highest_of_at : (F : Formula) (c : Clause) → Memᴰ c F → (x : ℤ) → Memᴰ x c → nat_abs x ≤ highest_of F
unfolding highest_of
highest_of_at (d ∷ F) c (here e) x i = omega (arith, highest_at d x (rw e at i))
highest_of_at (d ∷ F) c (there j) x i = omega (arith, highest_of_at F c j x i)
highest_of_at [] c x4 x i = elim x4 [ ]

pub highest_le : (h : ℕ) (c : Clause) → ((x : ℤ) → Memᴰ x c → nat_abs x ≤ h) → highest c ≤ h
unfolding highest
highest_le h [] f = omega arith
highest_le h (y ∷ c) f = omega (arith, f y (here refl), highest_le h c (λ x i. f x (there i)))

pub highest_in_at : (xs : List Line) (x : Line) → Memᴰ x xs → highest (literals x) ≤ highest_in xs
unfolding highest_in
highest_in_at (y ∷ xs) x (here e) = omega (arith, ap (λ (z : Line). highest (literals z)) e)
highest_in_at (y ∷ xs) x (there m) = omega (arith, highest_in_at xs x m)
highest_in_at [] x x3 = elim x3 [ ]

pub highest_in_le : (h : ℕ) (xs : List Line) → ((x : Line) → Memᴰ x xs → highest (literals x) ≤ h) → highest_in xs ≤ h
unfolding highest_in
highest_in_le h [] f = omega arith
highest_in_le h (x ∷ xs) f = omega (arith, f x (here refl), highest_in_le h xs (λ y m. f y (there m)))

-- a line of a proper clause of the variables up to h
abbrev pub LineFits : ℕ → Line → Type 0
LineFits h x = Proper (literals x) × (highest (literals x) ≤ h)

-- ---- proper clauses of the variables 1 to h

-- no variable above h
abbrev pub UpTo : ℕ → Clause → Type 0
UpTo h c = (x : ℤ) → Memᴰ x c → nat_abs x ≤ h

abbrev pub ProperTo : ℕ → Clause → Type 0
ProperTo h c = Proper c × UpTo h c

-- a literal of the variables a to b
abbrev pub Between : ℕ → ℕ → ℤ → Type 0
Between a b x = (a ≤ nat_abs x) × (nat_abs x ≤ b)

nonzero_variable : (x : ℤ) → x ≢ pos 0 → 1 ≤ nat_abs x
nonzero_variable (pos zero) n = absurd (n refl)
nonzero_variable (pos (suc m)) n = omega arith
nonzero_variable (negsuc m) n = omega arith

pub fit_between : (h : ℕ) (x : ℤ) → Fit h x → Between 1 h x
fit_between h x f = (nonzero_variable x f.0, f.1)

between_fit : (h : ℕ) (x : ℤ) → Between 1 h x → Fit h x
between_fit h x b = (λ e. omega (arith, ap nat_abs e), b.1)

pub proper_fit : {h : ℕ} {c : Clause} → ProperTo h c → FitAll h c
proper_fit {c = c} p x m = (proper_literal c p.0 x m, p.1 x m)

pub literal_between : {h : ℕ} {c : Clause} → ProperTo h c → (x : ℤ) → Memᴰ x c → Between 1 h x
literal_between {h} p x m = fit_between h x (proper_fit p x m)

pub negated_between : (a b : ℕ) (x : ℤ) → Between a b x → Between a b (neg_ℤ x)
negated_between a b x p = rw (natAbs_neg x) p

pub proper_to_more : (h k : ℕ) → h ≤ k → (c : Clause) → ProperTo h c → ProperTo k c
proper_to_more h k l c p = (p.0, λ x m. omega (arith, p.1 x m))

pub proper_fits : (h : ℕ) (f : Formula) → ProperAll f → Fits h f → (d : Clause) → Memᴰ d f → ProperTo h d
proper_fits h f p q d m = (p d m, λ x k. (q d m x k).1)

-- the same of a line, by its highest variable
pub line_to : (h : ℕ) (x : Line) → LineFits h x → ProperTo h (literals x)
line_to h x f = (f.0, λ y i. omega (arith, highest_at (literals x) y i, f.1))

-- clauses written out
pub cons_to : (h : ℕ) (x : ℤ) (c : Clause) → Between 1 h x → ((y : ℤ) → Memᴰ y c → nat_abs x ≢ nat_abs y) → ProperTo h c → ProperTo h (x ∷ c)
cons_to h x c b n p = (((between_fit h x b).0, λ m. n x m refl, λ m. n (neg_ℤ x) m (sym (natAbs_neg x)), p.0), bound)
  where
    bound : UpTo h (x ∷ c)
    bound y (here e) = rw e b.1
    bound y (there m) = p.1 y m

one_to : (h : ℕ) (x : ℤ) → Between 1 h x → ProperTo h (x ∷ [])
one_to h x a = cons_to h x [] a (λ z m. absurd (Memᴰ.not-nil m)) (tt, λ z m. absurd (Memᴰ.not-nil m))

pub two_to : (h : ℕ) (x y : ℤ) → Between 1 h x → Between 1 h y → nat_abs x ≢ nat_abs y → ProperTo h (x ∷ y ∷ [])
two_to h x y a b n = cons_to h x (y ∷ []) a (λ z m e. n (e ∙ ap nat_abs (Memᴰ.eq_of_singleton m))) (one_to h y b)

pub three_to : (h : ℕ) (x y z : ℤ) → Between 1 h x → Between 1 h y → Between 1 h z → nat_abs x ≢ nat_abs y → nat_abs x ≢ nat_abs z → nat_abs y ≢ nat_abs z → ProperTo h (x ∷ y ∷ z ∷ [])
three_to h x y z a b c n k l = cons_to h x (y ∷ z ∷ []) a other (two_to h y z b c l)
  where
    other : (v : ℤ) → Memᴰ v (y ∷ z ∷ []) → nat_abs x ≢ nat_abs v
    other v (here q) e = n (e ∙ ap nat_abs q)
    other v (there m) e = k (e ∙ ap nat_abs (Memᴰ.eq_of_singleton m))

-- ---- a proper clause of the variables 1 to h has at most h literals
up_to : ℕ → List ℕ
up_to zero = []
up_to (suc n) = suc n ∷ up_to n

up_to_mem : (n x : ℕ) → 1 ≤ x → x ≤ n → Memᴰ x (up_to n)
unfolding up_to
up_to_mem zero x a b = absurd (omega arith)
up_to_mem (suc n) x a b = by_order x (suc n) b here (λ l. there (up_to_mem n x a (omega arith)))

count_up : (n : ℕ) → length (up_to n) ≡ n
unfolding up_to
count_up zero = refl
count_up (suc n) = ap suc (count_up n)

variables_distinct : (c : Clause) → Proper c → Distinct (map nat_abs c)
variables_distinct [] p = tt
variables_distinct (x ∷ c) p = (λ m. let r = Memᴰ.of_map nat_abs c m in proper_first x c p r.0 r.1 (sym r.2), variables_distinct c p.3)

pub proper_length : (h : ℕ) (c : Clause) → ProperTo h c → length c ≤ h
proper_length h c p =
    omega (
      arith,
      sum_within (λ _. 1) (map nat_abs c) (up_to h) (variables_distinct c p.0)
          (λ v m. let r = Memᴰ.of_map nat_abs c m in let b = literal_between p r.0 r.1 in up_to_mem h v (omega (arith, r.2)) (omega (arith, r.2))),
      count_length (up_to h),
      count_up h,
      count_length (map nat_abs c),
      length-map c nat_abs,
    )

-- a clause, or a line, more
pub highest_append : (c d : Clause) → highest (c ++ d) ≡ max (highest c) (highest d)
unfolding highest
highest_append [] d = omega arith
highest_append (l ∷ c) d = omega (arith, highest_append c d)

pub highest_snoc : (ss : List Line) (s : Line) → highest_in (ss ++ (s ∷ [])) ≡ max (highest_in ss) (highest (literals s))
unfolding highest_in
highest_snoc [] s = omega arith
highest_snoc (x ∷ ss) s = omega (arith, highest_snoc ss s)

-- what stands after lines has no variable above those of the formula and of the lines
pub after_fits : (h : ℕ) (F : Formula) (xs : List Line) → Fits h F → AllLines Proper xs → Fits (max h (highest_in xs)) (after F xs)
after_fits h F xs f p =
    all_after (FitAll (max h (highest_in xs))) F xs (fits_up (max h (highest_in xs)) h F (omega arith) f)
    (λ y m x k. (proper_literal (literals y) (p y m) x k, omega (arith, highest_at (literals y) x k, highest_in_at xs y m)))
