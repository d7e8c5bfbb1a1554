-- Clearing all clashes: what is found, that every line is sound, and that no clash is left.
use mathlib.Core.Path.{◌≡◌, refl, sym, subst}
use mathlib.Core.Logic.{◌⊎◌, inl, inr, ⊎_elim}
use mathlib.Core.Bool.{Bool, true, false, cond, ◌&&◌}
use mathlib.Core.List.Memᴰ
use mathlib.Core.List.{List, [], ◌∷◌, ◌++◌, Memᴰ, append_assoc}
use mathlib.Core.Option.{Option, some, none}
use Prim.Native.Nat.{ℕ, zero, suc, ◌≤◌, ◌<◌}
use native.Mathlib.Omega.{arith}
use lib.Dec.{T}
use lib.IntN.{ℤ, pos, negsuc, neg_ℤ, nat_abs}
use lib.ListN.{length}
use Rattle.definition.specs.Lists.{first_from, for_each}
use Rattle.definition.specs.Literals.{Clause, Formula, holds, highest_of}
use Rattle.definition.specs.Standing.{Line, after}
use Rattle.definition.specs.Assignments.{Assignment, trues}
use Rattle.definition.specs.Events.{Clash, Event, clash_cleared}
use Rattle.definition.specs.Clearing.{unique, ulc_with, clash_of, clash_at, lowest_clash, resolvent, clash_lines, clear_next, clear_up_to, clear_clashes}
use Rattle.definition.specs.Reencoding.{lines_of, lines, unclashed, GoesInto, as_one, as_other, later}
use Rattle.theory_base.proofs.Tests.{of_true, and_l, and_r, and_i}
use Rattle.theory_base.proofs.Members.{proper_literal, proper_unopposed, holds_mem, mem_holds}
use Rattle.theory_base.specs.Clauses.{ProperAll, Fits}
use Rattle.theory_base.proofs.Trues.{Sat}
use Rattle.theory_base.proofs.Replay.{after-++}
use Rattle.theory_soundness.proofs.Sound.{Into, Ones, Sound, weaken}
use Rattle.theory_soundness.proofs.Without.{Stands, Known}
use Rattle.theory_base.proofs.Loops.{none_some, first_some, first_none, first_from_none, first_from_some}
use Rattle.theory_base.proofs.Fitting.{highest_of_at, LineFits}
use Rattle.theory_clearing.proofs.Clash.{IsClash, literals_before, after_proper, after_fits, after_shorter, clash_sound, parents_one, clash_lines_fit}
use Rattle.theory_clearing.specs.Clashes.{ClashFree}

-- ---- the ULC in which a literal stands
ulc_some : (F : Formula) (x : ℤ) (d : Clause) → ulc_with F x ≡ some d → Memᴰ d F × Memᴰ x d × T (unique F d)
unfolding ulc_with
ulc_some F x d e =
    let r = first_some (λ c. holds x c && unique F c) F d e in
    (r.0, holds_mem x d (and_l (holds x d) (unique F d) r.1), and_r (holds x d) (unique F d) r.1)

ulc_none : (F : Formula) (x : ℤ) → ulc_with F x ≡ none → (d : Clause) → Memᴰ d F → Memᴰ x d → T (unique F d) → ⊥
unfolding ulc_with
ulc_none F x e d i j t = first_none (λ c. holds x c && unique F c) F e d i (and_i (holds x d) (unique F d) (mem_holds x d j) t)

-- ---- a clash at a variable
pub clash_at_some : (F : Formula) (n : ℕ) (c : Clash) → clash_at F n ≡ some c → (c.v ≡ pos n) × IsClash F c
unfolding clash_at clash_of
clash_at_some F n c e = go (ulc_with F (pos n)) refl (ulc_with F (neg_ℤ (pos n))) refl e
  where
    found : (a b : Clause) → ulc_with F (pos n) ≡ some a → ulc_with F (neg_ℤ (pos n)) ≡ some b → (t : Bool) →
        cond t none (some (record { v = pos n; one = a; other = b })) ≡ some c → (c.v ≡ pos n) × IsClash F c
    found a b p q true e = none_some e
    found a b p q false e =
        let r = ulc_some F (pos n) a p in
        let s = ulc_some F (neg_ℤ (pos n)) b q in
        let k : record { v = pos n; one = a; other = b } ≡ c = cc in
        subst (λ (z : Clash). (z.v ≡ pos n) × IsClash F z) k
        (refl, record { one_stands = r.0; one_holds = r.1; one_unique = r.2; other_stands = s.0; other_holds = s.1; other_unique = s.2 })

    go : (a : Option Clause) → ulc_with F (pos n) ≡ a → (b : Option Clause) → ulc_with F (neg_ℤ (pos n)) ≡ b → clash_of (pos n) a b ≡ some c → (c.v ≡ pos n) × IsClash F c
    go none p b q e = none_some e
    go (some a) p none q e = none_some e
    go (some a) p (some b) q e = found a b p q (holds (pos n) b) e

pub clash_at_none : (F : Formula) → ProperAll F → (n : ℕ) → clash_at F n ≡ none → (a b : Clause) → Memᴰ a F → Memᴰ b F → T (unique F a) → T (unique F b) →
    Memᴰ (pos n) a → Memᴰ (neg_ℤ (pos n)) b → ⊥
unfolding clash_at clash_of
clash_at_none F p n e a b i j s t x y = go (ulc_with F (pos n)) refl (ulc_with F (neg_ℤ (pos n))) refl e
  where
    found : (d : Clash) (k : Clause) → ulc_with F (neg_ℤ (pos n)) ≡ some k → (t : Bool) → holds (pos n) k ≡ t → cond t none (some d) ≡ none → ⊥
    found d k q true u e =
        let r = ulc_some F (neg_ℤ (pos n)) k q in
        proper_unopposed k (p k r.0) (pos n) (holds_mem (pos n) k (of_true u)) r.1
    found d k q false u e = none_some (sym e)

    go : (c : Option Clause) → ulc_with F (pos n) ≡ c → (d : Option Clause) → ulc_with F (neg_ℤ (pos n)) ≡ d → clash_of (pos n) c d ≡ none → ⊥
    go none q d r e = ulc_none F (pos n) q a i x s
    go (some c) q none r e = ulc_none F (neg_ℤ (pos n)) r b j y t
    go (some c) q (some d) r e = found (record { v = pos n; one = c; other = d }) d r (holds (pos n) d) refl e

-- ---- the lowest clash
pub lowest_some : (F : Formula) (c : Clash) → lowest_clash F ≡ some c → IsClash F c
unfolding lowest_clash
lowest_some F c e = let r = first_from_some (clash_at F) 1 (highest_of F) c e in (clash_at_some F r.0 c r.3).1

pub lowest_none : (G : Formula) → ProperAll G → lowest_clash G ≡ none → ClashFree G
unfolding lowest_clash
lowest_none G p e c k i j s t (pos zero) m n = proper_literal c (p c i) (pos zero) m refl
lowest_none G p e c k i j s t (pos (suc x)) m n =
    clash_at_none G p (suc x) (first_from_none (clash_at G) 1 (highest_of G) e (suc x) (omega arith) (omega (arith, highest_of_at G c i (pos (suc x)) m))) c k i j s t m n
lowest_none G p e c k i j s t (negsuc x) m n =
    clash_at_none G p (suc x) (first_from_none (clash_at G) 1 (highest_of G) e (suc x) (omega arith) (omega (arith, highest_of_at G c i (negsuc x) m))) k c j i t s n m

-- ---- going into a choice, where a clash is cleared first
into_clash : (P : Clause → Type 0) (c : Clash) (es : List Event) → (Into es (resolvent c) → P c.one) → (Into es (resolvent c) → P c.other) →
    ((d : Clause) → Into es d → P d) → (d : Clause) → Into (clash_cleared c ∷ es) d → P d
into_clash P c es one other more d i = go d i.goes
  where
    go : (d : Clause) → GoesInto i.choice (clash_cleared c ∷ es) d → P d
    go d (as_one e g) = one (record { choice = i.choice; goes = g })
    go d (as_other e g) = other (record { choice = i.choice; goes = g })
    go d (later g) = more d (record { choice = i.choice; goes = g })

-- ---- one clash before other events
module _ (h : ℕ) (F : Formula) (c : Clash) (es : List Event) (p : ProperAll F) (q : IsClash F c) where
  clash_known : Known h es (after F (clash_lines c)) → Known h (clash_cleared c ∷ es) F
  clash_known w =
      into_clash (λ d. (x : ℤ) → Memᴰ x d → Stands (nat_abs x) F ⊎ (h < nat_abs x)) c es
      (λ i x j. inl (c.one, q.one_stands, x, j, refl))
      (λ i x j. inl (c.other, q.other_stands, x, j, refl))
      (λ d i x j. ⊎_elim (λ r. let k = literals_before F c p q r.0 r.1 r.2 r.3 in inl (k.0, k.1, r.2, k.2, r.4)) (λ b. inr b) (w d i x j))

  clash_ones : (σ : Assignment) → Sat σ F → Ones σ es → Ones σ (clash_cleared c ∷ es)
  clash_ones σ s o =
      into_clash (λ d. trues σ d ≡ 1) c es
      (λ i. (parents_one F c p q σ s (o (resolvent c) i)).0)
      (λ i. (parents_one F c p q σ s (o (resolvent c) i)).1)
      o

  clash_first : {G : Formula} {L : List Event} {xs : List Line} → Fits h F → Known h es (after F (clash_lines c)) →
      Sound (after F (clash_lines c)) es xs G L → Sound F (clash_cleared c ∷ es) (clash_lines c ++ xs) G L
  clash_first f w s = weaken clash_ones (clash_sound F c p q (f c.one q.one_stands c.v q.one_holds).1 w s)

-- ---- the events that clear clashes one after another
pub data Clears : Formula → List Event → Formula → Type 0 where
  no_more : {F : Formula} → Clears F [] F
  next : {F G : Formula} {c : Clash} {es : List Event} → IsClash F c → Clears (after F (clash_lines c)) es G → Clears F (clash_cleared c ∷ es) G

up_to_clears : (n : ℕ) (F : Formula) → Clears F (clear_up_to n F) (after F (lines (clear_up_to n F)))
unfolding clear_up_to clear_next lines lines_of for_each after
up_to_clears zero F = no_more
up_to_clears (suc n) F = go (lowest_clash F) refl (up_to_clears n)
  where
    go : (o : Option Clash) → lowest_clash F ≡ o → ((X : Formula) → Clears X (clear_up_to n X) (after X (lines (clear_up_to n X)))) →
        Clears F (clear_next (clear_up_to n) F o) (after F (lines (clear_next (clear_up_to n) F o)))
    go none e ih = no_more
    go (some c) e ih = rw (after-++ F (clash_lines c) (lines (clear_up_to n (after F (clash_lines c))))) (next (lowest_some F c e) (ih (after F (clash_lines c))))

clears_proper : {h : ℕ} {F G : Formula} {es : List Event} → ProperAll F → Fits h F → Clears F es G → ProperAll G × Fits h G
clears_proper p f no_more = (p, f)
clears_proper {h} {F} p f (next {c = c} l s) = clears_proper (after_proper F c p l) (after_fits F c p l h f) s

clears_sound : {h : ℕ} {F E G : Formula} {es rest L : List Event} {xs : List Line} → ProperAll F → Fits h F → Clears F es E →
    Known h rest E → Sound E rest xs G L → Sound F (es ++ rest) (lines es ++ xs) G L × Known h (es ++ rest) F
unfolding lines lines_of for_each
clears_sound p f no_more w s = (s, w)
clears_sound {h} {F} {rest = rest} {xs = xs} p f (next {c = c} {es = es} l r) w s =
    let q = clears_sound (after_proper F c p l) (after_fits F c p l h f) r w s in
    (rw append_assoc (clash_first h F c (es ++ rest) p l f q.1 q.0), clash_known h F c (es ++ rest) p l q.1)

pub clears_lines_fit : {h : ℕ} {F G : Formula} {es : List Event} → ProperAll F → Fits h F → Clears F es G → (x : Line) → Memᴰ x (lines es) → LineFits h x
unfolding lines lines_of for_each
clears_lines_fit {h} {F} p f (next {c = c} l s) x i = ⊎_elim
    (λ j. clash_lines_fit F c p l f x j)
    (λ j. clears_lines_fit (after_proper F c p l) (after_fits F c p l h f) s x j)
    (Memᴰ.append_cases (clash_lines c) i)
clears_lines_fit {h = h} p f (no_more {F = F}) x i = elim i [ ]

-- as many as clauses are enough
pub empty_none : (F : Formula) → length F ≤ 0 → lowest_clash F ≡ none
unfolding lowest_clash highest_of first_from
empty_none [] b = refl
empty_none (d ∷ F) b = absurd (omega arith)

up_to_none_left : (n : ℕ) (F : Formula) → ProperAll F → length F ≤ n → lowest_clash (after F (lines (clear_up_to n F))) ≡ none
unfolding clear_up_to clear_next lines lines_of for_each after
up_to_none_left zero F p b = empty_none F b
up_to_none_left (suc n) F p b = go (lowest_clash F) refl (up_to_none_left n)
  where
    go : (o : Option Clash) → lowest_clash F ≡ o → ((X : Formula) → ProperAll X → length X ≤ n → lowest_clash (after X (lines (clear_up_to n X))) ≡ none) →
        lowest_clash (after F (lines (clear_next (clear_up_to n) F o))) ≡ none
    go none e ih = e
    go (some c) e ih =
        let l = lowest_some F c e in
        rw (after-++ F (clash_lines c) (lines (clear_up_to n (after F (clash_lines c)))))
        (ih (after F (clash_lines c)) (after_proper F c p l) (omega (arith, after_shorter F c p l)))

-- ---- all clashes of the formula
pub clashes_clear : (F : Formula) → Clears F (clear_clashes F) (unclashed F)
unfolding clear_clashes unclashed
clashes_clear F = up_to_clears (length F) F

pub clashes_sound : (h : ℕ) (F : Formula) (rest : List Event) {G : Formula} {L : List Event} {xs : List Line} → ProperAll F → Fits h F →
    Known h rest (unclashed F) → Sound (unclashed F) rest xs G L → Sound F (clear_clashes F ++ rest) (lines (clear_clashes F) ++ xs) G L × Known h (clear_clashes F ++ rest) F
clashes_sound h F rest p f w s = clears_sound p f (clashes_clear F) w s

pub unclashed_proper : {h : ℕ} {F : Formula} → ProperAll F → Fits h F → ProperAll (unclashed F) × Fits h (unclashed F)
unclashed_proper {F = F} p f = clears_proper p f (clashes_clear F)

pub no_clash_left : (F : Formula) → ProperAll F → lowest_clash (unclashed F) ≡ none
unfolding clear_clashes unclashed
no_clash_left F p = up_to_none_left (length F) F p (omega arith)
