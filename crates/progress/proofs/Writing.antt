-- Laws of writing a deletion with a literal first. Assumes nothing.
use mathlib.Core.Path.{◌≡◌, refl, sym, ap, subst, ◌∙◌}
use mathlib.Core.Bool.{Bool, true, false, not, cond}
use mathlib.Core.List.{List, [], ◌∷◌, ◌++◌, append-nil, append_assoc}
use Prim.Native.Nat.{ℕ, ◌+◌, ◌*◌, ◌≤◌, ◌<◌, ◌^◌}
use native.Mathlib.Omega.{arith}
use native.Mathlib.Numerals.{add-one}
use lib.IntN.{ℤ, pos}
use lib.ListN.{length, get_or, take, drop, length-take}
use lib.Seq.{take-suc, take_all}
use borrow.Author.Tests.{eq-eqb, ne_eqb}
use mir.Syntax.{w32}
use mir.Val.{SFits, of_z, to_z}
use mir.ValLaws.{to_z-of_z}
use Rattle.definition.specs.Lists.{those, for_each}
use Rattle.definition.specs.Literals.{Clause, same, without, with_first}
use Rattle.definition.specs.Text.{Bytes, bytes, literal_text}
use Rattle.definition.specs.Standing.{deletion}
use Rattle.definition.specs.Log.{clause_text, log_line_text}
use Rattle.literals.specs.Literal.{header_literals}
use Rattle.theory_base.proofs.Loops.{for_each-++}
use Rattle.literals.proofs.Laws.{at_arg, answer, literals_within}
use Rattle.literals.proofs.Bits.{same_bits}
use Rattle.theory_text.specs.ClauseText.{literals_text}
use Rattle.store.specs.Store.{header_at, size_at, clause_at, past}
use Rattle.text.specs.Output.{Put}
use Rattle.text.proofs.Output.{put_none, put_then, put_same, put_length}
use Rattle.progress.specs.declared.Progress.{Progress}
use Rattle.progress.specs.Progress.{Written}

-- ---- the literals without the first one

pub without-++ : (x : ℤ) (a b : Clause) → without x (a ++ b) ≡ without x a ++ without x b
unfolding without those
without-++ x [] b = refl
without-++ x (l ∷ a) b = go (not (same x l)) (without-++ x a b)
  where
    go : (t : Bool) → those (λ m. not (same x m)) (a ++ b) ≡ those (λ m. not (same x m)) a ++ those (λ m. not (same x m)) b →
        cond t (l ∷ those (λ m. not (same x m)) (a ++ b)) (those (λ m. not (same x m)) (a ++ b)) ≡ cond t (l ∷ those (λ m. not (same x m)) a) (those (λ m. not (same x m)) a) ++ those (λ m. not (same x m)) b
    go true e = ap (λ (c : Clause). l ∷ c) e
    go false e = e

texts-++ : (a b : Clause) → literals_text (a ++ b) ≡ literals_text a ++ literals_text b
unfolding literals_text
texts-++ a b = for_each-++ a b (λ l. literal_text l ++ bytes " ")

-- one literal
pub skipped : (x : Bytes) (at : ℕ) (f l : ℤ) → SFits w32 f → SFits w32 l → of_z w32 f ≡ of_z w32 l → Put x at (literals_text (without f (l ∷ []))) at x
unfolding without those literals_text for_each
skipped x at f l a b e = let d : same f l ≡ true = sym (same_bits f l a b) ∙ eq-eqb _ _ e in rw d (put_none x at)

pub one_other : {x y : Bytes} {at r : ℕ} (f l : ℤ) → SFits w32 f → SFits w32 l → (of_z w32 f ≡ of_z w32 l → ⊥) → Put x at (literal_text (to_z w32 (of_z w32 l)) ++ bytes " ") r y → Put x at (literals_text (without f (l ∷ []))) r y
unfolding without those literals_text for_each
one_other f l a b n p =
    let d : same f l ≡ false = sym (same_bits f l a b) ∙ ne_eqb _ _ n in
    rw d (put_same p (at_arg (λ (z : ℤ). literal_text z ++ bytes " ") l b ∙ sym (append-nil (literal_text l ++ bytes " "))))

-- the first i literals, without f
pub record Others (old : Bytes) (at : ℕ) (f : ℤ) (c : Clause) (i end : ℕ) (buf : Bytes) : Type 0 where
  pub inside : i ≤ length c
  pub size : length buf ≡ length old
  pub within : end ≤ at + 12 * i
  pub put : Put old at (literals_text (without f (take i c))) end buf

pub others_start : (old : Bytes) (at : ℕ) (f : ℤ) (c : Clause) → Others old at f c 0 at old
unfolding literals_text for_each without those
others_start old at f c = record { inside = omega arith; size = refl; within = omega arith; put = put_none old at }

others_more : (f : ℤ) (c : Clause) (i : ℕ) → i < length c → literals_text (without f (take i c)) ++ literals_text (without f (get_or c i (pos 0) ∷ [])) ≡ literals_text (without f (take (i + 1) c))
others_more f c i h =
    rw (add-one i, take-suc c i (pos 0) h, without-++ f (take i c) (get_or c i (pos 0) ∷ []), texts-++ (without f (take i c)) (without f (get_or c i (pos 0) ∷ [])))

pub others_step : {old buf new : Bytes} {at i end r : ℕ} {f : ℤ} {c : Clause} → Others old at f c i end buf → i < length c →
    SFits w32 (get_or c i (pos 0)) → Put buf end (literals_text (without f (to_z w32 (of_z w32 (get_or c i (pos 0))) ∷ []))) r new → r ≤ end + 12 →
    Others old at f c (i + 1) r new
others_step {i = i} {f = f} {c = c} s h b p w =
    let q = put_same p (at_arg (λ (y : ℤ). literals_text (without f (y ∷ []))) (get_or c i (pos 0)) b) in record {
      inside = omega arith;
      size = put_length p ∙ s.size;
      within = omega (arith, s.within);
      put = put_same (put_then s.put q) (others_more f c i h);
    }

pub others_end : {old buf : Bytes} {at i end : ℕ} {f : ℤ} {c : Clause} → SFits w32 f → Others old at (to_z w32 (of_z w32 f)) c i end buf → length c ≤ i → Put old at (literals_text (without f c)) end buf × (end ≤ at + 12 * length c)
others_end {i = i} {f = f} {c = c} a s h = (put_same s.put (at_arg (λ (z : ℤ). literals_text (without z (take i c))) f a ∙ ap (λ (k : Clause). literals_text (without f k)) (take_all i c h)), omega (arith, s.inside, s.within))

-- ---- the line

pub first_put : {x₀ x₁ x₂ x₃ : Bytes} {at a b r : ℕ} (f : ℤ) → SFits w32 f → Put x₀ at (100 ∷ []) a x₁ → Put x₁ a (32 ∷ []) b x₂ →
    Put x₂ b (literal_text (to_z w32 (of_z w32 f)) ++ bytes " ") r x₃ → Put x₀ at (bytes "d " ++ literal_text f ++ bytes " ") r x₃
unfolding bytes
first_put f s p q t = put_then (put_then p q) (put_same t (at_arg (λ (z : ℤ). literal_text z ++ bytes " ") f s))

pub line_put : {x₀ x₁ x₂ x₃ x₄ : Bytes} {at a b e r : ℕ} (f : ℤ) (c : Clause) → SFits w32 f →
    Put x₀ at (bytes "d " ++ literal_text (to_z w32 (of_z w32 f)) ++ bytes " ") a x₁ → Put x₁ a (literals_text (without (to_z w32 (of_z w32 f)) c)) b x₂ →
    Put x₂ b (48 ∷ []) e x₃ → Put x₃ e (10 ∷ []) r x₄ → Put x₀ at (log_line_text (deletion (with_first f c))) r x₄
unfolding bytes log_line_text clause_text literals_text for_each with_first
line_put f c s p q t u =
    let p' = put_same p (at_arg (λ (z : ℤ). bytes "d " ++ literal_text z ++ bytes " ") f s) in
    let q' = put_same q (at_arg (λ (z : ℤ). literals_text (without z c)) f s) in
    put_same (put_then (put_then (put_then p' q') t) u) (simp append_assoc)

-- ---- a clause of a store deleted

-- the place past it, by what its header answers
pub past_is : (s : List ℤ) (at : ℕ) {n : ℕ} → SFits w32 (header_at s at) → n ≡ header_literals (to_z w32 (of_z w32 (header_at s at))) → at + (1 + n) ≡ past s at
past_is s at f e = ap (λ (n : ℕ). at + (1 + n)) (answer header_literals (header_at s at) f e)

-- its line
pub clause_written : {x y : Bytes} {p q : Progress} {c : Clause} (l : ℤ) (d : Clause) → SFits w32 l → c ≡ d → Written (deletion (with_first (to_z w32 (of_z w32 l)) c) ∷ []) x p y q → Written (deletion (with_first l d) ∷ []) x p y q
clause_written {x} {y} {p} {q} {c} l d f e w =
    subst (λ (c : Clause). Written (deletion (with_first l c) ∷ []) x p y q) e
    (subst (λ (z : ℤ). Written (deletion (with_first z c) ∷ []) x p y q) (to_z-of_z w32 l f) w)

-- it is short enough for a line
pub clause_short : (s : List ℤ) (at : ℕ) → SFits w32 (header_at s at) → length (clause_at s at) < 2 ^ 31
clause_short s at f = omega (arith, literals_within (header_at s at) f, length-take (size_at s at) (drop (at + 1) s))
