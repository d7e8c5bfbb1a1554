-- The text of a header, and of the clauses that stand in a store. Assumes nothing.
use mathlib.Core.Path.{◌≡◌, refl, sym, ap, ◌∙◌}
use mathlib.Core.Bool.{Bool, true, false, cond}
use mathlib.Core.List.{List, [], ◌∷◌, ◌++◌, append-nil, append_assoc}
use Prim.Native.Nat.{ℕ, zero, suc, ◌+◌, ◌*◌, ◌≤◌}
use native.Mathlib.Omega.{arith}
use lib.IntN.{ℤ}
use lib.ListN.{length, take, length-take}
use Rattle.definition.specs.Lists.{for_each}
use Rattle.definition.specs.Literals.{Clause, Formula}
use Rattle.definition.specs.Text.{Bytes, bytes, digits}
use Rattle.definition.specs.Log.{clause_text, formula_text}
use Rattle.definition.specs.Calls.{numbers_of}
use Rattle.theory_base.proofs.Clauses.{numbers_none, numbers_first}
use Rattle.literals.specs.Literal.{negative, header_literals}
use Rattle.text.specs.Output.{Put}
use Rattle.text.proofs.Output.{put_none, put_then, put_same}
use Rattle.store.specs.Store.{FormedFrom, Formed, stored_from, stored}
use Rattle.dimacs.specs.FormulaText.{header_text}

-- ---- what stands in a store is no longer than the store

stored_short : (k : ℕ) (s : List ℤ) → FormedFrom k s → numbers_of (stored_from k s) + k ≤ length s
unfolding stored_from
stored_short zero [] f = omega (arith, numbers_none)
stored_short (suc k) [] f = absurd f
stored_short (suc k) (x ∷ s) f = omega (arith, stored_short k s f)
stored_short zero (h ∷ s) f = go (negative h) (stored_short (header_literals h) s f)
  where
    n : ℕ
    n = header_literals h

    go : (x : Bool) → numbers_of (stored_from n s) + n ≤ length s → numbers_of (cond x (stored_from n s) (take n s ∷ stored_from n s)) + 0 ≤ length (h ∷ s)
    go true e = omega arith
    go false e = omega (arith, numbers_first (take n s) (stored_from n s), length-take n s)

-- ---- the loop: the clauses before those that are left are written

pub record Written (old : Bytes) (from : ℕ) (s : List ℤ) (left : Formula) (end : ℕ) (buf : Bytes) : Type 0 where
  pub within : end + 12 * numbers_of left ≤ from + 12 * length s
  pub done : Bytes
  pub put : Put old from done end buf
  pub whole : done ++ for_each left clause_text ≡ for_each (stored s) clause_text

pub written_start : (old : Bytes) (from : ℕ) (s : List ℤ) → Formed s → Written old from s (stored s) from old
written_start old from s f = record { within = omega (arith, stored_short 0 s f); done = []; put = put_none old from; whole = refl }

module _ {old buf : Bytes} {from end : ℕ} {s : List ℤ} {left : Formula} (p : Written old from s left end buf) where
  module _ {c : Clause} {more : Formula} (e : left ≡ c ∷ more) where
    numbers_left : numbers_of left ≡ 1 + length c + numbers_of more
    numbers_left = rw e (numbers_first c more)

    -- there is room for a clause more
    pub written_room : end + 12 * length c + 12 ≤ from + 12 * length s
    written_room = omega (arith, p.within, numbers_left)

    pub written_more : {new : Bytes} {r : ℕ} → Put buf end (clause_text c) r new → r ≤ end + 12 * length c + 2 → Written old from s more r new
    unfolding for_each
    written_more q w = record {
      within = omega (arith, p.within, numbers_left);
      done = p.done ++ clause_text c;
      put = put_then p.put q;
      whole = append_assoc p.done (clause_text c) (for_each more clause_text) ∙ ap (λ (f : Formula). p.done ++ for_each f clause_text) (sym e) ∙ p.whole;
    }

  pub written_all : left ≡ [] → Put old from (for_each (stored s) clause_text) end buf
  unfolding for_each
  written_all e = put_same p.put (sym (append-nil p.done) ∙ ap (λ (f : Formula). p.done ++ for_each f clause_text) (sym e) ∙ p.whole)

-- ---- the header, then the clauses

pub header_put : {x₀ x₁ x₂ x₃ x₄ x₅ : Bytes} {at a b c d r : ℕ} (h m : ℕ) → Put x₀ at (112 ∷ 32 ∷ 99 ∷ 110 ∷ 102 ∷ 32 ∷ []) a x₁ →
    Put x₁ a (digits h) b x₂ → Put x₂ b (32 ∷ []) c x₃ → Put x₃ c (digits m) d x₄ → Put x₄ d (10 ∷ []) r x₅ → Put x₀ at (header_text h m) r x₅
unfolding header_text bytes
header_put h m p q s t u = put_then (put_then (put_then (put_then p q) s) t) u

pub formula_put : {x y z : Bytes} {m end r : ℕ} (h : ℕ) (f : Formula) → m ≡ length f → Put x 0 (header_text h m) end y → Put y end (for_each f clause_text) r z → Put x 0 (formula_text h f) r z
unfolding header_text formula_text
formula_put h f e p q = put_then (rw e at p) q
