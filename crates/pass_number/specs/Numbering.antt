-- Choices numbered one after another, with the step g; a table of weights says how many input clauses each has.
use Rattle.std.specs.Prelude.{◌≡◌, ℕ, ◌+◌, ◌≤◌, ◌^◌, ℤ, length}
use mathlib.Core.List.{List, [], ◌∷◌, Memᴰ}
use Rattle.std.proofs.lemmas.List.Edits.{sets}
use Rattle.definition.specs.Lists.{sum_of}
use Rattle.definition.specs.Literals.{Clause}
use Rattle.theory_room.specs.Choices.{used_after}
use Rattle.theory_run.specs.Table.{taken_records}
use Rattle.tables.specs.Entries.{entry_of}
use Rattle.store.specs.Store.{Formed, stored}
use Rattle.records.specs.declared.ChoiceRecord.{ChoiceRecord}
use Rattle.records.specs.Rows.{rows_of}
use Rattle.pass_number.specs.declared.Numbered.{Numbered}

-- 1 and the weights of the literals
abbrev pub weighed : List ℕ → Clause → ℕ
weighed w l = sum_of (entry_of w) l + 1

-- what numbering choices asks for, where n is the highest variable used and m choices are numbered: all stays small, and there is room for the rows
pub record Numberable (g : ℕ) (ls : List Clause) (w : List ℕ) (rows : List ChoiceRecord) (n m : ℕ) : Type 0 where
  pub step_least : 1 ≤ g
  pub step_most : g ≤ 100
  pub low : used_after g (λ l. l) n ls ≤ 200_000
  pub few : (x : ℤ) → entry_of w x ≤ 2 ^ 20
  pub least : (l : Clause) → Memᴰ l ls → 1 ≤ length l
  pub most : (l : Clause) → Memᴰ l ls → length l ≤ 64
  pub room : m + length ls ≤ length rows

-- the choices ls are numbered, and their rows written behind those of the m before
pub record Numbers (g : ℕ) (ls : List Clause) (w : List ℕ) (rows : List ChoiceRecord) (n m : ℕ) (new : List ChoiceRecord) (r : Numbered) : Type 0 where
  pub choices : r.choices ≡ m + length ls
  pub highest : r.highest ≡ used_after g (λ l. l) n ls
  pub written : new ≡ sets rows m (rows_of (taken_records g (λ l. l) (weighed w) n ls))

-- ---- one choice
abbrev pub OneReady : ℕ → Clause → List ℕ → List ChoiceRecord → Numbered → Type 0
OneReady g l w rows m = Numberable g (l ∷ []) w rows m.highest m.choices

abbrev pub NumberedOne : ℕ → Clause → List ℕ → List ChoiceRecord → Numbered → List ChoiceRecord → Numbered → Type 0
NumberedOne g l w rows m new r = Numbers g (l ∷ []) w rows m.highest m.choices new r

-- ---- all choices of a store
pub record AllReady (g : ℕ) (chosen : List ℤ) (w : List ℕ) (rows : List ChoiceRecord) (n : ℕ) : Type 0 where
  pub formed : Formed chosen
  pub ready : Numberable g (stored chosen) w rows n 0

abbrev pub NumberedAll : ℕ → List Clause → List ℕ → List ChoiceRecord → ℕ → List ChoiceRecord → Numbered → Type 0
NumberedAll g ls w rows n new r = Numbers g ls w rows n 0 new r
