-- The choices at their turns: those left can be numbered, and once they are, all are.
use Rattle.std.proofs.Common.{◌≡◌, List, [], ◌∷◌, ℕ}
use Rattle.definition.specs.Literals.{Clause}
use Rattle.records.specs.declared.ChoiceRecord.{ChoiceRecord}
use Rattle.pass_number.specs.declared.Numbered.{Numbered}
use Rattle.pass_number.specs.Numbering.{Numberable, Numbers, OneReady, NumberedOne}
use Rattle.pass_number.proofs.Numbering.{none_numbered, numbers_join, numberable_first, numberable_rest}

-- ls are all choices, `left` those still to come
pub record Turns (g : ℕ) (ls : List Clause) (w : List ℕ) (rows₀ : List ChoiceRecord) (n : ℕ) (rows : List ChoiceRecord) (m : Numbered) (left : List Clause) : Type 0 where
  pub ready : Numberable g left w rows m.highest m.choices
  pub whole : (new : List ChoiceRecord) (r : Numbered) → Numbers g left w rows m.highest m.choices new r → Numbers g ls w rows₀ n 0 new r

-- before the first
abbrev pub none_yet : ℕ → Numbered
none_yet n = record { choices = 0; highest = n }

pub turns_start : {g : ℕ} {ls : List Clause} {w : List ℕ} {rows : List ChoiceRecord} {n : ℕ} → Numberable g ls w rows n 0 → Turns g ls w rows n rows (none_yet n) ls
turns_start a = record { ready = a; whole = λ new r b. b }

module _ {g : ℕ} {ls : List Clause} {w : List ℕ} {rows₀ : List ChoiceRecord} {n : ℕ} {rows : List ChoiceRecord} {m : Numbered} {left : List Clause} (t : Turns g ls w rows₀ n rows m left) where
  module _ {l : Clause} {rest : List Clause} (e : left ≡ l ∷ rest) where
    ready_here : Numberable g (l ∷ rest) w rows m.highest m.choices
    ready_here = rw (← e) t.ready

    pub one_ready : OneReady g l w rows m
    one_ready = numberable_first (l ∷ []) rest ready_here

    pub turns_next : {new : List ChoiceRecord} {r : Numbered} → NumberedOne g l w rows m new r → Turns g ls w rows₀ n new r rest
    turns_next a = record {
      ready = numberable_rest (l ∷ []) rest ready_here a;
      whole = λ last q b. t.whole last q (rw e (numbers_join a b));
    }

  pub turns_end : left ≡ [] → Numbers g ls w rows₀ n 0 rows m
  turns_end e = t.whole rows m (rw e (none_numbered g w rows m))
