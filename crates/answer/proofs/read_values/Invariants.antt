use Rattle.std.proofs.Common.{◌-◌, length, drop}
use Rattle.definition.specs.Checked.{through}
use Rattle.definition.specs.Text.{words_by}
use Rattle.definition.specs.Literals.{Clause}
use Rattle.definition.specs.Answer.{space_or_tab, read_answer_word}
use Rattle.answer.specs.Table.{Table}
use Rattle.answer.specs.Reading.{open_at}
use Rattle.answer.proofs.Reading.{Walked}
use Rattle.answer.proofs.read_values.Given as goal

abbrev pub invariant-loop-word : goal.invariant-loop-word
invariant-loop-word l =
    (c : Clause) → Table c l.initial.marks → Walked l.state l.marks (λ a. through (read_answer_word l.x) a (words_by space_or_tab (drop l.at l.line))) (through (read_answer_word l.x) (open_at c) (words_by space_or_tab (drop 2 l.line)))

abbrev pub decreases-loop-word : goal.decreases-loop-word
decreases-loop-word l = length l.line - l.at
