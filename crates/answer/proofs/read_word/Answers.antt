use mathlib.Core.Logic.{inl, inr}
use Rattle.answer.proofs.Reading.{word_waiting, word_open, word_closed}
use Rattle.answer.proofs.read_word.Goals as goal

pub returns-in-Waiting : goal.returns-in-Waiting
returns-in-Waiting c = elim c.in-Waiting.is [
  | inl e ↦ rw e (word_waiting c.args.x c.args.word.now c.args.marks.now c.read_open_word.result c.read_open_word.new.marks c.read_open_word.ensures)
  | inr e ↦ rw e (word_open c.args.x c.args.word.now c.args.marks.now c.read_open_word.result c.read_open_word.new.marks c.read_open_word.ensures)
]

pub returns-in-Closed : goal.returns-in-Closed
returns-in-Closed c = rw c.in-Closed.is (word_closed c.args.x c.args.word.now c.args.marks.now)
