use Rattle.text.proofs.Words.{answer_word, answer_end}
use Rattle.text.proofs.word_from.Goals as goal

pub returns-then-start-end : goal.returns-then-start-end
returns-then-start-end g c = λ p t. answer_word p c.args.text.now c.args.at c.run_end-start.result c.run_end-end.result
    (c.run_end-start.ensures p t) (c.run_end-end.ensures p t) c.if-start-end.true

pub returns : goal.returns
returns g c = λ p t. answer_end p c.args.text.now c.args.at c.run_end-start.result c.run_end-end.result
    (c.run_end-start.ensures p t) (c.run_end-end.ensures p t) c.if-start-end.false
