use Rattle.std.proofs.Common.{rules, arith, ◌≡◌, Err, refl, sym, ◌∙◌, drop}
use Rattle.definition.specs.Text.{words_by}
use Rattle.definition.specs.Answer.{space_or_tab, read_answer_word}
use Rattle.text.proofs.Words.{word_answer}
use Rattle.answer.specs.declared.State.TheVariants.{Open}
use Rattle.answer.specs.Reading.{open_at}
use Rattle.answer.proofs.Reading.{walked_start, walked_step, walked_fault, walked_end}
use Rattle.answer.proofs.read_values.Goals as goal

pub loop-word-init : goal.loop-word-init
loop-word-init c = λ d t. walked_start (read_answer_word c.args.x) Open c.args.marks.now (open_at d) (words_by space_or_tab (drop 2 c.args.line.now)) (d, refl, t)

pub slice_bounds-read_word-count : goal.slice_bounds-read_word-count
slice_bounds-read_word-count c =
    let w = word_answer space_or_tab c.args.line.now c.loop-word.at (sym c.in-Some.is ∙ c.next_word_of_line.ensures) in omega (arith, w.some)

pub slice_bounds-read_word-start : goal.slice_bounds-read_word-start
slice_bounds-read_word-start c =
    let w = word_answer space_or_tab c.args.line.now c.loop-word.at (sym c.in-Some.is ∙ c.next_word_of_line.ensures) in omega (arith, w.some)

pub slice_bounds-read_word-end : goal.slice_bounds-read_word-end
slice_bounds-read_word-end c =
    let w = word_answer space_or_tab c.args.line.now c.loop-word.at (sym c.in-Some.is ∙ c.next_word_of_line.ensures) in omega (arith, w.within)

pub loop-word-smaller : goal.loop-word-smaller
loop-word-smaller c =
    let w = word_answer space_or_tab c.args.line.now c.loop-word.at (sym c.in-Some.is ∙ c.next_word_of_line.ensures) in omega (arith, w.after, w.some, w.within)

pub loop-word-preserved : goal.loop-word-preserved
loop-word-preserved c =
    let w = word_answer space_or_tab c.args.line.now c.loop-word.at (sym c.in-Some.is ∙ c.next_word_of_line.ensures) in
    λ d t. walked_step (read_answer_word c.args.x) c.loop-word.state c.loop-word.marks c.read_word.new.marks _ _ _ _ w.words (c.loop-word.invariant d t) c.in_ok-state.state c.in_ok-state.ensures

pub returns-in_err-state : goal.returns-in_err-state
returns-in_err-state c =
    let w = word_answer space_or_tab c.args.line.now c.loop-word.at (sym c.in-Some.is ∙ c.next_word_of_line.ensures) in
    λ d t. let f = walked_fault (read_answer_word c.args.x) c.loop-word.state c.loop-word.marks c.read_word.new.marks _ _ _ _ w.words (c.loop-word.invariant d t) c.in_err-state.field-0.0 c.in_err-state.ensures in
    let q : c.from_residual.result ≡ Err c.in_err-state.field-0.0 = search rules in
    rw q f

pub returns : goal.returns
returns c =
    λ d t. walked_end (read_answer_word c.args.x) c.loop-word.state c.loop-word.marks _ _
    (word_answer space_or_tab c.args.line.now c.loop-word.at (sym c.in_default.is ∙ c.next_word_of_line.ensures)) (c.loop-word.invariant d t)
