use mathlib.Core.Path.{subst, ◌∙◌, sym}
use mir.Syntax.{w32}
use mir.Val.{SFits}
use mir.ValLaws.{to_z-of_z}
use Rattle.answer.specs.Reading.{read_literal, StepsOpen}
use lib.IntN.{ℤ}
use Rattle.answer.proofs.Reading.{word_number, word_large, word_none}
use borrow.Author.Rules.{rules}
use Rattle.answer.proofs.read_open_word.Goals as goal

pub returns-in-Ok : goal.returns-in-Ok
returns-in-Ok c =
    let l = c.in-Ok.l in
    let m = c.args.marks.now in
    let f : SFits w32 l = search rules in
    word_number c.args.x c.args.word.now l m c.read_literal.result
    c.read_literal.new.marks (sym c.in-Ok.is ∙ c.read_number.ensures)
    (subst
    (λ (z : ℤ). StepsOpen (λ d. read_literal c.args.x d z) m c.read_literal.result
    c.read_literal.new.marks) (to_z-of_z w32 l f) c.read_literal.ensures)

pub returns-in-Err-TooLarge : goal.returns-in-Err-TooLarge
returns-in-Err-TooLarge c =
    λ d t. word_large c.args.x c.args.word.now (search rules)
    (sym (rw c.in-Err-TooLarge.field-0-is at c.in-Err-TooLarge.is) ∙ c.read_number.ensures) d

pub returns-in-Err-NotANumber : goal.returns-in-Err-NotANumber
returns-in-Err-NotANumber c =
    λ d t. word_none c.args.x c.args.word.now
    (sym (rw c.in-Err-NotANumber.field-0-is at c.in-Err-NotANumber.is) ∙ c.read_number.ensures) d
