use mathlib.Core.Path.{sym, ap, ◌∙◌}
use native.Mathlib.Omega.{arith}
use lib.IntN.{ℤ}
use lib.ListN.{set}
use borrow.Author.Rules.{rules, sfits_of}
use Rattle.std.proofs.lemmas.Result.{err_from_is_err_and}
use Rattle.definition.specs.Checked.{value}
use Rattle.literals.proofs.Laws.{at_arg}
use Rattle.dimacs.proofs.Gathering.{going_start, going_end, going_word, handed_on, going_fault, going_kept, going_on, going_refused, going_left_out}
use Rattle.dimacs.proofs.ClauseReader.gather.Goals as goal

pub loop-word-init : goal.loop-word-init
loop-word-init c = going_start c.args.variables c.args.number c.args.text.now c.args.self.now c.requires.fresh

pub slice_bounds-number_item-count : goal.slice_bounds-number_item-count
slice_bounds-number_item-count c = omega (arith, (going_word c.loop-word.invariant c.in-Some.ensures).some)

pub slice_bounds-number_item-start : goal.slice_bounds-number_item-start
slice_bounds-number_item-start c = omega (arith, (going_word c.loop-word.invariant c.in-Some.ensures).some)

pub slice_bounds-number_item-end : goal.slice_bounds-number_item-end
slice_bounds-number_item-end c = let f = going_word c.loop-word.invariant c.in-Some.ensures in omega (arith, f.some, f.within)

pub returns-in_err-l : goal.returns-in_err-l
returns-in_err-l c =
    let p = err_from_is_err_and c.from_residual.result c.from_residual.ensures.1 in
    rw (p.1, p.2) (going_fault c.loop-word.invariant c.in-Some.ensures c.in_err-l.ensures)

pub returns-in_default-2 : goal.returns-in_default-2
returns-in_default-2 c =
    going_kept c.loop-word.invariant c.in-Some.ensures c.requires.variables_le_log_reach (omega arith)
    (sym (ap value c.in_default-2.is) ∙ c.in_ok-l.ensures)
    (ap (set c.loop-word.self.held 0) (at_arg (λ (z : ℤ). z) c.header.result (sfits_of c.header.type_inv) ∙ c.header.ensures))

pub skip_clause-requires-clause-from_in_bounds : goal.skip_clause-requires-clause-from_in_bounds
skip_clause-requires-clause-from_in_bounds c = (going_word c.loop-word.invariant c.in-Some.ensures).within

pub returns-in_err-next : goal.returns-in_err-next
returns-in_err-next c =
    let p = err_from_is_err_and c.from_residual-in_err-next.result c.from_residual-in_err-next.ensures.1 in
    let q = handed_on c.in-Some-2.l (search rules) c.in-Some-2.is c.in_ok-l.ensures in
    rw (p.1, p.2) (going_refused c.loop-word.invariant c.in-Some.ensures _ q c.hold.new.self c.in_default-hold.ensures c.in_err-next.ensures)

pub returns-in_default-hold : goal.returns-in_default-hold
returns-in_default-hold c =
    let q = handed_on c.in-Some-2.l (search rules) c.in-Some-2.is c.in_ok-l.ensures in
    going_left_out c.loop-word.invariant c.in-Some.ensures _ q c.hold.new.self c.in_default-hold.ensures c.in_ok-next.ensures

pub loop-word-smaller : goal.loop-word-smaller
loop-word-smaller c = let f = going_word c.loop-word.invariant c.in-Some.ensures in omega (arith, f.after, f.some, f.within)

pub loop-word-preserved : goal.loop-word-preserved
loop-word-preserved c =
    let q = handed_on c.in-Some-2.l (search rules) c.in-Some-2.is c.in_ok-l.ensures in
    going_on c.loop-word.invariant c.in-Some.ensures _ q c.hold.new.self c.in-Some-hold.ensures

pub returns : goal.returns
returns c = going_end c.loop-word.invariant c.in_default.ensures c.ended.ensures
