use Rattle.std.proofs.Common.{arith, ℕ, ◌∙◌, replicate}
use Rattle.std.proofs.lemmas.List.{length-replicate}
use Rattle.tables.proofs.Laws.{zeros_at_most, fresh_more}
use Rattle.tables.specs.Sizes.{log_size}
use Rattle.drat.proofs.Log.{log_start, log_counted, log_end, log_short, log_refused, next_inside, next_room, log_step}
use Rattle.drat.proofs.read_log.Goals as goal

pub loop-init : goal.loop-init
loop-init c = log_start _ _ 1 (replicate log_size 0) _ (length-replicate {A = ℕ} log_size 0) (fresh_more (replicate log_size 0) 0 (zeros_at_most log_size 0))

pub returns-then-log-at : goal.returns-then-log-at
returns-then-log-at c = log_short c.loop.invariant c.loop-test.true c.if-log-at.true

pub returns-in_default : goal.returns-in_default
returns-in_default c = log_refused c.loop.invariant c.loop-test.true c.if-log-at.false c.in_default.ensures.read

pub overflow_add-at : goal.overflow_add-at
overflow_add-at c = record { fits = omega (arith, next_inside c.loop.invariant c.loop-test.true c.if-log-at.false c.in-Some.ensures.read) }

pub overflow_add-filled-in-loop : goal.overflow_add-filled-in-loop
overflow_add-filled-in-loop c =
    let i = c.loop.invariant in
    let f = c.in-Some.ensures.read in
    record {
      fits = omega (arith, next_inside i c.loop-test.true c.if-log-at.false f, next_room i c.loop-test.true c.if-log-at.false f);
    }

pub loop-preserved : goal.loop-preserved
loop-preserved c =
    log_step c.loop.invariant c.loop-test.true c.if-log-at.false c.in-Some.ensures.read c.max-highest.ensures
    (c.next_stamp-stamp.auto.seen ∙ c.read_line.auto.seen) c.next_stamp-stamp.ensures

pub overflow_sub-result : goal.overflow_sub-result
overflow_sub-result c = omega (arith, log_counted c.loop.invariant)

pub returns : goal.returns
returns c = log_end c.loop.invariant (omega arith)
