use native.Mathlib.Omega.{arith}
use Rattle.std.proofs.lemmas.Result.{err_from_is_err_and}
use Rattle.call_read_back.proofs.Outcome.{refused, short, clauses_left, back}
use Rattle.call_read_back.proofs.read_into.Goals as goal

pub returns-then-store-workspace_need : goal.returns-then-store-workspace_need
returns-then-store-workspace_need c =
    short c.args.text.now c.read_back_limits-most.result c.read_back_limits-most.ensures.0 _ c.read.ensures.outcome _ c.in_ok-read.was _
    c.workspace_need.ensures c.args.store.now
    (omega (arith, c.if-store-workspace_need.true, c.read.auto.store))

pub overflow_sub-clauses : goal.overflow_sub-clauses
overflow_sub-clauses c =
    (clauses_left c.args.text.now c.read_back_limits-most.result c.read_back_limits-most.ensures.0 _
    c.read.ensures.outcome _ c.in_ok-read.was).0

pub overflow_cast-result : goal.overflow_cast-result
overflow_cast-result c =
    record {
      fits = omega (
        arith,
        (clauses_left c.args.text.now c.read_back_limits-most.result c.read_back_limits-most.ensures.0 _
            c.read.ensures.outcome _ c.in_ok-read.was).1,
      );
    }

pub returns-in_err-read : goal.returns-in_err-read
returns-in_err-read c =
    let p = err_from_is_err_and c.from_residual.result c.from_residual.ensures.1 in
    rw (p.1, p.2)
    (refused c.args.text.now c.read_back_limits-most.result c.read_back_limits-most.ensures.0 _ c.read.ensures.outcome
    c.args.store.now _ c.in_err-read.was)

pub returns : goal.returns
returns c =
    back c.args.text.now c.read_back_limits-most.result c.read_back_limits-most.ensures.0 _ c.read.ensures.outcome _ c.in_ok-read.was _
    c.workspace_need.ensures c.args.store.now
    (omega (arith, c.if-store-workspace_need.false, c.read.auto.store)) _ c.read.ensures.stored
