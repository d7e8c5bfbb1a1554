use mathlib.Core.Path.{ap, ◌∙◌}
use Prim.Native.Nat.{ℕ}
use lib.ListN.{replicate}
use borrow.Author.Rules.{rules}
use Rattle.std.proofs.lemmas.Slice.{overwrites}
use Rattle.call_reencode.specs.Outcome.{shown_table}
use Rattle.records.specs.Rows.{no_record}
use Rattle.call_reencode.proofs.Call.{log_kept, formula_kept, table_filled, table_reaches, zeros}
use Rattle.call_reencode.proofs.reencode.Goals as goal

pub fill-requires : goal.fill-requires
fill-requires c = table_reaches _ _ _ _ _ c.reencode_into-r.ensures c.in-Ok.is

pub returns-in-Ok-clause-log_after : goal.returns-in-Ok-clause-log_after
returns-in-Ok-clause-log_after c = log_kept _ _ _ _ _ c.reencode_into-r.ensures c.in-Ok.is

pub returns-in-Ok-clause-formula_after : goal.returns-in-Ok-clause-formula_after
returns-in-Ok-clause-formula_after c = formula_kept _ _ _ _ _ c.reencode_into-r.ensures c.in-Ok.is

pub returns-in-Ok-clause-table_after : goal.returns-in-Ok-clause-table_after
returns-in-Ok-clause-table_after c = c.fill.ensures ∙ table_filled _ _ _ _ _ c.reencode_into-r.ensures c.in-Ok.is c.args.table.now

pub returns-in-Err-clause-log_after : goal.returns-in-Err-clause-log_after
returns-in-Err-clause-log_after c =
    zeros _ _ _ _ _ c.reencode_into-r.ensures c.in-Err.is 0 (λ o. o.log) c.args.log.now
    (search (rules, overwrites) ∙ ap (λ (n : ℕ). replicate n 0) c.reencode_into-r.auto.log)

pub returns-in-Err-clause-formula_after : goal.returns-in-Err-clause-formula_after
returns-in-Err-clause-formula_after c =
    zeros _ _ _ _ _ c.reencode_into-r.ensures c.in-Err.is 0 (λ o. o.formula) c.args.formula.now
    (search (rules, overwrites) ∙ ap (λ (n : ℕ). replicate n 0) c.reencode_into-r.auto.formula)

pub returns-in-Err-clause-table_after : goal.returns-in-Err-clause-table_after
returns-in-Err-clause-table_after c = zeros _ _ _ _ _ c.reencode_into-r.ensures c.in-Err.is no_record shown_table c.args.table.now (search (rules, overwrites))
