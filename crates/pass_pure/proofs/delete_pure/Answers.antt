-- A pass over the store's own part of the workspace is one over the workspace.
use Rattle.pass_pure.proofs.Pass.{passable, part_keeps_index}
use Rattle.pass_pure.proofs.delete_pure.Goals as goal

pub delete_all-requires : goal.delete_all-requires
delete_all-requires c = passable c.requires.0 c.requires.1 c.count_all.ensures

pub returns-clause-index : goal.returns-clause-index
returns-clause-index c = part_keeps_index c.args.work.now c.delete_all.new.work c.args.p.end c.delete_all.ensures.kept c.delete_all.ensures.same
