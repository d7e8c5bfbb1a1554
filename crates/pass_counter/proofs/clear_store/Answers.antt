use Rattle.pass_counter.proofs.Taking.{first_reached}
use Rattle.pass_counter.proofs.clear_store.Goals as goal

pub delete_clause-requires : goal.delete_clause-requires
delete_clause-requires c = (c.requires.indexed_2.0, c.requires.fit_all.1, first_reached c.requires.fit_all.0 c.requires.fit_all.1)
