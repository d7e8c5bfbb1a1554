use mathlib.Core.Path.{sym, ◌∙◌}
use Rattle.lookup.proofs.Finding.{found_inside, deleted_found, deleted_none}
use Rattle.lookup.proofs.delete_clause.Goals as goal

pub mark_deleted-requires : goal.mark_deleted-requires
mark_deleted-requires c = found_inside c.requires.0 _ (sym c.find.ensures ∙ c.in-Some.is)

pub returns-in-Some : goal.returns-in-Some
returns-in-Some c = deleted_found c.requires.0 _ (sym c.find.ensures ∙ c.in-Some.is) c.mark_deleted.ensures

pub returns-in_default : goal.returns-in_default
returns-in_default c = deleted_none c.requires.0 _ (sym c.find.ensures ∙ c.in_default.is)
