use mathlib.Core.Path.{sym, ◌∙◌}
use Rattle.progress.proofs.Growing.{put_there, never_full, grown_put}
use borrow.Author.Rules.{rules}
use Rattle.progress.proofs.add_clause.Goals as goal

pub record_added-requires : goal.record_added-requires
record_added-requires c =
    let t = put_there _ c.requires.0 c.requires.1 (sym c.append_clause.ensures.end ∙ c.in-Some.is)
    c.append_clause.ensures.written in
    record { indexed = (t.indexed, t.there); end_in_bounds = t.space; at_bound = search (rules) }

pub returns-in-Some : goal.returns-in-Some
returns-in-Some c =
    grown_put
    (put_there _ c.requires.0 c.requires.1 (sym c.append_clause.ensures.end ∙ c.in-Some.is)
    c.append_clause.ensures.written) c.record_added.ensures

pub returns-in-None : goal.returns-in-None
returns-in-None c = never_full _ c.requires.0 c.requires.1 (sym c.append_clause.ensures.end ∙ c.in-None.is)
