use mathlib.Core.Path.{sym}
use Prim.Native.Nat.{◌-◌}
use Rattle.literals.specs.Literal.{negation}
use Rattle.literals.proofs.Laws.{answer}
use Rattle.pairs.specs.Pairs.{literal_at}
use Rattle.pass_counter.proofs.Links.{grow_as, grown_as, link_3_made}
use borrow.Author.Rules.{rules, sfits_of}
use Rattle.pass_counter.proofs.put_link_3.Goals as goal

pub add_clause-requires : goal.add_clause-requires
add_clause-requires c =
    let a = c.args in (
      search rules,
      grow_as c.requires.grow_room
          (sym
          (link_3_made c.requires.small.0 a.i c.requires.small.1 c.requires.small.2 (sfits_of c.negated-not_l.type_inv) (sfits_of c.signed-not_s.type_inv)
          (answer negation (literal_at a.choice.now.literals.now (a.i - 1)) (sfits_of c.negated-arg-1.given) c.negated-not_l.ensures)
          c.signed-not_s.ensures)),
    )

pub returns : goal.returns
returns c =
    let a = c.args in
    grown_as c.add_clause.ensures
    (link_3_made c.requires.small.0 a.i c.requires.small.1 c.requires.small.2 (sfits_of c.negated-not_l.type_inv) (sfits_of c.signed-not_s.type_inv)
    (answer negation (literal_at a.choice.now.literals.now (a.i - 1)) (sfits_of c.negated-arg-1.given) c.negated-not_l.ensures)
    c.signed-not_s.ensures)
