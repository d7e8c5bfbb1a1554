-- The choices of a run are proper clauses, and so the laws of alignment apply.
use mathlib.Core.List.{Memᴰ}
use Rattle.definition.specs.Literals.{Clause}
use Rattle.definition.specs.Alignment.{alignment}
use Rattle.definition.specs.Reencoding.{cleared, chosen}
use Rattle.theory_base.specs.Clauses.{Proper}
use Rattle.theory_text.proofs.Accepted.{input_accepted}
use Rattle.theory_alignment.proofs.Groups.{chain_group, group_chain}
use Rattle.theory_alignment.proofs.Aligned.{alignable_agrees, aligned_rising, aligned_stays, arranged_permutes}
use Rattle.theory_room.proofs.Runs.{chosen_arranges}
use Rattle.theorems.specs.Aligning.{AlignmentAgreesHolds}

pub aligning : AlignmentAgreesHolds
unfolding AlignmentAgreesHolds
aligning t i e s = record {
  groups = λ a b. (group_chain (cleared i.formula) (chosen s i) a b, chain_group (cleared i.formula) (chosen s i) a b);
  decides = alignable_agrees (cleared i.formula) (chosen s i) proper;
  sorts = aligned_rising (cleared i.formula) (chosen s i) proper;
  stays = aligned_stays (cleared i.formula) (chosen s i) proper;
  permutes = arranged_permutes alignment (cleared i.formula) (chosen s i);
}
  where
    proper : (c : Clause) → Memᴰ c (chosen s i) → Proper c
    proper c m = let a = input_accepted t i e in (chosen_arranges s i a.proper a.fits c m).0.0
