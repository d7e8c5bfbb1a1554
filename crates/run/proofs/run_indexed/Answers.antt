use native.Mathlib.Omega.{arith}
use mathlib.Core.Path.{refl, sym}
use lib.Seq.{length-take-le}
use Rattle.run.specs.Settings.{settings_of}
use Rattle.run.proofs.Phases.{step_is, clear_ready, choosable, take_ready, ran_all}
use Rattle.run.proofs.run_indexed.Goals as goal

pub clear-p-requires : goal.clear-p-requires
clear-p-requires c = (
  clear_ready (settings_of c.args.settings) c.requires.0
      (step_is c.requires.0 c.requires.1 c.step_of-step.ensures),
  c.requires.1,
  refl,
  refl,
)

pub choose-n-requires : goal.choose-n-requires
choose-n-requires c = (choosable (settings_of c.args.settings) c.requires.0 c.clear-p.ensures.runs _ refl, c.clear-p.ensures.indexed)

pub slice_bounds-take_all-end-3 : goal.slice_bounds-take_all-end-3
slice_bounds-take_all-end-3 c =
    sym
    (length-take-le c.choose-n.result c.choose-n.new.chosen
    (omega (arith, c.choose-n.ensures.inside, c.choose-n.ensures.same_size)))

pub take_all-requires : goal.take_all-requires
take_all-requires c = (
  take_ready (settings_of c.args.settings) c.requires.0 c.clear-p.ensures.runs c.choose-n.ensures refl
      c.clear-p.ensures.weighed (step_is c.requires.0 c.requires.1 c.step_of-step.ensures),
  c.clear-p.ensures.indexed,
  c.clear-p.ensures.table,
)

pub returns : goal.returns
returns c =
    ran_all (settings_of c.args.settings) c.requires.0 c.clear-p.ensures.runs c.choose-n.ensures refl
    c.clear-p.ensures.weighed c.take_all.ensures
