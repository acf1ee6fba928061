use Rattle.std.proofs.Common.{refl, ◌∙◌}
use Rattle.muck_laws.proofs.Numbers.{above_last, end_within}
use Rattle.spec_dumps.proofs.Quiet.{quiet_nothing, quiet_on}
use Rattle.muck_run.proofs.Opening.{one_within, opens_plays}
use Rattle.muck_run.proofs.Towards.{serving_begins, serving_goes_on, serving_ends, serving_breaks}
use Rattle.muck_run.proofs.playing.serve_all.Goals as goal

pub loop-d-init : goal.loop-d-init
loop-d-init g c = record { serving = serving_begins _ _ c.requires.alive; quiet = quiet_nothing _ _ refl; opened = c.requires.opened; fine = refl }

pub loop-d-preserved : goal.loop-d-preserved
loop-d-preserved g c = record {
  serving = serving_goes_on _ _ _ _ _ _ _ _ c.loop-d.invariant.serving (end_within _ _ _ c.min-d-end.ensures c.loop-d-test.true) c.in-Ok.ensures.plays;
  quiet = quiet_on _ _ _ c.loop-d.invariant.quiet c.in-Ok.ensures.quiet;
  opened = opens_plays _ _ _ _ _ _ (one_within c.args.most c.loop-d.d) c.in-Ok.ensures.plays c.loop-d.invariant.opened;
  fine = c.in-Ok.ensures.fine ∙ c.loop-d.invariant.fine;
}

pub returns-clause-plays : goal.returns-clause-plays
returns-clause-plays g c = serving_ends _ _ _ _ _ _ c.loop-d.invariant.serving (λ n from below. c.nobody_above.ensures n (above_last c.args.most _ _ n c.min-d-end.ensures c.loop-d-test.false from below))

pub returns-in-Err-clause-plays : goal.returns-in-Err-clause-plays
returns-in-Err-clause-plays g c = serving_breaks _ _ _ _ _ _ _ _ _ c.loop-d.invariant.serving (end_within _ _ _ c.min-d-end.ensures c.loop-d-test.true) c.in-Err.ensures.plays

pub returns-in-Err-clause-quiet : goal.returns-in-Err-clause-quiet
returns-in-Err-clause-quiet g c = quiet_on _ _ _ c.loop-d.invariant.quiet c.in-Err.ensures.quiet
