use Rattle.std.proofs.Common.{◌≡◌, Bool, true, false, sym, ◌∙◌}
use Rattle.spec_events.specs.Histories.{now}
use Rattle.muck_work.proofs.Idling.{idle_lawful}
use Rattle.muck_work.proofs.jobs.idles.Goals as goal

pub unreachable-requires : goal.unreachable-requires
unreachable-requires c =
    let both : ◌≡◌ {A = Bool} true false = sym (idle_lawful (now c.args.world.now) c.args.party c.requires.few c.requires.alive c.requires.no_line c.requires.no_process) ∙ sym c.idle.ensures.lawful ∙ c.if-not-idle.true in
    cc
