use Rattle.std.proofs.Common.{◌≡◌, Bool, true, false, sym, ◌∙◌}
use Rattle.spec_events.specs.Histories.{now}
use Rattle.muck_dumper.proofs.Due.{sees_lawful}
use Rattle.muck_dumper.proofs.deeds.sees_stop.Goals as goal

pub unreachable-requires : goal.unreachable-requires
unreachable-requires c =
    let both : ◌≡◌ {A = Bool} true false = sym (sees_lawful (now c.args.world.now) c.requires.alive c.requires.stopping) ∙ sym c.stopped.ensures.lawful ∙ c.if-not-stopped.true in
    cc
