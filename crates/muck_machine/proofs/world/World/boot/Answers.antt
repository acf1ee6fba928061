use Rattle.std.proofs.Common.{refl, sym, subst, ◌∙◌}
use Rattle.spec_live.specs.Stood.{IsStill}
use Rattle.muck_queue.specs.inner.Numbered.{IsNumbered}
use Rattle.spec_events.specs.World.{World}
use Rattle.spec_events.specs.inner.Sound.{IsSound}
use Rattle.spec_events.proofs.Numbers.{rising_booted}
use Rattle.spec_events.proofs.Reached.{sound-booted}
use Rattle.muck_turns.specs.inner.Hooks.{AreTold}
use Rattle.muck_machine.proofs.Keepings.{told_begun, still_begun, keeps_begun}
use Rattle.muck_machine.proofs.Taken.{booted_so}
use Rattle.muck_machine.proofs.world.World.boot.Goals as goal

pub invariant_of-result : goal.invariant_of-result
invariant_of-result c =
    let begins = sym c.in_ok-origin.ensures in
    keeps_begun _ _ c.in_ok-tale.ensures refl (subst IsSound begins (sound-booted _ _ _ _ c.requires.tune))
    (subst (λ (w : World). AreTold w.live.objects) begins (told_begun _ _ _ _ c.requires.told))
    (subst (λ (w : World). IsStill w.live.objects) begins (still_begun _ _ _ _ c.requires.still))
    (subst (λ (w : World). IsNumbered w.queue) begins (rising_booted _ _ _ _))
    (booted_so c.args.from.db c.args.from.tune c.args.moment c.args.start _ _ _ _ c.new-3.ensures c.new-4.ensures c.new-5.ensures c.new-6.ensures ∙ begins)
