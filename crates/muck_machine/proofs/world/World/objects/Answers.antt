use Rattle.std.proofs.Common.{ap, ◌∙◌}
use Rattle.std.specs.Prelude.{not}
use Rattle.std.specs.List.{count_by}
use Rattle.spec_live.specs.Objects.{is_garbage}
use Rattle.spec_events.specs.World.{World}
use Rattle.muck_machine.proofs.Keepings.{reads}
use Rattle.muck_machine.proofs.world.World.objects.Goals as goal

pub returns : goal.returns
returns c =
    reads (λ w. count_by (λ e. not (is_garbage e.object.kind)) w.live.objects) _ c.self.inside.past _ _ c.self.invariant c.self.view_is
    (c.objects.ensures ∙ ap (λ (w : World). count_by (λ e. not (is_garbage e.object.kind)) w.live.objects) c.state.view_is)
