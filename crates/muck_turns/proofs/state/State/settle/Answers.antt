use Rattle.std.proofs.Common.{◌≡◌, List, sym, ◌∙◌, ap, arith}
use Rattle.spec_live.specs.Objects.{Entry}
use Rattle.spec_live.specs.Lives.{on_objects}
use Rattle.spec_events.specs.World.{World, on_live}
use Rattle.spec_events.specs.Following.{settled}
use Rattle.muck_turns.specs.inner.Followed.{followed_change}
use Rattle.muck_turns.specs.contracts.state.State as state
use Rattle.muck_turns.proofs.Settling.{marks, tells, told_none, settled_none, objects_followed}
use Rattle.muck_turns.proofs.state.State.settle.Goals as goal

abbrev there : List Entry → World → World
there es w = on_live (on_objects (λ _. es)) w

pub loop-changed-smaller : goal.loop-changed-smaller
loop-changed-smaller c =
    let w = state.the_view c.self.inside in
    let t = tells w c.in-Some.changed (sym c.next_changed.ensures.told ∙ c.in-Some.is) in
    let before : marks w.live.objects ≡ marks c.loop-changed.self.live.objects = ap (λ (v : World). marks v.live.objects) c.self.view_is in
    let after : marks c.follow.new.self.live.objects ≡ marks c.next_changed.new.self = ap (λ (v : World). marks v.live.objects) c.follow.ensures ∙ ap marks (objects_followed c.in-Some.changed (there c.next_changed.new.self w)) in
    omega (arith, t.fewer, before, after, ap marks c.next_changed.ensures.left)

pub loop-changed-preserved : goal.loop-changed-preserved
loop-changed-preserved c =
    let w = state.the_view c.self.inside in
    let t = tells w c.in-Some.changed (sym c.next_changed.ensures.told ∙ c.in-Some.is) in
    ap settled c.follow.ensures
    ∙ ap (λ es. settled (followed_change c.in-Some.changed (there es w))) c.next_changed.ensures.left
    ∙ t.same ∙ ap settled c.self.view_is ∙ c.loop-changed.invariant

pub returns : goal.returns
returns c =
    let w = state.the_view c.self.inside in
    let none = sym c.next_changed.ensures.told ∙ c.in_default.is in
    ap (λ es. there es w) (c.next_changed.ensures.left ∙ told_none w.live.objects none)
    ∙ settled_none w none ∙ ap settled c.self.view_is ∙ c.loop-changed.invariant
