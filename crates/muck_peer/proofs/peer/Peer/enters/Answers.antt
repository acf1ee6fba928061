use Rattle.std.proofs.Common.{true≢false, ap, sym, ◌∙◌, refl}
use Rattle.muck_laws.proofs.Truths.{did_so}
use Rattle.muck_model.specs.declared.event.Event.TheVariants.{Input}
use Rattle.spec_events.specs.Steps.{is_lawful}
use Rattle.spec_events.specs.Histories.{now, entered, by_porter}
use Rattle.spec_serve.specs.inner.Keeping.{Peer}
use Rattle.muck_peer.proofs.Stepping.{step_heard}
use Rattle.muck_peer.proofs.peer.Peer.enters.Goals as goal

pub returns-then-yes : goal.returns-then-yes
returns-then-yes c = (
  Input c.self.inside.number c.in-Some.line,
  c.in-Ok.ensures.step ∙ did_so c.in-Ok.yes c.args.world.now (entered c.args.world.now (by_porter (Input c.self.inside.number c.in-Some.line))) c.if-yes.true,
  step_heard _ _ _ (now c.args.world.now) c.in-Some.line c.next_line.new.self c.self.view_is c.in-Some.ensures.0 c.in-Some.ensures.1 refl,
  (λ w answers. refl),
)

pub unreachable-requires-in-Ok : goal.unreachable-requires-in-Ok
unreachable-requires-in-Ok c =
    true≢false (sym (c.requires.may c.in-Some.line)
    ∙ ap (λ (p : Peer). is_lawful (now c.args.world.now) (by_porter (Input p.number c.in-Some.line))) (sym c.self.view_is)
    ∙ sym c.in-Ok.ensures.lawful ∙ c.if-yes.false)
