use Rattle.std.proofs.Common.{ap, sym, ◌∙◌, refl, take, drop}
use Rattle.std.proofs.lemmas.List.{drop-drop}
use Rattle.muck_links.specs.Sessions.{on_session, with_written}
use Rattle.muck_peer.proofs.Stepping.{link_written, link_fault, link_refused}
use Rattle.muck_peer.proofs.peer.Peer.sends.Goals as goal

pub returns-in-Put-clause-step : goal.returns-in-Put-clause-step
returns-in-Put-clause-step g c t counted marks =
    link_written counted _ _ _ _ _ c.in-Put.n c.self.view_is (c.in-Put.ensures.told t ∙ ap (λ l. on_session c.self.inside.number (with_written (take c.in-Put.n l)) (g.L.Links.told c.args.links.now)) (c.split_at-2.ensures.back ∙ ap (drop c.self.inside.at) (c.split_at.ensures.front ∙ ap (take c.self.inside.len) c.as_slice.ensures.value)))
    (ap (λ l. record { number = c.self.inside.number; cut = c.self.inside.cutter; unsent = l; ended = c.self.inside.ended; faulted = c.self.inside.faulted; refused = c.self.inside.refused; stalled = c.self.inside.stalled }) (sym (drop-drop c.in-Put.n c.self.inside.at (take c.self.inside.len c.self.inside.buffer.items))))

pub returns-in-NotYet-clause-step : goal.returns-in-NotYet-clause-step
returns-in-NotYet-clause-step g c t counted marks = link_refused counted c.args.noted _ _ _ _ _ marks c.self.view_is (c.in-NotYet.ensures.told t) refl

pub returns-in-Fault-clause-step : goal.returns-in-Fault-clause-step
returns-in-Fault-clause-step g c t counted marks = link_fault counted _ _ _ _ _ c.self.view_is (c.in-Fault.ensures.told t) refl
