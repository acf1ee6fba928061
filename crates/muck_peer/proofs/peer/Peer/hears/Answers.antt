use Rattle.std.proofs.Common.{◌≡◌, true, take, ap, ◌∙◌, refl}
use Rattle.muck_laws.proofs.Results.{on_err_given}
use Rattle.muck_links.specs.inner.Cutting.{fed}
use Rattle.muck_links.specs.Sessions.{on_session}
use Rattle.spec_serve.specs.Marks.{LinksNote}
use Rattle.spec_serve.specs.inner.Keeping.{Peer}
use Rattle.muck_peer.specs.Moves.{LinkLoss}
use Rattle.muck_peer.proofs.Stepping.{link_same, link_read, link_end, link_fault, link_lost}
use Rattle.muck_peer.proofs.peer.Peer.hears.Goals as goal

pub returns-in_ok-feed-in-Got-clause-ok : goal.returns-in_ok-feed-in-Got-clause-ok
returns-in_ok-feed-in-Got-clause-ok g c t counted =
    link_read counted _ _ _ _ _ _ _ c.self.view_is (c.in-Got.ensures.told t) (c.in_ok-feed-in-Got.ensures.ok ∙ ap (fed c.self.inside.cutter) c.split_at.ensures.front) refl

pub returns-in-End-clause-ok : goal.returns-in-End-clause-ok
returns-in-End-clause-ok g c t counted = link_end counted _ _ _ _ _ c.self.view_is (c.in-End.ensures.told t) refl

pub returns-in-NotYet-clause-ok : goal.returns-in-NotYet-clause-ok
returns-in-NotYet-clause-ok g c t counted = link_same counted _ _ _ (c.in-NotYet.ensures.told t ∙ ap (λ (q : Peer). on_session q.number (λ s. s) (g.L.Links.told c.args.links.now)) c.self.view_is)

pub returns-in-Fault-clause-ok : goal.returns-in-Fault-clause-ok
returns-in-Fault-clause-ok g c t counted = link_fault counted _ _ _ _ _ c.self.view_is (c.in-Fault.ensures.told t) refl

pub returns-in_err-feed-in-Got-clause-err : goal.returns-in_err-feed-in-Got-clause-err
returns-in_err-feed-in-Got-clause-err g c =
    let lost : g.L.Links.tells c.args.links.now ≡ true → (counted : LinksNote) → LinkLoss counted c.args.self.now (g.L.Links.told c.args.links.now) (g.L.Links.told c.read.new.self) =
    λ t counted. link_lost counted _ _ _ _ (take c.in-Got.n c.read.new.buf) c.self.view_is (c.in-Got.ensures.told t) in
    on_err_given _ _ lost
