use Rattle.std.proofs.Common.{inr, refl, sym, ◌∙◌, Some}
use Rattle.muck_crew.specs.inner.Kept.{account}
use Rattle.muck_server.proofs.Deaf.{same_sessions, told_port}
use Rattle.muck_server.proofs.Called.{call_served, call_deaf}
use Rattle.muck_server.proofs.serving.serve.Goals as goal

-- all parts served
pub returns-in-Some : goal.returns-in-Some
returns-in-Some g c = record {
  served = λ mounted mounting fresh mount. (let clock = g.C.Clock.answers c.args.clock.now in let links = c.args.links.now in let s = c.serve_links.new in
      inr (call_served (g.L.Links.tells links) g.D.Disk.tells (account (g.L.Links.told links) (g.L.Links.listening links) clock)
      (account (g.L.Links.told s.links) (g.L.Links.listening s.links) (g.C.Clock.answers s.clock))
      g.D.Disk.seen g.D.Disk.moment g.D.Disk.images g.D.Disk.faults c.args.workers c.args.port mounted mounting (Some c.args.log) c.args.first.now c.args.second.now s.first s.second
      c.args.world c.in-Some.world c.into_tale-in-Some.result.entries c.into_tale-in-Some.result.notes c.into_tale-in-Some.result.counted
      c.into_tale-in-Some.ensures.entries c.into_tale-in-Some.ensures.notes c.into_tale-in-Some.ensures.counted c.into_tale-in-Some.ensures.lawful fresh mount
      (g.L.Links.tells c.listen.new.self) (account (g.L.Links.told c.listen.new.self) (g.L.Links.listening c.listen.new.self) clock) c.in-Some.why
      c.listen.ensures.tells (λ on. same_sessions c.args.port (g.L.Links.told links) (g.L.Links.told c.listen.new.self) c.listen.result (c.listen.ensures.told on)) (λ on. told_port c.args.port (g.L.Links.told links) (g.L.Links.told c.listen.new.self) c.listen.result (λ e. let both = sym c.in-Ready.is ∙ e in cc) (c.listen.ensures.told on))
      c.listen.ensures.later refl c.in-Some.ensures.served));
  first_attached = c.serve_links.ensures.first_attached;
  second_attached = c.serve_links.ensures.second_attached;
}

-- listening failed
pub returns-in-Fault : goal.returns-in-Fault
returns-in-Fault g c = record {
  served = λ mounted mounting fresh mount. (let clock = g.C.Clock.answers c.args.clock.now in let links = c.args.links.now in
      inr (call_deaf (g.L.Links.tells links) g.D.Disk.tells (account (g.L.Links.told links) (g.L.Links.listening links) clock)
      (account (g.L.Links.told c.listen.new.self) (g.L.Links.listening c.listen.new.self) clock)
      g.D.Disk.seen g.D.Disk.moment g.D.Disk.images g.D.Disk.faults c.args.workers c.args.port mounted mounting (Some c.args.log) c.args.first.now c.args.second.now c.stop.new.first c.stop.new.second
      c.args.world c.stop.new.world c.into_tale-in-Fault.result.entries c.into_tale-in-Fault.result.notes c.into_tale-in-Fault.result.counted
      c.into_tale-in-Fault.ensures.entries c.into_tale-in-Fault.ensures.notes c.into_tale-in-Fault.ensures.counted c.into_tale-in-Fault.ensures.lawful fresh mount
      (sym c.is_dead.ensures.dead ∙ c.if-is_dead.false) (λ on. same_sessions c.args.port (g.L.Links.told links) (g.L.Links.told c.listen.new.self) c.listen.result (c.listen.ensures.told on)) (λ on. told_port c.args.port (g.L.Links.told links) (g.L.Links.told c.listen.new.self) c.listen.result (λ e. let both = sym c.in-Fault.is ∙ e in cc) (c.listen.ensures.told on))
      (c.listen.ensures.fault c.in-Fault.is) refl c.stop.ensures.dump));
  first_attached = c.stop.ensures.first_attached;
  second_attached = c.stop.ensures.second_attached;
}
