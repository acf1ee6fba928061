use Rattle.std.proofs.Common.{refl}
use Rattle.muck_model.specs.declared.event.Event.TheVariants.{Moment}
use Rattle.spec_events.specs.Histories.{now}
use Rattle.muck_peer.specs.Moves.{PeerStep}
use Rattle.muck_peer.proofs.Stepping.{wanted_as}
use Rattle.muck_peer.proofs.peer.Peer.chooses.Goals as goal

pub closes-requires-clause-may : goal.closes-requires-clause-may
closes-requires-clause-may g c = (wanted_as _ _ _ _ c.in-Close.is c.requires.wanted).0

pub closes-requires-clause-cause : goal.closes-requires-clause-cause
closes-requires-clause-cause g c = (wanted_as _ _ _ _ c.in-Close.is c.requires.wanted).1

pub takes-requires-clause-none : goal.takes-requires-clause-none
takes-requires-clause-none g c = (wanted_as _ _ _ _ c.in-Bytes.is c.requires.wanted).0

pub takes-requires-clause-some : goal.takes-requires-clause-some
takes-requires-clause-some g c = (wanted_as _ _ _ _ c.in-Bytes.is c.requires.wanted).1

pub enters-requires-clause-may : goal.enters-requires-clause-may
enters-requires-clause-may g c = (wanted_as _ _ _ _ c.in-Line.is c.requires.wanted).0

pub enters-requires-clause-some : goal.enters-requires-clause-some
enters-requires-clause-some g c = (wanted_as _ _ _ _ c.in-Line.is c.requires.wanted).1

pub returns-in-Close : goal.returns-in-Close
returns-in-Close g c = let e = c.closes.ensures in (e.0, e.1, e.2, e.3 (now c.args.world.now) (g.C.Clock.answers c.args.clock.now))

pub returns-in-Bytes : goal.returns-in-Bytes
returns-in-Bytes g c = let e = c.takes.ensures in (e.0, e.1, e.2, e.3 (now c.args.world.now) (g.C.Clock.answers c.args.clock.now))

pub returns-in-Line : goal.returns-in-Line
returns-in-Line g c = let e = c.enters.ensures in (e.0, e.1, e.2, e.3 (now c.args.world.now) (g.C.Clock.answers c.args.clock.now))

pub returns-in-Time : goal.returns-in-Time
returns-in-Time g c = let t = c.tells_time.ensures in (Moment t.0, t.1, PeerStep.timed t.0 refl refl, t.2)
