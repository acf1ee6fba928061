use Rattle.std.proofs.Common.{subst, arith}
use Rattle.muck_log.specs.Store.{LeavesBoth, MayBeAt, IsDone, pick, after_batch}
use Rattle.muck_log.specs.Append.{LoadsEither, more_of, payload_of}
use Rattle.muck_log.proofs.Deltas.{ready_whole}
use Rattle.muck_log.proofs.Moments.{weaker_both}
use Rattle.muck_log.proofs.Appending.{place_within, close_is, may_ready, next_after, mounted_after}
use Rattle.muck_log.proofs.log.Log.append.Goals as goal

pub put_target-requires-clause-within : goal.put_target-requires-clause-within
put_target-requires-clause-within g c = λ t.
    let r = c.in_ok-ready.ensures.ok in
    place_within c.args.self.now (g.D.Disk.seen c.args.first.now) (g.D.Disk.seen c.args.second.now) c.in_ok-ready.ready.target r.goes (c.requires.mounted t r.fresh).load

pub put_target-requires-clause-close : goal.put_target-requires-clause-close
put_target-requires-clause-close g c = λ t.
    let r = c.in_ok-ready.ensures.ok in
    let m = c.requires.mounted t r.fresh in
    close_is c.args.self.now (g.D.Disk.seen c.args.first.now) (g.D.Disk.seen c.args.second.now) c.in_ok-ready.ready.target r.goes m.close m.other_close

pub returns-in_default-clause-any : goal.returns-in_default-clause-any
returns-in_default-clause-any g c = λ t fresh w e.
    let a = g.D.Disk.seen c.args.first.now in
    let b = g.D.Disk.seen c.args.second.now in
    let ready = c.in_ok-ready.ready in
    weaker_both g.D.Disk.moment g.D.Disk.images c.args.first.now c.args.second.now c.put_target.new.first c.put_target.new.second
    (MayBeAt ready.target.second ready.target.place ready.tail.items a b) (LoadsEither c.args.self.now.chosen (after_batch c.args.self.now.chosen (payload_of c.args.self.now c.args.batch) w))
    (subst (λ l. LeavesBoth g.D.Disk.moment g.D.Disk.images c.args.first.now c.args.second.now c.put_target.new.first c.put_target.new.second (MayBeAt ready.target.second ready.target.place l a b)) c.deref.ensures.value (c.put_target.ensures.any t))
    (λ x y may. may_ready c.args.self.now c.prepare.new.self (payload_of c.args.self.now c.args.batch) ready w a b x y c.in_ok-ready.ensures.ok e (c.requires.mounted t fresh).load may)

pub finish-requires-clause-room : goal.finish-requires-clause-room
unfolding more_of
finish-requires-clause-room g c =
    let r = c.in_ok-ready.ensures.ok in
    omega (arith, r.room, r.small, r.goes.place, r.size)

pub returns-clause-chosen : goal.returns-clause-chosen
returns-clause-chosen g c = next_after c.args.self.now c.prepare.new.self c.finish.new.self (payload_of c.args.self.now c.args.batch) c.in_ok-ready.ready c.in_ok-ready.ensures.ok c.finish.ensures

pub returns-clause-mounted : goal.returns-clause-mounted
returns-clause-mounted g c = λ t.
    let r = c.in_ok-ready.ensures.ok in
    let did = subst (λ l. IsDone c.in_ok-ready.ready.target.place l (pick c.in_ok-ready.ready.target.second (g.D.Disk.seen c.args.first.now) (g.D.Disk.seen c.args.second.now)) (pick c.in_ok-ready.ready.target.second (g.D.Disk.seen c.put_target.new.first) (g.D.Disk.seen c.put_target.new.second))) c.deref.ensures.value (c.in-Ok.ensures.done t) in
    mounted_after g.D.Disk.seen g.D.Disk.moment g.D.Disk.images c.args.self.now c.prepare.new.self c.finish.new.self (payload_of c.args.self.now c.args.batch) c.in_ok-ready.ready
    c.args.first.now c.args.second.now c.put_target.new.first c.put_target.new.second r c.finish.ensures (c.requires.mounted t r.fresh) did c.put_target.ensures.other
    (c.in-Ok.ensures.first_durable t) (c.in-Ok.ensures.second_durable t)

pub returns-clause-any : goal.returns-clause-any
returns-clause-any g c = λ t fresh w e.
    let a = g.D.Disk.seen c.args.first.now in
    let b = g.D.Disk.seen c.args.second.now in
    let ready = c.in_ok-ready.ready in
    weaker_both g.D.Disk.moment g.D.Disk.images c.args.first.now c.args.second.now c.put_target.new.first c.put_target.new.second
    (MayBeAt ready.target.second ready.target.place ready.tail.items a b) (LoadsEither c.args.self.now.chosen (after_batch c.args.self.now.chosen (payload_of c.args.self.now c.args.batch) w))
    (subst (λ l. LeavesBoth g.D.Disk.moment g.D.Disk.images c.args.first.now c.args.second.now c.put_target.new.first c.put_target.new.second (MayBeAt ready.target.second ready.target.place l a b)) c.deref.ensures.value (c.put_target.ensures.any t))
    (λ x y may. may_ready c.args.self.now c.prepare.new.self (payload_of c.args.self.now c.args.batch) ready w a b x y c.in_ok-ready.ensures.ok e (c.requires.mounted t fresh).load may)

pub returns-in_default-clause-whole : goal.returns-in_default-clause-whole
returns-in_default-clause-whole g c = λ touched.
    let r = c.in_ok-ready.ensures in
    ready_whole c.args.self.now c.prepare.new.self c.args.batch r.ok.lays c.requires.storable r.kept c.requires.few

pub returns-clause-whole : goal.returns-clause-whole
returns-clause-whole g c = λ touched.
    let r = c.in_ok-ready.ensures in
    ready_whole c.args.self.now c.prepare.new.self c.args.batch r.ok.lays c.requires.storable r.kept c.requires.few
