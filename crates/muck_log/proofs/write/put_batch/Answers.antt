use Rattle.std.proofs.Common.{◌≡◌, ◌≤◌, ℕ, List, [], ◌∷◌, length, inl, sym, ◌∙◌, subst}
use Rattle.muck_disk.specs.Images.{Torn, bytes_written}
use Rattle.muck_log.specs.Store.{MayBe}
use Rattle.muck_log.proofs.Moments.{joined, weaker}
use Rattle.muck_log.proofs.Writing.{IsClosed, closed_now, closing, may_from, done_from, shut_now}
use Rattle.muck_log.proofs.write.put_batch.Goals as goal

closed_at : (place : ℕ) (z closed : List ℕ) → place ≤ length z → closed ≡ bytes_written z place (0 ∷ []) → IsClosed place z closed
closed_at place z closed within is = subst (IsClosed place z) (sym is) (closed_now place z within)

pub returns-in_err-write_synced-clause-any : goal.returns-in_err-write_synced-clause-any
returns-in_err-write_synced-clause-any g c = λ t.
    let z = g.D.Disk.seen c.args.disk.now in
    weaker g.D.Disk.moment g.D.Disk.images c.args.disk.now c.write_synced.new.disk (Torn c.args.place 1 z) (MayBe c.args.place c.args.tail.now z)
    (c.write_synced.ensures.any t) (λ x torn. inl (closing c.args.place z x (c.requires.within t) (sym (c.requires.close t) ∙ c.if-not-close.false) torn))

pub put_closed-requires-2-clause-shut : goal.put_closed-requires-2-clause-shut
put_closed-requires-2-clause-shut g c = λ later.
    let t = later in
    shut_now c.args.place (g.D.Disk.seen c.args.disk.now) (g.D.Disk.seen c.write_synced.new.disk) (closed_at c.args.place (g.D.Disk.seen c.args.disk.now) (g.D.Disk.seen c.write_synced.new.disk) (c.requires.within t) (c.in_ok-write_synced.ensures.written t))

pub returns-in_err-put_closed-2-clause-any : goal.returns-in_err-put_closed-2-clause-any
returns-in_err-put_closed-2-clause-any g c = λ t.
    let z = g.D.Disk.seen c.args.disk.now in
    let mid = g.D.Disk.seen c.write_synced.new.disk in
    let place = c.args.place in
    let tail = c.args.tail.now in
    let closed = closed_at place z mid (c.requires.within t) (c.in_ok-write_synced.ensures.written t) in
    joined g.D.Disk.moment g.D.Disk.images c.args.disk.now c.write_synced.new.disk c.put_closed-2.new.disk (Torn place 1 z) (MayBe place tail mid) (MayBe place tail z)
    (c.write_synced.ensures.any t) (c.put_closed-2.ensures.any t)
    (λ x torn. inl (closing place z x (c.requires.within t) (sym (c.requires.close t) ∙ c.if-not-close.false) torn)) (λ x may. may_from place tail z mid x closed may)

pub returns-clause-any : goal.returns-clause-any
returns-clause-any g c = λ t.
    let z = g.D.Disk.seen c.args.disk.now in
    let mid = g.D.Disk.seen c.write_synced.new.disk in
    let place = c.args.place in
    let tail = c.args.tail.now in
    let closed = closed_at place z mid (c.requires.within t) (c.in_ok-write_synced.ensures.written t) in
    joined g.D.Disk.moment g.D.Disk.images c.args.disk.now c.write_synced.new.disk c.put_closed-2.new.disk (Torn place 1 z) (MayBe place tail mid) (MayBe place tail z)
    (c.write_synced.ensures.any t) (c.put_closed-2.ensures.any t)
    (λ x torn. inl (closing place z x (c.requires.within t) (sym (c.requires.close t) ∙ c.if-not-close.false) torn)) (λ x may. may_from place tail z mid x closed may)

pub returns-clause-done : goal.returns-clause-done
returns-clause-done g c = λ t.
    let z = g.D.Disk.seen c.args.disk.now in
    let mid = g.D.Disk.seen c.write_synced.new.disk in
    done_from c.args.place c.args.tail.now z mid (g.D.Disk.seen c.put_closed-2.new.disk) (closed_at c.args.place z mid (c.requires.within t) (c.in_ok-write_synced.ensures.written t))
    (c.in_ok-put_closed-2.ensures.done t)
