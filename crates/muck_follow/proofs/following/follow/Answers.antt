use Rattle.muck_log.specs.Store.{pick}
use Rattle.muck_follow.proofs.Fronts.{follows}
use Rattle.muck_follow.proofs.Replies.{told_is, first_counts, second_counts, on_error_as}
use Rattle.muck_follow.proofs.following.follow.Goals as goal

pub returns-in_err-start-clause-follows : goal.returns-in_err-start-clause-follows
returns-in_err-start-clause-follows g c t s loads are small = follows (g.D.Disk.seen c.args.first.now) (g.D.Disk.seen c.args.second.now) s c.args.acts.now loads are small

pub returns-in_err-mirror-clause-follows : goal.returns-in_err-mirror-clause-follows
returns-in_err-mirror-clause-follows g c t s loads are small = follows (g.D.Disk.seen c.args.first.now) (g.D.Disk.seen c.args.second.now) s c.args.acts.now loads are small

pub returns-then-start-clause-follows : goal.returns-then-start-clause-follows
returns-then-start-clause-follows g c t s loads are small = follows (g.D.Disk.seen c.args.first.now) (g.D.Disk.seen c.args.second.now) s c.args.acts.now loads are small

pub returns-clause-follows : goal.returns-clause-follows
returns-clause-follows g c t s loads are small = follows (g.D.Disk.seen c.args.first.now) (g.D.Disk.seen c.args.second.now) s c.args.acts.now loads are small

pub returns-then-start-clause-front : goal.returns-then-start-clause-front
returns-then-start-clause-front g c t s loads =
    let a = g.D.Disk.seen c.args.first.now in
    let b = g.D.Disk.seen c.args.second.now in
    let is = c.in_ok-start.ensures.start t s loads in
    on_error_as _ _ c.run.result _ _ _ _
    (told_is c.args.acts.now s (g.D.Disk.seen c.start_of.new.second) (pick s.second a b) c.in_ok-start.start c.in_ok-mirror.mirror is
    (second_counts s a b (g.D.Disk.seen c.start_of.new.second) c.in_ok-start.start is c.if-start.true (c.start_of.ensures.second_seen t)) c.in_ok-mirror.ensures)
    (c.run.ensures.front t)

pub returns-clause-front : goal.returns-clause-front
returns-clause-front g c t s loads =
    let a = g.D.Disk.seen c.args.first.now in
    let b = g.D.Disk.seen c.args.second.now in
    let is = c.in_ok-start.ensures.start t s loads in
    on_error_as _ _ c.run-2.result _ _ _ _
    (told_is c.args.acts.now s (g.D.Disk.seen c.start_of.new.first) (pick s.second a b) c.in_ok-start.start c.in_ok-mirror.mirror is
    (first_counts s a b (g.D.Disk.seen c.start_of.new.first) c.in_ok-start.start is c.if-start.false (c.start_of.ensures.first_seen t)) c.in_ok-mirror.ensures)
    (c.run-2.ensures.front t)
