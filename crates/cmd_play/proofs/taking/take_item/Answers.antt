use Rattle.cmd_play.proofs.Moves.{leave_given, pass_kept, here_kept}
use Rattle.cmd_play.proofs.taking.take_item.Goals as goal

pub pick_up-requires-clause-given : goal.pick_up-requires-clause-given
pick_up-requires-clause-given c = pass_kept c.in-Ok.pass _ _ _ _ _ _ _ c.args.guard.now c.show_both.new.guard (leave_given _ _ _ c.in-Ok.pass c.args.guard.now c.db.ensures c.actor-actor.ensures c.in-Ok.ensures) c.in_ok-show_both-in-Ok.ensures

pub pick_up-requires-clause-here : goal.pick_up-requires-clause-here
pick_up-requires-clause-here c = here_kept c.in-Ok.pass _ _ _ _ _ _ _ c.args.guard.now c.show_both.new.guard (leave_given _ _ _ c.in-Ok.pass c.args.guard.now c.db.ensures c.actor-actor.ensures c.in-Ok.ensures) c.in_ok-show_both-in-Ok.ensures
