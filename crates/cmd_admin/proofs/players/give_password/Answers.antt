use Rattle.cmd_admin.proofs.Drawn.{allowed_drawn}
use Rattle.cmd_admin.proofs.players.give_password.Goals as goal

pub keep_password-requires-clause-player : goal.keep_password-requires-clause-player
keep_password-requires-clause-player c =
    allowed_drawn c.args.x c.random-first.new.self c.random-second.new.self (allowed_drawn c.args.x c.args.guard.now c.random-first.new.self c.requires.player c.random-first.ensures.drawn) c.random-second.ensures.drawn
