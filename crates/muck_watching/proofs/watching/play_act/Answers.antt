use Rattle.std.proofs.Common.{None}
use Rattle.spec_dumps.proofs.Idle.{idle_quiet}
use Rattle.muck_run.proofs.Knowing.{knows_quiet}
use Rattle.muck_run.proofs.Lining.{held_quiet}
use Rattle.muck_run.proofs.Noted.{noted_quiet}
use Rattle.muck_watching.proofs.Seeing.{act_seen, command_seen, opens_nothing}
use Rattle.muck_watching.proofs.watching.play_act.Goals as goal

pub returns-in-Some-clause-plays : goal.returns-in-Some-clause-plays
returns-in-Some-clause-plays g c = act_seen c.args.act.now _ _ _ _ _ _ _ c.play_line.result c.in-Some.ensures c.play_line.ensures.plays

pub returns-in-None-clause-plays : goal.returns-in-None-clause-plays
returns-in-None-clause-plays g c = command_seen c.args.act.now _ _ _ _ _ _ c.command.result c.in-None.ensures (c.command.ensures.plays _)

pub returns-in-None-clause-idle : goal.returns-in-None-clause-idle
returns-in-None-clause-idle g c = λ other. idle_quiet _ _ c.command.ensures.quiet c.requires.idle

pub returns-in-None-clause-knows : goal.returns-in-None-clause-knows
returns-in-None-clause-knows g c = λ other. knows_quiet c.args.store.now _ _ c.command.ensures.quiet c.requires.knows

pub returns-in-None-clause-kept : goal.returns-in-None-clause-kept
returns-in-None-clause-kept g c = λ mounted tells r. held_quiet _ _ _ _ _ _ _ mounted _ _ _ c.command.ensures.quiet r

pub returns-in-None-clause-notes : goal.returns-in-None-clause-notes
returns-in-None-clause-notes g c = noted_quiet _ _ c.command.ensures.quiet

pub returns-in-None-clause-opened : goal.returns-in-None-clause-opened
returns-in-None-clause-opened g c = opens_nothing c.args.most _ _ _ _ None c.command.result (c.command.ensures.plays None) c.requires.opened
