use Rattle.std.proofs.Common.{◌≡◌, ◌∙◌, None, Err, rules}
use Rattle.spec_live.specs.Connections.{connections_most}
use Rattle.muck_script.specs.Story.{turns_most}
use Rattle.spec_dumps.proofs.Quiet.{rests_quiet}
use Rattle.spec_dumps.proofs.Idle.{idle_quiet}
use Rattle.muck_run.proofs.Knowing.{knows_quiet}
use Rattle.muck_run.proofs.Lining.{held_quiet}
use Rattle.muck_watching.proofs.Seeing.{plays_of, line_breaks_seen, line_breaks_dumping_seen, line_serves_seen}
use Rattle.muck_run.proofs.Opening.{opens_plays, opens_if, turned_within, asked_within, served_within}
use Rattle.muck_run.proofs.Noted.{noted_quiet, noted_then}
use Rattle.muck_watching.proofs.watching.play_line.Goals as goal

-- the parts of the line

pub make_asked-requires-clause-alive : goal.make_asked-requires-clause-alive
make_asked-requires-clause-alive g c = c.in_ok-act_and_turn.ensures.plays.alive

pub make_asked-requires-clause-idle : goal.make_asked-requires-clause-idle
make_asked-requires-clause-idle g c = idle_quiet _ _ c.in_ok-act_and_turn.ensures.quiet c.requires.idle

pub make_asked-requires-clause-mounted : goal.make_asked-requires-clause-mounted
make_asked-requires-clause-mounted g c =
    λ tells. let r = c.requires.mounted tells in (r.0, rests_quiet _ _ _ _ _ _ _ r.0 _ _ c.in_ok-act_and_turn.ensures.quiet r.1)

pub make_asked-requires-clause-knows : goal.make_asked-requires-clause-knows
make_asked-requires-clause-knows g c = knows_quiet c.args.store.now _ _ c.in_ok-act_and_turn.ensures.quiet c.requires.knows

pub serve_all-requires-clause-alive : goal.serve_all-requires-clause-alive
serve_all-requires-clause-alive g c = (c.in_ok-make_asked.ensures.plays None).alive

pub serve_all-requires-clause-opened : goal.serve_all-requires-clause-opened
serve_all-requires-clause-opened g c =
    opens_plays _ _ _ _ _ _ (asked_within c.args.most c.args.line.now) (c.in_ok-make_asked.ensures.plays None)
    (opens_plays _ _ _ _ _ _ (turned_within c.args.most c.args.line.now turns_most c.requires.asks) (plays_of _ _ _ _ _ _ _ c.in_ok-act_and_turn.ensures.plays) c.requires.opened)

-- what follows the line broke off

pub returns-in_err-act_and_turn-clause-plays : goal.returns-in_err-act_and_turn-clause-plays
returns-in_err-act_and_turn-clause-plays g c =
    let err : c.from_residual.result ≡ Err c.in_err-act_and_turn.field-0.0 = search rules in
    rw err (line_breaks_seen c.args.line.now _ _ _ _ _ _ c.in_err-act_and_turn.ensures.plays)

pub returns-in_err-act_and_turn-clause-idle : goal.returns-in_err-act_and_turn-clause-idle
returns-in_err-act_and_turn-clause-idle g c = λ other. idle_quiet _ _ c.in_err-act_and_turn.ensures.quiet c.requires.idle

pub returns-in_err-act_and_turn-clause-knows : goal.returns-in_err-act_and_turn-clause-knows
returns-in_err-act_and_turn-clause-knows g c = λ other. knows_quiet c.args.store.now _ _ c.in_err-act_and_turn.ensures.quiet c.requires.knows

pub returns-in_err-act_and_turn-clause-kept : goal.returns-in_err-act_and_turn-clause-kept
returns-in_err-act_and_turn-clause-kept g c =
    λ mounted tells r. held_quiet _ _ _ _ _ _ _ mounted _ _ _ c.in_err-act_and_turn.ensures.quiet r

-- memory was wanted for the dump

pub returns-in_err-make_asked-clause-plays : goal.returns-in_err-make_asked-clause-plays
returns-in_err-make_asked-clause-plays g c =
    let err : c.from_residual-in_err-make_asked.result ≡ Err c.in_err-make_asked.field-0.0 = search rules in
    rw err (line_breaks_dumping_seen c.args.line.now _ _ _ _ _ _ _ _ c.in_ok-act_and_turn.ensures.plays (c.in_err-make_asked.ensures.plays _))

pub returns-in_err-make_asked-clause-write : goal.returns-in_err-make_asked-clause-write
returns-in_err-make_asked-clause-write g c =
    let err : c.from_residual-in_err-make_asked.result ≡ Err c.in_err-make_asked.field-0.0 = search rules in
    rw err (λ e. cc c.in_err-make_asked.ensures.memory)

pub returns-in_err-make_asked-clause-idle : goal.returns-in_err-make_asked-clause-idle
returns-in_err-make_asked-clause-idle g c =
    let err : c.from_residual-in_err-make_asked.result ≡ Err c.in_err-make_asked.field-0.0 = search rules in
    λ other. absurd (other (err ∙ c.in_err-make_asked.ensures.memory))

pub returns-in_err-make_asked-clause-knows : goal.returns-in_err-make_asked-clause-knows
returns-in_err-make_asked-clause-knows g c =
    let err : c.from_residual-in_err-make_asked.result ≡ Err c.in_err-make_asked.field-0.0 = search rules in
    λ other. absurd (other (err ∙ c.in_err-make_asked.ensures.memory))

pub returns-in_err-make_asked-clause-kept : goal.returns-in_err-make_asked-clause-kept
returns-in_err-make_asked-clause-kept g c =
    let err : c.from_residual-in_err-make_asked.result ≡ Err c.in_err-make_asked.field-0.0 = search rules in
    rw err (λ mounted tells r. c.in_err-make_asked.ensures.kept mounted tells (rests_quiet _ _ _ _ _ _ _ mounted _ _ c.in_ok-act_and_turn.ensures.quiet r))

-- the queues are taken

pub returns-clause-plays : goal.returns-clause-plays
returns-clause-plays g c =
    line_serves_seen c.args.line.now _ _ _ _ _ _ _ _ _ c.serve_all.result c.in_ok-act_and_turn.ensures.plays (c.in_ok-make_asked.ensures.plays _) c.serve_all.ensures.plays

pub returns-clause-idle : goal.returns-clause-idle
returns-clause-idle g c = λ other. idle_quiet _ _ c.serve_all.ensures.quiet c.in_ok-make_asked.ensures.idle

pub returns-clause-knows : goal.returns-clause-knows
returns-clause-knows g c = λ other. knows_quiet c.make_asked.new.store _ _ c.serve_all.ensures.quiet c.in_ok-make_asked.ensures.knows

pub returns-clause-kept : goal.returns-clause-kept
returns-clause-kept g c =
    λ mounted tells r.
    held_quiet _ _ _ _ _ _ _ mounted _ _ _ c.serve_all.ensures.quiet
    ((c.in_ok-make_asked.ensures.kept mounted tells (rests_quiet _ _ _ _ _ _ _ mounted _ _ c.in_ok-act_and_turn.ensures.quiet r)).rests (λ e. cc))

-- the notes

pub returns-in_err-act_and_turn-clause-notes : goal.returns-in_err-act_and_turn-clause-notes
returns-in_err-act_and_turn-clause-notes g c = noted_quiet _ _ c.in_err-act_and_turn.ensures.quiet

pub returns-in_err-make_asked-clause-notes : goal.returns-in_err-make_asked-clause-notes
returns-in_err-make_asked-clause-notes g c = noted_then _ _ _ (noted_quiet _ _ c.in_ok-act_and_turn.ensures.quiet) c.in_err-make_asked.ensures.notes

pub returns-clause-notes : goal.returns-clause-notes
returns-clause-notes g c = noted_then _ _ _ (noted_quiet _ _ c.in_ok-act_and_turn.ensures.quiet) (noted_then _ _ _ c.in_ok-make_asked.ensures.notes (noted_quiet _ _ c.serve_all.ensures.quiet))

pub returns-clause-opened : goal.returns-clause-opened
returns-clause-opened g c =
    opens_if _ _ _ _ _ _ c.serve_all.result (served_within c.args.most connections_most 1) c.serve_all.ensures.plays
    (opens_plays _ _ _ _ _ _ (asked_within c.args.most c.args.line.now) (c.in_ok-make_asked.ensures.plays None)
    (opens_plays _ _ _ _ _ _ (turned_within c.args.most c.args.line.now turns_most c.requires.asks) (plays_of _ _ _ _ _ _ _ c.in_ok-act_and_turn.ensures.plays) c.requires.opened))
