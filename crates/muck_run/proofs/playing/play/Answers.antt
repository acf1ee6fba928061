use Rattle.std.proofs.Common.{◌≡◌, refl, sym, ◌∙◌, arith, Err, rules}
use Rattle.muck_script.specs.Story.{lines_story}
use Rattle.spec_dumps.proofs.Quiet.{quiet_one}
use Rattle.spec_dumps.proofs.Idle.{idle_quiet}
use Rattle.muck_dumping.proofs.Knowing.{knows_quiet}
use Rattle.muck_run.proofs.Lining.{held_resting, held_quiet}
use Rattle.muck_run.proofs.Opening.{opens_more}
use Rattle.muck_run.proofs.Noted.{noted_same, noted_one, noted_then}
use Rattle.muck_run.proofs.Towards.{towards_begins, playing_stopped, playing_goes_on, playing_halted, playing_breaks}
use Rattle.muck_run.proofs.playing.play.Goals as goal

pub loop-act-init : goal.loop-act-init
loop-act-init g c = record {
  playing = towards_begins (lines_story c.args.acts.now) _ _ c.requires.alive;
  opened = c.requires.opened;
  notes = noted_same _ _ refl;
  fine = refl;
  idle = c.requires.idle;
  knows = c.requires.knows;
  rests = λ mounted tells r. r;
  first_attached = refl;
  second_attached = refl;
  first_later = omega arith;
  second_later = omega arith;
}

pub play_line-requires-clause-alive : goal.play_line-requires-clause-alive
play_line-requires-clause-alive g c = c.loop-act.invariant.playing.alive

pub play_line-requires-clause-opened : goal.play_line-requires-clause-opened
play_line-requires-clause-opened g c = opens_more _ _ _ c.greatest-most.ensures.later c.loop-act.invariant.opened

pub play_line-requires-clause-mounted : goal.play_line-requires-clause-mounted
play_line-requires-clause-mounted g c = λ tells. let r = c.requires.mounted tells in (r.0, c.loop-act.invariant.rests r.0 tells r.1)

pub loop-act-preserved : goal.loop-act-preserved
loop-act-preserved g c = record {
  playing = playing_goes_on _ _ _ _ _ _ _ _ _ c.loop-act-test.true c.act-item.is (sym (c.is_stopping.ensures c.loop-act.invariant.playing.alive) ∙ c.if-is_stopping.false) c.loop-act.invariant.playing c.in_ok-play_line.ensures.plays;
  opened = c.in_ok-play_line.ensures.opened;
  notes = noted_then _ _ _ c.loop-act.invariant.notes c.in_ok-play_line.ensures.notes;
  fine = c.in_ok-play_line.ensures.fine ∙ c.loop-act.invariant.fine;
  idle = c.in_ok-play_line.ensures.idle (λ e. cc);
  knows = c.in_ok-play_line.ensures.knows (λ e. cc);
  rests = λ mounted tells r. (c.in_ok-play_line.ensures.kept mounted tells (c.loop-act.invariant.rests mounted tells r)).rests (λ e. cc);
  first_attached = c.in_ok-play_line.ensures.first_attached ∙ c.loop-act.invariant.first_attached;
  second_attached = c.in_ok-play_line.ensures.second_attached ∙ c.loop-act.invariant.second_attached;
  first_later = omega (arith, c.loop-act.invariant.first_later, c.in_ok-play_line.ensures.first_later);
  second_later = omega (arith, c.loop-act.invariant.second_later, c.in_ok-play_line.ensures.second_later);
}

pub returns-then-is_stopping-clause-plays : goal.returns-then-is_stopping-clause-plays
returns-then-is_stopping-clause-plays g c = playing_stopped _ _ _ _ _ _ c.loop-act.invariant.playing (sym (c.is_stopping.ensures c.loop-act.invariant.playing.alive) ∙ c.if-is_stopping.true)

pub returns-in_err-play_line-clause-plays : goal.returns-in_err-play_line-clause-plays
returns-in_err-play_line-clause-plays g c =
    let err : c.from_residual.result ≡ Err c.in_err-play_line.field-0.0 = search rules in
    rw err (playing_breaks _ _ _ _ _ _ _ _ _ _ c.loop-act-test.true c.act-item.is (sym (c.is_stopping.ensures c.loop-act.invariant.playing.alive) ∙ c.if-is_stopping.false) c.loop-act.invariant.playing c.in_err-play_line.ensures.plays)

pub returns-then-not-is_stopping-clause-plays : goal.returns-then-not-is_stopping-clause-plays
returns-then-not-is_stopping-clause-plays g c =
    playing_halted _ _ _ _ _ _ _ c.loop-act-test.false (sym (c.is_stopping-2.ensures c.loop-act.invariant.playing.alive) ∙ c.if-not-is_stopping.true) c.halt.ensures c.loop-act.invariant.playing

pub returns-else-not-is_stopping-clause-plays : goal.returns-else-not-is_stopping-clause-plays
returns-else-not-is_stopping-clause-plays g c =
    playing_stopped _ _ _ _ _ _ c.loop-act.invariant.playing (sym (c.is_stopping-2.ensures c.loop-act.invariant.playing.alive) ∙ c.if-not-is_stopping.false)

-- what is kept of the disks

pub returns-in_err-play_line-clause-kept : goal.returns-in_err-play_line-clause-kept
returns-in_err-play_line-clause-kept g c =
    let err : c.from_residual.result ≡ Err c.in_err-play_line.field-0.0 = search rules in
    rw err (λ mounted tells r. c.in_err-play_line.ensures.kept mounted tells (c.loop-act.invariant.rests mounted tells r))

pub returns-then-is_stopping-clause-kept : goal.returns-then-is_stopping-clause-kept
returns-then-is_stopping-clause-kept g c = λ mounted tells r. held_resting _ _ _ _ _ _ _ mounted _ _ (c.loop-act.invariant.rests mounted tells r)

pub returns-then-not-is_stopping-clause-kept : goal.returns-then-not-is_stopping-clause-kept
returns-then-not-is_stopping-clause-kept g c =
    λ mounted tells r. held_quiet _ _ _ _ _ _ _ mounted _ _ _ (quiet_one _ _ _ refl c.halt.ensures) (c.loop-act.invariant.rests mounted tells r)

pub returns-then-not-is_stopping-clause-idle : goal.returns-then-not-is_stopping-clause-idle
returns-then-not-is_stopping-clause-idle g c = λ other. idle_quiet _ _ (quiet_one _ _ _ refl c.halt.ensures) c.loop-act.invariant.idle

pub returns-then-is_stopping-clause-knows : goal.returns-then-is_stopping-clause-knows
returns-then-is_stopping-clause-knows g c = λ other. c.loop-act.invariant.knows

pub returns-then-not-is_stopping-clause-knows : goal.returns-then-not-is_stopping-clause-knows
returns-then-not-is_stopping-clause-knows g c = λ other. knows_quiet c.loop-act.store _ _ (quiet_one _ _ _ refl c.halt.ensures) c.loop-act.invariant.knows

pub returns-else-not-is_stopping-clause-knows : goal.returns-else-not-is_stopping-clause-knows
returns-else-not-is_stopping-clause-knows g c = λ other. c.loop-act.invariant.knows

pub returns-else-not-is_stopping-clause-kept : goal.returns-else-not-is_stopping-clause-kept
returns-else-not-is_stopping-clause-kept g c = λ mounted tells r. held_resting _ _ _ _ _ _ _ mounted _ _ (c.loop-act.invariant.rests mounted tells r)

-- the notes

pub returns-then-is_stopping-clause-notes : goal.returns-then-is_stopping-clause-notes
returns-then-is_stopping-clause-notes g c = c.loop-act.invariant.notes

pub returns-in_err-play_line-clause-notes : goal.returns-in_err-play_line-clause-notes
returns-in_err-play_line-clause-notes g c = noted_then _ _ _ c.loop-act.invariant.notes c.in_err-play_line.ensures.notes

pub returns-then-not-is_stopping-clause-notes : goal.returns-then-not-is_stopping-clause-notes
returns-then-not-is_stopping-clause-notes g c = noted_then _ _ _ c.loop-act.invariant.notes (noted_one _ _ _ c.halt.ensures)

pub returns-else-not-is_stopping-clause-notes : goal.returns-else-not-is_stopping-clause-notes
returns-else-not-is_stopping-clause-notes g c = c.loop-act.invariant.notes

-- the names of the disks

pub returns-in_err-play_line-clause-first_attached : goal.returns-in_err-play_line-clause-first_attached
returns-in_err-play_line-clause-first_attached g c = c.in_err-play_line.ensures.first_attached ∙ c.loop-act.invariant.first_attached

pub returns-in_err-play_line-clause-second_attached : goal.returns-in_err-play_line-clause-second_attached
returns-in_err-play_line-clause-second_attached g c = c.in_err-play_line.ensures.second_attached ∙ c.loop-act.invariant.second_attached

pub returns-then-is_stopping-clause-first_attached : goal.returns-then-is_stopping-clause-first_attached
returns-then-is_stopping-clause-first_attached g c = c.loop-act.invariant.first_attached

pub returns-then-is_stopping-clause-second_attached : goal.returns-then-is_stopping-clause-second_attached
returns-then-is_stopping-clause-second_attached g c = c.loop-act.invariant.second_attached

pub returns-then-not-is_stopping-clause-first_attached : goal.returns-then-not-is_stopping-clause-first_attached
returns-then-not-is_stopping-clause-first_attached g c = c.loop-act.invariant.first_attached

pub returns-then-not-is_stopping-clause-second_attached : goal.returns-then-not-is_stopping-clause-second_attached
returns-then-not-is_stopping-clause-second_attached g c = c.loop-act.invariant.second_attached

pub returns-else-not-is_stopping-clause-first_attached : goal.returns-else-not-is_stopping-clause-first_attached
returns-else-not-is_stopping-clause-first_attached g c = c.loop-act.invariant.first_attached

pub returns-else-not-is_stopping-clause-second_attached : goal.returns-else-not-is_stopping-clause-second_attached
returns-else-not-is_stopping-clause-second_attached g c = c.loop-act.invariant.second_attached
