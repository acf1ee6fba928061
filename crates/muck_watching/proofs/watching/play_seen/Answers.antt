use Rattle.std.proofs.Common.{◌≡◌, refl, sym, ◌∙◌, arith, Err, rules}
use Rattle.spec_dumps.proofs.Quiet.{quiet_one}
use Rattle.spec_dumps.proofs.Idle.{idle_quiet}
use Rattle.muck_run.proofs.Knowing.{knows_quiet}
use Rattle.muck_run.proofs.Lining.{held_resting, held_quiet}
use Rattle.muck_run.proofs.Opening.{opens_more}
use Rattle.muck_run.proofs.Noted.{noted_same, noted_one, noted_then}
use Rattle.muck_watching.proofs.Onward.{lines_begin, lines_stop, lines_go_on, lines_halt, lines_broke}
use Rattle.muck_watching.proofs.watching.play_seen.Goals as goal

pub loop-act-init : goal.loop-act-init
loop-act-init g c = record {
  playing = lines_begin c.args.acts.now _ _ _ c.requires.alive c.requires.ready;
  opened = c.requires.opened;
  notes = noted_same _ _ refl;
  fine = refl;
  idle = c.requires.idle;
  knows = c.requires.knows;
  rests = λ mounted tells r. r;
  first_attached = refl;
  second_attached = refl;
  first_later = omega arith;
  second_later = omega arith;
}

pub play_act-requires-clause-alive : goal.play_act-requires-clause-alive
play_act-requires-clause-alive g c = c.loop-act.invariant.playing.alive

pub play_act-requires-clause-opened : goal.play_act-requires-clause-opened
play_act-requires-clause-opened g c = opens_more _ _ _ c.greatest_of-most.ensures.later c.loop-act.invariant.opened

pub play_act-requires-clause-mounted : goal.play_act-requires-clause-mounted
play_act-requires-clause-mounted g c = λ tells. let r = c.requires.mounted tells in (r.0, c.loop-act.invariant.rests r.0 tells r.1)

pub loop-act-preserved : goal.loop-act-preserved
loop-act-preserved g c = record {
  playing = lines_go_on _ _ _ _ _ _ _ _ _ _ _ _ c.loop-act-test.true c.act-item.is (sym (c.is_stopping.ensures c.loop-act.invariant.playing.alive) ∙ c.if-is_stopping.false) c.loop-act.invariant.playing c.in_ok-play_act.ensures.plays;
  opened = c.in_ok-play_act.ensures.opened;
  notes = noted_then _ _ _ c.loop-act.invariant.notes c.in_ok-play_act.ensures.notes;
  fine = c.in_ok-play_act.ensures.fine ∙ c.loop-act.invariant.fine;
  idle = c.in_ok-play_act.ensures.idle (λ e. cc);
  knows = c.in_ok-play_act.ensures.knows (λ e. cc);
  rests = λ mounted tells r. (c.in_ok-play_act.ensures.kept mounted tells (c.loop-act.invariant.rests mounted tells r)).rests (λ e. cc);
  first_attached = c.in_ok-play_act.ensures.first_attached ∙ c.loop-act.invariant.first_attached;
  second_attached = c.in_ok-play_act.ensures.second_attached ∙ c.loop-act.invariant.second_attached;
  first_later = omega (arith, c.loop-act.invariant.first_later, c.in_ok-play_act.ensures.first_later);
  second_later = omega (arith, c.loop-act.invariant.second_later, c.in_ok-play_act.ensures.second_later);
}

pub returns-then-is_stopping-clause-plays : goal.returns-then-is_stopping-clause-plays
returns-then-is_stopping-clause-plays g c = lines_stop _ _ _ _ _ _ _ _ c.loop-act.invariant.playing (sym (c.is_stopping.ensures c.loop-act.invariant.playing.alive) ∙ c.if-is_stopping.true)

pub returns-in_err-play_act-clause-plays : goal.returns-in_err-play_act-clause-plays
returns-in_err-play_act-clause-plays g c =
    let err : c.from_residual.result ≡ Err c.in_err-play_act.field-0.0 = search rules in
    rw err (lines_broke _ _ _ _ _ _ _ _ _ _ _ _ c.loop-act-test.true c.act-item.is (sym (c.is_stopping.ensures c.loop-act.invariant.playing.alive) ∙ c.if-is_stopping.false) c.loop-act.invariant.playing c.in_err-play_act.ensures.plays)

pub returns-then-not-is_stopping-clause-plays : goal.returns-then-not-is_stopping-clause-plays
returns-then-not-is_stopping-clause-plays g c =
    lines_halt _ _ _ _ _ _ _ _ _ c.loop-act-test.false (sym (c.is_stopping-2.ensures c.loop-act.invariant.playing.alive) ∙ c.if-not-is_stopping.true) c.halt.ensures c.loop-act.invariant.playing

pub returns-else-not-is_stopping-clause-plays : goal.returns-else-not-is_stopping-clause-plays
returns-else-not-is_stopping-clause-plays g c =
    lines_stop _ _ _ _ _ _ _ _ c.loop-act.invariant.playing (sym (c.is_stopping-2.ensures c.loop-act.invariant.playing.alive) ∙ c.if-not-is_stopping.false)

-- what is kept of the disks

pub returns-in_err-play_act-clause-kept : goal.returns-in_err-play_act-clause-kept
returns-in_err-play_act-clause-kept g c =
    let err : c.from_residual.result ≡ Err c.in_err-play_act.field-0.0 = search rules in
    rw err (λ mounted tells r. c.in_err-play_act.ensures.kept mounted tells (c.loop-act.invariant.rests mounted tells r))

pub returns-then-is_stopping-clause-kept : goal.returns-then-is_stopping-clause-kept
returns-then-is_stopping-clause-kept g c = λ mounted tells r. held_resting _ _ _ _ _ _ _ mounted _ _ (c.loop-act.invariant.rests mounted tells r)

pub returns-then-not-is_stopping-clause-kept : goal.returns-then-not-is_stopping-clause-kept
returns-then-not-is_stopping-clause-kept g c =
    λ mounted tells r. held_quiet _ _ _ _ _ _ _ mounted _ _ _ (quiet_one _ _ _ refl c.halt.ensures) (c.loop-act.invariant.rests mounted tells r)

pub returns-then-not-is_stopping-clause-idle : goal.returns-then-not-is_stopping-clause-idle
returns-then-not-is_stopping-clause-idle g c = λ other. idle_quiet _ _ (quiet_one _ _ _ refl c.halt.ensures) c.loop-act.invariant.idle

pub returns-then-is_stopping-clause-knows : goal.returns-then-is_stopping-clause-knows
returns-then-is_stopping-clause-knows g c = λ other. c.loop-act.invariant.knows

pub returns-then-not-is_stopping-clause-knows : goal.returns-then-not-is_stopping-clause-knows
returns-then-not-is_stopping-clause-knows g c = λ other. knows_quiet c.loop-act.store _ _ (quiet_one _ _ _ refl c.halt.ensures) c.loop-act.invariant.knows

pub returns-else-not-is_stopping-clause-knows : goal.returns-else-not-is_stopping-clause-knows
returns-else-not-is_stopping-clause-knows g c = λ other. c.loop-act.invariant.knows

pub returns-else-not-is_stopping-clause-kept : goal.returns-else-not-is_stopping-clause-kept
returns-else-not-is_stopping-clause-kept g c = λ mounted tells r. held_resting _ _ _ _ _ _ _ mounted _ _ (c.loop-act.invariant.rests mounted tells r)

-- the notes

pub returns-then-is_stopping-clause-notes : goal.returns-then-is_stopping-clause-notes
returns-then-is_stopping-clause-notes g c = c.loop-act.invariant.notes

pub returns-in_err-play_act-clause-notes : goal.returns-in_err-play_act-clause-notes
returns-in_err-play_act-clause-notes g c = noted_then _ _ _ c.loop-act.invariant.notes c.in_err-play_act.ensures.notes

pub returns-then-not-is_stopping-clause-notes : goal.returns-then-not-is_stopping-clause-notes
returns-then-not-is_stopping-clause-notes g c = noted_then _ _ _ c.loop-act.invariant.notes (noted_one _ _ _ c.halt.ensures)

pub returns-else-not-is_stopping-clause-notes : goal.returns-else-not-is_stopping-clause-notes
returns-else-not-is_stopping-clause-notes g c = c.loop-act.invariant.notes

-- the names of the disks

pub returns-in_err-play_act-clause-first_attached : goal.returns-in_err-play_act-clause-first_attached
returns-in_err-play_act-clause-first_attached g c = c.in_err-play_act.ensures.first_attached ∙ c.loop-act.invariant.first_attached

pub returns-in_err-play_act-clause-second_attached : goal.returns-in_err-play_act-clause-second_attached
returns-in_err-play_act-clause-second_attached g c = c.in_err-play_act.ensures.second_attached ∙ c.loop-act.invariant.second_attached

pub returns-then-is_stopping-clause-first_attached : goal.returns-then-is_stopping-clause-first_attached
returns-then-is_stopping-clause-first_attached g c = c.loop-act.invariant.first_attached

pub returns-then-is_stopping-clause-second_attached : goal.returns-then-is_stopping-clause-second_attached
returns-then-is_stopping-clause-second_attached g c = c.loop-act.invariant.second_attached

pub returns-then-not-is_stopping-clause-first_attached : goal.returns-then-not-is_stopping-clause-first_attached
returns-then-not-is_stopping-clause-first_attached g c = c.loop-act.invariant.first_attached

pub returns-then-not-is_stopping-clause-second_attached : goal.returns-then-not-is_stopping-clause-second_attached
returns-then-not-is_stopping-clause-second_attached g c = c.loop-act.invariant.second_attached

pub returns-else-not-is_stopping-clause-first_attached : goal.returns-else-not-is_stopping-clause-first_attached
returns-else-not-is_stopping-clause-first_attached g c = c.loop-act.invariant.first_attached

pub returns-else-not-is_stopping-clause-second_attached : goal.returns-else-not-is_stopping-clause-second_attached
returns-else-not-is_stopping-clause-second_attached g c = c.loop-act.invariant.second_attached

pub play_act-requires-clause-ready : goal.play_act-requires-clause-ready
play_act-requires-clause-ready g c = c.loop-act.invariant.playing.ready
