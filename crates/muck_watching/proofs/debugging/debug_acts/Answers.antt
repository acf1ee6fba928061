use Rattle.std.proofs.Common.{inr, refl, ap, Err}
use Rattle.spec_dumps.proofs.Idle.{idle_quiet}
use Rattle.spec_dumps.proofs.Quiet.{rests_quiet}
use Rattle.muck_run.proofs.Knowing.{knows_new, knows_quiet}
use Rattle.muck_run.proofs.Called.{dump_may, not_write, either_since}
use Rattle.muck_run.proofs.Closing.{halted_lives}
use Rattle.muck_run.proofs.Noted.{noted_then, noted_quiet}
use Rattle.muck_run.proofs.Played.{played, died, broke}
use Rattle.muck_run.proofs.Started.{bootable, begins_alive, begins_idle, begins_opens, rests_started}
use Rattle.muck_watching.proofs.Seeing.{ready_new}
use Rattle.muck_watching.proofs.Debugged.{plain_plays, plain_breaks, broke_lines, wrote_by, wrote_died, wrote_front}
use Rattle.muck_watching.proofs.debugging.debug_acts.Goals as goal

pub begin-requires : goal.begin-requires
begin-requires g c = record { bootable = bootable c.args.log.chosen.held.world c.requires.fine }

pub play_seen-requires-clause-alive : goal.play_seen-requires-clause-alive
play_seen-requires-clause-alive g c = begins_alive 0 c.args.log _ _ c.in-Ok-begin.ensures.world

pub play_seen-requires-clause-idle : goal.play_seen-requires-clause-idle
play_seen-requires-clause-idle g c = begins_idle 0 c.args.log _ _ c.in-Ok-begin.ensures.world

pub play_seen-requires-clause-opened : goal.play_seen-requires-clause-opened
play_seen-requires-clause-opened g c = begins_opens 0 c.args.log _ _ c.in-Ok-begin.ensures.world

pub play_seen-requires-clause-mounted : goal.play_seen-requires-clause-mounted
play_seen-requires-clause-mounted g c = λ tells. (c.args.log.chosen.held.number, rests_started 0 _ _ _ _ _ _ _ (bootable _ c.requires.fine) c.in-Ok-begin.ensures.properties (c.requires.mounted tells) _ _ c.new-store.ensures.log c.in-Ok-begin.ensures.world)

pub play_seen-requires-clause-knows : goal.play_seen-requires-clause-knows
play_seen-requires-clause-knows g c = knows_new c.new-store.result c.args.log _ c.new-store.ensures.log c.new-store.ensures.marks

pub last_dump-why-requires-clause-knows : goal.last_dump-why-requires-clause-knows
last_dump-why-requires-clause-knows g c = c.in-Ok-play_seen.ensures.knows (λ e. cc)

pub last_dump-requires-clause-knows : goal.last_dump-requires-clause-knows
last_dump-requires-clause-knows g c =
    knows_quiet c.play_seen.new.store _ _ c.stop.ensures.quiet (c.in-Err-WriteFault.ensures.knows (λ e. let is = c.in-Err-WriteFault.field-0-is in cc))

pub last_dump-why-requires-clause-alive : goal.last_dump-why-requires-clause-alive
last_dump-why-requires-clause-alive g c = c.in-Ok-play_seen.ensures.plays.alive

pub last_dump-why-requires-clause-mounted : goal.last_dump-why-requires-clause-mounted
last_dump-why-requires-clause-mounted g c = λ tells.
    let start = rests_started 0 _ _ _ _ _ _ _ (bootable _ c.requires.fine) c.in-Ok-begin.ensures.properties (c.requires.mounted tells) _ _ c.new-store.ensures.log c.in-Ok-begin.ensures.world in
    (c.args.log.chosen.held.number, (c.in-Ok-play_seen.ensures.kept _ tells start).rests (λ e. cc))

pub returns-in-Ok-play_seen-clause-ends : goal.returns-in-Ok-play_seen-clause-ends
returns-in-Ok-play_seen-clause-ends g c =
    inr (
      (
          played _ _ _ _ _ _ _ _ _ _ _ c.in-Ok-begin.ensures.world _ _ _ _ _ _ (record { first_moment = refl; second_moment = refl; first_faults = refl; second_faults = refl }) _ _ _ _ _ (plain_plays _ _ _ _ _ _ c.in-Ok-play_seen.ensures.plays) c.in-Ok-play_seen.ensures.fine c.last_dump-why.ensures.why c.last_dump-why.ensures.plays c.last_dump-why.ensures.outcome c.last_dump-why.ensures.last
          (noted_then _ _ _ c.in-Ok-play_seen.ensures.notes c.last_dump-why.ensures.notes)
          (λ tells.
          let start = rests_started 0 _ _ _ _ _ _ _ (bootable _ c.requires.fine) c.in-Ok-begin.ensures.properties (c.requires.mounted tells) _ _ c.new-store.ensures.log c.in-Ok-begin.ensures.world in
          c.last_dump-why.ensures.kept _ tells ((c.in-Ok-play_seen.ensures.kept _ tells start).rests (λ e. cc)))
          c.into_tale.ensures.entries c.into_tale.ensures.notes c.into_tale.ensures.lawful
          ),
      wrote_by _ _ _ _ c.in-Ok.ensures _ c.in-Ok-begin.ensures.world _ _ _ _ _ _ _ c.last_dump-why.ensures.why c.in-Ok-play_seen.ensures.plays c.last_dump-why.ensures.plays c.into_tale.ensures.entries,
    )

pub returns-in-Ok-play_seen-clause-why : goal.returns-in-Ok-play_seen-clause-why
returns-in-Ok-play_seen-clause-why g c = dump_may _ _ c.last_dump-why.ensures.why

pub returns-in-Ok-play_seen-clause-write : goal.returns-in-Ok-play_seen-clause-write
returns-in-Ok-play_seen-clause-write g c = λ e. absurd (not_write _ _ c.last_dump-why.ensures.why e)

pub returns-in-Ok-play_seen-clause-cause : goal.returns-in-Ok-play_seen-clause-cause
returns-in-Ok-play_seen-clause-cause g c = λ e. either_since _ _ _ _ _ _ c.in-Ok-play_seen.ensures.first_later c.in-Ok-play_seen.ensures.second_later (c.last_dump-why.ensures.cause e)

pub returns-in-Err-NoMemory-clause-ends : goal.returns-in-Err-NoMemory-clause-ends
returns-in-Err-NoMemory-clause-ends g c =
    inr (
      (
          died _ _ _ _ _ _ _ _ _ _ _ c.in-Ok-begin.ensures.world _ _ _ _ _ _ (record { first_moment = refl; second_moment = refl; first_faults = refl; second_faults = refl }) _ _ _ (plain_breaks _ _ _ _ _ _ _ (broke_lines _ _ _ _ _ _ _ _ c.in-Err-NoMemory.field-0-is c.in-Err-NoMemory.ensures.plays)) (c.in-Err-NoMemory.ensures.memory (ap Err c.in-Err-NoMemory.field-0-is))
          c.in-Err-NoMemory.ensures.notes
          (λ tells.
          let start = rests_started 0 _ _ _ _ _ _ _ (bootable _ c.requires.fine) c.in-Ok-begin.ensures.properties (c.requires.mounted tells) _ _ c.new-store.ensures.log c.in-Ok-begin.ensures.world in
          (c.in-Err-NoMemory.ensures.kept _ tells start).safe)
          c.into_tale-in-Err-NoMemory.ensures.entries c.into_tale-in-Err-NoMemory.ensures.notes c.into_tale-in-Err-NoMemory.ensures.lawful
          ),
      wrote_died _ _ _ _ c.in-Ok.ensures _ c.in-Ok-begin.ensures.world _ _ _ _ (broke_lines _ _ _ _ _ _ _ _ c.in-Err-NoMemory.field-0-is c.in-Err-NoMemory.ensures.plays) c.into_tale-in-Err-NoMemory.ensures.entries,
    )

pub stop-requires : goal.stop-requires
stop-requires g c = (broke_lines _ _ _ _ _ _ _ _ c.in-Err-WriteFault.field-0-is c.in-Err-WriteFault.ensures.plays).alive refl

pub last_dump-requires-clause-alive : goal.last_dump-requires-clause-alive
last_dump-requires-clause-alive g c =
    halted_lives _ _ c.stop.ensures.halts ((broke_lines _ _ _ _ _ _ _ _ c.in-Err-WriteFault.field-0-is c.in-Err-WriteFault.ensures.plays).alive refl)

pub last_dump-requires-clause-idle : goal.last_dump-requires-clause-idle
last_dump-requires-clause-idle g c = idle_quiet _ _ c.stop.ensures.quiet (c.in-Err-WriteFault.ensures.idle (λ e. let is = c.in-Err-WriteFault.field-0-is in cc))

pub last_dump-requires-clause-mounted : goal.last_dump-requires-clause-mounted
last_dump-requires-clause-mounted g c = λ tells.
    let start = rests_started 0 _ _ _ _ _ _ _ (bootable _ c.requires.fine) c.in-Ok-begin.ensures.properties (c.requires.mounted tells) _ _ c.new-store.ensures.log c.in-Ok-begin.ensures.world in
    (c.args.log.chosen.held.number, rests_quiet _ _ _ _ _ _ _ _ _ _ c.stop.ensures.quiet ((c.in-Err-WriteFault.ensures.kept _ tells start).rests (λ e. let is = c.in-Err-WriteFault.field-0-is in cc)))

pub returns-clause-ends : goal.returns-clause-ends
returns-clause-ends g c =
    inr (
      (
          broke _ _ _ _ _ _ _ _ _ _ _ c.in-Ok-begin.ensures.world _ _ _ _ _ _ (record { first_moment = refl; second_moment = refl; first_faults = refl; second_faults = refl }) _ _ _ _ _ (plain_breaks _ _ _ _ _ _ _ (broke_lines _ _ _ _ _ _ _ _ c.in-Err-WriteFault.field-0-is c.in-Err-WriteFault.ensures.plays)) (c.in-Err-WriteFault.ensures.write (ap Err c.in-Err-WriteFault.field-0-is))
          c.stop.ensures.halts c.last_dump.ensures.last
          (noted_then _ _ _ c.in-Err-WriteFault.ensures.notes (noted_then _ _ _ (noted_quiet _ _ c.stop.ensures.quiet) c.last_dump.ensures.notes))
          (λ tells.
          let start = rests_started 0 _ _ _ _ _ _ _ (bootable _ c.requires.fine) c.in-Ok-begin.ensures.properties (c.requires.mounted tells) _ _ c.new-store.ensures.log c.in-Ok-begin.ensures.world in
          (c.last_dump.ensures.kept _ tells (rests_quiet _ _ _ _ _ _ _ _ _ _ c.stop.ensures.quiet ((c.in-Err-WriteFault.ensures.kept _ tells start).rests (λ e. let is = c.in-Err-WriteFault.field-0-is in cc)))).safe)
          c.into_tale-in-Err-WriteFault.ensures.entries c.into_tale-in-Err-WriteFault.ensures.notes c.into_tale-in-Err-WriteFault.ensures.lawful
          ),
      wrote_front _ _ _ _ c.in-Ok.ensures _ c.in-Ok-begin.ensures.world _ _ _ _ _ _ (broke_lines _ _ _ _ _ _ _ _ c.in-Err-WriteFault.field-0-is c.in-Err-WriteFault.ensures.plays) c.stop.ensures.halts c.last_dump.ensures.last c.into_tale-in-Err-WriteFault.ensures.entries,
    )

pub play_seen-requires-clause-ready : goal.play_seen-requires-clause-ready
play_seen-requires-clause-ready g c = ready_new _ c.in-Ok.ensures
