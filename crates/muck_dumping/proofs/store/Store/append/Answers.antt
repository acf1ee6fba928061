use Rattle.std.proofs.Common.{◌≡◌, ◌≤◌, ℕ, true, length, Some, Ok, Err, refl, sym, ap, ◌∙◌, subst, arith}
use Rattle.muck_laws.proofs.Numbers.{too_few}
use Rattle.muck_log.specs.World.{StoredWorld}
use Rattle.muck_log.specs.Store.{LogState}
use Rattle.muck_log.specs.Append.{base_of, payload_of}
use Rattle.muck_log.proofs.Deltas.{left_payload}
use Rattle.muck_store.specs.inner.Changes.{LeavesOut}
use Rattle.muck_store.specs.Forms.{persist, world_batch}
use Rattle.muck_dumping.specs.inner.Dumps.{Appended}
use Rattle.muck_dumping.proofs.Appending.{appended_ok, appended_err}
use Rattle.muck_dumping.proofs.Fitting.{makes_world, has_few}
use Rattle.muck_dumping.proofs.Marks.{unmounted_holds, appended_holds}
use Rattle.muck_dumping.proofs.Mounting.{one_log}
use Rattle.muck_dumping.proofs.Knowing.{next_mounted, next_unmounted}
use Rattle.muck_dumping.proofs.store.Store.append.Goals as goal

-- what the log asks of its caller

pub append-requires-clause-few : goal.append-requires-clause-few
append-requires-clause-few g c = has_few _ _ c.requires.batch

pub append-requires-clause-storable : goal.append-requires-clause-storable
append-requires-clause-storable g c = c.requires.batch.2.storable

pub append-requires-clause-makes : goal.append-requires-clause-makes
append-requires-clause-makes g c = λ fresh.
    makes_world c.args.self.now.log c.in-Some.log c.args.pending c.in-Some.is c.requires.batch c.is_of_world.ensures.kept (c.is_of_world.ensures.covers c.if-not-is_of_world.false)

pub append-requires-clause-mounted : goal.append-requires-clause-mounted
append-requires-clause-mounted g c = λ tells fresh. c.requires.mounted c.in-Some.log tells c.in-Some.is

-- a log that was mounted from the disks is of this world

pub returns-then-not-is_of_world-clause-wrote : goal.returns-then-not-is_of_world-clause-wrote
returns-then-not-is_of_world-clause-wrote g c = λ log es tune tells is left tuned count fit two covers.
    let n : ℕ = length c.in-Some.log.chosen.held.world.objects in
    let same : n ≡ length log.chosen.held.world.objects = ap (λ (l : LogState). length l.chosen.held.world.objects) (one_log c.args.self.now.log c.in-Some.log log c.in-Some.is is) in
    absurd (too_few n c.args.pending.size (length es) count (c.is_of_world.ensures.more c.if-not-is_of_world.true) (omega (arith, same, covers)))

-- the next dump has the number of this one, where it failed

pub returns-in_default-clause-number : goal.returns-in_default-clause-number
returns-in_default-clause-number g c = sym (next_unmounted c.args.self.now c.in_default.is)

pub returns-then-not-is_of_world-clause-number : goal.returns-then-not-is_of_world-clause-number
returns-then-not-is_of_world-clause-number g c = c.close.ensures.number ∙ c.next-number.ensures ∙ sym (next_mounted c.args.self.now c.in-Some.log c.in-Some.is)

pub returns-in-Err-clause-number : goal.returns-in-Err-clause-number
returns-in-Err-clause-number g c = c.close-in-Err.ensures.number ∙ c.next-number.ensures ∙ sym (next_mounted c.args.self.now c.in-Some.log c.in-Some.is)

-- it goes by marks where the batch was written

pub returns-in_default-clause-marks : goal.returns-in_default-clause-marks
returns-in_default-clause-marks g c = λ es tune b. unmounted_holds c.args.self.now.marks c.args.self.now.log es (c.in_default.is)

pub returns-then-not-is_of_world-clause-marks : goal.returns-then-not-is_of_world-clause-marks
returns-then-not-is_of_world-clause-marks g c = λ es tune b. unmounted_holds c.close.new.self.marks c.close.new.self.log es c.close.ensures.none

pub returns-in-Ok-clause-marks : goal.returns-in-Ok-clause-marks
returns-in-Ok-clause-marks g c = λ es tune b.
    appended_holds true c.args.self.now.log c.in-Some.log c.append.new.self c.args.pending es tune c.in-Some.is b (c.is_of_world.ensures.covers c.if-not-is_of_world.false) (c.in-Ok.ensures.whole tt es tune) c.in-Ok.ensures.chosen

pub returns-in-Err-clause-marks : goal.returns-in-Err-clause-marks
returns-in-Err-clause-marks g c = λ es tune b. unmounted_holds c.close-in-Err.new.self.marks c.close-in-Err.new.self.log es c.close-in-Err.ensures.none

-- it was asked

pub returns-in-Ok-clause-wrote : goal.returns-in-Ok-clause-wrote
returns-in-Ok-clause-wrote g c = λ log es tune tells is left_out tuned count fit two covers.
    let m = c.requires.mounted c.in-Some.log tells c.in-Some.is in
    let made : StoredWorld = record { objects = persist es; tune = tune } in
    let P : LogState → Type 0 = λ l. LeavesOut (base_of l) (persist es) c.args.pending.batch.records → length l.chosen.held.world.objects ≤ length es → Appended g.D.Disk.seen g.D.Disk.moment g.D.Disk.images (payload_of l (world_batch es tune)) made l (Some c.append.new.self) c.args.first.now c.args.second.now c.append.new.first c.append.new.second (Ok tt) in
    subst P (one_log c.args.self.now.log c.in-Some.log log c.in-Some.is is)
    (λ left fewer. appended_ok g.D.Disk.seen g.D.Disk.moment g.D.Disk.images c.in-Some.log c.append.new.self c.args.first.now c.args.second.now c.append.new.first c.append.new.second c.args.pending.batch made m
    (c.in-Ok.ensures.any tells m.fresh) (payload_of c.in-Some.log (world_batch es tune)) (left_payload c.in-Some.log c.args.pending.batch es tune c.is_of_world.ensures.kept left tuned)
    (Some c.append.new.self) refl
    (c.in-Ok.ensures.whole tt es tune left tuned fit two fewer)
    c.in-Ok.ensures.chosen (c.in-Ok.ensures.mounted tells) c.in-Ok.ensures.answer.1)
    left_out covers

pub returns-in-Err-clause-wrote : goal.returns-in-Err-clause-wrote
returns-in-Err-clause-wrote g c = λ log es tune tells is left_out tuned count fit two covers.
    let m = c.requires.mounted c.in-Some.log tells c.in-Some.is in
    let made : StoredWorld = record { objects = persist es; tune = tune } in
    let P : LogState → Type 0 = λ l. LeavesOut (base_of l) (persist es) c.args.pending.batch.records → length l.chosen.held.world.objects ≤ length es → Appended g.D.Disk.seen g.D.Disk.moment g.D.Disk.images (payload_of l (world_batch es tune)) made l (c.close-in-Err.new.self.log) c.args.first.now c.args.second.now c.append.new.first c.append.new.second (Err c.in-Err.fault) in
    subst P (one_log c.args.self.now.log c.in-Some.log log c.in-Some.is is)
    (λ left fewer. appended_err g.D.Disk.seen g.D.Disk.moment g.D.Disk.images c.in-Some.log c.append.new.self c.args.first.now c.args.second.now c.append.new.first c.append.new.second c.args.pending.batch made m
    (c.in-Err.ensures.any tells m.fresh) (payload_of c.in-Some.log (world_batch es tune)) (left_payload c.in-Some.log c.args.pending.batch es tune c.is_of_world.ensures.kept left tuned)
    c.in-Err.fault c.close-in-Err.new.self.log c.close-in-Err.ensures.none c.in-Err.ensures.answer c.in-Err.ensures.untouched
    (λ t. c.in-Err.ensures.whole t es tune left tuned fit two fewer))
    left_out covers
