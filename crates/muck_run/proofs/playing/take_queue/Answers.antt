use Rattle.std.proofs.Common.{◌<◌, ◌≤◌, [], length, refl, ◌∙◌, arith}
use Rattle.std.proofs.lemmas.Bool.{cond-true, lt-ltb}
use Rattle.muck_laws.proofs.Lists.{no_ending}
use Rattle.spec_dumps.proofs.Quiet.{quiet_nothing, quiet_one, quiet_on}
use Rattle.spec_events.specs.World.{queue_of}
use Rattle.spec_events.specs.Histories.{now}
use Rattle.spec_events.proofs.Runs.{longer_one}
use Rattle.muck_run.proofs.Parts.{plays_one, breaks_after, text_taken, taken_some, whole_queue, front_nothing, entered_twice, lives_on}
use Rattle.muck_run.proofs.Acts.{quiet_if}
use Rattle.muck_run.proofs.playing.take_queue.Goals as goal

pub returns-in-Ok-write_all-clause-plays : goal.returns-in-Ok-write_all-clause-plays
returns-in-Ok-write_all-clause-plays g c =
    let count = c.queued.ensures.count c.requires.alive in
    let room : length (queue_of c.args.d (now c.args.world.now)) ≤ length c.args.buf.now = omega (arith, count, c.queued.ensures.most, c.requires.room) in
    let whole = whole_queue c.args.d c.take-count.result (length c.args.buf.now) (now c.args.world.now) c.take-count.ensures.count c.requires.alive room in
    let some : 0 < c.take-count.result = omega (arith, whole, count) in
    plays_one _ _ _ _ _ _ _ (λ later. taken_some c.args.d _ (now c.args.world.now) whole some) (c.take-count.ensures.step ∙ cond-true _ _ _ (lt-ltb 0 _ some)) refl c.requires.alive
    (text_taken c.args.d _ (now c.args.world.now) _ _ c.take-count.ensures.bytes (c.as_slice.ensures.value ∙ c.in-Ok.ensures)) c.in-Ok-write_all.ensures.ok

pub returns-in-Ok-clause-plays : goal.returns-in-Ok-clause-plays
returns-in-Ok-clause-plays g c =
    let count = c.queued.ensures.count c.requires.alive in
    let room : length (queue_of c.args.d (now c.args.world.now)) ≤ length c.args.buf.now = omega (arith, count, c.queued.ensures.most, c.requires.room) in
    let whole = whole_queue c.args.d c.take-count.result (length c.args.buf.now) (now c.args.world.now) c.take-count.ensures.count c.requires.alive room in
    let some : 0 < c.take-count.result = omega (arith, whole, count) in
    breaks_after _ [] _ _ _ _ _ _ (λ later. taken_some c.args.d _ (now c.args.world.now) whole some) (longer_one _ _ _ (c.take-count.ensures.step ∙ cond-true _ _ _ (lt-ltb 0 _ some)))
    (text_taken c.args.d _ (now c.args.world.now) _ _ c.take-count.ensures.bytes (c.as_slice.ensures.value ∙ c.in-Ok.ensures)) c.in-Err-write_all.ensures.front
    (λ _. lives_on _ _ _ (c.take-count.ensures.step ∙ cond-true _ _ _ (lt-ltb 0 _ some)) refl c.requires.alive)

pub returns-clause-plays : goal.returns-clause-plays
returns-clause-plays g c =
    let count = c.queued.ensures.count c.requires.alive in
    let room : length (queue_of c.args.d (now c.args.world.now)) ≤ length c.args.buf.now = omega (arith, count, c.queued.ensures.most, c.requires.room) in
    let whole = whole_queue c.args.d c.take-count.result (length c.args.buf.now) (now c.args.world.now) c.take-count.ensures.count c.requires.alive room in
    let some : 0 < c.take-count.result = omega (arith, whole, count) in
    breaks_after _ _ _ _ _ _ _ _ (λ later. taken_some c.args.d _ (now c.args.world.now) whole some) (entered_twice _ _ _ _ _ (c.take-count.ensures.step ∙ cond-true _ _ _ (lt-ltb 0 _ some)) c.died.ensures) refl (front_nothing _ _) (λ e. no_ending e)

-- no dump is made of it

pub returns-then-queued-eq0-clause-quiet : goal.returns-then-queued-eq0-clause-quiet
returns-then-queued-eq0-clause-quiet g c = quiet_nothing _ _ refl

pub returns-in-Ok-write_all-clause-quiet : goal.returns-in-Ok-write_all-clause-quiet
returns-in-Ok-write_all-clause-quiet g c = quiet_if _ _ _ _ refl c.take-count.ensures.step

pub returns-in-Ok-clause-quiet : goal.returns-in-Ok-clause-quiet
returns-in-Ok-clause-quiet g c = quiet_if _ _ _ _ refl c.take-count.ensures.step

pub returns-clause-quiet : goal.returns-clause-quiet
returns-clause-quiet g c = quiet_on _ _ _ (quiet_if _ _ _ _ refl c.take-count.ensures.step) (quiet_one _ _ _ refl c.died.ensures)
