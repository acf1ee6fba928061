-- Each way behind a lock is one of the steps of reading.
use Rattle.std.specs.Prelude.{vec_len}
use Rattle.std.proofs.Common.{◌<◌, length, Some, sym, ◌∙◌, ap, arith}
use Rattle.std.proofs.lemmas.Bool.{ne_eqb}
use Rattle.std.proofs.lemmas.Option.{slice_get_within}
use Rattle.muck_lock.proofs.Lasts.{empty_from, some_from}
use Rattle.muck_lock.proofs.Passing.{step_done, step_open, step_and, step_or, step_fault}
use Rattle.muck_lock.proofs.reader.next_behind.Goals as goal

pub returns-then-is_empty : goal.returns-then-is_empty
returns-then-is_empty c = λ names. step_done names c.args.text.now c.args.waiting.now.items c.args.piece.lock c.args.piece.end (sym c.in-None.ensures) (empty_from c.args.waiting.now.items (vec_len c.args.waiting.now) c.args.waiting.now.ok.0 c.if-is_empty.ensures)

pub returns-else-is_empty : goal.returns-else-is_empty
returns-else-is_empty c = λ names. step_open names c.args.text.now c.args.waiting.now.items c.args.piece.lock c.args.piece.end c.requires.stays (sym c.in-None.ensures) (some_from c.args.waiting.now.items (vec_len c.args.waiting.now) c.args.waiting.now.ok.0 c.if-is_empty.ensures) c.requires.end

pub returns-in_ok-push-in-Some-eq38 : goal.returns-in_ok-push-in-Some-eq38
returns-in_ok-push-in-Some-eq38 c = λ names.
    let within : c.args.piece.end < length c.args.text.now = slice_get_within c.args.text.now c.args.piece.end c.in-Some-eq38.field-0 (sym c.in-Some-eq38.ensures) in (
      step_and names c.args.text.now c.args.waiting.now.items c.push.new.self.items c.args.piece.lock c.args.piece.end c.requires.stays (sym c.in-Some-eq38.ensures ∙ ap Some c.in-Some-eq38.field-0-test) c.in_ok-push-in-Some-eq38.ensures.items,
      omega arith,
      omega (arith, within),
    )

pub returns-in_ok-push-in-Some-eq124 : goal.returns-in_ok-push-in-Some-eq124
returns-in_ok-push-in-Some-eq124 c = λ names.
    let within : c.args.piece.end < length c.args.text.now = slice_get_within c.args.text.now c.args.piece.end c.in-Some-eq124.field-0 (sym c.in-Some-eq124.ensures) in (
      step_or names c.args.text.now c.args.waiting.now.items c.push-in-Some-eq124.new.self.items c.args.piece.lock c.args.piece.end c.requires.stays (sym c.in-Some-eq124.ensures ∙ ap Some c.in-Some-eq124.field-0-test) c.in_ok-push-in-Some-eq124.ensures.items,
      omega arith,
      omega (arith, within),
    )

pub returns-in-Some : goal.returns-in-Some
returns-in-Some c = λ names. step_fault names c.args.text.now c.args.waiting.now.items c.args.piece.lock c.args.piece.end c.in-Some.field-0 c.requires.stays (sym c.in-Some.ensures)
    (ne_eqb c.in-Some.field-0 38 c.in-Some.field-0-test.0.1) (ne_eqb c.in-Some.field-0 124 c.in-Some.field-0-test.1) c.requires.end
