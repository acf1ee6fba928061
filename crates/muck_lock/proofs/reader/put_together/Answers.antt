-- What is taken from the end goes on with the lock.
use Rattle.std.proofs.Common.{◌≡◌, true, sym, ◌∙◌, ap, arith}
use Rattle.std.specs.Prelude.{slice_get}
use Rattle.muck_lock.specs.inner.Waiting.{ends, filled, place_behind, outcome_behind}
use Rattle.muck_lock.proofs.Passing.{step_fills, place_behind-within}
use Rattle.muck_lock.proofs.reader.put_together.Goals as goal

pub loop-last-preserved : goal.loop-last-preserved
loop-last-preserved c =
    let t = c.in-Some.ensures.taken in
    let goes : ends c.in-Some.last (slice_get c.args.text.now c.loop-last.end) ≡ true = ap (ends c.in-Some.last) (sym c.byte_at.ensures) ∙ t.1 in
    let within = place_behind-within c.args.text.now c.in-Some.last c.loop-last.end goes c.loop-last.invariant.to in
    let place : c.place_behind-end.result ≡ place_behind c.in-Some.last c.loop-last.end = c.place_behind-end.ensures in
    record {
      outcome = λ names.
          ap (λ l. outcome_behind names c.args.text.now c.take_last.new.waiting.items l c.place_behind-end.result) c.in_ok-lock.ensures
          ∙ ap (λ e. outcome_behind names c.args.text.now c.take_last.new.waiting.items (filled c.in-Some.last c.loop-last.lock) e) place
          ∙ sym (step_fills names c.args.text.now c.loop-last.waiting.items c.take_last.new.waiting.items c.in-Some.last c.loop-last.lock c.loop-last.end t.0 goes)
          ∙ c.loop-last.invariant.outcome names;
      from = omega (arith, place, within.0, c.loop-last.invariant.from);
      to = omega (arith, place, within.1);
    }
