use Rattle.std.proofs.Common.{take, drop, sym, ◌∙◌, ap, refl, arith}
use Rattle.muck_log.specs.File.{FileReading, run}
use Rattle.muck_log.proofs.Runs.{run_add}
use Rattle.muck_log.proofs.reader.Reader.feed.Goals as goal

pub loop-at-init : goal.loop-at-init
unfolding run
loop-at-init c = (refl, omega arith, omega arith)

pub loop-at-preserved : goal.loop-at-preserved
loop-at-preserved c =
    let bytes = c.args.bytes.now in
    let at = c.loop-at.at in
    let n = c.in_ok-at.field-0 in (
      c.in_ok-at.ensures.run ∙ ap (λ l. run c.loop-at.self (take n l)) c.split_at.ensures.back ∙ ap (λ (s : FileReading). run s (take n (drop at bytes))) c.loop-at.invariant.0 ∙ sym (run_add c.args.self.now bytes at n),
      omega (arith, c.loop-at.invariant.1, c.in_ok-at.ensures.reached),
      omega (arith, c.in_ok-at.ensures.took, c.split_at.ensures.back_len, c.loop-at.invariant.2),
    )
