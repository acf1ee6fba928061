use Rattle.std.proofs.Common.{ℕ, List}
use Rattle.std.proofs.lemmas.Result.{err_from_is_err_and}
use Rattle.muck_codec.specs.Records.{line_at, source_lines_at}
use Rattle.muck_codec.proofs.Loops.{goes_on, ends, is_done}
use Rattle.muck_codec.proofs.record.lines_at.Goals as goal

pub returns-in_err-line : goal.returns-in_err-line
returns-in_err-line c =
    let p = err_from_is_err_and c.from_residual.result c.from_residual.ensures.1 in
    rw (p.1, p.2) (ends (λ (line : List ℕ). line) line_at c.in_err-line.field-0.0 c.loop.lines.items c.args.count c.loop.counter c.loop.rest.now (source_lines_at c.args.count c.args.bytes.now) c.loop-test.true c.in_err-line.ensures c.loop.invariant)

pub loop-preserved : goal.loop-preserved
loop-preserved c =
    rw (c.in_ok-push.ensures.items) (goes_on (λ (line : List ℕ). line) line_at c.loop.lines.items c.args.count c.loop.counter c.loop.rest.now c.in_ok-line.line c.in_ok-line.after.now (source_lines_at c.args.count c.args.bytes.now) c.loop-test.true c.in_ok-line.ensures c.loop.invariant)

pub returns : goal.returns
returns c = is_done (λ (line : List ℕ). line) line_at c.loop.lines.items c.args.count c.loop.counter c.loop.rest.now (source_lines_at c.args.count c.args.bytes.now) c.loop-test.false c.loop.invariant
