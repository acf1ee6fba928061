use Rattle.std.proofs.Common.{◌+◌, ◌-◌, ◌<◌, ◌≤◌, length, arith}
use Rattle.muck_laws.proofs.Parts.{keeps_within}
use Rattle.muck_laws.proofs.Results.{on_err_given}
use Rattle.muck_io.proofs.Taken.{took_more, broke_reading}
use Rattle.muck_io.proofs.source.read_all.Goals as goal

pub returns-in_err-extend_from_slice-in-Bytes-clause-front : goal.returns-in_err-extend_from_slice-in-Bytes-clause-front
returns-in_err-extend_from_slice-in-Bytes-clause-front g c =
    let below : length c.loop-buf.bytes.items < c.args.most = grind arith in
    let room : c.min-room.result ≤ c.args.most - length c.loop-buf.bytes.items = omega (arith, c.min-room.ensures, c.len-in-loop-buf.ensures) in
    let within : length c.loop-buf.bytes.items + c.in-Bytes.n ≤ c.args.most = keeps_within _ _ _ _ _ _ c.in-Bytes.ensures.bytes.1 c.read.auto.buf room below in
    on_err_given c.from_residual.result _ (took_more _ _ _ _ _ _ _ c.loop-buf.invariant.0 c.in-Bytes.ensures.bytes.2 within)

pub returns-in-Failed-clause-broke : goal.returns-in-Failed-clause-broke
returns-in-Failed-clause-broke g c _ =
    let below : length c.loop-buf.bytes.items < c.args.most = grind arith in
    broke_reading _ g.S.Source.left g.S.Source.faults _ c.loop-buf.source _ _ _ c.loop-buf.invariant.0 below c.loop-buf.invariant.2 c.in-Failed.ensures.cause.1 c.in-Failed.ensures.bytes
