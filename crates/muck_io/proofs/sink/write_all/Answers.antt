use Rattle.std.proofs.Common.{◌≡◌, ◌<◌, ℕ, length, take, ◌∙◌, subst, arith}
use Rattle.muck_io.specs.Sink.{Appends}
use Rattle.muck_io.proofs.Appended.{part_goes_on, front_of, part_failed, broke_writing, nothing_more}
use Rattle.muck_io.proofs.sink.write_all.Goals as goal

pub returns-then-n-eq0-clause-front : goal.returns-then-n-eq0-clause-front
returns-then-n-eq0-clause-front g c = front_of _ _ _ _ (part_goes_on _ _ _ _ _ _ c.loop-rest.invariant.0 c.in-Bytes.ensures.bytes.1)

pub loop-rest-preserved : goal.loop-rest-preserved
loop-rest-preserved g c =
    let more : 0 < c.in-Bytes.n = omega (arith, c.if-n-eq0.false) in
    let fine : g.K.Sink.faults c.write.new.self ≡ g.K.Sink.faults c.args.out.now = c.in-Bytes.ensures.cause.2 more ∙ c.loop-rest.invariant.1 in
    rw c.split_at.ensures.back (part_goes_on _ _ _ _ _ _ c.loop-rest.invariant.0 c.in-Bytes.ensures.bytes.1, fine)

pub returns-in-Failed-clause-front : goal.returns-in-Failed-clause-front
returns-in-Failed-clause-front g c = part_failed _ _ _ _ _ c.loop-rest.invariant.0 c.in-Failed.ensures.bytes

pub returns-in-Failed-clause-broke : goal.returns-in-Failed-clause-broke
returns-in-Failed-clause-broke g c =
    let more : 0 < length c.loop-rest.rest.now = grind arith in
    broke_writing _ g.K.Sink.written g.K.Sink.faults _ c.loop-rest.out _ _ _ c.loop-rest.invariant.0 more c.loop-rest.invariant.1 c.in-Failed.ensures.cause.1 (nothing_more _ _ c.in-Failed.ensures.bytes)

pub returns-then-n-eq0-clause-broke : goal.returns-then-n-eq0-clause-broke
returns-then-n-eq0-clause-broke g c =
    let more : 0 < length c.loop-rest.rest.now = grind arith in
    let P : ℕ → Type 0 = λ n. Appends (g.K.Sink.written c.loop-rest.out) (g.K.Sink.written c.write.new.self) (take n c.loop-rest.rest.now) in
    let still : P 0 = subst P c.if-n-eq0.true c.in-Bytes.ensures.bytes.1 in
    broke_writing _ g.K.Sink.written g.K.Sink.faults _ c.loop-rest.out _ _ _ c.loop-rest.invariant.0 more c.loop-rest.invariant.1 (c.in-Bytes.ensures.cause.1 c.if-n-eq0.true more) still
