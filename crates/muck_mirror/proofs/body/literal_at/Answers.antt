use Rattle.std.proofs.Common.{◌≡◌, ◌∙◌, sym, ap, Ok, drop, length, arith}
use Rattle.muck_mirror.proofs.Walks.{literal_more, literal_other, literal_none, literal_end}
use Rattle.muck_mirror.proofs.body.literal_at.Goals as goal

pub returns-then-i-bytes : goal.returns-then-i-bytes
returns-then-i-bytes c = c.loop-i.invariant.same ∙ literal_none c.args.wanted.now c.args.bytes.now c.loop-i.i 0 c.loop-i-test.true c.if-i-bytes.true

pub returns-then-bytes-i : goal.returns-then-bytes-i
returns-then-bytes-i c = c.loop-i.invariant.same ∙ literal_other c.args.wanted.now c.args.bytes.now c.loop-i.i 0 c.loop-i-test.true c.if-i-bytes.false c.if-bytes-i.true

pub loop-i-preserved : goal.loop-i-preserved
loop-i-preserved c = record {
  within = omega (arith, c.if-i-bytes.false);
  same = c.loop-i.invariant.same ∙ literal_more c.args.wanted.now c.args.bytes.now c.loop-i.i 0 c.loop-i-test.true c.if-i-bytes.false c.if-bytes-i.false;
}

pub returns : goal.returns
returns c =
    let whole : c.loop-i.i ≡ length c.args.wanted.now = omega (arith, c.loop-i-test.false, c.loop-i.auto.i-end) in
    c.loop-i.invariant.same ∙ literal_end c.args.wanted.now c.args.bytes.now c.loop-i.i c.loop-i-test.false
    ∙ ap Ok (ap (λ n. drop n c.args.bytes.now) whole ∙ sym c.split_at.ensures.back)
