use Rattle.std.proofs.Common.{◌∙◌, ◌+◌, ◌≤◌, take, drop, sym, ap, arith}
use Rattle.std.proofs.lemmas.List.{drop-drop}
use Rattle.muck_laws.proofs.Parts.{part_more}
use Rattle.muck_log.proofs.Mounting.{quiet, quiet_too}
use Rattle.muck_bodies.proofs.walk.read_part.Goals as goal

pub loop-got-preserved : goal.loop-got-preserved
loop-got-preserved g c =
    let few : c.less-n.result ≤ c.in_ok-n.n = omega (arith, c.less-n.ensures) in record {
      within = omega (arith, c.less-n.ensures, c.loop-got.invariant.within, c.loop-got-test.true);
      bytes = λ t. c.in_ok-extend_from_slice.ensures.items
          ∙ part_more (drop c.args.at (g.D.Disk.seen c.args.disk.now)) c.loop-got.bytes.items c.read.new.buf c.split_at.result.0.now c.loop-got.got c.in_ok-n.n c.less-n.result (c.loop-got.invariant.bytes t) few
          (c.in_ok-n.ensures.bytes t ∙ ap (λ s. take c.in_ok-n.n (drop (c.args.at + c.loop-got.got) s)) (c.loop-got.invariant.seen t) ∙ ap (take c.in_ok-n.n) (sym (drop-drop c.loop-got.got c.args.at (g.D.Disk.seen c.args.disk.now))))
          c.split_at.ensures.front;
      seen = λ t. c.read.ensures.seen t ∙ c.loop-got.invariant.seen t;
      any = λ t. quiet_too g.D.Disk.seen g.D.Disk.moment g.D.Disk.images c.args.disk.now c.loop-got.disk c.read.new.self (c.loop-got.invariant.any t)
          (quiet g.D.Disk.seen g.D.Disk.moment g.D.Disk.images c.loop-got.disk c.read.new.self (c.read.ensures.time t));
      attached = c.read.ensures.keeps ∙ c.loop-got.invariant.attached;
      later = omega (arith, c.loop-got.invariant.later, c.read.ensures.later);
    }
