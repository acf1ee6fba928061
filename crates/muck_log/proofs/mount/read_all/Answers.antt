use Rattle.std.proofs.Common.{◌++◌, length, take, drop, sym, ◌∙◌, ap, arith, length-take, length-append}
use Rattle.muck_laws.proofs.Parts.{back_front}
use Rattle.muck_log.proofs.Mounting.{reached_start, first_so_far, more_so_far, whole_so_far, over_so_far}
use Rattle.muck_log.proofs.mount.read_all.Goals as goal
use Rattle.muck_log.proofs.mount.read_all.Goals.{then-loop-at-test+else-not-is_over, else-loop-at-test}

pub loop-at-init : goal.loop-at-init
loop-at-init g c = record {
  within = omega arith;
  reached = reached_start c.args.generation c.in_ok-reader.reader c.in_ok-reader.ensures.ok;
  room = c.in_ok-buf.ensures;
  told = λ t. first_so_far g.D.Disk.seen g.D.Disk.moment g.D.Disk.images c.args.disk.now c.size.new.self c.args.generation c.in_ok-size.size c.in_ok-reader.reader (c.in_ok-size.ensures.size t) (c.size.ensures.seen t) (c.size.ensures.time t) c.in_ok-reader.ensures.ok;
  attached = c.size.ensures.keeps;
  later = c.size.ensures.later;
}

pub loop-at-preserved : goal.loop-at-preserved
loop-at-preserved g c = record {
  within = omega (arith, c.in_ok-n.ensures.within, c.loop-at-test.true);
  reached = omega (arith, c.in_ok-feed.ensures.reached, c.loop-at.invariant.reached, c.split_at.ensures.front_len);
  room = omega (arith, c.loop-at.invariant.room, length-take c.loop-at.buf.len (c.piece.new.buf ++ drop (length c.piece.new.buf) c.loop-at.buf.items), length-append c.piece.new.buf (drop (length c.piece.new.buf) c.loop-at.buf.items), c.loop-at.buf.ok, c.piece.auto.buf, ap length c.deref_mut.ensures.value);
  told = λ t.
      let so = c.loop-at.invariant.told t in
      let piece = c.in_ok-n.ensures.bytes t (so.size ∙ ap length (sym so.seen)) in
      more_so_far g.D.Disk.seen g.D.Disk.moment g.D.Disk.images c.args.disk.now c.loop-at.disk c.piece.new.disk c.args.generation c.loop-at.at c.in_ok-n.n c.in_ok-size.size c.loop-at.reader c.feed.new.self c.split_at.result.0.now so
      (c.split_at.ensures.front ∙ ap (take c.in_ok-n.n) c.deref.ensures.value ∙ back_front c.in_ok-n.n c.loop-at.buf.len c.piece.new.buf (drop (length c.piece.new.buf) c.loop-at.buf.items) c.in_ok-n.ensures.fits (omega (arith, c.loop-at.buf.ok, c.piece.auto.buf, ap length c.deref_mut.ensures.value)) ∙ piece.1) (c.piece.ensures.seen t) (c.piece.ensures.any t) c.in_ok-feed.ensures.run;
  attached = c.piece.ensures.attached ∙ c.loop-at.invariant.attached;
  later = omega (arith, c.loop-at.invariant.later, c.piece.ensures.later);
}

pub returns-clause-reads : goal.returns-clause-reads
returns-clause-reads g c = λ t.
    let so = c.loop-at.invariant.told t in
    elim c.loop-at-test.branch [
      | then-loop-at-test+else-not-is_over w ↦ over_so_far g.D.Disk.seen g.D.Disk.moment g.D.Disk.images c.args.disk.now c.loop-at.disk c.args.generation c.loop-at.at c.in_ok-size.size c.loop-at.reader so (sym w.is_over.ensures ∙ w.if-not-is_over.false)
      | else-loop-at-test w ↦ whole_so_far g.D.Disk.seen g.D.Disk.moment g.D.Disk.images c.args.disk.now c.loop-at.disk c.args.generation c.loop-at.at c.in_ok-size.size c.loop-at.reader so w.loop-at-test.false
    ]
