use Rattle.std.proofs.Common.{sym, ◌∙◌, ap, arith}
use Rattle.muck_laws.proofs.Numbers.{later_block}
use Rattle.muck_db.specs.inner.Table.{Table}
use Rattle.muck_db.proofs.Blocked.{passed_over}
use Rattle.muck_db.proofs.slots.Slots.next_flagged.Goals as goal

pub loop-k-preserved : goal.loop-k-preserved
loop-k-preserved c = record {
  later = omega (arith, c.loop-k.invariant.later, later_block c.loop-k.k);
  lacks =
      passed_over c.args.flag c.self.inside.table.items c.args.self.now.items c.self.inside.blocks.items c.args.from c.loop-k.k (ap (λ (t : Table). t.items) c.self.view_is) c.self.invariant.0
      (sym c.flagged.ensures ∙ c.if-flagged.false) c.loop-k.invariant.lacks;
}
