use Rattle.std.proofs.Common.{sym, ◌∙◌}
use Rattle.spec_live.proofs.Checks.{move_checked}
use Rattle.muck_db.proofs.Bridge.{sound_order, kept_moved}
use Rattle.muck_db.proofs.Tying.{ties_moved}
use Rattle.muck_db.proofs.db.Db.move_to.Goals as goal

pub check_move-requires : goal.check_move-requires
check_move-requires c = sound_order _ c.self.invariant.kept.sound

pub relocate-requires-clause-order : goal.relocate-requires-clause-order
relocate-requires-clause-order c = sound_order _ c.self.invariant.kept.sound

pub relocate-requires-clause-may : goal.relocate-requires-clause-may
relocate-requires-clause-may c = move_checked _ _ _ (c.in_ok-d.d, c.in_ok-d.to) (sym c.check_move.ensures ∙ c.in_ok-d.was)

pub invariant_of-self : goal.invariant_of-self
invariant_of-self c = record {
  kept = kept_moved _ _ _ _ _ _ _ (move_checked _ _ _ (c.in_ok-d.d, c.in_ok-d.to) (sym c.check_move.ensures ∙ c.in_ok-d.was)) c.relocate.ensures.moved c.relocate.ensures.order c.self.invariant.kept;
  tied = ties_moved c.in_ok-d.d c.in_ok-d.to _ _ _ c.relocate.ensures.moved c.self.invariant.tied;
}
