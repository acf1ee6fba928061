use Rattle.std.proofs.Common.{sym, ◌∙◌, subst, List, Ok, arith}
use Rattle.spec_live.specs.Objects.{Entry}
use Rattle.spec_live.specs.Moving.{Does}
use Rattle.spec_live.specs.Recycling.{recycled, recycle_check}
use Rattle.spec_live.proofs.RecyclingLaws.{recycle_checked}
use Rattle.muck_db.specs.inner.Slots.{entries_of}
use Rattle.muck_db.proofs.Bridge.{sound_order}
use Rattle.muck_db.proofs.Leaving.{length_cleared, recycled_from, does_recycled}
use Rattle.muck_db.proofs.Bounds.{kept_gone}
use Rattle.muck_db.proofs.db.Db.recycle.Goals as goal

pub clear_out-requires-clause-order : goal.clear_out-requires-clause-order
clear_out-requires-clause-order c = sound_order _ c.self.invariant.kept.sound

pub clear_out-requires-clause-lower : goal.clear_out-requires-clause-lower
clear_out-requires-clause-lower c = (recycle_checked _ _ c.in_ok-k.k (sym c.check_recycle.ensures.is ∙ c.in_ok-k.was)).0

pub vanish-least-requires-clause-known : goal.vanish-least-requires-clause-known
vanish-least-requires-clause-known c = length_cleared c.in_ok-k.k _ _ c.in_ok-k.ensures.within c.clear_out.ensures.sent

pub invariant_of-self : goal.invariant_of-self
invariant_of-self c = record {
  kept =
      kept_gone c.args.d c.in_ok-k.k c.self.inside.slots.items c.clear_out.new.slots.items c.vanish-least.new.slots.items c.self.inside.lowest c.self.inside.told c.vanish-least.result _ _ _
      (sym c.check_recycle.ensures.is ∙ c.in_ok-k.was) c.clear_out.ensures.sent c.vanish-least.ensures.entries c.vanish-least.ensures.ends
      (record { full = c.vanish-least.ensures.full; unmarked = c.vanish-least.ensures.unmarked })
      (omega (arith, c.min-self-inside.ensures)) (omega (arith, c.min-self-inside.ensures)) (omega (arith, c.min-self-inside-2.ensures)) (omega (arith, c.min-self-inside-2.ensures)) c.self.invariant.kept;
  tied = c.vanish-least.ensures.tied;
}

pub returns : goal.returns
returns c =
    let P : List Entry → Type 0 = λ z. Does recycled (recycle_check c.args.d z) z (entries_of c.vanish-least.new.slots.items) (Ok tt) in
    subst P c.self.view_is (does_recycled _ c.in_ok-k.k _ _ (sym c.check_recycle.ensures.is ∙ c.in_ok-k.was) (recycled_from c.in_ok-k.k _ _ _ c.clear_out.ensures.sent c.vanish-least.ensures.entries))
