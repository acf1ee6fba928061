use Rattle.muck_db.specs.inner.Slots.{on_slot}
use Rattle.muck_db.specs.inner.Settings.{with_setting}
use Rattle.muck_db.proofs.Settings.{can_set, set_known, set_kept, set_does}
use Rattle.muck_db.proofs.Tying.{tethered, ties_set}
use Rattle.muck_db.proofs.db.Db.set.Goals as goal

pub set_at-requires : goal.set_at-requires
set_at-requires c = set_known _ _ _ (can_set _ (with_setting c.args.setting) _ _ _ c.self.view_is c.in_ok-k.was c.requires)

pub invariant_of-self : goal.invariant_of-self
invariant_of-self c = record {
  kept = set_kept c.args.setting _ _ _ _ _ _ (can_set _ _ _ _ _ c.self.view_is c.in_ok-k.was c.requires) c.set_at.ensures c.self.invariant.kept;
  tied = ties_set c.in_ok-k.k (on_slot (with_setting c.args.setting)) _ _ _ _ c.tether_of.result c.set_at.ensures c.tether_of.ensures.home c.tether_of.ensures.link c.retie.ensures.long c.retie.ensures.others c.retie.ensures.noted c.self.invariant.tied;
}

pub retie-requires : goal.retie-requires
retie-requires c = tethered _ _ c.in_ok-k.k c.tether_of-before.result c.tether_of-before.ensures.home c.tether_of-before.ensures.link c.self.invariant.tied

pub returns : goal.returns
returns c =
    set_does _ (with_setting c.args.setting) c.in_ok-k.k _ _ _ c.self.view_is c.in_ok-k.was (can_set _ _ _ _ _ c.self.view_is c.in_ok-k.was c.requires) c.set_at.ensures
