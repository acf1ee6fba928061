use Rattle.std.proofs.Common.{sym, ◌∙◌, subst, List, Ok, refl}
use Rattle.spec_live.specs.Objects.{Entry}
use Rattle.spec_live.specs.Moving.{Does}
use Rattle.spec_live.specs.Setting.{set_at, every_number, checked, without_prop}
use Rattle.spec_live.proofs.SettingLaws.{consistent_removed}
use Rattle.muck_db.specs.inner.Slots.{entries_of}
use Rattle.muck_db.proofs.LimitLaws.{limits_removed}
use Rattle.muck_db.proofs.Fields.{entries_set, kept_set, did}
use Rattle.muck_db.proofs.Tying.{ties_put}
use Rattle.muck_db.proofs.db.Db.remove_prop.Goals as goal

pub invariant_of-self : goal.invariant_of-self
invariant_of-self c = record {
  kept =
      kept_set c.in_ok-k.k (without_prop c.args.path.now) _ _ _ _ _ (λ o. refl) c.in_ok-k.ensures.alive c.remove_prop.ensures
      (consistent_removed c.args.d c.args.path.now _ c.in_ok-k.k (sym c.check_any.ensures.is ∙ c.in_ok-k.was) c.self.invariant.kept.sound.world) (limits_removed c.args.path.now c.in_ok-k.k _ c.self.invariant.kept.sound.limits) c.self.invariant.kept;
  tied = ties_put c.in_ok-k.k (without_prop c.args.path.now) _ _ _ c.remove_prop.ensures (λ o. refl) (λ o. refl) c.self.invariant.tied;
}

pub returns : goal.returns
returns c =
    let P : List Entry → Type 0 = λ z. Does (set_at (without_prop c.args.path.now)) (checked every_number c.args.d z) z (entries_of c.remove_prop.new.slots.items) (Ok tt) in
    subst P c.self.view_is (did (without_prop c.args.path.now) _ c.in_ok-k.k _ _ (sym c.check_any.ensures.is ∙ c.in_ok-k.was) (entries_set c.in_ok-k.k (without_prop c.args.path.now) _ _ c.in_ok-k.ensures.alive c.remove_prop.ensures))
