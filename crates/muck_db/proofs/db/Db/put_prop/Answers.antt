use Rattle.std.proofs.Common.{sym, ◌∙◌, subst, List, Ok, refl}
use Rattle.spec_live.specs.Objects.{Entry}
use Rattle.spec_live.specs.Setting.{Tries, set_at, every_number, checked, with_prop}
use Rattle.spec_live.proofs.SettingLaws.{consistent_stored}
use Rattle.muck_db.specs.inner.Slots.{entries_of}
use Rattle.muck_db.proofs.LimitLaws.{limits_stored}
use Rattle.muck_db.proofs.Fields.{entries_set, kept_set, tried}
use Rattle.muck_db.proofs.Tying.{ties_put}
use Rattle.muck_db.proofs.db.Db.put_prop.Goals as goal

pub invariant_of-self-2 : goal.invariant_of-self-2
invariant_of-self-2 c = record {
  kept =
      kept_set c.in_ok-k.k (with_prop c.args.path c.args.value) _ _ _ _ _ (λ o. refl) c.in_ok-k.ensures.alive c.in_ok-put_prop.ensures.ok
      (consistent_stored c.args.d c.args.path c.args.value _ c.in_ok-k.k (sym c.check_any.ensures.is ∙ c.in_ok-k.was) c.self.invariant.kept.sound.world) (limits_stored c.args.path c.args.value c.in_ok-k.k _ c.self.invariant.kept.sound.limits) c.self.invariant.kept;
  tied = ties_put c.in_ok-k.k (with_prop c.args.path c.args.value) _ _ _ c.in_ok-put_prop.ensures.ok (λ o. refl) (λ o. refl) c.self.invariant.tied;
}

pub returns : goal.returns
returns c =
    let P : List Entry → Type 0 = λ z. Tries (set_at (with_prop c.args.path c.args.value)) (checked every_number c.args.d z) z (entries_of c.put_prop.new.slots.items) (Ok tt) in
    subst P c.self.view_is (tried (with_prop c.args.path c.args.value) _ c.in_ok-k.k _ _ (sym c.check_any.ensures.is ∙ c.in_ok-k.was) (entries_set c.in_ok-k.k (with_prop c.args.path c.args.value) _ _ c.in_ok-k.ensures.alive c.in_ok-put_prop.ensures.ok))
