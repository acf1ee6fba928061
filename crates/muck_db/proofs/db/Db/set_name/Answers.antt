use Rattle.spec_live.specs.Setting.{every_number, checked, with_name}
use Rattle.spec_live.proofs.SettingLaws.{consistent_named}
use Rattle.muck_db.proofs.LimitLaws.{limits_named}
use Rattle.muck_db.proofs.Settings.{may_set, checked_so}
use Rattle.muck_db.proofs.db.Db.set_name.Goals as goal

pub set-requires : goal.set-requires
set-requires c =
    may_set _ _ (with_name c.args.name) _ _ c.self.view_is c.check_any-checked.ensures.is c.check_any-checked.ensures.alive
    (λ n e. consistent_named c.args.d c.args.name _ n e c.self.invariant.kept.sound.world) (λ n e. limits_named c.args.name n _ c.requires.some c.requires.short c.self.invariant.kept.sound.limits)

pub returns : goal.returns
returns c = checked_so (λ z. checked every_number c.args.d z) _ (with_name c.args.name) _ _ _ _ c.self.view_is c.check_any-checked.ensures.is c.set.ensures
