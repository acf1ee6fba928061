use Rattle.spec_live.specs.Setting.{level_check, with_level}
use Rattle.spec_live.proofs.SettingLaws.{consistent_leveled}
use Rattle.muck_db.proofs.LimitLaws.{limits_leveled}
use Rattle.muck_db.proofs.Settings.{may_set, checked_so}
use Rattle.muck_db.proofs.db.Db.set_level.Goals as goal

pub set-requires : goal.set-requires
set-requires c =
    may_set _ _ (with_level c.args.level) _ _ c.self.view_is c.check_level-checked.ensures.is c.check_level-checked.ensures.alive
    (λ n e. consistent_leveled c.args.d c.args.level _ n e c.self.invariant.kept.sound.world) (λ n e. limits_leveled c.args.d c.args.level _ n e c.self.invariant.kept.sound.limits)

pub returns : goal.returns
returns c = checked_so (level_check c.args.d c.args.level) _ (with_level c.args.level) _ _ _ _ c.self.view_is c.check_level-checked.ensures.is c.set.ensures
