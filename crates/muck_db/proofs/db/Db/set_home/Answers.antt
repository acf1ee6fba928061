use Rattle.spec_live.specs.Setting.{home_check, with_home}
use Rattle.spec_live.proofs.SettingLaws.{consistent_homed}
use Rattle.muck_db.proofs.LimitLaws.{limits_homed}
use Rattle.muck_db.proofs.Settings.{may_set, checked_so}
use Rattle.muck_db.proofs.db.Db.set_home.Goals as goal

pub set-requires : goal.set-requires
set-requires c =
    may_set _ _ (with_home c.args.to) _ _ c.self.view_is c.check_home-checked.ensures.is c.check_home-checked.ensures.alive
    (λ n e. consistent_homed c.args.d c.args.to _ n e c.self.invariant.kept.sound.world) (λ n e. limits_homed c.args.to n _ c.self.invariant.kept.sound.limits)

pub returns : goal.returns
returns c = checked_so (home_check c.args.d c.args.to) _ (with_home c.args.to) _ _ _ _ c.self.view_is c.check_home-checked.ensures.is c.set.ensures
