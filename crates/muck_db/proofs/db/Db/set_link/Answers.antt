use Rattle.spec_live.specs.Setting.{link_check, with_link}
use Rattle.spec_live.proofs.SettingLaws.{consistent_linked}
use Rattle.muck_db.proofs.LimitLaws.{limits_linked}
use Rattle.muck_db.proofs.Settings.{may_set, checked_so}
use Rattle.muck_db.proofs.db.Db.set_link.Goals as goal

pub set-requires : goal.set-requires
set-requires c =
    may_set _ _ (with_link c.args.to) _ _ c.self.view_is c.check_link-checked.ensures.is c.check_link-checked.ensures.alive
    (λ n e. consistent_linked c.args.d c.args.to _ n e c.self.invariant.kept.sound.world) (λ n e. limits_linked c.args.to n _ c.self.invariant.kept.sound.limits)

pub returns : goal.returns
returns c = checked_so (link_check c.args.d c.args.to) _ (with_link c.args.to) _ _ _ _ c.self.view_is c.check_link-checked.ensures.is c.set.ensures
