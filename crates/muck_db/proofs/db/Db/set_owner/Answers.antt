use Rattle.spec_live.specs.Setting.{owner_check, with_owner}
use Rattle.spec_live.proofs.SettingLaws.{consistent_owned}
use Rattle.muck_db.proofs.LimitLaws.{limits_owned}
use Rattle.muck_db.proofs.Settings.{may_set, checked_so}
use Rattle.muck_db.proofs.db.Db.set_owner.Goals as goal

pub set-requires : goal.set-requires
set-requires c =
    may_set _ _ (with_owner c.args.owner) _ _ c.self.view_is c.check_owner-checked.ensures.is c.check_owner-checked.ensures.alive
    (λ n e. consistent_owned c.args.d c.args.owner _ n e c.self.invariant.kept.sound.world) (λ n e. limits_owned c.args.owner n _ c.self.invariant.kept.sound.limits)

pub returns : goal.returns
returns c = checked_so (owner_check c.args.d c.args.owner) _ (with_owner c.args.owner) _ _ _ _ c.self.view_is c.check_owner-checked.ensures.is c.set.ensures
