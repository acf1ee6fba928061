use Rattle.spec_live.specs.Setting.{flags_check, with_flags}
use Rattle.spec_live.proofs.SettingLaws.{consistent_flagged}
use Rattle.muck_db.proofs.Bridge.{sound_order}
use Rattle.muck_db.proofs.LimitLaws.{limits_flagged}
use Rattle.muck_db.proofs.Settings.{may_set, checked_so}
use Rattle.muck_db.proofs.db.Db.set_flags.Goals as goal

pub check_flags-checked-requires : goal.check_flags-checked-requires
check_flags-checked-requires c = record { order = sound_order _ c.self.invariant.kept.sound }

pub set-requires : goal.set-requires
set-requires c =
    may_set _ _ (with_flags c.args.flags) _ _ c.self.view_is c.check_flags-checked.ensures.is c.check_flags-checked.ensures.alive
    (λ n e. consistent_flagged c.args.d c.args.flags _ n e c.self.invariant.kept.sound.world) (λ n e. limits_flagged c.args.flags n _ c.requires c.self.invariant.kept.sound.limits)

pub returns : goal.returns
returns c = checked_so (flags_check c.args.d c.args.flags) _ (with_flags c.args.flags) _ _ _ _ c.self.view_is c.check_flags-checked.ensures.is c.set.ensures
