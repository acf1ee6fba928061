use Rattle.std.proofs.Common.{sym, ◌∙◌}
use Rattle.spec_live.specs.Setting.{password_check}
use Rattle.spec_live.proofs.SettingLaws.{consistent_password}
use Rattle.muck_db.proofs.LimitLaws.{limits_password}
use Rattle.muck_db.proofs.Settings.{may_digest, digest_tried}
use Rattle.muck_db.proofs.db.Db.set_password.Goals as goal

pub set-requires : goal.set-requires
set-requires c =
    may_digest c.in_ok-k.k c.args.salt c.args.word.now _ _ _ c.self.view_is c.in_ok-k.ensures.alive c.in_ok-digest.ensures.digest
    (consistent_password c.args.d c.args.salt c.args.word.now _ _ (sym c.check_player.ensures.is ∙ c.in_ok-k.was) c.self.invariant.kept.sound.world)
    (limits_password c.args.salt c.args.word.now _ _ c.self.invariant.kept.sound.limits)

pub returns : goal.returns
returns c =
    digest_tried (password_check c.args.d) c.in_ok-k.k c.args.salt c.args.word.now _ _ _ _ _ c.self.view_is (sym c.check_player.ensures.is ∙ c.in_ok-k.was) c.in_ok-digest.ensures.digest c.set.ensures
