use Rattle.std.proofs.Common.{sym, ◌∙◌, subst, List, Ok, arith}
use Rattle.spec_live.specs.Objects.{Entry}
use Rattle.spec_live.specs.Moving.{Does}
use Rattle.spec_live.specs.Setting.{lines_set, lines_check}
use Rattle.spec_live.proofs.SettingLaws.{consistent_lined}
use Rattle.muck_db.specs.inner.Slots.{entries_of}
use Rattle.muck_db.proofs.LimitLaws.{limits_lined}
use Rattle.muck_db.proofs.Tellings.{entries_lined, kept_lined, lined}
use Rattle.muck_db.proofs.Tying.{ties_lined}
use Rattle.muck_db.proofs.db.Db.set_lines.Goals as goal

pub returns : goal.returns
returns c =
    let P : List Entry → Type 0 = λ z. Does (lines_set c.args.lines) (lines_check c.args.d z) z (entries_of c.set_lines.new.slots.items) (Ok tt) in
    subst P c.self.view_is (lined c.args.lines _ c.in_ok-k.k _ _ (sym c.check_program.ensures.is ∙ c.in_ok-k.was) (entries_lined _ _ c.in_ok-k.k c.args.lines c.in_ok-k.ensures.alive c.set_lines.ensures))

pub invariant_of-self : goal.invariant_of-self
invariant_of-self c = record {
  kept =
      kept_lined c.self.inside.slots.items _ c.in_ok-k.k c.self.inside.lowest c.self.inside.told c.min-self-inside.result _ c.args.lines c.in_ok-k.ensures.alive c.set_lines.ensures (omega (arith, c.min-self-inside.ensures)) (omega (arith, c.min-self-inside.ensures))
      (consistent_lined c.args.d c.args.lines _ c.in_ok-k.k (sym c.check_program.ensures.is ∙ c.in_ok-k.was) c.self.invariant.kept.sound.world) (limits_lined c.args.lines c.in_ok-k.k _ c.requires c.self.invariant.kept.sound.limits) c.self.invariant.kept;
  tied = ties_lined c.in_ok-k.k c.args.lines _ _ _ c.set_lines.ensures c.self.invariant.tied;
}
