use Rattle.std.proofs.Common.{sym, ◌∙◌}
use Rattle.muck_db.proofs.Dumping.{kept_unseen}
use Rattle.muck_db.proofs.cut.is_left_out.Goals as goal

pub returns-then-is_passed : goal.returns-then-is_passed
returns-then-is_passed c = λ same. kept_unseen c.args.extent c.args.base.now c.args.slots.now.items c.args.k c.requires.may (sym c.is_passed.ensures ∙ same)
