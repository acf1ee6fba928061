use Rattle.std.proofs.Common.{sym, ◌∙◌}
use Rattle.muck_dumping.proofs.Marks.{base_marked}
use Rattle.muck_dumping.proofs.store.Store.goes_by_marks.Goals as goal

pub returns : goal.returns
returns c = λ h goes on. base_marked c.args.self.now.marks c.args.self.now.log c.in-Some.log h c.in-Some.is on (sym c.opens_new.ensures ∙ c.if-opens_new.false) goes
