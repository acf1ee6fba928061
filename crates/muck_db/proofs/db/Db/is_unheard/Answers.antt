use Rattle.std.proofs.Common.{sym, ◌∙◌}
use Rattle.muck_db.proofs.Heard.{unheard_in}
use Rattle.muck_db.proofs.db.Db.is_unheard.Goals as goal

pub returns-in-Some : goal.returns-in-Some
returns-in-Some c = λ e. unheard_in c.self.inside.slots.items _ c.args.place c.in-Some.p c.self.view_is c.self.invariant.kept.sound.world.ordered (sym c.number_of.ensures.value ∙ c.in-Some.is) (c.is_unheard.ensures e)
