use Rattle.std.proofs.Common.{subst, List, rules}
use Rattle.spec_live.specs.Objects.{Entry}
use Rattle.spec_live.specs.Consistent.{IsOrdered}
use Rattle.muck_db.proofs.Showing.{place_upward}
use Rattle.muck_db.proofs.db.Db.place_of.Goals as goal

pub returns-in-Some-clause-upward : goal.returns-in-Some-clause-upward
returns-in-Some-clause-upward c = let O : List Entry → Type 0 = λ z. IsOrdered z in place_upward _ (subst O c.self.view_is c.self.invariant.kept.sound.world.ordered) c.args.d _ (search rules)

pub returns-in-None-clause-upward : goal.returns-in-None-clause-upward
returns-in-None-clause-upward c = let O : List Entry → Type 0 = λ z. IsOrdered z in place_upward _ (subst O c.self.view_is c.self.invariant.kept.sound.world.ordered) c.args.d _ (search rules)
