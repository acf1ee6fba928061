use Rattle.std.proofs.Common.{subst}
use Rattle.muf_run.specs.inner.Storing.{HasWord}
use Rattle.muf_run.proofs.storing.stores_at.Goals as goal

pub returns-in-Some : goal.returns-in-Some
returns-in-Some c = λ y. subst (HasWord c.args.code.now c.args.place) (c.is_store.ensures y) c.in-Some.ensures
