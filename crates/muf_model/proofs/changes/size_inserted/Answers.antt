use Rattle.std.proofs.Common.{map}
use Rattle.muf_model.specs.inner.View.{view}
use Rattle.muf_model.proofs.Edited.{inserted_weight, inserted_nesting}
use Rattle.muf_model.proofs.changes.size_inserted.Goals as goal

pub returns-clause-weight : goal.returns-clause-weight
returns-clause-weight c = inserted_weight (map view c.args.values.now) (view c.args.value.now) c.args.size c.with.result c.args.at c.requires c.with.ensures.weight

pub returns-clause-nesting : goal.returns-clause-nesting
returns-clause-nesting c = inserted_nesting (map view c.args.values.now) (view c.args.value.now) c.args.size c.with.result c.args.at c.requires c.with.ensures.nesting
