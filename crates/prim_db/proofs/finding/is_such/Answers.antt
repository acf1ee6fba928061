use Rattle.std.proofs.Common.{sym, ap, ◌∙◌}
use Rattle.muf_model.specs.inner.View.{view}
use Rattle.muck_perm.specs.inner.Guards.{objects_of}
use Rattle.spec_prims.specs.ObjectRows as row
use Rattle.prim_db.proofs.finding.is_such.Goals as goal

pub returns-in-Ref : goal.returns-in-Ref
returns-in-Ref c = c.is_kind.ensures ∙ ap (λ v. row.is_such (row.kind_asked c.args.prim) (objects_of c.args.guard.now) (view v)) (sym c.in-Ref.is)
