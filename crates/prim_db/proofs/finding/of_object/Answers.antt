use Rattle.std.proofs.Common.{rules, ◌≡◌, Some, None}
use Rattle.muck_perm.specs.inner.Guards.{objects_of}
use Rattle.muf_frame.specs.inner.Answers.{object_at}
use Rattle.muf_frame.specs.inner.Shown.{flat}
use Rattle.spec_prims.specs.ObjectRows as row
use Rattle.prim_db.proofs.Items.{object_found, object_missing}
use Rattle.prim_db.proofs.finding.of_object.Goals as goal

pub returns-in-Some : goal.returns-in-Some
returns-in-Some c =
    let g = c.args.guard.now in
    let seen : object_at 0 (flat c.args.frame.now).stack ≡ Some c.in-Some.object.0 = search rules in
    object_found (row.found_of c.args.prim) g.actor (objects_of g) (flat c.args.frame.now).stack c.in-Some.object c.look.result seen c.look.ensures

pub returns-in-None : goal.returns-in-None
returns-in-None c =
    let g = c.args.guard.now in
    let seen : object_at 0 (flat c.args.frame.now).stack ≡ None = search rules in
    object_missing (row.found_of c.args.prim) g.actor (objects_of g) (flat c.args.frame.now).stack seen
