use Rattle.std.proofs.Common.{◌≡◌, [], None, Some, ap, ◌∙◌, rules}
use Rattle.spec_rights.specs.declared.act.Act.TheVariants.{Write}
use Rattle.spec_rights.specs.Verdict.{verdict}
use Rattle.spec_rights.specs.Changing.{property_stored}
use Rattle.muck_perm.specs.inner.Guards.{objects_of, world_of}
use Rattle.spec_prims.specs.Asking.{fault_of_denial}
use Rattle.spec_prims.specs.Row.{gives, row_unless}
use Rattle.prim_prop.proofs.Steps.{put_row, past_leave, refused, stored_so}
use Rattle.prim_prop.proofs.writing.put_at.Goals as goal

pub returns-in-Ok : goal.returns-in-Ok
returns-in-Ok c =
    let g = c.args.guard.now in
    let d = c.args.object in
    let path = c.in_ok-path.path in
    let leave : verdict (objects_of g) g.actor (Write d path) ≡ None = search rules in
    let row = put_row g.actor (world_of g) d.0 c.args.text.now c.args.value path c.in_ok-path.ensures.0 c.in_ok-path.ensures.1 in
    stored_so d path c.args.value g c.store.new.self _ _ _ (past_leave _ _ _ row (ap fault_of_denial leave)) c.store.ensures c.written.ensures

pub returns-in-Err : goal.returns-in-Err
returns-in-Err c =
    let g = c.args.guard.now in
    let d = c.args.object in
    let path = c.in_ok-path.path in
    let row = put_row g.actor (world_of g) d.0 c.args.text.now c.args.value path c.in_ok-path.ensures.0 c.in_ok-path.ensures.1 in
    let denied : verdict (objects_of g) g.actor (Write d path) ≡ Some c.in-Err.denial = search rules in
    refused _ g _ (row ∙ ap (λ o. row_unless (fault_of_denial o) (gives [] (property_stored d path c.args.value (world_of g)))) denied)
