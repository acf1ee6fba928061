use Rattle.std.proofs.Common.{◌≡◌, [], None, Some, ap, ◌∙◌, rules}
use Rattle.spec_rights.specs.declared.act.Act.TheVariants.{Write}
use Rattle.spec_rights.specs.Verdict.{verdict}
use Rattle.spec_rights.specs.Changing.{unstored}
use Rattle.muf_frame.specs.inner.Shown.{flat}
use Rattle.muck_perm.specs.inner.Guards.{objects_of, world_of}
use Rattle.spec_prims.specs.Asking.{fault_of_denial}
use Rattle.spec_prims.specs.Row.{gives, row_unless}
use Rattle.prim_prop.specs.inner.Asked.{named_in}
use Rattle.prim_prop.proofs.Steps.{remove_row, past_leave, refused, unstored_so}
use Rattle.prim_prop.proofs.writing.remove.Goals as goal

pub returns-in-Ok : goal.returns-in-Ok
returns-in-Ok c =
    let g = c.args.guard.now in
    let d = c.in-Some.object in
    let path = c.in_ok-path.path in
    let stack = (flat c.args.frame.now).stack in
    let found : named_in stack ≡ Some (d.0, c.in-Some.text.now) = search rules in
    let leave : verdict (objects_of g) g.actor (Write d path) ≡ None = search rules in
    let row = remove_row g.actor stack (world_of g) d.0 c.in-Some.text.now path found c.in_ok-path.ensures.0 c.in_ok-path.ensures.1 in
    unstored_so d path g c.unstore.new.self _ _ _ (past_leave _ _ _ row (ap fault_of_denial leave)) c.unstore.ensures c.written.ensures

pub returns : goal.returns
returns c =
    let g = c.args.guard.now in
    let d = c.in-Some.object in
    let path = c.in_ok-path.path in
    let stack = (flat c.args.frame.now).stack in
    let found : named_in stack ≡ Some (d.0, c.in-Some.text.now) = search rules in
    let denied : verdict (objects_of g) g.actor (Write d path) ≡ Some c.in-Err.denial = search rules in
    let row = remove_row g.actor stack (world_of g) d.0 c.in-Some.text.now path found c.in_ok-path.ensures.0 c.in_ok-path.ensures.1 in
    refused _ g _ (row ∙ ap (λ o. row_unless (fault_of_denial o) (gives [] (unstored d path (world_of g)))) denied)
