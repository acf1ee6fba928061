use Rattle.std.proofs.Common.{◌≡◌, IfOk, length, Some, None, sym, ap, ◌∙◌, subst}
use Rattle.std.specs.Option.{option_map, option_map_or}
use Rattle.muf_model.specs.Ladder.{wanted}
use Rattle.muf_model.specs.Prims.{needs_of, primitive_level}
use Rattle.muf_model.specs.Needs.{shown_needs}
use Rattle.muf_frame.specs.inner.Shown.{flat, locked_by}
use Rattle.muck_perm.specs.inner.Guards.{world_of}
use Rattle.prim_common.specs.inner.Tests.{Passes}
use Rattle.prim_common.proofs.Counts.{needs_few}
use Rattle.prim_common.proofs.First.{first_some, first_none}
use Rattle.prim_common.proofs.order.ready.Goals as goal

pub ready_needing-requires : goal.ready_needing-requires
ready_needing-requires c =
    let needs : needs_of c.args.prim ≡ Some (shown_needs c.in-Some.needs) = ap (λ r. r.needs) (sym c.row-row.ensures) ∙ ap (option_map shown_needs) c.in-Some.is in
    needs_few c.args.prim (shown_needs c.in-Some.needs) needs

pub returns-in-Some-clause-count : goal.returns-in-Some-clause-count
returns-in-Some-clause-count c =
    let needs : needs_of c.args.prim ≡ Some (shown_needs c.in-Some.needs) = ap (λ r. r.needs) (sym c.row-row.ensures) ∙ ap (option_map shown_needs) c.in-Some.is in
    subst (λ o. IfOk c.ready_needing.result (λ n. n ≡ option_map_or (λ needs. length (wanted needs (flat c.args.frame.now).stack)) o 0)) (sym needs) c.ready_needing.ensures.count

pub returns-in-Some-clause-pass : goal.returns-in-Some-clause-pass
returns-in-Some-clause-pass c =
    let needs : needs_of c.args.prim ≡ Some (shown_needs c.in-Some.needs) = ap (λ r. r.needs) (sym c.row-row.ensures) ∙ ap (option_map shown_needs) c.in-Some.is in
    let level : c.row-row.result.level ≡ primitive_level c.args.prim = ap (λ r. r.level) c.row-row.ensures in
    subst (λ o. Passes o c.ready_needing.result) (first_some c.args.prim (shown_needs c.in-Some.needs) c.args.argued c.args.guard.now.actor (locked_by (flat c.args.frame.now).marks) (flat c.args.frame.now).stack (world_of c.args.guard.now) needs)
    (rw (sym level) c.ready_needing.ensures.pass)

pub returns-in-None-clause-pass : goal.returns-in-None-clause-pass
returns-in-None-clause-pass c =
    let needs : needs_of c.args.prim ≡ None = ap (λ r. r.needs) (sym c.row-row.ensures) ∙ ap (option_map shown_needs) c.in-None.is in
    first_none _ c.args.prim c.args.argued c.args.guard.now.actor (locked_by (flat c.args.frame.now).marks) (flat c.args.frame.now).stack (world_of c.args.guard.now) needs
