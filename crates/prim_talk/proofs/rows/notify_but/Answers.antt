use Rattle.std.proofs.Common.{rules, ◌≡◌, ◌+◌, List, take, drop, filter_map, Some, None, Ok, Err, refl, sym, ap, ◌∙◌, subst}
use Rattle.muck_model.specs.declared.dbref.Dbref.{Dbref}
use Rattle.spec_live.specs.Lives.{tell_but}
use Rattle.muf_model.specs.declared.fault.MufFault.TheVariants.{BadType}
use Rattle.muf_frame.specs.declared.fault.PrimFault.TheVariants.{Fault}
use Rattle.muf_frame.specs.inner.Answers.{object_at}
use Rattle.muf_frame.specs.inner.Shown.{flat}
use Rattle.muck_perm.specs.inner.Guards.{Done, world_of}
use Rattle.spec_prims.specs.Talk.{item_object}
use Rattle.prim_common.specs.inner.Applied.{Makes}
use Rattle.prim_common.specs.declared.made.Made.TheVariants.{Nothing}
use Rattle.prim_talk.specs.inner.Told.{counted_in}
use Rattle.prim_talk.proofs.Excluding.{row_told, row_nowhere}
use Rattle.prim_talk.proofs.rows.notify_but.Goals as goal

pub returns-in_default-object_at : goal.returns-in_default-object_at
returns-in_default-object_at c =
    let g = c.args.guard.now in
    let stack = (flat c.args.frame.now).stack in
    let counted : counted_in stack ≡ Some (c.in-Some.text.now, c.in-Some.count) = search rules in
    let none : object_at (2 + c.in-Some.count) stack ≡ None = search rules in
    subst (λ row. Makes row g g (Err (Fault BadType))) (sym (row_nowhere g.actor stack c.in-Some.text.now c.in-Some.count (world_of g) counted none)) (refl, refl)

pub returns : goal.returns
returns c =
    let g = c.args.guard.now in
    let stack = (flat c.args.frame.now).stack in
    let counted : counted_in stack ≡ Some (c.in-Some.text.now, c.in-Some.count) = search rules in
    let place : object_at (2 + c.in-Some.count) stack ≡ Some c.in-Some-object_at.place.0 = search rules in
    let d = c.in-Some-object_at.place in
    let but : List Dbref = filter_map item_object (take c.in-Some.count (drop 2 stack)) in
    let named : c.deref.result.now ≡ but = search rules in
    let said : c.as_slice.result.now ≡ c.in-Some.text.now = search rules in
    let told : Done (tell_but d c.deref.result.now c.as_slice.result.now) g c.tell_but.new.self = search rules in
    let world : world_of c.tell_but.new.self ≡ tell_but d but c.in-Some.text.now (world_of g) =
    told.0 ∙ ap (λ ds. tell_but d ds c.as_slice.result.now (world_of g)) named ∙ ap (λ t. tell_but d but t (world_of g)) said in
    subst (λ row. Makes row g c.tell_but.new.self (Ok Nothing)) (sym (row_told g.actor stack c.in-Some.text.now c.in-Some.count d (world_of g) counted place)) (refl, world, told.1)
