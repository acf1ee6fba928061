use Rattle.std.proofs.Common.{rules, ◌≡◌, None, Ok, Err}
use Rattle.muf_frame.specs.declared.fault.PrimFault.TheVariants.{Fault}
use Rattle.muf_frame.specs.inner.Shown.{flat, locked_by}
use Rattle.muck_perm.specs.inner.Guards.{world_of}
use Rattle.prim_common.proofs.Applying.{refused_so, made_fault, applied_given, applied_full}
use Rattle.prim_common.proofs.Licences.{used_licensed}
use Rattle.prim_prop.proofs.Notes.{formula_notes}
use Rattle.prim_prop.proofs.Behind.{refused_first, row_first, row_fits}
use Rattle.prim_prop.proofs.table.apply.Goals as goal

pub returns-in_err-taken-clause-row : goal.returns-in_err-taken-clause-row
returns-in_err-taken-clause-row c = λ descr.
    let f = flat c.args.frame.now in
    let g = c.args.guard.now in
    let h = c.in_err-taken.field-0.0 in
    let was : c.ready.result ≡ Err h = search rules in
    let back : c.from_residual.result ≡ Err (Fault h) = search rules in
    let row = refused_first c.args.prim g.actor descr (locked_by f.marks) f.stack (world_of g) c.ready.result c.requires c.ready.ensures.pass h was in
    rw back (refused_so _ c.args.frame.now g h row)

pub returns-in_err-made-clause-row : goal.returns-in_err-made-clause-row
returns-in_err-made-clause-row c = λ descr.
    let f = flat c.args.frame.now in
    let g = c.args.guard.now in
    let n = c.in_ok-taken.taken in
    let h = c.in_err-made.field-0.0 in
    let passed : c.ready.result ≡ Ok n = search rules in
    let was : c.made.result ≡ Err h = search rules in
    let back : c.from_residual-in_err-made.result ≡ Err h = search rules in
    let row = row_first c.args.prim g.actor descr (locked_by f.marks) f.stack (world_of g) c.ready.result c.requires c.ready.ensures.pass n passed c.in_ok-taken.ensures.count in
    rw back (made_fault _ _ _ c.args.frame.now g c.made.new.guard h c.made.result row c.made.ensures was)

pub returns-in_err-give-clause-row : goal.returns-in_err-give-clause-row
returns-in_err-give-clause-row c = λ descr.
    let f = flat c.args.frame.now in
    let g = c.args.guard.now in
    let n = c.in_ok-taken.taken in
    let h = c.in_err-give.field-0.0 in
    let passed : c.ready.result ≡ Ok n = search rules in
    let made : c.made.result ≡ Ok c.in_ok-made.made = search rules in
    let was : c.give.result ≡ Err h = search rules in
    let back : c.from_residual-in_err-give.result ≡ Err (Fault h) = search rules in
    let row = row_first c.args.prim g.actor descr (locked_by f.marks) f.stack (world_of g) c.ready.result c.requires c.ready.ensures.pass n passed c.in_ok-taken.ensures.count in
    let fits = row_fits c.args.prim g.actor f.stack (world_of g) n c.in_ok-taken.ensures.count in
    rw back (applied_full _ _ n c.args.frame.now c.give.new.frame g c.made.new.guard c.in_ok-made.made c.made.result c.give.result h row fits c.made.ensures made c.give.ensures was)

pub returns-clause-row : goal.returns-clause-row
returns-clause-row c = λ descr.
    let f = flat c.args.frame.now in
    let g = c.args.guard.now in
    let n = c.in_ok-taken.taken in
    let passed : c.ready.result ≡ Ok n = search rules in
    let made : c.made.result ≡ Ok c.in_ok-made.made = search rules in
    let was : c.give.result ≡ Ok c.in_ok-give.field-0 = search rules in
    let row = row_first c.args.prim g.actor descr (locked_by f.marks) f.stack (world_of g) c.ready.result c.requires c.ready.ensures.pass n passed c.in_ok-taken.ensures.count in
    applied_given _ _ n c.args.frame.now c.give.new.frame g c.made.new.guard c.in_ok-made.made c.made.result c.give.result c.in_ok-give.field-0 row c.made.ensures made c.give.ensures was

pub returns-in_err-taken-clause-licensed : goal.returns-in_err-taken-clause-licensed
returns-in_err-taken-clause-licensed c = used_licensed c.args.frame.now c.args.frame.now c.args.guard.now c.args.guard.now c.args.prim None _ (returns-in_err-taken-clause-row c None)

pub returns-in_err-made-clause-licensed : goal.returns-in_err-made-clause-licensed
returns-in_err-made-clause-licensed c = used_licensed c.args.frame.now c.args.frame.now c.args.guard.now c.made.new.guard c.args.prim None _ (returns-in_err-made-clause-row c None)

pub returns-in_err-give-clause-licensed : goal.returns-in_err-give-clause-licensed
returns-in_err-give-clause-licensed c = used_licensed c.args.frame.now c.give.new.frame c.args.guard.now c.made.new.guard c.args.prim None _ (returns-in_err-give-clause-row c None)

pub returns-clause-licensed : goal.returns-clause-licensed
returns-clause-licensed c = used_licensed c.args.frame.now c.give.new.frame c.args.guard.now c.made.new.guard c.args.prim None (Ok tt) (returns-clause-row c None)

pub returns-in_err-taken-clause-notes : goal.returns-in_err-taken-clause-notes
returns-in_err-taken-clause-notes c = formula_notes c.args.frame.now c.args.frame.now c.args.guard.now c.args.guard.now c.args.prim None _ (returns-in_err-taken-clause-row c None)

pub returns-in_err-made-clause-notes : goal.returns-in_err-made-clause-notes
returns-in_err-made-clause-notes c = formula_notes c.args.frame.now c.args.frame.now c.args.guard.now c.made.new.guard c.args.prim None _ (returns-in_err-made-clause-row c None)

pub returns-in_err-give-clause-notes : goal.returns-in_err-give-clause-notes
returns-in_err-give-clause-notes c = formula_notes c.args.frame.now c.give.new.frame c.args.guard.now c.made.new.guard c.args.prim None _ (returns-in_err-give-clause-row c None)

pub returns-clause-notes : goal.returns-clause-notes
returns-clause-notes c = formula_notes c.args.frame.now c.give.new.frame c.args.guard.now c.made.new.guard c.args.prim None (Ok tt) (returns-clause-row c None)
