use Rattle.std.proofs.Common.{rules, ◌≡◌, None, Ok, Err}
use Rattle.muf_frame.specs.declared.fault.PrimFault.TheVariants.{Fault}
use Rattle.prim_common.proofs.Families.{untested, unmade, unroomed, given}
use Rattle.prim_common.proofs.Licences.{actor_licensed}
use Rattle.prim_db.proofs.Objects.{no_formula, begun}
use Rattle.prim_db.proofs.table.apply.Goals as goal

pub returns-in_err-taken-clause-row : goal.returns-in_err-taken-clause-row
returns-in_err-taken-clause-row c = λ descr.
    let b = begun c.args.prim descr c.args.frame.now c.args.guard.now c.argued-argued.result c.ready.result c.requires c.argued-argued.ensures c.ready.ensures.pass in
    let was : c.ready.result ≡ Err c.in_err-taken.field-0.0 = search rules in
    let back : c.from_residual.result ≡ Err (Fault c.in_err-taken.field-0.0) = search rules in
    rw back (untested b c.in_err-taken.field-0.0 was)

pub returns-in_err-made-clause-row : goal.returns-in_err-made-clause-row
returns-in_err-made-clause-row c = λ descr.
    let b = begun c.args.prim descr c.args.frame.now c.args.guard.now c.argued-argued.result c.ready.result c.requires c.argued-argued.ensures c.ready.ensures.pass in
    let passed : c.ready.result ≡ Ok c.in_ok-taken.taken = search rules in
    let was : c.made.result ≡ Err c.in_err-made.field-0.0 = search rules in
    let back : c.from_residual-in_err-made.result ≡ Err c.in_err-made.field-0.0 = search rules in
    rw back (unmade b c.in_ok-taken.taken passed c.in_ok-taken.ensures.count c.made.new.guard c.in_err-made.field-0.0 c.made.result c.made.ensures was)

pub returns-in_err-give-clause-row : goal.returns-in_err-give-clause-row
returns-in_err-give-clause-row c = λ descr.
    let b = begun c.args.prim descr c.args.frame.now c.args.guard.now c.argued-argued.result c.ready.result c.requires c.argued-argued.ensures c.ready.ensures.pass in
    let passed : c.ready.result ≡ Ok c.in_ok-taken.taken = search rules in
    let made : c.made.result ≡ Ok c.in_ok-made.made = search rules in
    let was : c.give.result ≡ Err c.in_err-give.field-0.0 = search rules in
    let back : c.from_residual-in_err-give.result ≡ Err (Fault c.in_err-give.field-0.0) = search rules in
    rw back (unroomed b c.in_ok-taken.taken passed c.in_ok-taken.ensures.count c.give.new.frame c.made.new.guard c.in_ok-made.made c.made.result c.give.result c.made.ensures made c.give.ensures c.in_err-give.field-0.0 was)

pub returns-clause-row : goal.returns-clause-row
returns-clause-row c = λ descr.
    let b = begun c.args.prim descr c.args.frame.now c.args.guard.now c.argued-argued.result c.ready.result c.requires c.argued-argued.ensures c.ready.ensures.pass in
    let passed : c.ready.result ≡ Ok c.in_ok-taken.taken = search rules in
    let made : c.made.result ≡ Ok c.in_ok-made.made = search rules in
    let was : c.give.result ≡ Ok c.in_ok-give.field-0 = search rules in
    given b c.in_ok-taken.taken passed c.in_ok-taken.ensures.count c.give.new.frame c.made.new.guard c.in_ok-made.made c.made.result c.give.result c.made.ensures made c.give.ensures c.in_ok-give.field-0 was

pub returns-in_err-taken-clause-licensed : goal.returns-in_err-taken-clause-licensed
returns-in_err-taken-clause-licensed c = actor_licensed c.args.frame.now c.args.frame.now c.args.guard.now c.args.guard.now c.args.prim None _ (returns-in_err-taken-clause-row c None) (no_formula c.args.prim c.requires)

pub returns-in_err-made-clause-licensed : goal.returns-in_err-made-clause-licensed
returns-in_err-made-clause-licensed c = actor_licensed c.args.frame.now c.args.frame.now c.args.guard.now c.made.new.guard c.args.prim None _ (returns-in_err-made-clause-row c None) (no_formula c.args.prim c.requires)

pub returns-in_err-give-clause-licensed : goal.returns-in_err-give-clause-licensed
returns-in_err-give-clause-licensed c = actor_licensed c.args.frame.now c.give.new.frame c.args.guard.now c.made.new.guard c.args.prim None _ (returns-in_err-give-clause-row c None) (no_formula c.args.prim c.requires)

pub returns-clause-licensed : goal.returns-clause-licensed
returns-clause-licensed c = actor_licensed c.args.frame.now c.give.new.frame c.args.guard.now c.made.new.guard c.args.prim None (Ok tt) (returns-clause-row c None) (no_formula c.args.prim c.requires)
