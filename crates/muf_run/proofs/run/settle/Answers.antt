use Rattle.std.proofs.Common.{rules, ◌≡◌, Some, ap, ◌∙◌, arith}
use Rattle.std.specs.Prelude.{slice_get}
use Rattle.muf_model.specs.declared.code.Instr.TheVariants.{Begin}
use Rattle.muf_model.specs.inner.Stands.{IsAt}
use Rattle.muf_run.proofs.Lockstep.{room_fits, full_fits}
use Rattle.muf_run.proofs.run.settle.Goals as goal

pub returns-then-opened-ge-OPEN_MOST : goal.returns-then-opened-ge-OPEN_MOST
returns-then-opened-ge-OPEN_MOST c codes s h =
    let i = c.loop-placed.invariant codes s h in
    let e : slice_get c.args.code.now.placed c.loop-placed.frame.place ≡ Some c.in-Some.placed.now = search (rules, c.fetch.ensures.value, c.in-Some.is, c.in-Some.placed-is) in
    let at : IsAt c.args.code.now.placed c.loop-placed.frame.place c.in-Some.placed.now.line (Begin c.in-Begin.after) = e ∙ ap (λ j. Some (record { line = c.in-Some.placed.now.line; instr = j })) c.in-Begin.is in
    rw i.2 (full_fits i.1 c.in-Some.placed.now.line c.in-Begin.after at (omega (arith, c.opened.ensures.value, c.if-opened-ge-OPEN_MOST.true)))

pub loop-placed-preserved : goal.loop-placed-preserved
loop-placed-preserved c codes s h =
    let i = c.loop-placed.invariant codes s h in
    let e : slice_get c.args.code.now.placed c.loop-placed.frame.place ≡ Some c.in-Some.placed.now = search (rules, c.fetch.ensures.value, c.in-Some.is, c.in-Some.placed-is) in
    let at : IsAt c.args.code.now.placed c.loop-placed.frame.place c.in-Some.placed.now.line (Begin c.in-Begin.after) = e ∙ ap (λ j. Some (record { line = c.in-Some.placed.now.line; instr = j })) c.in-Begin.is in
    let t = room_fits i.1 c.in-Some.placed.now.line c.in-Begin.after at (omega (arith, c.opened.ensures.value, c.if-opened-ge-OPEN_MOST.false)) in
    rw (c.go_to.ensures, c.push_loop.ensures, c.place-again.ensures, i.2) t
