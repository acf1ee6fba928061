use Rattle.std.proofs.Common.{rules, ◌≡◌, ◌+◌, List, ◌∷◌, Some, None, ap, ◌∙◌}
use Rattle.std.specs.Prelude.{slice_get}
use Rattle.muck_laws.proofs.Results.{if_ok_mapped}
use Rattle.muf_model.specs.declared.code.Code.{Code}
use Rattle.muf_model.specs.Source.{Source}
use Rattle.muf_model.specs.Unit.{unit}
use Rattle.muf_model.specs.inner.Fits.{FitsState}
use Rattle.muf_frame.specs.inner.Shown.{flat}
use Rattle.muf_run.specs.inner.Alike.{EndsAlike}
use Rattle.muf_run.specs.inner.Machine as machine
use Rattle.muf_run.specs.inner.Machine.{next_of}
use Rattle.muf_run.proofs.Lockstep.{instr_fits, place_fits}
use Rattle.muf_run.proofs.run.settled_unit.Goals as goal

pub returns-then-not-settle : goal.returns-then-not-settle
returns-then-not-settle c =
    if_ok_mapped _ (λ ran. (codes : List Code) (s : Source) → FitsState (c.args.code.now ∷ codes) (flat c.args.frame.now) s → EndsAlike (c.args.code.now ∷ codes) (next_of ran (flat c.fault.new.frame)) (unit s)) c.fault.result (λ ran e codes s h. rw e (c.if-not-settle.ensures codes s h)) c.fault.ensures

pub returns-in-None : goal.returns-in-None
returns-in-None c codes s h =
    let p = c.if-not-settle.ensures codes s h in
    let n : slice_get c.args.code.now.placed c.settle.new.frame.place ≡ None = search (rules, c.fetch.ensures.value, c.in-None.is) in
    absurd (place_fits p.1 n)

pub returns-in-Some : goal.returns-in-Some
returns-in-Some c =
    let q : slice_get c.args.code.now.placed c.settle.new.frame.place ≡ Some c.in-Some.placed.now = search (rules, c.fetch.ensures.value, c.in-Some.is, c.in-Some.placed-is) in
    if_ok_mapped _ (λ ran. (codes : List Code) (s : Source) → FitsState (c.args.code.now ∷ codes) (flat c.args.frame.now) s → EndsAlike (c.args.code.now ∷ codes) (next_of ran (flat c.instr.new.frame)) (unit s)) c.instr.result (λ ran e codes s h. (let p = c.if-not-settle.ensures codes s h in let k = e ∙ ap (λ n. machine.instr c.args.code.now c.in-Some.placed.now.instr (n + 1) (flat c.settle.new.frame)) c.place-next.ensures in rw (k, p.2) (instr_fits p.1 c.in-Some.placed.now q (λ to b. p.3 c.in-Some.placed.now to q b)))) c.instr.ensures
