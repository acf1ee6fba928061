use Rattle.std.proofs.Common.{rules, ◌≡◌, ◌+◌, List, ◌∷◌, Some, None, ap, ◌∙◌}
use Rattle.std.specs.Prelude.{slice_get}
use Rattle.muck_laws.proofs.Results.{if_ok_mapped}
use Rattle.muf_model.specs.declared.code.Code.{Code}
use Rattle.muf_model.specs.Source.{Source}
use Rattle.muf_model.specs.Unit.{unit}
use Rattle.muf_model.specs.inner.Fits.{FitsState}
use Rattle.muf_frame.specs.inner.Shown.{flat}
use Rattle.muf_run.specs.inner.Alike.{EndsAlike}
use Rattle.muf_run.specs.inner.Machine as machine
use Rattle.muf_run.specs.inner.Machine.{next_of}
use Rattle.muf_run.proofs.Lockstep.{instr_fits, place_fits}
use Rattle.muf_run.proofs.run.unit.Goals as goal

pub returns-in-None : goal.returns-in-None
returns-in-None c codes s h =
    let n : slice_get c.args.code.now.placed c.args.frame.now.place ≡ None = search (rules, c.fetch.ensures.value, c.in-None.is) in
    absurd (place_fits h n)

pub returns-in_default : goal.returns-in_default
returns-in_default c =
    let q : slice_get c.args.code.now.placed c.args.frame.now.place ≡ Some c.in-Some.placed.now = search (rules, c.fetch.ensures.value, c.in-Some.is, c.in-Some.placed-is) in
    if_ok_mapped _ (λ ran. (codes : List Code) (s : Source) → FitsState (c.args.code.now ∷ codes) (flat c.args.frame.now) s → EndsAlike (c.args.code.now ∷ codes) (next_of ran (flat c.instr.new.frame)) (unit s)) c.instr.result (λ ran e codes s h. (let k = e ∙ ap (λ n. machine.instr c.args.code.now c.in-Some.placed.now.instr (n + 1) (flat c.args.frame.now)) c.place-next.ensures in rw k (instr_fits h c.in-Some.placed.now q (λ to b. c.in_default.not-Begin to b)))) c.instr.ensures
