use Rattle.std.proofs.Common.{rules, ◌≡◌, ◌+◌, Some, sym, ap, ◌∙◌}
use Rattle.std.specs.Prelude.{slice_get}
use Rattle.muf_model.specs.declared.code.Instr.TheVariants.{Plain, Close, When, IfElse, Begin}
use Rattle.muf_model.specs.declared.code.Closer.TheVariants.{Repeat}
use Rattle.muf_frame.specs.inner.Shown.{flat}
use Rattle.muf_run.specs.inner.Machine as machine
use Rattle.muf_run.proofs.GoesOn.{quick_fits}
use Rattle.muf_run.proofs.quick.quick.Goals as goal

pub returns-in-Plain-clause-yes : goal.returns-in-Plain-clause-yes
returns-in-Plain-clause-yes c y codes s h =
    let q : slice_get c.args.code.now.placed c.args.frame.now.place ≡ Some c.in-Some.placed.now = search (rules, c.fetch.ensures.value, c.in-Some.is, c.in-Some.placed-is) in
    quick_fits h c.in-Some.placed.now q (λ to b. (let x : Plain c.in-Plain.word ≡ Begin to = sym c.in-Plain.is ∙ b in cc)) (ap (λ i. machine.instr c.args.code.now i (c.args.frame.now.place + 1) (flat c.args.frame.now)) c.in-Plain.is ∙ ap (λ n. machine.word c.args.code.now c.in-Plain.word (n + 1) (flat c.args.frame.now)) (sym c.place-next.ensures) ∙ c.quick_word.ensures.yes y c.args.code.now)

pub returns-in-Close-Repeat-clause-yes : goal.returns-in-Close-Repeat-clause-yes
returns-in-Close-Repeat-clause-yes c y codes s h =
    let q : slice_get c.args.code.now.placed c.args.frame.now.place ≡ Some c.in-Some.placed.now = search (rules, c.fetch.ensures.value, c.in-Some.is, c.in-Some.placed-is) in
    let r : c.in-Some.placed.now.instr ≡ Close Repeat = search (rules, c.in-Close-Repeat.is, c.in-Close-Repeat.field-0-is) in
    quick_fits h c.in-Some.placed.now q (λ to b. (let x : Close Repeat ≡ Begin to = sym r ∙ b in cc)) (ap (λ i. machine.instr c.args.code.now i (c.args.frame.now.place + 1) (flat c.args.frame.now)) r ∙ c.quick_turn.ensures.yes y)

pub returns-in-When-clause-yes : goal.returns-in-When-clause-yes
returns-in-When-clause-yes c y codes s h =
    let q : slice_get c.args.code.now.placed c.args.frame.now.place ≡ Some c.in-Some.placed.now = search (rules, c.fetch.ensures.value, c.in-Some.is, c.in-Some.placed-is) in
    quick_fits h c.in-Some.placed.now q (λ to b. (let x : When c.in-When.to ≡ Begin to = sym c.in-When.is ∙ b in cc)) (ap (λ i. machine.instr c.args.code.now i (c.args.frame.now.place + 1) (flat c.args.frame.now)) c.in-When.is ∙ ap (λ n. machine.branch c.in-When.to (record (flat c.args.frame.now) { place = n + 1 })) (sym c.place-next.ensures) ∙ c.quick_branch.ensures.yes y)

pub returns-in-IfElse-clause-yes : goal.returns-in-IfElse-clause-yes
returns-in-IfElse-clause-yes c y codes s h =
    let q : slice_get c.args.code.now.placed c.args.frame.now.place ≡ Some c.in-Some.placed.now = search (rules, c.fetch.ensures.value, c.in-Some.is, c.in-Some.placed-is) in
    quick_fits h c.in-Some.placed.now q (λ to b. (let x : IfElse c.in-IfElse.to ≡ Begin to = sym c.in-IfElse.is ∙ b in cc)) (ap (λ i. machine.instr c.args.code.now i (c.args.frame.now.place + 1) (flat c.args.frame.now)) c.in-IfElse.is ∙ ap (λ n. machine.branch c.in-IfElse.to (record (flat c.args.frame.now) { place = n + 1 })) (sym c.place-next.ensures) ∙ c.quick_branch-in-IfElse.ensures.yes y)
