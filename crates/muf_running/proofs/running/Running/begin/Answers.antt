use Rattle.std.proofs.Common.{◌≡◌, ◌-◌, [], ◌∷◌, ◌++◌, length, reverse, Some, sym, ap, subst, ◌∙◌, arith}
use Rattle.std.proofs.Common.{suc}
use Rattle.muf_model.specs.inner.Flat.{decode}
use Rattle.muf_frame.specs.inner.Shown.{Shown, flat}
use Rattle.muf_frame.specs.inner.Moves as moves
use Rattle.muf_running.specs.Begins.{common_of, StartsAt}
use Rattle.muf_running.specs.inner.Fitting.{codes_of, ProgramsFit}
use Rattle.muf_running.proofs.Process.{begin_at}
use Rattle.muf_running.proofs.running.Running.begin.Goals as goal

pub invariant_of-result : goal.invariant_of-result
invariant_of-result c =
    let grown : reverse c.push.new.self.items ≡ record { program = c.args.program; code = c.args.code } ∷ [] = ap reverse (c.in_ok-push.ensures.items ∙ ap (λ xs. xs ++ record { program = c.args.program; code = c.args.code } ∷ []) c.new-programs.ensures.items) in
    let count : length c.args.code.words ≡ suc (c.len-count.result - 1) = omega (arith, c.len-count.ensures, c.if-count-eq0.false, ap (λ code. length code.words) c.get.ensures) in
    let begun = c.in_ok-begin.ensures ∙ ap (λ (x : Shown). moves.begun c.args.program.0 c.start_of-start.result.place c.start_of-start.result.variables (moves.owning c.args.program.0 c.start_of-start.result.owned (flat x))) c.get_mut-lent.ensures.value in
    let r = begin_at (flat c.in_ok-frame.frame) (flat c.begin.new.self) c.args.program c.args.code (common_of c.args.occasion) c.args.arg (c.len-count.result - 1) c.start_of-start.result count c.requires (subst (λ x. StartsAt x (c.len-count.result - 1) c.start_of-start.result) c.get-2.ensures c.start_of-start.ensures) c.in_ok-frame.ensures begun in
    subst (λ es. ProgramsFit es (flat c.begin.new.self)) (sym grown) r.0

pub returns : goal.returns
returns c =
    let grown : reverse c.push.new.self.items ≡ record { program = c.args.program; code = c.args.code } ∷ [] = ap reverse (c.in_ok-push.ensures.items ∙ ap (λ xs. xs ++ record { program = c.args.program; code = c.args.code } ∷ []) c.new-programs.ensures.items) in
    let count : length c.args.code.words ≡ suc (c.len-count.result - 1) = omega (arith, c.len-count.ensures, c.if-count-eq0.false, ap (λ code. length code.words) c.get.ensures) in
    let begun = c.in_ok-begin.ensures ∙ ap (λ (x : Shown). moves.begun c.args.program.0 c.start_of-start.result.place c.start_of-start.result.variables (moves.owning c.args.program.0 c.start_of-start.result.owned (flat x))) c.get_mut-lent.ensures.value in
    let r = begin_at (flat c.in_ok-frame.frame) (flat c.begin.new.self) c.args.program c.args.code (common_of c.args.occasion) c.args.arg (c.len-count.result - 1) c.start_of-start.result count c.requires (subst (λ x. StartsAt x (c.len-count.result - 1) c.start_of-start.result) c.get-2.ensures c.start_of-start.ensures) c.in_ok-frame.ensures begun in
    ap (λ es. Some (decode (codes_of es) (flat c.begin.new.self))) grown ∙ r.1
