use Rattle.std.proofs.Common.{◌≡◌, ◌-◌, length, take, drop, reverse, sym, ap, subst, ◌∙◌, arith}
use Rattle.muck_laws.proofs.Turned.{kept_programs}
use Rattle.muf_model.specs.inner.Flat.{decode}
use Rattle.muf_frame.specs.inner.Shown.{flat}
use Rattle.muf_running.specs.inner.Fitting.{codes_of, ProgramsFit}
use Rattle.muf_running.proofs.running.left.Goals as goal

pub invariant_of-result : goal.invariant_of-result
invariant_of-result c =
    let height : c.saturating_sub-height.result ≡ length c.args.programs.items - c.args.count = omega (arith, c.saturating_sub-height.ensures, c.len.ensures, c.args.programs.ok.0) in
    let kept : reverse c.truncate.new.self.items ≡ drop c.args.count (reverse c.args.programs.items) = ap reverse (c.truncate.ensures.items ∙ ap (λ h. take h c.args.programs.items) height) ∙ kept_programs c.args.count c.args.programs.items in
    subst (λ es. ProgramsFit es (flat c.args.frame)) (sym kept) c.requires

pub returns : goal.returns
returns c =
    let height : c.saturating_sub-height.result ≡ length c.args.programs.items - c.args.count = omega (arith, c.saturating_sub-height.ensures, c.len.ensures, c.args.programs.ok.0) in
    let kept : reverse c.truncate.new.self.items ≡ drop c.args.count (reverse c.args.programs.items) = ap reverse (c.truncate.ensures.items ∙ ap (λ h. take h c.args.programs.items) height) ∙ kept_programs c.args.count c.args.programs.items in
    ap (λ es. decode (codes_of es) (flat c.args.frame)) kept
