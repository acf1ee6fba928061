use Rattle.std.proofs.Common.{◌≡◌, reverse, Some, sym, ap, ◌∙◌}
use Rattle.std.specs.Prelude.{slice_get}
use Rattle.muf_model.specs.declared.code.Code.{Code}
use Rattle.muf_model.specs.inner.Flat.{first_code}
use Rattle.muf_frame.specs.inner.Shown.{Shown, flat}
use Rattle.muf_running.specs.inner.Fitting.{codes_of}
use Rattle.muf_running.proofs.Process.{line_at}
use Rattle.muf_running.proofs.running.Running.line.Goals as goal

pub returns-in-Some : goal.returns-in-Some
returns-in-Some c =
    let code : c.running_code.result.now ≡ first_code (codes_of (reverse c.self.inside.programs.items)) = c.running_code.ensures ∙ ap (λ es. first_code (codes_of (reverse es))) c.deref.ensures.value in
    let place : c.place.result ≡ (flat c.self.inside.frame).place = c.place.ensures ∙ ap (λ (f : Shown). (flat f).place) c.get.ensures in
    line_at _ (flat c.self.inside.frame) _ (Some c.in-Some.placed.now) c.self.view_is
    (ap (λ (x : Code). slice_get x.placed (flat c.self.inside.frame).place) (sym code) ∙ ap (λ n. slice_get c.running_code.result.now.placed n) (sym place) ∙ sym c.in-Some.ensures.value)
