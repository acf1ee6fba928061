use Rattle.std.proofs.Common.{◌≡◌, ◌+◌, ◌<◌, length, reverse, sym, ap, subst, ◌∙◌, arith}
use Rattle.muf_model.specs.inner.Flat.{first_code}
use Rattle.muf_model.specs.Source.{item_passed}
use Rattle.muf_frame.specs.inner.Shown.{Shown}
use Rattle.muf_running.specs.inner.Fitting.{codes_of, IsAtPrimitive}
use Rattle.muf_running.proofs.Process.{passed_place, passed_at_end}
use Rattle.muf_running.proofs.running.Running.pass.Goals as goal

pub invariant_of-self : goal.invariant_of-self
invariant_of-self c =
    let f : Shown = c.self.inside.frame in
    (passed_at_end (reverse c.self.inside.programs.items) f c.go_to.new.self c.self.invariant (subst (λ s. IsAtPrimitive s.now) (sym c.self.view_is) c.requires) (c.go_to.ensures ∙ ap (λ (x : Shown). record x { place = c.place-place.result + 1 }) c.get_mut.ensures.value ∙ ap (λ p. record f { place = p + 1 }) (c.place-place.ensures ∙ ap (λ (x : Shown). x.place) c.get.ensures))).0

pub returns-then-place-length : goal.returns-then-place-length
returns-then-place-length c =
    let f : Shown = c.self.inside.frame in
    (passed_at_end (reverse c.self.inside.programs.items) f c.go_to.new.self c.self.invariant (subst (λ s. IsAtPrimitive s.now) (sym c.self.view_is) c.requires) (c.go_to.ensures ∙ ap (λ (x : Shown). record x { place = c.place-place.result + 1 }) c.get_mut.ensures.value ∙ ap (λ p. record f { place = p + 1 }) (c.place-place.ensures ∙ ap (λ (x : Shown). x.place) c.get.ensures))).1 ∙ ap (λ s. item_passed s) c.self.view_is

pub returns-else-place-length : goal.returns-else-place-length
returns-else-place-length c =
    let f : Shown = c.self.inside.frame in
    let inside : f.place < length (first_code (codes_of (reverse c.self.inside.programs.items))).placed = passed_place (reverse c.self.inside.programs.items) f c.self.invariant (subst (λ s. IsAtPrimitive s.now) (sym c.self.view_is) c.requires) in
    let same : length c.running_code.result.now.placed ≡ length (first_code (codes_of (reverse c.self.inside.programs.items))).placed = ap (λ code. length code.placed) (c.running_code.ensures ∙ ap (λ xs. first_code (codes_of (reverse xs))) c.deref.ensures.value) in
    let stood : c.get.result.now.place ≡ f.place = ap (λ (x : Shown). x.place) c.get.ensures in
    absurd (omega (arith, inside, same, stood, c.len-length.ensures, c.place-place.ensures, c.if-place-length.false))
