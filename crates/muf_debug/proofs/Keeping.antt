-- What a tracer keeps.
use Rattle.std.proofs.Common.{◌≡◌, ◌⊎◌, inl, inr, true, List, [], ◌∷◌, ◌∙◌, ap}
use Rattle.muck_laws.proofs.Truths.{opposed}
use Rattle.muf_debug.specs.declared.view.View.{View}
use Rattle.muf_debug.specs.Watching.{SeesAll}
use Rattle.muf_debug.specs.Shown.{Tracer, view_told, views_told, TellsSo, KeepsShown}

still_refused : (t m : Tracer) (v : View) → t.refused ≡ true → TellsSo t v m → m.refused ≡ true
still_refused t m v so (inl e) = e
still_refused t m v so (inr e) = absurd (opposed t.refused so e.0)

stays_refused : (vs : List View) (t u : Tracer) → t.refused ≡ true → SeesAll TellsSo vs t u → u.refused ≡ true
stays_refused [] t u so all = ap (λ (x : Tracer). x.refused) all ∙ so
stays_refused (v ∷ vs) t u so all = stays_refused vs all.0 u (still_refused t all.0 v so all.1) all.2

pub keeps_shown : KeepsShown
unfolding views_told
keeps_shown [] t u all = inr all
keeps_shown (v ∷ vs) t u all = by all.1 (keeps_shown vs all.0 u all.2)
  where
    by : TellsSo t v all.0 → (u.refused ≡ true) ⊎ (u ≡ views_told vs all.0) → (u.refused ≡ true) ⊎ (u ≡ views_told vs (view_told v t))
    by (inl e) more = inl (stays_refused vs all.0 u e all.2)
    by (inr e) (inl f) = inl f
    by (inr e) (inr f) = inr (f ∙ ap (views_told vs) e.1)
