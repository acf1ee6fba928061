-- What isn't due is stored as it was at the last Cut.
use Rattle.std.proofs.Common.{◌≡◌, ℕ, Bool, true, false, zero, suc, List, [], ◌∷◌, take, refl, ap, sym, ◌∙◌}
use Rattle.std.specs.Prelude.{slice_get, ◌||◌}
use Rattle.std.specs.List.{list_any}
use Rattle.muck_model.specs.declared.event.Entry.{Entry}
use Rattle.spec_live.specs.Saving.{saving_in, is_due, Marked}
use Rattle.muck_codec.specs.declared.stored.Stored.{Stored}
use Rattle.muck_store.specs.Forms.{persist}
use Rattle.muck_store.specs.inner.Changes.{KeepsUndue}
use Rattle.muck_store.proofs.Undue.{stored_as_before}
use Rattle.spec_events.specs.World.{World}
use Rattle.spec_events.specs.Steps.{effect}
use Rattle.spec_events.specs.Histories.{after}
use Rattle.spec_events.specs.Logged.{is_cut}
use Rattle.spec_events.proofs.Walked.{marked_after}
use Rattle.spec_dumps.specs.Fronts.{front_behind_cut, last_cut, at_cut}

-- Where no Cut stands last, none stands.

cut_later : (n : ℕ) (cut : Bool) → front_behind_cut n cut ≡ 0 → (cut ≡ false) × (n ≡ 0)
cut_later zero true is = cc
cut_later zero false is = (refl, refl)
cut_later (suc n) cut is = cc

no_cut : (h : List Entry) → last_cut h ≡ 0 → list_any (λ (e : Entry). is_cut e.event) h ≡ false
unfolding last_cut
no_cut [] is = refl
no_cut (e ∷ h) is =
    let apart = cut_later (last_cut h) (is_cut e.event) is in
    ap (λ b. b || list_any (λ (x : Entry). is_cut x.event) h) apart.0 ∙ no_cut h apart.1

-- So each object is due, or it is as at the last Cut.

marked_front : (n : ℕ) (w : World) (h : List Entry) → last_cut h ≡ n → Marked (after w (take n h)).live.objects (after w h).live.objects
unfolding last_cut
marked_front zero w h is = marked_after w h (no_cut h is)
marked_front (suc n) w [] is = cc
marked_front (suc n) w (e ∷ h) is = marked_front n (effect w e) h (behind (last_cut h) (is_cut e.event) is)
  where
    behind : (i : ℕ) (cut : Bool) → front_behind_cut i cut ≡ suc n → i ≡ n
    behind zero true same = cc
    behind zero false same = cc
    behind (suc i) cut same = cc

pub marked_since : (w : World) (h : List Entry) → Marked (at_cut w h).live.objects (after w h).live.objects
marked_since w h = marked_front (last_cut h) w h refl

pub undue_as_cut : (w : World) (h : List Entry) (k : ℕ) → is_due (saving_in (after w h).live.objects k) ≡ false → slice_get (persist (at_cut w h).live.objects) k ≡ slice_get (persist (after w h).live.objects) k
undue_as_cut w h k undue = sym (stored_as_before (at_cut w h).live.objects (after w h).live.objects k (marked_since w h k undue))

-- what was stored of the world at the last Cut is what is stored of the objects that aren't due
pub kept_undue : (w : World) (h : List Entry) (base : List Stored) → base ≡ persist (at_cut w h).live.objects → KeepsUndue base (after w h).live.objects
kept_undue w h base is k undue = ap (λ (os : List Stored). slice_get os k) is ∙ undue_as_cut w h k undue
