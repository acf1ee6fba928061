-- Who asked for a dump is told one behind the other.
use Rattle.std.proofs.Common.{◌≡◌, ℕ, ◌+◌, ◌<◌, ◌≤◌, List, ◌∷◌, length, drop, get_or, refl, sym, ◌∙◌, ap, add-one, drop-cons}
use Rattle.std.proofs.lemmas.List.{drop_all}
use Rattle.spec_live.specs.Lives.{tell}
use Rattle.spec_events.specs.World.{World, on_live}
use Rattle.spec_events.specs.Dumping.{told_each}

-- once one more is told, those that are left are fewer
pub told_one : (ds text : List ℕ) (i d : ℕ) (w v : World) → i < length ds → d ≡ get_or ds i 0 → v ≡ on_live (tell d text) w → on_live (told_each (drop (i + 1) ds) text) v ≡ on_live (told_each (drop i ds) text) w
unfolding told_each
told_one ds text i d w v h is e =
    let rest : drop i ds ≡ get_or ds i 0 ∷ drop (i + 1) ds = rw (add-one, drop-cons ds i 0) refl in
    ap (on_live (told_each (drop (i + 1) ds) text)) e
    ∙ ap (λ n. on_live (told_each (n ∷ drop (i + 1) ds) text) w) is
    ∙ ap (λ es. on_live (told_each es text) w) (sym rest)

-- and at the end nobody is left
pub told_none : (ds text : List ℕ) (i : ℕ) (w : World) → length ds ≤ i → w ≡ on_live (told_each (drop i ds) text) w
unfolding told_each
told_none ds text i w h = ap (λ es. on_live (told_each es text) w) (sym (drop_all i ds h))
