-- Lines shown one after another.
use Rattle.std.proofs.Common.{◌≡◌, ℕ, ◌+◌, ◌<◌, ◌≤◌, List, [], ◌∷◌, length, drop, get_or, refl, sym, ◌∙◌, ap, subst, add-one, drop-cons, Result}
use Rattle.std.proofs.lemmas.List.{drop_all}
use Rattle.muck_model.specs.declared.memory.NoMemory.{NoMemory}
use Rattle.spec_live.specs.Lives.{tell}
use Rattle.spec_commands.specs.Programming.{lines_shown}
use Rattle.muck_perm.specs.declared.guard.Guard.{Guard}
use Rattle.muck_perm.specs.inner.Guards.{Did, Done}
use Rattle.muck_perm.proofs.Worlds.{did_both}
use Rattle.cmd_common.proofs.Doing.{did_nothing}

pub shown_one : {X : Type 0} (d : ℕ) (lines : List (List ℕ)) (i : ℕ) (e : List ℕ) (a b new : Guard) (r : Result X NoMemory) → i < length lines → e ≡ get_or lines i e →
    Done (tell d e) a b → Did (lines_shown d (drop (i + 1) lines)) b new r → Did (lines_shown d (drop i lines)) a new r
unfolding lines_shown
shown_one d lines i e a b new r h is s t =
    let P : List (List ℕ) → Type 0 = λ rest. Did (lines_shown d rest) a new r in
    let more : drop i lines ≡ get_or lines i e ∷ drop (i + 1) lines = rw (add-one, drop-cons lines i e) refl in
    let here : drop i lines ≡ e ∷ drop (i + 1) lines = more ∙ ap (λ line. line ∷ drop (i + 1) lines) (sym is) in
    subst P (sym here) (did_both _ _ a b new r s t)

pub shown_none : (d : ℕ) (lines : List (List ℕ)) (i : ℕ) (a : Guard) → length lines ≤ i → Done (lines_shown d (drop i lines)) a a
unfolding lines_shown
shown_none d lines i a h =
    let P : List (List ℕ) → Type 0 = λ rest. Done (lines_shown d rest) a a in
    let e : drop i lines ≡ [] = drop_all i lines h in
    subst P (sym e) (did_nothing a)
