-- What is done for each of a list, one after another.
use Rattle.std.proofs.Common.{◌≡◌, ℕ, ◌+◌, ◌<◌, ◌≤◌, List, [], ◌∷◌, length, drop, get_or, Result, refl, sym, subst, add-one, drop-cons}
use Rattle.std.proofs.lemmas.List.{drop_all}
use Rattle.muck_model.specs.declared.memory.NoMemory.{NoMemory}
use Rattle.spec_live.specs.Lives.{Change}
use Rattle.spec_commands.specs.Finding.{for_each}
use Rattle.muck_perm.specs.declared.guard.Guard.{Guard}
use Rattle.muck_perm.specs.inner.Guards.{Did, Done}
use Rattle.muck_perm.proofs.Worlds.{did_both}
use Rattle.cmd_common.proofs.Doing.{did_nothing}

pub each_more : {X Y : Type 0} (go : X → Change) (xs : List X) (i : ℕ) (e : X) (a b new : Guard) (r : Result Y NoMemory) → i < length xs →
    Done (go (get_or xs i e)) a b → Did (for_each go (drop (i + 1) xs)) b new r → Did (for_each go (drop i xs)) a new r
unfolding for_each
each_more {X} go xs i e a b new r h s t =
    let P : List X → Type 0 = λ ys. Did (for_each go ys) a new r in
    let more : drop i xs ≡ get_or xs i e ∷ drop (i + 1) xs = rw (add-one, drop-cons xs i e) refl in
    subst P (sym more) (did_both _ _ a b new r s t)

pub each_none : {X : Type 0} (go : X → Change) (xs : List X) (i : ℕ) (a : Guard) → length xs ≤ i → Done (for_each go (drop i xs)) a a
unfolding for_each
each_none {X} go xs i a h =
    let P : List X → Type 0 = λ ys. Done (for_each go ys) a a in
    let e : drop i xs ≡ [] = drop_all i xs h in
    subst P (sym e) (did_nothing a)
