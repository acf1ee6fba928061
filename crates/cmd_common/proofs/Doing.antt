-- Changes one after another.
use Rattle.std.proofs.Common.{◌≡◌, ℕ, ◌+◌, ◌<◌, ◌≤◌, List, [], ◌∷◌, length, drop, get_or, refl, sym, subst, add-one, drop-cons, Result, Ok, Err, MatchResult, ◌∙◌}
use Rattle.std.proofs.lemmas.List.{drop_all}
use Rattle.std.specs.Prelude.{OnOk}
use Rattle.muck_model.specs.declared.dbref.Dbref.{Dbref}
use Rattle.muck_model.specs.declared.memory.NoMemory.{NoMemory}
use Rattle.spec_live.specs.Lives.{Change, unchanged, reading, tell}
use Rattle.spec_rights.specs.Levels.{name_shown}
use Rattle.spec_commands.specs.Finding.{names_listed}
use Rattle.spec_commands.specs.declared.outcome.Outcome.{Outcome}
use Rattle.spec_commands.specs.declared.outcome.Outcome.TheVariants.{Done as Finished}
use Rattle.spec_commands.specs.Going.{ended}
use Rattle.muck_perm.specs.declared.guard.Guard.{Guard}
use Rattle.muck_perm.specs.inner.Guards.{Did, Done}
use Rattle.muck_perm.proofs.Worlds.{kept_itself, did_both, same_as}
use Rattle.cmd_common.specs.inner.Plays.{Plays}

pub did_nothing : (a : Guard) → Done unchanged a a
unfolding unchanged
did_nothing a = (refl, kept_itself a)

pub listed_one : {X : Type 0} (d : ℕ) (player : Dbref) (xs : List Dbref) (i : ℕ) (e : Dbref) (a b new : Guard) (r : Result X NoMemory) → i < length xs →
    Done (reading (name_shown player (get_or xs i e)) (tell d)) a b → Did (names_listed d player (drop (i + 1) xs)) b new r → Did (names_listed d player (drop i xs)) a new r
unfolding names_listed
listed_one d player xs i e a b new r h s t =
    let P : List Dbref → Type 0 = λ ys. Did (names_listed d player ys) a new r in
    let more : drop i xs ≡ get_or xs i e ∷ drop (i + 1) xs = rw (add-one, drop-cons xs i e) refl in
    subst P (sym more) (did_both _ _ a b new r s t)

pub listed_none : (d : ℕ) (player : Dbref) (xs : List Dbref) (i : ℕ) (a : Guard) → length xs ≤ i → Done (names_listed d player (drop i xs)) a a
unfolding names_listed
listed_none d player xs i a h =
    let P : List Dbref → Type 0 = λ ys. Done (names_listed d player ys) a a in
    let e : drop i xs ≡ [] = drop_all i xs h in
    subst P (sym e) (did_nothing a)

-- a change that nothing is to follow
pub plays_done : (f : Change) (old new : Guard) (shown : Result (Unit {0}) NoMemory) (result : Result Outcome NoMemory) → Did f old new shown → MatchResult shown (λ x. result ≡ Ok Finished) (λ e. result ≡ Err e) → Plays (ended Finished f) old new result
unfolding ended
plays_done f old new (Ok x) result d is = subst (λ r. Plays (ended Finished f) old new r) (sym is) (d, refl)
plays_done f old new (Err e) result d is = subst (λ r. Plays (ended Finished f) old new r) (sym is) d

-- where memory was wanted behind a change that left all as it was
pub wanted : (f : Change) (old mid new : Guard) (result : Result (Unit {0}) NoMemory) → mid ≡ old → (new ≡ mid) × OnOk result ⊥ → Did f old new result
wanted f old mid new (Ok u) e t = absurd t.1
wanted f old mid new (Err x) e t = same_as old new (t.0 ∙ e)
