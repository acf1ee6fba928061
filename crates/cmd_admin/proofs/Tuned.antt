-- What `@tune` does, by its text.
use Rattle.std.proofs.Common.{◌≡◌, ℕ, Bool, true, false, ◌||◌, List, codes, Result, sym, ◌∙◌, ap, subst}
use Rattle.muck_model.specs.declared.memory.NoMemory.{NoMemory}
use Rattle.spec_live.specs.Lives.{either}
use Rattle.spec_rights.specs.declared.act.Actor.{Actor}
use Rattle.spec_commands.specs.declared.outcome.Outcome.{Outcome}
use Rattle.spec_commands.specs.declared.outcome.Outcome.TheVariants.{Done as Finished}
use Rattle.spec_commands.specs.Going.{Play, ended}
use Rattle.spec_commands.specs.Reading.{is_empty, has_full, left_part, right_part, incomplete}
use Rattle.spec_admin.specs.Lines.{by_wizard, parameters_shown, parameter_set, tune_done}
use Rattle.muck_perm.specs.declared.guard.Guard.{Guard}
use Rattle.muck_perm.specs.inner.Guards.{world_of}
use Rattle.cmd_common.specs.inner.Plays.{Plays}
use Rattle.cmd_common.proofs.Taking.{plays_same}

-- by whether the text is empty, and whether it is whole
abbrev tunes : ℕ → Actor → List ℕ → Bool → Bool → Play
tunes d a text empty full =
    either (empty || full) (by_wizard d a (either empty (ended Finished (parameters_shown d)) (parameter_set d (left_part text) (right_part text)))) (ended Finished (incomplete d (codes "@tune")))

-- an empty text shows all
pub shows_all : (d : ℕ) (a : Actor) (text : List ℕ) (old new : Guard) (r : Result Outcome NoMemory) → is_empty text ≡ true →
    Plays (by_wizard d a (ended Finished (parameters_shown d))) old new r → Plays (tune_done d a text) old new r
unfolding tune_done either
shows_all d a text old new r empty h =
    plays_same (by_wizard d a (ended Finished (parameters_shown d))) (tune_done d a text) old new r (sym (ap (λ e. tunes d a text e (has_full text) (world_of old)) empty)) h

-- a name and a value set one
pub sets_one : (d : ℕ) (a : Actor) (text left right : List ℕ) (old new : Guard) (r : Result Outcome NoMemory) → is_empty text ≡ false → has_full text ≡ true → left ≡ left_part text → right ≡ right_part text →
    Plays (by_wizard d a (parameter_set d left right)) old new r → Plays (tune_done d a text) old new r
unfolding tune_done either
sets_one d a text left right old new r some full e f h =
    let L : List ℕ → Type 0 = λ name. Plays (by_wizard d a (parameter_set d name right)) old new r in
    let R : List ℕ → Type 0 = λ value. Plays (by_wizard d a (parameter_set d (left_part text) value)) old new r in
    plays_same (by_wizard d a (parameter_set d (left_part text) (right_part text))) (tune_done d a text) old new r
    (sym (ap (λ x. tunes d a text x (has_full text) (world_of old)) some ∙ ap (λ y. tunes d a text false y (world_of old)) full)) (subst R f (subst L e h))
