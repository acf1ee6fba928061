-- Arguments that are found one after another.
use Rattle.std.proofs.Common.{◌≡◌, ℕ, Bool, if◌then◌else◌, List, Option, Some, None, Result, Ok, Err, ◌∙◌, ap, sym, subst}
use Rattle.muck_model.specs.declared.dbref.Dbref.{Dbref}
use Rattle.muck_model.specs.declared.memory.NoMemory.{NoMemory}
use Rattle.spec_live.specs.Lives.{Live, either}
use Rattle.spec_rights.specs.declared.act.Actor.{Actor}
use Rattle.spec_commands.specs.declared.outcome.Outcome.{Outcome}
use Rattle.spec_commands.specs.declared.outcome.Outcome.TheVariants.{Done as Finished}
use Rattle.spec_commands.specs.declared.shape.Arguments.{Arguments}
use Rattle.spec_commands.specs.declared.shape.Shape.{Shape}
use Rattle.spec_commands.specs.Going.{Play, ended}
use Rattle.spec_commands.specs.Reading.{incomplete, left_in, right_in, with_parts, with_arguments}
use Rattle.muck_perm.specs.declared.guard.Guard.{Guard}
use Rattle.muck_perm.specs.inner.Guards.{world_of}
use Rattle.cmd_common.specs.declared.parts.Parts.{Parts}
use Rattle.cmd_common.specs.inner.Plays.{Plays, FindsFor}
use Rattle.cmd_common.specs.inner.Takes.{IsCut, Takes}

-- two lines that do the same there
pub plays_same : (f g : Play) (old new : Guard) (result : Result Outcome NoMemory) → f (world_of old) ≡ g (world_of old) → Plays f old new result → Plays g old new result
plays_same f g old new (Ok outcome) e h = ((h.0.0 ∙ ap (λ (r : Live × Outcome). r.0) e, h.0.1), h.1 ∙ ap (λ (r : Live × Outcome). r.1) e)
plays_same f g old new (Err x) e h = h

-- one was found, and then the rest
pub takes_after : (seek : (Dbref → Play) → Play) (rest : Guard → Dbref → (Arguments → Play) → Play) (x : Dbref) (old mid new : Guard) (found : Result (Option Dbref) NoMemory) (result : Result (Option Arguments) NoMemory) →
    FindsFor seek old mid found → found ≡ Ok (Some x) → Takes (rest mid x) mid new result → Takes (λ go. seek (λ y. rest old y go)) old new result
takes_after seek rest x old mid new found result h is t =
    let P : Guard → Type 0 = λ g. Takes (rest g x) g new result in
    at result (subst P f.0 t)
  where
    f : FindsFor seek old mid (Ok (Some x))
    f = subst (λ q. FindsFor seek old mid q) is h

    at : (r : Result (Option Arguments) NoMemory) → Takes (rest old x) old new r → Takes (λ go. seek (λ y. rest old y go)) old new r
    at (Ok (Some args)) t = (t.0, λ go. f.1 (λ y. rest old y go) ∙ t.1 go)
    at (Ok None) t = λ go. plays_same (rest old x go) (seek (λ y. rest old y go)) old new (Ok Finished) (sym (f.1 (λ y. rest old y go))) (t go)
    at (Err e) t = t

-- one wasn't found
pub takes_none : (seek : (Dbref → Play) → Play) (rest : Guard → Dbref → (Arguments → Play) → Play) (old new : Guard) (found : Result (Option Dbref) NoMemory) →
    FindsFor seek old new found → found ≡ Ok None → Takes (λ go. seek (λ y. rest old y go)) old new (Ok None)
takes_none seek rest old new found h is = λ go. subst (λ q. FindsFor seek old new q) is h (λ y. rest old y go)

-- the parts of a whole text are its arguments
pub takes_whole : (d : ℕ) (a : Actor) (word : List ℕ) (shape : Shape) (text : List ℕ) (parts : Parts) (old new : Guard) (cut : Result (Option Parts) NoMemory) (result : Result (Option Arguments) NoMemory) →
    IsCut shape.form text cut → cut ≡ Ok (Some parts) → Takes (with_parts d a shape parts.left parts.right) old new result → Takes (with_arguments d a word shape text) old new result
unfolding with_arguments either
takes_whole d a word shape text parts old new cut result h is t =
    let whole : IsCut shape.form text (Ok (Some parts)) = subst (λ q. IsCut shape.form text q) is h in
    let Right : List ℕ → Type 0 = λ right. Takes (with_parts d a shape parts.left right) old new result in
    let Left : List ℕ → Type 0 = λ left. Takes (with_parts d a shape left (right_in shape.form text)) old new result in
    let Whole : Bool → Type 0 = λ b. Takes (λ go w. if b then with_parts d a shape (left_in shape.form text) (right_in shape.form text) go w else ended Finished (incomplete d word) w) old new result in
    subst Whole (sym whole.0) (subst Left whole.1 (subst Right whole.2 t))

pub ruleset takes = (takes_after, takes_none, takes_whole)

-- a line whose arguments were found
pub plays_taken : (seek : (Arguments → Play) → Play) (go : Guard → Arguments → Play) (args : Arguments) (old mid new : Guard) (result : Result Outcome NoMemory) →
    Takes seek old mid (Ok (Some args)) → Plays (go mid args) mid new result → Plays (seek (go old)) old new result
plays_taken seek go args old mid new result t p =
    let P : Guard → Type 0 = λ g. Plays (go g args) g new result in
    plays_same (go old args) (seek (go old)) old new result (sym (t.1 (go old))) (subst P t.0 p)

-- one whose arguments weren't
pub plays_untaken : (seek : (Arguments → Play) → Play) (go : Arguments → Play) (old new : Guard) (found : Result (Option Arguments) NoMemory) → Takes seek old new found → found ≡ Ok None → Plays (seek go) old new (Ok Finished)
plays_untaken seek go old new found t is = subst (λ q. Takes seek old new q) is t go
