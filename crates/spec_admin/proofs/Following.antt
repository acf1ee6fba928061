-- What follows a line of a keeper.
use Rattle.std.proofs.Common.{◌≡◌, ℕ, Bool, true, false, List, refl, Option, Some, None}
use Rattle.muck_model.specs.declared.dbref.Dbref.{Dbref}
use Rattle.muck_model.specs.declared.tune.Tune.{Tune}
use Rattle.spec_live.specs.Lives.{Live, Change, reading, either}
use Rattle.spec_live.proofs.Keeping.{keeps_either}
use Rattle.spec_rights.specs.declared.act.Actor.{Actor}
use Rattle.spec_rights.specs.declared.act.Act.TheVariants.{Wizard}
use Rattle.spec_rights.specs.Verdict.{is_master}
use Rattle.spec_rights.proofs.Allowed.{wizard_allowed}
use Rattle.spec_rights.proofs.Licences.{keeps_judged}
use Rattle.spec_commands.specs.declared.outcome.Outcome.{Outcome}
use Rattle.spec_commands.specs.declared.outcome.Outcome.TheVariants.{Done}
use Rattle.spec_commands.specs.declared.shape.Arguments.{Arguments}
use Rattle.spec_commands.specs.Going.{Play, ended}
use Rattle.spec_commands.specs.Programming.{over_denied}
use Rattle.spec_commands.specs.Reading.{is_empty, left_part, right_part}
use Rattle.spec_commands.proofs.Plain.{After, Follows}
use Rattle.muck_queue.specs.Queues.{Queue}
use Rattle.spec_admin.specs.declared.word.AdminWord.{AdminWord}
use Rattle.spec_admin.specs.declared.word.AdminWord.TheVariants.{Tune as TuneWord, Boot, Wall, Dump, Shutdown}
use Rattle.spec_admin.specs.Parameters.{retuned}
use Rattle.spec_admin.specs.Lines.{by_wizard, parameters_shown, retune_told, parameter_set, tune_done, player_booted, shouted, admin_done}
use Rattle.spec_admin.specs.inner.Following.{MayFollow}
use Rattle.spec_admin.proofs.Tuned.{retuned_in_range}

abbrev pub AsFollows : Actor → Live → Outcome → Type 0
AsFollows a w outcome = MayFollow a w.board.tune outcome

follows_done : (a : Actor) (f : Change) → Follows (AsFollows a) (ended Done f)
unfolding ended
follows_done a f = record { law = λ w. tt }

follows_wizard : (d : ℕ) (a : Actor) (go : Play) → ((w : Live) → is_master a ≡ true → After (AsFollows a w) (go w).1) → Follows (AsFollows a) (by_wizard d a go)
unfolding ended
follows_wizard d a go p = keeps_judged a Wizard (over_denied d) go (λ w denial. tt) (λ w e. p w (wizard_allowed w.objects a e))

follows_retune : (d : ℕ) (a : Actor) (name value : List ℕ) (w : Live) → is_master a ≡ true → After (AsFollows a w) (parameter_set d name value w).1
unfolding parameter_set reading ended
follows_retune d a name value w h = at (retuned name value w.board.tune) refl
  where
    at : (next : Option Tune) → retuned name value w.board.tune ≡ next → After (AsFollows a w) (retune_told d next w).1
    at None e = tt
    at (Some next) e = (h, retuned_in_range name value w.board.tune next e)

follows_choice : (d : ℕ) (a : Actor) (b : Bool) (f : Change) (name value : List ℕ) (w : Live) → is_master a ≡ true → After (AsFollows a w) (either b (ended Done f) (parameter_set d name value) w).1
unfolding either ended
follows_choice d a true f name value w h = tt
follows_choice d a false f name value w h = follows_retune d a name value w h

follows_tune : (d : ℕ) (a : Actor) (text : List ℕ) → Follows (AsFollows a) (tune_done d a text)
unfolding tune_done
follows_tune d a text = keeps_either _ _ _ (follows_wizard d a _ (λ w h. follows_choice d a (is_empty text) (parameters_shown d) (left_part text) (right_part text) w h)) (follows_done a _)

-- a wizard alone has the world dumped, stopped or tuned, and in its range; nothing else follows
pub follows_command : (q : Queue) (d : ℕ) (a : Actor) (command : AdminWord) (args : Arguments) → Follows (AsFollows a) (admin_done q d a command args)
unfolding admin_done player_booted shouted ended
follows_command q d a TuneWord args = follows_tune d a args.first.text
follows_command q d a Boot args = follows_wizard d a _ (λ w h. tt)
follows_command q d a Wall args = follows_wizard d a _ (λ w h. tt)
follows_command q d a Dump args = follows_wizard d a _ (λ w h. h)
follows_command q d a Shutdown args = follows_wizard d a _ (λ w h. h)
follows_command q d a command args = follows_done a _
