-- What is read by a table is lawful, where each command of the table is.
use Rattle.std.proofs.Common.{ℕ, List, Option, None}
use Rattle.muck_model.specs.declared.dbref.Dbref.{Dbref}
use Rattle.spec_live.specs.Objects.{Entry}
use Rattle.spec_live.specs.Lives.{Live, Change}
use Rattle.spec_live.proofs.Keeping.{Keeps, keeps_either, keeps_where}
use Rattle.spec_rights.specs.declared.act.Actor.{Actor}
use Rattle.spec_rights.specs.Licence.{Freedom}
use Rattle.spec_rights.proofs.Licences.{Quiet, Ends, Whole, Always, itself, whole_ends, whole_quiet}
use Rattle.spec_rights.proofs.Shown.{quiet_tell}
use Rattle.spec_commands.specs.declared.outcome.Outcome.{Outcome}
use Rattle.spec_commands.specs.declared.outcome.Outcome.TheVariants.{Done}
use Rattle.spec_commands.specs.declared.shape.Want.{Want}
use Rattle.spec_commands.specs.declared.shape.Want.TheVariants.{Nothing, Text, NewName, Player}
use Rattle.spec_commands.specs.declared.shape.Shape.{Shape}
use Rattle.spec_commands.specs.declared.shape.Arguments.{Arguments}
use Rattle.spec_commands.specs.Going.{Play, ended}
use Rattle.spec_commands.specs.Programming.{command_over}
use Rattle.spec_commands.specs.Reading.{incomplete, name_judged, object_sought, part_meant, with_fit, with_parts, with_arguments}
use Rattle.spec_commands.proofs.Showing.{keeps_finding, keeps_finding_player}
use Rattle.spec_commands.proofs.Gone.{world_of, whole_ended}
use Rattle.spec_commands.proofs.Plain.{Follows}

-- What is so of a text that is told, and of the command, is so of it with its arguments.
module _ {R : Live → Live × Outcome → Type 0} (d : ℕ) (a : Actor) (told : (text : List ℕ) → Keeps R (command_over d text)) where
  keeps_meant : (want : Want) (text : List ℕ) (go : Dbref → Play) → ((x : Dbref) → Keeps R (go x)) → Keeps R (part_meant d a want text go)
  unfolding name_judged object_sought
  keeps_meant Nothing text go p = p _
  keeps_meant Text text go p = p _
  keeps_meant NewName text go p = keeps_either _ _ _ (p _) (told _)
  keeps_meant Player text go p = keeps_finding_player (command_over d) text go told p
  keeps_meant want text go p = keeps_either _ _ _ (p _) (keeps_finding (command_over d) a.player text go told p)

  keeps_arguments : (word : List ℕ) (shape : Shape) (text : List ℕ) (go : Arguments → Play) → ((args : Arguments) → Keeps R (go args)) → Keeps R (with_arguments d a word shape text go)
  unfolding with_arguments with_parts with_fit incomplete
  keeps_arguments word shape text go p =
      keeps_either _ _ _
      (keeps_meant shape.first _ _ (λ x. keeps_meant shape.second _ _ (λ y. keeps_where _ _ _ (told _) (p _))))
      (told _)

-- What keeps to the licence.

module _ (a : Actor) (own : Option ℕ) (free : List Entry → Freedom) where
  pub open_quiet : (outcome : Outcome) (f : Change) → Quiet f → Whole world_of a own free Always (ended outcome f)
  open_quiet outcome f q = whole_ended a own free Always outcome f (whole_quiet a own free Always f q)

  pub open_ends : (f : Change) → ((now : Freedom) → Ends itself a now None f) → Whole world_of a own free Always (ended Done f)
  open_ends f p = whole_ended a own free Always Done f (whole_ends itself a own free Always f (λ w h. p (free w.objects)))

  pub open_play : (f : Play) → ((now : Freedom) → Ends world_of a now None f) → Whole world_of a own free Always f
  open_play f p = whole_ends world_of a own free Always f (λ w h. p (free w.objects))

-- it keeps to the licence, and P is so of what is to follow
pub record Lawful (P : Live → Outcome → Type 0) (a : Actor) (own : Option ℕ) (free : List Entry → Freedom) (f : Play) : Type 0 where
  pub licence : Whole world_of a own free Always f
  pub follows : Follows P f

pub lawful_with : {P : Live → Outcome → Type 0} (a : Actor) (own : Option ℕ) (free : List Entry → Freedom) (d : ℕ) (word : List ℕ) (shape : Shape) (text : List ℕ) (go : Arguments → Play) →
    ((args : Arguments) → Lawful P a own free (go args)) → Lawful P a own free (with_arguments d a word shape text go)
unfolding ended
lawful_with a own free d word shape text go p = record {
  licence = keeps_arguments d a (λ t. open_quiet a own free Done _ (quiet_tell d t)) word shape text go (λ args. (p args).licence);
  follows = keeps_arguments d a (λ t. record { law = λ w. tt }) word shape text go (λ args. (p args).follows);
}
