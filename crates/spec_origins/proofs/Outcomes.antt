-- No line but a wizard's stops the world.
use Rattle.std.proofs.Common.{◌≡◌, ◌==◌, ℕ, true, List, [], ◌∷◌, subst, Option, Some, None}
use Rattle.std.specs.Prelude.{Result, Ok, Err, codes}
use Rattle.std.proofs.lemmas.Bool.{cond_both}
use Rattle.muck_model.specs.declared.dbref.Dbref.{Dbref}
use Rattle.muck_match.specs.declared.exits.ExitHit.{ExitHit}
use Rattle.spec_live.specs.declared.fault.DbFault.{DbFault}
use Rattle.spec_live.specs.Lives.{Live, Change, change_followed}
use Rattle.spec_live.proofs.Keeping.{Keeps, keeps_reading, keeps_either, keeps_where, keeps_more}
use Rattle.spec_rights.specs.declared.act.Actor.{Actor}
use Rattle.spec_rights.specs.Verdict.{is_master}
use Rattle.spec_rights.proofs.Licences.{keeps_asked}
use Rattle.spec_commands.specs.declared.outcome.Outcome.{Outcome}
use Rattle.spec_commands.specs.declared.outcome.Outcome.TheVariants.{Done, NotMine, Stop}
use Rattle.spec_commands.specs.declared.typed.Typed.{Typed}
use Rattle.spec_commands.specs.declared.word.PlayWord.{PlayWord}
use Rattle.spec_commands.specs.declared.word.PlayWord.TheVariants.{Say, Pose, Go}
use Rattle.spec_commands.specs.declared.word.BuildWord.{BuildWord}
use Rattle.spec_commands.specs.declared.word.BuildWord.TheVariants.{Program}
use Rattle.spec_commands.specs.declared.shape.Arguments.{Arguments}
use Rattle.spec_commands.specs.declared.shape.Shape.{Shape}
use Rattle.spec_commands.specs.declared.shape.Want.{Want}
use Rattle.spec_commands.specs.declared.shape.Want.TheVariants.{Nothing, Text, NewName, Player}
use Rattle.spec_commands.specs.Free.{free_line}
use Rattle.spec_commands.specs.Going.{Play, ended, led, tried, exit_walked, walked_some, player_went}
use Rattle.spec_commands.specs.Programming.{command_over, program_put, program_at, program_new, program_made, program_edited, program_listed, program_run}
use Rattle.spec_commands.specs.Reading.{incomplete, name_judged, object_sought, part_meant, with_fit, with_parts, with_arguments, with_command_word, by_table}
use Rattle.spec_commands.specs.Commands.{play_done, said_by_sign, play_line, build_done, build_line, or_next, play_or_else, begins_with_sign, commanded, through, played}
use Rattle.spec_commands.proofs.Permitted.{Leaves}
use Rattle.spec_commands.proofs.Showing.{keeps_finding, keeps_finding_player}
use Rattle.muck_queue.specs.Queues.{Queue}
use Rattle.spec_admin.proofs.Following.{AsFollows}
use Rattle.spec_admin.proofs.Permitted.{admin_leading}
use Rattle.spec_events.specs.Lines.{by_keeper, typed}

-- the world may go on behind it
abbrev Calm : Outcome → Type 0
Calm Stop = ⊥
Calm outcome = Unit {0}

abbrev Goes : Play → Type 0
Goes f = Keeps (λ (w : Live) (y : Live × Outcome). Calm y.1) f

goes_ended : (outcome : Outcome) (f : Change) → Calm outcome → Goes (ended outcome f)
unfolding ended
goes_ended outcome f h = record { law = λ w. h }

goes_done : (f : Change) → Goes (ended Done f)
goes_done f = goes_ended Done f tt

goes_followed : (f : Change) (g : Play) → Goes g → Goes (change_followed f g)
unfolding change_followed
goes_followed f g p = record { law = λ w. p.law (f w) }

ruleset calmly = (goes_done, goes_ended, goes_followed, keeps_asked, keeps_reading, keeps_either, keeps_where)

goes_walked : (d : ℕ) (a : Actor) (hit : ExitHit) (line : List ℕ) → Goes (exit_walked d a hit line)
unfolding exit_walked tried led
goes_walked d a hit line = search calmly depth 9

goes_some : (d : ℕ) (a : Actor) (line : List ℕ) (hit : Option ExitHit) → Goes (walked_some d a line hit)
goes_some d a line None = goes_done _
goes_some d a line (Some hit) = goes_walked d a hit line

goes_play : (d : ℕ) (a : Actor) (typed : Typed) (command : PlayWord) (args : Arguments) → Goes (play_done d a typed command args)
unfolding play_done player_went
goes_play d a typed Go args = search (calmly, goes_some)
goes_play d a typed command args = search calmly

goes_at : (d : ℕ) (a : Actor) (name : List ℕ) (level : ℕ) (check : Result (ℕ × ℕ) DbFault) → Goes (program_at d a name level check)
unfolding program_put
goes_at d a name level (Ok p) = search calmly
goes_at d a name level (Err fault) = search calmly

goes_build : (d : ℕ) (a : Actor) (line : List ℕ) (command : BuildWord) (args : Arguments) → Goes (build_done d a line command args)
unfolding build_done program_made program_new program_edited program_listed program_run
goes_build d a line Program args = search (calmly, goes_at)
goes_build d a line command args = search calmly

goes_over : (d : ℕ) (text : List ℕ) → Goes (command_over d text)
goes_over d text = goes_done _

module _ (d : ℕ) (a : Actor) where
  goes_meant : (want : Want) (text : List ℕ) (go : Dbref → Play) → ((x : Dbref) → Goes (go x)) → Goes (part_meant d a want text go)
  unfolding name_judged object_sought
  goes_meant Nothing text go p = p _
  goes_meant Text text go p = p _
  goes_meant NewName text go p = keeps_either _ _ _ (p _) (goes_over d _)
  goes_meant Player text go p = keeps_finding_player (command_over d) text go (goes_over d) p
  goes_meant want text go p = keeps_either _ _ _ (p _) (keeps_finding (command_over d) a.player text go (goes_over d) p)

  goes_arguments : (word : List ℕ) (shape : Shape) (text : List ℕ) (go : Arguments → Play) → ((args : Arguments) → Goes (go args)) → Goes (with_arguments d a word shape text go)
  unfolding with_arguments with_parts with_fit incomplete
  goes_arguments word shape text go p =
      keeps_either _ _ _ (goes_meant shape.first _ _ (λ x. goes_meant shape.second _ _ (λ y. keeps_where _ _ _ (goes_over d _) (p _)))) (goes_over d _)

  goes_command : {C : Type 0} (shape_of : C → Shape) (go : C → Arguments → Play) (word text : List ℕ) (found : Option C) → ((command : C) (args : Arguments) → Goes (go command args)) → Goes (with_command_word shape_of go d a word text found)
  goes_command shape_of go word text None p = goes_ended NotMine _ tt
  goes_command shape_of go word text (Some command) p = goes_arguments word (shape_of command) text (go command) (p command)

  goes_table : {C : Type 0} (rows : List (List ℕ × C)) (shape_of : C → Shape) (go : C → Arguments → Play) (line : List ℕ) → ((command : C) (args : Arguments) → Goes (go command args)) → Goes (by_table rows shape_of go d a line)
  unfolding by_table
  goes_table rows shape_of go line p = goes_command shape_of go _ _ _ p

  goes_signed : (command : PlayWord) (word text : List ℕ) → Goes (said_by_sign d a command word text)
  unfolding said_by_sign
  goes_signed command word text = goes_arguments word _ text _ (goes_play d a _ command)

  goes_line : (line : List ℕ) → Goes (play_line d a line)
  unfolding play_line
  goes_line [] = goes_ended NotMine _ tt
  goes_line (b ∷ line) =
      cond_both (b == 34) _ _ Goes (λ e. goes_signed Say (codes "say") _) (λ e. cond_both (b == 58) _ _ Goes (λ f. goes_signed Pose (codes "pose") _) (λ f. goes_table _ _ _ (b ∷ line) (goes_play d a _)))

  goes_building : (line : List ℕ) → Goes (build_line d a line)
  unfolding build_line
  goes_building line = goes_table _ _ _ line (goes_build d a line)

-- the second does what the first leaves to it
next_is : (P : Outcome → Type 0) (g : Play) → Keeps (λ (w : Live) (y : Live × Outcome). P y.1) g → (v : Live) (outcome : Outcome) → P outcome → P (or_next g (v, outcome)).1
next_is P g p v NotMine h = p.law v
next_is P g p v outcome h = h

or_is : (P : Outcome → Type 0) (f g : Play) → Keeps (λ (w : Live) (y : Live × Outcome). P y.1) f → Keeps (λ (w : Live) (y : Live × Outcome). P y.1) g → Keeps (λ (w : Live) (y : Live × Outcome). P y.1) (play_or_else f g)
unfolding play_or_else
or_is P f g p q = record { law = λ w. next_is P g q (f w).0 (f w).1 (p.law w) }

goes_commanded : (d : ℕ) (a : Actor) (line : List ℕ) → Goes (commanded d a line)
unfolding commanded
goes_commanded d a line = or_is Calm (play_line d a line) (build_line d a line) (goes_line d a line) (goes_building d a line)

goes_through : (d : ℕ) (a : Actor) (line : List ℕ) (hit : Option ExitHit) → Goes (through d a line hit)
goes_through d a line (Some hit) = goes_walked d a hit line
goes_through d a line None = goes_commanded d a line

goes_played : (d : ℕ) (a : Actor) (line : List ℕ) → Goes (played d a line)
unfolding played
goes_played d a line = cond_both (begins_with_sign line) _ _ Goes (λ e. goes_commanded d a line) (λ e. keeps_reading _ (through d a line) (goes_through d a line))

-- A keeper's line stops it by a wizard alone.

abbrev MayStop : Actor → Outcome → Type 0
MayStop a Stop = is_master a ≡ true
MayStop a outcome = Unit {0}

calm_stops : (a : Actor) (outcome : Outcome) → Calm outcome → MayStop a outcome
calm_stops a Stop h = absurd h
calm_stops a outcome h = tt

keeper_stops : (a : Actor) (w v : Live) (outcome : Outcome) → Leaves (AsFollows a w) w (v, outcome) → MayStop a outcome
keeper_stops a w v Stop h = h
keeper_stops a w v outcome h = tt

stops_typed : (q : Queue) (d : ℕ) (a : Actor) (line : List ℕ) → Keeps (λ (w : Live) (y : Live × Outcome). MayStop a y.1) (typed q d a line)
unfolding typed by_keeper ended
stops_typed q d a line =
    let keeper = (admin_leading a None (free_line a line) q d line).left in
    or_is (MayStop a) _ _ (keeps_more _ (λ w y h. calm_stops a y.1 h) (goes_played d a line))
    (or_is (MayStop a) _ _ (keeps_more _ (λ w y h. keeper_stops a w y.0 y.1 h) keeper) (record { law = λ w. tt }))

pub typed_stops : (q : Queue) (d : ℕ) (a : Actor) (line : List ℕ) (w : Live) → (typed q d a line w).1 ≡ Stop → is_master a ≡ true
typed_stops q d a line w e = subst (λ (outcome : Outcome). MayStop a outcome) e ((stops_typed q d a line).law w)
