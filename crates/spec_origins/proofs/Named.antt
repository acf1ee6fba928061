-- What a line starts was started by an object that is there, and what it opens an editor on is there.
use Rattle.std.proofs.Common.{◌≡◌, ◌==◌, ℕ, Bool, true, false, cond, List, [], ◌∷◌, refl, sym, ◌∙◌, ap, subst, Option, Some, None}
use Rattle.std.specs.Prelude.{Result, Ok, Err, codes, is_some}
use Rattle.std.specs.Option.{option_map_or, option_and_then}
use Rattle.std.proofs.lemmas.Bool.{cond_both, and_parts}
use Rattle.muck_model.specs.declared.dbref.Dbref.{Dbref}
use Rattle.muck_model.specs.declared.dbref.Kind.TheVariants.{Garbage, Program as ProgramKind}
use Rattle.muck_match.specs.declared.exits.ExitHit.{ExitHit}
use Rattle.spec_live.specs.declared.fault.DbFault.{DbFault}
use Rattle.spec_live.specs.declared.object.Object.{Object}
use Rattle.spec_live.specs.Objects.{Entry, dbref_of, nothing, same, is_garbage, is_program, kind_in, object_in, object_at, changed_at, on_object, with_object}
use Rattle.spec_live.specs.Moving.{moved}
use Rattle.spec_live.specs.Making.{objects_grown, new_object, created, create_check}
use Rattle.spec_live.specs.Setting.{with_level}
use Rattle.spec_live.specs.Lives.{Live, Change, change_followed, reading, either, unchanged, tell}
use Rattle.spec_live.proofs.Readers.{kind_moved, kind_changed}
use Rattle.spec_live.proofs.CreationLaws.{named_kind, may_create, grown_long}
use Rattle.spec_live.proofs.Keeping.{Keeps, keeps_followed, keeps_reading, keeps_either, keeps_where, keeps_more}
use Rattle.spec_rights.specs.declared.act.Actor.{Actor}
use Rattle.spec_rights.specs.Changing.{created_so}
use Rattle.spec_rights.proofs.Licences.{keeps_asked, quiet_order}
use Rattle.spec_rights.proofs.Lookups.{alive, seen_at}
use Rattle.spec_rights.proofs.Shown.{quiet_tell}
use Rattle.spec_commands.specs.declared.outcome.Outcome.{Outcome}
use Rattle.spec_commands.specs.declared.outcome.Outcome.TheVariants.{Done, Said, NotMine, Start, Edit, Leave}
use Rattle.spec_commands.specs.declared.typed.Typed.{Typed}
use Rattle.spec_commands.specs.declared.word.PlayWord.{PlayWord}
use Rattle.spec_commands.specs.declared.word.PlayWord.TheVariants.{Say, Pose, Go}
use Rattle.spec_commands.specs.declared.word.BuildWord.{BuildWord}
use Rattle.spec_commands.specs.declared.word.BuildWord.TheVariants.{Program, Edit as EditWord, Run}
use Rattle.spec_commands.specs.declared.shape.Arguments.{Arguments}
use Rattle.spec_commands.specs.declared.shape.Shape.{Shape}
use Rattle.spec_commands.specs.declared.shape.Want.{Want}
use Rattle.spec_commands.specs.declared.shape.Want.TheVariants.{Nothing, Text, NewName, Player}
use Rattle.spec_commands.specs.Replies.{entering_editor}
use Rattle.spec_commands.specs.Finding.{is_object_so, where_so}
use Rattle.spec_commands.specs.Going.{Play, ended, is_program_there, link_at, led, tried, exit_walked, walked_some, player_went}
use Rattle.spec_commands.specs.Programming.{command_over, first_level, program_put, program_at, program_new, program_made, program_edited, program_listed, program_run}
use Rattle.spec_commands.specs.Reading.{incomplete, name_judged, object_sought, part_meant, are_fit, with_fit, with_parts, with_arguments, with_command_word, by_table}
use Rattle.spec_commands.specs.Commands.{play_shape, play_done, said_by_sign, play_line, build_shape, build_done, build_line, or_next, play_or_else, begins_with_sign, commanded, through, played}
use Rattle.spec_commands.proofs.Built.{quiet_created_shown}
use Rattle.spec_commands.proofs.Showing.{keeps_finding, keeps_finding_player}

-- it is there
abbrev pub Stands : List Entry → Dbref → Type 0
Stands es d = is_some (object_at d es) ≡ true

-- what is to follow a line names what is there
abbrev pub Names : Live → Outcome → Type 0
Names w (Start program trigger line arg) = Stands w.objects trigger
Names w (Edit program) = Stands w.objects program
Names w outcome = Unit {0}

abbrev pub Naming : Play → Type 0
Naming f = Keeps (λ (w : Live) (y : Live × Outcome). Names y.0 y.1) f

names_done : (f : Change) → Naming (ended Done f)
unfolding ended
names_done f = record { law = λ w. tt }

names_said : (pose : Bool) (text : List ℕ) (f : Change) → Naming (ended (Said pose text) f)
unfolding ended
names_said pose text f = record { law = λ w. tt }

names_not : (f : Change) → Naming (ended NotMine f)
unfolding ended
names_not f = record { law = λ w. tt }

names_leave : (f : Change) → Naming (ended Leave f)
unfolding ended
names_leave f = record { law = λ w. tt }

names_followed : (f : Change) (g : Play) → Naming g → Naming (change_followed f g)
unfolding change_followed
names_followed f g p = record { law = λ w. p.law (f w) }

ruleset plainly = (names_done, names_said, names_not, names_leave, names_followed, keeps_asked, keeps_reading, keeps_either, keeps_where)

-- Exits: what leads anywhere is there.

linked_there : (q : Option Object) → same (option_map_or (λ (o : Object). o.link) q nothing) nothing ≡ false → is_some q ≡ true
linked_there None h = absurd cc
linked_there (Some o) h = refl

abbrev NamesNow : Live × Outcome → Type 0
NamesNow y = Names y.0 y.1

names_led : (d : ℕ) (a : Actor) (typed : Typed) (exit : Dbref) (line : List ℕ) → Naming (reading (link_at exit) (led d a typed exit line))
unfolding reading led either where_so ended unchanged
names_led d a typed exit line = record {
  law = λ w.
      let to : Dbref = link_at exit w in
      cond_both (same to nothing) _ _ NamesNow (λ e. tt)
      (λ e. cond_both (is_program_there to w) _ _ NamesNow (λ f. linked_there (object_at exit w.objects) e) (λ f. tt));
}

names_walked : (d : ℕ) (a : Actor) (hit : ExitHit) (line : List ℕ) → Naming (exit_walked d a hit line)
unfolding exit_walked tried
names_walked d a hit line = search (plainly, names_led) depth 9

names_some : (d : ℕ) (a : Actor) (line : List ℕ) (hit : Option ExitHit) → Naming (walked_some d a line hit)
names_some d a line None = names_done _
names_some d a line (Some hit) = names_walked d a hit line

names_play : (d : ℕ) (a : Actor) (typed : Typed) (command : PlayWord) (args : Arguments) → Naming (play_done d a typed command args)
unfolding play_done player_went
names_play d a typed Go args = search (plainly, names_some)
names_play d a typed command args = search plainly

-- Programs.

kind_there : (es : List Entry) (n : ℕ) → is_garbage (kind_in es n) ≡ false → Stands es (dbref_of n)
unfolding kind_in
kind_there es n h = ap is_some (seen_at es n) ∙ at (object_in es n) h
  where
    at : (q : Option Object) → is_garbage (option_map_or (λ (o : Object). o.kind) q Garbage) ≡ false → is_some (option_and_then alive q) ≡ true
    at None h = absurd cc
    at (Some o) h = ap (λ (b : Bool). is_some (cond b None (Some o))) h

made_there : (name : List ℕ) (owner place : Dbref) (level : ℕ) (w : Live) (p : ℕ × ℕ) → create_check ProgramKind owner place w.objects ≡ Ok p → Stands (created_so p.0 ProgramKind name owner p.1 (with_level level) w).objects (dbref_of p.0)
unfolding created_so created
made_there name owner place level w p e =
    let n : ℕ = p.0 in
    let g : List Entry = objects_grown n w.objects in
    let one : List Entry = changed_at n (with_object (new_object n ProgramKind name owner)) g in
    let long = (grown_long w.objects n (may_create ProgramKind owner place w.objects p e).free).0 in
    kind_there (changed_at n (on_object (with_level level)) (moved n p.1 one)) n
    (ap is_garbage (kind_changed n n (with_level level) (moved n p.1 one) (λ o. refl) ∙ kind_moved one n p.1 n ∙ named_kind g n ProgramKind name owner long))

names_new : (d : ℕ) (a : Actor) (name : List ℕ) → Naming (program_new d a name)
unfolding program_new program_put reading ended change_followed
names_new d a name = record { law = λ w. at w (create_check ProgramKind a.user a.player w.objects) refl }
  where
    at : (w : Live) (check : Result (ℕ × ℕ) DbFault) → create_check ProgramKind a.user a.player w.objects ≡ check → NamesNow (program_at d a name (first_level a.user w) check w)
    at w (Ok p) e =
        let v : Live = created_so p.0 ProgramKind name a.user p.1 (with_level (first_level a.user w)) w in
        let shown = (keeps_followed _ _ quiet_order (quiet_created_shown d p.0) (quiet_tell d entering_editor)).law v in
        subst (λ (os : List Entry). Stands os (dbref_of p.0)) (sym shown.objects) (made_there name a.user a.player (first_level a.user w) w p e)
    at w (Err fault) e = tt

-- where the arguments are what the command wants
abbrev Fitting : Shape → Arguments → Play → Type 0
Fitting shape args f = Keeps (λ (w : Live) (y : Live × Outcome). are_fit shape args w ≡ true → NamesNow y) f

fits_so : (shape : Shape) (args : Arguments) (f : Play) → Naming f → Fitting shape args f
fits_so shape args f p = keeps_more f (λ w y h e. h) p

pub so_there : (x : Dbref) (w : Live) → is_program_there x w ≡ true → Stands w.objects x
unfolding is_object_so
so_there x w = at (object_at x w.objects)
  where
    at : (q : Option Object) → option_map_or (λ (o : Object). is_program o.kind) q false ≡ true → is_some q ≡ true
    at None h = absurd cc
    at (Some o) h = refl

names_build : (d : ℕ) (a : Actor) (line : List ℕ) (command : BuildWord) (args : Arguments) → Fitting (build_shape command) args (build_done d a line command args)
unfolding build_done program_made program_edited program_listed program_run ended tell unchanged
names_build d a line Program args = fits_so (build_shape Program) args _ (search (plainly, names_new))
names_build d a line EditWord args =
    keeps_asked _ _ _ _ (λ denial. fits_so (build_shape EditWord) args _ (names_done _)) (record { law = λ w h. so_there args.first.object w (and_parts _ _ h).0 })
names_build d a line Run args =
    keeps_asked _ _ _ _ (λ denial. fits_so (build_shape Run) args _ (names_done _)) (record { law = λ w h. so_there args.first.object w (and_parts _ _ h).0 })
names_build d a line command args = fits_so (build_shape command) args _ (search plainly)

names_over : (d : ℕ) (text : List ℕ) → Naming (command_over d text)
names_over d text = names_done _

module _ (d : ℕ) (a : Actor) where
  names_meant : (want : Want) (text : List ℕ) (go : Dbref → Play) → ((x : Dbref) → Naming (go x)) → Naming (part_meant d a want text go)
  unfolding name_judged object_sought
  names_meant Nothing text go p = p _
  names_meant Text text go p = p _
  names_meant NewName text go p = keeps_either _ _ _ (p _) (names_over d _)
  names_meant Player text go p = keeps_finding_player (command_over d) text go (names_over d) p
  names_meant want text go p = keeps_either _ _ _ (p _) (keeps_finding (command_over d) a.player text go (names_over d) p)

  names_fit : (shape : Shape) (args : Arguments) (go : Arguments → Play) → Fitting shape args (go args) → Naming (with_fit d shape args go)
  unfolding with_fit where_so reading either
  names_fit shape args go p = record { law = λ w. cond_both (are_fit shape args w) _ _ NamesNow (λ e. p.law w e) (λ e. (names_over d _).law w) }

  names_arguments : (word : List ℕ) (shape : Shape) (text : List ℕ) (go : Arguments → Play) → ((args : Arguments) → Fitting shape args (go args)) → Naming (with_arguments d a word shape text go)
  unfolding with_arguments with_parts incomplete
  names_arguments word shape text go p =
      keeps_either _ _ _ (names_meant shape.first _ _ (λ x. names_meant shape.second _ _ (λ y. names_fit shape _ go (p _)))) (names_over d _)

  names_command : {C : Type 0} (shape_of : C → Shape) (go : C → Arguments → Play) (word text : List ℕ) (found : Option C) → ((command : C) (args : Arguments) → Fitting (shape_of command) args (go command args)) →
      Naming (with_command_word shape_of go d a word text found)
  names_command shape_of go word text None p = names_not _
  names_command shape_of go word text (Some command) p = names_arguments word (shape_of command) text (go command) (p command)

  names_table : {C : Type 0} (rows : List (List ℕ × C)) (shape_of : C → Shape) (go : C → Arguments → Play) (line : List ℕ) → ((command : C) (args : Arguments) → Fitting (shape_of command) args (go command args)) →
      Naming (by_table rows shape_of go d a line)
  unfolding by_table
  names_table rows shape_of go line p = names_command shape_of go _ _ _ p

  played_fits : (typed : Typed) (command : PlayWord) (args : Arguments) → Fitting (play_shape command) args (play_done d a typed command args)
  played_fits typed command args = fits_so (play_shape command) args _ (names_play d a typed command args)

  names_signed : (command : PlayWord) (word text : List ℕ) → Naming (said_by_sign d a command word text)
  unfolding said_by_sign
  names_signed command word text = names_arguments word (play_shape command) text _ (λ args. fits_so (play_shape command) args _ (names_play d a _ command args))

  names_line : (line : List ℕ) → Naming (play_line d a line)
  unfolding play_line
  names_line [] = names_not _
  names_line (b ∷ line) =
      cond_both (b == 34) _ _ Naming (λ e. names_signed Say (codes "say") _)
      (λ e. cond_both (b == 58) _ _ Naming (λ f. names_signed Pose (codes "pose") _) (λ f. names_table _ _ _ (b ∷ line) (λ command args. played_fits _ command args)))

  names_building : (line : List ℕ) → Naming (build_line d a line)
  unfolding build_line
  names_building line = names_table _ _ _ line (names_build d a line)

-- the second does what the first leaves to it
names_next : (g : Play) → Naming g → (v : Live) (outcome : Outcome) → Names v outcome → NamesNow (or_next g (v, outcome))
names_next g p v NotMine h = p.law v
names_next g p v outcome h = h

pub names_or : (f g : Play) → Naming f → Naming g → Naming (play_or_else f g)
unfolding play_or_else
names_or f g p q = record { law = λ w. names_next g q (f w).0 (f w).1 (p.law w) }

names_commanded : (d : ℕ) (a : Actor) (line : List ℕ) → Naming (commanded d a line)
unfolding commanded
names_commanded d a line = names_or (play_line d a line) (build_line d a line) (names_line d a line) (names_building d a line)

names_through : (d : ℕ) (a : Actor) (line : List ℕ) (hit : Option ExitHit) → Naming (through d a line hit)
names_through d a line (Some hit) = names_walked d a hit line
names_through d a line None = names_commanded d a line

pub names_played : (d : ℕ) (a : Actor) (line : List ℕ) → Naming (played d a line)
unfolding played
names_played d a line = cond_both (begins_with_sign line) _ _ Naming (λ e. names_commanded d a line) (λ e. keeps_reading _ (through d a line) (names_through d a line))
