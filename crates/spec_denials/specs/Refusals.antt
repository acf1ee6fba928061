-- For what the commands of builders and keepers ask leave, and what comes of a line where that is denied.
use Rattle.std.specs.Prelude.{◌≡◌, ℕ, ◌&&◌, ◌||◌, Bool, if◌then◌else◌, is_some, is_none, List, option_map, Option, Some, None}
use Rattle.std.specs.Option.{option_and_then}
use Rattle.muck_model.specs.declared.dbref.Dbref.{Dbref}
use Rattle.muck_model.specs.declared.dbref.Denial.{Denial}
use Rattle.muck_match.specs.Exits.{exit_for}
use Rattle.muck_match.specs.Naming.{thing_found, player_named}
use Rattle.muck_prop.specs.Paths.{path_fault, segments_of}
use Rattle.spec_live.specs.Lives.{Live, place_at}
use Rattle.spec_live.specs.Objects.{Entry, dbref_of, nothing}
use Rattle.spec_live.specs.Seen.{scenery_of}
use Rattle.spec_rights.specs.declared.act.Actor.{Actor}
use Rattle.spec_rights.specs.declared.act.Act.{Act}
use Rattle.spec_rights.specs.declared.act.Act.TheVariants.{Write, Move, Link as LinkAct, NewRoom, NewThing, NewExit, NewProgram, Edit as EditAct, Change, Rename, Password, Wizard, Recycle as RecycleAct, SetOwner, Call}
use Rattle.spec_rights.specs.Asking.{refused}
use Rattle.spec_rights.specs.Verdict.{verdict}
use Rattle.spec_commands.specs.declared.shape.Arguments.{Arguments}
use Rattle.spec_commands.specs.declared.shape.Shape.{Shape}
use Rattle.spec_commands.specs.declared.shape.Want.{Want}
use Rattle.spec_commands.specs.declared.shape.Want.TheVariants.{Nothing, Text, NewName, Player}
use Rattle.spec_commands.specs.declared.word.BuildWord.{BuildWord}
use Rattle.spec_commands.specs.declared.word.BuildWord.TheVariants.{Dig, Create, Open, Action, Link, Unlink, Name, Set, Lock, Unlock, Teleport, Recycle, Chown, Assign, Find, Program, Edit, List as ListWord, Run}
use Rattle.spec_commands.specs.declared.word.PlayWord.{PlayWord}
use Rattle.spec_commands.specs.Building.{found_one, is_name, is_player_name, is_linkable, may_be_called}
use Rattle.spec_commands.specs.Commands.{play_words, build_words, build_shape, begins_with_sign}
use Rattle.spec_commands.specs.Finding.{actor_of}
use Rattle.spec_commands.specs.Reading.{looked_up, is_empty, has_all_parts, has_full, left_in, right_in, are_fit, argued}
use Rattle.spec_commands.specs.Settings.{setting_asked, setting_act, has_colon, path_part}
use Rattle.spec_commands.specs.Texts.{first_word, other_words, trimmed}
use Rattle.spec_admin.specs.declared.word.AdminWord.{AdminWord}
use Rattle.spec_admin.specs.declared.word.AdminWord.TheVariants.{Processes, Kill, Tune, NewPlayer, NewPassword}
use Rattle.spec_admin.specs.Lines.{admin_words, admin_shape}
use Rattle.spec_admin.specs.Players.{is_password}
use Rattle.spec_admin.specs.Processes.{ending_act, process_meant}
use Rattle.muck_queue.specs.Queues.{Queue}
use Rattle.spec_events.specs.World.{World, on_live}
use Rattle.spec_events.specs.Following.{settled}
use Rattle.spec_denials.specs.Commands.{OfLine}

-- What a line means.

-- what a part means, as its command wants it
abbrev pub meant_of : Actor → Want → List ℕ → List Entry → Option Dbref
meant_of a Nothing text es = Some nothing
meant_of a Text text es = Some nothing
meant_of a NewName text es = if is_name text then Some nothing else None
meant_of a Player text es = player_named (scenery_of es) text
meant_of a want text es = if is_empty text then Some nothing else found_one (thing_found (scenery_of es) a.player text)

abbrev pub fit_of : Shape → Arguments → Live → Option Arguments
fit_of shape args w = if are_fit shape args w then Some args else None

-- what both parts mean, where each means something of the kind that is wanted
abbrev pub parts_of : Actor → Shape → List ℕ → List ℕ → Live → Option Arguments
parts_of a shape left right w =
    option_and_then (λ x. option_and_then (λ y. fit_of shape (argued left x right y) w) (meant_of a shape.second right w.objects)) (meant_of a shape.first left w.objects)

-- the arguments of a command, out of the text behind its word
abbrev pub arguments_of : Actor → Shape → List ℕ → Live → Option Arguments
arguments_of a shape text w = if has_all_parts shape.form text then parts_of a shape (left_in shape.form text) (right_in shape.form text) w else None

-- For what each command asks leave. Where the world refuses it ahead of that, it asks for nothing.

abbrev pub where_act : Bool → Act → Option Act
where_act b act = if b then Some act else None

-- `@set`: a property, a flag or a level
abbrev pub assign_act : Dbref → List ℕ → Option Act
assign_act x text =
    if has_colon text then where_act (is_none (path_fault (path_part text))) (Write x (segments_of (path_part text))) else option_map (setting_act x) (setting_asked text)

abbrev pub build_act : BuildWord → Actor → Arguments → Live → Option Act
build_act Dig a args w = Some (NewRoom (dbref_of 0))
build_act Create a args w = Some (NewThing a.player)
build_act Open a args w = Some (NewExit (place_at a.player w) args.second.object)
build_act Action a args w = Some (NewExit args.second.object nothing)
build_act Link a args w = where_act (is_linkable args.first.object w) (LinkAct args.first.object args.second.object)
build_act Unlink a args w = where_act (is_linkable args.first.object w) (LinkAct args.first.object nothing)
build_act Name a args w = where_act (may_be_called args.first.object args.second.text w) (Rename args.first.object)
build_act (Set message) a args w = Some (Change args.first.object)
build_act Lock a args w = Some (Change args.first.object)
build_act Unlock a args w = Some (Change args.first.object)
build_act Teleport a args w = Some (Move args.first.object args.second.object)
build_act Recycle a args w = Some (RecycleAct args.first.object)
build_act Chown a args w = Some (SetOwner args.first.object args.second.object)
build_act Assign a args w = assign_act args.first.object args.second.text
build_act Find a args w = None
build_act Program a args w = Some NewProgram
build_act Edit a args w = Some (EditAct args.first.object)
build_act ListWord a args w = Some (Change args.first.object)
build_act Run a args w = Some (Call args.first.object)

abbrev pub admin_act : Queue → AdminWord → Arguments → Live → Option Act
admin_act q Processes args w = None
admin_act q Kill args w = option_map ending_act (process_meant args.first.text q)
admin_act q Tune args w = where_act (is_empty args.first.text || has_full args.first.text) Wizard
admin_act q NewPlayer args w = where_act (is_player_name w.objects args.first.text && is_password args.second.text) Wizard
admin_act q NewPassword args w = where_act (is_password args.second.text) (Password args.first.object)
admin_act q command args w = Some Wizard

-- A word is a player's, else a builder's, else a keeper's.

abbrev pub by_admin : Queue → Actor → List ℕ → Live → Option AdminWord → Option Act
by_admin q a text w None = None
by_admin q a text w (Some command) = option_and_then (λ args. admin_act q command args w) (arguments_of a (admin_shape command) text w)

abbrev pub by_build : Queue → Actor → List ℕ → List ℕ → Live → Option BuildWord → Option Act
by_build q a word text w None = by_admin q a text w (looked_up admin_words word)
by_build q a word text w (Some command) = option_and_then (λ args. build_act command a args w) (arguments_of a (build_shape command) text w)

abbrev pub by_play : Queue → Actor → List ℕ → List ℕ → Live → Option PlayWord → Option Act
by_play q a word text w None = by_build q a word text w (looked_up build_words word)
by_play q a word text w (Some command) = None

-- for what a line asks, while these are the processes; one that is spoken, or that an exit takes, asks for nothing of this
abbrev pub line_act : Queue → Actor → List ℕ → Live → Option Act
line_act q a line w =
    if begins_with_sign line then None
    else (if is_some (exit_for (scenery_of w.objects) a.player line) then None
    else by_play q a (first_word (trimmed line)) (trimmed (other_words (trimmed line))) w (looked_up play_words (first_word (trimmed line))))

abbrev pub line_verdict : Queue → Actor → List ℕ → Live → Option Denial
line_verdict q a line w = option_and_then (verdict w.objects a) (line_act q a line w)

-- What comes of it.

-- Where it is denied, its player is told by which rule, and nothing else happens.
abbrev pub Refuses : Option Denial → ℕ → World → World → Type 0
Refuses (Some denial) d w v = v ≡ settled (on_live (refused d denial) w)
Refuses None d w v = Unit {0}

abbrev pub CommandRefuses : ℕ → Dbref → List ℕ → World → World → Type 0
CommandRefuses d player line w v = Refuses (line_verdict w.queue (actor_of w.live.objects player) line w.live) d w v

abbrev pub LineRefused : ℕ → World → World → Type 0
LineRefused d w v = OfLine (CommandRefuses d) d w v
