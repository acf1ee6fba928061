-- A line of a player.
use Rattle.std.specs.Prelude.{ℕ, Bool, false, true, ◌||◌, ◌==◌, if◌then◌else◌, List, [], ◌∷◌, ◌++◌, map, codes, Option, Some, None}
use Rattle.muck_match.specs.declared.exits.ExitHit.{ExitHit}
use Rattle.muck_match.specs.Exits.{exit_for}
use Rattle.spec_live.specs.Objects.{dbref_of, nothing}
use Rattle.spec_live.specs.Seen.{scenery_of}
use Rattle.spec_live.specs.Lives.{Live, reading, either, unchanged, tell}
use Rattle.spec_rights.specs.declared.act.Actor.{Actor}
use Rattle.spec_commands.specs.declared.outcome.Outcome.{Outcome}
use Rattle.spec_commands.specs.declared.outcome.Outcome.TheVariants.{Done, Said, NotMine, Leave}
use Rattle.spec_commands.specs.declared.typed.Typed.{Typed}
use Rattle.spec_commands.specs.declared.new.New.TheVariants.{Room as RoomNew, Exit as ExitNew}
use Rattle.spec_commands.specs.declared.shape.Form.TheVariants.{Any, One, Two, Full, OneOrFull}
use Rattle.spec_commands.specs.declared.shape.Want.TheVariants.{Nothing, Text, NewName, Found, Object, Player, Program as ProgramWant}
use Rattle.spec_commands.specs.declared.shape.Shape.{Shape}
use Rattle.spec_commands.specs.declared.shape.Arguments.{Arguments}
use Rattle.spec_commands.specs.declared.word.PlayWord.{PlayWord}
use Rattle.spec_commands.specs.declared.word.PlayWord.TheVariants.{Look, Say, Pose, Page, Whisper, Go, Get, Drop, Inventory, Home, Examine, Who, Quit}
use Rattle.spec_live.specs.declared.message.Message.{Message}
use Rattle.spec_live.specs.Messages.{row_of, messages}
use Rattle.spec_commands.specs.declared.word.BuildWord.{BuildWord}
use Rattle.spec_commands.specs.declared.word.BuildWord.TheVariants.{Dig, Create, Open, Action, Link, Unlink, Name, Set, Lock, Unlock, Teleport, Recycle, Chown, Assign, Find, Program, Edit, List as ListWord, Run}
use Rattle.spec_commands.specs.Texts.{first_word, other_words, trimmed}
use Rattle.spec_commands.specs.Replies.{goodbye, set_reply, unlocked_reply}
pub use Rattle.spec_commands.specs.Messages.{message_name}
use Rattle.spec_commands.specs.Finding.{place_looked_at, look_shown, thing_examined}
use Rattle.spec_commands.specs.Talking.{said, posed, paged, whispered, who_shown}
use Rattle.spec_commands.specs.Going.{Play, ended, gone_home, exit_walked, player_went, thing_taken, dropped, inventory_shown}
use Rattle.spec_commands.specs.Building.{object_made, thing_made, exit_opened, link_set, link_cleared, name_set, text_kept, lock_set, teleported, recycled_by_command, chowned, find_shown}
use Rattle.spec_commands.specs.Settings.{assigned}
use Rattle.spec_commands.specs.Programming.{program_made, program_edited, program_listed, program_run}
use Rattle.spec_commands.specs.Reading.{is_empty, shaped, with_arguments, by_table}

-- What players do.

unfoldable pub play_words : List (List ℕ × PlayWord)
play_words =
    (codes "say", Say) ∷
    (codes "pose", Pose) ∷
    (codes "page", Page) ∷
    (codes "whisper", Whisper) ∷
    (codes "WHO", Who) ∷
    (codes "QUIT", Quit) ∷
    (codes "look", Look) ∷
    (codes "l", Look) ∷
    (codes "read", Look) ∷
    (codes "examine", Examine) ∷
    (codes "inventory", Inventory) ∷
    (codes "i", Inventory) ∷
    (codes "go", Go) ∷
    (codes "move", Go) ∷
    (codes "home", Home) ∷
    (codes "get", Get) ∷
    (codes "take", Get) ∷
    (codes "drop", Drop) ∷
    []

-- how each takes the text behind its word
abbrev pub play_shape : PlayWord → Shape
play_shape Look = shaped Any Object Nothing
play_shape Say = shaped One Text Nothing
play_shape Pose = shaped One Text Nothing
play_shape Page = shaped Two Player Text
play_shape Whisper = shaped Two Found Text
play_shape Go = shaped One Text Nothing
play_shape Get = shaped One Found Nothing
play_shape Drop = shaped One Found Nothing
play_shape Inventory = shaped Any Nothing Nothing
play_shape Home = shaped Any Nothing Nothing
play_shape Examine = shaped One Object Nothing
play_shape Who = shaped Any Nothing Nothing
play_shape Quit = shaped Any Nothing Nothing

-- the first word of a line, and what stands behind it
abbrev pub line_typed : List ℕ → Typed
line_typed line = record { word = first_word (trimmed line); rest = trimmed (other_words (trimmed line)) }

-- what each does
unfoldable pub play_done : ℕ → Actor → Typed → PlayWord → Arguments → Play
play_done d a typed Look args = ended Done (either (is_empty args.first.text) (place_looked_at d a typed) (look_shown d a typed args.first.object))
play_done d a typed Say args = ended (Said false args.first.text) (said d a.player args.first.text)
play_done d a typed Pose args = ended (Said true args.first.text) (posed d a.player args.first.text)
play_done d a typed Page args = ended Done (paged d a.player args.first.object args.second.text)
play_done d a typed Whisper args = ended Done (whispered d a.player args.first.object args.second.text)
play_done d a typed Go args = player_went d a args.first.text
play_done d a typed Get args = ended Done (thing_taken d a typed args.first.object)
play_done d a typed Drop args = ended Done (dropped d a typed args.first.object)
play_done d a typed Inventory args = ended Done (inventory_shown d a.player)
play_done d a typed Home args = ended Done (gone_home d a typed)
play_done d a typed Examine args = ended Done (thing_examined d a args.first.object)
play_done d a typed Who args = ended Done (who_shown d)
play_done d a typed Quit args = ended Leave (tell d goodbye)

-- what stands behind a sign is said or posed, as behind the word
unfoldable pub said_by_sign : ℕ → Actor → PlayWord → List ℕ → List ℕ → Play
said_by_sign d a command word text = with_arguments d a word (play_shape command) text (play_done d a (record { word = word; rest = text }) command)

-- a line as cmd_play does it; `"` says and `:` poses what stands behind
unfoldable pub play_line : ℕ → Actor → List ℕ → Play
play_line d a [] = ended NotMine unchanged
play_line d a (b ∷ line) =
    if b == 34 then said_by_sign d a Say (codes "say") (trimmed line)
    else if b == 58 then said_by_sign d a Pose (codes "pose") (trimmed line)
    else by_table play_words play_shape (play_done d a (line_typed (b ∷ line))) d a (b ∷ line)

-- What builders do.

-- but for messages
unfoldable pub build_own : List (List ℕ × BuildWord)
build_own =
    (codes "@dig", Dig) ∷
    (codes "@create", Create) ∷
    (codes "@open", Open) ∷
    (codes "@action", Action) ∷
    (codes "@link", Link) ∷
    (codes "@unlink", Unlink) ∷
    (codes "@name", Name) ∷
    (codes "@lock", Lock) ∷
    (codes "@unlock", Unlock) ∷
    (codes "@teleport", Teleport) ∷
    (codes "@recycle", Recycle) ∷
    (codes "@chown", Chown) ∷
    (codes "@set", Assign) ∷
    (codes "@find", Find) ∷
    (codes "@program", Program) ∷
    (codes "@edit", Edit) ∷
    (codes "@list", ListWord) ∷
    (codes "@run", Run) ∷
    []

-- the word of a message sets it
abbrev pub set_word : Message → List ℕ × BuildWord
set_word m = ((row_of m).word, Set m)

unfoldable pub build_words : List (List ℕ × BuildWord)
build_words = build_own ++ map set_word messages

-- how each takes the text behind its word
abbrev pub build_shape : BuildWord → Shape
build_shape Dig = shaped One NewName Nothing
build_shape Create = shaped One NewName Nothing
build_shape Open = shaped OneOrFull NewName Found
build_shape Action = shaped Full NewName Object
build_shape Link = shaped Full Found Found
build_shape Unlink = shaped One Found Nothing
build_shape Name = shaped Two Object NewName
build_shape (Set message) = shaped Two Object Text
build_shape Lock = shaped Two Object Text
build_shape Unlock = shaped One Object Nothing
build_shape Teleport = shaped Full Object Found
build_shape Recycle = shaped One Object Nothing
build_shape Chown = shaped Full Object Player
build_shape Assign = shaped Full Object Text
build_shape Find = shaped One Text Nothing
build_shape Program = shaped One NewName Nothing
build_shape Edit = shaped One ProgramWant Nothing
build_shape ListWord = shaped One ProgramWant Nothing
build_shape Run = shaped Two ProgramWant Text

-- what each does
unfoldable pub build_done : ℕ → Actor → List ℕ → BuildWord → Arguments → Play
build_done d a line Dig args = ended Done (object_made d a RoomNew args.first.text (dbref_of 0))
build_done d a line Create args = ended Done (thing_made d a args.first.text)
build_done d a line Open args = ended Done (exit_opened d a args.first.text args.second.object)
build_done d a line Action args = ended Done (object_made d a (ExitNew nothing) args.first.text args.second.object)
build_done d a line Link args = ended Done (link_set d a args.first.object args.second.object)
build_done d a line Unlink args = ended Done (link_cleared d a args.first.object)
build_done d a line Name args = ended Done (name_set d a args.first.object args.second.text)
build_done d a line (Set message) args = ended Done (text_kept d a args.first.object (message_name message) args.second.text set_reply)
build_done d a line Lock args = ended Done (lock_set d a args.first.object args.second.text)
build_done d a line Unlock args = ended Done (text_kept d a args.first.object (codes "lok") [] unlocked_reply)
build_done d a line Teleport args = ended Done (teleported d a args.first.object args.second.object)
build_done d a line Recycle args = ended Done (recycled_by_command d a args.first.object)
build_done d a line Chown args = ended Done (chowned d a args.first.object args.second.object)
build_done d a line Assign args = ended Done (assigned d a args.first.object args.second.text)
build_done d a line Find args = ended Done (find_shown d a args.first.text)
build_done d a line Program args = program_made d a args.first.text
build_done d a line Edit args = program_edited d a args.first.object
build_done d a line ListWord args = program_listed d a args.first.object
build_done d a line Run args = program_run d a line args.first.object args.second.text

-- a line as cmd_build does it
unfoldable pub build_line : ℕ → Actor → List ℕ → Play
build_line d a line = by_table build_words build_shape (build_done d a line) d a line

-- Both.

-- where the first says that a line isn't its own, the second does it
abbrev pub or_next : Play → Live × Outcome → Live × Outcome
or_next next (w, NotMine) = next w
or_next next (w, outcome) = (w, outcome)

unfoldable pub play_or_else : Play → Play → Play
play_or_else f g w = or_next g (f w)

unfoldable pub commanded : ℕ → Actor → List ℕ → Play
commanded d a line = play_or_else (play_line d a line) (build_line d a line)

abbrev pub begins_with_sign : List ℕ → Bool
begins_with_sign [] = false
begins_with_sign (b ∷ line) = b == 34 || b == 58

abbrev pub through : ℕ → Actor → List ℕ → Option ExitHit → Play
through d a line (Some hit) = exit_walked d a hit line
through d a line None = commanded d a line

-- saying and posing come first, then exits, then commands; a line that is none of these is left to another
unfoldable pub played : ℕ → Actor → List ℕ → Play
played d a line =
    if begins_with_sign line then commanded d a line else
    reading (λ w. exit_for (scenery_of w.objects) a.player line) (through d a line)
