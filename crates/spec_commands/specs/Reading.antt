-- How a line is read: its command by a table of words, and what stands behind the word as the arguments of that command.
use Rattle.std.specs.Prelude.{ℕ, Bool, true, false, not, ◌&&◌, ◌||◌, ◌==◌, if◌then◌else◌, List, [], ◌∷◌, map, Option, Some, None}
use Rattle.std.specs.List.{list_any, before_first, after_first}
use Rattle.std.specs.Char.{to_ascii_lowercase}
use Rattle.muck_model.specs.declared.dbref.Dbref.{Dbref}
use Rattle.spec_live.specs.Objects.{nothing}
use Rattle.spec_live.specs.Lives.{Live, Change, either, unchanged, tell}
use Rattle.spec_rights.specs.declared.act.Actor.{Actor}
use Rattle.spec_commands.specs.declared.outcome.Outcome.TheVariants.{Done, NotMine}
use Rattle.spec_commands.specs.declared.shape.Form.{Form}
use Rattle.spec_commands.specs.declared.shape.Form.TheVariants.{Any, One, Two, Full, OneOrFull}
use Rattle.spec_commands.specs.declared.shape.Want.{Want}
use Rattle.spec_commands.specs.declared.shape.Want.TheVariants.{Nothing, Text, NewName, Found, Object, Player, Program}
use Rattle.spec_commands.specs.declared.shape.Shape.{Shape}
use Rattle.spec_commands.specs.declared.shape.Argument.{Argument}
use Rattle.spec_commands.specs.declared.shape.Arguments.{Arguments}
use Rattle.spec_commands.specs.Texts.{first_word, other_words, trimmed, is_alike}
use Rattle.spec_commands.specs.Replies.{usage, bad_name, cant_be_done}
use Rattle.spec_commands.specs.Finding.{finding, finding_player, where_so, is_object}
use Rattle.spec_commands.specs.Going.{Play, ended, is_program_there}
use Rattle.spec_commands.specs.Building.{is_name}
use Rattle.spec_commands.specs.Programming.{command_over}

-- the command of a word in a table, without regard to case
abbrev pub looked_up : {C : Type 0} → List (List ℕ × C) → List ℕ → Option C
looked_up [] word = None
looked_up (row ∷ rows) word = if is_alike word row.0 then Some row.1 else looked_up rows word

-- The parts of a text.

abbrev pub is_empty : List ℕ → Bool
is_empty [] = true
is_empty (b ∷ text) = false

abbrev pub is_equals : ℕ → Bool
is_equals b = b == 61

-- what stands before the first `=`, and what stands after it
abbrev pub left_part : List ℕ → List ℕ
left_part text = trimmed (before_first is_equals text)

abbrev pub right_part : List ℕ → List ℕ
right_part text = trimmed (after_first is_equals text)

abbrev pub has_equals : List ℕ → Bool
has_equals text = list_any is_equals text

-- there is an `=`, and something stands before it; and something stands behind it too
abbrev pub has_two : List ℕ → Bool
has_two text = has_equals text && not (is_empty (left_part text))

abbrev pub has_full : List ℕ → Bool
has_full text = has_two text && not (is_empty (right_part text))

-- no part is missing
abbrev pub has_all_parts : Form → List ℕ → Bool
has_all_parts Any text = true
has_all_parts One text = not (is_empty text)
has_all_parts Two text = has_two text
has_all_parts Full text = has_full text
has_all_parts OneOrFull text = if has_equals text then has_full text else not (is_empty text)

-- the parts; where there is one alone, the second is empty
abbrev pub left_in : Form → List ℕ → List ℕ
left_in Any text = text
left_in One text = text
left_in Two text = left_part text
left_in Full text = left_part text
left_in OneOrFull text = if has_equals text then left_part text else text

abbrev pub right_in : Form → List ℕ → List ℕ
right_in Any text = []
right_in One text = []
right_in Two text = right_part text
right_in Full text = right_part text
right_in OneOrFull text = if has_equals text then right_part text else []

-- a part is missing: the word is told in lower case
unfoldable pub incomplete : ℕ → List ℕ → Change
incomplete d word = tell d (usage (map to_ascii_lowercase word))

-- The arguments of a command.

-- how a command takes the text behind its word
abbrev pub shaped : Form → Want → Want → Shape
shaped form first second = record { form = form; first = first; second = second }

-- nothing is to be found
abbrev pub unsought : (Dbref → Play) → Play
unsought go = go nothing

-- a name that is to be given
unfoldable pub name_judged : ℕ → List ℕ → (Dbref → Play) → Play
name_judged d text go = either (is_name text) (go nothing) (command_over d bad_name)

-- what a part means is found; a part that is left out means nothing
unfoldable pub object_sought : ℕ → Actor → List ℕ → (Dbref → Play) → Play
object_sought d a text go = either (is_empty text) (go nothing) (finding (command_over d) a.player text go)

-- a part as its command wants it
abbrev pub part_meant : ℕ → Actor → Want → List ℕ → (Dbref → Play) → Play
part_meant d a Nothing text = unsought
part_meant d a Text text = unsought
part_meant d a NewName text = name_judged d text
part_meant d a Found text = object_sought d a text
part_meant d a Object text = object_sought d a text
part_meant d a Program text = object_sought d a text
part_meant d a Player text = finding_player (command_over d) text

-- what was found is of the kind that is wanted
abbrev pub is_fit : Want → Argument → Live → Bool
is_fit Nothing argument w = true
is_fit Text argument w = true
is_fit NewName argument w = true
is_fit Found argument w = true
is_fit Object argument w = is_empty argument.text || is_object argument.object w
is_fit Program argument w = is_program_there argument.object w
is_fit Player argument w = true

abbrev pub are_fit : Shape → Arguments → Live → Bool
are_fit shape arguments w = is_fit shape.first arguments.first w && is_fit shape.second arguments.second w

-- both parts, and what they mean
abbrev pub argued : List ℕ → Dbref → List ℕ → Dbref → Arguments
argued left x right y = record { first = record { text = left; object = x }; second = record { text = right; object = y } }

unfoldable pub with_fit : ℕ → Shape → Arguments → (Arguments → Play) → Play
with_fit d shape arguments go = where_so (are_fit shape arguments) (command_over d cant_be_done) (go arguments)

-- what the parts mean from left to right, and then whether it is of the kinds that are wanted
unfoldable pub with_parts : ℕ → Actor → Shape → List ℕ → List ℕ → (Arguments → Play) → Play
with_parts d a shape left right go =
    part_meant d a shape.first left (λ x. part_meant d a shape.second right (λ y. with_fit d shape (argued left x right y) go))

-- the arguments of a command with this word, out of the text behind it
unfoldable pub with_arguments : ℕ → Actor → List ℕ → Shape → List ℕ → (Arguments → Play) → Play
with_arguments d a word shape text go =
    either (has_all_parts shape.form text) (with_parts d a shape (left_in shape.form text) (right_in shape.form text) go) (ended Done (incomplete d word))

-- A line whose first word may be a command's.

abbrev pub with_command_word : {C : Type 0} → (C → Shape) → (C → Arguments → Play) → ℕ → Actor → List ℕ → List ℕ → Option C → Play
with_command_word shape_of go d a word text None = ended NotMine unchanged
with_command_word shape_of go d a word text (Some command) = with_arguments d a word (shape_of command) text (go command)

-- its command is looked up in the table, and what stands behind it are its arguments
unfoldable pub by_table : {C : Type 0} → List (List ℕ × C) → (C → Shape) → (C → Arguments → Play) → ℕ → Actor → List ℕ → Play
by_table rows shape_of go d a line =
    with_command_word shape_of go d a (first_word (trimmed line)) (trimmed (other_words (trimmed line))) (looked_up rows (first_word (trimmed line)))
