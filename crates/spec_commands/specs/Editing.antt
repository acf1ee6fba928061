-- What a line does in the editor of programs.
use Rattle.std.specs.Prelude.{◌≡◌, ℕ, ◌+◌, ◌-◌, ◌≤◌, ◌==◌, Bool, true, ◌&&◌, nat_lt, nat_le, bytes_eq, if◌then◌else◌, List, length, insert, slice_range, codes, Option, Some, None, IfSome}
use Rattle.std.specs.Option.{option_map_or, option_and_then}
use Rattle.std.specs.List.{remove_range}
use Rattle.std.specs.Cmp.Lexicographic.{pointwise}
use Rattle.muck_model.specs.declared.dbref.Dbref.{Dbref}
pub use Rattle.muck_model.specs.Bytes.{lines_most}
use Rattle.muck_model.specs.declared.edit.EditState.{EditState}
use Rattle.muck_model.specs.Decimal.{decimal_of}
use Rattle.spec_live.specs.Lives.{Live, Change, ◌▸◌, unchanged, tell}
use Rattle.spec_rights.specs.declared.act.Actor.{Actor}
use Rattle.spec_rights.specs.declared.act.Act.TheVariants.{Edit}
use Rattle.spec_rights.specs.Asking.{asked, refused}
use Rattle.spec_rights.specs.Changing.{lines_kept}
use Rattle.spec_commands.specs.declared.edit.EditCommand.{EditCommand}
use Rattle.spec_commands.specs.declared.edit.EditCommand.TheVariants.{Insert, Delete, Show, Compile, Quit}
use Rattle.spec_commands.specs.declared.edit.EditStep.{EditStep}
use Rattle.spec_commands.specs.declared.edit.EditStep.TheVariants.{Stay, Compile as ToCompile, Left}
use Rattle.spec_commands.specs.Texts.{first_word, other_words, trimmed, is_alike}
use Rattle.spec_commands.specs.Finding.{where_so}
use Rattle.spec_commands.specs.Going.{is_program_there}
use Rattle.spec_commands.specs.Programming.{source_of, lines_shown}
use Rattle.spec_commands.specs.Reading.{is_empty}

-- Replies.

unfoldable pub entering_reply : List ℕ
entering_reply = codes "Entering insert mode."

unfoldable pub exiting : List ℕ
exiting = codes "Exiting insert mode."

unfoldable pub deleted_reply : List ℕ
deleted_reply = codes "Deleted."

unfoldable pub editor_exited : List ℕ
editor_exited = codes "Editor exited."

unfoldable pub illegal : List ℕ
illegal = codes "Illegal editor command."

-- Commands, where there are so many lines.

-- the number of a line, from 1 to the count
unfoldable pub line_number : ℕ → List ℕ → Option ℕ
line_number count word = option_and_then (λ n. if n == 0 then None else Some n) (decimal_of count word)

-- a word alone
unfoldable pub plain_command : ℕ → List ℕ → Option EditCommand
plain_command count word =
    if is_alike word (codes "i") then Some (Insert count)
    else if is_alike word (codes "l") then Some (Show 0 count)
    else if is_alike word (codes "c") then Some Compile
    else if is_alike word (codes "q") then Some Quit
    else None

-- a word behind the number of a line
unfoldable pub line_command : ℕ → List ℕ → Option EditCommand
line_command n word =
    if is_alike word (codes "i") then Some (Insert (n - 1))
    else if is_alike word (codes "d") then Some (Delete (n - 1) n)
    else None

-- a word behind the numbers of two lines, from the first to the last
unfoldable pub lines_command : ℕ → ℕ → List ℕ → Option EditCommand
lines_command first last word =
    if nat_lt last first then None
    else if is_alike word (codes "d") then Some (Delete (first - 1) last)
    else if is_alike word (codes "l") then Some (Show (first - 1) last)
    else None

abbrev pub one_line : ℕ → List ℕ → List ℕ → Option EditCommand
one_line count number word = option_and_then (λ n. line_command n word) (line_number count number)

abbrev pub two_lines : ℕ → List ℕ → List ℕ → List ℕ → Option EditCommand
two_lines count from to word = option_and_then (λ first. option_and_then (λ last. lines_command first last word) (line_number count to)) (line_number count from)

-- what a line asks
unfoldable pub edit_command : ℕ → List ℕ → Option EditCommand
edit_command count line =
    let text = trimmed line in
    let others = trimmed (other_words text) in
    let last = trimmed (other_words others) in
    if is_empty others then plain_command count text
    else if is_empty last then one_line count (first_word text) others
    else two_lines count (first_word text) (first_word others) last

-- Lines.

-- what a line does: the world after it, the state of the editor, and what follows
abbrev pub Editing : Type 0
Editing = Live → Live × EditState × EditStep

unfoldable pub editing_stepped : EditStep → EditState → Change → Editing
editing_stepped step s f w = (f w, s, step)

abbrev pub with_line : ℕ → List ℕ → EditState → EditState
with_line at line s = record s { lines = insert s.lines at line; inserting = Some (at + 1) }

-- while lines are inserted each is one of the source, up to a `.`
unfoldable pub line_inserted : ℕ → EditState → ℕ → List ℕ → Editing
line_inserted d s at line =
    if bytes_eq line (codes ".") then editing_stepped Stay (record s { inserting = None }) (tell d exiting)
    else if nat_lt (length s.lines) lines_most then editing_stepped Stay (with_line at line s) unchanged
    else editing_stepped Stay s (tell d illegal)

-- two sources are the same
abbrev pub same_lines : List (List ℕ) → List (List ℕ) → Bool
same_lines = pointwise bytes_eq

-- these lines are the source of a program from now on; where they are it already, nothing changes
unfoldable pub source_kept : Dbref → List (List ℕ) → Change
source_kept program lines = where_so (λ w. same_lines (source_of program w) lines) (lines_kept program lines) unchanged

unfoldable pub edit_done : ℕ → Actor → EditState → EditCommand → Editing
edit_done d a s (Insert at) = editing_stepped Stay (record s { inserting = Some at }) (tell d entering_reply)
edit_done d a s (Delete from to) = editing_stepped Stay (record s { lines = remove_range s.lines from to }) (tell d deleted_reply)
edit_done d a s (Show from to) = editing_stepped Stay s (lines_shown d (slice_range s.lines from to))
edit_done d a s Compile = asked a (Edit s.program) (λ denial. editing_stepped Stay s (refused d denial)) (editing_stepped ToCompile s (source_kept s.program s.lines))
edit_done d a s Quit = asked a (Edit s.program) (λ denial. editing_stepped Left s (refused d denial ▸ tell d editor_exited)) (editing_stepped Left s (source_kept s.program s.lines ▸ tell d editor_exited))

abbrev pub edit_some : ℕ → Actor → EditState → Option EditCommand → Editing
edit_some d a s None = editing_stepped Stay s (tell d illegal)
edit_some d a s (Some command) = edit_done d a s command

abbrev pub edited_at : ℕ → Actor → EditState → List ℕ → Option ℕ → Editing
edited_at d a s line (Some at) = line_inserted d s at line
edited_at d a s line None = edit_some d a s (edit_command (length s.lines) line)

-- a line that comes from the connection d to the editor of an actor
unfoldable pub edited_by_line : ℕ → Actor → EditState → List ℕ → Editing
edited_by_line d a s line = edited_at d a s line s.inserting

-- An editor that is open: its program is there, its lines are not too many, and lines are inserted between them.
pub record IsOpen (s : EditState) (w : Live) : Type 0 where
  pub program : is_program_there s.program w ≡ true
  pub few : length s.lines ≤ lines_most
  pub within : IfSome s.inserting (λ at. at ≤ length s.lines)

-- the same, as it is asked

-- lines are inserted between the lines, where they are
abbrev pub inserts_between : EditState → Bool
inserts_between s = option_map_or (λ at. nat_le at (length s.lines)) s.inserting true

abbrev pub is_editor_open : EditState → Live → Bool
is_editor_open s w = is_program_there s.program w && (nat_le (length s.lines) lines_most && inserts_between s)
