-- The grammar of a script.
use Rattle.std.specs.Prelude.{ℕ, ◌+◌, ◌==◌, nat_lt, if◌then◌else◌, List, [], ◌∷◌, ◌++◌, length, take, Option, Some, None, Result, Ok, Err, codes}
use Rattle.std.specs.Option.{option_map}
use Rattle.std.specs.Str.{bytes_eq}
use Rattle.std.specs.List.{list_any, slice_get}
use Rattle.muck_model.specs.Decimal.{decimal_of}
use Rattle.spec_commands.specs.Texts.{is_space, first_word, other_words}
use Rattle.muck_links.specs.Lines.{lines}
use Rattle.muck_script.specs.declared.act.Act.{Act}
use Rattle.muck_script.specs.declared.act.Act.TheVariants.{Nothing, Open, Send, Close, Wait, Dump}
use Rattle.muck_script.specs.Lines.{lines_of}

abbrev pub if_positive : Option ℕ → Option ℕ
if_positive None = None
if_positive (Some n) = if nat_lt 0 n then Some n else None

-- the number of a connection, from 1 to 256
abbrev pub connection_number : List ℕ → Option ℕ
connection_number text = if_positive (decimal_of 256 text)

-- the most seconds of a wait: a day
abbrev pub wait_most : ℕ
wait_most = 86400

abbrev pub seconds_of : List ℕ → Option ℕ
seconds_of text = decimal_of wait_most text

-- the line that comes where a link carries this text and byte 10; there is none where the text ends inside a telnet command
abbrev pub line_of : List ℕ → Option (List ℕ)
line_of text = slice_get (lines (text ++ 10 ∷ [])) 0

-- that line comes on the connection; where there is none, nothing is asked
abbrev pub sending_line : Option (List ℕ) → ℕ → Act
sending_line None d = Nothing
sending_line (Some line) d = Send d line

-- a number, one space, and the text
abbrev pub sending : List ℕ → Option Act
sending rest = if list_any is_space rest then option_map (sending_line (line_of (other_words rest))) (connection_number (first_word rest)) else None

abbrev pub act_asked : List ℕ → Option Act
act_asked line =
    if bytes_eq line (codes "dump") then Some Dump
    else if bytes_eq (first_word line) (codes "open") then option_map Open (connection_number (other_words line))
    else if bytes_eq (first_word line) (codes "send") then sending (other_words line)
    else if bytes_eq (first_word line) (codes "close") then option_map Close (connection_number (other_words line))
    else if bytes_eq (first_word line) (codes "wait") then option_map Wait (seconds_of (other_words line))
    else None

-- what a line asks for, or none where it is outside the grammar; the empty line and one that begins with # ask for nothing
unfoldable pub act_of : List ℕ → Option Act
act_of [] = Some Nothing
act_of (b ∷ line) = if b == 35 then Some Nothing else act_asked (b ∷ line)

abbrev pub with_act : Option Act → ℕ → Result (List Act) ℕ → Result (List Act) ℕ
with_act None n rest = Err n
with_act (Some act) n (Ok acts) = Ok (act ∷ acts)
with_act (Some act) n (Err m) = Err m

-- what the lines ask for, or the number of the first that is outside, where the first line has the number n
abbrev pub acts_from : ℕ → List (List ℕ) → Result (List Act) ℕ
acts_from n [] = Ok []
acts_from n (line ∷ lines) = with_act (act_of line) n (acts_from (n + 1) lines)

abbrev pub acts_of : List ℕ → Result (List Act) ℕ
acts_of bytes = acts_from 1 (lines_of bytes)

-- the line n is outside too
abbrev pub refused_at : ℕ → Result (List Act) ℕ → Result (List Act) ℕ
refused_at n (Ok acts) = Err n
refused_at n (Err m) = Err m

-- the most bytes of a script
unfoldable pub script_most : ℕ
script_most = 16777216

-- the bytes up to the first that is too many, and with it
abbrev pub read_part : List ℕ → List ℕ
read_part bytes = take (script_most + 1) bytes

-- A whole script. Where it is too long it is read up to the first byte that is too many, and the line of that byte, the
-- last that is read, is outside.
abbrev pub script_of : List ℕ → Result (List Act) ℕ
script_of bytes =
    if nat_lt script_most (length bytes)
    then refused_at (length (lines_of (read_part bytes))) (acts_of (read_part bytes))
    else acts_of bytes
