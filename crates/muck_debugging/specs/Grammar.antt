-- The grammar of a script of `debug`: that of a script of `run`, and four lines more.
use Rattle.std.specs.Prelude.{ℕ, ◌+◌, nat_lt, true, false, if◌then◌else◌, List, [], ◌∷◌, length, Option, Some, None, Result, Ok, Err, codes}
use Rattle.std.specs.Option.{option_map}
use Rattle.std.specs.Str.{bytes_eq}
use Rattle.muck_model.specs.Bytes.{lines_most}
use Rattle.muck_model.specs.Decimal.{decimal_of}
use Rattle.muck_model.specs.Numbers.{dbref_written}
use Rattle.muck_model.specs.declared.dbref.Dbref.{Dbref}
use Rattle.spec_commands.specs.Texts.{first_word, other_words}
use Rattle.muck_script.specs.Lines.{lines_of}
use Rattle.muck_script.specs.Script.{act_of, if_positive, script_most, read_part}
use Rattle.muck_debugging.specs.declared.act.DebugAct.{DebugAct}
use Rattle.muck_debugging.specs.declared.act.DebugAct.TheVariants.{Plain, Break, Clear, Trace}

-- the number of a line of a program, from 1
abbrev pub program_line_number : List ℕ → Option ℕ
program_line_number text = if_positive (decimal_of lines_most text)

-- what is asked of this line of this program
abbrev pub asked_at_line : (Dbref → ℕ → DebugAct) → Option Dbref → Option ℕ → Option DebugAct
asked_at_line asks (Some program) (Some line) = Some (asks program line)
asked_at_line asks program line = None

-- `#N`, one space, and the number of a line
abbrev pub at_line : (Dbref → ℕ → DebugAct) → List ℕ → Option DebugAct
at_line asks text = asked_at_line asks (dbref_written (first_word text)) (program_line_number (other_words text))

-- what a line asks for, or none where it is outside the grammar
unfoldable pub debug_act_of : List ℕ → Option DebugAct
debug_act_of line =
    if bytes_eq line (codes "trace on") then Some (Trace true)
    else if bytes_eq line (codes "trace off") then Some (Trace false)
    else if bytes_eq (first_word line) (codes "break") then at_line Break (other_words line)
    else if bytes_eq (first_word line) (codes "clear") then at_line Clear (other_words line)
    else option_map Plain (act_of line)

abbrev pub with_debug_act : Option DebugAct → ℕ → Result (List DebugAct) ℕ → Result (List DebugAct) ℕ
with_debug_act None n rest = Err n
with_debug_act (Some act) n (Ok acts) = Ok (act ∷ acts)
with_debug_act (Some act) n (Err m) = Err m

-- what the lines ask for, or the number of the first that is outside, where the first line has the number n
abbrev pub debug_acts_from : ℕ → List (List ℕ) → Result (List DebugAct) ℕ
debug_acts_from n [] = Ok []
debug_acts_from n (line ∷ lines) = with_debug_act (debug_act_of line) n (debug_acts_from (n + 1) lines)

abbrev pub debug_acts_of : List ℕ → Result (List DebugAct) ℕ
debug_acts_of bytes = debug_acts_from 1 (lines_of bytes)

-- the line n is outside too
abbrev pub debug_refused_at : ℕ → Result (List DebugAct) ℕ → Result (List DebugAct) ℕ
debug_refused_at n (Ok acts) = Err n
debug_refused_at n (Err m) = Err m

-- A whole script. Where it is too long it is read up to the first byte that is too many, and the line of that byte, the
-- last that is read, is outside.
abbrev pub debug_script_of : List ℕ → Result (List DebugAct) ℕ
debug_script_of bytes =
    if nat_lt script_most (length bytes)
    then debug_refused_at (length (lines_of (read_part bytes))) (debug_acts_of (read_part bytes))
    else debug_acts_of bytes
