-- The grammar of a mirror's script.
use Rattle.std.specs.Prelude.{ℕ, ◌+◌, ◌-◌, ◌^◌, ◌==◌, ◌||◌, not, nat_lt, if◌then◌else◌, List, [], ◌∷◌, length, take, drop, Option, Some, None, Result, Ok, Err, codes, bytes_eq}
use Rattle.std.specs.Option.{option_map}
use Rattle.muck_model.specs.Decimal.{decimal_of}
use Rattle.muck_model.specs.Numbers.{dbref_written}
use Rattle.muck_follow.specs.declared.act.Act.{Act}
use Rattle.muck_follow.specs.declared.act.Act.TheVariants.{Nothing, Feed, Look, Examine}
use Rattle.muck_follow.specs.Lines.{lines_of}

-- a number below 2 ^ 64
abbrev pub decimal_number : List ℕ → Option ℕ
decimal_number text = decimal_of (2 ^ 64 - 1) text

abbrev pub if_positive : Option ℕ → Option ℕ
if_positive None = None
if_positive (Some n) = if nat_lt 0 n then Some n else None

-- the number of a batch: from 1 to 2 ^ 64 - 1, in decimal without sign or leading zeros
abbrev pub batch_number : List ℕ → Option ℕ
batch_number text = if_positive (decimal_number text)

-- what stands behind a word at the front of a line, where it begins with that
abbrev pub behind_word : List ℕ → List ℕ → Option (List ℕ)
behind_word word line = if nat_lt (length line) (length word) || not (bytes_eq (take (length word) line) word) then None else Some (drop (length word) line)

abbrev pub if_behind : Option (List ℕ) → (List ℕ → Option Act) → Option Act → Option Act
if_behind (Some rest) ask otherwise = ask rest
if_behind None ask otherwise = otherwise

-- the number of a batch, or of an object: `#`, a `-` or none, and 32 bits in decimal without leading zeros
abbrev pub feeding : List ℕ → Option Act
feeding rest = option_map Feed (batch_number rest)

abbrev pub looking : List ℕ → Option Act
looking rest = option_map Look (dbref_written rest)

abbrev pub examining : List ℕ → Option Act
examining rest = option_map Examine (dbref_written rest)

-- a word, a space, and what number is meant
abbrev pub mirror_act_asked : List ℕ → Option Act
mirror_act_asked line =
    if_behind (behind_word (codes "feed ") line) feeding
    (if_behind (behind_word (codes "look ") line) looking
    (if_behind (behind_word (codes "examine ") line) examining None))

-- what a line asks for, or none where it is outside the grammar; the empty line and one that begins with # ask for nothing
unfoldable pub mirror_act_of : List ℕ → Option Act
mirror_act_of [] = Some Nothing
mirror_act_of (b ∷ line) = if b == 35 then Some Nothing else mirror_act_asked (b ∷ line)

abbrev pub with_mirror_act : Option Act → ℕ → Result (List Act) ℕ → Result (List Act) ℕ
with_mirror_act None n rest = Err n
with_mirror_act (Some act) n (Ok acts) = Ok (act ∷ acts)
with_mirror_act (Some act) n (Err m) = Err m

-- what the lines ask for, or the number of the first that is outside, where the first line has the number n
abbrev pub mirror_acts_from : ℕ → List (List ℕ) → Result (List Act) ℕ
mirror_acts_from n [] = Ok []
mirror_acts_from n (line ∷ lines) = with_mirror_act (mirror_act_of line) n (mirror_acts_from (n + 1) lines)

abbrev pub mirror_acts_of : List ℕ → Result (List Act) ℕ
mirror_acts_of bytes = mirror_acts_from 1 (lines_of bytes)

-- the line n is outside too
abbrev pub mirror_refused_at : ℕ → Result (List Act) ℕ → Result (List Act) ℕ
mirror_refused_at n (Ok acts) = Err n
mirror_refused_at n (Err m) = Err m

-- the most bytes of a script
unfoldable pub script_most : ℕ
script_most = 16777216

-- the bytes up to the first that is too many, and with it
abbrev pub read_part : List ℕ → List ℕ
read_part bytes = take (script_most + 1) bytes

-- A whole script. Where it is too long it is read up to the first byte that is too many, and the line of that byte, the
-- last that is read, is outside.
abbrev pub mirror_script_of : List ℕ → Result (List Act) ℕ
mirror_script_of bytes =
    if nat_lt script_most (length bytes)
    then mirror_refused_at (length (lines_of (read_part bytes))) (mirror_acts_of (read_part bytes))
    else mirror_acts_of bytes
