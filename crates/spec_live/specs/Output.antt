-- What waits to be sent to a connection.
use Rattle.std.specs.Prelude.{ℕ, ◌+◌, ◌-◌, ◌==◌, Bool, true, false, nat_lt, nat_le, if◌then◌else◌, List, [], ◌∷◌, ◌++◌, length, take, drop, codes}
use Rattle.std.specs.List.{slice_split, flat_map}
use Rattle.muck_model.specs.Bytes.{text_most}

-- The rest of a line that was taken in part; whether the notice of lost lines stands behind it; and then whole lines.
pub record Output : Type 0 where
  pub rest : List ℕ
  pub flushed : Bool
  pub lines : List (List ℕ)

abbrev pub no_output : Output
no_output = record { rest = []; flushed = false; lines = [] }

-- a line as it is sent, with its end
abbrev pub sent_form : List ℕ → List ℕ
sent_form line = line ++ 13 ∷ 10 ∷ []

unfoldable pub notice : List ℕ
notice = codes "<Output Flushed>" ++ 13 ∷ 10 ∷ []

abbrev pub notice_of : Bool → List ℕ
notice_of flushed = if flushed then notice else []

-- the bytes of whole lines
unfoldable pub sent_lines_bytes : List (List ℕ) → List ℕ
sent_lines_bytes lines = flat_map sent_form lines

-- the bytes that are sent, in order
unfoldable pub bytes_of : Output → List ℕ
bytes_of o = o.rest ++ (notice_of o.flushed ++ sent_lines_bytes o.lines)

-- Sending.

abbrev pub is_return : ℕ → Bool
is_return b = b == 13

-- a text is cut to the bound of a text, and each piece between bytes 13 is a line of its own
unfoldable pub sent_lines : List ℕ → List (List ℕ)
sent_lines text = slice_split is_return (take text_most text)

-- the most bytes that wait to be sent to a connection; the notice isn't counted
unfoldable pub queue_most : ℕ
queue_most = 131072

-- the newest of the lines, as many as have at most so many bytes
unfoldable pub newest : ℕ → List (List ℕ) → List (List ℕ)
newest room [] = []
newest room (line ∷ lines) = if nat_le (length (sent_lines_bytes (line ∷ lines))) room then line ∷ lines else newest room lines

-- how many bytes of whole lines leave room for this line
abbrev pub room_for : List ℕ → Output → ℕ
room_for line o = queue_most - (length o.rest + length (sent_form line))

-- With a line more. Where it doesn't fit, the oldest whole lines go until it does, and the notice stands.
unfoldable pub line_sent : List ℕ → Output → Output
line_sent line o =
    if nat_le (length (sent_lines_bytes o.lines)) (room_for line o)
    then record o { lines = o.lines ++ line ∷ [] }
    else record o { flushed = true; lines = newest (room_for line o) o.lines ++ line ∷ [] }

unfoldable pub lines_sent : List (List ℕ) → Output → Output
lines_sent [] o = o
lines_sent (line ∷ lines) o = lines_sent lines (line_sent line o)

-- with a text more
unfoldable pub text_sent : List ℕ → Output → Output
text_sent text o = lines_sent (sent_lines text) o

-- Taking.

-- whole lines without their first n bytes
unfoldable pub lines_taken : ℕ → List (List ℕ) → Output
lines_taken n [] = no_output
lines_taken n (line ∷ lines) =
    if n == 0 then record { rest = []; flushed = false; lines = line ∷ lines }
    else (if nat_le (length (sent_form line)) n
    then lines_taken (n - length (sent_form line)) lines
    else record { rest = drop n (sent_form line); flushed = false; lines = lines })

-- the notice and whole lines without their first n bytes; a notice that was taken in part doesn't stand any more
unfoldable pub notice_taken : ℕ → List (List ℕ) → Output
notice_taken n lines =
    if n == 0 then record { rest = []; flushed = true; lines = lines }
    else (if nat_le (length notice) n
    then lines_taken (n - length notice) lines
    else record { rest = drop n notice; flushed = false; lines = lines })

-- without the first n bytes
unfoldable pub output_taken : ℕ → Output → Output
output_taken n o =
    if nat_lt n (length o.rest) then record o { rest = drop n o.rest }
    else (if o.flushed then notice_taken (n - length o.rest) o.lines else lines_taken (n - length o.rest) o.lines)
