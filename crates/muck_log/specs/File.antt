-- The grammar of a file, read byte by byte.
use Rattle.std.specs.Prelude.{◌==◌, ℕ, ◌+◌, ◌%◌, ◌^◌, Bool, false, Option, Some, None, Result, Ok, Err, List, [], ◌∷◌, ◌++◌, length, take, drop, nat_le, ◌&&◌, ◌||◌, if◌then◌else◌, option_and_then, option_map}
use Rattle.std.specs.Int.{w64, from_be_bytes}
use Rattle.muck_log.specs.Body.{Body, body_of}
use Rattle.muck_log.specs.World.{StoredWorld, start, lost, laid}
use Rattle.muck_log.specs.declared.reader.Mode.{Mode}
use Rattle.muck_log.specs.declared.reader.Mode.TheVariants.{Gate, Size, Body as InBody, Shut, Broken}

-- What the batches of a file make, so far.
pub record Held : Type 0 where
  pub generation : ℕ
  pub number : ℕ  -- of the last batch
  pub count : ℕ
  pub last : ℕ  -- the gate of the last batch
  pub world : StoredWorld

-- "one more" for numbers of batches
unfoldable pub after_number : ℕ → ℕ
after_number number = (number + 1) % 2 ^ 64

-- a batch of this generation and number may stand behind these
unfoldable pub follows : Held → ℕ → ℕ → Bool
follows held generation number = (generation == held.generation) && ((held.count == 0) || (number == after_number held.number))

-- one batch more, whose gate is at this place
unfoldable pub join : ℕ → Held → List ℕ → Option Held
join place held bytes = option_and_then (λ (b : Body). if follows held b.generation b.number
    then option_map (λ w. record { generation = held.generation; number = b.number; count = held.count + 1; last = place; world = w }) (laid b.payload held.world)
    else None) (body_of bytes)

-- A reading of a file so far.
pub record FileReading : Type 0 where
  pub place : ℕ  -- of the gate that is read next, or was read last
  pub mode : Mode  -- the part that stands next
  pub size : ℕ  -- how many bytes that part has
  pub bytes : List ℕ  -- those of it that were read
  pub held : Held

unfoldable pub gate_at : ℕ → Held → FileReading
gate_at place held = record { place = place; mode = Gate; size = 0; bytes = []; held = held }

unfoldable pub begin : ℕ → Held
begin generation = record { generation = generation; number = 0; count = 0; last = 0; world = start }

-- what is held once a batch was outside the format
unfoldable pub forgotten : Held
forgotten = record { generation = 0; number = 0; count = 0; last = 0; world = lost }

-- the length is whole
abbrev pub length_read : FileReading → ℕ → FileReading
length_read r size = if size == 0 then record r { mode = Broken; bytes = [] } else record r { mode = InBody; size = size; bytes = [] }

-- the body is whole
abbrev pub body_judged : FileReading → List ℕ → Option Held → FileReading
body_judged r bytes None = record { place = r.place; mode = Broken; size = 0; bytes = []; held = forgotten }
body_judged r bytes (Some held) = gate_at (r.place + 9 + length bytes) held

abbrev pub byte_stepped : Mode → FileReading → ℕ → FileReading
byte_stepped Gate r b = if b == 1 then record r { mode = Size; size = 8; bytes = [] } else record r { mode = Shut }
byte_stepped Size r b = let bytes = r.bytes ++ b ∷ [] in if length bytes == 8 then length_read r (from_be_bytes w64 bytes) else record r { bytes = bytes }
byte_stepped InBody r b = let bytes = r.bytes ++ b ∷ [] in if length bytes == r.size then body_judged r bytes (join r.place r.held bytes) else record r { bytes = bytes }
byte_stepped Shut r b = r
byte_stepped Broken r b = r

-- how many bytes were read, at least, where reading goes on
abbrev pub reached_in : Mode → FileReading → ℕ
reached_in Size r = r.place + 1 + length r.bytes
reached_in InBody r = r.place + 9 + length r.bytes
reached_in _ r = r.place

abbrev pub reached : FileReading → ℕ
reached r = reached_in r.mode r

-- one byte more
unfoldable pub byte_step : FileReading → ℕ → FileReading
byte_step r b = byte_stepped r.mode r b

unfoldable pub run : FileReading → List ℕ → FileReading
run r [] = r
run r (b ∷ bytes) = run (byte_step r b) bytes

-- Where reading ended, with what was read.
pub record ReadingEnd : Type 0 where
  pub place : ℕ
  pub held : Held

abbrev pub mode_end : Mode → FileReading → Result ReadingEnd ℕ
mode_end Gate r = if r.held.count == 0 then Ok (record { place = r.place; held = r.held }) else Err r.held.last  -- the next gate is missing
mode_end Size r = if length r.bytes == 0 then Ok (record { place = r.place; held = r.held }) else Err r.place  -- the gate is the last byte, so it isn't open
mode_end InBody r = Err r.place
mode_end Shut r = Ok (record { place = r.place; held = r.held })
mode_end Broken r = Err r.place

-- the end of the row of batches, or the gate of the first that is outside the format
unfoldable pub reading_end : FileReading → Result ReadingEnd ℕ
reading_end r = mode_end r.mode r

unfoldable pub is_gate_open : List ℕ → Bool
is_gate_open (gate ∷ next ∷ file) = gate == 1
is_gate_open file = false

-- the generation of an open file, where the first 25 bytes of its first body are there and parse
unfoldable pub header : List ℕ → Option ℕ
header file = if nat_le 34 (length file) && nat_le 25 (from_be_bytes w64 (take 8 (drop 1 file)))
    then option_map (λ (b : Body). b.generation) (body_of (take 25 (drop 9 file)))
    else None

-- An open file, read.
pub record Opened : Type 0 where
  pub generation : ℕ
  pub ending : Result ReadingEnd ℕ

-- a file: none where its first gate isn't open, and none in that where its header is bad
unfoldable pub file_of : List ℕ → Option (Option Opened)
file_of file = if is_gate_open file
    then Some (option_map (λ g. record { generation = g; ending = reading_end (run (gate_at 0 (begin g)) file) }) (header file))
    else None
