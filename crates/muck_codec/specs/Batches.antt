-- A batch: records by rising dbref, and the tune parameters.
use Rattle.std.specs.Prelude.{◌≡◌, ℕ, suc, ◌-◌, ◌≤◌, All, Bool, true, ◌==◌, List, [], ◌∷◌, ◌++◌, length, Option, Some, None, Result, Ok, Err, int_lt, if◌then◌else◌}
use Rattle.std.specs.List.{flat_map}
use Rattle.std.specs.Int.{w32, to_be_bytes}
use Rattle.muck_model.specs.Bytes.{lines_most}
use Rattle.muck_model.specs.declared.dbref.Dbref.{Dbref}
use Rattle.muck_model.specs.declared.tune.Tune.{Tune}
use Rattle.muck_model.specs.declared.tune.Parameter.{Parameter}
use Rattle.muck_model.specs.Parameters.{parameters, parameter_of, with_parameter, first_tune}
use Rattle.muck_codec.specs.declared.stored.Stored.{Stored}
use Rattle.muck_codec.specs.declared.stored.Batch.{Batch}
use Rattle.muck_codec.specs.declared.fault.CodecFault.{CodecFault}
use Rattle.muck_codec.specs.declared.fault.CodecFault.TheVariants.{BadRecord, NoMemory}
use Rattle.muck_codec.specs.Reading.{◌>>=◌, both_read, count_then_items, mapped, several, number_at}
use Rattle.muck_codec.specs.Records.{record_at}
use Rattle.muck_codec.specs.Spelling.{spelling}

-- the dbref is above the one before, if there is one
abbrev pub is_above : Option Dbref → Dbref → Bool
is_above None d = true
is_above (Some before) d = int_lt before.0 d.0

-- a record whose dbref is above the one before; one that is out of order is refused at its last byte
unfoldable pub next_record_at : ℕ → Option Dbref → List ℕ → Result (Stored × List ℕ) ℕ
next_record_at version before bytes = record_at version bytes >>= λ o. if is_above before o.0.dbref then Ok o else Err (suc (length o.1))

-- so many records, by rising dbref
abbrev pub records_at : ℕ → ℕ → List ℕ → Result (List Stored × List ℕ) ℕ
records_at version n bytes = several (λ o. o.dbref) (next_record_at version) None n bytes

-- the numbers of these parameters, one behind the other
abbrev pub parameters_at : List Parameter → Tune → List ℕ → Result (Tune × List ℕ) ℕ
parameters_at [] tune bytes = Ok (tune, bytes)
parameters_at (p ∷ ps) tune bytes = number_at w32 bytes >>= λ n. parameters_at ps (with_parameter p n.0 tune) n.1

unfoldable pub tune_at : List ℕ → Result (Tune × List ℕ) ℕ
tune_at bytes = parameters_at parameters first_tune bytes

abbrev pub batch_of : List Stored × Tune → Batch
batch_of x = record { records = x.0; tune = x.1 }

-- a batch, and the bytes behind it
unfoldable pub batch_at : ℕ → List ℕ → Result (Batch × List ℕ) ℕ
batch_at version bytes = mapped batch_of (both_read (count_then_items (number_at w32) (records_at version)) tune_at) bytes

-- bytes that are a batch to their end
unfoldable pub whole_batch : ℕ → List ℕ → Result Batch ℕ
whole_batch version bytes = batch_at version bytes >>= λ b. if length b.1 == 0 then Ok b.0 else Err (length b.1)

-- the answer is the batch that the bytes are, or the first byte that no batch continues
abbrev pub IsBatch : ℕ → List ℕ → Result Batch CodecFault → Type 0
IsBatch version bytes (Ok batch) = whole_batch version bytes ≡ Ok batch
IsBatch version bytes (Err (BadRecord at)) = (left : ℕ) × (whole_batch version bytes ≡ Err left) × (at ≡ length bytes - left)
IsBatch version bytes (Err NoMemory) = Unit {0}

abbrev pub parameter_bytes : Tune → Parameter → List ℕ
parameter_bytes tune p = to_be_bytes w32 (parameter_of p tune)

unfoldable pub tune_bytes : Tune → List ℕ
tune_bytes tune = flat_map (parameter_bytes tune) parameters

unfoldable pub batch_bytes : List Stored → Tune → List ℕ
batch_bytes records tune = to_be_bytes w32 (length records) ++ (flat_map spelling records ++ tune_bytes tune)

-- each record has at most 4,096 source lines
abbrev pub HasFewLines : List Stored → Type 0
HasFewLines records = All (λ o. length o.lines ≤ lines_most) records
