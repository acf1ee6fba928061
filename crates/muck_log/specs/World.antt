-- The world that a store holds: a record of each object, by its number from 0 on, and the tune parameters.
use Rattle.std.specs.Prelude.{◌≡◌, ℕ, Bool, true, not, ◌&&◌, ◌||◌, ◌==◌, nat_le, nat_lt, List, [], ◌∷◌, ◌++◌, length, codes, Option, Some, None, slice_get, slice_set, bytes_eq, if◌then◌else◌, option_and_then, Result, Ok, Err}
use Rattle.std.specs.Option.{option_map_or}
use Rattle.std.specs.List.{filter, list_all}
use Rattle.muck_model.specs.Bytes.{lines_most}
use Rattle.muck_model.specs.declared.dbref.Kind.TheVariants.{Room, Player}
use Rattle.muck_model.specs.declared.tune.Tune.{Tune}
use Rattle.muck_model.specs.Parameters.{first_tune, tune_fits}
use Rattle.spec_live.specs.Objects.{dbref_of, index_of, nothing}
use Rattle.spec_live.specs.Flags.{no_flags, wizard}
use Rattle.muck_codec.specs.declared.stored.Stored.{Stored}
use Rattle.muck_codec.specs.declared.stored.Batch.{Batch}
use Rattle.muck_codec.specs.Spelling.{spelling}
use Rattle.muck_codec.specs.Batches.{whole_batch}
use Rattle.muck_store.specs.Limits.{record_fits}
use Rattle.muck_store.specs.Whole.{is_whole_store}

pub record StoredWorld : Type 0 where
  pub objects : List Stored
  pub tune : Tune

-- The starting world.

unfoldable pub stored_room_zero : Stored
stored_room_zero = record {
  dbref = dbref_of 0;
  kind = Room;
  flags = no_flags;
  level = 0;
  owner = dbref_of 1;
  place = nothing;
  link = nothing;
  home = nothing;
  first_content = dbref_of 1;
  first_exit = nothing;
  next = nothing;
  name = codes "Room Zero";
  props = [];
  lines = [];
  digest = [];
}

-- the digest of `potrzebie` under a salt of zeros
unfoldable pub first_digest : List ℕ
first_digest = codes "0000000000000000788a82af0ffc0d0cdaa372295052de2760a7cbb2947aa0585aab17efefce5216"

unfoldable pub stored_player_one : Stored
stored_player_one = record {
  dbref = dbref_of 1;
  kind = Player;
  flags = record { 0 = wizard };
  level = 0;
  owner = dbref_of 1;
  place = dbref_of 0;
  link = nothing;
  home = dbref_of 0;
  first_content = nothing;
  first_exit = nothing;
  next = nothing;
  name = codes "One";
  props = [];
  lines = [];
  digest = first_digest;
}

-- Room Zero, and One in it
unfoldable pub start : StoredWorld
start = record { objects = stored_room_zero ∷ stored_player_one ∷ []; tune = first_tune }

-- what is held of a file behind a batch that is outside the format
unfoldable pub lost : StoredWorld
lost = record { objects = []; tune = first_tune }

-- Limits.

-- every value is within its limits, and the world hangs together
unfoldable pub is_fine : List Stored → Tune → Bool
is_fine objects tune = nat_le (length objects) 100000 && (list_all record_fits objects && (tune_fits tune && is_whole_store objects))

-- what a store may hold
abbrev pub IsFine : StoredWorld → Type 0
IsFine w = is_fine w.objects w.tune ≡ true

-- Laying.

abbrev pub record_put_at : List Stored → Stored → ℕ → Option (List Stored)
record_put_at objects o n = if nat_lt n (length objects) then Some (slice_set objects n o) else if n == length objects then Some (objects ++ o ∷ []) else None

-- the record in the place of its number, or at the next number
unfoldable pub record_placed : Stored → List Stored → Option (List Stored)
record_placed o objects = option_and_then (record_put_at objects o) (index_of o.dbref)

unfoldable pub all_placed : List Stored → List Stored → Option (List Stored)
all_placed [] objects = Some objects
all_placed (o ∷ os) objects = option_and_then (all_placed os) (record_placed o objects)

abbrev pub judged_world : Tune → List Stored → Option StoredWorld
judged_world tune objects = if is_fine objects tune then Some (record { objects = objects; tune = tune }) else None

-- the world with a batch laid over it, where that can be
unfoldable pub laid_over : Batch → StoredWorld → Option StoredWorld
laid_over b world = option_and_then (judged_world b.tune) (all_placed b.records world.objects)

abbrev pub batch_if : Result Batch ℕ → Option Batch
batch_if (Ok b) = Some b
batch_if (Err left) = None

-- The one place where the grammar of records, their limits and the world come in: the world with these bytes laid over it, or none
-- where they are no batch to their end, or don't leave such a world.
unfoldable pub laid : List ℕ → StoredWorld → Option StoredWorld
laid payload world = option_and_then (λ b. laid_over b world) (batch_if (whole_batch 1 payload))

-- What is written.

-- what is kept of the object of a record
abbrev pub kept_record : List Stored → Stored → Option Stored
kept_record objects o = option_and_then (slice_get objects) (index_of o.dbref)

-- what is kept of an object isn't this record
unfoldable pub differs : List Stored → Stored → Bool
differs objects o = option_map_or (λ kept. nat_lt lines_most (length kept.lines) || not (bytes_eq (spelling kept) (spelling o))) (kept_record objects o) true

-- the records that are written over these objects: those that differ from them
unfoldable pub records_written : List Stored → List Stored → List Stored
records_written objects records = filter (differs objects) records
