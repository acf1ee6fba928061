use Rattle.std.specs.Prelude.{◌≡◌, ℕ, ◌+◌, Bool, true, false, Option, Some, None, List, option_map, Result, Ok, Err, not, ◌≤◌}
use Rattle.muck_log.specs.Body.{Body, body_of}
use Rattle.muck_log.specs.World.{StoredWorld, laid, laid_over, record_placed, all_placed, judged_world, IsFine}
use Rattle.muck_codec.specs.declared.stored.Batch.{Batch}
use Rattle.muck_codec.specs.declared.stored.Stored.{Stored}
use Rattle.muck_log.specs.File.{FileReading, join, reading_end}
use Rattle.muck_log.specs.declared.body.Head.{Head}
use Rattle.muck_log.specs.declared.reader.Parts.{Parts}
use Rattle.muck_log.specs.declared.reader.Mode.{Mode}
use Rattle.muck_log.specs.declared.reader.Mode.TheVariants.{Shut, Broken}

-- generation and number of a body
abbrev pub head_in : List ℕ → Option Head
head_in bytes = option_map (λ (b : Body). record { generation = b.generation; number = b.number }) (body_of bytes)

-- the world with the payload laid over it, or none
abbrev pub IsLaid : Bool → List ℕ → StoredWorld → StoredWorld → Type 0
IsLaid true payload old new = laid payload old ≡ Some new
IsLaid false payload old new = laid payload old ≡ None

-- the records and the parameters are in their places, where such a world may be; or it can't be laid
abbrev pub IsPut : Bool → Batch → StoredWorld → StoredWorld → Type 0
IsPut true batch old new = laid_over batch old ≡ judged_world new.tune new.objects
IsPut false batch old new = laid_over batch old ≡ None

-- the record is in its place, or has none
abbrev pub IsPlaced : Bool → Stored → List Stored → List Stored → Type 0
IsPlaced true o old new = record_placed o old ≡ Some new
IsPlaced false o old new = record_placed o old ≡ None

abbrev pub ArePlaced : Bool → List Stored → List Stored → List Stored → Type 0
ArePlaced true os old new = all_placed os old ≡ Some new
ArePlaced false os old new = all_placed os old ≡ None

-- the batch that was read is laid over the world, and its number is kept; else nothing is said of the world
abbrev pub IsJoined : Bool → FileReading → FileReading → Type 0
IsJoined true old new = (join old.place old.held old.bytes ≡ Some (record { generation = old.held.generation; number = new.held.number; count = old.held.count + 1; last = old.place; world = new.held.world })) × (new ≡ record old { held = record { generation = old.held.generation; number = new.held.number; count = old.held.count; last = old.held.last; world = new.held.world } })
IsJoined false old new = (join old.place old.held old.bytes ≡ None) × (new.place ≡ old.place)

-- what is held is a world that hangs together, unless a batch was outside the format
abbrev pub IsFineIn : Mode → StoredWorld → Type 0
IsFineIn Broken w = Unit {0}
IsFineIn _ w = IsFine w

abbrev pub is_over : Mode → Bool
is_over Shut = true
is_over Broken = true
is_over _ = false

abbrev pub is_shut : Mode → Bool
is_shut Shut = true
is_shut _ = false

pub record IsWhole (r : FileReading) (p : Parts) : Type 0 where
  pub ends : reading_end r ≡ Ok (record { place = p.place; held = record { generation = p.generation; number = p.number; count = p.count; last = p.last; world = p.world } })
  pub close : p.close ≡ not (is_shut r.mode)
  pub count : p.count ≤ p.place

-- what was read to its end, or the gate of the first batch outside the format
abbrev pub IsParts : FileReading → Result Parts ℕ → Type 0
IsParts r (Ok p) = IsWhole r p
IsParts r (Err at) = reading_end r ≡ Err at
