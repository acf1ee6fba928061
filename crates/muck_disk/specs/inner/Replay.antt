-- What a list of calls, the latest first, makes of a file.
use Rattle.std.specs.Prelude.{◌≡◌, ℕ, ◌+◌, ◌-◌, min, max, Bool, true, false, List, [], ◌∷◌, length, take, replicate, reverse, nat_le, ◌&&◌}
use Rattle.muck_disk.specs.Images.{bytes_written, Torn}
use Rattle.muck_disk.specs.declared.memory.Call.{Call}
use Rattle.muck_disk.specs.declared.memory.Call.TheVariants.{Asked, Wrote, Synced}

-- what a read gives
abbrev pub seen_by : List ℕ → Call → List ℕ
seen_by seen (Wrote at bytes true) = bytes_written seen at bytes.items
seen_by seen _ = seen

abbrev pub seen_after : List ℕ → List Call → List ℕ
seen_after first [] = first
seen_after first (call ∷ calls) = seen_by (seen_after first calls) call

-- what a crash may leave
abbrev pub left_by : (List ℕ → Type 0) → List ℕ → Call → List ℕ → Type 0
left_by left seen (Wrote at bytes done) c = (d : List ℕ) × left d × Torn at (length bytes.items) d c
left_by left seen (Synced true) c = c ≡ seen
left_by left seen (Synced false) c = left c
left_by left seen Asked c = left c

abbrev pub left_after : List ℕ → List Call → List ℕ → Type 0
left_after first [] c = c ≡ first
left_after first (call ∷ calls) c = left_by (left_after first calls) (seen_after first calls) call c

-- how many bytes it had when it was last put on the disk
abbrev pub synced_length : List ℕ → List Call → ℕ
synced_length first [] = length first
synced_length first (Synced true ∷ calls) = length (seen_after first calls)
synced_length first (_ ∷ calls) = synced_length first calls

-- a write of n bytes of which each is this byte, and behind which the file has no more bytes than `room`, where it hadn't before
abbrev pub torn_to : ℕ → ℕ → List ℕ → ℕ → ℕ → List ℕ
torn_to room byte old at n = bytes_written old at (replicate (min n (max (length old) room - at)) byte)

-- the image of which each byte that isn't on the disk is `byte`, and of those past the end that is, the first `kept` are there
abbrev pub image_after : ℕ → ℕ → List ℕ → List Call → List ℕ
image_after kept byte first [] = first
image_after kept byte first (Wrote at bytes done ∷ calls) = torn_to (synced_length first calls + kept) byte (image_after kept byte first calls) at (length bytes.items)
image_after kept byte first (Synced true ∷ calls) = seen_after first calls
image_after kept byte first (Synced false ∷ calls) = image_after kept byte first calls
image_after kept byte first (Asked ∷ calls) = image_after kept byte first calls

-- each write begins within the file
abbrev pub is_within : List ℕ → Call → Bool
is_within seen (Wrote at bytes done) = nat_le at (length seen)
is_within seen _ = true

abbrev pub all_within : List ℕ → List Call → Bool
all_within first [] = true
all_within first (call ∷ calls) = is_within (seen_after first calls) call && all_within first calls

-- the same at a moment, of calls in their order
abbrev pub seen_at : List ℕ → List Call → ℕ → List ℕ
seen_at first calls t = seen_after first (reverse (take t calls))

abbrev pub left_at : List ℕ → List Call → ℕ → List ℕ → Type 0
left_at first calls t = left_after first (reverse (take t calls))

abbrev pub image_at : ℕ → ℕ → List ℕ → List Call → ℕ → List ℕ
image_at kept byte first calls t = image_after kept byte first (reverse (take t calls))

abbrev pub synced_at : List ℕ → List Call → ℕ → ℕ
synced_at first calls t = synced_length first (reverse (take t calls))
