-- The stored world of two files.
use Rattle.std.specs.Prelude.{◌≡◌, ◌==◌, ◌⊎◌, ◌≢◌, ℕ, ◌+◌, ◌-◌, ◌≤◌, ◌^◌, Bool, true, false, not, Option, Some, None, Result, Ok, Err, List, [], ◌∷◌, ◌++◌, length, take, drop, get_or, nat_le, nat_lt, ◌&&◌, ◌||◌, if◌then◌else◌}
use Rattle.std.specs.Int.{w64, to_be_bytes}
use Rattle.muck_disk.specs.Images.{Only}
use Rattle.muck_log.specs.Body.{body_bytes}
use Rattle.muck_log.specs.World.{StoredWorld}
use Rattle.muck_log.specs.File.{Held, ReadingEnd, Opened, begin, file_of, after_number}

-- The batches of the chosen file.
pub record Chosen : Type 0 where
  pub second : Bool
  pub place : ℕ  -- of the gate at which reading ended
  pub held : Held

pub record Damage : Type 0 where
  pub second : Bool
  pub at : ℕ

abbrev pub file_loaded : Bool → Result ReadingEnd ℕ → Result Chosen Damage
file_loaded second (Ok end) = Ok (record { second = second; place = end.place; held = end.held })
file_loaded second (Err at) = Err (record { second = second; at = at })

abbrev pub newer : Opened → Opened → Result Chosen Damage
newer a b = if a.generation == b.generation then Err (record { second = true; at = 0 })
    else (if nat_lt b.generation a.generation then file_loaded false a.ending else file_loaded true b.ending)

unfoldable pub file_picked : Option (Option Opened) → Option (Option Opened) → Result Chosen Damage
file_picked (Some None) b = Err (record { second = false; at = 0 })
file_picked None (Some None) = Err (record { second = true; at = 0 })
file_picked (Some (Some a)) (Some None) = Err (record { second = true; at = 0 })
file_picked None None = Ok (record { second = false; place = 0; held = begin 1 })
file_picked (Some (Some a)) None = file_loaded false a.ending
file_picked None (Some (Some b)) = file_loaded true b.ending
file_picked (Some (Some a)) (Some (Some b)) = newer a b

-- of two files or disks, the one that is meant
abbrev pub pick : {A : Type 0} → Bool → A → A → A
pick true a b = b
pick false a b = a

-- the store that two files hold, or the file and the place that are damaged
unfoldable pub store_of : List ℕ → List ℕ → Result Chosen Damage
store_of a b = file_picked (file_of a) (file_of b)

-- the gate at this place isn't closed on the disk: it is missing or it is 01
unfoldable pub must_close : ℕ → List ℕ → Bool
must_close place file = nat_le (length file) place || (get_or file place 0 == 1)

-- a dump opens a new generation in the other file
unfoldable pub opens_new : Held → Bool
opens_new held = nat_le 64 held.count && nat_lt held.generation (2 ^ 64 - 1)

-- where the next batch goes: file, place and what stands before it there
unfoldable pub target : Chosen → Chosen
target s = if opens_new s.held then record { second = not s.second; place = 0; held = begin (s.held.generation + 1) } else s

-- the next batch of the store
unfoldable pub next_body : Chosen → List ℕ → List ℕ
next_body s payload = body_bytes (target s).held.generation (after_number s.held.number) payload

-- the store with one batch more, which makes this world
unfoldable pub after_batch : Chosen → List ℕ → StoredWorld → Chosen
after_batch s payload world = let t = target s in record {
  second = t.second;
  place = t.place + 9 + length (next_body s payload);
  held = record { generation = t.held.generation; number = after_number s.held.number; count = t.held.count + 1; last = t.place; world = world };
}

-- length, body and closed gate, which stand behind a gate
unfoldable pub framed : List ℕ → List ℕ
framed body = to_be_bytes w64 (length body) ++ body ++ 0 ∷ []

-- One file while a batch is written behind the gate at this place: the gate isn't open, or nothing was done.
pub record IsKept (place : ℕ) (old new : List ℕ) : Type 0 where
  pub front : take place new ≡ take place old
  pub no_shorter : length old ≤ length new
  pub shut : (length new ≤ place + 1) ⊎ (get_or new place 0 ≢ 1) ⊎ (new ≡ old)

-- the batch stands behind an open gate
pub record IsDone (place : ℕ) (bytes old new : List ℕ) : Type 0 where
  pub front : take place new ≡ take place old
  pub no_shorter : length old ≤ length new
  pub back : (rest : List ℕ) × (drop place new ≡ 1 ∷ bytes ++ rest)

abbrev pub MayBe : ℕ → List ℕ → List ℕ → List ℕ → Type 0
MayBe place bytes old new = IsKept place old new ⊎ IsDone place bytes old new

-- A crash at any moment since old leaves a file that has P, and the past stays.
pub record LeavesOnly {D : Type 0} (moment : D → ℕ) (images : D → ℕ → List ℕ → Type 0) (old new : D) (P : List ℕ → Type 0) : Type 0 where
  pub later : moment old ≤ moment new
  pub kept : (t : ℕ) (c : List ℕ) → t ≤ moment old → images new t c → images old t c
  pub stays : (t : ℕ) (c : List ℕ) → t ≤ moment old → images old t c → images new t c
  pub each : (t : ℕ) (c : List ℕ) → moment old ≤ t → t ≤ moment new → images new t c → P c

-- What a log knows.
pub record LogState : Type 0 where
  pub chosen : Chosen
  pub close : Bool  -- the gate at `chosen.place` isn't closed on the disk
  pub other_close : Bool  -- nor is the one at place 0 of the other file
  pub stale : Bool
  pub most : ℕ

-- It was mounted from these two disks, which only its own calls moved since.
pub record IsMounted {D : Type 0} (seen : D → List ℕ) (moment : D → ℕ) (images : D → ℕ → List ℕ → Type 0) (log : LogState) (first second : D) : Type 0 where
  pub fresh : log.stale ≡ false
  pub load : store_of (seen first) (seen second) ≡ Ok log.chosen
  pub close : log.close ≡ must_close log.chosen.place (pick log.chosen.second (seen first) (seen second))
  pub other_close : log.other_close ≡ must_close 0 (pick log.chosen.second (seen second) (seen first))
  pub first_durable : Only (seen first) (images first (moment first))
  pub second_durable : Only (seen second) (images second (moment second))

-- A crash at any moment since these two disks were as they were leaves images that have P, and the past stays.
pub record LeavesBoth {D : Type 0} (moment : D → ℕ) (images : D → ℕ → List ℕ → Type 0) (first second first' second' : D) (P : List ℕ → List ℕ → Type 0) : Type 0 where
  pub first_later : moment first ≤ moment first'
  pub second_later : moment second ≤ moment second'
  pub first_kept : (t : ℕ) (c : List ℕ) → t ≤ moment first → images first' t c → images first t c
  pub second_kept : (t : ℕ) (c : List ℕ) → t ≤ moment second → images second' t c → images second t c
  pub first_stays : (t : ℕ) (c : List ℕ) → t ≤ moment first → images first t c → images first' t c
  pub second_stays : (t : ℕ) (c : List ℕ) → t ≤ moment second → images second t c → images second' t c
  pub each : (t u : ℕ) (c d : List ℕ) → moment first ≤ t → t ≤ moment first' → moment second ≤ u → u ≤ moment second' → images first' t c → images second' u d → P c d

-- a batch is being written into one of them
pub record MayBeAt (at : Bool) (place : ℕ) (bytes a b c d : List ℕ) : Type 0 where
  pub written : MayBe place bytes (pick at a b) (pick at c d)
  pub other : pick at d c ≡ pick at b a
