-- What the lock keeps between two steps, and what each step tells.
use Rattle.std.specs.Prelude.{◌≡◌, ℕ, ◌+◌, ◌<◌, ◌≤◌, ◌^◌, List, [], ◌∷◌, ◌++◌, length, Option, Some}
use mathlib.Core.Option.{Option as Maybe, some, none}
use lib.ListN.{get_elem?}
use Rattle.atomic_table.specs.Table.{State, Me, Step}
use Rattle.turn_lock.specs.Histories.{StartsWith, own_of, AllOf, Has, IsKnown}
use Rattle.turn_lock.specs.declared.view.Taken.{Taken}
use Rattle.turn_lock.specs.declared.view.View.{View}
use Rattle.turn_lock.specs.declared.view.Place.{Place}
use Rattle.turn_lock.specs.declared.view.Place.TheVariants.{Idle, Waits, Holds, Told, Gone}

abbrev pub total : {A : Type 0} → (A → ℕ) → List A → ℕ
total f [] = 0
total f (x ∷ xs) = f x + total f xs

-- 1 where the seat was told that all turns are spent
abbrev pub told : Place → ℕ
told Told = 1
told Gone = 1
told Idle = 0
told (Waits n) = 0
told (Holds n) = 0

-- 1 where the seat isn't spent
abbrev pub live : Place → ℕ
live Gone = 0
live Told = 1
live Idle = 1
live (Waits n) = 1
live (Holds n) = 1

abbrev pub live_of : {E B : Type 0} → View E B → ℕ
live_of v = live v.place

abbrev pub told_of : {E B : Type 0} → View E B → ℕ
told_of v = told v.place

abbrev pub HasTicket : Place → ℕ → Type 0
HasTicket Idle n = ⊥
HasTicket Told n = ⊥
HasTicket Gone n = ⊥
HasTicket (Waits m) n = m ≡ n
HasTicket (Holds m) n = m ≡ n

module _ {E : Type 0} where
  -- a ticket is drawn and not yet passed; who has the turn has seen the whole history
  abbrev pub Stands : ℕ → ℕ → List E → List E → Place → Type 0
  Stands ticket serving log seen Idle = Unit {0}
  Stands ticket serving log seen Told = Unit {0}
  Stands ticket serving log seen Gone = Unit {0}
  Stands ticket serving log seen (Waits n) = (serving ≤ n) × (n < ticket) × (n < 2 ^ 62)
  Stands ticket serving log seen (Holds n) = (n ≡ serving) × (n < ticket) × (n < 2 ^ 62) × (seen ≡ log)

module _ {E B : Type 0} where
  abbrev pub Fits : ℕ → ℕ → List E → View E B → Type 0
  Fits ticket serving log v = StartsWith log v.seen × Stands ticket serving log v.seen v.place

  abbrev pub Each : ℕ → ℕ → List E → List (View E B) → Type 0
  Each ticket serving log views = (i : ℕ) (v : View E B) → get_elem? views i ≡ some v → Fits ticket serving log v

  -- no two seats have one ticket
  abbrev pub Apart : List (View E B) → Type 0
  Apart views = (i j n : ℕ) (v w : View E B) → get_elem? views i ≡ some v → get_elem? views j ≡ some w → HasTicket v.place n → HasTicket w.place n → i ≡ j

  -- the first seat knows which seats were made and how many it has taken in
  abbrev pub Rooted : List (View E B) → Type 0
  Rooted views = (v : View E B) × (get_elem? views 0 ≡ some v) × (live_of v ≡ 1) × (length views ≡ 1 + length v.given) × (total live_of views + length v.joined ≡ 1 + length v.given)

module _ {E B : Type 0} (party : E → ℕ) where
  -- Whose each entry is: a seat that isn't spent has its party's own, no two such seats have one party, and the first
  -- seat has those of each party that was taken in.
  pub record Parted (start : B) (log : List E) (views : List (View E B)) : Type 0 where
    pub first : View E B
    pub at0 : get_elem? views 0 ≡ some first
    pub zero : first.party ≡ 0
    pub up : live_of first ≡ 1
    pub begun : (i : ℕ) (v : View E B) → get_elem? views i ≡ some v → live_of v ≡ 1 → v.root ≡ start ∷ []
    pub mine : (i : ℕ) (v : View E B) → get_elem? views i ≡ some v → live_of v ≡ 1 → v.own ≡ own_of party v.party log
    pub lone : (i j : ℕ) (v w : View E B) → get_elem? views i ≡ some v → get_elem? views j ≡ some w → live_of v ≡ 1 → live_of w ≡ 1 → v.party ≡ w.party → i ≡ j
    pub named : (i : ℕ) (v : View E B) → get_elem? views i ≡ some v → live_of v ≡ 1 → IsKnown first.given v.party
    pub taken : (i : ℕ) (x : Taken E) → get_elem? first.joined i ≡ some x
        → Has first.given x.party × (x.own ≡ own_of party x.party log) × StartsWith log x.seen × ((j : ℕ) (v : View E B) → get_elem? views j ≡ some v → live_of v ≡ 1 → ¬ (v.party ≡ x.party))
    pub known : (i : ℕ) (e : E) → get_elem? log i ≡ some e → IsKnown first.given (party e)

module _ {T E B : Type 0} (history : T → List E) (party : E → ℕ) (start : T → B) where
  -- the slot at home has the state of this history; out, it is with the seat that has the turn
  abbrev pub InSlot : B → List E → List (View E B) → Maybe (Option T) → Type 0
  InSlot begin log views (some y) = (x : T) × (y ≡ Some x) × (history x ≡ log) × (start x ≡ begin)
  InSlot begin log views none = (i : ℕ) × (v : View E B) × (n : ℕ) × (get_elem? views i ≡ some v) × (v.place ≡ Holds n)

  abbrev pub Sat : Type 0
  Sat = Me (Option T) (View E B)

  abbrev pub Same : Sat → Sat → Type 0
  Same v w = StartsWith w.0.seen v.0.seen × (w.0.own ≡ v.0.own) × (w.0.party ≡ v.0.party) × (w.0.given ≡ v.0.given) × (w.0.joined ≡ v.0.joined) × (w.0.root ≡ v.0.root)

  -- a ticket, or the word that all are spent
  abbrev pub drew : Step (Option T) → Sat → ℕ → Sat → Type 0
  drew st v found w = Same v w × (w.1 ≡ v.1) × (found < 2 ^ 62 → w.0.place ≡ Waits found) × (2 ^ 62 ≤ found → w.0.place ≡ Told)

module _ {T E B : Type 0} (history : T → List E) (party : E → ℕ) (start : T → B) (allowed : E → Type 0) where
  pub record Kept (s : State (Option T) (View E B)) : Type 0 where
    pub begin : B
    pub ticket : ℕ
    pub serving : ℕ
    pub log : List E
    pub slot : Maybe (Option T)
    pub words : s.words ≡ ticket ∷ serving ∷ []
    pub homes : s.homes ≡ slot ∷ []
    pub counted : length log ≡ serving
    pub served : serving ≤ ticket
    pub drawn : ticket ≤ 2 ^ 62 + total told_of s.views
    pub few : length s.views ≤ 10
    pub in_slot : InSlot history party start begin log s.views slot
    pub each : Each ticket serving log s.views
    pub apart : Apart s.views
    pub rooted : Rooted s.views
    pub parted : Parted party begin log s.views
    pub lawful : AllOf allowed log

  -- the turn with its state, or one has to wait on
  abbrev pub looked : Step (Option T) → Me (Option T) (View E B) → ℕ → Me (Option T) (View E B) → Type 0
  looked st v found w = Same history party start v w × AllOf allowed w.0.seen × (length w.0.seen ≡ found) × (v.0.place ≡ Told → (w.0.place ≡ Told) × (w.1 ≡ v.1))
      × ((n : ℕ) → v.0.place ≡ Waits n → v.1 ≡ []
      → (found ≡ n → (w.0.place ≡ Holds n) × ((x : T) × (w.1 ≡ (0, Some x) ∷ []) × (history x ≡ w.0.seen) × (start x ∷ [] ≡ w.0.root)) × (w.0.own ≡ own_of party w.0.party w.0.seen))
      × (¬ (found ≡ n) → (w.0.place ≡ Waits n) × (w.1 ≡ [])))

  -- the turn is over, and the history has one entry more
  abbrev pub passed : Step (Option T) → Me (Option T) (View E B) → ℕ → Me (Option T) (View E B) → Type 0
  passed st v found w = (n : ℕ) (x : T) (e : E) → v.0.place ≡ Holds n → v.1 ≡ (0, Some x) ∷ [] → history x ≡ v.0.seen ++ e ∷ [] → start x ∷ [] ≡ v.0.root → party e ≡ v.0.party → allowed e
      → (w.0 ≡ record { party = v.0.party; root = v.0.root; place = Idle; seen = v.0.seen ++ e ∷ []; own = v.0.own ++ e ∷ []; given = v.0.given; joined = v.0.joined }) × (w.1 ≡ [])

module _ {E B : Type 0} where
  abbrev pub spent_view : View E B
  spent_view = record { party = 0; root = []; place = Gone; seen = []; own = []; given = []; joined = [] }

  abbrev pub left_after : ℕ → View E B → View E B
  left_after p v = record { party = v.party; root = v.root; place = v.place; seen = v.seen; own = v.own; given = v.given ++ p ∷ []; joined = v.joined }

  abbrev pub newcomer : ℕ → View E B → View E B
  newcomer p v = record { party = p; root = v.root; place = Idle; seen = v.seen; own = []; given = []; joined = [] }

  abbrev pub kept_of : View E B → Taken E
  kept_of w = record { party = w.party; own = w.own; seen = w.seen }

  abbrev pub taken_in : View E B → View E B → View E B
  taken_in v w = record { party = v.party; root = v.root; place = v.place; seen = v.seen; own = v.own; given = v.given; joined = v.joined ++ kept_of w ∷ [] }
