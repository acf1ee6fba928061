-- A table of objects with chain fields, and the entries that it stands for.
use Rattle.std.specs.Prelude.{◌≡◌, ◌⊎◌, ℕ, ◌<◌, Bool, true, false, ◌==◌, if◌then◌else◌, List, [], ◌∷◌, ◌++◌, map, length, Option, Some, None, slice_get}
use Rattle.std.specs.Option.{option_map, option_and_then, option_map_or}
use Rattle.muck_model.specs.declared.dbref.Dbref.{Dbref}
use Rattle.muck_model.specs.declared.dbref.Flags.{Flags}
use Rattle.muck_model.specs.declared.dbref.Kind.{Kind}
use Rattle.muck_model.specs.declared.dbref.Kind.TheVariants.{Garbage}
use Rattle.spec_live.specs.declared.object.Object.{Object}
use Rattle.spec_live.specs.declared.mark.Mark.{Mark}
use Rattle.spec_live.specs.declared.mark.Mark.TheVariants.{Gone}
use Rattle.spec_live.specs.declared.saving.Saving.{Saving}
use Rattle.spec_live.specs.declared.saving.Saving.TheVariants.{Due}
use Rattle.spec_live.specs.Chain.{walk, IsChain, Ends, Member, without_number, put_at}
use Rattle.spec_live.specs.Flags.{no_flags}
use Rattle.spec_live.specs.Objects.{Entry, changed_at, dbref_of, index_of, is_exit, is_player, is_garbage, garbage}
use Rattle.muck_match.specs.inner.Listed.{IsAmong}
use Rattle.spec_live.specs.Consistent.{IsOrdered, IsConsistent}
use Rattle.spec_live.specs.Setting.{lines_marked}
use Rattle.spec_live.specs.Recycling.{without_ties, is_tied_to_number, is_exit_of}
use Rattle.spec_live.specs.Saving.{Links, links_in}
use Rattle.spec_live.specs.Start.{room_zero, player_one}
use Rattle.muck_db.specs.declared.slot.Slot.{Slot}
use Rattle.muck_db.specs.inner.Limits.{IsWithinLimits}

-- Readers, by number.

-- the object of a slot, in which no object is garbage
abbrev pub shown : Slot → Object
shown s = option_map_or (λ o. o) s.object garbage

unfoldable pub object_at : List Slot → ℕ → Option Object
object_at slots k = option_map shown (slice_get slots k)

-- the object that is no garbage
unfoldable pub kept_at : List Slot → ℕ → Option Object
kept_at slots k = option_and_then (λ s. s.object) (slice_get slots k)

unfoldable pub next_at : List Slot → ℕ → Option ℕ
next_at slots k = option_and_then (λ s. s.next) (slice_get slots k)

abbrev pub first_of : Bool → Slot → Option ℕ
first_of exits s = if exits then s.first_exit else s.first_content

unfoldable pub first_at : Bool → List Slot → ℕ → Option ℕ
first_at exits slots k = option_and_then (first_of exits) (slice_get slots k)

unfoldable pub mark_at : List Slot → ℕ → Option Mark
mark_at slots k = option_and_then (λ s. s.mark) (slice_get slots k)

-- what isn't there yet will be due
unfoldable pub saving_at : List Slot → ℕ → Saving
saving_at slots k = option_map_or (λ s. s.saving) (slice_get slots k) Due

unfoldable pub stood_at : List Slot → ℕ → Option Dbref
stood_at slots k = option_and_then (λ s. s.stood) (slice_get slots k)

unfoldable pub place_at : List Slot → ℕ → Option ℕ
place_at slots k = option_and_then (λ o. index_of o.place) (object_at slots k)

unfoldable pub kind_at : List Slot → ℕ → Kind
kind_at slots k = option_map_or (λ o. o.kind) (object_at slots k) Garbage

unfoldable pub flags_at : List Slot → ℕ → Flags
flags_at slots k = option_map_or (λ o. o.flags) (object_at slots k) no_flags

unfoldable pub home_at : List Slot → ℕ → Option ℕ
home_at slots k = option_and_then (λ o. index_of o.home) (object_at slots k)

unfoldable pub owner_at : List Slot → ℕ → Option ℕ
owner_at slots k = option_and_then (λ o. index_of o.owner) (object_at slots k)

unfoldable pub is_exit_at : List Slot → ℕ → Bool
is_exit_at slots k = option_map_or (λ o. is_exit o.kind) (object_at slots k) false

-- the number itself, its place, the place of that, and so on
unfoldable pub path_at : List Slot → ℕ → List ℕ
path_at slots k = walk (length slots) (place_at slots) (Some k)

-- the list of exits, or of contents, of an object
unfoldable pub list_at : Bool → List Slot → ℕ → List ℕ
list_at exits slots k = walk (length slots) (next_at slots) (first_at exits slots k)

-- the objects from there on, in the order of their list
unfoldable pub dbrefs_from : List Slot → Option ℕ → List Dbref
dbrefs_from slots at = map dbref_of (walk (length slots) (next_at slots) at)

-- The entries.

unfoldable pub entry_of : List Slot → Slot → Entry
entry_of slots s = record {
  object = shown s;
  contents = walk (length slots) (next_at slots) s.first_content;
  exits = walk (length slots) (next_at slots) s.first_exit;
  mark = s.mark;
  saving = s.saving;
  stood = s.stood;
}

unfoldable pub entries_of : List Slot → List Entry
entries_of slots = map (entry_of slots) slots

-- Writes. A slot whose object or chain fields are written is due for the next dump.

abbrev pub with_next : Option ℕ → Slot → Slot
with_next to s = record s { next = to; saving = Due }

abbrev pub with_first : Bool → Option ℕ → Slot → Slot
with_first exits to s = if exits then record s { first_exit = to; saving = Due } else record s { first_content = to; saving = Due }

abbrev pub with_mark : Option Mark → Slot → Slot
with_mark mark s = record s { mark = mark }

abbrev pub on_slot : (Object → Object) → Slot → Slot
on_slot f s = record s { object = option_map f s.object; saving = Due }

-- it is tied to d no more, and due where it was
unfoldable pub untied_slot : ℕ → Slot → Slot
untied_slot d s = record s { object = option_map (without_ties d) s.object; saving = if is_tied_to_number d (shown s) then Due else s.saving }

abbrev pub with_saving : (Saving → Saving) → Slot → Slot
with_saving f s = record s { saving = f s.saving }

abbrev pub with_digest : List ℕ → Object → Object
with_digest digest o = record o { digest = digest }

abbrev pub with_source : List (List ℕ) → Object → Object
with_source lines o = record o { lines = lines }

-- the source of a program, which is marked
abbrev pub with_slot_lines : List (List ℕ) → Slot → Slot
with_slot_lines lines s = record s { object = option_map (with_source lines) s.object; mark = lines_marked s.mark; saving = Due }

abbrev pub with_kept : Object → Slot → Slot
with_kept o s = record s { object = Some o; saving = Due }

-- a slot that is in no list and whose lists are empty
abbrev pub new_slot : Option Object → Option Mark → Slot
new_slot object mark = record { object = object; first_content = None; first_exit = None; next = None; mark = mark; saving = Due; stood = None }

-- a slot of garbage of which is to be told, and of an exit of d likewise
abbrev pub gone_slot : Option Dbref → Slot
gone_slot stood = record (new_slot None (Some Gone)) { stood = stood }

abbrev pub wiped : Slot → Slot
wiped s = gone_slot s.stood

unfoldable pub exit_wiped : ℕ → Slot → Slot
exit_wiped d s = if is_exit_of d (shown s) then wiped s else s

-- an object at a number of garbage, or at the next number
unfoldable pub object_put : ℕ → Object → List Slot → List Slot
object_put n o slots = if n == length slots then slots ++ new_slot (Some o) None ∷ [] else changed_at n (with_kept o) slots

-- Room Zero, and One in it
unfoldable pub first_slots : List Slot
first_slots =
    record { object = Some room_zero; first_content = Some 1; first_exit = None; next = None; mark = None; saving = Due; stood = None } ∷ record (new_slot (Some player_one) None) { stood = Some (dbref_of 0) } ∷ []

-- Rules.

-- d stands where its own fields say so
pub record Stands (slots : List Slot) (exits : Bool) (p d : ℕ) : Type 0 where
  pub place : place_at slots d ≡ Some p
  pub kind : is_exit_at slots d ≡ exits

-- every chain ends, and holds exactly what stands there
pub record HasChains (slots : List Slot) : Type 0 where
  pub ends : (exits : Bool) (p : ℕ) → Ends (length slots) (next_at slots) (first_at exits slots p)
  pub stands : (exits : Bool) (p d : ℕ) → Member d (list_at exits slots p) → Stands slots exits p d
  pub listed : (exits : Bool) (p d : ℕ) → Stands slots exits p d → Member d (list_at exits slots p)

-- the rule of a table within a change
pub record HasOrder (slots : List Slot) : Type 0 where
  pub ends : (exits : Bool) (p : ℕ) → Ends (length slots) (next_at slots) (first_at exits slots p)
  pub ordered : IsOrdered (entries_of slots)

-- the rule of a table
pub record IsSound (slots : List Slot) : Type 0 where
  pub ends : (exits : Bool) (p : ℕ) → Ends (length slots) (next_at slots) (first_at exits slots p)
  pub world : IsConsistent (entries_of slots)
  pub limits : IsWithinLimits (entries_of slots)

-- each player is among these numbers
abbrev pub HasPlayers : List Slot → List ℕ → Type 0
HasPlayers slots players = (k : ℕ) → is_player (kind_at slots k) ≡ true → IsAmong players k

-- the rule of the type: no garbage stands below `lowest`, no mark below `told`, and each player is among `players`
pub record IsKept (slots : List Slot) (lowest told : ℕ) (players : List ℕ) : Type 0 where
  pub sound : IsSound slots
  pub full : (k : ℕ) → k < lowest → is_garbage (kind_at slots k) ≡ false
  pub unmarked : (k : ℕ) → k < told → mark_at slots k ≡ None
  pub listed : HasPlayers slots players

-- Changes of chains.

-- a link leads to d: a list begins with it, or it stands behind
abbrev pub LeadsTo : ℕ → Links → Type 0
LeadsTo d l = (l.content ≡ Some d) ⊎ ((l.exit ≡ Some d) ⊎ (l.next ≡ Some d))

-- d is out of all lists, what led to it is due, and nothing else changed
pub record IsUnlinked (d : ℕ) (old new : List Slot) : Type 0 where
  pub same_length : length new ≡ length old
  pub same_objects : (k : ℕ) → object_at new k ≡ object_at old k
  pub same_marks : (k : ℕ) → mark_at new k ≡ mark_at old k
  pub same_stood : (k : ℕ) → stood_at new k ≡ stood_at old k
  pub due : (k : ℕ) → LeadsTo d (links_in (entries_of old) k) → saving_at new k ≡ Due
  pub same_savings : (k : ℕ) → (LeadsTo d (links_in (entries_of old) k) → ⊥) → saving_at new k ≡ saving_at old k
  pub chains : (exits : Bool) (p : ℕ) → IsChain (length new) (next_at new) (first_at exits new p) (without_number d (list_at exits old p))

-- d is in front of that list of `to`, both are due, and nothing else changed
pub record IsLinked (exits : Bool) (to d : ℕ) (old new : List Slot) : Type 0 where
  pub same_length : length new ≡ length old
  pub same_objects : (k : ℕ) → object_at new k ≡ object_at old k
  pub same_marks : (k : ℕ) → mark_at new k ≡ mark_at old k
  pub same_stood : (k : ℕ) → stood_at new k ≡ stood_at old k
  pub due : saving_at new d ≡ Due
  pub place_due : saving_at new to ≡ Due
  pub same_savings : (k : ℕ) → (k ≡ d → ⊥) → (k ≡ to → ⊥) → saving_at new k ≡ saving_at old k
  pub chains : (which : Bool) (p : ℕ) → IsChain (length new) (next_at new) (first_at which new p) (put_at exits to d which p (list_at which old p))
