-- Whether records, by the numbers of their objects from 0 on, make a world that hangs together.
use Rattle.std.specs.Prelude.{ℕ, zero, suc, Bool, true, false, not, ◌&&◌, ◌||◌, ◌==◌, nat_lt, if◌then◌else◌, List, [], ◌∷◌, ◌++◌, length, Option, Some, None, slice_get, bytes_eq, codes, option_and_then}
use Rattle.std.specs.Option.{option_map_or}
use Rattle.std.specs.List.{count_by}
use Rattle.muck_model.specs.declared.dbref.Dbref.{Dbref}
use Rattle.muck_model.specs.declared.dbref.Kind.{Kind}
use Rattle.muck_model.specs.declared.dbref.Kind.TheVariants.{Thing, Player, Garbage}
use Rattle.spec_live.specs.Flags.{has_flag, vehicle}
use Rattle.spec_live.specs.Chain.{has}
use Rattle.spec_live.specs.Objects.{dbref_of, index_of, nothing, home, same, is_room, is_exit, is_player, is_garbage, may_stand}
use Rattle.spec_live.specs.Setting.{may_link, may_live}
use Rattle.muck_codec.specs.declared.stored.Stored.{Stored}
use Rattle.muck_store.specs.Forms.{next_of_stored}

-- Readers. What isn't there is garbage.

unfoldable pub stored_kind : List Stored → ℕ → Kind
stored_kind os k = option_map_or (λ s. s.kind) (slice_get os k) Garbage

unfoldable pub seats_in : List Stored → ℕ → Bool
seats_in os k = option_map_or (λ s. has_flag vehicle s.flags) (slice_get os k) false

-- the number is that of an object, and passes
abbrev pub leads_to : (ℕ → Bool) → Dbref → Bool
leads_to test d = option_map_or test (index_of d) false

-- Each record by itself, with the kinds of what it names.

-- nothing, or the number of an object
abbrev pub may_name : List Stored → Dbref → Bool
may_name os d = same d nothing || leads_to (λ n. nat_lt n (length os)) d

-- where a list begins or goes on
abbrev pub has_chains : List Stored → Stored → Bool
has_chains os s = may_name os s.first_content && may_name os s.first_exit && may_name os s.next

abbrev pub has_owner : List Stored → Stored → Bool
has_owner os s = leads_to (λ n. is_player (stored_kind os n)) s.owner

-- only `#0`, a room, stands nowhere
abbrev pub has_place : List Stored → ℕ → Stored → Bool
has_place os zero s = is_room s.kind && not (leads_to (λ n. true) s.place) && same s.next nothing
has_place os (suc k) s = leads_to (λ p. may_stand s.kind (stored_kind os p) (seats_in os p)) s.place

abbrev pub record_has_link : List Stored → Stored → Bool
record_has_link os s = same s.link nothing || (is_exit s.kind && same s.link home) || leads_to (λ n. may_link s.kind (stored_kind os n)) s.link

abbrev pub home_for : Kind → List Stored → Stored → Bool
home_for Thing os s = leads_to (λ n. may_live s.kind (stored_kind os n)) s.home
home_for Player os s = leads_to (λ n. may_live s.kind (stored_kind os n)) s.home
home_for kind os s = same s.home nothing

-- named as garbage is, of `#1`, with no other object named, and in no list
abbrev pub is_loose : Stored → Bool
is_loose s =
    bytes_eq s.name (codes "<garbage>") && same s.owner (dbref_of 1) && same s.place nothing && same s.link nothing && same s.home nothing
    && same s.first_content nothing && same s.first_exit nothing && same s.next nothing

-- garbage is blank
abbrev pub is_blank_record : Stored → Bool
is_blank_record s = is_loose s && s.flags.0 == 0 && s.level == 0 && length s.props == 0 && length s.lines == 0 && length s.digest == 0

abbrev pub agrees_with_records : List Stored → ℕ → Stored → Bool
agrees_with_records os k s = if is_garbage s.kind then is_blank_record s else has_owner os s && has_place os k s && record_has_link os s && home_for s.kind os s && has_chains os s

-- each record has the number of its place, and agrees with the kinds of what it names; the first is of number k
unfoldable pub all_tied : List Stored → ℕ → List Stored → Bool
all_tied os k [] = true
all_tied os k (s ∷ rest) = same s.dbref (dbref_of k) && agrees_with_records os k s && all_tied os (suc k) rest

-- All lists together, from `#0` on down.

-- d has its place there, and is an exit or not
abbrev pub record_stands_in : List Stored → Bool → ℕ → ℕ → Bool
record_stands_in os exits p d = option_map_or (λ s. same s.place (dbref_of p) && (if is_exit s.kind then exits else not exits)) (slice_get os d) false

-- The numbers met so far, with those of the chain from there on behind them; none where one of these was met before, or doesn't stand
-- there. The chain has fewer than n links.
unfoldable pub chain_met : ℕ → List Stored → Bool → ℕ → Option ℕ → List ℕ → Option (List ℕ)
chain_met zero os exits p at met = None
chain_met (suc n) os exits p None met = Some met
chain_met (suc n) os exits p (Some d) met = if record_stands_in os exits p d && not (has d met) then chain_met n os exits p (next_of_stored os d) (met ++ d ∷ []) else None

abbrev pub first_at : Bool → List Stored → ℕ → Option ℕ
first_at exits os p = option_and_then (λ s. index_of (if exits then s.first_exit else s.first_content)) (slice_get os p)

abbrev pub list_met : List Stored → Bool → ℕ → List ℕ → Option (List ℕ)
list_met os exits p met = chain_met (suc (length os)) os exits p (first_at exits os p) met

-- with what the object of that number holds
abbrev pub held_met : List Stored → ℕ → List ℕ → Option (List ℕ)
held_met os p met = option_and_then (list_met os true p) (list_met os false p met)

-- with what those hold that were met, from the i-th on, and so on
unfoldable pub all_met : ℕ → List Stored → ℕ → List ℕ → Option (List ℕ)
all_met zero os i met = Some met
all_met (suc n) os i met = option_map_or (λ p. option_and_then (all_met n os (suc i)) (held_met os p met)) (slice_get met i) (Some met)

-- from `#0` on, whatever isn't garbage is met, and nothing twice
unfoldable pub is_tree : List Stored → Bool
is_tree os = option_map_or (λ met. length met == count_by (λ s. not (is_garbage s.kind)) os) (all_met (length os) os 0 (0 ∷ [])) false

-- There are `#0` and `#1`, a player; each record agrees with the kinds of what it names; and each object but `#0` and garbage stands
-- in the list of its place alone, once, and its places lead up to `#0`.
unfoldable pub is_whole_store : List Stored → Bool
is_whole_store os = is_player (stored_kind os 1) && all_tied os 0 os && is_tree os
