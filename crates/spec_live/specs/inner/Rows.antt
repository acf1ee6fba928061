-- Worked examples, which the checker computes.
use Rattle.std.specs.Prelude.{◌≡◌, ℕ, true, false, List, [], ◌∷◌, ◌++◌, map, refl, codes, Option, Some, None, Ok, Err, replicate}
use Rattle.std.specs.Option.{option_map}
use Rattle.muck_model.specs.declared.dbref.Dbref.{Dbref}
use Rattle.muck_model.specs.declared.dbref.Kind.{Kind}
use Rattle.muck_model.specs.declared.dbref.Kind.TheVariants.{Room, Thing, Exit, Player, Program, Garbage}
use Rattle.spec_live.specs.declared.object.Object.{Object}
use Rattle.spec_live.specs.declared.saving.Saving.TheVariants.{Done, Due}
use Rattle.spec_live.specs.declared.saving.Saving.{Saving}
use Rattle.spec_live.specs.declared.fault.DbFault.TheVariants.{NoSuchObject, WouldLoop, WrongKind}
use Rattle.spec_live.specs.Flags.{no_flags, vehicle}
use Rattle.spec_live.specs.Chain.{walk, has, without_number, follower}
use Rattle.spec_live.specs.Objects.{Entry, dbref_of, nothing, object_in, list_in, kind_in, place_in, places_from, fits_in, flags_in, is_vehicle_in, number_in, owner_in, home_in, changed_at, bare_object, garbage}
use Rattle.spec_live.specs.Moving.{set_down, moved, move_judged, move_check}
use Rattle.spec_live.specs.Saving.{next_in, links_in, due_from, relinked}
use Rattle.spec_live.specs.Stood.{stilled, moves_from}
use Rattle.spec_live.specs.Making.{free_in, objects_most, may_make, make_judged, owner_judged, create_check}
use Rattle.spec_live.specs.Setting.{checked, holds_player, keeps_seats, flags_check}
use Rattle.spec_live.specs.Recycling.{untied, wished_home, may_go, way_home, sent_home, exits_gone, vanished, taken_away, gone_entry, recycled}
use Rattle.spec_live.specs.Start.{room_zero, player_one}
use Rattle.spec_live.specs.Output.{Output, notice, sent_lines_bytes, sent_lines, queue_most, newest, line_sent, lines_taken, notice_taken, output_taken}

-- Objects.

-- what `#1` owns, in that place, with this home and this link
abbrev pub made : Kind → Dbref → Dbref → Dbref → Object
made kind place home link = record (bare_object kind (codes "it") (dbref_of 1)) { place = place; home = home; link = link }

abbrev pub owned_by : ℕ → Object → Object
owned_by n o = record o { owner = dbref_of n }

abbrev pub with_seats : Object → Object
with_seats o = record o { flags = record { 0 = vehicle } }

abbrev pub holding : List ℕ → List ℕ → Object → Entry
holding contents exits o = record { object = o; contents = contents; exits = exits; mark = None; saving = Done; stood = None }

abbrev pub link_in : List Entry → ℕ → Option Dbref
link_in es k = option_map (λ o. o.link) (object_in es k)

-- Den `#2`, in it ball `#3`, and exit `#4` of Room Zero that leads there
abbrev pub den_world : List Entry
den_world =
    holding (2 ∷ 1 ∷ []) (4 ∷ []) room_zero ∷
    holding [] [] player_one ∷
    holding (3 ∷ []) [] (made Room (dbref_of 0) nothing nothing) ∷
    holding [] [] (made Thing (dbref_of 2) (dbref_of 0) nothing) ∷
    holding [] [] (made Exit (dbref_of 0) nothing (dbref_of 2)) ∷ []

-- Den becomes garbage, the ball goes home, and the exit leads nowhere
abbrev pub den_gone : List Entry → Kind × Option ℕ × Option Dbref × List ℕ
den_gone es = (kind_in es 2, place_in es 3, link_in es 4, list_in false es 0)

-- Car `#2`, in which player `#3`, his program `#4` and ball `#6` are; he lives in Den `#5`, and the ball with him. Lamp
-- `#7` lives in the car, and exit `#8` is attached to it.
abbrev pub car_world : List Entry
car_world =
    holding (5 ∷ 2 ∷ 1 ∷ []) [] room_zero ∷
    holding [] [] player_one ∷
    holding (7 ∷ 6 ∷ 4 ∷ 3 ∷ []) (8 ∷ []) (with_seats (made Thing (dbref_of 0) (dbref_of 0) nothing)) ∷
    holding [] [] (owned_by 3 (made Player (dbref_of 2) (dbref_of 5) nothing)) ∷
    holding [] [] (owned_by 3 (made Program (dbref_of 2) nothing nothing)) ∷
    holding [] [] (made Room (dbref_of 0) nothing nothing) ∷
    holding [] [] (made Thing (dbref_of 2) (dbref_of 3) nothing) ∷
    holding [] [] (made Thing (dbref_of 2) (dbref_of 2) nothing) ∷
    holding [] [] (made Exit (dbref_of 2) nothing (dbref_of 0)) ∷ []

abbrev pub lists_of : List Entry → List ℕ × List ℕ × List ℕ × List ℕ
lists_of es = (list_in false es 0, list_in false es 2, list_in false es 3, list_in false es 5)

abbrev pub car_gone : List Entry → Kind × Kind × Option ℕ × Option ℕ
car_gone es = (kind_in es 2, kind_in es 8, home_in es 7, place_in es 8)

-- Bag `#3`, in it box `#4`, garbage `#2`
abbrev pub bag_world : List Entry
bag_world =
    holding (3 ∷ 1 ∷ []) [] room_zero ∷
    holding [] [] player_one ∷
    gone_entry (holding [] [] garbage) ∷
    holding (4 ∷ []) [] (made Thing (dbref_of 0) (dbref_of 0) nothing) ∷
    holding [] [] (made Thing (dbref_of 3) (dbref_of 0) nothing) ∷ []

-- how the objects stand to the dumps
abbrev pub savings : List Entry → List Saving
savings es = map (λ e. e.saving) es

-- Output.

-- a line of 12 bytes with its end
abbrev pub line : List ℕ
line = replicate 10 120

-- a queue that such lines fill, the oldest of other bytes
abbrev pub full : Output
full = record { rest = []; flushed = false; lines = replicate 10 97 ∷ replicate 10921 line }

pub record Rows : Type 0 where
  pub recycled_den_row : den_gone (recycled 2 den_world) ≡ (Garbage, Some 0, Some nothing, 3 ∷ 1 ∷ [])
  pub recycled_car_row : lists_of (recycled 2 car_world) ≡ (7 ∷ 5 ∷ 1 ∷ [], [], 6 ∷ [], 3 ∷ 4 ∷ [])
  pub recycled_ties_row : car_gone (recycled 2 car_world) ≡ (Garbage, Garbage, Some 0, None)
  -- `#1` still stands last in Room Zero, and so it isn't due
  pub recycled_due_row : savings (recycled 2 den_world) ≡ Due ∷ Done ∷ Due ∷ Due ∷ Due ∷ []
  -- `#1` goes from the end of Room Zero to the front of the car: what stood before it is due with it, and nothing else
  pub moved_due_row : savings (moved 1 2 car_world) ≡ Done ∷ Due ∷ Due ∷ Done ∷ Done ∷ Done ∷ Done ∷ Done ∷ Done ∷ []
  -- `#3` goes from the car to Room Zero, and the ball with it, which is no player
  pub moves_row : moves_from 0 (moved 6 0 (moved 3 0 (stilled car_world))) ≡ record { player = dbref_of 3; from = dbref_of 2; to = dbref_of 0 } ∷ []
  -- there and back again is no move, and nobody was there before the event
  pub moves_back_row : moves_from 0 (moved 3 2 (moved 3 0 (stilled car_world))) ≡ []
  pub moves_new_row : moves_from 0 (moved 3 0 car_world) ≡ []
  pub move_loop_row : move_check (dbref_of 3) (dbref_of 4) bag_world ≡ Err WouldLoop
  pub move_itself_row : move_check (dbref_of 3) (dbref_of 3) bag_world ≡ Err WouldLoop
  pub move_nowhere_row : move_check (dbref_of 3) (dbref_of 99999) bag_world ≡ Err NoSuchObject
  pub move_garbage_row : move_check (dbref_of 2) (dbref_of 0) bag_world ≡ Err NoSuchObject
  pub move_room_zero_row : move_check (dbref_of 0) (dbref_of 0) bag_world ≡ Err WrongKind
  -- a player may be in a thing only where it is a vehicle
  pub move_player_row : move_check (dbref_of 1) (dbref_of 3) bag_world ≡ Err WrongKind
  pub move_into_car_row : move_check (dbref_of 1) (dbref_of 2) car_world ≡ Ok (1, 2)
  -- a new object takes the number of garbage
  pub create_row : create_check Thing (dbref_of 1) (dbref_of 3) bag_world ≡ Ok (2, 3)
  -- only a player owns what isn't a player
  pub create_owned_row : create_check Thing (dbref_of 3) (dbref_of 0) bag_world ≡ Err WrongKind
  -- a player keeps his seat
  pub flags_seat_row : flags_check (dbref_of 2) no_flags car_world ≡ Err WrongKind
  -- With room for 30 bytes, the newest two of three lines stay.
  pub newest_row : newest 30 (codes "aaaaaaaaaa" ∷ codes "bbbbbbbbbb" ∷ codes "cccccccccc" ∷ []) ≡ codes "bbbbbbbbbb" ∷ codes "cccccccccc" ∷ []
  -- With one more the oldest goes, and the newest 10,922 stay.
  pub full_row : line_sent line full ≡ record { rest = []; flushed = true; lines = replicate 10922 line }
  -- the notice that was taken in part becomes the rest
  pub notice_taken_row : output_taken 5 (record { rest = []; flushed = true; lines = line ∷ [] }) ≡ record { rest = codes "ut Flushed>" ++ 13 ∷ 10 ∷ []; flushed = false; lines = line ∷ [] }
  -- and a line likewise
  pub line_taken_row : output_taken 4 (record { rest = codes "ab"; flushed = false; lines = codes "cdef" ∷ line ∷ [] }) ≡ record { rest = codes "ef" ++ 13 ∷ 10 ∷ []; flushed = false; lines = line ∷ [] }
  -- a text with byte 13 is two lines
  pub sent_lines_row : sent_lines (codes "one" ++ 13 ∷ codes "two") ≡ codes "one" ∷ codes "two" ∷ []

pub rows : Rows
unfolding moves_from stilled recycled taken_away relinked due_from links_in next_in follower set_down untied vanished exits_gone sent_home way_home wished_home may_go gone_entry garbage moved changed_at kind_in object_in list_in place_in places_from fits_in flags_in is_vehicle_in home_in owner_in walk has without_number room_zero player_one move_check move_judged number_in create_check owner_judged make_judged may_make free_in objects_most flags_check checked keeps_seats holds_player newest sent_lines_bytes line_sent queue_most output_taken notice_taken notice lines_taken sent_lines
rows = record { recycled_den_row = refl; recycled_car_row = refl; recycled_ties_row = refl; recycled_due_row = refl; moved_due_row = refl; moves_row = refl; moves_back_row = refl; moves_new_row = refl; move_loop_row = refl; move_itself_row = refl; move_nowhere_row = refl; move_garbage_row = refl; move_room_zero_row = refl; move_player_row = refl; move_into_car_row = refl; create_row = refl; create_owned_row = refl; flags_seat_row = refl; newest_row = refl; full_row = refl; notice_taken_row = refl; line_taken_row = refl; sent_lines_row = refl }
