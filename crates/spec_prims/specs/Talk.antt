-- The rows of the primitives that talk to players.
use Rattle.std.specs.Prelude.{ℕ, zero, suc, take, drop, Bool, true, false, ◌&&◌, nat_le, ℤ, pos, negsuc, min, List, [], ◌∷◌, length, map, reverse, slice_get, if◌then◌else◌, Option, Some, None}
use Rattle.std.specs.List.{filter, filter_map, count_by}
use Rattle.std.specs.Int.{w32, cast_signed}
use Rattle.std.specs.Option.{option_map_or, option_map}
use Rattle.muck_model.specs.declared.dbref.Dbref.{Dbref}
use Rattle.spec_live.specs.Connections.{Connection, is_connection_of, has_player}
use Rattle.spec_live.specs.Lives.{Live, tell_player, tell_but, leave}
use Rattle.spec_rights.specs.declared.act.Actor.{Actor}
use Rattle.spec_rights.specs.declared.act.Act.TheVariants.{Shared}
use Rattle.spec_rights.specs.Verdict.{verdict}
use Rattle.muf_model.specs.declared.fault.MufFault.{MufFault}
use Rattle.muf_model.specs.declared.fault.MufFault.TheVariants.{BadType, BadArgument}
use Rattle.muf_model.specs.declared.prims.Primitive.{Primitive}
use Rattle.muf_model.specs.declared.prims.Primitive.TheVariants.{Notify, NotifyExclude, IsAwake, Online, ConCount, ConDbref, Descriptors, Descr, ConBoot}
use Rattle.muf_model.specs.declared.prims.Family.{Family}
use Rattle.muf_model.specs.declared.prims.Family.TheVariants as kind
use Rattle.muf_model.specs.Datum.{Datum, int, text, object}
use Rattle.muf_model.specs.Prims.{family_of}
use Rattle.spec_prims.specs.Asking.{object_numbered, fault_of_denial}
use Rattle.spec_prims.specs.Row.{WorldAnswer, gives, refuses, WorldDoing, row_unless, unruled}

-- Items.

-- a count, as far as integers go
abbrev pub count_item : ℕ → Datum
count_item n = int (pos (min n 2147483647))

abbrev pub player_item : Dbref → Datum
player_item d = object d.0

abbrev pub number_item : Connection → Datum
number_item c = int (cast_signed w32 c.number)

-- so many items, the first of them the deepest, and their count upon them
abbrev pub items_with_count : List Datum → List Datum
items_with_count items = count_item (length items) ∷ reverse items

-- Who is connected.

-- the players of the connections that have one, by rising connection
abbrev pub players : Live → List Dbref
players w = filter_map (λ c. c.player) w.board.connections

-- the i-th of them, from 1
abbrev pub player_numbered : ℕ → Live → Option Dbref
player_numbered zero w = None
player_numbered (suc n) w = slice_get (players w) n

abbrev pub player_at : ℤ → Live → Option Dbref
player_at (pos n) w = player_numbered n w
player_at (negsuc n) w = None

-- the numbers of the connections that have a player, rising, and the i-th of them, from 1
abbrev pub seated_number : Connection → Option ℕ
seated_number c = option_map (λ d. c.number) c.player

abbrev pub seats : Live → List ℕ
seats w = filter_map seated_number w.board.connections

abbrev pub seat_numbered : ℕ → Live → Option ℕ
seat_numbered zero w = None
seat_numbered (suc n) w = slice_get (seats w) n

abbrev pub seat_at : ℤ → Live → Option ℕ
seat_at (pos n) w = seat_numbered n w
seat_at (negsuc n) w = None

-- there is one
abbrev pub is_place : ℤ → Live → Bool
is_place (pos n) w = nat_le 1 n && nat_le n (count_by has_player w.board.connections)
is_place (negsuc n) w = false

-- Rows.

-- NOTIFY: a text for all connections of a player, and for nobody where the object is none
abbrev pub notified : Actor → List Datum → Live → WorldAnswer
notified a (text t ∷ object d ∷ []) w = gives [] (tell_player (object_numbered d) t w)
notified a items w = refuses BadType

-- NOTIFY_EXCLUDE: a text for the players in a place but those that are named, as many as the item below the text says
abbrev pub item_object : Datum → Option Dbref
item_object (object d) = Some (object_numbered d)
item_object _ = None

abbrev pub told_but : List ℕ → List Dbref → List Datum → Live → WorldAnswer
told_but t but (object d ∷ []) w = gives [] (tell_but (object_numbered d) but t w)
told_but t but items w = refuses BadType

abbrev pub notified_but : Actor → List Datum → Live → WorldAnswer
notified_but a (text t ∷ int (pos n) ∷ rest) w = told_but t (filter_map item_object (take n rest)) (drop n rest) w
notified_but a items w = refuses BadType

-- AWAKE?: how many connections a player has
abbrev pub connections_awake : Actor → List Datum → Live → WorldAnswer
connections_awake a (object d ∷ []) w = gives (count_item (count_by (is_connection_of (object_numbered d)) w.board.connections) ∷ []) w
connections_awake a items w = refuses BadType

-- ONLINE: the players, and CONCOUNT: how many these are
abbrev pub online : Actor → List Datum → Live → WorldAnswer
online a items w = gives (items_with_count (map player_item (players w))) w

abbrev pub connected : Actor → List Datum → Live → WorldAnswer
connected a items w = gives (count_item (count_by has_player w.board.connections) ∷ []) w

-- CONDBREF: one of them by its place
abbrev pub player_given : Option Dbref → Live → WorldAnswer
player_given (Some d) w = gives (player_item d ∷ []) w
player_given None w = refuses BadArgument

abbrev pub connected_at : Actor → List Datum → Live → WorldAnswer
connected_at a (int i ∷ []) w = player_given (player_at i w) w
connected_at a items w = refuses BadType

-- where nobody has that place
abbrev pub place_outside : Actor → List Datum → Live → Option MufFault
place_outside a (int i ∷ []) w = if is_place i w then None else Some BadArgument
place_outside a items w = None

-- CONBOOT: one of them is to leave
abbrev pub booted_seat : Option ℕ → Live → WorldAnswer
booted_seat (Some d) w = gives [] (leave d w)
booted_seat None w = refuses BadArgument

abbrev pub connection_booted : Actor → List Datum → Live → WorldAnswer
connection_booted a (int i ∷ []) w = row_unless (fault_of_denial (verdict w.objects a (Shared 4))) (booted_seat (seat_at i w) w)
connection_booted a items w = refuses BadType

-- DESCRIPTORS: the numbers of a player's connections, rising
abbrev pub descriptors : Actor → List Datum → Live → WorldAnswer
descriptors a (object d ∷ []) w = gives (items_with_count (map number_item (filter (is_connection_of (object_numbered d)) w.board.connections))) w
descriptors a items w = refuses BadType

-- DESCR: the connection of the process
abbrev pub own_connection : Option ℕ → Actor → List Datum → Live → WorldAnswer
own_connection descr a items w = gives (int (option_map_or (cast_signed w32) descr (negsuc 0)) ∷ []) w

-- the row of a primitive, where there is one, in a process of that connection
abbrev pub talk_row : Option ℕ → Primitive → Option WorldDoing
talk_row descr Notify = Some (unruled notified)
talk_row descr NotifyExclude = Some (unruled notified_but)
talk_row descr IsAwake = Some (unruled connections_awake)
talk_row descr Online = Some (unruled online)
talk_row descr ConCount = Some (unruled connected)
talk_row descr ConDbref = Some (record { argued = place_outside; does = connected_at })
talk_row descr Descriptors = Some (unruled descriptors)
talk_row descr Descr = Some (unruled (own_connection descr))
talk_row descr ConBoot = Some (record { argued = place_outside; does = connection_booted })
talk_row descr p = None

abbrev pub is_talk_family : Family → Bool
is_talk_family kind.Talk = true
is_talk_family family = false

abbrev pub is_talk : Primitive → Bool
is_talk p = is_talk_family (family_of p)
