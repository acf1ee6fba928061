-- How players build.
use Rattle.std.specs.Prelude.{ℕ, ◌+◌, Bool, true, false, not, ◌&&◌, ◌||◌, ◌==◌, nat_lt, nat_le, if◌then◌else◌, List, [], ◌∷◌, length, map, codes, Option, Some, None, Result, Ok, Err}
use Rattle.std.specs.Option.{option_map_or}
use Rattle.std.specs.List.{list_any}
use Rattle.std.specs.Char.{to_ascii_lowercase}
use Rattle.muck_model.specs.declared.dbref.Dbref.{Dbref}
use Rattle.muck_model.specs.declared.dbref.Kind.{Kind}
use Rattle.muck_model.specs.declared.dbref.Kind.TheVariants.{Room as RoomKind, Thing as ThingKind, Exit as ExitKind, Garbage}
use Rattle.muck_model.specs.declared.lock.Lock.{Lock}
use Rattle.muck_model.specs.Bytes.{text_most}
use Rattle.muck_prop.specs.declared.value.PropValue.TheVariants.{Text}
use Rattle.muck_match.specs.Words.{is_same}
use Rattle.muck_match.specs.declared.naming.Found.{Found}
use Rattle.muck_match.specs.declared.naming.Found.TheVariants.{One}
use Rattle.muck_match.specs.Naming.{thing_found, player_named}
use Rattle.muck_lock.specs.Naming.{Naming, naming}
use Rattle.muck_lock.specs.Grammar.{lock_of}
use Rattle.muck_lock.specs.Printed.{lock_printed}
use Rattle.spec_live.specs.declared.fault.DbFault.{DbFault}
use Rattle.spec_live.specs.declared.object.Object.{Object}
use Rattle.spec_live.specs.Objects.{Entry, dbref_of, nothing, home, same, is_thing, is_player, is_program, object_at}
use Rattle.spec_live.specs.Making.{create_check}
use Rattle.spec_live.specs.Setting.{every_number, checked, with_link, with_home, link_check, home_check, owner_check, may_link, may_live}
use Rattle.spec_live.specs.Recycling.{recycle_check}
use Rattle.spec_live.specs.Seen.{scenery_of, long_form}
use Rattle.spec_live.specs.Lives.{Live, Change, ◌▸◌, reading, either, tell, place_at}
use Rattle.spec_rights.specs.declared.act.Actor.{Actor}
use Rattle.spec_rights.specs.declared.act.Act.{Act}
use Rattle.spec_rights.specs.declared.act.Act.TheVariants.{Move, Link, NewRoom, NewThing, NewExit, Change as ChangeAct, Rename, Recycle, SetOwner}
use Rattle.spec_rights.specs.Asking.{asked, refused}
use Rattle.spec_rights.specs.Changing.{moved_to, name_given, linked, homed, object_owned_by, property_stored, recycled_now, created_so}
use Rattle.spec_commands.specs.declared.new.New.{New}
use Rattle.spec_commands.specs.declared.new.New.TheVariants.{Room, Thing, Exit}
use Rattle.spec_commands.specs.Replies.{cant_be_done, bad_name, bad_key, created_reply, linked_reply, unlinked_reply, named_reply, locked_reply, teleported_reply, recycled_reply, chowned_reply, found_count}
use Rattle.spec_commands.specs.Finding.{where_so, is_object_so, message_path, names_listed}
use Rattle.spec_commands.specs.Going.{may_move, movable, home_at}

-- Names.

abbrev pub is_reserved : List ℕ → Bool
is_reserved name = is_same name (codes "me") || (is_same name (codes "here") || is_same name (codes "home"))

-- the first byte of a name isn't one that means something else
abbrev pub bad_start : List ℕ → Bool
bad_start [] = true
bad_start (b ∷ name) = b == 35 || (b == 42 || (b == 33 || b == 32))

-- 1 to 80 bytes, none of them 13, that no text for finding means otherwise
unfoldable pub is_name : List ℕ → Bool
is_name name = not (bad_start name || (nat_lt 80 (length name) || (list_any (λ b. b == 13) name || is_reserved name)))

-- a player's name has no space, and no player has it
unfoldable pub is_player_name : List Entry → List ℕ → Bool
is_player_name es name = is_name name && (not (list_any (λ b. b == 32) name) && option_map_or (λ d. false) (player_named (scenery_of es) name) true)

-- Making. Where anything is refused, nothing is made.

abbrev pub allowed : {X : Type 0} → Result X DbFault → Bool
allowed check = may_move check

-- the number that a new object gets and the number of its place
abbrev pub made_at : Result (ℕ × ℕ) DbFault → (ℕ → ℕ → Change) → Change → Change
made_at (Ok p) go otherwise = go p.0 p.1
made_at (Err fault) go otherwise = otherwise

-- the player sees the long form of what was made
unfoldable pub created_shown : ℕ → ℕ → Change
created_shown d n = reading (λ w. option_map_or (long_form n) (object_at (dbref_of n) w.objects) []) (λ name. tell d (created_reply name))

-- an object is made in a place, with a field set at once
unfoldable pub making : ℕ → Actor → Kind → List ℕ → Dbref → (Object → Object) → Change
making d a kind name place f =
    reading (λ w. create_check kind a.user place w.objects) (λ check.
    made_at check (λ n to. created_so n kind name a.user to f ▸ created_shown d n) (tell d cant_be_done))

-- a thing may have its home there
abbrev pub may_house : Dbref → Live → Bool
may_house to w = is_object_so (λ o. may_live ThingKind o.kind) to w

-- an exit may lead there
abbrev pub may_lead : Dbref → Live → Bool
may_lead to w = same to home || (same to nothing || is_object_so (λ o. may_link ExitKind o.kind) to w)

-- what is to be made: its kind, the field that is set at once, and what that may be; and the act by which it is asked
abbrev pub kind_made : New → Kind
kind_made Room = RoomKind
kind_made (Thing at) = ThingKind
kind_made (Exit to) = ExitKind

abbrev pub as_new : New → Object → Object
as_new Room = λ o. o
as_new (Thing at) = with_home at
as_new (Exit to) = with_link to

abbrev pub may_be : New → Live → Bool
may_be Room w = true
may_be (Thing at) w = may_house at w
may_be (Exit to) w = may_lead to w

abbrev pub act_in : Dbref → New → Act
act_in place Room = NewRoom place
act_in place (Thing at) = NewThing place
act_in place (Exit to) = NewExit place to

-- it is made in a place, where neither a rule nor the world denies it
unfoldable pub object_made : ℕ → Actor → New → List ℕ → Dbref → Change
object_made d a new name place =
    asked a (act_in place new) (refused d)
    (where_so (may_be new) (tell d cant_be_done) (making d a (kind_made new) name place (as_new new)))

-- `@create`: a thing that the player carries, whose home is the player's
unfoldable pub thing_made : ℕ → Actor → List ℕ → Change
thing_made d a name = reading (home_at a.player) (λ at. object_made d a (Thing at) name a.player)

-- `@open`: an exit where the player is
unfoldable pub exit_opened : ℕ → Actor → List ℕ → Dbref → Change
exit_opened d a name to = reading (place_at a.player) (λ here. object_made d a (Exit to) name here)

-- Writing, which a rule or the world may refuse.

-- where the world allows it, it is done and told
unfoldable pub done_where : ℕ → (Live → Bool) → Change → List ℕ → Change
done_where d may change reply = where_so may (tell d cant_be_done) (change ▸ tell d reply)

-- the rules are asked first
unfoldable pub change_by_leave : ℕ → Actor → Act → (Live → Bool) → Change → List ℕ → Change
change_by_leave d a act may change reply = asked a act (refused d) (done_where d may change reply)

-- Links and homes.

-- exits and rooms have a link, things and players a home
abbrev pub object_has_home : Dbref → Live → Bool
object_has_home x w = is_object_so (λ o. is_thing o.kind || is_player o.kind) x w

abbrev pub is_linkable : Dbref → Live → Bool
is_linkable x w = is_object_so (λ o. not (is_program o.kind)) x w

-- a link, or the home of what has one
abbrev pub may_tie : Dbref → Dbref → Dbref → Live → Bool
may_tie x link at w = if object_has_home x w then allowed (home_check x at w.objects) else allowed (link_check x link w.objects)

unfoldable pub tied : Dbref → Dbref → Dbref → Change
tied x link at = reading (object_has_home x) (λ b. either b (homed x at) (linked x link))

-- `@link`
unfoldable pub link_set : ℕ → Actor → Dbref → Dbref → Change
link_set d a x to = where_so (is_linkable x) (tell d cant_be_done) (change_by_leave d a (Link x to) (may_tie x to to) (tied x to to) linked_reply)

-- `@unlink`: a link is cleared, and a home becomes `#0`
unfoldable pub link_cleared : ℕ → Actor → Dbref → Change
link_cleared d a x =
    where_so (is_linkable x) (tell d cant_be_done) (change_by_leave d a (Link x nothing) (may_tie x nothing (dbref_of 0)) (tied x nothing (dbref_of 0)) unlinked_reply)

-- Names, messages and locks.

-- a player has a name that no other has
abbrev pub may_be_called : Dbref → List ℕ → Live → Bool
may_be_called x name w = if is_object_so (λ o. is_player o.kind) x w then is_player_name w.objects name else is_name name

abbrev pub is_still_there : Dbref → Live → Bool
is_still_there x w = allowed (checked every_number x w.objects)

-- `@name`
unfoldable pub name_set : ℕ → Actor → Dbref → List ℕ → Change
name_set d a x name = where_so (may_be_called x name) (tell d bad_name) (change_by_leave d a (Rename x) (is_still_there x) (name_given x name) named_reply)

-- a message or a lock is kept; an empty text clears it
unfoldable pub text_kept : ℕ → Actor → Dbref → List ℕ → List ℕ → List ℕ → Change
text_kept d a x word text reply = change_by_leave d a (ChangeAct x) (is_still_there x) (property_stored x (message_path word) (Text text)) reply

-- the names in a key are found by the player, and no program is a key
abbrev pub found_one : Found → Option Dbref
found_one (One x) = Some x
found_one found = None

abbrev pub keys_in : List Entry → Dbref → Naming
keys_in es player = naming (λ name. found_one (thing_found (scenery_of es) player name)) (λ x. option_map_or (λ o. is_program o.kind) (object_at x es) false)

abbrev pub key_names : Live → Dbref → Naming
key_names w player = keys_in w.objects player

-- the text that is kept of a key: the lock as it is printed, where that isn't too long
abbrev pub key_kept : Result Lock ℕ → Option (List ℕ)
key_kept (Ok lock) = if nat_le (length (lock_printed lock)) text_most then Some (lock_printed lock) else None
key_kept (Err at) = None

abbrev pub key_read : Dbref → List ℕ → Live → Option (List ℕ)
key_read player key w = key_kept (lock_of (key_names w player) key)

abbrev pub lock_kept : ℕ → Dbref → Option (List ℕ) → Change
lock_kept d x (Some text) = done_where d (is_still_there x) (property_stored x (message_path (codes "lok")) (Text text)) locked_reply
lock_kept d x None = tell d bad_key

-- `@lock`
unfoldable pub lock_set : ℕ → Actor → Dbref → List ℕ → Change
lock_set d a x key = asked a (ChangeAct x) (refused d) (reading (key_read a.player key) (lock_kept d x))

-- Moving, recycling and owners.

-- home as a place is the object's own
abbrev pub meant_place : Dbref → Dbref → Live → Dbref
meant_place x to w = if same to home then home_at x w else to

unfoldable pub object_placed : Dbref → Dbref → Change
object_placed x to = reading (meant_place x to) (λ place. moved_to x place)

-- `@teleport`
unfoldable pub teleported : ℕ → Actor → Dbref → Dbref → Change
teleported d a x to = change_by_leave d a (Move x to) (λ w. movable x (meant_place x to w) w) (object_placed x to) teleported_reply

-- `@recycle`
unfoldable pub recycled_by_command : ℕ → Actor → Dbref → Change
recycled_by_command d a x = change_by_leave d a (Recycle x) (λ w. allowed (recycle_check x w.objects)) (recycled_now x) recycled_reply

-- `@chown`
unfoldable pub chowned : ℕ → Actor → Dbref → Dbref → Change
chowned d a x owner = change_by_leave d a (SetOwner x owner) (λ w. allowed (owner_check x owner w.objects)) (object_owned_by x owner) chowned_reply

-- Looking things up.

-- the first text stands in the second, without regard to case
abbrev pub text_begins : List ℕ → List ℕ → Bool
text_begins [] text = true
text_begins (b ∷ part) [] = false
text_begins (b ∷ part) (c ∷ text) = b == c && text_begins part text

abbrev pub text_stands_in : List ℕ → List ℕ → Bool
text_stands_in part [] = text_begins part []
text_stands_in part (c ∷ text) = text_begins part (c ∷ text) || text_stands_in part text

unfoldable pub holds_name : List ℕ → List ℕ → Bool
holds_name part name = text_stands_in (map to_ascii_lowercase part) (map to_ascii_lowercase name)

-- the user's objects whose name holds the text, by number, where the first number is n
unfoldable pub owned_named : Dbref → List ℕ → ℕ → List Entry → List Dbref
owned_named user part n [] = []
owned_named user part n (e ∷ es) =
    if is_garbage_kind e.object.kind then owned_named user part (n + 1) es else
    (if same e.object.owner user && holds_name part e.object.name then dbref_of n ∷ owned_named user part (n + 1) es else owned_named user part (n + 1) es)
  where
    is_garbage_kind : Kind → Bool
    is_garbage_kind Garbage = true
    is_garbage_kind kind = false

-- `@find`
unfoldable pub find_shown : ℕ → Actor → List ℕ → Change
find_shown d a part = reading (λ w. owned_named a.user part 0 w.objects) (λ xs. names_listed d a.player xs ▸ tell d (found_count (length xs)))
