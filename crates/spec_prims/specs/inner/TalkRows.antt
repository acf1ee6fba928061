-- Worked rows of the primitives of talk, which the checker computes.
use Rattle.std.specs.Prelude.{◌≡◌, ℕ, pos, negsuc, false, [], ◌∷◌, codes, Option, Some, None, refl}
use Rattle.muck_model.specs.declared.dbref.Dbref.{Dbref}
use Rattle.spec_live.specs.Objects.{dbref_of, object_at, number_in, kind_in, object_in}
use Rattle.spec_live.specs.Boards.{told_others, first_tune, early_board, with_connections}
use Rattle.spec_live.specs.Connections.{Connection}
use Rattle.spec_live.specs.Output.{no_output}
use Rattle.spec_live.specs.Lives.{Live, tell_but, leave}
use Rattle.spec_live.specs.Start.{room_zero, player_one, first_objects}
use Rattle.spec_rights.specs.Verdict.{is_near}
use Rattle.muf_model.specs.declared.fault.MufFault.TheVariants.{BadArgument, NoSuchObject, Denied}
use Rattle.muf_model.specs.declared.prims.Primitive.TheVariants.{NotifyExclude, IsAwake, Online, ConCount, ConDbref, Descriptors, Descr, ConBoot}
use Rattle.muf_model.specs.Datum.{Datum, int, text, object}
use Rattle.spec_prims.specs.Asking.{level_fault, is_number_there, near_fault}
use Rattle.spec_prims.specs.Row.{gives, refuses}
use Rattle.spec_prims.specs.Shared.{first_fault, shared}
use Rattle.spec_prims.specs.inner.Rows.{at_first, acting_at}

-- a connection, of that player where there is one
abbrev pub connection_of : Option Dbref → ℕ → Connection
connection_of player d = record { number = d; player = player; waiting = []; editor = None; leaving = false; output = no_output }

-- One is connected twice, and somebody at the login screen
abbrev pub crowded : Live
crowded = record at_first { board = with_connections (connection_of (Some (dbref_of 1)) 2 ∷ connection_of None 5 ∷ connection_of (Some (dbref_of 1)) 9 ∷ []) (early_board 0 first_tune) }

abbrev pub one : Datum
one = object (pos 1)

abbrev pub number : ℕ → Datum
number n = int (pos n)

-- the rows
unfoldable pub TalkRows : Type 0
TalkRows =
    -- a text for a room but for those that are named, as many as the item below it says; a count below none, and who isn't there
    (shared NotifyExclude (acting_at 1 1) None 0 (text (codes "x") ∷ number 1 ∷ one ∷ object (pos 0) ∷ []) crowded ≡ gives [] crowded)
    × (shared NotifyExclude (acting_at 1 1) None 0 (text (codes "x") ∷ number 0 ∷ object (pos 0) ∷ one ∷ []) crowded ≡ gives (one ∷ []) (tell_but (dbref_of 0) [] (codes "x") crowded))
    × (shared NotifyExclude (acting_at 1 1) None 0 (text (codes "x") ∷ int (negsuc 0) ∷ object (pos 0) ∷ []) crowded ≡ refuses BadArgument)
    × (shared NotifyExclude (acting_at 1 1) None 0 (text (codes "x") ∷ number 1 ∷ object (pos 7) ∷ object (pos 0) ∷ []) crowded ≡ refuses NoSuchObject)
    -- the connections of a player, of a room, and of what isn't there
    × (shared IsAwake (acting_at 1 1) None 0 (one ∷ []) crowded ≡ gives (number 2 ∷ []) crowded)
    × (shared IsAwake (acting_at 1 1) None 0 (object (pos 0) ∷ []) crowded ≡ gives (number 0 ∷ []) crowded)
    × (shared IsAwake (acting_at 1 1) None 0 (object (pos 7) ∷ []) crowded ≡ refuses NoSuchObject)
    -- who is connected, once for each connection, and how many that is
    × (shared Online (acting_at 3 1) None 0 [] crowded ≡ gives (number 2 ∷ one ∷ one ∷ []) crowded)
    × (shared Online (acting_at 2 1) None 0 [] crowded ≡ refuses (Denied 1))
    × (shared ConCount (acting_at 1 1) None 0 [] crowded ≡ gives (number 2 ∷ []) crowded)
    -- by their places, from 1
    × (shared ConDbref (acting_at 3 1) None 0 (number 2 ∷ []) crowded ≡ gives (one ∷ []) crowded)
    × (shared ConDbref (acting_at 3 1) None 0 (number 3 ∷ []) crowded ≡ refuses BadArgument)
    × (shared ConDbref (acting_at 3 1) None 0 (number 0 ∷ []) crowded ≡ refuses BadArgument)
    × (shared ConDbref (acting_at 3 1) None 0 (int (negsuc 0) ∷ []) crowded ≡ refuses BadArgument)
    -- the numbers of connections, the highest nearest to the count
    × (shared Descriptors (acting_at 3 1) None 0 (one ∷ []) crowded ≡ gives (number 2 ∷ number 9 ∷ number 2 ∷ []) crowded)
    × (shared Descr (acting_at 1 1) (Some 9) 0 [] crowded ≡ gives (number 9 ∷ []) crowded)
    × (shared Descr (acting_at 1 1) None 0 [] crowded ≡ gives (int (negsuc 0) ∷ []) crowded)
    -- the second connection that has a player is to leave, by leave for the highest level; there is no third
    × (shared ConBoot (acting_at 4 1) None 0 (number 2 ∷ []) crowded ≡ gives [] (leave 9 crowded))
    × (shared ConBoot (acting_at 4 1) None 0 (number 3 ∷ []) crowded ≡ refuses BadArgument)
    × (shared ConBoot (acting_at 3 1) None 0 (number 2 ∷ []) crowded ≡ refuses (Denied 1))

pub talk_rows : TalkRows
unfolding TalkRows tell_but told_others is_near first_tune early_board object_at number_in kind_in object_in room_zero player_one first_objects level_fault is_number_there near_fault first_fault shared
talk_rows = (refl, refl, refl, refl, refl, refl, refl, refl, refl, refl, refl, refl, refl, refl, refl, refl, refl, refl, refl, refl)
