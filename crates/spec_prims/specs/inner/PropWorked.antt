-- Worked rows of the primitives of properties, which the checker computes.
use Rattle.std.specs.Prelude.{◌≡◌, ℕ, pos, List, [], ◌∷◌, Some, None, codes, refl}
use Rattle.muck_prop.specs.declared.value.PropValue.TheVariants.{Text, Number}
use Rattle.spec_live.specs.Objects.{dbref_of, object_at, number_in, kind_in, object_in}
use Rattle.spec_live.specs.Boards.{first_tune, early_board}
use Rattle.spec_live.specs.Start.{room_zero, player_one, first_objects}
use Rattle.spec_rights.specs.declared.act.Actor.{Actor}
use Rattle.spec_rights.specs.Levels.{owner_at, owns, controls_as}
use Rattle.spec_rights.specs.Verdict.{is_near, controls}
use Rattle.spec_rights.specs.Changing.{property_stored, unstored}
use Rattle.muf_model.specs.declared.fault.MufFault.TheVariants.{BadType, BadArgument, Denied}
use Rattle.muf_model.specs.declared.prims.Primitive.TheVariants.{GetProp, GetPropStr, SetProp, AddProp, RemoveProp, NextProp, EnvProp}
use Rattle.muf_model.specs.Datum.{Datum, int, text, object}
use Rattle.spec_prims.specs.Asking.{level_fault, is_number_there, near_fault}
use Rattle.spec_prims.specs.Row.{gives, refuses}
use Rattle.spec_prims.specs.Shared.{first_fault, shared}
use Rattle.spec_prims.specs.PropRows.{listing_begins, directory_fault}
use Rattle.spec_prims.specs.inner.Rows.{at_first, acting_at}

-- the text of a path upon One
abbrev pub upon : List ℕ → List Datum
upon path = text path ∷ object (pos 1) ∷ []

-- an actor who owns nothing, for One, to whom all is near
abbrev pub stranger : ℕ → Actor
stranger level = record { level = level; user = dbref_of 7; player = dbref_of 1 }

-- the rows
unfoldable pub PropWorked : Type 0
PropWorked =
    -- what is near is asked before the path, and the path before leave
    (shared GetProp (acting_at 1 7) None 0 (upon (codes "a:b")) at_first ≡ refuses (Denied 2))
    × (shared GetProp (acting_at 2 7) None 0 (upon (codes "a:b")) at_first ≡ refuses BadArgument)
    × (shared SetProp (stranger 1) None 0 (int (pos 1) ∷ upon (codes "@a:b")) at_first ≡ refuses BadArgument)
    -- the leave that each class of paths wants, to be read and to be written
    × (shared GetProp (stranger 3) None 0 (upon (codes "@x")) at_first ≡ refuses (Denied 3))
    × (shared GetPropStr (stranger 2) None 0 (upon (codes "a/.x")) at_first ≡ refuses (Denied 5))
    × (shared EnvProp (stranger 2) None 0 (upon (codes ".x")) at_first ≡ refuses (Denied 5))
    × (shared SetProp (stranger 3) None 0 (int (pos 1) ∷ upon (codes "a/@x")) at_first ≡ refuses (Denied 3))
    × (shared SetProp (stranger 3) None 0 (int (pos 1) ∷ upon (codes "~x")) at_first ≡ refuses (Denied 4))
    × (shared SetProp (stranger 2) None 0 (int (pos 1) ∷ upon (codes "_x")) at_first ≡ refuses (Denied 6))
    × (shared RemoveProp (stranger 1) None 0 (upon (codes "x")) at_first ≡ refuses (Denied 7))
    -- what is neither a text nor an integer isn't stored
    × (shared SetProp (acting_at 1 1) None 0 (object (pos 1) ∷ upon (codes "x")) at_first ≡ refuses BadType)
    -- what is stored, at which path, and what is added and removed
    × (shared SetProp (acting_at 1 1) None 0 (int (pos 5) ∷ upon (codes "/A//b/")) at_first ≡ gives [] (property_stored (dbref_of 1) (codes "a" ∷ codes "b" ∷ []) (Number (pos 5)) at_first))
    × (shared AddProp (acting_at 1 1) None 0 (int (pos 5) ∷ text (codes "t") ∷ upon (codes "x")) at_first ≡ gives [] (property_stored (dbref_of 1) (codes "x" ∷ []) (Text (codes "t")) at_first))
    × (shared AddProp (acting_at 1 1) None 0 (int (pos 5) ∷ text [] ∷ upon (codes "x")) at_first ≡ gives [] (property_stored (dbref_of 1) (codes "x" ∷ []) (Number (pos 5)) at_first))
    × (shared RemoveProp (acting_at 1 1) None 0 (upon (codes "x")) at_first ≡ gives [] (unstored (dbref_of 1) (codes "x" ∷ []) at_first))
    -- the directory that a text speaks of, and the child behind which it goes on
    × (shared NextProp (acting_at 1 1) None 0 (upon (codes "a:/")) at_first ≡ refuses BadArgument)
    × (listing_begins (codes "a/b") ≡ (codes "a" ∷ [], Some (codes "a" ∷ codes "b" ∷ [])))
    × (listing_begins (codes "a/b/") ≡ (codes "a" ∷ codes "b" ∷ [], None))
    × (listing_begins (codes "/a") ≡ ([], Some (codes "a" ∷ [])))
    × (listing_begins [] ≡ ([], None))
    × (directory_fault (codes "//") ≡ None)

pub prop_worked : PropWorked
unfolding PropWorked first_tune early_board object_at number_in kind_in object_in room_zero player_one first_objects is_near controls owner_at owns controls_as level_fault is_number_there near_fault first_fault shared
prop_worked = (refl, refl, refl, refl, refl, refl, refl, refl, refl, refl, refl, refl, refl, refl, refl, refl, refl, refl, refl, refl, refl)
