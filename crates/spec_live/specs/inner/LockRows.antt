-- For whom what is kept as a lock opens, by examples.
use Rattle.std.specs.Prelude.{◌≡◌, ℕ, Bool, pos, negsuc, true, false, List, [], ◌∷◌, codes, Option, Some, None, refl}
use Rattle.std.specs.Option.{option_map_or}
use Rattle.std.specs.Fmt.{digits}
use Rattle.std.specs.FinMap.{get, insert, empty, get-insert, get-empty}
use Rattle.std.proofs.Common.{ap}
use Rattle.muck_model.specs.declared.dbref.Dbref.{Dbref}
use Rattle.muck_model.specs.declared.dbref.Kind.TheVariants.{Exit}
use Rattle.muck_model.specs.Decimal.{decimal_of}
use Rattle.muck_model.specs.Numbers.{dbref_written as number_named}
use Rattle.muck_prop.specs.Order.{path_cmp, path_cmp_total}
use Rattle.muck_prop.specs.Store.{PropMap}
use Rattle.muck_prop.specs.declared.value.PropValue.{PropValue}
use Rattle.muck_prop.specs.declared.value.PropValue.TheVariants.{Text, Number}
use Rattle.muck_lock.specs.Grammar.{part_of}
use Rattle.muck_lock.specs.Answers.{text_opens}
use Rattle.muck_lock.specs.Opens.{opens_step}
use Rattle.muck_lock.proofs.Locks.{at_free}
use Rattle.spec_live.specs.Objects.{Entry, dbref_of, nothing, object_at, number_in, kind_in, object_in}
use Rattle.spec_live.specs.Setting.{with_prop}
use Rattle.spec_live.specs.Start.{room_zero, player_one}
use Rattle.spec_live.specs.Worth.{value_text, value_is, holdings_of, kept_opens, opens_at, lock_text}
use Rattle.spec_live.specs.inner.Rows.{made, holding}

abbrev lock_path : List (List ℕ)
lock_path = codes "_" ∷ codes "lok" ∷ []

-- Room Zero, in it One, and an exit of One's with this lock
abbrev gate_world : PropValue → List Entry
gate_world lock =
    holding (1 ∷ []) (2 ∷ []) room_zero ∷
    holding [] [] player_one ∷
    holding [] [] (with_prop lock_path lock (made Exit (dbref_of 0) nothing nothing)) ∷ []

abbrev five : PropValue
five = Number (pos 5)

unfoldable pub LockRows : Type 0
LockRows =
    -- a number for a lock opens for nobody, and what has no lock for all
    ((x : Dbref) → opens_at (gate_world five) x (dbref_of 2) ≡ false)
    × ((x : Dbref) → opens_at (gate_world five) x (dbref_of 0) ≡ true)
    × ((x : Dbref) → opens_at (gate_world five) x (dbref_of 9) ≡ false)
    -- the number is shown in decimal
    × (lock_text (dbref_of 2) (gate_world five) ≡ codes "5")
    × (lock_text (dbref_of 0) (gate_world five) ≡ codes "*UNLOCKED*")
    -- the empty text is the free lock, which opens for all; the text of no lock opens for nobody
    × ((x : Dbref) → kept_opens (gate_world five) x (Text []) ≡ true)
    × (kept_opens (gate_world five) (dbref_of 1) (Text (codes "#1 ")) ≡ false)
    -- a key asks for a number in decimal
    × (value_is (codes "5") five ≡ true)
    × (value_is (codes "05") five ≡ false)
    × (value_is (codes "-5") (Number (negsuc 4)) ≡ true)
    × (value_is (codes "male") (Text (codes "Male")) ≡ false)

abbrev five_props : PropMap
five_props = insert empty lock_path five

five_lock : get five_props lock_path ≡ Some five
five_lock = get-insert path_cmp_total empty lock_path five lock_path

abbrev no_props : PropMap
no_props = empty

no_lock : get no_props lock_path ≡ None
no_lock = get-empty path_cmp lock_path

abbrev shown : Option PropValue → List ℕ
shown lock = option_map_or value_text lock (codes "*UNLOCKED*")

pub lock_rows : LockRows
unfolding LockRows opens_at lock_text text_opens part_of object_at number_in kind_in object_in room_zero player_one number_named decimal_of digits
lock_rows = (
  λ x. ap (λ lock. option_map_or (kept_opens (gate_world five) x) lock true) five_lock,
  λ x. ap (λ lock. option_map_or (kept_opens (gate_world five) x) lock true) no_lock,
  λ x. refl,
  ap shown five_lock,
  ap shown no_lock,
  λ x. ap (λ (f : Dbref → Bool). f x) (at_free (opens_step (holdings_of (gate_world five)))),
  refl,
  refl,
  refl,
  refl,
  refl,
)
