-- Where something may stand that listens: what has properties below `_listen`.
use Rattle.std.specs.Prelude.{◌≡◌, ◌⊎◌, ℕ, Bool, true, false, List, [], ◌∷◌, Option, Some, slice_get, codes}
use Rattle.std.specs.Option.{option_map_or}
use Rattle.muck_model.specs.declared.dbref.Dbref.{Dbref}
use Rattle.muck_prop.specs.Store.{is_dir}
use Rattle.spec_live.specs.declared.object.Object.{Object}
use Rattle.spec_live.specs.Objects.{Entry, index_of, object_at}
use Rattle.muck_db.specs.declared.slot.Slot.{Slot}
use Rattle.muck_db.specs.declared.ties.Tied.{Tied}
use Rattle.muck_db.specs.declared.hearing.Hearers.{Hearers}
use Rattle.muck_db.specs.inner.Slots.{shown}
use Rattle.muck_db.specs.inner.Ties.{Notes}

abbrev pub listen_path : List (List ℕ)
listen_path = codes "_listen" ∷ []

abbrev pub has_listeners : Object → Bool
has_listeners o = is_dir listen_path o.props

-- an object is there that has some
unfoldable pub listens : List Entry → Dbref → Bool
listens es d = option_map_or has_listeners (object_at d es) false

-- the place of a slot is noted, if it has one
abbrev pub IsPlaceNoted : Tied → Slot → Type 0
IsPlaceNoted places s = (p : ℕ) → index_of (shown s).place ≡ Some p → Notes places p

-- the place of each that listens is noted, but of the one that was written last
pub record AreHeard (h : Hearers) (slots : List Slot) : Type 0 where
  pub path : h.listen ≡ listen_path
  pub noted : (k : ℕ) (s : Slot) → slice_get slots k ≡ Some s → has_listeners (shown s) ≡ true → (h.last ≡ Some k) ⊎ IsPlaceNoted h.places s

-- nothing that listens stands in the place of that number
abbrev pub IsUnheard : ℕ → List Slot → Type 0
IsUnheard p slots = (k : ℕ) (s : Slot) → slice_get slots k ≡ Some s → has_listeners (shown s) ≡ true → index_of (shown s).place ≡ Some p → ⊥
