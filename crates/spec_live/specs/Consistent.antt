-- Worlds that hang together.
use Rattle.std.specs.Prelude.{◌≡◌, ◌⊎◌, ℕ, ◌<◌, ◌≤◌, Bool, true, List, length, None, Some}
use Rattle.muck_model.specs.declared.dbref.Kind.TheVariants.{Room, Thing, Exit, Player, Garbage}
use Rattle.muck_model.specs.declared.dbref.Kind.{Kind}
use Rattle.spec_live.specs.declared.object.Object.{Object}
use Rattle.spec_live.specs.Chain.{Ends, Member, IsApart}
use Rattle.spec_live.specs.Objects.{Entry, dbref_of, nothing, home, is_exit, is_player, is_garbage, garbage, object_in, list_in, kind_in, place_in, fits_in, places_from}
use Rattle.spec_live.specs.Setting.{may_link, may_live}

-- d stands where its own fields say so
pub record StandsIn (es : List Entry) (exits : Bool) (p d : ℕ) : Type 0 where
  pub place : place_in es d ≡ Some p
  pub kind : is_exit (kind_in es d) ≡ exits

-- What stands in the lists is what has its place there, once, and places lead up to an end.
pub record IsOrdered (es : List Entry) : Type 0 where
  pub stands : (exits : Bool) (p d : ℕ) → Member d (list_in exits es p) → StandsIn es exits p d
  pub listed : (exits : Bool) (p d : ℕ) → StandsIn es exits p d → Member d (list_in exits es p)
  pub once : (exits : Bool) (p : ℕ) → IsApart (list_in exits es p)
  pub up : (d : ℕ) → d < length es → Ends (length es) (place_in es) (Some d)
  pub kinds : (d p : ℕ) → place_in es d ≡ Some p → fits_in es d p ≡ true
  pub top : place_in es 0 ≡ None
  pub room : kind_in es 0 ≡ Room
  pub few : length es ≤ 100000

-- only `#0` and garbage have no place
abbrev pub IsPlaced : List Entry → Type 0
IsPlaced es = (d : ℕ) → place_in es d ≡ None → (d ≡ 0) ⊎ (kind_in es d ≡ Garbage)

-- a player owns it
abbrev pub HasOwner : List Entry → Object → Type 0
HasOwner es o = (n : ℕ) × (o.owner ≡ dbref_of n) × (is_player (kind_in es n) ≡ true)

-- the link is nothing, or that of an exit home, or it leads to what the kind may link to
abbrev pub HasLink : List Entry → Object → Type 0
HasLink es o = (o.link ≡ nothing) ⊎ (((o.kind ≡ Exit) × (o.link ≡ home)) ⊎ ((n : ℕ) × (o.link ≡ dbref_of n) × (may_link o.kind (kind_in es n) ≡ true)))

-- things and players have a home where they may live, and nothing else has one
abbrev pub HasHome : List Entry → Object → Type 0
HasHome es o = HomeOf o.kind
  where
    Lives : Type 0
    Lives = (n : ℕ) × (o.home ≡ dbref_of n) × (may_live o.kind (kind_in es n) ≡ true)

    HomeOf : Kind → Type 0
    HomeOf Thing = Lives
    HomeOf Player = Lives
    HomeOf kind = o.home ≡ nothing

-- the fields that name other objects
pub record IsTied (es : List Entry) (o : Object) : Type 0 where
  pub owner : HasOwner es o
  pub link : HasLink es o
  pub home : HasHome es o

-- Each object that isn't garbage stands exactly once in all lists, in that of its place; places lead up to `#0`; owners
-- are players, kinds and links and homes agree, and garbage is blank. `#0` is a room and `#1` a player.
pub record IsConsistent (es : List Entry) : Type 0 where
  pub ordered : IsOrdered es
  pub placed : IsPlaced es
  pub tied : (k : ℕ) (o : Object) → object_in es k ≡ Some o → IsTied es o
  pub blank : (k : ℕ) (o : Object) → object_in es k ≡ Some o → is_garbage o.kind ≡ true → o ≡ garbage
  pub first : kind_in es 1 ≡ Player

-- d may go to the front of a list of `to`
pub record MayMove (es : List Entry) (d to : ℕ) : Type 0 where
  pub known : d < length es
  pub place : to < length es
  pub lower : d ≡ 0 → ⊥
  pub fits : fits_in es d to ≡ true
  pub free : Member d (places_from es to) → ⊥
