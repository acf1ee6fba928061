-- What of a record is as an object has it.
use Rattle.std.specs.Prelude.{◌≡◌, ℕ, false, true, List, Option, slice_get}
use Rattle.std.specs.Option.{option_map}
use Rattle.muck_prop.specs.Store.{is_nothing}
use Rattle.muck_prop.specs.declared.props.Listed.{Listed}
use Rattle.spec_live.specs.declared.object.Object.{Object}
use Rattle.spec_live.specs.Objects.{Entry, dbref_of, list_in}
use Rattle.muck_codec.specs.declared.stored.Stored.{Stored}
use Rattle.muck_codec.specs.declared.stored.Property.{Property}
use Rattle.muck_codec.specs.inner.Stored.{IsValue}
use Rattle.muck_store.specs.Forms.{properties_of, first_in_list, link_to_number, next_in, stored_of}

-- what is stored of the object of a number
abbrev pub stored_at : List Entry → ℕ → Option Stored
stored_at es k = option_map (stored_of es k) (slice_get es k)

abbrev pub property_at : Listed → Property
property_at listed = record { path = listed.rest; value = listed.value }

-- unless its value is nothing, it may be stored
abbrev pub MayHold : Property → Type 0
MayHold p = is_nothing p.value ≡ false → IsValue p.value

-- its fields of fixed size
pub record HasFields (o : Object) (s : Stored) : Type 0 where
  pub kind : s.kind ≡ o.kind
  pub flags : s.flags ≡ o.flags
  pub level : s.level ≡ o.level
  pub owner : s.owner ≡ o.owner
  pub place : s.place ≡ o.place
  pub link : s.link ≡ o.link
  pub home : s.home ≡ o.home

-- its number, where its lists begin, and what stands behind it
pub record HasLinks (es : List Entry) (k : ℕ) (s : Stored) : Type 0 where
  pub dbref : s.dbref ≡ dbref_of k
  pub content : s.first_content ≡ first_in_list (list_in false es k)
  pub exit : s.first_exit ≡ first_in_list (list_in true es k)
  pub next : s.next ≡ link_to_number (next_in es k)

-- what has any length
pub record HasTexts (o : Object) (s : Stored) : Type 0 where
  pub name : s.name ≡ o.name
  pub digest : s.digest ≡ o.digest
  pub lines : s.lines ≡ o.lines
  pub props : s.props ≡ properties_of o.props
