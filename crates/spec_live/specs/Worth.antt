-- What the value of a property is worth: as a text, for a key, as a message, and as a lock. All that shows, compares or tries one goes by this.
use Rattle.std.specs.Prelude.{ℕ, Bool, true, false, List, [], ◌∷◌, codes, Option, Some, None}
use Rattle.std.specs.Option.{option_map, option_map_or, option_and_then}
use Rattle.std.specs.FinMap.{get}
use Rattle.std.specs.Fmt.{signed_decimal}
use Rattle.std.specs.Str.{bytes_eq}
use Rattle.muck_model.specs.declared.dbref.Dbref.{Dbref}
use Rattle.muck_prop.specs.declared.value.PropValue.{PropValue}
use Rattle.muck_prop.specs.declared.value.PropValue.TheVariants.{Text, Number}
use Rattle.muck_prop.specs.Store.{PropMap, kept_text}
use Rattle.muck_prop.specs.Paths.{path_fault, segments_of}
use Rattle.muck_lock.specs.Opens.{Holdings}
use Rattle.muck_lock.specs.Answers.{text_opens}
use Rattle.spec_live.specs.declared.object.Object.{Object}
use Rattle.spec_live.specs.Objects.{Entry, object_at}
use Rattle.spec_live.specs.Seen.{listed_in}

-- as a text: a number is written in decimal
abbrev pub value_text : PropValue → List ℕ
value_text (Text text) = text
value_text (Number n) = signed_decimal n

-- Keys of locks.

-- a key that asks for this text fits
abbrev pub value_is : List ℕ → PropValue → Bool
value_is text value = bytes_eq (value_text value) text

-- the value at the path that a text writes
unfoldable pub value_at_path : List ℕ → PropMap → Option PropValue
value_at_path text props = option_map_or (λ fault. None) (path_fault text) (get props (segments_of text))

-- the property of that path of an object has that text, or that number in decimal
unfoldable pub has_value : List Entry → Dbref → List ℕ → List ℕ → Bool
has_value es d path text = option_map_or (λ o. option_map_or (value_is text) (value_at_path path o.props) false) (object_at d es) false

unfoldable pub holdings_of : List Entry → Holdings
holdings_of es = record {
  owner = λ d. option_map (λ o. o.owner) (object_at d es);
  place = λ d. option_map (λ o. o.place) (object_at d es);
  contents = λ d. listed_in false d es;
  has = has_value es;
}

-- Messages. A text is one, and nothing else.

abbrev pub message_of : PropValue → Option (List ℕ)
message_of value = kept_text value

-- the message that an object keeps at a path
unfoldable pub message_at : List (List ℕ) → Dbref → List Entry → Option (List ℕ)
message_at path x es = option_and_then (λ o. option_and_then message_of (get o.props path)) (object_at x es)

-- Locks. A lock is kept as its text, made of numbers of objects and of properties.

-- what is kept as the lock of an object
abbrev pub lock_of_object : Object → Option PropValue
lock_of_object o = get o.props (codes "_" ∷ codes "lok" ∷ [])

-- what is kept opens for x; what isn't the text of a lock opens for nobody
abbrev pub kept_opens : List Entry → Dbref → PropValue → Bool
kept_opens es x value = option_map_or (text_opens (holdings_of es) x) (kept_text value) false

-- the lock of an object opens for x; without a lock it does
unfoldable pub opens_at : List Entry → Dbref → Dbref → Bool
opens_at es x d = option_map_or (λ o. option_map_or (kept_opens es x) (lock_of_object o) true) (object_at d es) false

-- the lock of an object, as it is shown
unfoldable pub lock_text : Dbref → List Entry → List ℕ
lock_text x es = option_map_or value_text (option_and_then lock_of_object (object_at x es)) (codes "*UNLOCKED*")
