-- The grammar of a record.
use Rattle.std.specs.Prelude.{◌≡◌, ◌-◌, ℕ, zero, suc, Bool, true, ◌&&◌, ◌==◌, List, [], ◌∷◌, length, Option, Some, None, is_none, Result, Ok, Err, nat_lt, bytes_eq, pos, if◌then◌else◌}
use Rattle.std.specs.Int.{w16, w32, w64, cast_signed}
use Rattle.std.specs.Ordering.{is_lt, int_eq}
use Rattle.muck_model.specs.Bytes.{text_most, lines_most}
use Rattle.muck_model.specs.declared.dbref.Dbref.{Dbref}
use Rattle.muck_model.specs.declared.dbref.Flags.{Flags}
use Rattle.muck_model.specs.declared.dbref.Kind.{Kind}
use Rattle.muck_model.specs.declared.dbref.Kind.TheVariants.{Room, Thing, Exit, Player, Program, Garbage}
use Rattle.muck_prop.specs.Paths.{segments_of, path_text, path_fault}
use Rattle.muck_prop.specs.Order.{path_cmp}
use Rattle.muck_prop.specs.declared.value.PropValue.{PropValue}
use Rattle.muck_prop.specs.declared.value.PropValue.TheVariants.{Text, Number}
use Rattle.muck_codec.specs.declared.stored.Stored.{Stored}
use Rattle.muck_codec.specs.declared.stored.Property.{Property}
use Rattle.muck_codec.specs.declared.record.Head.{Head}
use Rattle.muck_codec.specs.declared.record.Ties.{Ties}
use Rattle.muck_codec.specs.declared.record.Lists.{Lists}
use Rattle.muck_codec.specs.declared.record.Texts.{Texts}
use Rattle.muck_codec.specs.declared.fault.CodecFault.{CodecFault}
use Rattle.muck_codec.specs.declared.fault.CodecFault.TheVariants.{BadRecord, NoMemory}
use Rattle.muck_codec.specs.Reading.{◌>>=◌, both_read, count_then_items, mapped, byte_at, number_at, dbref_at, short_at, several, text_at}

-- The fields of fixed size.

abbrev pub kind_coded : ℕ → Option Kind
kind_coded b =
    if b == 0 then Some Room
    else if b == 1 then Some Thing
    else if b == 2 then Some Exit
    else if b == 3 then Some Player
    else if b == 4 then Some Program
    else if b == 5 then Some Garbage
    else None

abbrev pub kind_if : Option Kind → List ℕ → Result (Kind × List ℕ) ℕ
kind_if (Some kind) rest = Ok (kind, rest)
kind_if None rest = Err (suc (length rest))

unfoldable pub kind_at : List ℕ → Result (Kind × List ℕ) ℕ
kind_at [] = Err 0
kind_at (b ∷ rest) = kind_if (kind_coded b) rest

abbrev pub flags_at : List ℕ → Result (Flags × List ℕ) ℕ
flags_at bytes = number_at w16 bytes >>= λ n. Ok (record { 0 = n.0 }, n.1)

abbrev pub head_of : Dbref × (Kind × (Flags × ℕ)) → Head
head_of x = record { dbref = x.0; kind = x.1.0; flags = x.1.1.0; level = x.1.1.1 }

unfoldable pub record_head_at : List ℕ → Result (Head × List ℕ) ℕ
record_head_at bytes = mapped head_of (both_read dbref_at (both_read kind_at (both_read flags_at byte_at))) bytes

abbrev pub ties_of : Dbref × (Dbref × (Dbref × Dbref)) → Ties
ties_of x = record { owner = x.0; place = x.1.0; link = x.1.1.0; home = x.1.1.1 }

unfoldable pub ties_at : List ℕ → Result (Ties × List ℕ) ℕ
ties_at bytes = mapped ties_of (both_read dbref_at (both_read dbref_at (both_read dbref_at dbref_at))) bytes

abbrev pub lists_of : Dbref × (Dbref × Dbref) → Lists
lists_of x = record { first_content = x.0; first_exit = x.1.0; next = x.1.1 }

unfoldable pub lists_at : List ℕ → Result (Lists × List ℕ) ℕ
lists_at bytes = mapped lists_of (both_read dbref_at (both_read dbref_at dbref_at)) bytes

-- Properties.

-- the path stands behind the one before, if there is one
abbrev pub rises : Option (List (List ℕ)) → List (List ℕ) → Bool
rises None path = true
rises (Some before) path = is_lt (path_cmp before path)

-- the text is the spelling of a path that stands behind the one before
abbrev pub spells : Option (List (List ℕ)) → List ℕ → Bool
spells before text = is_none (path_fault text) && (bytes_eq (path_text (segments_of text)) text && rises before (segments_of text))

-- the path that a text spells
abbrev pub spelled : Option (List (List ℕ)) → List ℕ → Option (List (List ℕ))
spelled before text = if spells before text then Some (segments_of text) else None

-- a path of 1 to 128 bytes; one that is out of order or has another spelling is refused at its last byte
unfoldable pub path_at : Option (List (List ℕ)) → List ℕ → Result (List (List ℕ) × List ℕ) ℕ
path_at before bytes = text_at 1 128 bytes >>= λ text. if spells before text.0 then Ok (segments_of text.0, text.1) else Err (suc (length text.1))

-- how many kinds of values a version has
unfoldable pub tags_in : ℕ → ℕ
tags_in version = if version == 1 then 2 else 0

-- a number that isn't 0
unfoldable pub integer_at : List ℕ → Result (PropValue × List ℕ) ℕ
integer_at bytes = number_at w32 bytes >>= λ n. if int_eq (cast_signed w32 n.0) (pos 0) then Err (suc (length n.1)) else Ok (Number (cast_signed w32 n.0), n.1)

abbrev pub tagged : ℕ → List ℕ → Result (PropValue × List ℕ) ℕ
tagged zero rest = text_at 1 text_most rest >>= λ text. Ok (Text text.0, text.1)
tagged (suc zero) rest = integer_at rest
tagged (suc (suc tag)) rest = Err (suc (length rest))

-- a tag and a value
unfoldable pub value_read_at : ℕ → List ℕ → Result (PropValue × List ℕ) ℕ
value_read_at version [] = Err 0
value_read_at version (tag ∷ rest) = if nat_lt tag (tags_in version) then tagged tag rest else Err (suc (length rest))

abbrev pub property_of : List (List ℕ) × PropValue → Property
property_of x = record { path = x.0; value = x.1 }

unfoldable pub property_at : ℕ → Option (List (List ℕ)) → List ℕ → Result (Property × List ℕ) ℕ
property_at version before bytes = mapped property_of (both_read (path_at before) (value_read_at version)) bytes

-- so many properties, by rising path
abbrev pub properties_at : ℕ → ℕ → List ℕ → Result (List Property × List ℕ) ℕ
properties_at version n bytes = several (λ p. p.path) (property_at version) None n bytes

abbrev pub line_at : Option (List ℕ) → List ℕ → Result (List ℕ × List ℕ) ℕ
line_at before bytes = text_at 0 text_most bytes

-- so many source lines
abbrev pub source_lines_at : ℕ → List ℕ → Result (List (List ℕ) × List ℕ) ℕ
source_lines_at n bytes = several (λ line. line) line_at None n bytes

-- The record.

abbrev pub record_texts : List ℕ × (List Property × (List (List ℕ) × List ℕ)) → Texts
record_texts x = record { name = x.0; props = x.1.0; lines = x.1.1.0; digest = x.1.1.1 }

unfoldable pub texts_at : ℕ → List ℕ → Result (Texts × List ℕ) ℕ
texts_at version bytes = mapped record_texts (both_read (text_at 0 text_most) (both_read (count_then_items (number_at w64) (properties_at version)) (both_read (count_then_items (short_at 0 lines_most) source_lines_at) (text_at 0 text_most)))) bytes

abbrev pub stored_from_parts : Head × (Ties × (Lists × Texts)) → Stored
stored_from_parts x = record {
  dbref = x.0.dbref;
  kind = x.0.kind;
  flags = x.0.flags;
  level = x.0.level;
  owner = x.1.0.owner;
  place = x.1.0.place;
  link = x.1.0.link;
  home = x.1.0.home;
  first_content = x.1.1.0.first_content;
  first_exit = x.1.1.0.first_exit;
  next = x.1.1.0.next;
  name = x.1.1.1.name;
  props = x.1.1.1.props;
  lines = x.1.1.1.lines;
  digest = x.1.1.1.digest;
}

-- a record of this version, and the bytes behind it
unfoldable pub record_at : ℕ → List ℕ → Result (Stored × List ℕ) ℕ
record_at version bytes = mapped stored_from_parts (both_read record_head_at (both_read ties_at (both_read lists_at (texts_at version)))) bytes

-- the answer is the record in front and how many bytes it has, or the first byte that no record continues
abbrev pub IsTaken : ℕ → List ℕ → Result (Stored × ℕ) CodecFault → Type 0
IsTaken version bytes (Ok taken) = (rest : List ℕ) × (record_at version bytes ≡ Ok (taken.0, rest)) × (taken.1 ≡ length bytes - length rest)
IsTaken version bytes (Err (BadRecord at)) = (left : ℕ) × (record_at version bytes ≡ Err left) × (at ≡ length bytes - left)
IsTaken version bytes (Err NoMemory) = Unit {0}
