-- How a text is read as a path.
use Rattle.std.specs.Prelude.{◌≡◌, ℕ, ◌<◌, ◌≤◌, Bool, true, false, ◌≢◌, ◌⊎◌, ◌||◌, ◌==◌, nat_lt, if◌then◌else◌, List, [], ◌∷◌, map, length, Option, None, Some, Result, Ok, Err}
use Rattle.std.specs.Char.{to_ascii_lowercase}
use Rattle.std.specs.List.{AllByRecursion, filter, list_any, slice_split, join_with_byte}
use Rattle.muck_prop.specs.declared.path.Class.{Class}
use Rattle.muck_prop.specs.declared.path.Class.TheVariants.{At, Tilde, Dot, Underscore, Plain}
use Rattle.muck_prop.specs.declared.path.PropFault.{PropFault}
use Rattle.muck_prop.specs.declared.path.PropFault.TheVariants.{BadPath, TooDeep, NoMemory}

abbrev pub is_slash : ℕ → Bool
is_slash b = b == 47

abbrev pub is_filled : List ℕ → Bool
is_filled [] = false
is_filled (b ∷ bs) = true

-- what stands between the slashes, without empty parts, in lower case
abbrev pub segments_of : List ℕ → List (List ℕ)
segments_of text = map (map to_ascii_lowercase) (filter is_filled (slice_split is_slash text))

-- segments with a part of a text before them, unless it is empty
unfoldable pub with_part : List ℕ → List (List ℕ) → List (List ℕ)
with_part part tail = if is_filled part then map to_ascii_lowercase part ∷ tail else tail

-- the segments, joined by single slashes
abbrev pub path_text : List (List ℕ) → List ℕ
path_text path = join_with_byte 47 path

-- a colon or byte 13
abbrev pub is_barred : ℕ → Bool
is_barred b = b == 58 || b == 13

abbrev pub is_bad_path : List ℕ → List (List ℕ) → Bool
is_bad_path text path = list_any is_barred text || length path == 0 || nat_lt 128 (length (path_text path))

-- why a text is no path, where `path` is what it holds
abbrev pub fault_of_path : List ℕ → List (List ℕ) → Option PropFault
fault_of_path text path = if is_bad_path text path then Some BadPath else (if nat_lt 16 (length path) then Some TooDeep else None)

abbrev pub path_fault : List ℕ → Option PropFault
path_fault text = fault_of_path text (segments_of text)

-- the text is read as the path, or it is none and this is why; want of memory says nothing
abbrev pub IsPathOf : List ℕ → Result (List (List ℕ)) PropFault → Type 0
IsPathOf text (Ok path) = (path_fault text ≡ None) × (path ≡ segments_of text)
IsPathOf text (Err BadPath) = path_fault text ≡ Some BadPath
IsPathOf text (Err TooDeep) = path_fault text ≡ Some TooDeep
IsPathOf text (Err NoMemory) = Unit {0}

-- the text has no fault, and holds this path
pub record IsReadAs (text : List ℕ) (path : List (List ℕ)) : Type 0 where
  pub fine : path_fault text ≡ None
  pub holds : segments_of text ≡ path

-- a byte that may stand in a segment
pub record IsSegmentByte (b : ℕ) : Type 0 where
  pub printed : (32 ≤ b) × (b ≤ 126)
  pub no_slash : b ≢ 47
  pub no_colon : b ≢ 58
  pub no_capital : b < 65 ⊎ 90 < b

pub record IsSegment (s : List ℕ) : Type 0 where
  pub filled : is_filled s ≡ true
  pub bytes : AllByRecursion IsSegmentByte s

-- what every path keeps
pub record IsPath (path : List (List ℕ)) : Type 0 where
  pub some : 0 < length path
  pub few : length path ≤ 16
  pub short : length (path_text path) ≤ 128
  pub each : AllByRecursion IsSegment path

abbrev pub begins_with_byte : ℕ → List ℕ → Bool
begins_with_byte b [] = false
begins_with_byte b (c ∷ s) = c == b

-- the first of `@`, `~`, `.` and `_` with which any segment begins
abbrev pub class_of : List (List ℕ) → Class
class_of path =
    if list_any (begins_with_byte 64) path then At
    else (if list_any (begins_with_byte 126) path then Tilde
    else (if list_any (begins_with_byte 46) path then Dot
    else (if list_any (begins_with_byte 95) path then Underscore
    else Plain)))
