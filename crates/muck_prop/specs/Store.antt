-- The properties of one object, as a map from paths to values.
use Rattle.std.specs.Prelude.{◌≡◌, ℕ, ℤ, Bool, true, false, ◌&&◌, ◌==◌, ◌⊎◌, pos, if◌then◌else◌, List, [], ◌∷◌, ◌++◌, map, Option, None, Some, is_some, length, drop}
use Rattle.std.specs.List.{list_any, filter}
use Rattle.std.specs.Ordering.{is_lt, is_gt, int_eq}
use Rattle.std.specs.FinMap.{FinMap, get, insert, remove, keys, entries}
use Rattle.muck_prop.specs.declared.value.PropValue.{PropValue}
use Rattle.muck_prop.specs.declared.value.PropValue.TheVariants.{Text, Number}
use Rattle.muck_prop.specs.declared.props.Listed.{Listed}
use Rattle.muck_prop.specs.Paths.{IsPath}
use Rattle.muck_prop.specs.Order.{path_cmp, is_below, child}

abbrev pub PropMap : Type 0
PropMap = FinMap path_cmp PropValue

-- an empty text, or 0: what stands for no property
abbrev pub is_nothing : PropValue → Bool
is_nothing (Text text) = length text == 0
is_nothing (Number n) = int_eq n (pos 0)

-- the text that is kept, where it is one
abbrev pub kept_text : PropValue → Option (List ℕ)
kept_text (Text text) = Some text
kept_text (Number n) = None

-- the number that is kept, where it is one
abbrev pub kept_number : PropValue → Option ℤ
kept_number (Text text) = None
kept_number (Number n) = Some n

-- the map after a value is stored at a path: what stands for no property removes it
abbrev pub value_stored : List (List ℕ) → PropValue → PropMap → PropMap
value_stored path value m = if is_nothing value then remove m path else insert m path value

-- some stored path continues this one
abbrev pub is_dir : List (List ℕ) → PropMap → Bool
is_dir path m = list_any (is_below path) (keys m)

-- the path stands after the one given, if one is
abbrev pub is_after : Option (List (List ℕ)) → List (List ℕ) → Bool
is_after None path = true
is_after (Some after) path = is_lt (path_cmp after path)

-- the first child of `dir` after `after` that leads to one of some paths, which rise
abbrev pub next_among : List (List ℕ) → Option (List (List ℕ)) → List (List (List ℕ)) → Option (List (List ℕ))
next_among dir after [] = None
next_among dir after (q ∷ paths) = if is_below dir q && is_after after (child dir q) then Some (child dir q) else next_among dir after paths

-- the top, which has no segments, where no path is given
abbrev pub path_or_top : Option (List (List ℕ)) → List (List ℕ)
path_or_top None = []
path_or_top (Some path) = path

-- the next child of `dir` after `after`
abbrev pub next_child : List (List ℕ) → Option (List (List ℕ)) → PropMap → Option (List (List ℕ))
next_child dir after m = next_among dir after (keys m)

-- the child of `dir` on the way to a path that was found
abbrev pub found_child : List (List ℕ) → Option (List (List ℕ)) → Option (List (List ℕ))
found_child dir None = None
found_child dir (Some q) = if is_below dir q then Some (child dir q) else None

-- a property, by its path behind so many segments
abbrev pub path_behind : ℕ → List (List ℕ) × PropValue → Listed
path_behind depth e = record { rest = drop depth e.0; value = e.1 }

-- the properties below `dir`, in the order of their paths, each by the rest of its path
unfoldable pub listed_below : List (List ℕ) → PropMap → List Listed
listed_below dir m = map (path_behind (length dir)) (filter (λ e. is_below dir e.0) (entries m))

-- a path one segment longer than `dir` that has a value or is a directory
pub record IsChild (m : PropMap) (dir c : List (List ℕ)) : Type 0 where
  pub name : List ℕ
  pub path : c ≡ dir ++ name ∷ []
  pub stands : (is_some (get m c) ≡ true) ⊎ (is_dir c m ≡ true)

-- c is the least child of `dir` after `after`; None says that there is none
abbrev pub IsLeastChild : PropMap → List (List ℕ) → Option (List (List ℕ)) → Option (List (List ℕ)) → Type 0
IsLeastChild m dir after None = (c : List (List ℕ)) → IsChild m dir c → is_after after c ≡ false
IsLeastChild m dir after (Some c) = IsChild m dir c × (is_after after c ≡ true)
    × ((d : List (List ℕ)) → IsChild m dir d → is_after after d ≡ true → is_gt (path_cmp c d) ≡ false)

-- what every kept property is: its path is one, and its value isn't nothing
pub record IsKept (e : List (List ℕ) × PropValue) : Type 0 where
  pub path : IsPath e.0
  pub value : is_nothing e.1 ≡ false
