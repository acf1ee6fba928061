-- What is gathered of the items of a list.
use Rattle.std.specs.Prelude.{ℕ, if◌then◌else◌, List, [], ◌∷◌, ◌++◌, Option, Some, None, Result, Ok, Err}
use Rattle.std.specs.Option.{unwrap_or}
use Rattle.mpi.specs.declared.fault.MpiFault.{MpiFault}
use Rattle.mpi.specs.declared.fault.MpiFault.TheVariants.{TooLong}
use Rattle.mpi.specs.declared.functions.Keep.{Keep}
use Rattle.mpi.specs.declared.functions.Keep.TheVariants.{Last, Texts, Items}
use Rattle.mpi.specs.Made.{is_long}
use Rattle.mpi.specs.Values.{is_true_text}

-- a list with an item more; there may be no list yet
abbrev pub longer : Option (List ℕ) → List ℕ → List ℕ
longer None item = item
longer (Some list) item = list ++ 13 ∷ item

-- what is kept of an item and of its text: the text, the list of all texts, or the list of the items whose text is true
abbrev pub kept_item : Keep → Option (List ℕ) → List ℕ → List ℕ → Option (List ℕ)
kept_item Last list item text = Some text
kept_item Texts list item text = Some (longer list text)
kept_item Items list item text = if is_true_text text then Some (longer list item) else list

-- the text of what is gathered
abbrev pub gathered_text : Option (List ℕ) → List ℕ
gathered_text list = unwrap_or list []

-- what is gathered, unless that would be too long
abbrev pub list_or_long : Option (List ℕ) → Result (Option (List ℕ)) MpiFault
list_or_long list = if is_long (gathered_text list) then Err TooLong else Ok list
