-- A view as it is shown.
use Rattle.std.specs.Prelude.{ℕ, ℤ, ◌-◌, List, [], ◌∷◌, ◌++◌, length, take, drop, codes}
use Rattle.std.specs.Fmt.{decimal, signed_decimal}
use Rattle.muck_model.specs.Bytes.{text_most}
use Rattle.muf_model.specs.Datum.{Datum, int, text, object, variable, address, lock, items, dict, mark}
use Rattle.muf_debug.specs.declared.view.View.{View}

-- integers, objects and texts as they are written in a source, other values by their kind
abbrev pub item_text : Datum → List ℕ
item_text (int n) = signed_decimal n
item_text (text t) = codes "\"" ++ (t ++ codes "\"")
item_text (object d) = codes "#" ++ signed_decimal d
item_text (variable v) = codes "var"
item_text (address program word) = codes "addr"
item_text (lock l) = codes "lock"
item_text (items ds) = codes "list"
item_text (dict ps) = codes "dict"
item_text mark = codes "mark"

-- each behind a space
abbrev pub values_text : List Datum → List ℕ
values_text [] = []
values_text (d ∷ ds) = codes " " ++ (item_text d ++ values_text ds)

-- the top 8 items of a stack that is given from the bottom
abbrev pub top_of : List Datum → List Datum
top_of ds = drop (length ds - 8) ds

-- the variables of the call, where it has any
abbrev pub scope_text : List Datum → List ℕ
scope_text [] = []
scope_text (d ∷ ds) = codes " |" ++ values_text (d ∷ ds)

-- a process, its program and line, and how many items are on its stack
abbrev pub numbers_text : ℤ → ℤ → ℕ → ℕ → List ℕ
numbers_text pid program line depth =
    codes "! " ++ (signed_decimal pid ++ (codes " #" ++ (signed_decimal program ++ (codes " " ++ (decimal line ++ (codes " " ++ decimal depth))))))

abbrev pub head_text : View → List ℕ
head_text v = numbers_text v.pid v.program.0 v.line (length v.stack)

-- with the items at the top, from below, and the variables; cut where a text would be too long
abbrev pub view_printed : View → List ℕ
view_printed v = take text_most (head_text v ++ (values_text (top_of v.stack) ++ scope_text v.scope))
