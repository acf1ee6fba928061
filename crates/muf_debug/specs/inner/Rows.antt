-- Worked rows: views as they are shown.
use Rattle.std.specs.Prelude.{◌≡◌, ℕ, pos, negsuc, List, [], ◌∷◌, codes}
use Rattle.muck_model.specs.declared.lock.Lock.TheVariants.{Free}
use Rattle.muf_model.specs.Datum.{Datum, int, text, object, variable, address, lock, items, dict, mark, no_data, no_pairs}
use Rattle.muf_debug.specs.declared.view.View.{View}
use Rattle.muf_debug.specs.Printed.{view_printed}

-- process 1 in program #2
abbrev in_two : ℕ → List Datum → List Datum → View
in_two line stack scope = record { pid = pos 1; program = record { 0 = pos 2 }; line = line; stack = stack; scope = scope }

-- the kinds of values, and of more than 8 the top ones
abbrev each_kind : List Datum
each_kind = int (negsuc 4) ∷ object (pos 7) ∷ text (codes "a b") ∷ variable 68 ∷ address (pos 2) 0 ∷ lock Free ∷ items no_data ∷ dict no_pairs ∷ mark ∷ []

pub record RowsHold : Type 0 where
  pub number : view_printed (in_two 3 (int (pos 3) ∷ []) []) ≡ codes "! 1 #2 3 1 3"
  pub empty_text : view_printed (in_two 1 (text [] ∷ []) []) ≡ codes "! 1 #2 1 1 \"\""
  pub nothing : view_printed (in_two 1 [] []) ≡ codes "! 1 #2 1 0"
  pub top : view_printed (in_two 9 each_kind []) ≡ codes "! 1 #2 9 9 #7 \"a b\" var addr lock list dict mark"
  pub scope : view_printed (in_two 2 (int (pos 1) ∷ []) (int (negsuc 4) ∷ text (codes "x") ∷ [])) ≡ codes "! 1 #2 2 1 1 | -5 \"x\""
