-- What is to be told of objects.
use Rattle.std.specs.Prelude.{ℕ, suc, List, [], ◌∷◌, Option, Some, None}
use Rattle.std.specs.Option.{option_map, option_map_or}
use Rattle.spec_live.specs.declared.mark.Mark.{Mark}
use Rattle.spec_live.specs.declared.mark.Mark.TheVariants.{Lines, Gone}
use Rattle.spec_live.specs.declared.mark.Changed.{Changed}
use Rattle.spec_live.specs.declared.mark.Changed.TheVariants.{Lines as ChangedLines, Gone as ChangedGone}
use Rattle.spec_live.specs.Objects.{Entry, dbref_of, changed_at}

abbrev pub entry_unmarked : Entry → Entry
entry_unmarked e = record e { mark = None }

-- the lowest number with a mark, where the first number is n
unfoldable pub marked_from : ℕ → List Entry → Option (ℕ × Mark)
marked_from n [] = None
marked_from n (e ∷ es) = option_map_or (λ mark. Some (n, mark)) e.mark (marked_from (suc n) es)

abbrev pub told_of : ℕ × Mark → Changed
told_of (n, Lines) = ChangedLines (dbref_of n)
told_of (n, Gone) = ChangedGone (dbref_of n)

-- the next object to be told of, and what is left to be told then
unfoldable pub next_change : List Entry → Option Changed
next_change es = option_map told_of (marked_from 0 es)

unfoldable pub change_told : List Entry → List Entry
change_told es = option_map_or (λ p. changed_at p.0 entry_unmarked es) (marked_from 0 es) es
