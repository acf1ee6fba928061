-- The built forms of programs.
use Rattle.std.specs.Prelude.{ℕ, zero, suc, List, [], ◌∷◌, slice_get, Option, Some, None, Result, Ok, Err}
use Rattle.std.specs.Option.{option_map_or, option_and_then}
use Rattle.muck_model.specs.declared.dbref.Dbref.{Dbref}
use Rattle.spec_live.specs.Objects.{Entry, index_of, changed_at}
use Rattle.muf_model.specs.Tree.{Tree}
use Rattle.muck_library.specs.declared.flaw.Flaw.{Flaw}
use Rattle.muck_library.specs.Programs.{built_tree}

-- by the number of a program its built form, or none; from the last one on there is none
abbrev pub Library : Type 0
Library = List (Option Tree)

abbrev pub itself : Option Tree → Option Tree
itself form = form

-- the built form of a program, where there is one
unfoldable pub form_at : Dbref → Library → Option Tree
form_at d library = option_and_then (λ n. option_and_then itself (slice_get library n)) (index_of d)

-- a form at a number, with none at the numbers before it that had no place yet
abbrev pub with_form : ℕ → Tree → Library → Library
with_form zero tree [] = Some tree ∷ []
with_form zero tree (form ∷ forms) = Some tree ∷ forms
with_form (suc n) tree [] = None ∷ with_form n tree []
with_form (suc n) tree (form ∷ forms) = form ∷ with_form n tree forms

unfoldable pub form_kept : Dbref → Tree → Library → Library
form_kept d tree library = option_map_or (λ n. with_form n tree library) (index_of d) library

unfoldable pub form_dropped : Dbref → Library → Library
form_dropped d library = option_map_or (λ n. changed_at n (λ form. None) library) (index_of d) library

-- what building makes of the library; a program that can't be built stays without a form
abbrev pub form_made : Dbref → Result Tree Flaw → Library → Option Tree × Library
form_made d (Ok tree) library = (Some tree, form_kept d tree library)
form_made d (Err flaw) library = (None, library)

abbrev pub form_or_made : Dbref → Result Tree Flaw → Option Tree → Library → Option Tree × Library
form_or_made d built (Some tree) library = (Some tree, library)
form_or_made d built None library = form_made d built library

-- the form of a program, which is built now where it isn't yet
unfoldable pub formed : List Entry → Dbref → Library → Option Tree × Library
formed es d library = form_or_made d (built_tree es d) (form_at d library) library
