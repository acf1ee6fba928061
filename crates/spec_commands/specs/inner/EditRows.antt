-- What the editor shows and keeps, by examples.
use Rattle.std.specs.Prelude.{◌≡◌, ℕ, List, [], ◌∷◌, ◌++◌, Option, Some, None, refl, codes}
use Rattle.std.specs.Option.{option_map}
use Rattle.std.specs.Fmt.{digits}
use Rattle.muck_model.specs.declared.dbref.Kind.TheVariants.{Program}
use Rattle.muck_model.specs.declared.edit.EditState.{EditState}
use Rattle.muck_model.specs.Decimal.{decimal_of}
use Rattle.spec_live.specs.declared.object.Object.{Object}
use Rattle.spec_live.specs.declared.saving.Saving.TheVariants.{Done}
use Rattle.spec_live.specs.Objects.{dbref_of, object_in, object_at, number_in, kind_in, changed_at}
use Rattle.spec_live.specs.Start.{player_one}
use Rattle.spec_live.specs.Output.{sent_lines, queue_most, sent_lines_bytes, line_sent, lines_sent, text_sent}
use Rattle.spec_live.specs.Boards.{early_board, told_one}
use Rattle.spec_live.specs.Lives.{Live, change_followed, reading, either, unchanged, tell}
use Rattle.spec_rights.specs.declared.act.Actor.{Actor}
use Rattle.spec_rights.specs.Levels.{level_at, owner_at, flag_at, owns, controls_as}
use Rattle.spec_rights.specs.Verdict.{controls}
use Rattle.spec_rights.specs.Asking.{asked, denied_text, refused}
use Rattle.spec_rights.specs.Changing.{lines_kept}
use Rattle.spec_commands.specs.declared.edit.EditStep.{EditStep}
use Rattle.spec_commands.specs.declared.edit.EditStep.TheVariants.{Stay, Compile, Left}
use Rattle.spec_commands.specs.Editing.{entering_reply, exiting, deleted_reply, editor_exited, illegal, line_number, plain_command, line_command, lines_command, edit_command, editing_stepped, line_inserted, source_kept, edit_done, edited_by_line}
use Rattle.spec_commands.specs.Finding.{where_so}
use Rattle.spec_commands.specs.Programming.{lines_shown}
use Rattle.spec_commands.specs.inner.Company.{company, queues, both_there}

-- One and Two are there, and a program `#3` that belongs to this player
abbrev pub program_three : ℕ → Object
program_three owner = record player_one { kind = Program; name = codes "ed"; owner = dbref_of owner; lines = codes "old" ∷ [] }

abbrev pub desk : ℕ → Live
desk owner = record (company (1 ∷ [])) { objects = both_there ++ record { object = program_three owner; contents = []; exits = []; mark = None; saving = Done; stood = None } ∷ [] }

abbrev pub opened_on : List (List ℕ) → EditState
opened_on lines = record { program = dbref_of 3; lines = lines; inserting = None }

-- these lines come, as far as the editor goes on
abbrev pub typed_in : Actor → List (List ℕ) → Live × EditState × EditStep → Live × EditState × EditStep
typed_in a [] (w, s, step) = (w, s, step)
typed_in a (line ∷ lines) (w, s, Left) = (w, s, Left)
typed_in a (line ∷ lines) (w, s, step) = typed_in a lines (edited_by_line 1 a s line w)

abbrev pub source_of : Live → Option (List (List ℕ))
source_of w = option_map (λ o. o.lines) (object_at (dbref_of 3) w.objects)

-- what is shown, the source that the program has, and what follows
abbrev pub results : Live × EditState × EditStep → List (List (List ℕ)) × Option (List (List ℕ)) × EditStep
results (w, s, step) = (queues w.board.connections, source_of w, step)

abbrev pub one : Actor
one = record { level = 4; user = dbref_of 1; player = dbref_of 1 }

abbrev pub two : Actor
two = record { level = 0; user = dbref_of 2; player = dbref_of 2 }

abbrev pub after_typing : Actor → ℕ → List (List ℕ) → List (List ℕ) → List (List (List ℕ)) × Option (List (List ℕ)) × EditStep
after_typing a owner source lines = results (typed_in a lines (desk owner, opened_on source, Stay))

unfoldable pub EditRows : Type 0
EditRows =
    -- inserting, listing and deleting
    (after_typing one 1 [] (codes "i" ∷ codes "one" ∷ codes "two" ∷ codes "three" ∷ codes "." ∷ codes "l" ∷ codes "2 i" ∷ codes "between" ∷ codes "." ∷ codes "1 3 l" ∷ codes "1 d" ∷ codes "2 3 d" ∷ codes "l" ∷ codes "q" ∷ [])
    ≡ ((entering_reply ∷ exiting ∷ codes "one" ∷ codes "two" ∷ codes "three" ∷ entering_reply ∷ exiting ∷ codes "one" ∷ codes "between" ∷ codes "two" ∷ deleted_reply ∷ deleted_reply ∷ codes "between" ∷ editor_exited ∷ []) ∷ [], Some (codes "between" ∷ []), Left))
    -- what isn't a command
    × (after_typing one 1 [] (codes "1 l" ∷ codes "0 d" ∷ codes "x" ∷ [] ∷ codes "2 1 d" ∷ codes "1 d" ∷ codes "1 i" ∷ codes "d" ∷ [])
    ≡ ((illegal ∷ illegal ∷ illegal ∷ illegal ∷ illegal ∷ illegal ∷ illegal ∷ illegal ∷ []) ∷ [], Some (codes "old" ∷ []), Stay))
    × (after_typing one 1 (codes "line" ∷ []) (codes "1 2 d" ∷ codes "01 d" ∷ codes "1 l" ∷ codes "1 1 l l" ∷ codes "q q" ∷ codes "." ∷ codes "1 1 l" ∷ [])
    ≡ ((illegal ∷ illegal ∷ illegal ∷ illegal ∷ illegal ∷ illegal ∷ codes "line" ∷ []) ∷ [], Some (codes "old" ∷ []), Stay))
    -- the case of words and the spaces round them don't count, but those of source lines do
    × (after_typing one 1 [] (codes "  I " ∷ codes " . " ∷ codes "Q" ∷ codes "." ∷ codes " 1   1  L " ∷ codes "C" ∷ [])
    ≡ ((entering_reply ∷ exiting ∷ codes " . " ∷ []) ∷ [], Some (codes " . " ∷ codes "Q" ∷ []), Compile))
    -- who may not edit keeps nothing, and leaves all the same
    × (after_typing two 1 [] (codes "c" ∷ []) ≡ ((codes "Permission denied (P16)." ∷ []) ∷ [], Some (codes "old" ∷ []), Stay))
    -- lines that are the source already change nothing, not even that it was changed or is due for a dump
    × ((typed_in one (codes "c" ∷ codes "q" ∷ []) (desk 1, opened_on (codes "old" ∷ []), Stay)).0.objects ≡ (desk 1).objects)
    × (after_typing two 2 [] (codes "q" ∷ codes "l" ∷ []) ≡ ((codes "Permission denied (P22)." ∷ editor_exited ∷ []) ∷ [], Some (codes "old" ∷ []), Left))

pub rows : EditRows
unfolding EditRows decimal_of object_in object_at number_in kind_in changed_at player_one sent_lines queue_most sent_lines_bytes line_sent lines_sent text_sent told_one change_followed reading either unchanged tell level_at owner_at flag_at owns controls_as controls asked denied_text refused lines_kept entering_reply exiting deleted_reply editor_exited illegal line_number plain_command line_command lines_command edit_command editing_stepped line_inserted lines_shown source_kept where_so edit_done edited_by_line early_board digits
rows = (refl, refl, refl, refl, refl, refl, refl)
