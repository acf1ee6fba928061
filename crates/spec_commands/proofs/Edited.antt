-- What a line does in the editor is open to its actor.
use Rattle.std.proofs.Common.{◌≡◌, refl, ℕ, Bool, true, false, cond, List, length, codes, bytes_eq, nat_lt, Option, Some, None}
use Rattle.muck_model.proofs.Dbrefs.{same_eq}
use Rattle.muck_model.specs.declared.dbref.Dbref.{Dbref}
use Rattle.muck_model.specs.declared.edit.EditState.{EditState}
use Rattle.spec_live.specs.Lives.{Live, Change, unchanged, tell}
use Rattle.spec_rights.specs.declared.act.Actor.{Actor}
use Rattle.spec_rights.specs.declared.act.Act.{Act}
use Rattle.spec_rights.specs.declared.act.Act.TheVariants.{Edit as EditAct}
use Rattle.spec_rights.specs.Licence.{Freedom, editing}
use Rattle.spec_rights.proofs.Licences.{Proper, Ends, Always, itself, whole_ends, ends_by}
use Rattle.spec_rights.proofs.Permitted.{ending}
use Rattle.spec_commands.specs.declared.edit.EditCommand.{EditCommand}
use Rattle.spec_commands.specs.declared.edit.EditCommand.TheVariants.{Insert, Delete, Show, Compile, Quit}
use Rattle.spec_commands.specs.declared.edit.EditStep.{EditStep}
use Rattle.spec_commands.specs.declared.edit.EditStep.TheVariants.{Stay}
use Rattle.spec_commands.specs.Editing.{exiting, illegal, edit_command, lines_most, editing_stepped, with_line, line_inserted, source_kept, edit_done, edit_some, edited_at, edited_by_line}
use Rattle.spec_commands.proofs.Built.{permitting}
use Rattle.spec_commands.proofs.Programmed.{quiet_lines_shown}

-- The answer of a line is its world, the state of the editor, and what follows.
abbrev pub world_of : Live × EditState × EditStep → Live
world_of p = p.0

ends_stepped : (a : Actor) (free : Freedom) (given : Option Act) (step : EditStep) (s : EditState) (f : Change) → Ends itself a free given f → Ends world_of a free given (editing_stepped step s f)
unfolding editing_stepped
ends_stepped a free given step s f p = ends_by _ (λ start w. (p.law w).law start)

ends_source_kept : (a : Actor) (free : Freedom) (program : Dbref) (lines : List (List ℕ)) → free.edits program ≡ true → Ends itself a free (Some (EditAct program)) (source_kept program lines)
unfolding source_kept
ends_source_kept a free program lines h = search permitting

ruleset stepping = (ending, ends_stepped, ends_source_kept, quiet_lines_shown)

done_open : (a : Actor) (free : Freedom) (d : ℕ) (s : EditState) (command : EditCommand) → free.edits s.program ≡ true → Ends world_of a free None (edit_done d a s command)
unfolding edit_done
done_open a free d s (Insert at) h = search stepping
done_open a free d s (Delete from to) h = search stepping
done_open a free d s (Show from to) h = search stepping
done_open a free d s Compile h = search stepping
done_open a free d s Quit h = search stepping

some_open : (a : Actor) (free : Freedom) (d : ℕ) (s : EditState) (command : Option EditCommand) → free.edits s.program ≡ true → Ends world_of a free None (edit_some d a s command)
some_open a free d s None h = search stepping
some_open a free d s (Some command) h = done_open a free d s command h

inserted_open : (a : Actor) (free : Freedom) (d : ℕ) (s : EditState) (at : ℕ) (line : List ℕ) → Ends world_of a free None (line_inserted d s at line)
unfolding line_inserted
inserted_open a free d s at line = by_cases (bytes_eq line (codes ".")) (nat_lt (length s.lines) lines_most)
  where
    by_cases : (b c : Bool) → Ends world_of a free None (cond b (editing_stepped Stay (record s { inserting = None }) (tell d exiting)) (cond c (editing_stepped Stay (with_line at line s) unchanged) (editing_stepped Stay s (tell d illegal))))
    by_cases true c = search stepping
    by_cases false true = search stepping
    by_cases false false = search stepping

at_open : (a : Actor) (free : Freedom) (d : ℕ) (s : EditState) (line : List ℕ) (inserting : Option ℕ) → free.edits s.program ≡ true → Ends world_of a free None (edited_at d a s line inserting)
at_open a free d s line (Some at) h = inserted_open a free d s at line
at_open a free d s line None h = some_open a free d s (edit_command (length s.lines) line) h

-- The source changes by leave to edit it alone, and nothing else does.
pub edited_open : (a : Actor) (free : Freedom) (d : ℕ) (s : EditState) (line : List ℕ) → free.edits s.program ≡ true → Ends world_of a free None (edited_by_line d a s line)
unfolding edited_by_line
edited_open a free d s line h = at_open a free d s line s.inserting h

pub edited_proper : (d : ℕ) (a : Actor) (s : EditState) (line : List ℕ) (w : Live) → Proper a (editing s.program) w (edited_by_line d a s line w).0
edited_proper d a s line w =
    ((whole_ends world_of a None (λ es. editing s.program) Always (edited_by_line d a s line) (λ v h. edited_open a (editing s.program) d s line (same_eq s.program s.program refl))).law w).law tt tt
