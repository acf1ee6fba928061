-- What players do with programs is open to them.
use Rattle.std.proofs.Common.{◌≡◌, ℕ, List, [], ◌∷◌, refl, Some, None}
use Rattle.spec_live.proofs.Keeping.{keeps_followed}
use Rattle.std.specs.Prelude.{Result, Ok, Err}
use Rattle.muck_model.specs.declared.dbref.Dbref.{Dbref}
use Rattle.muck_model.specs.declared.dbref.Kind.TheVariants.{Program}
use Rattle.spec_live.specs.declared.fault.DbFault.{DbFault}
use Rattle.spec_live.specs.Objects.{Entry}
use Rattle.spec_live.specs.Making.{create_check}
use Rattle.spec_live.specs.Setting.{with_level}
use Rattle.spec_live.specs.Lives.{Live, change_followed, ◌▸◌, reading, tell}
use Rattle.spec_rights.specs.declared.act.Actor.{Actor}
use Rattle.spec_rights.specs.declared.act.Act.TheVariants.{NewProgram}
use Rattle.spec_rights.specs.Verdict.{verdict}
use Rattle.spec_rights.specs.Changing.{created_so}
use Rattle.spec_rights.specs.Licence.{Freedom}
use Rattle.spec_live.proofs.Steps.{leveled}
use Rattle.spec_rights.proofs.Rights.{SameRights}
use Rattle.spec_rights.proofs.Licences.{judge, Quiet, End, Ends, end_quietly, ends_quiet, quiet_order, ends_by}
use Rattle.spec_rights.proofs.Walking.{finishes}
use Rattle.spec_rights.proofs.Makings.{end_created, program_open}
use Rattle.spec_rights.proofs.Shown.{shown, quiet_tell}
use Rattle.spec_commands.specs.Replies.{cant_be_done, entering_editor}
use Rattle.spec_commands.specs.Going.{ended}
use Rattle.spec_commands.specs.Building.{created_shown}
use Rattle.spec_commands.specs.Programming.{lines_shown, first_level, program_put, program_at, program_new, program_made, program_edited, program_listed, program_run}
use Rattle.spec_commands.proofs.Built.{permitting, quiet_created_shown}
use Rattle.spec_commands.proofs.Gone.{world_of, ends_ended}

pub quiet_lines_shown : (d : ℕ) (lines : List (List ℕ)) → Quiet (lines_shown d lines)
unfolding lines_shown
quiet_lines_shown d [] = search shown
quiet_lines_shown d (line ∷ lines) = keeps_followed (tell d line) (lines_shown d lines) quiet_order (quiet_tell d line) (quiet_lines_shown d lines)

ruleset programming = (permitting, ends_ended, quiet_lines_shown)

-- Making.

ends_program_new : (a : Actor) (free : Freedom) (d : ℕ) (name : List ℕ) → Ends world_of a free (Some NewProgram) (program_new d a name)
unfolding program_new program_put reading ended change_followed
ends_program_new a free d name = ends_by _ (λ start w s g. at start w s g (create_check Program a.user a.player w.objects) refl)
  where
    at : (start : List Entry) (w : Live) → SameRights start w.objects → verdict w.objects a NewProgram ≡ None → (check : Result (ℕ × ℕ) DbFault) → create_check Program a.user a.player w.objects ≡ check →
        End (judge a free start) w (world_of (program_at d a name (first_level a.user w) check w))
    at start w s g (Ok p) e =
        let v : Live = created_so p.0 Program name a.user p.1 (with_level (first_level a.user w)) w in
        end_quietly (judge a free start) w v ((created_shown d p.0 ▸ tell d entering_editor) v)
        (end_created (judge a free start) Program name a.user a.player (with_level (first_level a.user w)) w p e (finishes (leveled (first_level a.user w))) (λ k t q. program_open a free start w.objects name (first_level a.user w) k t s g refl))
        ((keeps_followed _ _ quiet_order (quiet_created_shown d p.0) (quiet_tell d entering_editor)).law v)
    at start w s g (Err fault) e = ((ends_quiet a free (Some NewProgram) (tell d cant_be_done) (quiet_tell d cant_be_done)).law w).law start s g

pub program_made_open : (a : Actor) (free : Freedom) (d : ℕ) (name : List ℕ) → Ends world_of a free None (program_made d a name)
unfolding program_made
program_made_open a free d name = search (programming, ends_program_new)

-- Editing, listing and running change nothing that is judged.

pub program_edited_open : (a : Actor) (free : Freedom) (d : ℕ) (x : Dbref) → Ends world_of a free None (program_edited d a x)
unfolding program_edited
program_edited_open a free d x = search programming

pub program_listed_open : (a : Actor) (free : Freedom) (d : ℕ) (x : Dbref) → Ends world_of a free None (program_listed d a x)
unfolding program_listed
program_listed_open a free d x = search programming depth 7

pub program_run_open : (a : Actor) (free : Freedom) (d : ℕ) (line : List ℕ) (x : Dbref) (text : List ℕ) → Ends world_of a free None (program_run d a line x text)
unfolding program_run
program_run_open a free d line x text = search programming
