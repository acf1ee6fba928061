-- What a maker of programs does, and what follows of it.
use Rattle.std.proofs.Common.{◌≡◌, ℕ, List, Result, Ok, Err, ◌∙◌, subst}
use Rattle.std.specs.Prelude.{OnOk}
use Rattle.muck_model.specs.declared.dbref.Dbref.{Dbref}
use Rattle.muck_model.specs.declared.dbref.Kind.TheVariants.{Program}
use Rattle.muck_model.specs.declared.memory.NoMemory.{NoMemory}
use Rattle.spec_live.specs.declared.fault.DbFault.{DbFault}
use Rattle.spec_live.specs.declared.fault.DbFault.TheVariants.{NoMemory as WantsMemory}
use Rattle.spec_live.specs.Making.{create_check}
use Rattle.spec_live.specs.Setting.{with_level}
use Rattle.spec_live.specs.Lives.{Change, ◌▸◌, reading, tell}
use Rattle.spec_rights.specs.declared.act.Actor.{Actor}
use Rattle.spec_rights.specs.Levels.{dbref_number}
use Rattle.spec_rights.specs.Changing.{created_so}
use Rattle.spec_commands.specs.declared.outcome.Outcome.{Outcome}
use Rattle.spec_commands.specs.declared.outcome.Outcome.TheVariants.{Edit}
use Rattle.spec_commands.specs.Replies.{cant_be_done, entering_editor}
use Rattle.spec_commands.specs.Going.{Play, ended}
use Rattle.spec_commands.specs.Building.{created_shown}
use Rattle.spec_commands.specs.Programming.{command_over, first_level, program_put, program_at, program_new}
use Rattle.muck_perm.specs.declared.guard.Guard.{Guard}
use Rattle.muck_perm.specs.inner.Guards.{Done, Founds, objects_of, world_of}
use Rattle.muck_perm.proofs.Worlds.{same_as, same_after, done_both}
use Rattle.cmd_common.specs.inner.Plays.{Plays}
use Rattle.cmd_build.specs.inner.Entering.{IsEntered}

-- where memory was wanted
wanted : (p : Play) (old mid new : Guard) (result : Result Outcome NoMemory) → mid ≡ old → (new ≡ mid) × OnOk result ⊥ → Plays p old new result
wanted p old mid new (Ok outcome) e t = absurd t.1
wanted p old mid new (Err x) e t = same_as old new (t.0 ∙ e)

-- a change, and what ends a line after it
both : (f g : Change) (outcome : Outcome) (old mid new : Guard) (result : Result Outcome NoMemory) → Done f old mid → Plays (ended outcome g) mid new result → Plays (ended outcome (f ▸ g)) old new result
unfolding ended
both f g outcome old mid new (Ok found) e t = (done_both f g old mid new e t.0, t.1)
both f g outcome old mid new (Err x) e t = same_after old mid new e.1.1 t

-- that the world refused it
refused : (d : ℕ) (old mid new : Guard) (fault : DbFault) (result : Result Outcome NoMemory) → mid ≡ old → IsEntered d (Err fault) mid new result → Plays (command_over d cant_be_done) old new result
refused d old mid new WantsMemory result e t = wanted (command_over d cant_be_done) old mid new result e t
refused d old mid new _ result e t = let P : Guard → Type 0 = λ g. Plays (command_over d cant_be_done) g new result in subst P e t

abbrev made_by : Actor → List ℕ → ℕ → ℕ → ℕ → Change
made_by a name level n to = created_so n Program name a.user to (with_level level)

entered : (check : Result (ℕ × ℕ) DbFault) (d : ℕ) (a : Actor) (name : List ℕ) (level : ℕ) (old mid new : Guard) (made : Result Dbref DbFault) (result : Result Outcome NoMemory)
    → Founds check (made_by a name level) old mid made → IsEntered d made mid new result → Plays (program_at d a name level check) old new result
unfolding program_put
entered (Ok p) d a name level old mid new (Ok x) result f t =
    let P : Dbref → Type 0 = λ z. Plays (ended (Edit z) (created_shown d (dbref_number z) ▸ tell d entering_editor)) mid new result in
    both (made_by a name level p.0 p.1) (created_shown d p.0 ▸ tell d entering_editor) _ old mid new result f.1 (subst P f.0 t)
entered (Ok p) d a name level old mid new (Err fault) result f t =
    let P : DbFault → Type 0 = λ z. IsEntered d (Err z) mid new result in
    wanted (program_at d a name level (Ok p)) old mid new result f.1 (subst P f.0 t)
entered (Err fault) d a name level old mid new (Ok x) result f t = absurd f
entered (Err fault) d a name level old mid new (Err found) result f t = refused d old mid new found result f.1 t

pub entered_new : (d : ℕ) (a : Actor) (name : List ℕ) (old mid new : Guard) (made : Result Dbref DbFault) (result : Result Outcome NoMemory)
    → Founds (create_check Program a.user a.player (objects_of old)) (made_by a name (first_level a.user (world_of old))) old mid made → IsEntered d made mid new result → Plays (program_new d a name) old new result
unfolding program_new reading
entered_new d a name old mid new made (Ok outcome) h t = entered (create_check Program a.user a.player (objects_of old)) d a name (first_level a.user (world_of old)) old mid new made (Ok outcome) h t
entered_new d a name old mid new made (Err e) h t = entered (create_check Program a.user a.player (objects_of old)) d a name (first_level a.user (world_of old)) old mid new made (Err e) h t
