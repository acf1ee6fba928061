-- That hooks start programs, and do nothing else.
use Rattle.std.specs.Prelude.{◌≡◌, ◌⊎◌, ◌<ℤ◌, ◌≤ℤ◌, true, List, ◌++◌, is_some, Some, None, Ok}
use Rattle.muck_model.specs.declared.dbref.Dbref.{Dbref}
use Rattle.spec_live.specs.Objects.{object_at}
use Rattle.muf_model.specs.Tree.{Tree}
use Rattle.muck_library.specs.Library.{form_at}
use Rattle.muck_library.specs.Programs.{built_tree}
use Rattle.muck_queue.specs.declared.process.Process.{Process}
use Rattle.muck_queue.specs.declared.mode.Mode.TheVariants.{Background}
use Rattle.spec_events.specs.World.{World}
use Rattle.spec_events.specs.Hooked.{hook_command}
use Rattle.spec_events.specs.Sourced.{Each}

-- A process that a hook started behind the world v: in the background, at once, tied to nothing, by an object that is there, with a number above all that were given before.
pub record IsHooked (v : World) (p : Process) : Type 0 where
  pub number : v.queue.last <ℤ p.number
  pub command : p.command ≡ hook_command
  pub trigger : is_some (object_at p.trigger v.live.objects) ≡ true
  pub tied : p.descr ≡ None
  pub mode : p.mode ≡ Background
  pub due : p.due ≡ v.moment

-- What hooks may do to a world: new processes stand behind the old ones, and programs may have been built from their sources. Nothing else differs.
pub record OnlyStarts (v u : World) : Type 0 where
  pub live : u.live ≡ v.live
  pub new : List Process
  pub processes : u.queue.processes ≡ v.queue.processes ++ new
  pub started : Each (IsHooked v) new
  pub last : v.queue.last ≤ℤ u.queue.last
  pub claims : u.queue.claims ≡ v.queue.claims
  pub forms : (d : Dbref) (tree : Tree) → form_at d u.library ≡ Some tree → (form_at d v.library ≡ Some tree) ⊎ (built_tree v.live.objects d ≡ Ok tree)
  pub moment : u.moment ≡ v.moment
  pub dumps : u.dumps ≡ v.dumps
  pub stopping : u.stopping ≡ v.stopping
  pub dead : u.dead ≡ v.dead
