-- Worked hooks behind an event, which the checker computes.
use Rattle.std.specs.Prelude.{◌≡◌, ℕ, ℤ, pos, List, [], ◌∷◌, ◌++◌, map, codes, refl, Some, None}
use Rattle.std.proofs.Common.{ap, ◌∙◌}
use Rattle.spec_live.specs.Objects.{object_at, number_in, kind_in, object_in, place_in}
use Rattle.spec_live.specs.Boards.{first_tune, early_board}
use Rattle.spec_live.specs.Stood.{stands_in}
use Rattle.spec_live.specs.Start.{room_zero, player_one}
use Rattle.spec_rights.specs.Levels.{is_player_at}
use Rattle.muf_model.specs.declared.code.Offer.TheVariants.{All}
use Rattle.muf_model.specs.Tree.{stop, Tree}
use Rattle.muck_library.specs.Library.{form_at, formed}
use Rattle.muck_queue.specs.Queues.{empty_queue, number_most, is_queue_full, process_added}
use Rattle.spec_hooks.specs.declared.cause.Fire.{Fire}
use Rattle.spec_hooks.specs.Causes.{causes}
use Rattle.spec_hooks.specs.Firing.{firing}
use Rattle.spec_hooks.specs.inner.Worked.{scene, live_at, moved_in, moved_out, fire, in_fires, out_fires}
use Rattle.spec_events.specs.declared.starting.Call.{Call}
use Rattle.spec_events.specs.World.{World, world_booted, starting_world}
use Rattle.spec_events.specs.Starting.{new_process, program_begun}
use Rattle.spec_events.specs.Hooked.{hook_command, call_of, started_all, hooked}

-- `#3` is built, and `#4` has no word to begin with
abbrev pub built : Tree
built = record { words = record { name = codes "main"; offer = All; variables = 0; body = stop; last = 1 } ∷ []; variables = 0 }

abbrev pub wordless : Tree
wordless = record { words = []; variables = 0 }

abbrev pub world_at : ℕ → List ℕ → World
world_at place players = record starting_world { live = live_at place players; library = None ∷ None ∷ None ∷ Some built ∷ Some wordless ∷ [] }

-- so many processes may be there
abbrev pub limited : ℕ → World → World
limited most w = record w { live = record w.live { board = record w.live.board { tune = record w.live.board.tune { process_limit = most } } } }

abbrev pub call_on : ℕ → Call
call_on program = call_of moved_out (fire program 0 (codes "Depart"))

abbrev pub processes : World → List (ℤ × ℤ × ℤ × ℤ)
processes w = map (λ p. (p.number, p.player.0, p.program.0, p.trigger.0)) w.queue.processes

unfoldable pub HookRows : Type 0
HookRows =
    -- what has no word is passed over, and from the first one that a limit refuses all
    (processes (started_all (call_on 3 ∷ call_on 4 ∷ call_on 3 ∷ []) (world_at 0 [])) ≡ (pos 1, pos 1, pos 3, pos 0) ∷ (pos 2, pos 1, pos 3, pos 0) ∷ [])
    × (processes (started_all (call_on 3 ∷ call_on 3 ∷ call_on 3 ∷ []) (limited 2 (world_at 0 []))) ≡ (pos 1, pos 1, pos 3, pos 0) ∷ (pos 2, pos 1, pos 3, pos 0) ∷ [])
    -- all of it: who is gone to the Den
    × (processes (hooked (world_at 0 (1 ∷ [])) (world_at 2 (1 ∷ [])) None) ≡ (pos 1, pos 1, pos 3, pos 0) ∷ (pos 2, pos 1, pos 3, pos 2) ∷ (pos 3, pos 1, pos 3, pos 0) ∷ [])

-- the calls of these, behind the world
abbrev all_called : List Fire → List Fire → World
all_called out came = started_all (map (call_of moved_out) out ++ (map (call_of moved_in) came ++ [])) (world_at 2 (1 ∷ []))

pub hook_rows : HookRows
unfolding HookRows causes stands_in hooked started_all program_begun world_booted starting_world first_tune early_board object_at number_in kind_in object_in place_in room_zero player_one is_player_at empty_queue number_most is_queue_full process_added new_process form_at formed hook_command
hook_rows = (
  refl,
  refl,
  ap (λ fs. processes (all_called fs (firing (scene 2) moved_in))) out_fires ∙ ap (λ fs. processes (all_called (fire 3 0 (codes "Depart") ∷ []) fs)) in_fires,
)
