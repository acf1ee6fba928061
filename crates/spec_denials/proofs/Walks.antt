-- A line that a lock doesn't let through leaves each object where it is, and starts nothing.
use Rattle.std.proofs.Common.{◌≡◌, ℕ, List, [], ◌∷◌, map, Option, Some, None, refl, sym, ap, ◌∙◌}
use Rattle.muck_model.specs.declared.dbref.Dbref.{Dbref}
use Rattle.muck_model.specs.declared.dbref.Denial.{Denial}
use Rattle.spec_live.specs.Lives.{Live}
use Rattle.spec_live.specs.Marks.{entry_unmarked}
use Rattle.spec_live.specs.Objects.{Entry}
use Rattle.spec_rights.specs.declared.act.Actor.{Actor}
use Rattle.spec_mpi.specs.Touching.{without_props, TouchesNotes}
use Rattle.spec_commands.specs.declared.outcome.Outcome.{Outcome}
use Rattle.spec_commands.specs.declared.outcome.Outcome.TheVariants.{Done}
use Rattle.spec_commands.specs.Commands.{played}
use Rattle.spec_commands.specs.Finding.{actor_of}
use Rattle.spec_events.specs.World.{World, connection}
use Rattle.spec_events.specs.Following.{swept, settled}
use Rattle.spec_events.specs.Lines.{by_keeper, typed, ended_behind, processes_after_line, followed_up, in_world, first_line_done}
use Rattle.spec_events.proofs.Quietly.{quietly_swept}
use Rattle.spec_denials.specs.Walks.{lock_verdict, places, StaysInPlace, CommandStays, LineLocked}
use Rattle.spec_denials.proofs.Commands.{line_so}
use Rattle.spec_denials.proofs.Locked.{Shows, shows_or, played_shows}
use Rattle.spec_denials.proofs.Starts.{last_settled}

-- Where the objects are.

places_unmarked : (es : List Entry) → places (map entry_unmarked es) ≡ places es
places_unmarked [] = refl
places_unmarked (e ∷ es) = ap (λ ds. e.object.place ∷ ds) (places_unmarked es)

places_settled : (w : World) → places (settled w).live.objects ≡ places w.live.objects
unfolding settled
places_settled w = places_unmarked (swept 0 w.live.objects w).live.objects ∙ ap places (quietly_swept 0 w.live.objects w).objects

places_bare : (es : List Entry) → places (map without_props es) ≡ places es
places_bare [] = refl
places_bare (e ∷ es) = ap (λ ds. e.object.place ∷ ds) (places_bare es)

places_noted : (w v : Live) → TouchesNotes w v → places v.objects ≡ places w.objects
places_noted w v h = sym (places_bare v.objects) ∙ ap places h.objects ∙ places_bare w.objects

-- A command.

module _ (d : ℕ) (player : Dbref) (a : Actor) (line : List ℕ) (w : World) (denial : Denial) where
  shown_stays : (r p : Live × Outcome) → Shows w.live r → Shows w.live p → StaysInPlace (Some denial) w (followed_up d player r.1 (settled (record w { live = r.0; queue = ended_behind a line w.queue p })))
  shown_stays (v, Done) (u, Done) h k = (places_settled (record w { live = v }) ∙ places_noted w.live v h, last_settled (record w { live = v }))
  shown_stays (v, Done) _ h k = absurd k
  shown_stays _ p h k = absurd h

world_stays : (d : ℕ) (player : Dbref) (line : List ℕ) (w : World) → CommandStays player line w (in_world d player line w)
unfolding in_world typed processes_after_line
world_stays d player line w = at (lock_verdict a line w.live.objects) refl
  where
    a : Actor
    a = actor_of w.live.objects player

    at : (o : Option Denial) → lock_verdict a line w.live.objects ≡ o → StaysInPlace o w (in_world d player line w)
    at None e = tt
    at (Some denial) e =
        let shows : Shows w.live (played d a line w.live) = played_shows d a line w.live denial e in
        shown_stays d player a line w denial (typed w.queue d a line w.live) (played d a line w.live) (shows_or (played d a line) (by_keeper w.queue d a line) w.live shows) shows

pub line_locks : (d : ℕ) (w : World) → LineLocked d w (first_line_done d (connection d w) w)
line_locks d w = line_so CommandStays d (world_stays d) w
