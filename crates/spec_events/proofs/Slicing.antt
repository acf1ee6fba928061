-- What holds of no units, and with what follows a unit of that unit before it, holds of the units of a process.
use Rattle.std.proofs.Common.{◌≡◌, ℕ, ℤ, zero, suc, Bool, true, false, cond, List, [], ◌∷◌, refl, Option, Some, None}
use Rattle.std.specs.Option.{option_map_or}
use Rattle.muck_model.specs.declared.tune.Tune.{Tune}
use Rattle.muf_model.specs.Source.{Source}
use Rattle.spec_events.specs.declared.starting.Agent.{Agent}
use Rattle.spec_events.specs.World.{World}
use Rattle.spec_events.specs.Slices.{Taken, Went, on, rest, over, unit_taken, world_of, unit_of, seat, then_more, is_through, unit_then, next_unit, units_run}

module _ (tune : Tune) (pid : ℤ) (P : World → List Taken → Type 0) (none : (w : World) → P w [])
    (next : (w : World) (x : Agent) (s : Source) (ts : List Taken) → seat pid w ≡ Some (x, s) → P (world_of (unit_taken tune pid x s w)) ts → P w (unit_of x s w (unit_taken tune pid x s w) ∷ ts)) where
  holds_more : (go : World → List Taken) → ((w : World) → P w (go w)) → (t : Went) → P (world_of t) (then_more go t)
  holds_more go h (on w) = h w
  holds_more go h (rest w) = none w
  holds_more go h (over w) = none w

  holds_seated : (left : ℕ) (w : World) (go : World → List Taken) → ((v : World) → P v (go v)) → (o : Option (Agent × Source)) → seat pid w ≡ o → P w (option_map_or (next_unit tune left pid w go) o [])
  holds_seated left w go h None e = none w
  holds_seated left w go h (Some (x, s)) e = either (is_through tune left x)
    where
      either : (b : Bool) → P w (cond b [] (unit_then tune pid w go (x, s)))
      either true = none w
      either false = next w x s (then_more go (unit_taken tune pid x s w)) e (holds_more go h (unit_taken tune pid x s w))

  pub run_holds : (n : ℕ) (w : World) → P w (units_run tune n pid w)
  unfolding units_run
  run_holds zero w = none w
  run_holds (suc n) w = holds_seated (suc n) w (units_run tune n pid) (run_holds n) (seat pid w) refl
