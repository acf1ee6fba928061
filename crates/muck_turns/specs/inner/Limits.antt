-- Slices, by what the code of them answers.
use Rattle.std.specs.Prelude.{◌≡◌, ◌⊎◌, ℕ, suc, ◌<◌, ◌≤◌, ℤ, Bool, true, false, Option, Some, None}
use Rattle.muck_model.specs.declared.tune.Tune.{Tune}
use Rattle.muf_model.specs.Source.{Source}
use Rattle.muf_model.specs.Unit.{Outcome, goes, asks, units}
use Rattle.muf_model.specs.Chains.{taken}
use Rattle.spec_events.specs.declared.starting.Agent.{Agent}
use Rattle.spec_events.specs.World.{World}
use Rattle.spec_events.specs.Slices.{Went, on, rest, over, world_of, deed, after_deed, unit_went, is_through, limit_fault, units_run, last_world}
use Rattle.spec_events.specs.inner.Stints.{allowed, many_counted}
use Rattle.muck_turns.specs.declared.state.limits.Allowance.{Allowance}
use Rattle.muck_turns.specs.declared.state.limits.Allowance.TheVariants.{Through, Spent, Units}

-- whether a process goes on
abbrev pub goes_on : Went → Bool
goes_on (on w) = true
goes_on (rest w) = false
goes_on (over w) = false

-- a unit left the world so, and the process goes on or not
pub record LeadsTo (b : Bool) (v : World) (t : Went) : Type 0 where
  pub goes : goes_on t ≡ b
  pub world : world_of t ≡ v

-- of so many units that are left: the slice is through; or the next one has that fault; or so many may be taken at once
abbrev pub Allows : Tune → ℕ → ℕ → Agent → Allowance → Type 0
Allows tune level left x Through = (left ≡ 0) ⊎ (is_through tune left x ≡ true)
Allows tune level left x (Spent f) = (0 < left) × (is_through tune left x ≡ false) × (limit_fault tune level x ≡ Some f)
Allows tune level left x (Units n) = (0 < n) × (n ≤ allowed tune level left x)

-- How units that were taken at once left a world that the state of the process is out of: n of them, beside the one that is asked for.
abbrev pub ran : ℤ → Agent → ℕ → ℤ → Outcome → World → Went
ran pid x n program (asks p t) w = after_deed pid x.player t (deed pid x p t (many_counted (suc n) pid w))
ran pid x n program o w = unit_went pid x.player program o (many_counted n pid w)

-- and how many they are with that one
abbrev pub ran_units : ℕ → Outcome → ℕ
ran_units n (asks p t) = suc n
ran_units n o = n

-- at most m units of a process at s: it goes on behind so many, or doesn't
abbrev pub Runs : ℤ → Agent → ℕ → Source → World → World → Option ℕ → Type 0
Runs pid x m s w v (Some k) = (k ≡ ran_units (taken m s) (units m s)) × LeadsTo true v (ran pid x (taken m s) s.program.number (units m s) w)
Runs pid x m s w v None = LeadsTo false v (ran pid x (taken m s) s.program.number (units m s) w)

-- units of a process that has n: it goes on with fewer, or is over
abbrev pub Stops : Tune → ℤ → ℕ → World → World → Option ℕ → Type 0
Stops tune pid n w v (Some left) = (left < n) × (last_world w (units_run tune n pid w) ≡ last_world v (units_run tune left pid v))
Stops tune pid n w v None = last_world w (units_run tune n pid w) ≡ v
