-- Sections that stay whole.
use Rattle.std.specs.Prelude.{◌≡◌, ◌⊎◌, ℕ, ◌+◌, ◌≤◌, ℤ, false, List, [], ◌∷◌, length, Option, Some, None}
use Rattle.muck_model.specs.declared.tune.Tune.{Tune}
use Rattle.muf_model.specs.Source.{Source}
use Rattle.muf_model.specs.declared.fault.MufFault.TheVariants.{PreemptTooLong}
use Rattle.muck_queue.specs.Queues.{is_preempt}
use Rattle.spec_events.specs.declared.starting.Agent.{Agent}
use Rattle.spec_events.specs.World.{World}
use Rattle.spec_events.specs.Slices.{Taken, Went, on, rest, over, limit_fault, seat}

-- a process that is seated so isn't in preempt
abbrev pub IsInterruptible : Option (Agent × Source) → Type 0
IsInterruptible None = Unit {0}
IsInterruptible (Some (x, s)) = is_preempt x.mode ≡ false

-- after a unit the process has ended, or waits, or isn't in preempt
abbrev pub Stops : ℤ → Went → Type 0
Stops pid (on w) = IsInterruptible (seat pid w)
Stops pid (rest w) = Unit {0}
Stops pid (over w) = Unit {0}

-- after the last of these units, or where there is none
abbrev pub LastStops : ℤ → World → List Taken → Type 0
LastStops pid w [] = IsInterruptible (seat pid w)
LastStops pid w (t ∷ []) = Stops pid t.turn
LastStops pid w (t ∷ u ∷ ts) = LastStops pid w (u ∷ ts)

-- a unit whose section had as many as it may have
abbrev pub IsOverlong : Tune → ℕ → Option (Agent × Source) → Type 0
IsOverlong tune level None = ⊥
IsOverlong tune level (Some (x, s)) = limit_fault tune level x ≡ Some PreemptTooLong

abbrev pub IsTooLong : Tune → ℤ → Taken → Type 0
IsTooLong tune pid t = IsOverlong tune t.actor.level (seat pid t.before)

abbrev pub LastTooLong : Tune → ℤ → List Taken → Type 0
LastTooLong tune pid [] = ⊥
LastTooLong tune pid (t ∷ []) = IsTooLong tune pid t
LastTooLong tune pid (t ∷ u ∷ ts) = LastTooLong tune pid (u ∷ ts)

-- The units of a slice are whole: after them the process has ended, waits, or isn't in preempt, so that its section lies in this
-- slice. They are as many as a slice has outside preempt and a section in it, or one more, which is the fault of a section that
-- is too long.
pub record IsWhole (tune : Tune) (pid : ℤ) (w : World) (ts : List Taken) : Type 0 where
  pub stops : LastStops pid w ts
  pub most : (length ts ≤ tune.instr_slice + tune.preempt_units) ⊎ ((length ts ≡ tune.instr_slice + tune.preempt_units + 1) × LastTooLong tune pid ts)
