-- Units that are taken at once.
use Rattle.std.specs.Prelude.{ℕ, suc, ◌-◌, min, ℤ, if◌then◌else◌}
use Rattle.std.specs.Option.{option_map_or}
use Rattle.muck_model.specs.declared.tune.Tune.{Tune}
use Rattle.muck_queue.specs.Queues.{on_process, units_counted, more, is_preempt}
use Rattle.spec_events.specs.declared.starting.Agent.{Agent}
use Rattle.spec_events.specs.World.{World, on_queue}
use Rattle.spec_events.specs.Slices.{section_most, units_most_at}

-- it took so many units more
abbrev pub many_counted : ℕ → ℤ → World → World
many_counted n pid w = on_queue (on_process pid (units_counted n)) w

-- and so is for whom it acts
abbrev pub counting : ℕ → Agent → Agent
counting n x = record x { units = more n x.units; section = if is_preempt x.mode then more n x.section else x.section }

-- the units that a process takes before its section is too long, or its slice is through
abbrev pub unbroken : Tune → ℕ → Agent → ℕ
unbroken tune left x = if is_preempt x.mode then section_most tune - x.section else left - suc tune.preempt_units

-- those that its level leaves it, which are all that are left where there is no limit
abbrev pub unspent : Tune → ℕ → ℕ → Agent → ℕ
unspent tune level left x = option_map_or (λ most. most - x.units) (units_most_at tune level) left

-- of so many units that are left, those that it takes without being asked again
abbrev pub allowed : Tune → ℕ → ℕ → Agent → ℕ
allowed tune level left x = min left (min (unbroken tune left x) (unspent tune level left x))
