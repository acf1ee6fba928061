-- What a wizard tunes: one table of the parameters.
use Rattle.std.specs.Prelude.{◌≤◌, ℕ, Bool, ◌&&◌, nat_le, List, [], ◌∷◌, map, find, codes, Option}
use Rattle.std.specs.List.{list_all}
use Rattle.std.specs.Str.{bytes_eq}
use Rattle.muck_model.specs.declared.tune.Tune.{Tune}
use Rattle.muck_model.specs.declared.tune.Parameter.{Parameter}
use Rattle.muck_model.specs.declared.tune.Parameter.TheVariants.{InstrSlice, PreemptUnits, M1Units, M2Units, ProcessLimit, PlayerProcesses, MpiCommands, DumpInterval}
use Rattle.muck_model.specs.declared.tune.ParameterRow.{ParameterRow as Kept}

-- What is so of a parameter: its name, what it is at first, and the most that it may be; each is at least 1.
pub record ParameterRow : Type 0 where
  pub name : List ℕ
  pub first : ℕ
  pub most : ℕ

abbrev row : List ℕ → ℕ → ℕ → ParameterRow
row name first most = record { name = name; first = first; most = most }

-- the table of all parameters
abbrev pub row_of : Parameter → ParameterRow
row_of InstrSlice = row (codes "instr_slice") 2000 20000
row_of PreemptUnits = row (codes "preempt_units") 20000 20000
row_of M1Units = row (codes "m1_units") 20000 1000000
row_of M2Units = row (codes "m2_units") 80000 1000000
row_of ProcessLimit = row (codes "process_limit") 400 400
row_of PlayerProcesses = row (codes "player_processes") 32 400
row_of MpiCommands = row (codes "mpi_commands") 2048 2048
row_of DumpInterval = row (codes "dump_interval") 900 86400

abbrev pub shown_row : Kept → ParameterRow
shown_row r = row r.name.now r.first r.most

-- all parameters, in the order in which they are shown and stored
unfoldable pub parameters : List Parameter
parameters = InstrSlice ∷ PreemptUnits ∷ M1Units ∷ M2Units ∷ ProcessLimit ∷ PlayerProcesses ∷ MpiCommands ∷ DumpInterval ∷ []

-- the parameter of exactly this name
abbrev pub parameter_named : List ℕ → Option Parameter
parameter_named name = find (λ p. bytes_eq (row_of p).name name) parameters

-- The parameters of a server.

abbrev pub parameter_of : Parameter → Tune → ℕ
parameter_of InstrSlice tune = tune.instr_slice
parameter_of PreemptUnits tune = tune.preempt_units
parameter_of M1Units tune = tune.m1_units
parameter_of M2Units tune = tune.m2_units
parameter_of ProcessLimit tune = tune.process_limit
parameter_of PlayerProcesses tune = tune.player_processes
parameter_of MpiCommands tune = tune.mpi_commands
parameter_of DumpInterval tune = tune.dump_interval

abbrev pub with_parameter : Parameter → ℕ → Tune → Tune
with_parameter InstrSlice n tune = record tune { instr_slice = n }
with_parameter PreemptUnits n tune = record tune { preempt_units = n }
with_parameter M1Units n tune = record tune { m1_units = n }
with_parameter M2Units n tune = record tune { m2_units = n }
with_parameter ProcessLimit n tune = record tune { process_limit = n }
with_parameter PlayerProcesses n tune = record tune { player_processes = n }
with_parameter MpiCommands n tune = record tune { mpi_commands = n }
with_parameter DumpInterval n tune = record tune { dump_interval = n }

-- their values, in the order of the table
abbrev pub values_of : Tune → List ℕ
values_of tune = map (λ p. parameter_of p tune) parameters

-- the parameters that have these values
abbrev tune_by : (Parameter → ℕ) → Tune
tune_by value = record {
  instr_slice = value InstrSlice;
  preempt_units = value PreemptUnits;
  m1_units = value M1Units;
  m2_units = value M2Units;
  process_limit = value ProcessLimit;
  player_processes = value PlayerProcesses;
  mpi_commands = value MpiCommands;
  dump_interval = value DumpInterval;
}

-- what is tuned at first
unfoldable pub first_tune : Tune
first_tune = tune_by (λ p. (row_of p).first)

-- a parameter is in its range
abbrev pub is_in_range : Tune → Parameter → Bool
is_in_range tune p = nat_le 1 (parameter_of p tune) && nat_le (parameter_of p tune) (row_of p).most

-- each is
unfoldable pub tune_fits : Tune → Bool
tune_fits tune = list_all (is_in_range tune) parameters

abbrev pub IsInRange : Tune → Type 0
IsInRange tune = (p : Parameter) → (1 ≤ parameter_of p tune) × (parameter_of p tune ≤ (row_of p).most)
