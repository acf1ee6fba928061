-- What is tuned is in its range.
use Rattle.std.proofs.Common.{◌≡◌, ◌≤◌, ◌<◌, ◌^◌, ℕ, Bool, true, List, [], ◌∷◌, length, get_or, refl, arith}
use Rattle.std.specs.Prelude.{nat_le}
use Rattle.std.specs.List.{list_all}
use Rattle.std.proofs.lemmas.Bool.{and_parts, and_from, leb-true, le-leb}
use Rattle.std.proofs.lemmas.List.Sums.{AllPass-from_list_all, list_all-from_AllPass}
use Rattle.muck_model.specs.declared.tune.Tune.{Tune}
use Rattle.muck_model.specs.declared.tune.Parameter.{Parameter}
use Rattle.muck_model.specs.declared.tune.Parameter.TheVariants.{InstrSlice, PreemptUnits, M1Units, M2Units, ProcessLimit, PlayerProcesses, MpiCommands, DumpInterval}
use Rattle.muck_model.specs.Parameters.{row_of, parameters, parameter_of, with_parameter, values_of, first_tune, is_in_range, tune_fits, IsInRange}

-- what is so of all parameters of the table is so of each
pub so_of_each : (test : Parameter → Bool) → list_all test parameters ≡ true → (p : Parameter) → test p ≡ true
unfolding parameters
so_of_each test all p = at p
  where
    nth : (k : ℕ) → k < length parameters → test (get_or parameters k InstrSlice) ≡ true
    nth k h = AllPass-from_list_all test parameters all k InstrSlice h

    at : (p : Parameter) → test p ≡ true
    at InstrSlice = nth 0 (omega arith)
    at PreemptUnits = nth 1 (omega arith)
    at M1Units = nth 2 (omega arith)
    at M2Units = nth 3 (omega arith)
    at ProcessLimit = nth 4 (omega arith)
    at PlayerProcesses = nth 5 (omega arith)
    at MpiCommands = nth 6 (omega arith)
    at DumpInterval = nth 7 (omega arith)

pub so_of_all : (test : Parameter → Bool) → ((p : Parameter) → test p ≡ true) → list_all test parameters ≡ true
so_of_all test each = list_all-from_AllPass test parameters (λ k d h. each (get_or parameters k d))

pub in_range : (t : Tune) → tune_fits t ≡ true → IsInRange t
unfolding tune_fits
in_range t fits p =
    let both = and_parts _ _ (so_of_each (is_in_range t) fits p) in
    (leb-true 1 (parameter_of p t) both.0, leb-true (parameter_of p t) (row_of p).most both.1)

pub fits_in_range : (t : Tune) → IsInRange t → tune_fits t ≡ true
unfolding tune_fits
fits_in_range t in_range = so_of_all (is_in_range t) (λ p. and_from _ _ (le-leb 1 (parameter_of p t) (in_range p).0) (le-leb (parameter_of p t) (row_of p).most (in_range p).1))

-- what is tuned at first is
pub first_fits : tune_fits first_tune ≡ true
unfolding tune_fits first_tune parameters
first_fits = refl

abbrev is_word : Parameter → Bool
is_word p = nat_le (row_of p).most 4294967295

all_words : list_all is_word parameters ≡ true
unfolding parameters
all_words = refl

-- the most of each is a number of 32 bits
pub most_is_word : (p : Parameter) → (row_of p).most < 2 ^ 32
most_is_word p = omega (arith, leb-true (row_of p).most 4294967295 (so_of_each is_word all_words p))

-- a parameter is set: it, and each other one
pub set_in_range : (p r : Parameter) (n : ℕ) (tune : Tune) → (1 ≤ n) × (n ≤ (row_of p).most) → (1 ≤ parameter_of r tune) × (parameter_of r tune ≤ (row_of r).most)
    → (1 ≤ parameter_of r (with_parameter p n tune)) × (parameter_of r (with_parameter p n tune) ≤ (row_of r).most)
set_in_range InstrSlice InstrSlice n tune h k = h
set_in_range PreemptUnits PreemptUnits n tune h k = h
set_in_range M1Units M1Units n tune h k = h
set_in_range M2Units M2Units n tune h k = h
set_in_range ProcessLimit ProcessLimit n tune h k = h
set_in_range PlayerProcesses PlayerProcesses n tune h k = h
set_in_range MpiCommands MpiCommands n tune h k = h
set_in_range DumpInterval DumpInterval n tune h k = h
set_in_range p r n tune h k = k

-- Parameters by their values.

-- these parameters have these values
abbrev pub put_all : List Parameter → List ℕ → Tune → Tune
put_all [] ns tune = tune
put_all (p ∷ ps) [] tune = tune
put_all (p ∷ ps) (n ∷ ns) tune = put_all ps ns (with_parameter p n tune)

-- as many values as there are parameters are theirs
pub filled : (ns : List ℕ) → length ns ≡ length parameters → values_of (put_all parameters ns first_tune) ≡ ns
unfolding parameters
filled (a ∷ b ∷ c ∷ d ∷ e ∷ f ∷ g ∷ h ∷ []) is = refl
filled ns is = absurd (omega (arith, is))

pub taken_again : (tune : Tune) → put_all parameters (values_of tune) first_tune ≡ tune
unfolding parameters
taken_again tune = refl

pub as_many : (tune : Tune) → length (values_of tune) ≡ length parameters
unfolding parameters
as_many tune = refl
