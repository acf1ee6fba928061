-- How the machine and the source end alike.
use Rattle.std.specs.Prelude.{◌≡◌, List, drop}
use Rattle.muf_model.specs.declared.code.Code.{Code}
use Rattle.muf_model.specs.Unit.{Outcome, goes, ended, faulted, asks, stuck as source_stuck}
use Rattle.muf_model.specs.inner.Fits.{FitsState}
use Rattle.muf_run.specs.inner.Machine.{Next, going, at_end, broken, asking, stuck}

-- The frame stands for the state, with the codes but those of the programs that were left.
abbrev pub EndsAlike : List Code → Next → Outcome → Type 0
EndsAlike codes (going k f) (goes j s) = (k ≡ j) × FitsState (drop j codes) f s
EndsAlike codes at_end ended = Unit {0}
EndsAlike codes (broken f) (faulted g) = f ≡ g
EndsAlike codes (asking p f) (asks q s) = (p ≡ q) × FitsState codes f s
EndsAlike codes stuck source_stuck = Unit {0}
EndsAlike codes _ _ = ⊥
