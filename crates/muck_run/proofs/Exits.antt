-- A part of a run whose answer is that of its last part.
use Rattle.std.proofs.Common.{ℕ, List, Option, Result, Ok, Err}
use Rattle.spec_events.specs.Histories.{History}
use Rattle.muck_script.specs.Story.{Part, both_parts}
use Rattle.muck_run.specs.declared.playing.RunFault.{RunFault}
use Rattle.muck_run.specs.inner.Plays.{Plays, PlaysOrBreaks, ending_of}
use Rattle.muck_run.proofs.Parts.{plays_both, breaks_second}

-- the first part was played, and the second answers
pub second_part : {T : Type 0} (f g : Part) (h k m : History) (a b c : Option (List ℕ)) (r : Result T RunFault) → Plays f h k a b → PlaysOrBreaks g k m b c r → PlaysOrBreaks (both_parts f g) h m a c r
second_part f g h k m a b c (Ok x) p q = plays_both f g h k m a b c p q
second_part f g h k m a b c (Err fault) p q = breaks_second f g (ending_of fault) h k m a b c p q
