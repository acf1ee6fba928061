-- What denies nothing.
use Rattle.muf_model.specs.declared.fault.MufFault.{MufFault}
use Rattle.muf_model.specs.declared.fault.MufFault.TheVariants.{Denied}
use Rattle.muf_model.specs.Answer.{Answer, refuses}
use Rattle.muf_model.specs.Unit.{Outcome, faulted}

-- a fault that is no denial
abbrev pub NoDenial : MufFault → Type 0
NoDenial (Denied rule) = ⊥
NoDenial fault = Unit {0}

-- what a word makes of the stack and the variables
abbrev pub NotDenied : Answer → Type 0
NotDenied (refuses f) = NoDenial f
NotDenied answer = Unit {0}

-- how a unit ends
abbrev pub EndsPlain : Outcome → Type 0
EndsPlain (faulted f) = NoDenial f
EndsPlain outcome = Unit {0}
