-- To which endings a last dump leads, to which a run comes, and to which a server.
use Rattle.muck_why.specs.Causes.{Ending}

abbrev pub EndsDump : Ending → Type 0
EndsDump Ending.stored = Unit {0}
EndsDump Ending.failed = Unit {0}
EndsDump Ending.died = Unit {0}
EndsDump end = ⊥

abbrev pub EndsRun : Ending → Type 0
EndsRun Ending.cut = Unit {0}
EndsRun end = EndsDump end

abbrev pub EndsServer : Ending → Type 0
EndsServer Ending.deaf = Unit {0}
EndsServer (Ending.spent turns) = Unit {0}
EndsServer end = EndsDump end
