-- Why a call ends that has read no script, and one that ceased to follow.
use Rattle.std.specs.Prelude.{ℕ, List, Option}
use Rattle.muck_follow.specs.declared.fault.FollowFault.{FollowFault}
use Rattle.muck_follow.specs.declared.fault.FollowFault.TheVariants as follow
use Rattle.muck_why.specs.declared.why.Why.{Why}
use Rattle.muck_why.specs.declared.why.Why.TheVariants.{BadScript, NoMemory, ReadFault, WriteFault, DiskFault}
use Rattle.muck_mirroring.specs.Mirroring.{IsFirstOutsideMirror}

-- why no script was read
abbrev pub IsScriptWhy : Option (List ℕ) → Why → Type 0
IsScriptWhy left (BadScript line) = IsFirstOutsideMirror left line
IsScriptWhy left NoMemory = Unit {0}
IsScriptWhy left ReadFault = Unit {0}
IsScriptWhy left why = ⊥

-- why following ended before its script did
abbrev pub why_of : FollowFault → Why
why_of follow.NoMemory = NoMemory
why_of follow.DiskFault = DiskFault
why_of follow.WriteFault = WriteFault
