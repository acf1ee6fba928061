-- What reading a script answers.
use Rattle.std.specs.Prelude.{◌≡◌, ℕ, List, Result, Ok, Err}
use Rattle.muck_follow.specs.declared.act.Act.{Act}
use Rattle.muck_follow.specs.declared.script.ScriptFault.{ScriptFault}
use Rattle.muck_follow.specs.declared.script.ScriptFault.TheVariants.{BadScript, NoMemory}
use Rattle.muck_follow.specs.declared.script.Script.{Script}
use Rattle.muck_follow.specs.Script.{mirror_script_of}

-- these are the acts, or this is the number of the first line outside; want of memory says nothing
abbrev pub IsReading : Result (List Act) ℕ → Result Script ScriptFault → Type 0
IsReading all (Ok script) = all ≡ Ok script
IsReading all (Err (BadScript line)) = all ≡ Err line
IsReading all (Err NoMemory) = Unit {0}

-- the bytes are this script, or this is their first line outside
abbrev pub IsScriptOf : List ℕ → Result Script ScriptFault → Type 0
IsScriptOf bytes result = IsReading (mirror_script_of bytes) result
