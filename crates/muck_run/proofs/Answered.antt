-- From what a part answers to what the call answers.
use Rattle.std.proofs.Common.{◌≡◌, ℕ, List, Result, Err, subst}
use Rattle.muck_script.specs.declared.act.Act.{Act}
use Rattle.muck_script.specs.declared.script.ScriptFault.{ScriptFault}
use Rattle.muck_script.specs.declared.script.ScriptFault.TheVariants.{BadScript as BadLine}
use Rattle.muck_script.specs.inner.Reading.{IsReading}

pub bad_line : (r : Result (List Act) ℕ) (fault : ScriptFault) (line : ℕ) → fault ≡ BadLine line → IsReading r (Err fault) → r ≡ Err line
bad_line r fault line e p = let P : ScriptFault → Type 0 = λ x. IsReading r (Err x) in subst P e p
