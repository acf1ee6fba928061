-- Texts with what they mean, for a player `One` in a room, and an object without properties that carries them.
use Rattle.std.specs.Prelude.{◌≡◌, ℕ, List, [], ◌∷◌, Result, Ok, Err, codes, pos}
use Rattle.std.specs.FinMap as map
use Rattle.muck_model.specs.Numbers.{dbref_numbered}
use Rattle.mpi.specs.declared.fault.MpiFault.{MpiFault}
use Rattle.mpi.specs.declared.fault.MpiFault.TheVariants.{Unclosed, UnknownFunction, BadCount, BadValue, TooManyCommands, Denied}
use Rattle.mpi.specs.declared.memory.MemHost.{MemHost}
use Rattle.mpi.specs.declared.mind.Mind.{Mind}
use Rattle.mpi.specs.Meaning.{evaluated, scene_of}
use Rattle.mpi.specs.inner.Memory.{memory}

-- eight commands are allowed
abbrev small : MemHost
small = record { names = codes "Limbo" ∷ codes "One" ∷ codes "ball" ∷ []; props = []; told = []; words = 0; most = 8 }

abbrev empty_mind : Mind
empty_mind = record { variables = map.empty; left = 0 }

-- what a text gives
abbrev pub shown : List ℕ → Result (List ℕ) MpiFault
shown text = (evaluated (scene_of memory (dbref_numbered (pos 2))) text (empty_mind, small)).0

pub record Worked : Type 0 where
  pub row_1 : shown (codes "{if:{eq:a,A},yes,no}") ≡ Ok (codes "yes")
  pub row_2 : shown (codes "{midstr:abcdef,2,4}") ≡ Ok (codes "bcd")
  pub row_3 : shown (codes "{midstr:abcdef,4,2}") ≡ Err BadValue
  pub row_4 : shown (codes "{tell:hi,#1") ≡ Err Unclosed
  pub row_5 : shown (codes "{nosuch:1}") ≡ Err UnknownFunction
  pub row_6 : shown (codes "{not:1,2}") ≡ Err BadCount
  pub row_7 : shown (codes "{store:1,~x,me}") ≡ Err (Denied 4)
  pub row_8 : shown (codes "{while:1,{null:}}") ≡ Err TooManyCommands
