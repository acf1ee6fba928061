-- A process: the programs that it is in, and how many units are taken.
use Rattle.std.specs.Prelude.{◌≡◌, ℕ, zero, suc, drop, List, [], ◌∷◌}
use Rattle.muf_model.specs.declared.prims.Primitive.{Primitive as Name}
use Rattle.muf_model.specs.declared.code.Word.TheVariants.{Primitive}
use Rattle.muf_model.specs.Tree.{Block, word}
use Rattle.muf_model.specs.Source.{Program, Mark, looping, trying, calling, entering, Source}
use Rattle.muf_model.specs.Unit.{Outcome, goes, ended, faulted, asks, stuck, unit}

-- the programs that a process is in below the running one, the nearest first
abbrev pub callers_of : List Mark → List Program
callers_of [] = []
callers_of (looping t round c last next end ∷ ms) = callers_of ms
callers_of (trying locked next end ∷ ms) = callers_of ms
callers_of (calling saved next end ∷ ms) = callers_of ms
callers_of (entering caller saved next end ∷ ms) = caller ∷ callers_of ms

-- the programs that a process is in, the running one first
abbrev pub programs_of : Source → List Program
programs_of s = s.program ∷ callers_of s.marks

-- how many units that was, where what follows takes so many
abbrev pub count : Outcome → (Source → ℕ) → ℕ
count (goes zero s) more = suc (more s)
count (goes (suc k) s) more = 1
count ended more = 1
count (faulted f) more = 1
count (asks p s) more = 0
count stuck more = 1

-- how many of at most n units are taken
abbrev pub taken : ℕ → Source → ℕ
taken zero s = 0
taken (suc n) s = count (unit s) (taken n)

-- the state stands at this shared primitive
pub record StandsAt (p : Name) (s : Source) : Type 0 where
  pub line : ℕ
  pub next : Block
  pub at : s.now ≡ word line (Primitive p) next
  pub asked : unit s ≡ asks p s

-- Of these programs, the process is in those behind the ones that were left; and it stands at the shared primitive
-- that it asks for.
abbrev pub Keeps : List Program → Outcome → Type 0
Keeps ps (goes k t) = programs_of t ≡ drop k ps
Keeps ps ended = Unit {0}
Keeps ps (faulted f) = Unit {0}
Keeps ps (asks p t) = (programs_of t ≡ ps) × StandsAt p t
Keeps ps stuck = Unit {0}
