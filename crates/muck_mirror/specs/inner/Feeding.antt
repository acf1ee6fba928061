use Rattle.std.specs.Prelude.{◌≡◌, ◌≤◌, ℕ, List, length, drop, insert, Result, Ok, Err}
use Rattle.muck_log.specs.World.{StoredWorld}
use Rattle.muck_mirror.specs.declared.feeding.Reading.{Reading}
use Rattle.muck_mirror.specs.declared.feeding.Reading.TheVariants.{Body as InBody, Strange}
use Rattle.muck_mirror.specs.declared.feeding.Come.{Come as Came}
use Rattle.muck_mirror.specs.Bodies.{FedBody}
use Rattle.muck_mirror.specs.Mirrors.{Come, bodies_kept_with}

-- what was read, which is of version 1
abbrev pub IsBodyRead : Reading → Result FedBody ℕ → Type 0
IsBodyRead (InBody number payload) read = read ≡ Ok (record { version = 1; number = number; payload = payload.now })
IsBodyRead (Strange at) read = read ≡ Err at

-- the world that it comes to, where so many of the kept ones are gone
pub record ComesTo (c : Came) (kept : List FedBody) (to : Come) (w : StoredWorld) : Type 0 where
  pub next : c.next ≡ to.next
  pub world : w ≡ to.world
  pub within : c.gone ≤ length kept
  pub left : drop c.gone kept ≡ to.kept

-- a body of that number is put in there
abbrev pub IsPlace : List FedBody → ℕ → ℕ → ℕ → Type 0
IsPlace kept next number at = (payload : List ℕ) → insert kept at (record { version = 1; number = number; payload = payload }) ≡ bodies_kept_with next (record { version = 1; number = number; payload = payload }) kept
