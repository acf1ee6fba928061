-- Reading in one pass: what waits for the part that is being read, and what becomes of it.
use Rattle.std.specs.Prelude.{◌≡◌, ℕ, ◌+◌, ◌<◌, ◌≤◌, Bool, true, false, not, ◌&&◌, ◌==◌, List, [], ◌∷◌, length, drop, reverse, Option, Some, None, Result, Ok, Err}
use Rattle.muck_model.specs.declared.lock.Lock.{Lock}
use Rattle.muck_model.specs.declared.lock.Lock.TheVariants as locks
use Rattle.muck_lock.specs.Naming.{Naming}
use Rattle.muck_lock.specs.Grammar.{LockReading, part_reading, negated, bracket_closed, with_first_lock, locks_joined, whole}
use Rattle.muck_lock.specs.declared.part.Part.{Part}
use Rattle.muck_lock.specs.declared.part.Part.TheVariants.{OneOf, AllOf, Term}
use Rattle.muck_lock.specs.declared.fault.LockFault.{LockFault}
use Rattle.muck_lock.specs.declared.fault.LockFault.TheVariants.{BadLock, NoMemory}
use Rattle.muck_lock.specs.declared.reader.Waiting.{Waiting}
use Rattle.muck_lock.specs.declared.reader.Waiting.TheVariants.{Not, Group, Both, Either}
use Rattle.muck_lock.specs.declared.reader.Next.{Next}
use Rattle.muck_lock.specs.declared.reader.Next.TheVariants.{More, Done}

-- whether nothing more comes before what waits goes on
abbrev pub ends : Waiting → Option ℕ → Bool
ends Not ahead = true
ends Group None = false
ends Group (Some b) = b == 41
ends (Both first) None = true
ends (Both first) (Some b) = not (b == 38)
ends (Either first) None = true
ends (Either first) (Some b) = not (b == 38) && not (b == 124)

-- what waits, with the lock that it waited for
abbrev pub filled : Waiting → Lock → Lock
filled Not lock = locks.Not lock
filled Group lock = lock
filled (Both first) lock = locks.Both first lock
filled (Either first) lock = locks.Either first lock

-- where it ends then: a `(` takes the `)` ahead
abbrev pub place_behind : Waiting → ℕ → ℕ
place_behind Not at = at
place_behind Group at = at + 1
place_behind (Both first) at = at
place_behind (Either first) at = at

-- which part it waits for
abbrev pub wanted : Waiting → Part
wanted Not = Term
wanted Group = OneOf
wanted (Both first) = AllOf
wanted (Either first) = OneOf

-- which part it is then
abbrev pub given : Waiting → Part
given Not = Term
given Group = Term
given (Both first) = AllOf
given (Either first) = OneOf

-- the reading of what waits, from that of the part that it waits for
abbrev pub filling : Waiting → LockReading → LockReading
filling Not r = negated r
filling Group r = bracket_closed r
filling (Both first) r = with_first_lock locks.Both first r
filling (Either first) r = with_first_lock locks.Either first r

-- a looser part that begins with one that was read
abbrev pub widened : Naming → Part → Part → LockReading → LockReading
widened names Term Term r = r
widened names Term AllOf r = locks_joined 38 locks.Both (part_reading names AllOf) r
widened names Term OneOf r = locks_joined 124 locks.Either (part_reading names OneOf) (locks_joined 38 locks.Both (part_reading names AllOf) r)
widened names AllOf Term r = r
widened names AllOf AllOf r = r
widened names AllOf OneOf r = locks_joined 124 locks.Either (part_reading names OneOf) r
widened names OneOf Term r = r
widened names OneOf AllOf r = r
widened names OneOf OneOf r = r

-- the whole reading, from that of a part and all that waits, the last first
abbrev pub resumed : Naming → List Waiting → Part → LockReading → LockReading
resumed names [] part r = widened names part OneOf r
resumed names (w ∷ more) part r = resumed names more (given w) (filling w (widened names part (wanted w) r))

-- what the text is, where a term is read from that place on and this waits
abbrev pub outcome_at : Naming → List ℕ → List Waiting → ℕ → Result Lock ℕ
outcome_at names text waiting at = whole (length text) (resumed names (reverse waiting) Term (part_reading names Term (drop at text)))

-- what the text is, where that lock was read up to the place
abbrev pub outcome_behind : Naming → List ℕ → List Waiting → Lock → ℕ → Result Lock ℕ
outcome_behind names text waiting lock at = whole (length text) (resumed names (reverse waiting) Term (Ok (lock, drop at text)))

-- a next term is read further on with the same outcome, or the outcome is known
abbrev pub GoesOn : Naming → List ℕ → Result Lock ℕ → ℕ → List Waiting → Result Next LockFault → Type 0
GoesOn names text outcome before waiting (Ok (More at)) = (outcome_at names text waiting at ≡ outcome) × (before < at) × (at ≤ length text)
GoesOn names text outcome before waiting (Ok (Done lock)) = outcome ≡ Ok lock
GoesOn names text outcome before waiting (Err (BadLock at)) = outcome ≡ Err at
GoesOn names text outcome before waiting (Err NoMemory) = Unit {0}

-- what is read, or where reading fails; want of memory says nothing
abbrev pub IsRead : Result Lock ℕ → Result Lock LockFault → Type 0
IsRead outcome (Ok lock) = outcome ≡ Ok lock
IsRead outcome (Err (BadLock at)) = outcome ≡ Err at
IsRead outcome (Err NoMemory) = Unit {0}

-- the last that waits doesn't go on yet
abbrev pub LastStays : Option ℕ → List Waiting → Type 0
LastStays ahead [] = Unit {0}
LastStays ahead (w ∷ more) = ends w ahead ≡ false
