-- What is printed is read again.
use Rattle.std.specs.Prelude.{◌≡◌, ℕ, ◌<◌, ◌≤◌, Bool, true, not, ◌&&◌, List, length, Result, Ok, Err}
use Rattle.muck_model.specs.Bytes.{text_most}
use Rattle.muck_model.specs.declared.line.Line.{Line}
use Rattle.muck_model.specs.declared.lock.Lock.{Lock, Lock-F, fold-Lock}
use Rattle.muck_lock.specs.Naming.{Naming}
use Rattle.muck_lock.specs.Grammar.{lock_of}
use Rattle.muck_lock.specs.Printed.{lock_printed}
use Rattle.muck_lock.specs.declared.fault.LockFault.{LockFault}
use Rattle.muck_lock.specs.declared.fault.LockFault.TheVariants.{BadLock, NoMemory}

-- the text, or that it would be too long; want of memory says nothing
abbrev pub IsPrinted : Lock → Result Line LockFault → Type 0
IsPrinted lock (Ok line) = (line ≡ lock_printed lock) × (length (lock_printed lock) ≤ text_most)
IsPrinted lock (Err (BadLock at)) = (at ≡ text_most) × (text_most < length (lock_printed lock))
IsPrinted lock (Err NoMemory) = Unit {0}

abbrev pub has_no_program_step : Naming → Lock-F Bool → Bool
has_no_program_step names Lock-F.Free = true
has_no_program_step names (Lock-F.Object d) = not (names.is_program d)
has_no_program_step names (Lock-F.Prop path value) = true
has_no_program_step names (Lock-F.Not a) = a
has_no_program_step names (Lock-F.Both a b) = a && b
has_no_program_step names (Lock-F.Either a b) = a && b

-- none of its keys is taken for a program
abbrev pub has_no_program : Naming → Lock → Bool
has_no_program names = fold-Lock Bool (has_no_program_step names)

-- Where some text is read as the lock, this text is read as that lock whatever names stand for, unless a key of it is
-- taken for a program.
abbrev pub ReadsBack : Lock → List ℕ → Type 0
ReadsBack lock text =
    (names : Naming) (source : List ℕ) → lock_of names source ≡ Ok lock
    → (others : Naming) → has_no_program others lock ≡ true → lock_of others text ≡ Ok lock
