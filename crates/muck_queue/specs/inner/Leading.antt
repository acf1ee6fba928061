-- What it is to be before all others.
use Rattle.std.specs.Prelude.{◌≡◌, ◌⊎◌, ℕ, ℤ, true, false, List, [], ◌∷◌, Option, Some, None}
use Rattle.muck_queue.specs.declared.claim.Claim.{Claim}
use Rattle.muck_queue.specs.declared.process.Process.{Process}
use Rattle.muck_queue.specs.Queues.{is_process_due, is_before}

-- r is one of these
abbrev pub IsAmong : Process → List Process → Type 0
IsAmong r [] = ⊥
IsAmong r (p ∷ ps) = (r ≡ p) ⊎ IsAmong r ps

-- none of these is before r
abbrev pub NoneBefore : Process → List Process → Type 0
NoneBefore r [] = Unit {0}
NoneBefore r (p ∷ ps) = (is_before p r ≡ false) × NoneBefore r ps

-- none of these is due and before r
abbrev pub NoneDueBefore : ℕ → List Claim → Process → List Process → Type 0
NoneDueBefore moment cs r [] = Unit {0}
NoneDueBefore moment cs r (p ∷ ps) = (is_process_due moment cs p ≡ true → is_before p r ≡ false) × NoneDueBefore moment cs r ps

-- none of these is due
abbrev pub NoneDue : ℕ → List Claim → List Process → Type 0
NoneDue moment cs [] = Unit {0}
NoneDue moment cs (p ∷ ps) = (is_process_due moment cs p ≡ false) × NoneDue moment cs ps

-- the process of that number is one of these, it is due, and no other that is due is before it
pub record Leads (moment : ℕ) (cs : List Claim) (ps : List Process) (pid : ℤ) : Type 0 where
  pub process : Process
  pub number : process.number ≡ pid
  pub among : IsAmong process ps
  pub due : is_process_due moment cs process ≡ true
  pub first : NoneDueBefore moment cs process ps

-- the number of the process that is to go on next, or none where none is due
abbrev pub IsNext : ℕ → List Claim → List Process → Option ℤ → Type 0
IsNext moment cs ps (Some pid) = Leads moment cs ps pid
IsNext moment cs ps None = NoneDue moment cs ps
