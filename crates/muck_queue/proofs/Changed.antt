-- A process that a change leaves its number.
use Rattle.std.proofs.Common.{◌≡◌, ℤ, Bool, true, false, cond, List, [], ◌∷◌, refl, sym, ◌∙◌, ap, Some, None}
use Rattle.std.specs.Prelude.{find}
use Rattle.std.specs.Option.{option_map}
use Rattle.std.specs.Ordering.{int_eq}
use Rattle.std.proofs.lemmas.Bool.{cond-true, cond-false}
use Rattle.muck_laws.proofs.Numbers.{other_number}
use Rattle.muck_queue.specs.declared.process.Process.{Process}
use Rattle.muck_queue.specs.Queues.{Queue, has_pid, changed_first, without_first, with_processes, process, on_process, without_process}

-- a change leaves each process its number
abbrev pub KeepsNumber : (Process → Process) → Type 0
KeepsNumber f = (p : Process) → (f p).number ≡ p.number

-- so it has the number that it had
has_same : (n : ℤ) (f : Process → Process) → KeepsNumber f → (p : Process) (b : Bool) → has_pid n p ≡ b → has_pid n (f p) ≡ b
has_same n f k p b e = ap (λ m. int_eq m n) (k p) ∙ e

-- In lists.

twice_first : (pid : ℤ) (f g : Process → Process) → KeepsNumber g → (ps : List Process) →
    changed_first (has_pid pid) f (changed_first (has_pid pid) g ps) ≡ changed_first (has_pid pid) (λ p. f (g p)) ps
twice_first pid f g k [] = refl
twice_first pid f g k (p ∷ ps) =
    (elim (has_pid pid p) as (λ b. has_pid pid p ≡ b → changed_first (has_pid pid) f (cond b (g p ∷ ps) (p ∷ changed_first (has_pid pid) g ps)) ≡ cond b (f (g p) ∷ ps) (p ∷ changed_first (has_pid pid) (λ q. f (g q)) ps)) [
      | true ↦ λ e. cond-true _ _ _ (has_same pid g k p true e)
      | false ↦ λ e. cond-false _ _ _ e ∙ ap (λ xs. p ∷ xs) (twice_first pid f g k ps)
    ]) refl

taken_first : (pid : ℤ) (f : Process → Process) → KeepsNumber f → (ps : List Process) →
    without_first (has_pid pid) (changed_first (has_pid pid) f ps) ≡ without_first (has_pid pid) ps
taken_first pid f k [] = refl
taken_first pid f k (p ∷ ps) =
    (elim (has_pid pid p) as (λ b. has_pid pid p ≡ b → without_first (has_pid pid) (cond b (f p ∷ ps) (p ∷ changed_first (has_pid pid) f ps)) ≡ cond b ps (p ∷ without_first (has_pid pid) ps)) [
      | true ↦ λ e. cond-true _ _ _ (has_same pid f k p true e)
      | false ↦ λ e. cond-false _ _ _ e ∙ ap (λ xs. p ∷ xs) (taken_first pid f k ps)
    ]) refl

found_first : (pid : ℤ) (f : Process → Process) → KeepsNumber f → (ps : List Process) →
    find (has_pid pid) (changed_first (has_pid pid) f ps) ≡ option_map f (find (has_pid pid) ps)
found_first pid f k [] = refl
found_first pid f k (p ∷ ps) =
    (elim (has_pid pid p) as (λ b. has_pid pid p ≡ b → find (has_pid pid) (cond b (f p ∷ ps) (p ∷ changed_first (has_pid pid) f ps)) ≡ option_map f (cond b (Some p) (find (has_pid pid) ps))) [
      | true ↦ λ e. cond-true _ _ _ (has_same pid f k p true e)
      | false ↦ λ e. cond-false _ _ _ e ∙ found_first pid f k ps
    ]) refl

other_first : (other pid : ℤ) (f : Process → Process) → KeepsNumber f → int_eq other pid ≡ false → (ps : List Process) →
    find (has_pid other) (changed_first (has_pid pid) f ps) ≡ find (has_pid other) ps
other_first other pid f k d [] = refl
other_first other pid f k d (p ∷ ps) =
    (elim (has_pid pid p) as (λ b. has_pid pid p ≡ b → find (has_pid other) (cond b (f p ∷ ps) (p ∷ changed_first (has_pid pid) f ps)) ≡ find (has_pid other) (p ∷ ps)) [
      | true ↦ λ e. let no = other_number other pid p.number d e in cond-false _ _ _ (has_same other f k p false no) ∙ sym (cond-false _ _ _ no)
      | false ↦ λ e. ap (λ o. cond (has_pid other p) (Some p) o) (other_first other pid f k d ps)
    ]) refl

same_first : (pid : ℤ) (f : Process → Process) (ps : List Process) (p : Process) → find (has_pid pid) ps ≡ Some p → f p ≡ p → changed_first (has_pid pid) f ps ≡ ps
same_first pid f [] p = λ s e. refl
same_first pid f (q ∷ ps) p =
    elim (has_pid pid q) as (λ b. cond b (Some q) (find (has_pid pid) ps) ≡ Some p → f p ≡ p → cond b (f q ∷ ps) (q ∷ changed_first (has_pid pid) f ps) ≡ q ∷ ps) [
      | true ↦ λ s e. let one : q ≡ p = cc in ap (λ x. x ∷ ps) (ap f one ∙ e ∙ sym one)
      | false ↦ λ s e. ap (λ xs. q ∷ xs) (same_first pid f ps p s e)
    ]

unchanged_first : (pid : ℤ) (f : Process → Process) → ((p : Process) → f p ≡ p) → (ps : List Process) → changed_first (has_pid pid) f ps ≡ ps
unchanged_first pid f k [] = refl
unchanged_first pid f k (p ∷ ps) =
    elim (has_pid pid p) as (λ b. cond b (f p ∷ ps) (p ∷ changed_first (has_pid pid) f ps) ≡ p ∷ ps) [
      | true ↦ ap (λ x. x ∷ ps) (k p)
      | false ↦ ap (λ xs. p ∷ xs) (unchanged_first pid f k ps)
    ]

missing_first : (pid : ℤ) (f : Process → Process) (ps : List Process) → find (has_pid pid) ps ≡ None → changed_first (has_pid pid) f ps ≡ ps
missing_first pid f [] = λ s. refl
missing_first pid f (q ∷ ps) =
    elim (has_pid pid q) as (λ b. cond b (Some q) (find (has_pid pid) ps) ≡ None → cond b (f q ∷ ps) (q ∷ changed_first (has_pid pid) f ps) ≡ q ∷ ps) [
      | true ↦ λ s. absurd cc
      | false ↦ λ s. ap (λ xs. q ∷ xs) (missing_first pid f ps s)
    ]

-- In a queue.

-- the process of that number is the changed one
pub process_changed : (pid : ℤ) (f : Process → Process) → KeepsNumber f → (q : Queue) → process pid (on_process pid f q) ≡ option_map f (process pid q)
unfolding on_process
process_changed pid f k q = found_first pid f k q.processes

-- and those of other numbers are as they were
pub process_unchanged : (other pid : ℤ) (f : Process → Process) → KeepsNumber f → int_eq other pid ≡ false → (q : Queue) → process other (on_process pid f q) ≡ process other q
unfolding on_process
process_unchanged other pid f k d q = other_first other pid f k d q.processes

-- one change upon another is one change
pub changed_twice : (pid : ℤ) (f g : Process → Process) → KeepsNumber g → (q : Queue) → on_process pid f (on_process pid g q) ≡ on_process pid (λ p. f (g p)) q
unfolding on_process
changed_twice pid f g k q = ap (λ ps. with_processes ps q) (twice_first pid f g k q.processes)

-- a process that ends may have been changed
pub without_changed : (pid : ℤ) (f : Process → Process) → KeepsNumber f → (q : Queue) → without_process pid (on_process pid f q) ≡ without_process pid q
unfolding on_process without_process
without_changed pid f k q = ap (λ ps. with_processes ps q) (taken_first pid f k q.processes)

-- a change that gives the process back changes nothing
pub changed_same : (pid : ℤ) (f : Process → Process) (q : Queue) (p : Process) → process pid q ≡ Some p → f p ≡ p → on_process pid f q ≡ q
unfolding on_process
changed_same pid f q p s e = ap (λ ps. with_processes ps q) (same_first pid f q.processes p s e)

pub unchanged : (pid : ℤ) (f : Process → Process) → ((p : Process) → f p ≡ p) → (q : Queue) → on_process pid f q ≡ q
unfolding on_process
unchanged pid f k q = ap (λ ps. with_processes ps q) (unchanged_first pid f k q.processes)

-- nor does one of a process that isn't there
pub changed_missing : (pid : ℤ) (f : Process → Process) (q : Queue) → process pid q ≡ None → on_process pid f q ≡ q
unfolding on_process
changed_missing pid f q s = ap (λ ps. with_processes ps q) (missing_first pid f q.processes s)
