-- What is kept of both disks, by the answer.
use Rattle.std.proofs.Common.{◌≡◌, ◌⊎◌, inl, inr, ℕ, ◌≤◌, Bool, true, false, List, refl, sym, ap, ◌∙◌, subst, Option, Some, None, Result, Ok, Err}
use Rattle.std.specs.Prelude.{IfOk}
use Rattle.muck_io.specs.Faults.{Rose}
use Rattle.muck_log.specs.Store.{LogState}
use Rattle.muck_log.specs.declared.fault.LogFault.{LogFault}
use Rattle.muck_log.specs.declared.fault.LogFault.TheVariants as fault
use Rattle.muck_model.specs.declared.memory.NoMemory.{NoMemory as Wanting}
use Rattle.spec_dumps.specs.inner.Holding.{Keeps}
use Rattle.spec_dumps.specs.Survival.{IsSafe, RoseInLast, StandsWhole}
use Rattle.spec_events.specs.Histories.{History}
use Rattle.muck_crew.specs.inner.Dumps.{Dumps, IsFull, IsDumpFault}
use Rattle.muck_crew.specs.inner.Finished.{why_by, HasDump}
use Rattle.muck_why.specs.declared.why.Why.{Why}
use Rattle.muck_why.specs.declared.why.Why.TheVariants.{Fine, NoMemory, DiskFault, Damaged, StoreFull, Spent}
use Rattle.muck_why.proofs.Causes.{never_fine, is_full, is_disk}
use Rattle.muck_crew.proofs.Rising.{rose_since}

-- Which answers come of which last dump.

abbrev failed_by : LogFault → Result (Option LogFault) Wanting
failed_by fault = Ok (Some fault)

only_fine : (deaf : Bool) (answer : Result (Option LogFault) Wanting) → why_by deaf answer ≡ Fine → answer ≡ Ok None
only_fine true answer e = cc
only_fine false (Ok None) e = refl
only_fine false (Ok (Some f)) e = absurd (never_fine f e)
only_fine false (Err x) e = cc

only_full : (deaf : Bool) (answer : Result (Option LogFault) Wanting) (end more : ℕ) → why_by deaf answer ≡ StoreFull end more → answer ≡ Ok (Some (fault.StoreFull end more))
only_full true answer end more e = cc
only_full false (Ok None) end more e = cc
only_full false (Ok (Some f)) end more e = ap failed_by (is_full f end more e)
only_full false (Err x) end more e = cc

only_disk : (deaf : Bool) (answer : Result (Option LogFault) Wanting) → why_by deaf answer ≡ DiskFault → answer ≡ Ok (Some fault.DiskFault)
only_disk true answer e = cc
only_disk false (Ok None) e = cc
only_disk false (Ok (Some f)) e = ap failed_by (is_disk f e)
only_disk false (Err x) e = cc

-- on disks that tell their bytes no dump fails for damage
never_damaged : (deaf : Bool) (answer : Result (Option LogFault) Wanting) (second : Bool) (at : ℕ) → why_by deaf answer ≡ Damaged second at → IfOk answer IsDumpFault → ⊥
never_damaged true answer second at e may = cc
never_damaged false (Ok None) second at e may = cc
never_damaged false (Ok (Some (fault.Damaged x y))) second at e may = may
never_damaged false (Ok (Some fault.Stale)) second at e may = may
never_damaged false (Ok (Some f)) second at e may = cc
never_damaged false (Err x) second at e may = cc

-- What is kept of both disks behind the history k, which began with first and second.
pub record OnDisks {D : Type 0} (tells : Bool) (seen : D → List ℕ) (moment : D → ℕ) (images : D → ℕ → List ℕ → Type 0) (faults : D → ℕ) (why : Why) (mounted : ℕ) (first second first' second' : D) (k : History) : Type 0 where
  pub safe : tells ≡ true → IsSafe moment images faults first' second' k.start mounted k.entries k.notes
  pub whole : tells ≡ true → why ≡ Fine → StandsWhole moment images first' second' k.start k.entries
  pub full : (end more : ℕ) → tells ≡ true → why ≡ StoreFull end more → IsFull seen first' second' mounted k end more
  pub failed : why ≡ DiskFault → Rose (faults first) (faults first') ⊎ Rose (faults second) (faults second')
  pub rose : tells ≡ true → why ≡ DiskFault → RoseInLast k.notes
  pub undamaged : (second : Bool) (at : ℕ) → tells ≡ true → why ≡ Damaged second at → ⊥

either_since : (a b c x y z : ℕ) → a ≤ b → x ≤ y → Rose b c ⊎ Rose y z → Rose a c ⊎ Rose x z
either_since a b c x y z le ge (inl r) = inl (rose_since a b c le r)
either_since a b c x y z le ge (inr r) = inr (rose_since x y z ge r)

module _ {D : Type 0} (tells : Bool) (seen : D → List ℕ) (moment : D → ℕ) (images : D → ℕ → List ℕ → Type 0) (faults : D → ℕ) (why : Why) (mounted : ℕ) (first second : D) where
  -- behind a last dump
  pub on_dumped : (deaf : Bool) (log : Option LogState) (first1 second1 first' second' : D) (h k : History) → (tells ≡ true → Keeps seen moment images faults log first1 second1 mounted h)
      → faults first ≤ faults first1 → faults second ≤ faults second1
      → HasDump tells seen moment images faults deaf log first1 second1 first' second' h k why → OnDisks tells seen moment images faults why mounted first second first' second' k
  on_dumped deaf log first1 second1 first' second' h k keeps later later' d =
      let dumps : tells ≡ true → Dumps seen moment images faults d.log' first' second' mounted k d.answer = λ on. d.kept mounted on (keeps on) in record {
        safe = λ on. (dumps on).safe;
        whole = λ on e. subst (λ (r : Result (Option LogFault) Wanting). IfOk r (λ o. o ≡ None → StandsWhole moment images first' second' k.start k.entries)) (only_fine deaf d.answer (sym d.is ∙ e)) (dumps on).whole refl;
        full = λ end more on e.
            subst (λ (r : Result (Option LogFault) Wanting). IfOk r (λ o. (x y : ℕ) → o ≡ Some (fault.StoreFull x y) → IsFull seen first' second' mounted k x y)) (only_full deaf d.answer end more (sym d.is ∙ e)) (dumps on).full end more refl;
        failed = λ e.
            either_since (faults first) (faults first1) (faults first') (faults second) (faults second1) (faults second') later later'
            (subst (λ (r : Result (Option LogFault) Wanting). IfOk r (λ o. o ≡ Some fault.DiskFault → Rose (faults first1) (faults first') ⊎ Rose (faults second1) (faults second'))) (only_disk deaf d.answer (sym d.is ∙ e)) d.cause refl);
        rose = λ on e. subst (λ (r : Result (Option LogFault) Wanting). IfOk r (λ o. o ≡ Some fault.DiskFault → RoseInLast k.notes)) (only_disk deaf d.answer (sym d.is ∙ e)) (dumps on).rose refl;
        undamaged = λ second at on e. never_damaged deaf d.answer second at (sym d.is ∙ e) (dumps on).fault;
      }

-- an answer of a run without a last dump
abbrev pub IsUndumped : Why → Type 0
IsUndumped NoMemory = Unit {0}
IsUndumped (Spent turns) = Unit {0}
IsUndumped why = ⊥

not_fine : (why : Why) → IsUndumped why → why ≡ Fine → ⊥
not_fine why is e = subst IsUndumped e is

not_full : (why : Why) (end more : ℕ) → IsUndumped why → why ≡ StoreFull end more → ⊥
not_full why end more is e = subst IsUndumped e is

not_disk : (why : Why) → IsUndumped why → why ≡ DiskFault → ⊥
not_disk why is e = subst IsUndumped e is

not_damaged : (why : Why) (second : Bool) (at : ℕ) → IsUndumped why → why ≡ Damaged second at → ⊥
not_damaged why second at is e = subst IsUndumped e is

pub on_undumped : {D : Type 0} (tells : Bool) (seen : D → List ℕ) (moment : D → ℕ) (images : D → ℕ → List ℕ → Type 0) (faults : D → ℕ) (why : Why) (mounted : ℕ) (first second first' second' : D) (k : History)
    → IsUndumped why → (tells ≡ true → IsSafe moment images faults first' second' k.start mounted k.entries k.notes) → OnDisks tells seen moment images faults why mounted first second first' second' k
on_undumped tells seen moment images faults why mounted first second first' second' k is safe = record {
  safe = safe;
  whole = λ on e. absurd (not_fine why is e);
  full = λ end more on e. absurd (not_full why end more is e);
  failed = λ e. absurd (not_disk why is e);
  rose = λ on e. absurd (not_disk why is e);
  undamaged = λ second at on e. not_damaged why second at is e;
}
