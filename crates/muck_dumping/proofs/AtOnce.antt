-- A dump that is made at once.
use Rattle.std.proofs.Common.{◌≡◌, ℕ, Bool, true, false, ◌&&◌, List, refl, sym, ap, ◌∙◌, subst, Option, Some, None, Ok, Err}
use Rattle.std.specs.Prelude.{is_none, ◌||◌, ◌==◌, IsSome}
use Rattle.muck_laws.proofs.Truths.{and_first}
use Rattle.muck_model.specs.declared.event.Event.TheVariants.{Cut, Died}
use Rattle.muck_model.specs.declared.note.Note.{Note}
use Rattle.muck_log.specs.Store.{LogState, IsMounted}
use Rattle.muck_log.specs.declared.fault.LogFault.{LogFault}
use Rattle.muck_log.specs.declared.fault.LogFault.TheVariants.{NoMemory, DiskFault, Damaged, StoreFull, Stale}
use Rattle.spec_events.specs.World.{World}
use Rattle.spec_events.specs.Steps.{makes_dumps, may_cut, is_dump_due}
use Rattle.spec_events.specs.Histories.{History, entered, noted}
use Rattle.spec_dumps.specs.inner.Holding.{Keeps}
use Rattle.muck_dumping.specs.declared.parts.Pending.{Pending}
use Rattle.muck_dumping.specs.inner.Dumps.{by, Dies, Dumps}
use Rattle.muck_dumping.specs.inner.Between.{IsPending, IsWritten, EndsAs}
use Rattle.muck_dumping.proofs.Writing.{unwritten}

-- who may begin a dump makes dumps
pub may_makes : (w : World) (party : ℕ) → may_cut w party ≡ true → makes_dumps party ≡ true
may_makes w party may = and_first (makes_dumps party) (is_none w.dumps.running) (and_first (makes_dumps party && is_none w.dumps.running) (party == 0 || is_dump_due w) may)

-- What happened.

pub dies_cut : (party : ℕ) (h k m : History) (a : Note) (n : ℕ) → k ≡ entered (noted h a) (by party (Cut n)) → m ≡ entered k (by party Died) → Dies party h m
dies_cut party h k m a n cuts is = Dies.cut n a (is ∙ ap (λ (x : History). entered x (by party Died)) cuts)

pub dies_ending : (party : ℕ) (h k m : History) (a b : Note) (n : ℕ) → k ≡ entered (noted h a) (by party (Cut n)) → m ≡ entered (noted k b) (by party Died) → Dies party h m
dies_ending party h k m a b n cuts is = Dies.ending n a b (is ∙ ap (λ (x : History). entered (noted x b) (by party Died)) cuts)

-- the log that is mounted, where one is
pub pending_mounted : {D : Type 0} (seen : D → List ℕ) (moment : D → ℕ) (images : D → ℕ → List ℕ → Type 0) (faults : D → ℕ) (log : Option LogState) (f s : D) (mounted : ℕ) (h : History) (p : Pending) →
    IsPending seen moment images faults log f s mounted h p → (x : LogState) → log ≡ Some x → IsMounted seen moment images x f s
pending_mounted seen moment images faults log f s mounted h p v x is = (subst (λ (l : Option LogState). Keeps seen moment images faults l f s mounted h) is v.rests.keeps).usable.0

-- the dump fails for which none is
pub pending_unmounted : {D : Type 0} (seen : D → List ℕ) (moment : D → ℕ) (images : D → ℕ → List ℕ → Type 0) (faults : D → ℕ) (log : Option LogState) (f s : D) (mounted : ℕ) (h : History) (p : Pending) →
    log ≡ None → IsPending seen moment images faults log f s mounted h p → IsWritten seen moment images faults log f s mounted h (Err Stale)
pending_unmounted seen moment images faults log f s mounted h p none v =
    subst (λ (l : Option LogState). IsWritten seen moment images faults l f s mounted h (Err Stale)) (sym none)
    (unwritten seen moment images faults mounted h p f s (subst (λ (l : Option LogState). IsPending seen moment images faults l f s mounted h p) none v))

-- a fault that isn't want of memory is told as a failure, under which the log answered
pub fault_ends : (fault : LogFault) → (fault ≡ NoMemory → ⊥) → ((on : Bool) (at : ℕ) → fault ≡ Damaged on at → ⊥) → EndsAs (Err fault) false
fault_ends NoMemory wanted damaged = absurd (wanted refl)
fault_ends (Damaged on at) wanted damaged = absurd (damaged on at refl)
fault_ends DiskFault wanted damaged = tt
fault_ends Stale wanted damaged = tt
fault_ends (StoreFull end more) wanted damaged = tt

-- no log answers that it is damaged
pub never_damaged : {D : Type 0} (seen : D → List ℕ) (moment : D → ℕ) (images : D → ℕ → List ℕ → Type 0) (faults : D → ℕ) (log : Option LogState) (f s : D) (mounted : ℕ) (h : History) (fault : LogFault) →
    IsWritten seen moment images faults log f s mounted h (Err fault) → (on : Bool) (at : ℕ) → fault ≡ Damaged on at → ⊥
never_damaged seen moment images faults log f s mounted h fault w on at is =
    (subst (λ (x : LogFault). IsWritten seen moment images faults log f s mounted h (Err x)) is w).left

pub disk_unmounted : {D E : Type 0} (seen : D → List ℕ) (moment : D → ℕ) (images : D → ℕ → List ℕ → Type 0) (faults : D → ℕ) (log : Option LogState) (f s : D) (mounted : ℕ) (m : History) (fault : LogFault) → fault ≡ DiskFault →
    Dumps {E = E} seen moment images faults log f s mounted m (Ok (Some DiskFault)) → Dumps {E = E} seen moment images faults log f s mounted m (Ok (Some fault))
disk_unmounted {E = E} seen moment images faults log f s mounted m fault is d = subst (λ (x : LogFault). Dumps {E = E} seen moment images faults log f s mounted m (Ok (Some x))) (sym is) d

pub some_not_none : (o : Option LogState) → IsSome o → o ≡ None → ⊥
some_not_none None some e = cc
some_not_none (Some log) some e = cc
