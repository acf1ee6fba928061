-- The log is mounted again.
use Rattle.std.proofs.Common.{◌≡◌, ◌⊎◌, inl, inr, ℕ, ◌≤◌, List, refl, sym, subst, arith, Option, Some, None, IsSome}
use Rattle.std.specs.Prelude.{is_some, false}
use Rattle.muck_laws.proofs.Results.{never_ok_err}
use Rattle.muck_io.specs.Faults.{Rose}
use Rattle.muck_log.specs.inner.Mount.{IsMountedAs, IsMountFault}
use Rattle.muck_log.specs.Store.{LogState, LeavesOnly, store_of}
use Rattle.muck_log.specs.declared.fault.LogFault.{LogFault}
use Rattle.muck_log.specs.declared.fault.LogFault.TheVariants.{NoMemory, DiskFault, Damaged, StoreFull, Stale}
use Rattle.spec_dumps.specs.Fronts.{Loads, file_most}
use Rattle.spec_dumps.specs.inner.Holding.{Keeps}
use Rattle.spec_dumps.proofs.Remounting.{mounting_moves, mounted_again, shown_loads}
use Rattle.spec_events.specs.Histories.{History}
use Rattle.muck_dumping.specs.inner.Dumps.{HasRisen, IsMountingFault}
use Rattle.muck_dumping.specs.inner.Between.{IsReady}

pub no_log : (o : Option LogState) → is_some o ≡ false → o ≡ None
no_log None e = refl
no_log (Some log) e = cc

pub one_log : (o : Option LogState) (x y : LogState) → o ≡ Some x → o ≡ Some y → x ≡ y
one_log o x y e g = cc

module _ {D : Type 0} (seen : D → List ℕ) (moment : D → ℕ) (images : D → ℕ → List ℕ → Type 0) (faults : D → ℕ) (mounted : ℕ) where
  -- a count rose since the last note
  pub risen : (log : Option LogState) (f s f' s' : D) (h : History) → Keeps seen moment images faults log f s mounted h → Rose (faults f) (faults f') ⊎ Rose (faults s) (faults s') → HasRisen faults f' s' h
  risen log f s f' s' h v rose n note is end =
      let count = v.safe.rise.past n note is in
      elim rose [ inl r ↦ inl (omega (arith, r, count.0)) | inr r ↦ inr (omega (arith, r, count.1)) ]

  module _ (o : Option LogState) (is : o ≡ None) (f s f' s' : D) (h : History) (r : Keeps seen moment images faults o f s mounted h)
      (a : LeavesOnly moment images f f' (images f (moment f))) (b : LeavesOnly moment images s s' (images s (moment s))) (first_later : faults f ≤ faults f') (second_later : faults s ≤ faults s') where
    keeps_none : Keeps seen moment images faults None f s mounted h
    keeps_none = subst (λ (l : Option LogState). Keeps seen moment images faults l f s mounted h) is r

    -- it couldn't be
    pub stays_none : Keeps seen moment images faults o f' s' mounted h
    stays_none =
        subst (λ (l : Option LogState). Keeps seen moment images faults l f' s' mounted h) (sym is)
        (mounting_moves seen moment images faults f s mounted h keeps_none f' s' a b first_later second_later)

    -- it was
    pub stands_again : (log : LogState) → IsMountedAs seen moment images file_most log f' s' → images f' (moment f') (seen f') → images s' (moment s') (seen s') → Keeps seen moment images faults (Some log) f' s' mounted h
    stands_again log there left_f left_s = mounted_again seen moment images faults f s mounted h keeps_none f' s' a b first_later second_later log there left_f left_s

  -- why it couldn't: what both disks show is no damaged store
  pub mounting_fault : (o : Option LogState) (f s : D) (h : History) → Keeps seen moment images faults o f s mounted h → images f (moment f) (seen f) → images s (moment s) (seen s) →
      (fault : LogFault) → IsMountFault (seen f) (seen s) fault → IsMountingFault fault
  mounting_fault o f s h r left_f left_s NoMemory said = tt
  mounting_fault o f s h r left_f left_s DiskFault said = tt
  mounting_fault o f s h r left_f left_s (Damaged second place) said =
      let shown : Loads h.start mounted h.entries h.notes r.last (store_of (seen f) (seen s)) = shown_loads seen moment images faults o f s mounted h r left_f left_s in
      never_ok_err (store_of (seen f) (seen s)) shown.0 _ shown.1 said
  mounting_fault o f s h r left_f left_s (StoreFull end more) said = said
  mounting_fault o f s h r left_f left_s Stale said = said

  -- with a log that is mounted a dump may begin
  pub ready_mounted : (o : Option LogState) (f s : D) (h : History) → IsSome o → Keeps seen moment images faults o f s mounted h → IsReady seen moment images faults o f s mounted h
  ready_mounted o f s h some v = record { keeps = v; risen = λ is. absurd (not_none o some is) } where
    not_none : (x : Option LogState) → IsSome x → x ≡ None → ⊥
    not_none None p e = cc
    not_none (Some log) p e = cc

-- a fault of mounting but want of memory is one of a disk
pub is_disk : (fault : LogFault) → (fault ≡ NoMemory → ⊥) → IsMountingFault fault → fault ≡ DiskFault
is_disk NoMemory wanted f = absurd (wanted refl)
is_disk DiskFault wanted f = refl
is_disk (Damaged second place) wanted f = absurd f
is_disk (StoreFull end more) wanted f = absurd f
is_disk Stale wanted f = absurd f
