-- The log is mounted again, behind a dump that failed.
use Rattle.std.proofs.Common.{◌≡◌, ℕ, ◌≤◌, List, subst, Option, Some, None, Result, Ok, Err}
use Rattle.muck_log.specs.Store.{Chosen, Damage, LogState, LeavesOnly, store_of}
use Rattle.muck_log.specs.inner.Mount.{IsMountedAs}
use Rattle.spec_events.specs.Histories.{History}
use Rattle.spec_dumps.specs.Fronts.{IsFront, Loads, file_most}
use Rattle.spec_dumps.specs.inner.Holding.{Keeps}
use Rattle.spec_dumps.proofs.Moving.{safe_kept, loads_now}

module _ {D : Type 0} (seen : D → List ℕ) (moment : D → ℕ) (images : D → ℕ → List ℕ → Type 0) (faults : D → ℕ) (log : Option LogState) (f s : D) (mounted : ℕ) (h : History) (v : Keeps seen moment images faults log f s mounted h) where
  -- what the disks show loads as a front of the history: it isn't damaged
  pub shown_loads : images f (moment f) (seen f) → images s (moment s) (seen s) → Loads h.start mounted h.entries h.notes v.last (store_of (seen f) (seen s))
  shown_loads left_f left_s = loads_now moment images f s h.start mounted h.entries h.notes v.last v.note v.is v.end v.safe.survives (seen f) (seen s) left_f left_s

module _ {D : Type 0} (seen : D → List ℕ) (moment : D → ℕ) (images : D → ℕ → List ℕ → Type 0) (faults : D → ℕ) (f s : D) (mounted : ℕ) (h : History) (r : Keeps seen moment images faults None f s mounted h) (f' s' : D)
    (a : LeavesOnly moment images f f' (images f (moment f))) (b : LeavesOnly moment images s s' (images s (moment s))) (first_later : faults f ≤ faults f') (second_later : faults s ≤ faults s') where
  -- whether it can be mounted or not
  pub mounting_moves : Keeps seen moment images faults None f' s' mounted h
  mounting_moves = record {
    last = r.last;
    note = r.note;
    is = r.is;
    end = r.end;
    safe = safe_kept moment images faults f s f' s' h.start mounted h.entries h.notes a b first_later second_later r.safe;
    usable = tt;
  }

  -- where it is, it stands on the world after a front of the history
  pub mounted_again : (log : LogState) → IsMountedAs seen moment images file_most log f' s' → images f' (moment f') (seen f') → images s' (moment s') (seen s') → Keeps seen moment images faults (Some log) f' s' mounted h
  unfolding mounting_moves
  mounted_again log is left_f left_s = record {
    last = r.last;
    note = r.note;
    is = r.is;
    end = r.end;
    safe = mounting_moves.safe;
    usable = (is.mounted, is.limit, front);
  }
    where
      shown : Loads h.start mounted h.entries h.notes r.last (store_of (seen f') (seen s'))
      shown = shown_loads seen moment images faults None f' s' mounted h mounting_moves left_f left_s

      same : (x : Chosen) (r : Result Chosen Damage) → r ≡ Ok x → r ≡ Ok log.chosen → x ≡ log.chosen
      same x (Ok y) e g = cc
      same x (Err y) e g = cc

      front : IsFront h.start mounted h.entries h.notes r.last log.chosen
      front = subst (IsFront h.start mounted h.entries h.notes r.last) (same shown.0 (store_of (seen f') (seen s')) shown.1 is.mounted.load) shown.2
