-- How a run of disk calls goes on.
use Rattle.std.proofs.Common.{◌≡◌, inl, inr, ℕ, ◌≤◌, List, arith}
use Rattle.std.proofs.lemmas.Bool.{cases_lt}
use Rattle.muck_disk.specs.Images.{Elapses}
use Rattle.muck_log.specs.Store.{LeavesOnly, LeavesBoth}

module _ {D : Type 0} (moment : D → ℕ) (images : D → ℕ → List ℕ → Type 0) where
  -- before the first call
  pub started : (old : D) (P : List ℕ → Type 0) → ((c : List ℕ) → images old (moment old) c → P c) → LeavesOnly moment images old old P
  started old P here = record { later = omega arith; kept = λ t c le left. left; stays = λ t c le left. left; each = λ t c low high left. here c (at t c low high left) }
    where
      at : (t : ℕ) (c : List ℕ) → moment old ≤ t → t ≤ moment old → images old t c → images old (moment old) c
      at t c low high left = let same : t ≡ moment old = omega arith in rw (← same) left

  -- one call more
  pub goes_on : (old mid new : D) (P : List ℕ → Type 0) (step : List ℕ → List ℕ → Type 0) → LeavesOnly moment images old mid P
      → Elapses (moment mid) (moment new) (images mid) (images new) step
      → ((d c : List ℕ) → images mid (moment mid) d → step d c → P c) → LeavesOnly moment images old new P
  goes_on old mid new P step so_far time comes = record {
    later = omega (arith, so_far.later, time.later);
    kept = λ t c le left. so_far.kept t c le (time.kept t c (omega (arith, so_far.later)) left);
    stays = λ t c le left. time.stays t c (omega (arith, so_far.later)) (so_far.stays t c le left);
    each = λ t c low high left. elim (cases_lt (moment mid) t) [
      | inr old_time ↦ so_far.each t c low old_time (time.kept t c old_time left)
      | inl new_time ↦ (let from = time.comes t c new_time high left in comes from.0 c from.1 from.2)
    ];
  }

  -- one part more
  pub joined : (old mid new : D) (P Q R : List ℕ → Type 0) → LeavesOnly moment images old mid P → LeavesOnly moment images mid new Q
      → ((c : List ℕ) → P c → R c) → ((c : List ℕ) → Q c → R c) → LeavesOnly moment images old new R
  joined old mid new P Q R first second from_first from_second = record {
    later = omega (arith, first.later, second.later);
    kept = λ t c le left. first.kept t c le (second.kept t c (omega (arith, first.later)) left);
    stays = λ t c le left. second.stays t c (omega (arith, first.later)) (first.stays t c le left);
    each = λ t c low high left. elim (cases_lt t (moment mid)) [
      | inl old_time ↦ from_first c (first.each t c low (omega arith) (second.kept t c (omega arith) left))
      | inr new_time ↦ from_second c (second.each t c new_time high left)
    ];
  }

  pub weaker : (old new : D) (P R : List ℕ → Type 0) → LeavesOnly moment images old new P → ((c : List ℕ) → P c → R c) → LeavesOnly moment images old new R
  weaker old new P R leaves from = record { later = leaves.later; kept = leaves.kept; stays = leaves.stays; each = λ t c low high left. from c (leaves.each t c low high left) }

  pub weaker_both : (first second first' second' : D) (P R : List ℕ → List ℕ → Type 0) → LeavesBoth moment images first second first' second' P → ((c d : List ℕ) → P c d → R c d) → LeavesBoth moment images first second first' second' R
  weaker_both first second first' second' P R leaves from = record {
    first_later = leaves.first_later;
    second_later = leaves.second_later;
    first_kept = leaves.first_kept;
    second_kept = leaves.second_kept;
    first_stays = leaves.first_stays;
    second_stays = leaves.second_stays;
    each = λ t u c d t_low t_high u_low u_high left_c left_d. from c d (leaves.each t u c d t_low t_high u_low u_high left_c left_d);
  }
