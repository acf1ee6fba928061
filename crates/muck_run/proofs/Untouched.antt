-- Disks that nothing was written to.
use Rattle.std.proofs.Common.{◌≡◌, ℕ, List, refl, sym, subst, ◌∙◌}
use Rattle.muck_log.proofs.Moments.{started}
use Rattle.muck_log.proofs.Mounting.{quiet_too}
use Rattle.muck_run.specs.Outcome.{IsUntouched}

module _ {D : Type 0} (seen : D → List ℕ) (moment : D → ℕ) (images : D → ℕ → List ℕ → Type 0) where
  -- no call was made
  pub untouched_still : (old new : D) → new ≡ old → IsUntouched seen moment images old new
  untouched_still old new is =
      subst (λ (d : D). IsUntouched seen moment images old d) (sym is)
      (record { gives = refl; leaves = started moment images old (images old (moment old)) (λ c left. left) })

  pub untouched_on : (old mid new : D) → IsUntouched seen moment images old mid → IsUntouched seen moment images mid new → IsUntouched seen moment images old new
  untouched_on old mid new a b = record { gives = b.gives ∙ a.gives; leaves = quiet_too seen moment images old mid new a.leaves b.leaves }
