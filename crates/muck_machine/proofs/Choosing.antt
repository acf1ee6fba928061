-- A process that was claimed may run, or has ended.
use Rattle.std.proofs.Common.{◌≡◌, ℕ, true, Some, refl, ◌∙◌, ap}
use Rattle.std.specs.Prelude.{ℤ}
use Rattle.muck_model.specs.declared.event.Event.TheVariants.{Claim, Slice}
use Rattle.spec_events.specs.Steps.{is_lawful, next_process}
use Rattle.spec_events.specs.Histories.{History, now, entered}
use Rattle.spec_events.proofs.Claims.{chosen_lawful}
use Rattle.spec_events.proofs.Runs.{grew_one, now-grew}

pub claimed_may_run : (h : History) (party : ℕ) (pid : ℤ) → next_process (now h) ≡ Some pid →
    is_lawful (now (entered h (record { party = party; event = Claim pid }))) (record { party = party; event = Slice pid }) ≡ true
claimed_may_run h party pid e =
    ap (λ w. is_lawful w (record { party = party; event = Slice pid })) (now-grew h _ _ (grew_one h _ (record { party = party; event = Claim pid }) refl))
    ∙ chosen_lawful (now h) party pid e
