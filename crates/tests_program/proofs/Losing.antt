-- A claim stays where a connection goes.
use Rattle.std.proofs.Common.{◌≡◌, ℕ, ℤ, Bool, true, false, ◌&&◌, ◌==◌, ◌≤◌, cond, refl, ◌∙◌, ap}
use Rattle.std.specs.List.{list_any}
use Rattle.std.proofs.lemmas.Bool.{cond-false, le-leb}
use Rattle.muck_model.specs.declared.event.Event.TheVariants.{Closed, Moment}
use Rattle.muck_queue.specs.Queues.{is_on, ended_tied}
use Rattle.spec_events.specs.World.{World}
use Rattle.spec_events.specs.Steps.{has_claim, is_lawful}
use Rattle.spec_events.specs.Histories.{History, now, entered, by_porter}
use Rattle.spec_events.proofs.Happening.{effect-claims}
use Rattle.spec_events.proofs.Living.{dead-effect}
use Rattle.spec_events.proofs.Runs.{grew_one, now-grew}

pub claim_stays : (h k : History) (d party : ℕ) (pid : ℤ) (yes : Bool) → k ≡ cond yes (entered h (by_porter (Closed d))) h → has_claim party pid (now h) ≡ true → has_claim party pid (now k) ≡ true
unfolding ended_tied
claim_stays h k d party pid true is e =
    ap (λ (w : World). has_claim party pid w) (now-grew h k _ (grew_one h k (by_porter (Closed d)) is)) ∙ ap (list_any (λ c. is_on pid c && c.party == party)) (effect-claims (now h) (by_porter (Closed d))) ∙ e
claim_stays h k d party pid false is e = ap (λ (x : History). has_claim party pid (now x)) is ∙ e

pub life_stays : (h k : History) (d : ℕ) (yes : Bool) → k ≡ cond yes (entered h (by_porter (Closed d))) h → (now h).dead ≡ false → (now k).dead ≡ false
life_stays h k d true is e = ap (λ (w : World). w.dead) (now-grew h k _ (grew_one h k (by_porter (Closed d)) is)) ∙ dead-effect (now h) (by_porter (Closed d)) refl ∙ e
life_stays h k d false is e = ap (λ (x : History). (now x).dead) is ∙ e

-- time may pass
pub may_pass : (w : World) (t : ℕ) → w.dead ≡ false → w.moment ≤ t → is_lawful w (by_porter (Moment t)) ≡ true
unfolding is_lawful
may_pass w t alive e = cond-false _ _ _ alive ∙ le-leb w.moment t e
