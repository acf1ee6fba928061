-- The porter's own entries, one more at a time.
use Rattle.std.proofs.Common.{◌≡◌, ℕ, ℤ, Bool, List, [], ◌∷◌, ◌++◌, refl, ap, ◌∙◌, Some, None}
use Rattle.std.specs.Prelude.{if◌then◌else◌}
use Rattle.std.specs.Ordering.{int_eq}
use Rattle.std.proofs.lemmas.Cmp.{int_eq_equiv}
use Rattle.muck_model.specs.declared.event.Event.{Event}
use Rattle.muck_model.specs.declared.event.Event.TheVariants.{Moment}
use Rattle.spec_events.specs.declared.logged.Logged.{Logged}
use Rattle.spec_events.specs.Histories.{by_porter}
use Rattle.spec_events.specs.Logged.{events_of}
use Rattle.spec_events.specs.Own.{Stage, next_stage, stage_of, IsWellFormed}
use Rattle.spec_events.proofs.Logging.{events_append}
use Rattle.spec_events.proofs.Owning.{stage_more, well_formed}
use Rattle.muck_porter.specs.inner.Kept.{IsAt, IsFree}

-- one item more
pub stage_item : (own own' : List Logged) (item : Logged) (event : Event) (stage later : Stage) → own' ≡ own ++ item ∷ [] → item.entry ≡ by_porter event → IsAt stage own → next_stage 0 stage event ≡ Some later → IsAt later own'
stage_item own own' item event stage later is entry at may =
    ap (λ (ls : List Logged). stage_of 0 (events_of ls)) is
    ∙ ap (stage_of 0) (events_append own (item ∷ []))
    ∙ ap (λ e. stage_of 0 (events_of own ++ e.event ∷ [])) entry
    ∙ stage_more 0 (events_of own) event stage later at may

module _ (own own' : List Logged) (item : Logged) (is : own' ≡ own ++ item ∷ []) where
  -- what may come where nothing binds it
  pub stage_free : (event : Event) (later : Stage) → item.entry ≡ by_porter event → IsFree own → next_stage 0 Stage.unbound event ≡ Some later → next_stage 0 Stage.timed event ≡ Some later → IsAt later own'
  stage_free event later entry (IsFree.unbound at) u t = stage_item own own' item event Stage.unbound later is entry at u
  stage_free event later entry (IsFree.timed at) u t = stage_item own own' item event Stage.timed later is entry at t

  pub stage_moment : (t : ℕ) → item.entry ≡ by_porter (Moment t) → IsFree own → IsAt Stage.timed own'
  stage_moment t entry free = stage_free (Moment t) Stage.timed entry free refl refl

pub formed_at : (own : List Logged) (stage : Stage) → IsAt stage own → IsWellFormed 0 (events_of own)
formed_at own stage at = well_formed 0 (events_of own) stage at

pub formed_free : (own : List Logged) → IsFree own → IsWellFormed 0 (events_of own)
formed_free own (IsFree.unbound at) = formed_at own Stage.unbound at
formed_free own (IsFree.timed at) = formed_at own Stage.timed at

-- what was claimed runs
pub same_claim : (pid : ℤ) → (if int_eq pid pid then Some Stage.unbound else None) ≡ Some Stage.unbound
same_claim pid = ap (λ (b : Bool). if b then Some Stage.unbound else None) (int_eq_equiv.refl pid)
