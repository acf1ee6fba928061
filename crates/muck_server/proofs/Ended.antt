-- How a run ended, by its answer.
use Rattle.std.proofs.Common.{◌≡◌, ◌⊎◌, inl, inr, ℕ, Bool, true, false, List, [], ◌∷◌, ◌++◌, sym, ap, subst, ◌∙◌, append_assoc, Option, Some, None, Result, Ok, Err}
use Rattle.std.specs.Prelude.{IfOk}
use Rattle.muck_log.specs.declared.fault.LogFault.{LogFault}
use Rattle.muck_log.specs.declared.fault.LogFault.TheVariants as fault
use Rattle.muck_model.specs.declared.event.Entry.{Entry}
use Rattle.muck_model.specs.declared.event.Event.TheVariants.{Cut, Died}
use Rattle.muck_model.specs.declared.memory.NoMemory.{NoMemory as Wanting}
use Rattle.spec_events.specs.World.{World}
use Rattle.spec_events.specs.Histories.{after, by_porter}
use Rattle.muck_crew.specs.Shared.{IsParty, EndsStopped}
use Rattle.muck_crew.specs.inner.Finished.{why_from}
use Rattle.muck_why.specs.Causes.{Ending, why_of}
use Rattle.muck_why.proofs.Causes.{fails}
use Rattle.muck_server.specs.Served.{last_dump, Closes, EndsTo, HasEnded}
use Rattle.muck_server.proofs.Dumped.{LastBy, dead_behind}

-- each party saw the stop, and the last dump came out so
module _ (workers faults faults' : ℕ) (w : World) (front : List Entry) (last : (party : ℕ) → IsParty workers party → EndsStopped party front) where
  closes : (k : ℕ) (done : Bool) (es tale : List Entry) → es ≡ last_dump k done → tale ≡ front ++ es → Closes workers k done tale
  closes k done es tale is whole = record { front = front; whole = whole ∙ ap (λ (x : List Entry). front ++ x) is; last = last }

  died : (es tale : List Entry) → (es ≡ by_porter Died ∷ []) ⊎ ((k : ℕ) × (es ≡ by_porter (Cut k) ∷ by_porter Died ∷ [])) → tale ≡ front ++ es → (after w tale).dead ≡ true
  died es tale (inl is) whole = ap (λ (x : List Entry). (after w x).dead) (whole ∙ ap (λ (x : List Entry). front ++ x) is) ∙ dead_behind w front 0
  died es tale (inr (k, is)) whole =
      ap (λ (x : List Entry). (after w x).dead) (whole ∙ ap (λ (x : List Entry). front ++ x) is ∙ sym (append_assoc front (by_porter (Cut k) ∷ []) (by_porter Died ∷ []))) ∙ dead_behind w (front ++ by_porter (Cut k) ∷ []) 0

  ended_failed : (f : LogFault) (es tale : List Entry) → (f ≡ fault.NoMemory → ⊥) → LastBy (Ok (Some f)) es → tale ≡ front ++ es → HasEnded workers faults faults' w (why_of f) tale
  ended_failed f es tale apart (k, is) whole = subst (λ (end : Ending). EndsTo workers faults faults' w end tale) (sym (fails f apart)) (k, closes k false es tale is whole)

  pub ended_by : (answer : Result (Option LogFault) Wanting) (es tale : List Entry) → IfOk answer (λ o. o ≡ Some fault.NoMemory → ⊥) → LastBy answer es → tale ≡ front ++ es → HasEnded workers faults faults' w (why_from answer) tale
  ended_by (Ok None) es tale apart (k, is) whole = (k, closes k true es tale is whole)
  ended_by (Ok (Some f)) es tale apart is whole = ended_failed f es tale (λ e. apart (ap Some e)) is whole
  ended_by (Err e) es tale apart is whole = died es tale is whole
