-- The plan of a primitive is that of its row.
use Rattle.std.proofs.Common.{◌≡◌, ℕ, ℤ, List, [], ◌∷◌, take, drop, refl, sym, ap, ◌∙◌, subst, Option, Some, None, Result}
use Rattle.std.specs.Prelude.{slice_get}
use Rattle.std.specs.Option.{option_map_or, option_and_then}
use Rattle.spec_live.specs.Lives.{Live}
use Rattle.spec_rights.specs.declared.act.Actor.{Actor}
use Rattle.muf_model.specs.declared.prims.Primitive.{Primitive}
use Rattle.muf_model.specs.Datum.{Datum}
use Rattle.muf_frame.specs.declared.fault.PrimFault.{PrimFault}
use Rattle.muck_queue.specs.declared.process.Process.{Process}
use Rattle.muck_queue.specs.Queues.{Queue, process, on_process, without_event, oldest_event}
use Rattle.muck_queue.proofs.Changed.{changed_same, changed_missing}
use Rattle.spec_processes.specs.declared.place.Place.{Place}
use Rattle.spec_processes.specs.ProcessRows.{ProcessDoing, oldest, process_row, taken_at}
use Rattle.prim_proc.specs.declared.plan.Plan.{Plan}
use Rattle.prim_proc.specs.inner.Plans.{Plans, does_of, events_in}

module _ (x : Place) (a : Actor) (own : Process) (stack : List Datum) (w : Live) (q : Queue) (o : Result Plan PrimFault) where
  abbrev PlansFor : Option ProcessDoing → Primitive → Type 0
  PlansFor row p = Plans (does_of row x a own (take (taken_at p stack) stack) w q) x w q o

  pub by_prim : (p r : Primitive) → p ≡ r → PlansFor (process_row r) r → PlansFor (process_row p) p
  by_prim p r e h = subst (λ k. PlansFor (process_row k) k) (sym e) h

  pub by_row : (p : Primitive) (row fact : Option ProcessDoing) → row ≡ fact → PlansFor fact p → PlansFor row p
  by_row p row fact e h = subst (λ k. PlansFor k p) (sym e) h

pub oldest_own : (x : Place) (own : Process) (w : Live) (q : Queue) → process x.pid q ≡ Some own → oldest (events_in x.pid q) x w q ≡ oldest own.events x w q
oldest_own x own w q e = ap (λ o. oldest (option_map_or (λ p. p.events) o []) x w q) e

-- which events there are, by the oldest one
pub first_event : (pid : ℤ) (q : Queue) (e : List ℕ × Datum) → oldest_event pid q ≡ Some e → events_in pid q ≡ e ∷ drop 1 (events_in pid q)
unfolding oldest_event
first_event pid q e h = by_process (process pid q) h
  where
    by_events : (es : List (List ℕ × Datum)) → slice_get es 0 ≡ Some e → es ≡ e ∷ drop 1 es
    by_events [] h = absurd cc
    by_events (d ∷ es) h = let same : d ≡ e = cc in ap (λ k. k ∷ es) same

    by_process : (o : Option Process) → option_and_then (λ (p : Process). slice_get p.events 0) o ≡ Some e → option_map_or (λ (p : Process). p.events) o [] ≡ e ∷ drop 1 (option_map_or (λ (p : Process). p.events) o [])
    by_process None h = absurd cc
    by_process (Some p) h = by_events p.events h

no_events : (es : List (List ℕ × Datum)) → slice_get es 0 ≡ None → es ≡ []
no_events [] h = refl
no_events (d ∷ es) h = absurd cc

pub no_event : (pid : ℤ) (q : Queue) → oldest_event pid q ≡ None → events_in pid q ≡ []
unfolding oldest_event
no_event pid q h = by_process (process pid q) h
  where
    by_process : (o : Option Process) → option_and_then (λ (p : Process). slice_get p.events 0) o ≡ None → option_map_or (λ (p : Process). p.events) o [] ≡ []
    by_process None h = refl
    by_process (Some p) h = no_events p.events h

-- where there is none, nothing is taken out
pub none_taken : (pid : ℤ) (q : Queue) → oldest_event pid q ≡ None → on_process pid without_event q ≡ q
unfolding oldest_event
none_taken pid q h = by_process (process pid q) refl h
  where
    by_process : (o : Option Process) → process pid q ≡ o → option_and_then (λ (p : Process). slice_get p.events 0) o ≡ None → on_process pid without_event q ≡ q
    by_process None here h = changed_missing pid without_event q here
    by_process (Some p) here h =
        let none : p.events ≡ [] = no_events p.events h in
        changed_same pid without_event q p here (ap (λ es. record p { events = es }) (ap (drop 1) none ∙ sym none))
