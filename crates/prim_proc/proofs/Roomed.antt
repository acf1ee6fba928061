-- Where there is room for what comes of a plan, and where there is none.
use Rattle.std.proofs.Common.{◌≡◌, ℕ, ◌<◌, ◌≤◌, ◌+◌, Bool, true, false, cond, List, [], ◌∷◌, length, refl, arith}
use Rattle.std.specs.Prelude.{nat_le}
use Rattle.std.proofs.lemmas.Bool.{cond-true, cond-false, lt-ltb, le-ltb}
use Rattle.spec_live.specs.Lives.{Live}
use Rattle.muf_model.specs.declared.fault.MufFault.TheVariants.{StackFull, TooHeavy}
use Rattle.muf_model.specs.Answer.{stack_most}
use Rattle.muf_model.specs.Datum.{Datum}
use Rattle.muck_queue.specs.Queues.{Queue, events_of, events_most}
use Rattle.spec_processes.specs.declared.place.Place.{Place}
use Rattle.spec_processes.specs.ProcessRows.{Effect, gives, refuses, effect_fitting, upon, oldest}
use Rattle.prim_proc.specs.inner.Plans.{items_of, effect_of, events_in, stacked}
use Rattle.prim_proc.specs.declared.plan.Plan.{Plan}
use Rattle.prim_proc.specs.declared.plan.Plan.TheVariants.{Nothing, Give, Draw, Kill, SetMode, Send, Receive, Sleep, Read, Fork, Enter, Start}

module _ (rest : List Datum) (n : ℕ) (effect : Effect) where
  has_room : n + length rest ≤ stack_most → effect_fitting n rest effect ≡ effect
  has_room l = cond-false _ _ _ (le-ltb stack_most (n + length rest) l)

  has_none : stack_most < n + length rest → effect_fitting n rest effect ≡ refuses StackFull
  has_none l = cond-true _ _ _ (lt-ltb stack_most (n + length rest) l)

module _ (rest : List Datum) (x : Place) (w : Live) (q : Queue) where
  sent_upon : (b : Bool) (r : Queue) → 0 + length rest ≤ stack_most → upon rest (cond b (refuses TooHeavy) (gives [] w r)) ≡ stacked rest (cond b (refuses TooHeavy) (gives [] w r))
  sent_upon true r l = refl
  sent_upon false r l = has_room rest 0 (gives rest w r) l

  oldest_upon : (events : List (List ℕ × Datum)) → 2 + length rest ≤ stack_most → upon rest (oldest events x w q) ≡ stacked rest (oldest events x w q)
  oldest_upon [] l = has_room rest 2 _ l
  oldest_upon (e ∷ events) l = has_room rest 2 _ l

  oldest_full : (events : List (List ℕ × Datum)) → stack_most < 2 + length rest → upon rest (oldest events x w q) ≡ refuses StackFull
  oldest_full [] l = has_none rest 2 _ l
  oldest_full (e ∷ events) l = has_none rest 2 _ l

  pub upon_roomed : (plan : Plan) → items_of plan + length rest ≤ stack_most → upon rest (effect_of plan x w q) ≡ stacked rest (effect_of plan x w q)
  upon_roomed Nothing l = has_room rest 0 _ l
  upon_roomed (Give item) l = has_room rest 1 _ l
  upon_roomed Draw l = has_room rest 1 _ l
  upon_roomed (Kill i) l = has_room rest 1 _ l
  upon_roomed (SetMode mode) l = has_room rest 0 _ l
  upon_roomed (Send i name value) l = sent_upon (nat_le events_most (events_of i q)) _ l
  upon_roomed Receive l = oldest_upon (events_in x.pid q) l
  upon_roomed (Sleep due) l = has_room rest 0 _ l
  upon_roomed Read l = has_room rest 1 _ l
  upon_roomed Fork l = has_room rest 1 _ l
  upon_roomed (Enter program word) l = refl
  upon_roomed (Start program delay argument) l = refl

  -- no room is wanting for none
  few : stack_most < 0 + length rest → length rest ≤ stack_most → {X : Type 0} → X
  few l most = absurd (omega (arith, l, most))

  pub upon_full : (plan : Plan) → length rest ≤ stack_most → stack_most < items_of plan + length rest → upon rest (effect_of plan x w q) ≡ refuses StackFull
  upon_full (Give item) most l = has_none rest 1 _ l
  upon_full Draw most l = has_none rest 1 _ l
  upon_full (Kill i) most l = has_none rest 1 _ l
  upon_full Read most l = has_none rest 1 _ l
  upon_full Fork most l = has_none rest 1 _ l
  upon_full Receive most l = oldest_full (events_in x.pid q) l
  upon_full Nothing most l = few l most
  upon_full (SetMode mode) most l = few l most
  upon_full (Send i name value) most l = few l most
  upon_full (Sleep due) most l = few l most
  upon_full (Enter program word) most l = few l most
  upon_full (Start program delay argument) most l = few l most
