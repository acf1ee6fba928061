-- What becomes of an event that is to be sent.
use Rattle.std.proofs.Common.{◌≡◌, ℕ, ℤ, Bool, true, false, cond, List, [], length, Err, sym, ap, ◌∙◌, Some}
use Rattle.std.specs.Prelude.{nat_le, nat_lt}
use Rattle.std.specs.Option.{option_map_or}
use Rattle.muck_model.specs.Bytes.{text_most}
use Rattle.spec_live.specs.Lives.{Live}
use Rattle.spec_rights.specs.declared.act.Actor.{Actor}
use Rattle.muf_frame.specs.declared.fault.PrimFault.{PrimFault}
use Rattle.muf_frame.specs.declared.fault.PrimFault.TheVariants.{Fault, NoMemory}
use Rattle.muf_model.specs.declared.fault.MufFault.TheVariants.{TooHeavy, TextTooLong}
use Rattle.muf_model.specs.Datum.{Datum}
use Rattle.muf_model.specs.Values.{value_fits}
use Rattle.muck_queue.specs.declared.process.Process.{Process}
use Rattle.muck_queue.specs.Queues.{Queue, process, on_process, told_event, events_of, events_most}
use Rattle.spec_processes.specs.declared.place.Place.{Place}
use Rattle.spec_processes.specs.ProcessRows.{Effect, gives, refuses, event_data, event_sent}
use Rattle.prim_proc.specs.inner.Plans.{Plans}
use Rattle.prim_proc.specs.inner.Sending.{DataMade}

module _ (x : Place) (i : ℤ) (name : List ℕ) (value : Datum) (w : Live) (q : Queue) (other : Process) where
  abbrev by_tests : Bool → Bool → Bool → Effect
  by_tests many long light = cond many (refuses TooHeavy) (cond long (refuses TextTooLong) (cond light (gives [] w (on_process i (told_event x.moment (name, value)) q)) (refuses TooHeavy)))

  tests_same : (many long light : Bool) → nat_le events_most (length other.events) ≡ many → nat_lt text_most (length name) ≡ long → value_fits value ≡ light → process i q ≡ Some other → event_sent x (process i q) i name value w q ≡ by_tests many long light
  tests_same many long light e f g here =
      ap (λ o. event_sent x o i name value w q) here
      ∙ ap (λ b. by_tests b (nat_lt text_most (length name)) (value_fits value)) e
      ∙ ap (λ b. by_tests many b (value_fits value)) f
      ∙ ap (λ b. by_tests many long b) g

  pub sent_light : nat_le events_most (length other.events) ≡ false → nat_lt text_most (length name) ≡ false → value_fits value ≡ true → process i q ≡ Some other → event_sent x (process i q) i name value w q ≡ gives [] w (on_process i (told_event x.moment (name, value)) q)
  sent_light e f g here = tests_same false false true e f g here

  pub sent_heavy : nat_le events_most (length other.events) ≡ false → nat_lt text_most (length name) ≡ false → value_fits value ≡ false → process i q ≡ Some other → event_sent x (process i q) i name value w q ≡ refuses TooHeavy
  sent_heavy e f g here = tests_same false false false e f g here

  pub few_events : nat_le events_most (length other.events) ≡ false → process i q ≡ Some other → nat_le events_most (events_of i q) ≡ false
  few_events e here = ap (λ o. nat_le events_most (option_map_or (λ p. length p.events) o 0)) here ∙ e

-- what comes with it is too heavy, or memory was wanted
pub unmade : (x : Place) (i : ℤ) (name : List ℕ) (w : Live) (q : Queue) (other : Process) (a : Actor) (own : Process) (item : Datum) (h : PrimFault) →
    nat_le events_most (length other.events) ≡ false → nat_lt text_most (length name) ≡ false → process i q ≡ Some other →
    (row : Effect) → row ≡ event_sent x (process i q) i name (event_data x a own item) w q → DataMade x a own item (Err h) → Plans row x w q (Err h)
unmade x i name w q other a own item (Fault f) few short here row is made =
    is ∙ sent_heavy x i name (event_data x a own item) w q other few short made.0 here ∙ ap refuses (sym made.1)
unmade x i name w q other a own item NoMemory few short here row is made = tt
