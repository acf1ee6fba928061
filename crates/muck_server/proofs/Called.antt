-- What a call says, from what the calls in it say.
use Rattle.std.proofs.Common.{◌≡◌, ◌⊎◌, ℕ, ◌≤◌, Bool, true, false, List, ◌∷◌, refl, sym, ap, ◌∙◌, subst, Option, Some, Result}
use Rattle.std.specs.Prelude.{if◌then◌else◌, IfOk}
use Rattle.muck_io.specs.Faults.{Rose}
use Rattle.muck_log.specs.Store.{LogState}
use Rattle.muck_log.specs.declared.fault.LogFault.{LogFault}
use Rattle.muck_log.specs.declared.fault.LogFault.TheVariants as fault
use Rattle.muck_model.specs.declared.event.Entry.{Entry}
use Rattle.muck_model.specs.declared.event.Event.TheVariants.{Halt, StopSeen}
use Rattle.muck_model.specs.declared.memory.NoMemory.{NoMemory as Wanting}
use Rattle.muck_model.specs.declared.note.Note.{Note}
use Rattle.muck_model.specs.declared.note.Count.{Count}
use Rattle.muck_model.specs.declared.note.Counted.{Counted}
use Rattle.spec_dumps.specs.inner.Holding.{Keeps}
use Rattle.spec_events.specs.Steps.{is_lawful, may_cut}
use Rattle.spec_events.specs.Histories.{History, now, entered, links_noted, by_porter, AllLawful}
use Rattle.spec_talks.specs.Counts.{counts}
use Rattle.muck_crew.specs.inner.Between.{IsReady as HasLog}
use Rattle.muck_crew.specs.inner.Dumps.{HasDumped, Dumps}
use Rattle.muck_crew.specs.inner.Kept.{Account}
use Rattle.muck_crew.specs.inner.Finished.{HasDump}
use Rattle.muck_why.specs.declared.why.Why.{Why}
use Rattle.muck_why.specs.declared.why.Why.TheVariants.{ListenFault}
use Rattle.muck_crew.specs.inner.Runs.{IsFresh}
use Rattle.muck_crew.specs.inner.Wholes.{HasServed}
use Rattle.muck_server.specs.inner.{halted}
use Rattle.muck_server.specs.Served.{IsServed}
use Rattle.muck_server.proofs.Served.{served_whole}
use Rattle.muck_server.proofs.Deaf.{sees_stop, seen_alive, may_last, keeps_halted, served_deaf}

-- the first party sees the stop
pub halted_so : (counts : List Count) (h k : History) (sees : Bool) → (now h).dead ≡ false → sees ≡ is_lawful (now (links_noted (entered h (by_porter Halt)) counts)) (by_porter StopSeen)
    → k ≡ (if sees then halted counts h else links_noted (entered h (by_porter Halt)) counts) → k ≡ halted counts h
halted_so counts h k sees alive lawful is = is ∙ ap (λ (b : Bool). if b then halted counts h else links_noted (entered h (by_porter Halt)) counts) (lawful ∙ sees_stop h counts alive)

-- and may make the last dump then
module _ (counts : List Count) (h k : History) (is : k ≡ halted counts h) where
  pub alive_then : (now h).dead ≡ false → (now k).dead ≡ false
  alive_then alive = ap (λ (x : History). (now x).dead) is ∙ seen_alive counts h alive

  pub may_then : (mounting : Note) × IsFresh mounting h → may_cut (now k) 0 ≡ true
  may_then fresh = ap (λ (x : History). may_cut (now x) 0) is ∙ may_last counts fresh.0 h fresh.1

module _ {D : Type 0} (tells : Bool) (seen : D → List ℕ) (moment : D → ℕ) (images : D → ℕ → List ℕ → Type 0) (faults : D → ℕ) (log l : Option LogState) (first second : D) (counts : List Count) (h k : History) (is : k ≡ halted counts h) (log_is : l ≡ log) where
  pub keeps_then : (tells ≡ true → (mounted : ℕ) × HasLog seen moment images faults log first second mounted h) → tells ≡ true → (mounted : ℕ) × Keeps seen moment images faults l first second mounted k
  keeps_then mount on =
      let m = mount on in (
        m.0,
        subst (λ (x : Option LogState). Keeps seen moment images faults x first second m.0 k) (sym log_is)
            (subst (λ (x : History). Keeps seen moment images faults log first second m.0 x) (sym is) (keeps_halted seen moment images faults log first second m.0 counts h m.1)),
      )

  pub dump_then : (log' : Option LogState) (first' second' : D) (m : History) (answer : Result (Option LogFault) Wanting) → HasDumped 0 k m answer
      → ((mounted : ℕ) → tells ≡ true → Keeps seen moment images faults l first second mounted k → Dumps seen moment images faults log' first' second' mounted m answer)
      → IfOk answer (λ o. o ≡ Some fault.DiskFault → Rose (faults first) (faults first') ⊎ Rose (faults second) (faults second')) → IfOk answer (λ o. o ≡ Some fault.NoMemory → ⊥)
      → HasDump tells seen moment images faults true log first second first' second' (halted counts h) m ListenFault
  dump_then log' first' second' m answer happened kept cause apart = record {
    answer = answer;
    log' = log';
    made = subst (λ (x : History). HasDumped 0 x m answer) is happened;
    is = refl;
    kept = λ mounted on keeps.
        kept mounted on
        (subst (λ (x : Option LogState). Keeps seen moment images faults x first second mounted k) (sym log_is)
        (subst (λ (x : History). Keeps seen moment images faults log first second mounted x) (sym is) keeps));
    cause = cause;
    apart = apart;
  }

-- One history happened, which is the tale.
module _ {D : Type 0} (shows tells : Bool) (before later : Account) (seen : D → List ℕ) (moment : D → ℕ) (images : D → ℕ → List ℕ → Type 0) (faults : D → ℕ) (workers port mounted : ℕ) (mounting : Note) (log : Option LogState) (first second first' second' : D)
    (world k : History) (tale : List Entry) (notes : List Note) (counted : Option Counted) (tale_is : tale ≡ k.entries) (notes_is : notes ≡ k.notes) (counted_is : counted ≡ k.counted) (lawful : AllLawful k.start tale) (fresh : IsFresh mounting world)
    (mount : tells ≡ true → HasLog seen moment images faults log first second mounted world) where
  lawful_all : AllLawful k.start k.entries
  lawful_all = subst (AllLawful k.start) tale_is lawful

  told : (why : Why) → IsServed shows tells before later seen moment images faults workers port why world.start mounted mounting first second first' second' k.entries k.notes k.counted → IsServed shows tells before later seen moment images faults workers port why world.start mounted mounting first second first' second' tale notes counted
  told why x =
      subst (λ (es : List Entry). IsServed shows tells before later seen moment images faults workers port why world.start mounted mounting first second first' second' es notes counted) (sym tale_is)
      (subst (λ (ns : List Note). IsServed shows tells before later seen moment images faults workers port why world.start mounted mounting first second first' second' k.entries ns counted) (sym notes_is)
      (subst (λ (c : Option Counted). IsServed shows tells before later seen moment images faults workers port why world.start mounted mounting first second first' second' k.entries k.notes c) (sym counted_is) x))

  -- all parts served
  pub call_served : (shows' : Bool) (listened : Account) (why : Why) → shows' ≡ shows → (shows ≡ true → listened.links.told.sessions ≡ before.links.told.sessions) → (shows ≡ true → listened.links.told.ports ≡ port ∷ before.links.told.ports) → before.links.listening ≤ listened.links.listening
      → listened.answers ≡ before.answers → HasServed tells seen moment images faults shows' listened later workers why log first second first' second' world k
      → IsServed shows tells before later seen moment images faults workers port why world.start mounted mounting first second first' second' tale notes counted
  call_served shows' listened why shows_is same ports since_before clock x =
      told why (served_whole shows tells before later seen moment images faults workers port mounted mounting first second log listened world fresh mount same ports since_before clock why first' second' k lawful_all
      (subst (λ (b : Bool). HasServed tells seen moment images faults b listened later workers why log first second first' second' world k) shows_is x))

  -- listening failed
  pub call_deaf : (now world).dead ≡ false → (shows ≡ true → later.links.told.sessions ≡ before.links.told.sessions) → (shows ≡ true → later.links.told.ports ≡ port ∷ before.links.told.ports) → Rose before.links.listening later.links.listening → later.answers ≡ before.answers
      → HasDump tells seen moment images faults true log first second first' second' (halted (counts later.links.told.sessions) world) k ListenFault
      → IsServed shows tells before later seen moment images faults workers port ListenFault world.start mounted mounting first second first' second' tale notes counted
  call_deaf alive same ports rose clock dump =
      told ListenFault (served_deaf shows tells before later seen moment images faults workers port mounted mounting log first second first' second' world fresh alive mount same ports rose clock k lawful_all dump)
