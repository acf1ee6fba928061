-- Where listening fails at once: the world is halted, the first party sees that, and makes the last dump.
use Rattle.std.proofs.Common.{◌≡◌, inl, ℕ, Bool, true, false, cond, ◌&&◌, List, [], ◌∷◌, ◌++◌, length, refl, sym, ap, ◌∙◌, subst, arith, append_assoc, Option, Some, None}
use Rattle.std.specs.Prelude.{is_none, is_some}
use Rattle.std.proofs.lemmas.Option.{none-some}
use Rattle.muck_io.specs.Faults.{Rose}
use Rattle.muck_links.specs.Sessions.{LinksTold, ListenAs}
use Rattle.muck_links.specs.declared.links.Listened.{Listened}
use Rattle.muck_links.specs.declared.links.Listened.TheVariants as listened
use Rattle.muck_log.specs.Store.{LogState}
use Rattle.muck_model.specs.declared.event.Entry.{Entry}
use Rattle.muck_model.specs.declared.event.Event.TheVariants.{Halt, StopSeen}
use Rattle.muck_model.specs.declared.note.Note.{Note}
use Rattle.muck_model.specs.declared.note.Count.{Count}
use Rattle.muck_model.specs.declared.note.Counted.{Counted}
use Rattle.spec_dumps.specs.inner.Holding.{Quietly, Keeps}
use Rattle.spec_dumps.proofs.Quiet.{quiet_grew, keeps_quiet}
use Rattle.spec_dumps.proofs.Idle.{idle_quiet}
use Rattle.spec_events.specs.World.{World}
use Rattle.spec_events.specs.Steps.{is_lawful, effect, may_cut}
use Rattle.spec_events.specs.Histories.{History, now, after, entered, links_noted, by_porter, AllLawful}
use Rattle.spec_events.specs.Own.{Stage}
use Rattle.spec_events.proofs.Runs.{after-append}
use Rattle.spec_talks.specs.Counts.{counts}
use Rattle.spec_talks.specs.Talks.{talks}
use Rattle.spec_serve.specs.Marks.{LinksNote, counts_in, IsLinksNote}
use Rattle.spec_serve.specs.Promises.{PromisedOf}
use Rattle.spec_serve.proofs.Counted.{counts_made}
use Rattle.muck_crew.specs.inner.Between.{IsReady as HasLog}
use Rattle.muck_crew.specs.inner.Kept.{Account}
use Rattle.muck_crew.specs.Times.{Timely}
use Rattle.muck_crew.specs.Shared.{IsShared, AllOver, EndsStopped, LeavesWorkedOff}
use Rattle.muck_crew.specs.inner.Finished.{HasDump}
use Rattle.muck_why.specs.declared.why.Why.TheVariants.{ListenFault}
use Rattle.muck_crew.specs.inner.Runs.{IsFresh}
use Rattle.muck_server.specs.inner.{halted}
use Rattle.muck_server.specs.Served.{IsServed, HasStopped}
use Rattle.muck_server.proofs.Sharing.{At, at_first, at_more, none_first, others_more, all_over, first_is}
use Rattle.muck_server.proofs.Noting.{noted_halted}
use Rattle.muck_server.proofs.Behind.{Heard}
use Rattle.muck_server.proofs.Served.{Known, serves_deaf}
use Rattle.muck_server.proofs.Dumped.{made_of}

-- listening changes no session
pub same_sessions : (port : ℕ) (old new : LinksTold) (answer : Listened) → ListenAs port old new answer → new.sessions ≡ old.sessions
same_sessions port old new listened.NoMemory is = ap (λ (t : LinksTold). t.sessions) is
same_sessions port old new listened.Ready is = ap (λ (t : LinksTold). t.sessions) is
same_sessions port old new listened.Fault is = ap (λ (t : LinksTold). t.sessions) is

-- and tells the port, but for want of memory
pub told_port : (port : ℕ) (old new : LinksTold) (answer : Listened) → (answer ≡ listened.NoMemory → ⊥) → ListenAs port old new answer → new.ports ≡ port ∷ old.ports
told_port port old new listened.NoMemory heard is = absurd (heard refl)
told_port port old new listened.Ready heard is = ap (λ (t : LinksTold). t.ports) is
told_port port old new listened.Fault heard is = ap (λ (t : LinksTold). t.ports) is

-- The world as it is halted.

now_entered : (h : History) (e : Entry) → now (entered h e) ≡ effect (now h) e
unfolding now
now_entered h e = after-append h.entries (e ∷ []) h.start

pub halted_alive : (h : History) → (now h).dead ≡ false → (now (entered h (by_porter Halt))).dead ≡ false
unfolding effect
halted_alive h alive = ap (λ (w : World). w.dead) (now_entered h (by_porter Halt)) ∙ alive

halted_stopping : (h : History) → (now (entered h (by_porter Halt))).stopping ≡ true
unfolding effect
halted_stopping h = ap (λ (w : World). w.stopping) (now_entered h (by_porter Halt))

lawful_stop : (w : World) → w.dead ≡ false → w.stopping ≡ true → is_lawful w (by_porter StopSeen) ≡ true
unfolding is_lawful
lawful_stop w alive stopping = ap (λ (b : Bool). cond b false w.stopping) alive ∙ stopping

-- the note changes nothing in it
now_noted : (h : History) (counts : List Count) → now (links_noted h counts) ≡ now h
unfolding now
now_noted h counts = refl

-- the first party may see that
pub sees_stop : (h : History) (counts : List Count) → (now h).dead ≡ false → is_lawful (now (links_noted (entered h (by_porter Halt)) counts)) (by_porter StopSeen) ≡ true
sees_stop h counts alive =
    ap (λ (w : World). is_lawful w (by_porter StopSeen)) (now_noted (entered h (by_porter Halt)) counts)
    ∙ lawful_stop (now (entered h (by_porter Halt))) (halted_alive h alive) (halted_stopping h)

pub seen_alive : (counts : List Count) (h : History) → (now h).dead ≡ false → (now (halted counts h)).dead ≡ false
unfolding effect
seen_alive counts h alive =
    ap (λ (w : World). w.dead) (now_entered (links_noted (entered h (by_porter Halt)) counts) (by_porter StopSeen) ∙ ap (λ (w : World). effect w (by_porter StopSeen)) (now_noted (entered h (by_porter Halt)) counts))
    ∙ halted_alive h alive

quiet_halted : (counts : List Count) (h : History) → Quietly h (halted counts h)
quiet_halted counts h = quiet_grew h (halted counts h) (by_porter Halt ∷ by_porter StopSeen ∷ []) refl (record { start = refl; entries = append_assoc h.entries (by_porter Halt ∷ []) (by_porter StopSeen ∷ []); notes = refl })

fresh_idle : (mounting : Note) (h : History) → IsFresh mounting h → (now h).dumps.running ≡ None
unfolding now
fresh_idle mounting h f = ap (λ (es : List Entry). (after h.start es).dumps.running) f.entries ∙ f.idle

-- and then make the last dump
pub may_last : (counts : List Count) (mounting : Note) (h : History) → IsFresh mounting h → may_cut (now (halted counts h)) 0 ≡ true
may_last counts mounting h f = ap (λ (o : Option (ℕ × List ℕ)). true && is_none o && true) (idle_quiet h (halted counts h) (quiet_halted counts h) (fresh_idle mounting h f))

module _ {D : Type 0} (seen : D → List ℕ) (moment : D → ℕ) (images : D → ℕ → List ℕ → Type 0) (faults : D → ℕ) (log : Option LogState) (first second : D) (mounted : ℕ) where
  pub keeps_halted : (counts : List Count) (h : History) → HasLog seen moment images faults log first second mounted h → Keeps seen moment images faults log first second mounted (halted counts h)
  keeps_halted counts h m = keeps_quiet seen moment images faults log first second mounted h (halted counts h) (quiet_halted counts h) m.keeps

-- What happened up to there.

abbrev tale : List Entry
tale = by_porter Halt ∷ by_porter StopSeen ∷ []

tale_is : (counts : List Count) (mounting : Note) (h : History) → IsFresh mounting h → (halted counts h).entries ≡ tale
tale_is counts mounting h f = ap (λ (es : List Entry). (es ++ by_porter Halt ∷ []) ++ by_porter StopSeen ∷ []) f.entries

-- the note stands behind the first entry
marks_are : (counts : List Count) (mounting : Note) (h : History) → IsFresh mounting h → (halted counts h).counted ≡ Some (record { entries = 1; counts = counts })
marks_are counts mounting h f = ap (λ (es : List Entry). Some (record { entries = length (es ++ by_porter Halt ∷ []); counts = counts })) f.entries

fresh_alive : (mounting : Note) (h : History) → IsFresh mounting h → (now h).dead ≡ false → h.start.dead ≡ false
unfolding now
fresh_alive mounting h f alive = sym (ap (λ (es : List Entry). (after h.start es).dead) f.entries) ∙ alive

stopped_there : (workers : ℕ) → At workers 0 Stage.stopped tale
stopped_there workers =
    at_more workers 0 (by_porter Halt ∷ []) StopSeen Stage.unbound Stage.stopped (first_is workers) refl (at_more workers 0 [] Halt Stage.unbound Stage.unbound (first_is workers) refl (at_first workers 0))

shared : (workers : ℕ) → IsShared workers tale
shared workers = (stopped_there workers).shared

over : (workers : ℕ) → AllOver workers tale
over workers = all_over workers 0 Stage.stopped tale (stopped_there workers) refl (others_more workers 0 (by_porter Halt ∷ []) StopSeen (others_more workers 0 [] Halt (none_first workers 0)))

stopped : EndsStopped 0 tale
stopped = (Halt ∷ [], refl)

module _ (before later : Account) (w : World) (same : later.links.told.sessions ≡ before.links.told.sessions) (rose : Rose before.links.listening later.links.listening) where
  promised : PromisedOf (Some (counts later.links.told.sessions)) before.links w tale later.links
  unfolding talks
  promised = record { mine = []; extra = []; whole = same; single = inl refl; agree = tt; counts = counts_made later.links.told.sessions; halts = λ i v at. inl rose }

  worked_off : LeavesWorkedOff (Some (counts later.links.told.sessions)) w tale later.links
  unfolding talks
  worked_off = (by_porter Halt ∷ [], [], refl, λ d t there still. absurd (none-some t there))

timely : (a : Option (List ℕ)) (w : World) → Timely a a w tale
timely a w = (a, refl, (a, refl, refl))

module _ {D : Type 0} (shows tells : Bool) (before later : Account) (seen : D → List ℕ) (moment : D → ℕ) (images : D → ℕ → List ℕ → Type 0) (faults : D → ℕ) (workers port mounted : ℕ) (mounting : Note) (log : Option LogState) (first second first' second' : D)
    (world : History) (fresh : IsFresh mounting world) (alive : (now world).dead ≡ false) (mount : tells ≡ true → HasLog seen moment images faults log first second mounted world)
    (same : shows ≡ true → later.links.told.sessions ≡ before.links.told.sessions) (ports : shows ≡ true → later.links.told.ports ≡ port ∷ before.links.told.ports) (rose : Rose before.links.listening later.links.listening) (clock : later.answers ≡ before.answers) where
  -- the counts of the links as they are now
  abbrev seen_counts : List Count
  seen_counts = counts later.links.told.sessions

  -- the world as it is halted
  abbrev stopping : History
  stopping = halted seen_counts world

  known : Known shows tells before later seen moment images faults workers port mounted mounting first second ListenFault stopping
  known =
      let es : stopping.entries ≡ tale = tale_is seen_counts mounting world fresh in
      let note : stopping.counted ≡ Some (record { entries = 1; counts = seen_counts }) = marks_are seen_counts mounting world fresh in
      let made : counts_in stopping.counted ≡ Some seen_counts = ap counts_in note in record {
        since = [];
        noted = fresh.notes;
        shared = subst (IsShared workers) (sym es) (shared workers);
        marked = subst (λ (c : Option Counted). IsLinksNote c world.start stopping.entries) (sym note)
            (subst (IsLinksNote (Some (record { entries = 1; counts = seen_counts })) world.start) (sym es) (noted_halted seen_counts world.start fresh.going (fresh_alive mounting world fresh alive)));
        ports = ports;
        heard = subst (λ (c : LinksNote). Heard shows before later (HasStopped ListenFault) c world.start stopping.entries) (sym made) (record {
          promised = λ on. subst (λ (x : List Entry). PromisedOf (Some seen_counts) before.links world.start x later.links) (sym es) (promised before later world.start (same on) rose);
          timely = subst (λ (x : List Entry). Timely before.answers later.answers world.start x) (sym es) (subst (λ (a : Option (List ℕ)). Timely before.answers a world.start tale) (sym clock) (timely before.answers world.start));
          worked_off = λ on stop. subst (λ (x : List Entry). LeavesWorkedOff (Some seen_counts) world.start x later.links) (sym es) (worked_off before later world.start (same on) rose);
        });
      }

  pub served_deaf : (k : History) → AllLawful k.start k.entries → HasDump tells seen moment images faults true log first second first' second' stopping k ListenFault
      → IsServed shows tells before later seen moment images faults workers port ListenFault world.start mounted mounting first second first' second' k.entries k.notes k.counted
  served_deaf k lawful dump =
      subst (λ (w : World). IsServed shows tells before later seen moment images faults workers port ListenFault w mounted mounting first second first' second' k.entries k.notes k.counted) (made_of dump.answer stopping k dump.made).behind.longer.start
      (serves_deaf shows tells before later seen moment images faults workers port mounted mounting first second true ListenFault log first second first' second' stopping k known
      (subst (EndsStopped 0) (sym (tale_is seen_counts mounting world fresh)) stopped)
      (subst (AllOver workers) (sym (tale_is seen_counts mounting world fresh)) (over workers))
      (ap is_some (marks_are seen_counts mounting world fresh)) dump
      (λ on. keeps_halted seen moment images faults log first second mounted seen_counts world (mount on)) (omega arith) (omega arith) lawful refl rose)
