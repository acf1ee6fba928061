-- What a run comes to, from what all its parts left and how it ended.
use Rattle.std.proofs.Common.{◌≡◌, ◌⊎◌, inl, inr, ℕ, ◌<◌, ◌≤◌, ◌^◌, Bool, true, false, List, [], ◌∷◌, ◌++◌, length, refl, sym, ap, ◌∙◌, subst, arith, length-append, Option}
use Rattle.std.specs.Prelude.{is_some}
use Rattle.muck_laws.proofs.Numbers.{few_left}
use Rattle.muck_laws.proofs.Truths.{opposed}
use Rattle.muck_io.specs.Faults.{Rose}
use Rattle.muck_log.specs.Store.{LogState}
use Rattle.muck_model.specs.declared.event.Entry.{Entry}
use Rattle.muck_model.specs.declared.event.Event.TheVariants.{Died}
use Rattle.muck_model.specs.declared.note.Note.{Note}
use Rattle.muck_model.specs.declared.note.Counted.{Counted}
use Rattle.spec_dumps.specs.inner.Holding.{Keeps}
use Rattle.spec_dumps.specs.Survival.{IsSafe}
use Rattle.spec_dumps.proofs.Quiet.{quiet_one, safe_quiet}
use Rattle.spec_events.specs.World.{World}
use Rattle.spec_events.specs.Histories.{History, now, entered, AllLawful}
use Rattle.spec_events.specs.Own.{Stage}
use Rattle.spec_serve.specs.Marks.{counts_in, IsLinksNote}
use Rattle.muck_crew.specs.inner.Between.{IsReady as HasLog}
use Rattle.muck_crew.specs.inner.Dumps.{by}
use Rattle.muck_crew.specs.inner.Kept.{Account}
use Rattle.muck_crew.specs.Times.{Timely}
use Rattle.muck_crew.proofs.Rising.{rose_since}
use Rattle.muck_crew.specs.Shared.{IsParty, IsShared, AllOver, EndsStopped}
use Rattle.muck_crew.specs.inner.Finished.{why_by, HasDump, IsFinish}
use Rattle.muck_crew.specs.declared.serving.Way.{Way}
use Rattle.muck_crew.specs.declared.serving.Way.TheVariants as ends
use Rattle.muck_why.specs.declared.why.Why.{Why}
use Rattle.muck_why.specs.declared.why.Why.TheVariants.{NoMemory, Spent}
use Rattle.muck_crew.specs.inner.Runs.{IsFresh, HasRun, HasStopped as AllStopped}
use Rattle.muck_crew.specs.inner.Wholes.{HasServed}
use Rattle.muck_server.specs.Served.{IsServed, HasEnded, HasStopped, HasRunOut}
use Rattle.spec_serve.proofs.Promising.{promised_by_number}
use Rattle.muck_server.proofs.Behind.{Heard, heard_behind, promised_since}
use Rattle.muck_server.proofs.Sharing.{EndsShared, at_more, others_more, all_over, stopped_over, first_is, dumper_is, porter_stopped, dumper_stopped, last_shared}
use Rattle.muck_server.proofs.Noting.{noted_there, noted_behind, noted_died}
use Rattle.muck_server.proofs.Dumped.{Made, made_of, is_last, last_tells_nothing, tells_died, dead_behind}
use Rattle.muck_server.proofs.Ended.{ended_by}
use Rattle.muck_server.proofs.Disks.{OnDisks, on_dumped, on_undumped}

-- Not all turns were had.

few_before : (es : List Entry) (e : Entry) → ¬ (2 ^ 62 ≤ length (es ++ e ∷ [])) → length es < 2 ^ 62
few_before es e unspent = few_left (length es) (λ many. unspent (let l = length-append es (e ∷ []) in omega (arith, l, many)))

module _ {D : Type 0} (shows tells : Bool) (before later : Account) (seen : D → List ℕ) (moment : D → ℕ) (images : D → ℕ → List ℕ → Type 0) (faults : D → ℕ) (workers port mounted : ℕ) (mounting : Note) (first second : D) where
  -- the history k came to this, and this is what both disks are now
  abbrev pub Serves : Why → D → D → History → Type 0
  Serves why first' second' k = IsServed shows tells before later seen moment images faults workers port why k.start mounted mounting first second first' second' k.entries k.notes k.counted

  -- What is known of a history of the run, beside how it ended and what is kept of the disks.
  pub record Known (why : Why) (h : History) : Type 0 where
    pub since : List Note
    pub noted : h.notes ≡ mounting ∷ since
    pub shared : IsShared workers h.entries
    pub marked : IsLinksNote h.counted h.start h.entries
    pub ports : shows ≡ true → later.links.told.ports ≡ port ∷ before.links.told.ports
    pub heard : Heard shows before later (HasStopped why) (counts_in h.counted) h.start h.entries

  pub serves : (why : Why) (first' second' : D) (k : History) → Known why k → AllLawful k.start k.entries → HasEnded workers before.links.listening later.links.listening k.start why k.entries
      → (¬ (HasRunOut why k.entries) → AllOver workers k.entries) → OnDisks tells seen moment images faults why mounted first second first' second' k → Serves why first' second' k
  serves why first' second' k known lawful ended over disks = record {
    since = known.since;
    noted = known.noted;
    lawful = lawful;
    shared = known.shared;
    over = over;
    marked = known.marked;
    carried = λ on. (let p = known.heard.promised on in record { promised = p; by_number = promised_by_number (counts_in k.counted) before.links k.start k.entries later.links p });
    ports = known.ports;
    timely = known.heard.timely;
    worked_off = known.heard.worked_off;
    ended = ended;
    safe = disks.safe;
    whole = disks.whole;
    full = disks.full;
    failed = disks.failed;
    rose = disks.rose;
    undamaged = disks.undamaged;
  }

  -- Behind a last dump, where the first party had seen the stop.
  module _ (deaf : Bool) (why : Why) (log : Option LogState) (first1 second1 first' second' : D) (h k : History) (known : Known why h) (stopped : EndsStopped 0 h.entries) (over : AllOver workers h.entries) (noted : is_some h.counted ≡ true) (dump : HasDump tells seen moment images faults deaf log first1 second1 first' second' h k why) where
    made : Made dump.answer h k
    made = made_of dump.answer h k dump.made

    es : k.entries ≡ h.entries ++ made.entries
    es = made.behind.longer.entries

    both : EndsShared workers (h.entries ++ made.entries)
    both = last_shared workers h.entries (porter_stopped workers h.entries known.shared stopped) (λ q is other. over q is) made.entries (is_last dump.answer made.entries made.by_answer)

    known_dumped : Known why k
    known_dumped = record {
      since = known.since ++ made.behind.since;
      noted = made.behind.noted ∙ ap (λ (ns : List Note). ns ++ made.behind.since) known.noted;
      shared = subst (IsShared workers) (sym es) both.0;
      marked =
          subst (λ (c : Option Counted). IsLinksNote c k.start k.entries) (sym made.behind.counted)
          (subst (λ (w : World). IsLinksNote h.counted w k.entries) (sym made.behind.longer.start)
          (subst (IsLinksNote h.counted h.start) (sym es) (noted_behind h.counted h.start h.entries made.entries noted known.marked)));
      ports = known.ports;
      heard =
          subst (λ (c : Option Counted). Heard shows before later (HasStopped why) (counts_in c) k.start k.entries) (sym made.behind.counted)
          (subst (λ (w : World). Heard shows before later (HasStopped why) (counts_in h.counted) w k.entries) (sym made.behind.longer.start)
          (subst (λ (x : List Entry). Heard shows before later (HasStopped why) (counts_in h.counted) h.start x) (sym es)
          (heard_behind shows before later (HasStopped why) (counts_in h.counted) h.start h.entries made.entries (last_tells_nothing made.entries (is_last dump.answer made.entries made.by_answer)) known.heard)));
    }

    over_dumped : ¬ (HasRunOut why k.entries) → AllOver workers k.entries
    over_dumped unspent = subst (AllOver workers) (sym es) both.1

    ended_deaf : deaf ≡ true → Rose before.links.listening later.links.listening → HasEnded workers before.links.listening later.links.listening k.start why k.entries
    ended_deaf is rose =
        subst (λ (x : Why). HasEnded workers before.links.listening later.links.listening k.start x k.entries) (sym (dump.is ∙ ap (λ (b : Bool). why_by b dump.answer) is))
        (rose, (h.entries, made.entries, made.behind.longer.entries, stopped, is_last dump.answer made.entries made.by_answer))

    ended_heard : deaf ≡ false → ((party : ℕ) → IsParty workers party → EndsStopped party h.entries) → HasEnded workers before.links.listening later.links.listening k.start why k.entries
    ended_heard is last =
        subst (λ (x : Why). HasEnded workers before.links.listening later.links.listening k.start x k.entries) (sym (dump.is ∙ ap (λ (b : Bool). why_by b dump.answer) is))
        (ended_by workers before.links.listening later.links.listening k.start h.entries last dump.answer made.entries k.entries dump.apart made.by_answer made.behind.longer.entries)

    module _ (keeps : tells ≡ true → Keeps seen moment images faults log first1 second1 mounted h) (first_later : faults first ≤ faults first1) (second_later : faults second ≤ faults second1) (lawful : AllLawful k.start k.entries) where
      pub serves_deaf : deaf ≡ true → Rose before.links.listening later.links.listening → Serves why first' second' k
      serves_deaf is rose =
          serves why first' second' k known_dumped lawful (ended_deaf is rose) over_dumped (on_dumped tells seen moment images faults why mounted first second deaf log first1 second1 first' second' h k keeps first_later second_later dump)

      pub serves_heard : deaf ≡ false → ((party : ℕ) → IsParty workers party → EndsStopped party h.entries) → Serves why first' second' k
      serves_heard is last =
          serves why first' second' k known_dumped lawful (ended_heard is last) over_dumped (on_dumped tells seen moment images faults why mounted first second deaf log first1 second1 first' second' h k keeps first_later second_later dump)

  -- the same of what is equal
  serves_as : (h k : History) (why is : Why) (f f' s s' : D) → k ≡ h → is ≡ why → f' ≡ f → s' ≡ s → Serves why f s h → Serves is f' s' k
  serves_as h k why is f f' s s' k_is why_is f_is s_is x =
      subst (λ (y : History). Serves is f' s' y) (sym k_is)
      (subst (λ (y : Why). Serves y f' s' h) (sym why_is)
      (subst (λ (y : D). Serves why y s' h) (sym f_is)
      (subst (λ (y : D). Serves why f y h) (sym s_is) x)))

  -- What all parts left, and how it ended.
  module _ (log : Option LogState) (listened : Account) (world : History) (fresh : IsFresh mounting world) (mount : tells ≡ true → HasLog seen moment images faults log first second mounted world)
      (same : shows ≡ true → listened.links.told.sessions ≡ before.links.told.sessions) (ports : shows ≡ true → listened.links.told.ports ≡ port ∷ before.links.told.ports) (since_before : before.links.listening ≤ listened.links.listening) (clock : listened.answers ≡ before.answers) where
    module _ (way : Way) (log1 : Option LogState) (first1 second1 : D) (h : History) (run : HasRun tells seen moment images faults shows listened later workers way log log1 first second first1 second1 world h) where
      known_run : (why : Why) → (HasStopped why → AllStopped way) → Known why h
      known_run why stops = record {
        since = run.since;
        noted = run.noted ∙ ap (λ (ns : List Note). ns ++ run.since) fresh.notes;
        shared = run.shared;
        marked = run.marked;
        ports = λ on. run.ports on ∙ ports on;
        heard = record {
          promised = λ on. promised_since (counts_in h.counted) before.links listened.links h.start h.entries later.links (same on) since_before (run.promised on);
          timely = subst (λ (a : Option (List ℕ)). Timely a later.answers h.start h.entries) clock run.timely;
          worked_off = λ on stop. run.worked_off on (stops stop);
        };
      }

      safe_run : tells ≡ true → IsSafe moment images faults first1 second1 h.start mounted h.entries h.notes
      safe_run on = run.safe mounted on (mount on)

      -- memory was wanted, as the world tells
      serves_dead : (now h).dead ≡ true → Serves NoMemory first1 second1 h
      unfolding now
      serves_dead dead =
          serves NoMemory first1 second1 h (known_run NoMemory (λ stop. absurd stop)) run.lawful dead (λ unspent. run.over (few_left (length h.entries) unspent)) (on_undumped tells seen moment images faults NoMemory mounted first second first1 second1 h tt safe_run)

      -- memory was wanted by the porter alone
      serves_alone : way ≡ ends.Alone → AllLawful h.start (h.entries ++ by 9 Died ∷ []) → Serves NoMemory first1 second1 (entered h (by 9 Died))
      serves_alone is lawful =
          let k = entered h (by 9 Died) in
          let known = known_run NoMemory (λ stop. absurd stop) in
          let died = at_more workers 9 h.entries Died Stage.stopped Stage.ended (dumper_is workers) refl (dumper_stopped workers h.entries run.shared (run.alone is)) in
          serves NoMemory first1 second1 k (record {
            since = known.since;
            noted = known.noted;
            shared = died.shared;
            marked = noted_died h.counted h.start h.entries known.marked;
            ports = known.ports;
            heard = heard_behind shows before later (HasStopped NoMemory) (counts_in h.counted) h.start h.entries (by 9 Died ∷ []) (tells_died 9, tt) known.heard;
          }) lawful (dead_behind h.start h.entries 9)
          (λ unspent. all_over workers 9 Stage.ended (h.entries ++ by 9 Died ∷ []) died refl
          (others_more workers 9 h.entries Died (λ q party other. run.over (few_before h.entries (by 9 Died) unspent) q party)))
          (on_undumped tells seen moment images faults NoMemory mounted first second first1 second1 k tt (λ on. safe_quiet moment images faults first1 second1 mounted h k (quiet_one h k (by 9 Died) refl refl) (safe_run on)))

      -- all turns were had
      serves_spent : way ≡ ends.Spent → Serves (Spent (2 ^ 62)) first1 second1 h
      serves_spent is =
          serves (Spent (2 ^ 62)) first1 second1 h (known_run (Spent (2 ^ 62)) (λ stop. absurd stop)) run.lawful (refl, run.spent is) (λ unspent. absurd (unspent tt))
          (on_undumped tells seen moment images faults (Spent (2 ^ 62)) mounted first second first1 second1 h tt safe_run)

      wanted_alone : (way ≡ ends.Wanted) ⊎ (way ≡ ends.Alone) → (now h).dead ≡ false → way ≡ ends.Alone
      wanted_alone (inl is) alive = absurd (opposed (now h).dead (run.dead is) alive)
      wanted_alone (inr is) alive = is

      serves_run : (why : Why) (first' second' : D) (k : History) → AllLawful k.start k.entries → IsFinish tells seen moment images faults way log1 first1 second1 first' second' h k why → Serves why first' second' k
      serves_run why first' second' k lawful (IsFinish.dead dead is why_is f_is s_is) = serves_as h k NoMemory why first1 first' second1 second' is why_is f_is s_is (serves_dead dead)
      serves_run why first' second' k lawful (IsFinish.wanted alive ways is why_is f_is s_is) =
          serves_as (entered h (by 9 Died)) k NoMemory why first1 first' second1 second' is why_is f_is s_is
          (serves_alone (wanted_alone ways alive) (subst (λ (x : History). AllLawful x.start x.entries) is lawful))
      serves_run why first' second' k lawful (IsFinish.spent way_is is why_is f_is s_is) = serves_as h k (Spent (2 ^ 62)) why first1 first' second1 second' is why_is f_is s_is (serves_spent way_is)
      serves_run why first' second' k lawful (IsFinish.stopped way_is dump) =
          let stop : AllStopped way = inl way_is in
          serves_heard false why log1 first1 second1 first' second' h k (known_run why (λ x. stop)) (run.last stop 0 (first_is workers)) (stopped_over workers h.entries run.shared (run.last stop))
          (noted_there h.counted h.start h.entries run.lawful (run.last stop 0 (first_is workers)) run.marked) dump
          (λ on. run.ready stop mounted on (mount on)) run.first_later run.second_later lawful refl (run.last stop)
      serves_run why first' second' k lawful (IsFinish.deaf way_is dump) =
          let stop : AllStopped way = inr way_is in
          serves_deaf true why log1 first1 second1 first' second' h k (known_run why (λ x. stop)) (run.last stop 0 (first_is workers)) (stopped_over workers h.entries run.shared (run.last stop))
          (noted_there h.counted h.start h.entries run.lawful (run.last stop 0 (first_is workers)) run.marked) dump
          (λ on. run.ready stop mounted on (mount on)) run.first_later run.second_later lawful refl (rose_since before.links.listening listened.links.listening later.links.listening since_before (run.fault way_is))

    start_finish : (way : Way) (log1 : Option LogState) (first1 second1 first' second' : D) (h k : History) (why : Why) → IsFinish tells seen moment images faults way log1 first1 second1 first' second' h k why → k.start ≡ h.start
    start_finish way log1 first1 second1 first' second' h k why (IsFinish.dead dead is why_is f_is s_is) = ap (λ (x : History). x.start) is
    start_finish way log1 first1 second1 first' second' h k why (IsFinish.wanted alive ways is why_is f_is s_is) = ap (λ (x : History). x.start) is
    start_finish way log1 first1 second1 first' second' h k why (IsFinish.spent way_is is why_is f_is s_is) = ap (λ (x : History). x.start) is
    start_finish way log1 first1 second1 first' second' h k why (IsFinish.stopped way_is dump) = (made_of dump.answer h k dump.made).behind.longer.start
    start_finish way log1 first1 second1 first' second' h k why (IsFinish.deaf way_is dump) = (made_of dump.answer h k dump.made).behind.longer.start

    -- in the world with which it began
    pub served_whole : (why : Why) (first' second' : D) (k : History) → AllLawful k.start k.entries → HasServed tells seen moment images faults shows listened later workers why log first second first' second' world k
        → IsServed shows tells before later seen moment images faults workers port why world.start mounted mounting first second first' second' k.entries k.notes k.counted
    served_whole why first' second' k lawful x =
        subst (λ (w : World). IsServed shows tells before later seen moment images faults workers port why w mounted mounting first second first' second' k.entries k.notes k.counted)
        (start_finish x.way x.log1 x.first1 x.second1 first' second' x.h k why x.finish ∙ x.run.start)
        (serves_run x.way x.log1 x.first1 x.second1 x.h x.run why first' second' k lawful x.finish)
