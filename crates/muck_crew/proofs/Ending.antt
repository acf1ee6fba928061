-- What all parts left of the world, once the lock is closed.
use Rattle.std.proofs.Common.{◌≡◌, ◌⊎◌, inl, inr, ℕ, zero, suc, ◌<◌, ◌≤◌, ◌^◌, Bool, true, List, [], ◌∷◌, ◌++◌, length, refl, sym, ap, ◌∙◌, subst, arith, append_assoc, length-append, Option, Some}
use Rattle.std.specs.Prelude.{slice_get}
use Rattle.std.proofs.lemmas.List.{append-nil}
use mathlib.Core.Option.{some, some-ne-none, some-injective}
use lib.ListN.{get_elem?}
use Rattle.muck_laws.proofs.Numbers.{too_many}
use Rattle.muck_laws.proofs.Places.{some_at}
use Rattle.atomic_table.specs.Seated.{TableId}
use Rattle.turn_lock.specs.Histories.{StartsWith, own_of, Has, AllOf, IsKnown}
use Rattle.turn_lock.specs.declared.view.Taken.{Taken}
use Rattle.turn_lock.specs.declared.view.Place.{Place}
use Rattle.turn_lock.specs.declared.view.Place.TheVariants.{Idle, Told}
use Rattle.turn_lock.specs.inner.Turns.{kept_of, left_after, newcomer, taken_in}
use Rattle.muck_model.specs.declared.event.Entry.{Entry}
use Rattle.muck_model.specs.declared.event.Event.{Event}
use Rattle.muck_model.specs.declared.event.Event.TheVariants.{StopSeen, Died}
use Rattle.muck_model.specs.declared.note.Note.{Note}
use Rattle.muck_model.specs.declared.note.Counted.{Counted}
use Rattle.spec_dumps.specs.inner.Holding.{Quietly}
use Rattle.spec_dumps.proofs.Quiet.{safe_quiet, keeps_quiet}
use Rattle.spec_dumps.proofs.Idle.{idle_quiet}
use Rattle.spec_events.specs.declared.logged.Logged.{Logged}
use Rattle.spec_events.specs.World.{World}
use Rattle.spec_events.specs.Histories.{History, now, after, AllLawful, by_porter}
use Rattle.spec_events.specs.Logged.{logged, logged_by, entries_of, events_of, notes_of, count_from, IsSettled, IsPlaced, IsOrderly, bare_item}
use Rattle.spec_events.specs.Own.{IsWellFormed, IsPartyOver}
use Rattle.spec_events.proofs.Owning.{over_stop, over_died}
use Rattle.spec_events.proofs.Logging.{entries_logged, entries_append, events_append, notes_append, rebuilt}
use Rattle.spec_talks.specs.Talks.{talks}
use Rattle.spec_serve.specs.Marks.{LinksNote, counts_in, IsLinksNote}
use Rattle.spec_serve.specs.Promises.{PromisedOf, OpenWorkedOff}
use Rattle.muck_machine.specs.declared.beginning.Beginning.{Beginning}
use Rattle.muck_machine.specs.inner.Beginnings.{beginning, begun}
use Rattle.muck_machine.specs.inner.Seats.{Sight, Chair, AllOrderly, SameLists}
use Rattle.muck_machine.proofs.Seating.{settled_begun, others_none, others_quiet, orderly_back}
use Rattle.muck_dumper.specs.declared.Store.{Store}
use Rattle.muck_dumper.specs.inner.Between.{IsReady as HasLog, Knows}
use Rattle.muck_dumper.specs.inner.Dumping.{history_from, history_seen, DumperDone}
use Rattle.muck_dumper.proofs.StoreKnowing.{knows_quiet}
use Rattle.muck_dumper.specs.declared.dumping.Why.{Why as DumperWhy}
use Rattle.muck_dumper.specs.declared.dumping.Why.TheVariants as dumper
use Rattle.muck_worker.specs.inner.Working.{WorkerDone}
use Rattle.muck_worker.specs.declared.working.Why.TheVariants as worker
use Rattle.muck_porter.specs.inner.Notes.{note_in}
use Rattle.muck_porter.specs.inner.Kept.{Account}
use Rattle.muck_porter.specs.Times.{Timely}
use Rattle.muck_porter.proofs.Whole.{note_whole, kept_whole, timed_whole, noted_whole}
use Rattle.muck_porter.specs.inner.Porter.{PorterDone, HasStopped as PorterStopped}
use Rattle.muck_porter.specs.declared.porting.Why.{Why as PorterWhy}
use Rattle.muck_porter.specs.declared.porting.Why.TheVariants as porter
use Rattle.muck_crew.specs.declared.seats.Part.{Part}
use Rattle.muck_crew.specs.declared.serving.Way.{Way}
use Rattle.muck_crew.specs.declared.serving.Way.TheVariants.{Wanted, Spent}
use Rattle.muck_crew.specs.Shared.{IsParty, events_done_by, IsThrough, AllOver, EndsStopped, LeavesWorkedOff}
use Rattle.muck_crew.specs.inner.Parts.{given_to, AreDealt, AreOver, all_in, AreDone}
use Rattle.muck_crew.specs.inner.Runs.{IsFresh, SomeWorker, AllFine, IsEndOf, HasStopped, HasRun}
use Rattle.muck_crew.proofs.Seating.{given_low, given_count}
use Rattle.muck_crew.proofs.Closing.{done_own, own_has, has_end, has_entry, entry_at, longer_than, died_at, done_at, SameButJoined, in_same, in_count, in_has, in_kept, Begins, given_same, fresh_begun, fresh_history}

-- What the lock says of a world that is closed, and of the first seat.
pub record Shut (v : Sight) (h : History) : Type 0 where
  pub seen : StartsWith (logged h) v.seen
  pub start : beginning h ∷ [] ≡ v.root
  pub own : v.own ≡ own_of logged_by v.party (logged h)
  pub joined : (i : ℕ) (x : Taken Logged) → get_elem? v.joined i ≡ some x → Has v.given x.party × (x.own ≡ own_of logged_by x.party (logged h)) × StartsWith (logged h) x.seen
  pub known : (i : ℕ) (l : Logged) → get_elem? (logged h) i ≡ some l → IsKnown v.given (logged_by l)
  pub allowed : AllOf IsOrderly (logged h)

-- what a party did, whose items these are
pub formed_of : (p : ℕ) (h : History) (own : List Logged) → own ≡ own_of logged_by p (logged h) → IsWellFormed p (events_of own) → IsWellFormed p (events_done_by p h.entries)
formed_of p h own is formed = subst (IsWellFormed p) (ap events_of is ∙ sym (done_own p h)) formed

pub over_of : (p : ℕ) (h : History) (own : List Logged) → own ≡ own_of logged_by p (logged h) → IsPartyOver p (events_of own) → IsPartyOver p (events_done_by p h.entries)
over_of p h own is over = subst (IsPartyOver p) (ap events_of is ∙ sym (done_own p h)) over

pub stopped_of : (p : ℕ) (h : History) (own front : List Logged) (l : Logged) → own ≡ own_of logged_by p (logged h) → own ≡ front ++ l ∷ [] → l.entry.event ≡ StopSeen → EndsStopped p h.entries
stopped_of p h own front l is ends stop =
    (events_of front, done_own p h ∙ ap events_of (sym is ∙ ends) ∙ events_append front (l ∷ []) ∙ ap (λ (event : Event). events_of front ++ event ∷ []) stop)

pub dead_of : (p : ℕ) (h : History) (own front : List Logged) (l : Logged) → AllLawful h.start h.entries → own ≡ own_of logged_by p (logged h) → own ≡ front ++ l ∷ [] → l.entry.event ≡ Died → (now h).dead ≡ true
unfolding now
dead_of p h own front l lawful is ends died =
    let there : Has (own_of logged_by p (logged h)) l = subst (λ (ls : List Logged). Has ls l) (sym ends ∙ is) (has_end front l) in
    died_at h.start h.entries l.entry (subst (λ (es : List Entry). Has es l.entry) (entries_logged h) (has_entry (logged h) l (own_has p (logged h) l there))) died lawful

pub spent_of : (h : History) (seen : List Logged) → StartsWith (logged h) seen → 2 ^ 62 ≤ length seen → 2 ^ 62 ≤ length h.entries
spent_of h seen front most =
    let long = longer_than (logged h) seen front in
    let same = ap length (sym (entries_logged h)) ∙ count (logged h) in omega (arith, long, same, most)
  where
    count : (ls : List Logged) → length (entries_of ls) ≡ length ls
    count [] = refl
    count (l ∷ ls) = ap suc (count ls)

-- What the dumper did last.

dumper_cases : (why : DumperWhy) → (why ≡ dumper.Fine) ⊎ ((why ≡ dumper.NoMemory) ⊎ (why ≡ dumper.Spent))
dumper_cases dumper.Fine = inl refl
dumper_cases dumper.NoMemory = inr (inl refl)
dumper_cases dumper.Spent = inr (inr refl)

over_behind : (p : ℕ) (own front : List Logged) (l : Logged) (event : Event) → own ≡ front ++ l ∷ [] → l.entry.event ≡ event → IsWellFormed p (events_of own)
    → (IsWellFormed p (events_of front ++ event ∷ []) → IsPartyOver p (events_of front ++ event ∷ [])) → IsPartyOver p (events_of own)
over_behind p own front l event is last formed over =
    let same : events_of own ≡ events_of front ++ event ∷ [] = ap events_of is ∙ events_append front (l ∷ []) ∙ ap (λ (x : Event). events_of front ++ x ∷ []) last in
    subst (IsPartyOver p) (sym same) (over (subst (IsWellFormed p) same formed))

module _ {D : Type 0} (tells : Bool) (seen : D → List ℕ) (moment : D → ℕ) (images : D → ℕ → List ℕ → Type 0) (faults : D → ℕ) (shows : Bool) (b k : Account) (workers : ℕ) (way : Way) (pw : PorterWhy) (dw : DumperWhy)
    (store store' : Store) (f s f' s' : D) (world h : History) (m : Note) (fresh : IsFresh m world) (few : workers < 9)
    (parts parts' : List Part) (table : TableId) (v0 s2 sp o o' e : Chair) (begins : Begins v0 world)
    (e2 : s2 ≡ (left_after 9 (given_to workers v0.0), v0.1)) (eo : o ≡ (newcomer 9 (given_to workers v0.0), [])) (dealt : AreDealt table workers v0.0 parts)
    (pd : PorterDone pw shows b k s2 sp) (dd : DumperDone tells seen moment images faults dw store store' f s f' s' o o') (wd : AreDone parts parts')
    (ended : IsEndOf way pw dw parts') (ee : e ≡ (all_in parts' (taken_in sp.0 o'.0), sp.1)) (shut : Shut e.0 h) (placed : IsPlaced h) (lawful : AllLawful h.start h.entries) where
  -- the first seat
  same : SameButJoined e.0 sp.0
  same = subst (λ (u : Sight). SameButJoined u sp.0) (sym (ap (λ (c : Chair). c.0) ee))
      (let q = in_same parts' (taken_in sp.0 o'.0) in record { party = q.party; root = q.root; place = q.place; seen = q.seen; own = q.own; given = q.given })

  own0 : sp.0.own ≡ own_of logged_by 0 (logged h)
  own0 = sym same.own ∙ shut.own ∙ ap (λ (p : ℕ). own_of logged_by p (logged h)) (same.party ∙ pd.over.left.party)

  seen0 : StartsWith (logged h) sp.0.seen
  seen0 = subst (λ (ls : List Logged). StartsWith (logged h) ls) same.seen shut.seen

  root0 : beginning h ∷ [] ≡ beginning world ∷ []
  root0 = shut.start ∙ same.root ∙ pd.lists.0 ∙ ap (λ (c : Chair). c.0.root) e2 ∙ ap (λ (u : Sight). u.root) (given_same workers v0.0) ∙ begins.root

  begun0 : beginning h ≡ begun world.start m
  begun0 = first_of root0 ∙ fresh_begun m world fresh
    where
      first_of : {x y : Beginning} → ◌≡◌ {A = List Beginning} (x ∷ []) (y ∷ []) → x ≡ y
      first_of {x} {y} q = ap (λ (bs : List Beginning). or_else bs x) q
        where
          or_else : List Beginning → Beginning → Beginning
          or_else [] z = z
          or_else (z ∷ zs) y = z

  start0 : h.start ≡ world.start
  start0 = ap (λ (x : Beginning). x.world) begun0

  settled0 : IsSettled m h
  settled0 = settled_begun world.start m h begun0

  notes0 : h.notes ≡ m ∷ notes_of (logged h)
  notes0 = sym (ap (λ (x : History). x.notes) (rebuilt m h settled0 placed))

  root9 : sp.0.root ≡ begun h.start m ∷ []
  root9 = sym same.root ∙ sym shut.start ∙ ap (λ (x : Beginning). x ∷ []) (begun0 ∙ ap (λ (w : World). begun w m) (sym start0))

  -- the dumper's
  taken9 : Has e.0.joined (kept_of o'.0)
  taken9 = subst (λ (u : Sight). Has u.joined (kept_of o'.0)) (sym (ap (λ (c : Chair). c.0) ee)) (in_has parts' (taken_in sp.0 o'.0) (kept_of o'.0) (has_end sp.0.joined (kept_of o'.0)))

  own9 : o'.0.own ≡ own_of logged_by 9 (logged h)
  own9 = (shut.joined taken9.0 (kept_of o'.0) taken9.1).1 ∙ ap (λ (p : ℕ). own_of logged_by p (logged h)) dd.left.party

  seen9 : StartsWith (logged h) o'.0.seen
  seen9 = (shut.joined taken9.0 (kept_of o'.0) taken9.1).2

  -- a worker's
  pub record Worked (i : ℕ) (p' : Part) : Type 0 where
    pub own : p'.seat.me.0.own ≡ own_of logged_by (suc i) (logged h)
    pub saw : StartsWith (logged h) p'.seat.me.0.seen
    pub part : Part
    pub done : WorkerDone p'.why (suc i) part.seat.me p'.seat.me

  worked : (i : ℕ) (p' : Part) → slice_get parts' i ≡ Some p' → Worked i p'
  worked i p' at =
      let was = done_at table workers v0.0 parts parts' dealt wd i p' at in
      let there : Has e.0.joined (kept_of p'.seat.me.0) = subst (λ (u : Sight). Has u.joined (kept_of p'.seat.me.0)) (sym (ap (λ (c : Chair). c.0) ee)) (in_kept parts' (taken_in sp.0 o'.0) i p' at) in
      let facts = shut.joined there.0 (kept_of p'.seat.me.0) there.1 in
      let done : WorkerDone p'.why (suc i) was.part.seat.me p'.seat.me = subst (λ (n : ℕ). WorkerDone p'.why n was.part.seat.me p'.seat.me) was.dealt.number was.done.2 in
      record { own = facts.1 ∙ ap (λ (p : ℕ). own_of logged_by p (logged h)) done.left.party; saw = facts.2; part = was.part; done = done }

  -- whose each entry is
  parties : (i : ℕ) (x : Entry) → slice_get h.entries i ≡ Some x → IsParty workers x.party
  parties i x at =
      let l = entry_at (logged h) i x (ap (λ (es : List Entry). slice_get es i) (entries_logged h) ∙ at) in
      from x.party (subst (λ (y : Entry). IsKnown e.0.given y.party) l.2 (shut.known i l.0 l.1))
    where
      given0 : e.0.given ≡ (given_to workers v0.0).given ++ 9 ∷ []
      given0 = same.given ∙ pd.lists.1 ∙ ap (λ (c : Chair). c.0.given) e2

      last_or : (ps : List ℕ) (q r : ℕ) (j : ℕ) → get_elem? (ps ++ q ∷ []) j ≡ some r → (q ≡ r) ⊎ Has ps r
      last_or [] q r zero is = inl (some-injective q r is)
      last_or [] q r (suc j) is = absurd (some-ne-none r (sym is))
      last_or (y ∷ ys) q r zero is = inr (0, is)
      last_or (y ∷ ys) q r (suc j) is = elim (last_or ys q r j is) [ inl z ↦ inl z | inr z ↦ inr (suc z.0, z.1) ]

      from : (p : ℕ) → IsKnown e.0.given p → IsParty workers p
      from p (inl zero_is) = inl (subst (λ (q : ℕ). q ≤ workers) (sym zero_is) (omega arith))
      from p (inr there) =
          let has = subst (λ (ps : List ℕ). Has ps p) given0 there in
          elim (last_or (given_to workers v0.0).given 9 p has.0 has.1) [ inl nine ↦ inr (sym nine) | inr low ↦ inl (given_low workers v0.0 p begins.ungiven low).1 ]

  -- a party of the workers has its part
  part_of : (i : ℕ) → suc i ≤ workers → (p' : Part) × (slice_get parts' i ≡ Some p')
  part_of i low = let count = dealt.count in let long = wd.same in some_at parts' i (omega (arith, low, count, long))

  owns : (party : ℕ) → IsParty workers party → IsWellFormed party (events_done_by party h.entries)
  owns zero is = formed_of 0 h sp.0.own own0 pd.over.formed
  owns (suc i) (inl low) = let p' = part_of i low in let one = worked i p'.0 p'.1 in formed_of (suc i) h p'.0.seat.me.0.own one.own one.done.formed
  owns (suc i) (inr nine) = subst (λ (p : ℕ). IsWellFormed p (events_done_by p h.entries)) (sym nine) (formed_of 9 h o'.0.own own9 dd.formed)

  over9 : length h.entries < 2 ^ 62 → IsPartyOver 9 (events_of o'.0.own)
  over9 few = elim (dumper_cases dw) [
    | inl fine ↦ (let q = dd.fine fine in over_behind 9 o'.0.own q.0 q.1 StopSeen q.2 (ap (λ (x : Entry). x.event) q.3) dd.formed (over_stop 9 (events_of q.0)))
    | inr rest ↦ elim rest [
      | inl dead ↦ (let q = dd.dead dead in over_behind 9 o'.0.own q.0 q.1 Died q.2 (ap (λ (x : Entry). x.event) q.3) dd.formed (over_died 9 (events_of q.0)))
      | inr spent ↦ absurd (too_many few (spent_of h o'.0.seen seen9 (dd.spent spent)))
    ]
  ]

  -- but where all turns were had, what each of them did is over
  overs : length h.entries < 2 ^ 62 → AllOver workers h.entries
  overs few zero is = inr (over_of 0 h sp.0.own own0 (pd.ended (λ e. too_many few (spent_of h sp.0.seen seen0 (pd.spent e)))))
  overs few (suc i) (inl low) =
      let p' = part_of i low in
      let one = worked i p'.0 p'.1 in
      inr (over_of (suc i) h p'.0.seat.me.0.own one.own (one.done.over (λ e. too_many few (spent_of h p'.0.seat.me.0.seen one.saw (one.done.spent e)))))
  overs few (suc i) (inr nine) =
      subst (λ (p : ℕ). IsThrough p h.entries) (sym nine) (inr (over_of 9 h o'.0.own own9 (over9 few)))

  -- who has seen the stop
  record AllStopped : Type 0 where
    pub porter_too : PorterStopped pw
    pub dumper_too : dw ≡ dumper.Fine
    pub workers_too : AllFine parts'

  all_stopped : HasStopped way → AllStopped
  all_stopped (inl is) = let x = subst (λ (y : Way). IsEndOf y pw dw parts') is ended in record { porter_too = inl x.0; dumper_too = x.1; workers_too = x.2 }
  all_stopped (inr is) = let x = subst (λ (y : Way). IsEndOf y pw dw parts') is ended in record { porter_too = inr x.0; dumper_too = x.1; workers_too = x.2 }

  last9 : dw ≡ dumper.Fine → EndsStopped 9 h.entries
  last9 fine = let q = dd.fine fine in stopped_of 9 h o'.0.own q.0 q.1 own9 q.2 (ap (λ (x : Entry). x.event) q.3)

  lasts : HasStopped way → (party : ℕ) → IsParty workers party → EndsStopped party h.entries
  lasts stop zero is = let all = all_stopped stop in let q = pd.last all.porter_too in stopped_of 0 h sp.0.own q.0 q.1 own0 q.2 (ap (λ (x : Entry). x.event) q.3)
  lasts stop (suc i) (inl low) =
      let all = all_stopped stop in
      let p' = part_of i low in
      let one = worked i p'.0 p'.1 in
      let q = one.done.fine (all.workers_too i p'.0 p'.1) in
      stopped_of (suc i) h p'.0.seat.me.0.own q.0 (bare_item (record { party = suc i; event = StopSeen })) one.own q.1 refl
  lasts stop (suc i) (inr nine) = subst (λ (p : ℕ). EndsStopped p h.entries) (sym nine) (last9 (all_stopped stop).dumper_too)

  dead_by : way ≡ Wanted → (now h).dead ≡ true
  dead_by is = from (subst (λ (y : Way). IsEndOf y pw dw parts') is ended)
    where
      from : (dw ≡ dumper.NoMemory) ⊎ SomeWorker worker.NoMemory parts' → (now h).dead ≡ true
      from (inl d) = let q = dd.dead d in dead_of 9 h o'.0.own q.0 q.1 lawful own9 q.2 (ap (λ (x : Entry). x.event) q.3)
      from (inr (i, p', at, why)) =
          let one = worked i p' at in
          let q = one.done.dead why in
          dead_of (suc i) h p'.seat.me.0.own q.0 (bare_item (record { party = suc i; event = Died })) lawful one.own q.1 refl

  spent_by : way ≡ Spent → 2 ^ 62 ≤ length h.entries
  spent_by is = from (subst (λ (y : Way). IsEndOf y pw dw parts') is ended)
    where
      from : (pw ≡ porter.Spent) ⊎ ((dw ≡ dumper.Spent) ⊎ SomeWorker worker.Spent parts') → 2 ^ 62 ≤ length h.entries
      from (inl p) = spent_of h sp.0.seen seen0 (pd.spent p)
      from (inr (inl d)) = spent_of h o'.0.seen seen9 (dd.spent d)
      from (inr (inr (i, p', at, why))) = let one = worked i p' at in spent_of h p'.seat.me.0.seen one.saw (one.done.spent why)

  -- What others made since the dumper's last turn is no dump.

  known9 : StartsWith (logged h) dd.known
  known9 = let a = seen9 in let c = dd.knows.front in (c.0 ++ a.0, a.1 ∙ ap (λ (ls : List Logged). ls ++ a.0) c.1 ∙ append_assoc dd.known c.0 a.0)

  quiet9 : Quietly (history_from o'.0.root dd.known) h
  quiet9 =
      let rest = known9.0 in
      let none : own_of logged_by 9 rest ≡ [] = others_none 9 dd.known rest (sym (ap (own_of logged_by 9) known9.1) ∙ sym own9 ∙ dd.knows.mine) in
      let orderly : AllOrderly rest = orderly_back dd.known rest (subst AllOrderly known9.1 shut.allowed) in
      let q = others_quiet rest orderly none in
      subst (λ (bs : List Beginning). Quietly (history_from bs dd.known) h) (sym root9')
      (record {
        entries = entries_of rest;
        grew = record {
          start = refl;
          entries = sym (entries_logged h) ∙ ap entries_of known9.1 ∙ entries_append dd.known rest;
          notes = notes0 ∙ ap (λ (ns : List Note). m ∷ ns) (ap notes_of known9.1 ∙ notes_append dd.known rest ∙ ap (λ (ns : List Note). notes_of dd.known ++ ns) q.1 ∙ append-nil (notes_of dd.known));
        };
        none = q.0;
      })
    where
      root9' : o'.0.root ≡ begun h.start m ∷ []
      root9' = dd.lists.0 ∙ ap (λ (c : Chair). c.0.root) eo ∙ ap (λ (u : Sight). u.root) (given_same workers v0.0) ∙ begins.root ∙ sym root0 ∙ ap (λ (x : Beginning). x ∷ []) (begun0 ∙ ap (λ (w : World). begun w m) (sym start0))

  seen_world : history_seen o.0 ≡ world
  seen_world =
      ap (λ (bs : List Beginning). history_from bs o.0.seen) (ap (λ (c : Chair). c.0.root) eo ∙ ap (λ (u : Sight). u.root) (given_same workers v0.0) ∙ begins.root)
      ∙ ap (history_from (beginning world ∷ [])) (ap (λ (c : Chair). c.0.seen) eo ∙ ap (λ (u : Sight). u.seen) (given_same workers v0.0) ∙ begins.unseen)
      ∙ fresh_history m world fresh

  began : (mounted : ℕ) → HasLog seen moment images faults store.log f s mounted world → HasLog seen moment images faults store.log f s mounted (history_seen o.0)
  began mounted x = subst (λ (y : History). HasLog seen moment images faults store.log f s mounted y) (sym seen_world) x

  pub stands : HasStopped way → Knows store' h
  stands stop = knows_quiet store' (history_from o'.0.root dd.known) h quiet9 (dd.stands (all_stopped stop).dumper_too)

  -- The note of the links.

  counted0 : h.counted ≡ count_from 0 (logged h)
  counted0 = sym (ap (λ (x : History). x.counted) (rebuilt m h settled0 placed))

  noted0 : note_in sp.0.own ≡ counts_in h.counted
  noted0 = ap note_in own0 ∙ sym (note_whole (logged h) shut.allowed) ∙ ap counts_in (sym counted0)

  links_note : IsLinksNote h.counted h.start h.entries
  links_note =
      subst (λ (c : Option Counted). IsLinksNote c h.start h.entries) (sym counted0)
      (subst (λ (es : List Entry). IsLinksNote (count_from 0 (logged h)) h.start es) (entries_logged h) (noted_whole b.answers k.answers sp.0 h.start m (logged h) root9 seen0 own0 shut.allowed pd.timed))

  -- What the links carried.

  lawful_logged : AllLawful h.start (entries_of (logged h))
  lawful_logged = subst (AllLawful h.start) (sym (entries_logged h)) lawful

  promise : shows ≡ true → PromisedOf (counts_in h.counted) b.links h.start h.entries k.links
  promise x =
      subst (λ (c : LinksNote). PromisedOf c b.links h.start h.entries k.links) noted0
      (subst (λ (es : List Entry). PromisedOf (note_in sp.0.own) b.links h.start es k.links) (entries_logged h)
      (kept_whole b.links sp.0 k.links h.start m (logged h) root9 seen0 own0 lawful_logged (pd.kept x)))

  by_clock : Timely b.answers k.answers h.start h.entries
  by_clock = subst (Timely b.answers k.answers h.start) (entries_logged h) (timed_whole b.answers k.answers sp.0 h.start m (logged h) root9 seen0 own0 lawful_logged pd.timed)

  off_own : shows ≡ true → HasStopped way → LeavesWorkedOff (note_in sp.0.own) h.start h.entries k.links
  off_own x stop =
      let q = pd.stopped (all_stopped stop).porter_too x in
      let seen_is : entries_of sp.0.seen ≡ entries_of q.before ++ by_porter StopSeen ∷ [] = ap entries_of q.seen ∙ entries_append q.before (q.last ∷ []) ∙ ap (λ (y : Entry). entries_of q.before ++ y ∷ []) q.entry in (
        entries_of q.before,
        entries_of seen0.0,
        sym (entries_logged h) ∙ ap entries_of seen0.1 ∙ entries_append sp.0.seen seen0.0 ∙ ap (λ (es : List Entry). es ++ entries_of seen0.0) seen_is ∙ append_assoc (entries_of q.before) (by_porter StopSeen ∷ []) (entries_of seen0.0),
        subst (λ (es : List Entry). OpenWorkedOff (note_in sp.0.own) (after h.start (entries_of q.before)) (talks h.start es) k.links) seen_is (q.worked h.start m root9),
      )

  off : shows ≡ true → HasStopped way → LeavesWorkedOff (counts_in h.counted) h.start h.entries k.links
  off x stop =
      subst (λ (c : LinksNote). LeavesWorkedOff c h.start h.entries k.links) noted0 (off_own x stop)

  pub has_run : HasRun tells seen moment images faults shows b k workers way store.log store'.log f s f' s' world h
  has_run = record {
    start = start0;
    since = notes_of (logged h);
    noted = notes0 ∙ ap (λ (ns : List Note). ns ++ notes_of (logged h)) (sym fresh.notes);
    placed = placed;
    lawful = lawful;
    shared = record { known = parties; own = owns };
    over = overs;
    marked = links_note;
    promised = promise;
    ports = pd.ports;
    timely = by_clock;
    worked_off = off;
    last = lasts;
    fault = λ is. let x = subst (λ (y : Way). IsEndOf y pw dw parts') is ended in pd.fault x.0;
    later = pd.later;
    dead = dead_by;
    alone = λ is. let x = subst (λ (y : Way). IsEndOf y pw dw parts') is ended in last9 x.0;
    spent = spent_by;
    safe = λ mounted x log_is. safe_quiet moment images faults f' s' mounted (history_from o'.0.root dd.known) h quiet9 (dd.safe mounted x (began mounted log_is));
    ready = λ stop mounted x log_is. keeps_quiet seen moment images faults store'.log f' s' mounted (history_from o'.0.root dd.known) h quiet9 (dd.ready (all_stopped stop).dumper_too mounted x (began mounted log_is)).keeps;
    idle = λ stop. idle_quiet (history_from o'.0.root dd.known) h quiet9 (dd.idle (all_stopped stop).dumper_too);
    first_later = dd.first_later;
    second_later = dd.second_later;
  }

-- all workers' seats may be taken in
pub over_done : (table lock : TableId) (n : ℕ) (v : Sight) (parts parts' : List Part) → table ≡ lock → AreDealt table n v parts → AreDone parts parts' → AreOver lock parts'
over_done table lock n v parts parts' is dealt done i p' at =
    let was = done_at table n v parts parts' dealt done i p' at in
    (was.done.1 ∙ was.dealt.lock ∙ is, was.done.2.left.free, was.done.2.left.over)

-- then all seats are taken in
pub all_taken : (workers : ℕ) (parts parts' : List Part) (table : TableId) (v0 s2 sp e : Chair) (o' : Sight) → v0.0.given ≡ [] → v0.0.joined ≡ [] → s2 ≡ (left_after 9 (given_to workers v0.0), v0.1)
    → AreDealt table workers v0.0 parts → AreDone parts parts' → SameLists s2.0 sp.0 → e ≡ (all_in parts' (taken_in sp.0 o'), sp.1) → length e.0.joined ≡ length e.0.given
all_taken workers parts parts' table v0 s2 sp e o' ungiven unjoined e2 dealt done lists ee =
    let whole : e.0 ≡ all_in parts' (taken_in sp.0 o') = ap (λ (c : Chair). c.0) ee in
    let j1 = ap (λ (u : Sight). length u.joined) whole in
    let j2 = in_count parts' (taken_in sp.0 o') in
    let j3 = length-append sp.0.joined (kept_of o' ∷ []) in
    let j4 : length sp.0.joined ≡ 0 = ap length (lists.2 ∙ ap (λ (c : Chair). c.0.joined) e2 ∙ ap (λ (u : Sight). u.joined) (given_same workers v0.0) ∙ unjoined) in
    let g1 = ap length (ap (λ (u : Sight). u.given) whole ∙ (in_same parts' (taken_in sp.0 o')).given ∙ lists.1 ∙ ap (λ (c : Chair). c.0.given) e2) in
    let g2 = length-append (given_to workers v0.0).given (9 ∷ []) in
    let g3 = given_count workers v0.0 ungiven in
    let p1 = done.same in
    let p2 = dealt.count in
    omega (arith, j1, j2, j3, j4, g1, g2, g3, p1, p2)

-- as it stands then
pub last_place : (parts' : List Part) (sp e : Chair) (o' : Sight) → e ≡ (all_in parts' (taken_in sp.0 o'), sp.1) → (sp.0.place ≡ Idle) ⊎ (sp.0.place ≡ Told) → (e.0.place ≡ Idle) ⊎ (e.0.place ≡ Told)
last_place parts' sp e o' ee over = subst (λ (p : Place). (p ≡ Idle) ⊎ (p ≡ Told)) (sym (ap (λ (c : Chair). c.0.place) ee ∙ (in_same parts' (taken_in sp.0 o')).place)) over
