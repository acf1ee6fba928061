-- The parts of a round.
use Rattle.std.proofs.Common.{true≢false, ◌≡◌, ◌⊎◌, ℕ, ℤ, ◌≤◌, Bool, true, false, List, [], ◌∷◌, ◌++◌, refl, sym, ap, ◌∙◌, subst, inl, inr, arith, Option, Some, None}
use Rattle.std.specs.Prelude.{is_some}
use Rattle.muck_io.specs.Faults.{Rose}
use Rattle.muck_links.specs.Sessions.{LinksTold, accepted, is_used}
use Rattle.muck_model.specs.declared.event.Event.{Event}
use Rattle.muck_model.specs.declared.event.Event.TheVariants.{Slice as SliceEvent, Lost, StopSeen, Died}
use Rattle.muck_model.specs.declared.note.Note.{Note}
use Rattle.spec_events.specs.World.{World}
use Rattle.spec_events.specs.Histories.{after, by_porter}
use Rattle.spec_events.specs.Logged.{logged_by, entries_of, events_of}
use Rattle.spec_events.specs.declared.logged.Logged.{Logged}
use Rattle.spec_events.specs.Own.{stage_of, IsWellFormed, IsPartyOver}
use Rattle.spec_events.proofs.Logging.{events_append}
use Rattle.spec_events.proofs.Owning.{over_stop}
use Rattle.turn_lock.specs.Histories.{own_of}
use Rattle.spec_talks.specs.Parties.{worlds_at, is_halt}
use Rattle.spec_talks.specs.Talks.{talks}
use Rattle.spec_serve.specs.Promises.{Tally, OpenWorkedOff}
use Rattle.spec_serve.specs.inner.Keeping.{Peer, new_peer}
use Rattle.spec_serve.specs.inner.Books.{BooksOf}
use Rattle.spec_serve.proofs.Booking.{books_begin, books_still, books_came}
use Rattle.spec_serve.proofs.Promising.{books_worked_off}
use Rattle.muck_work.specs.declared.Sliced.{Sliced}
use Rattle.muck_work.specs.declared.Sliced.TheVariants.{Ran, Lost as WasLost}
use Rattle.muck_work.specs.inner.Claims.{slice_event}
use Rattle.muck_work.specs.inner.Beginnings.{begun}
use Rattle.muck_peer.specs.Moves.{IsUntimed}
use Rattle.muck_work.specs.inner.Seats.{Sight, Chair, Rests}
use Rattle.muck_porter.specs.declared.deeds.Deed.{Deed}
use Rattle.muck_porter.specs.declared.deeds.Deed.TheVariants.{Open, Slice, Time, Stop, Leave, Die}
use Rattle.muck_porter.specs.declared.deeds.Did.{Did}
use Rattle.muck_porter.specs.declared.deeds.Did.TheVariants.{Done, Timed, Dead}
use Rattle.muck_porter.specs.inner.Notes.{note_in}
use Rattle.muck_porter.specs.Times.{TimedBy}
use Rattle.muck_porter.specs.inner.Kept.{tally, BooksAt, EndsWithStop, IsFree, Ready}
use Rattle.muck_porter.specs.inner.Deeds.{AllOff, DidAs}
use Rattle.muck_porter.specs.inner.Turns.{PorterTurn}
use Rattle.muck_porter.specs.inner.Moves.{Carries, CarriesOn, Tends}
use Rattle.muck_porter.specs.inner.Rounds.{HasLeft}
use Rattle.muck_porter.specs.declared.porting.Why.{Why}
use Rattle.muck_porter.specs.declared.porting.Why.TheVariants.{Fine, ListenFault, NoMemory as WhyNoMemory, Spent as WhySpent}
use Rattle.muck_porter.specs.inner.Porter.{PorterReady, HasStopped}
use Rattle.muck_porter.proofs.Items.{same_world}
use Rattle.muck_porter.proofs.Timing.{timed_fresh}
use Rattle.muck_porter.proofs.Carrying.{IsQuiet, quiet_stop, promised_in, kept_now}
use Rattle.muck_porter.proofs.Doing.{quiet_carries}

-- where a link may come

pub told_still : (b : Tally) (v : Sight) (K K' : Tally) (peers : List Peer) (coming : Option ℕ) → K'.told.sessions ≡ K.told.sessions → K.listening ≤ K'.listening → (K.told.over ≡ true → K'.told.over ≡ true)
    → BooksAt b v K peers coming → BooksAt b v K' peers coming
told_still b v K K' peers coming same more over bk u m root =
    let bi = bk u m root in
    let l = bi.later in
    record {
      nobody = bi.nobody;
      later = omega arith;
      books = books_still (note_in v.own) b (talks u (entries_of v.seen)) (worlds_at is_halt u (entries_of v.seen)) K K' peers coming same more over bi.books;
    }

pub told_same_on : (v : Sight) (k k' : LinksTold) (n n' : ℕ) (peers : List Peer) (coming : Option ℕ) → k' ≡ k → n ≤ n' → Carries v v (tally k n) (tally k' n') peers peers coming coming
told_same_on v k k' n n' peers coming same more b bk =
    told_still b v (tally k n) (tally k' n') peers coming (ap (λ (x : LinksTold). x.sessions) same) more (λ o. ap (λ (x : LinksTold). x.over) same ∙ o) bk

pub told_over : (v : Sight) (k k' : LinksTold) (n n' : ℕ) (peers : List Peer) (coming : Option ℕ) → k' ≡ record k { over = true } → n ≤ n' → Carries v v (tally k n) (tally k' n') peers peers coming coming
told_over v k k' n n' peers coming is more b bk =
    told_still b v (tally k n) (tally k' n') peers coming (ap (λ (x : LinksTold). x.sessions) is) more (λ o. ap (λ (x : LinksTold). x.over) is) bk

pub told_came : (v : Sight) (k k' : LinksTold) (n n' : ℕ) (peers : List Peer) (d : ℕ) → (k' ≡ record k { sessions = accepted d ∷ k.sessions }) × (is_used d k.sessions ≡ false) → n ≤ n' → Carries v v (tally k n) (tally k' n') peers peers None (Some d)
told_came v k k' n n' peers d came more b bk u m root =
    let bi = bk u m root in
    let l = bi.later in
    record {
      nobody = bi.nobody;
      later = omega arith;
      books = books_came (note_in v.own) b (talks u (entries_of v.seen)) (worlds_at is_halt u (entries_of v.seen)) (tally k n) (tally k' n') peers d came.0 came.1 more bi.books;
    }

-- The porter begins.

pub books_fresh : (b : Tally) (v : Sight) → v.seen ≡ [] → v.own ≡ [] → ((w : World) (m : Note) → v.root ≡ begun w m ∷ [] → w.live.board.connections ≡ []) → BooksAt b v b [] None
unfolding talks
books_fresh b v unseen none nobody u m root = record {
  nobody = nobody u m root;
  later = omega arith;
  books = subst (λ ls. BooksOf (note_in ls) b u (entries_of v.seen) b [] None) (sym none)
      (subst (λ ls. BooksOf None b u (entries_of ls) b [] None) (sym unseen) (books_begin b));
}

module _ (noted noted' : Bool) (k : LinksTold) (me me' : Chair) (w : World) (event : Event) (r : Rests 0 me') (turn : PorterTurn noted noted' k me.0 me'.0 w event) where
  -- The porter leaves, where nothing bound it before.
  module _ (ready : Ready noted me) (ps : List Peer) (did : Did) where
    left_as : did ≡ Done → DidAs Leave did noted' ps w event → (event ≡ StopSeen) × (w.stopping ≡ true) × AllOff w ps
    left_as is x = subst (λ (y : Did). DidAs Leave y noted' ps w event) is x

    pub leave_left : (n : ℕ) → did ≡ Done → DidAs Leave did noted' ps w event → HasLeft me.0 me'.0 (tally k n) (tally k n) ps
    leave_left n is x b coming bk =
        let l = left_as is x in
        let bk' = quiet_carries noted noted' k me me' w event r turn ready.resting.known n ps coming (subst IsQuiet (sym l.0) quiet_stop) b bk in (
          kept_now b me'.0 (tally k n) r.own (promised_in b me'.0 (tally k n) ps coming bk'),
          record {
            before = me.0.seen ++ turn.others;
            last = turn.item;
            entry = turn.entry ∙ ap by_porter l.0;
            seen = turn.seen;
            own = r.own;
            stopping = λ u m root. ap (λ (z : World). z.stopping) (sym (at_world u m root)) ∙ l.1;
            worked = λ u m root. subst (λ (z : World). OpenWorkedOff (note_in me'.0.own) z (talks u (entries_of me'.0.seen)) (tally k n)) (at_world u m root)
                (books_worked_off (note_in me'.0.own) b (talks u (entries_of me'.0.seen)) (worlds_at is_halt u (entries_of me'.0.seen)) (tally k n) ps coming w
                (λ i p at. l.2 i p at (note_in me'.0.own)) (bk' u m root).books);
          },
        )
      where
        at_world : (u : World) (m : Note) → me'.0.root ≡ begun u m ∷ [] → w ≡ after u (entries_of (me.0.seen ++ turn.others))
        at_world u m root = turn.world ∙ ap (λ (z : World). after z (entries_of (me.0.seen ++ turn.others))) (same_world turn.start u turn.mounting m (sym turn.root ∙ sym turn.lists.0 ∙ root))

-- A link that came.

pub came_carries : (v : Sight) (k k' : LinksTold) (n n' : ℕ) (peers : List Peer) (d : ℕ) (p : Peer) → p ≡ new_peer d → (k' ≡ record k { sessions = accepted d ∷ k.sessions }) × (is_used d k.sessions ≡ false) → n ≤ n'
    → Carries v v (tally k n) (tally k' n') peers peers None (Some p.number)
came_carries v k k' n n' peers d p is came more =
    subst (λ (x : ℕ). Carries v v (tally k n) (tally k' n') peers peers None (Some x)) (sym (ap (λ (x : Peer). x.number) is)) (told_came v k k' n n' peers d came more)

-- links that are tended
pub tended : (noted : Bool) (v : Sight) (k k' : LinksTold) (n n' : ℕ) (ps ps' : List Peer) → noted ≡ is_some (note_in v.own) → n' ≡ n → Tends noted k k' ps ps' → CarriesOn v v (tally k n) (tally k' n') ps ps'
tended noted v k k' n n' ps ps' known same t coming b bk = subst (λ (m : ℕ). BooksAt b v (tally k' m) ps' coming) (sym same) (t v b coming n (sym known) bk)

-- The porter begins.

pub free_fresh : (own : List Logged) → own ≡ [] → IsFree own
unfolding stage_of
free_fresh own is = subst IsFree (sym is) (IsFree.unbound refl)

pub own_fresh : (me : Chair) → PorterReady me → me.0.own ≡ []
own_fresh me r = r.rests.own ∙ ap (own_of logged_by 0) r.seen

pub ready_fresh : (me : Chair) → PorterReady me → Ready false me
ready_fresh me r = record {
  resting = record { rests = r.rests; known = ap (λ (ls : List Logged). is_some (note_in ls)) (sym (own_fresh me r)) };
  free = free_fresh me.0.own (own_fresh me r);
}

pub books_start : (b : Tally) (me : Chair) (ps : List Peer) → PorterReady me → ps ≡ [] → BooksAt b me.0 b ps None
books_start b me ps r none = subst (λ (l : List Peer). BooksAt b me.0 b l None) (sym none) (books_fresh b me.0 r.seen (own_fresh me r) r.nobody)

abbrev pub has_stopped : Why → Bool
has_stopped Fine = true
has_stopped ListenFault = true
has_stopped WhyNoMemory = false
has_stopped WhySpent = false

pub not_stopped : (why : Why) → has_stopped why ≡ false → HasStopped why → ⊥
not_stopped why is (inl e) = true≢false (sym (ap has_stopped e) ∙ is)
not_stopped why is (inr e) = true≢false (sym (ap has_stopped e) ∙ is)

pub timed_start : (a : Option (List ℕ)) (me : Chair) → PorterReady me → TimedBy a a me.0
timed_start a me r = timed_fresh a me.0 (own_fresh me r)

pub sliced_as : (pid : ℤ) (sliced : Sliced) → (slice_event pid sliced ≡ SliceEvent pid) ⊎ (slice_event pid sliced ≡ Lost pid)
sliced_as pid Ran = inl refl
sliced_as pid WasLost = inr refl

pub untimed_slice : (pid : ℤ) (sliced : Sliced) → IsUntimed (slice_event pid sliced)
untimed_slice pid Ran w answers = refl
untimed_slice pid WasLost w answers = refl

-- Deeds, whatever they don't depend on.

pub open_did : (did : Did) (d : ℕ) (noted : Bool) (ps : List Peer) (w : World) (event : Event) → DidAs (Open d) did noted [] w event → DidAs (Open d) did noted ps w event
open_did Dead d noted ps w event x = x
open_did Done d noted ps w event x = x
open_did Timed d noted ps w event x = x

pub slice_did : (did : Did) (pid : ℤ) (noted : Bool) (ps : List Peer) (w : World) (event : Event) → DidAs (Slice pid) did false [] w event → DidAs (Slice pid) did noted ps w event
slice_did Dead pid noted ps w event x = x
slice_did Done pid noted ps w event x = x
slice_did Timed pid noted ps w event x = x

pub stop_did : (did : Did) (noted : Bool) (ps : List Peer) (w : World) (event : Event) → DidAs Stop did false [] w event → DidAs Stop did noted ps w event
stop_did Dead noted ps w event x = x
stop_did Done noted ps w event x = x
stop_did Timed noted ps w event x = x

pub leave_did : (did : Did) (noted : Bool) (ps : List Peer) (w : World) (event : Event) → DidAs Leave did false ps w event → DidAs Leave did noted ps w event
leave_did Dead noted ps w event x = x
leave_did Done noted ps w event x = x
leave_did Timed noted ps w event x = x

pub died_did : (deed : Deed) (noted : Bool) (ps : List Peer) (w : World) → DidAs deed Dead noted ps w Died
died_did (Open d) noted ps w = refl
died_did (Slice pid) noted ps w = refl
died_did Time noted ps w = refl
died_did Stop noted ps w = refl
died_did Leave noted ps w = refl
died_did Die noted ps w = refl

-- The link that comes, by another name.

-- The porter has seen the stop: its own entries are over.
pub stop_over : (own : List Logged) → EndsWithStop own → IsWellFormed 0 (events_of own) → IsPartyOver 0 (events_of own)
stop_over own ends formed =
    let events : events_of own ≡ events_of ends.0 ++ StopSeen ∷ [] =
    ap events_of ends.2 ∙ events_append ends.0 (ends.1 ∷ []) ∙ ap (λ e. events_of ends.0 ++ e.event ∷ []) ends.3 in
    subst (IsPartyOver 0) (sym events) (over_stop 0 (events_of ends.0) (subst (IsWellFormed 0) events formed))
