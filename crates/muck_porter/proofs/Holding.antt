-- A hold of the porter, at its desk.
use Rattle.std.proofs.Common.{◌≡◌, ℕ, ℤ, ◌≤◌, Bool, true, false, List, [], ◌∷◌, ◌++◌, ◌^◌, length, refl, sym, ap, ◌∙◌, subst, inl, inr, arith, Option, Some, None}
use Rattle.atomic_table.specs.Seated.{TableId}
use Rattle.muck_links.specs.Sessions.{LinksTold}
use Rattle.muck_model.specs.declared.event.Event.{Event}
use Rattle.muck_model.specs.declared.event.Event.TheVariants.{Opened, Exec, Claim, Slice as SliceEvent, Lost, Idle as IdleEvent, Halt, StopSeen, Died}
use Rattle.spec_events.specs.World.{World}
use Rattle.spec_events.specs.Histories.{by_porter}
use Rattle.spec_events.specs.Logged.{events_of}
use Rattle.spec_events.specs.Own.{Stage, next_stage, IsWellFormed}
use Rattle.spec_events.proofs.Owning.{over_with}
use Rattle.spec_serve.specs.Promises.{Tally}
use Rattle.spec_serve.specs.inner.Keeping.{Peer}
use Rattle.muck_work.specs.inner.Seats.{Chair, Rests, Left as LeftSeat, Waited}
use Rattle.muck_peer.specs.Moves.{Clocked}
use Rattle.muck_work.specs.declared.jobs.Job.TheVariants.{Line, Claim as JobClaim, Idle as JobIdle, Died as JobDied}
use Rattle.muck_porter.specs.declared.desk.Fault.TheVariants.{NoMemory, Spent}
use Rattle.muck_porter.specs.declared.deeds.Deed.{Deed}
use Rattle.muck_porter.specs.declared.deeds.Deed.TheVariants.{Open, Slice, Time, Stop, Leave, Die}
use Rattle.muck_porter.specs.declared.deeds.Did.{Did}
use Rattle.muck_porter.specs.declared.deeds.Did.TheVariants.{Done, Timed, Dead}
use Rattle.muck_porter.specs.declared.deeds.Worked.{Worked}
use Rattle.muck_porter.specs.declared.deeds.Worked.TheVariants.{Did as DidJob, Waits, Ready as WorkReady}
use Rattle.muck_porter.specs.inner.Kept.{tally, IsAt, IsFree, Resting, Ready, ReadyTimed, BooksAt}
use Rattle.muck_porter.specs.inner.Deeds.{IsMoment, WorkedAs, DidAs}
use Rattle.muck_porter.specs.inner.Turns.{PorterTurn}
use Rattle.muck_porter.specs.inner.Moves.{Carries, MayHalt, LastEntry, ClaimAt, number_in, IsNew}
use Rattle.muck_porter.specs.inner.Desks.{Stand, Far, Sits, Stands, Booked, Books, Goes}
use Rattle.muck_porter.specs.inner.Reaches.{deed_reach, settled_as, work_far, MayStop, MayDo, EndsLast}
use Rattle.muck_porter.proofs.Timing.{timed_waited, timed_turned}
use Rattle.muck_porter.proofs.Stages.{stage_item, stage_free, same_claim, formed_at, formed_free}
use Rattle.muck_porter.proofs.Carrying.{IsQuiet, carries_opened, carries_halted}
use Rattle.muck_porter.proofs.Doing.{over_at, over_waited, ends_waited, last_waited, turn_resting, moment_ready, moment_carries, quiet_carries, died_last, died_ends, timed_ready}
use Rattle.muck_porter.proofs.InRounds.{leave_left}

-- What a deed asks for.

pub may_sits : (deed : Deed) (d : Stand) → MayDo deed d → Sits d
may_sits (Slice pid) d may = may.0
may_sits Stop d may = may.0.0
may_sits Time d may = may.0
may_sits Leave d may = may.0
may_sits Die d may = may.0
may_sits (Open n) d may = absurd may

pub may_resting : (deed : Deed) (d : Stand) → MayDo deed d → Resting d.noted d.me
may_resting (Slice pid) d may = may.1
may_resting Stop d may = may.0.1.resting
may_resting Time d may = may.1.resting
may_resting Leave d may = may.1.resting
may_resting Die d may = may.1.resting
may_resting (Open n) d may = absurd may

may_formed : (deed : Deed) (d : Stand) → MayDo deed d → IsWellFormed 0 (events_of d.me.0.own)
may_formed (Slice pid) d may = formed_at d.me.0.own (Stage.claimed pid) may.3
may_formed Stop d may = formed_free d.me.0.own may.0.1.free
may_formed Time d may = formed_free d.me.0.own may.1.free
may_formed Leave d may = formed_free d.me.0.own may.1.free
may_formed Die d may = formed_free d.me.0.own may.1.free
may_formed (Open n) d may = absurd may

pub may_claim : (deed : Deed) (d : Stand) → MayDo deed d → ClaimAt deed d.me.0
may_claim (Slice pid) d may = may.2
may_claim Stop d may = tt
may_claim Time d may = tt
may_claim Leave d may = tt
may_claim Die d may = tt
may_claim (Open n) d may = absurd may

-- All turns were had.
module _ (d : Stand) (me' : Chair) (table' : TableId) (id' : ℕ) (noted' : Bool) (peers' : List Peer) (coming' : Option Peer)
    (resting : Resting d.noted d.me) (formed : IsWellFormed 0 (events_of d.me.0.own)) (own : (table' ≡ d.seat_table) × (id' ≡ d.seat_id)) (waited : Waited d.me.0 me'.0)
    (left : LeftSeat 0 me' × (2 ^ 62 ≤ length me'.0.seen)) where
  pub spent_goes : Goes (Far.ended Spent) d (record d { seat_table = table'; seat_id = id'; me = me'; noted = noted'; peers = peers'; coming = coming' })
  spent_goes = record {
    names = (refl, refl, refl);
    own = (refl, own.0, own.1);
    lists = (waited.5, waited.3, waited.4);
    time = timed_waited d.answers d.me.0 me'.0 waited;
    tells = refl;
    later = omega arith;
    broke = λ e. inl e;
    ports = λ t. refl;
    stands = (over_waited d.me me' left.0 waited formed, left.1);
    books = λ t b bk. ends_waited d.me me' d.told d.listening d.peers (number_in d.coming) resting.rests waited b bk.books;
  }

pub spent_deed : (deed : Deed) (d : Stand) (me' : Chair) (table' : TableId) (id' : ℕ) (noted' : Bool) → MayDo deed d → (table' ≡ d.seat_table) × (id' ≡ d.seat_id) → Waited d.me.0 me'.0
    → LeftSeat 0 me' × (2 ^ 62 ≤ length me'.0.seen) → Goes (Far.ended Spent) d (record d { seat_table = table'; seat_id = id'; me = me'; noted = noted' })
spent_deed deed d me' table' id' noted' may own waited left =
    spent_goes d me' table' id' noted' d.peers d.coming (may_resting deed d may) (may_formed deed d may) own waited left

pub spent_last : (deed : Deed) (d d' : Stand) → MayDo deed d → Waited d.me.0 d'.me.0 → d'.told ≡ d.told → d'.listening ≡ d.listening → EndsLast deed d d'
spent_last Die d d' may waited told listening =
    subst (λ (k : LinksTold). LastEntry (tally d.told d.listening) (tally k d'.listening) d.me.0 d'.me.0) (sym told)
    (subst (λ (n : ℕ). LastEntry (tally d.told d.listening) (tally d.told n) d.me.0 d'.me.0) (sym listening)
    (last_waited d.me d'.me d.told d.listening may.1.resting.rests waited))
spent_last (Slice pid) d d' may waited told listening = tt
spent_last Stop d d' may waited told listening = tt
spent_last Time d d' may waited told listening = tt
spent_last Leave d d' may waited told listening = tt
spent_last (Open n) d d' may waited told listening = tt

-- A turn was had, and this was entered.
module _ (d : Stand) (me' : Chair) (table' : TableId) (id' : ℕ) (noted' : Bool) (answers' : Option (List ℕ)) (w : World) (event : Event)
    (sits : Sits d) (resting : Resting d.noted d.me) (own : (table' ≡ d.seat_table) × (id' ≡ d.seat_id))
    (taken : Rests 0 me' × PorterTurn d.noted noted' d.told d.me.0 me'.0 w event) (clocked : Clocked d.answers answers' w event) where
  -- the desk behind it, with what else became of the links and of what is kept
  abbrev pub held_with : Bool → LinksTold → ℕ → List Peer → Option Peer → Stand
  held_with tells' told' listening' peers' coming' = record d {
    seat_table = table';
    seat_id = id';
    me = me';
    noted = noted';
    answers = answers';
    tells = tells';
    told = told';
    listening = listening';
    peers = peers';
    coming = coming';
  }

  abbrev pub held : Stand
  held = held_with d.tells d.told d.listening d.peers d.coming

  pub turn_goes : (far : Far) (tells' : Bool) (told' : LinksTold) (listening' : ℕ) (peers' : List Peer) (coming' : Option Peer) → tells' ≡ d.tells → listening' ≡ d.listening → (d.tells ≡ true → told'.ports ≡ d.told.ports)
      → Stands far (held_with tells' told' listening' peers' coming') → (d.tells ≡ true → (b : Tally) → Booked b d → Books far b (held_with tells' told' listening' peers' coming'))
      → Goes far d (held_with tells' told' listening' peers' coming')
  turn_goes far tells' told' listening' peers' coming' tells listening ports stands books = record {
    names = (refl, refl, refl);
    own = (refl, own.0, own.1);
    lists = taken.1.lists;
    time = timed_turned d.noted noted' d.told d.answers answers' d.me me' w event resting taken.0 taken.1 clocked;
    tells = tells;
    later = omega arith;
    broke = λ e. inl e;
    ports = ports;
    stands = stands;
    books = books;
  }

  goes_held : (far : Far) → Stands far held → (d.tells ≡ true → (b : Tally) → Booked b d → Books far b held) → Goes far d held
  goes_held far stands books = turn_goes far d.tells d.told d.listening d.peers d.coming refl refl (λ t. refl) stands books

  pub sits_held : Sits held
  sits_held = (own.0 ∙ sits.0, sits.1)

  pub resting_held : Resting noted' me'
  resting_held = turn_resting d.noted noted' d.told d.me me' w event taken.0 taken.1 resting.known

  pub at_stage : (e : Event) (stage later : Stage) → event ≡ e → IsAt stage d.me.0.own → next_stage 0 stage e ≡ Some later → IsAt later me'.0.own
  at_stage e stage later is at may = stage_item d.me.0.own me'.0.own taken.1.item e stage later taken.1.own (taken.1.entry ∙ ap by_porter is) at may

  pub at_free : (e : Event) (later : Stage) → event ≡ e → IsFree d.me.0.own → next_stage 0 Stage.unbound e ≡ Some later → next_stage 0 Stage.timed e ≡ Some later → IsAt later me'.0.own
  at_free e later is free u t = stage_free d.me.0.own me'.0.own taken.1.item taken.1.own e later (taken.1.entry ∙ ap by_porter is) free u t

  pub ready_at : IsAt Stage.unbound me'.0.own → Ready noted' me'
  ready_at at = record { resting = resting_held; free = IsFree.unbound at }

  booked : Carries d.me.0 me'.0 (tally d.told d.listening) (tally d.told d.listening) d.peers d.peers (number_in d.coming) (number_in d.coming) → (b : Tally) → Booked b d → Booked b held
  booked carries b bk = record { since = bk.since; broke = bk.broke; books = carries b bk.books }

  quiet : IsQuiet event → (b : Tally) → Booked b d → Booked b held
  quiet q b bk = booked (quiet_carries d.noted noted' d.told d.me me' w event taken.0 taken.1 resting.known d.listening d.peers (number_in d.coming) q) b bk

  unseen : (e : Event) → event ≡ e → IsQuiet e → (b : Tally) → Booked b d → Booked b held
  unseen e is q b bk = quiet (subst IsQuiet (sym is) q) b bk

  -- a moment was entered
  pub moment_goes : IsFree d.me.0.own → IsMoment event → Goes Far.timed d held
  moment_goes free is = goes_held Far.timed (sits_held, moment_ready d.noted noted' d.told d.me me' w event taken.0 taken.1 resting.known free is)
      (λ t b bk. booked (moment_carries d.noted noted' d.told d.me me' w event taken.0 taken.1 resting.known d.listening d.peers (number_in d.coming) is) b bk)

  moment_free : IsFree d.me.0.own → IsMoment event → Goes Far.free d held
  moment_free free is = goes_held Far.free (sits_held, timed_ready noted' me' (moment_ready d.noted noted' d.told d.me me' w event taken.0 taken.1 resting.known free is))
      (λ t b bk. booked (moment_carries d.noted noted' d.told d.me me' w event taken.0 taken.1 resting.known d.listening d.peers (number_in d.coming) is) b bk)

  -- memory was wanted
  pub died_goes : (peers' : List Peer) (coming' : Option Peer) → IsAt Stage.ended me'.0.own → event ≡ Died → Goes (Far.ended NoMemory) d (held_with d.tells d.told d.listening peers' coming')
  died_goes peers' coming' at is = turn_goes (Far.ended NoMemory) d.tells d.told d.listening peers' coming' refl refl (λ t. refl)
      (over_at me' Stage.ended taken.0 at, over_with 0 (events_of me'.0.own) Stage.ended at refl)
      (λ t b bk. died_ends d.noted noted' d.told d.me me' w event taken.0 taken.1 resting.known d.listening d.peers (number_in d.coming) is b bk.books)

  pub died_free : (peers' : List Peer) (coming' : Option Peer) → IsFree d.me.0.own → event ≡ Died → Goes (Far.ended NoMemory) d (held_with d.tells d.told d.listening peers' coming')
  died_free peers' coming' free is = died_goes peers' coming' (at_free Died Stage.ended is free refl refl) is

  -- A turn of work, at once behind a moment.
  pub work_goes : ReadyTimed d.noted d.me → (worked : Worked) → WorkedAs worked event → Goes (work_far worked) d held
  work_goes timed (DidJob Line) x = goes_held Far.free (sits_held, ready_at (at_stage (Exec x.0) Stage.timed Stage.unbound x.1 timed.timed refl)) (λ t. unseen (Exec x.0) x.1 (record { halts = refl; talked = λ v ts. refl }))
  work_goes timed (DidJob (JobClaim pid)) x = goes_held (Far.claimed pid)
      (sits_held, resting_held, (d.me.0.seen ++ taken.1.others, taken.1.item, taken.1.seen, taken.1.entry ∙ ap by_porter x), at_stage (Claim pid) Stage.timed (Stage.claimed pid) x timed.timed refl)
      (λ t. unseen (Claim pid) x (record { halts = refl; talked = λ v ts. refl }))
  work_goes timed (DidJob JobIdle) x = goes_held Far.free (sits_held, ready_at (at_stage IdleEvent Stage.timed Stage.unbound x timed.timed refl)) (λ t. unseen IdleEvent x (record { halts = refl; talked = λ v ts. refl }))
  work_goes timed Waits x = moment_free (IsFree.timed timed.timed) x
  work_goes timed WorkReady x = moment_free (IsFree.timed timed.timed) x
  work_goes timed (DidJob JobDied) x = died_goes d.peers d.coming (at_stage Died Stage.timed Stage.ended x timed.timed refl) x

  -- Deeds.

  halted : Ready d.noted d.me → (d.tells ≡ true → MayStop d) → event ≡ Halt → d.tells ≡ true → (b : Tally) → Booked b d → Booked b held
  halted ready may is t b bk = record {
    since = bk.since;
    broke = bk.broke;
    books = carries_halted d.noted noted' d.told d.me.0 me'.0 w event taken.1 resting.known b d.listening d.peers (number_in d.coming) is (λ l. cause (may t)) bk.books;
  }
    where
      cause : MayStop d → MayHalt b (tally d.told d.listening) d.peers
      cause (inl e) = inl (bk.broke e)
      cause (inr x) = inr x

  slice_at : (pid : ℤ) (e : Event) → event ≡ e → IsAt (Stage.claimed pid) d.me.0.own → next_stage 0 (Stage.claimed pid) e ≡ Some Stage.unbound → IsQuiet e → Goes Far.free d held
  slice_at pid e is at may q = goes_held Far.free (sits_held, ready_at (at_stage e (Stage.claimed pid) Stage.unbound is at may)) (λ t. unseen e is q)

  left_goes : Ready d.noted d.me → DidAs Leave Done noted' d.peers w event → Goes Far.left d held
  left_goes ready x = goes_held Far.left
      ((d.me.0.own, taken.1.item, taken.1.own, taken.1.entry ∙ ap by_porter x.0), over_at me' Stage.stopped taken.0 (at_free StopSeen Stage.stopped x.0 ready.free refl refl))
      (λ t b bk. leave_left d.noted noted' d.told d.me me' w event taken.0 taken.1 ready d.peers Done d.listening refl x b (number_in d.coming) bk.books)

  pub deed_goes : (deed : Deed) → MayDo deed d → (did : Did) → DidAs deed did noted' d.peers w event → Goes (deed_reach deed (settled_as did)) d held
  deed_goes Time may Done x = absurd x
  deed_goes Time may Timed x = moment_goes may.1.free x
  deed_goes Time may Dead x = died_free d.peers d.coming may.1.free x
  deed_goes Stop may Done x = goes_held Far.free (sits_held, ready_at (at_free Halt Stage.unbound x may.0.1.free refl refl)) (halted may.0.1 may.1 x)
  deed_goes Stop may Timed x = moment_free may.0.1.free x
  deed_goes Stop may Dead x = died_free d.peers d.coming may.0.1.free x
  deed_goes (Slice pid) may Done (inl x) = slice_at pid (SliceEvent pid) x may.3 (same_claim pid) (record { halts = refl; talked = λ v ts. refl })
  deed_goes (Slice pid) may Done (inr x) = slice_at pid (Lost pid) x may.3 (same_claim pid) (record { halts = refl; talked = λ v ts. refl })
  deed_goes (Slice pid) may Timed x = absurd x
  deed_goes (Slice pid) may Dead x = died_goes d.peers d.coming (at_stage Died (Stage.claimed pid) Stage.ended x may.3 refl) x
  deed_goes Leave may Done x = left_goes may.1 x
  deed_goes Leave may Timed x = moment_free may.1.free x
  deed_goes Leave may Dead x = died_free d.peers d.coming may.1.free x
  deed_goes Die may Done x = absurd x
  deed_goes Die may Timed x = absurd x
  deed_goes Die may Dead x = died_free d.peers d.coming may.1.free x
  deed_goes (Open n) may did x = absurd may

  pub deed_last : (deed : Deed) → MayDo deed d → (did : Did) → DidAs deed did noted' d.peers w event → EndsLast deed d held
  deed_last Die may Done x = absurd x
  deed_last Die may Timed x = absurd x
  deed_last Die may Dead x = died_last d.noted noted' d.told d.me me' w event taken.0 taken.1 resting.known d.listening x
  deed_last Time may did x = tt
  deed_last Stop may did x = tt
  deed_last (Slice pid) may did x = tt
  deed_last Leave may did x = tt
  deed_last (Open n) may did x = tt

  -- The connection of the link that came is opened.
  pub opened_goes : (p : Peer) (n : ℕ) (peers' : List Peer) (coming' : Option Peer) → Ready d.noted d.me → d.coming ≡ Some p → n ≡ p.number → (event ≡ Opened n) × (noted' ≡ false) → peers' ≡ d.peers ++ p ∷ [] → coming' ≡ None
      → Goes Far.free d (held_with d.tells d.told d.listening peers' coming')
  opened_goes p n peers' coming' ready is named x more none = subst (λ (o : Option Peer). Goes Far.free d (held_with d.tells d.told d.listening peers' o)) (sym none) (turn_goes Far.free d.tells d.told d.listening peers' None refl refl (λ t. refl)
      ((own.0 ∙ sits.0, tt), ready_at (at_free (Opened n) Stage.unbound x.0 ready.free refl refl))
      (λ t b bk. record {
        since = bk.since;
        broke = bk.broke;
        books = subst (λ (l : List Peer). BooksAt b me'.0 (tally d.told d.listening) l None) (sym more)
            (carries_opened d.noted noted' d.told d.me.0 me'.0 w event taken.1 resting.known b d.listening d.peers p.number p (x.0 ∙ ap Opened named) x.1 (subst IsNew is sits.1)
            (subst (λ (o : Option Peer). BooksAt b d.me.0 (tally d.told d.listening) d.peers (number_in o)) is bk.books));
      }))

  pub opened_late : (peers' : List Peer) (coming' : Option Peer) → Ready d.noted d.me → IsMoment event → peers' ≡ d.peers → coming' ≡ d.coming → Goes Far.free d (held_with d.tells d.told d.listening peers' coming')
  opened_late peers' coming' ready x ps o =
      subst (λ (l : List Peer). Goes Far.free d (held_with d.tells d.told d.listening l coming')) (sym ps)
      (subst (λ (q : Option Peer). Goes Far.free d (held_with d.tells d.told d.listening d.peers q)) (sym o) (moment_free ready.free x))
