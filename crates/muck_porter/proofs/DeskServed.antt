-- One link is served, at the desk.
use Rattle.std.proofs.Common.{◌≡◌, ℕ, ◌≤◌, Bool, true, List, refl, sym, ◌∙◌, subst, Option}
use Rattle.std.specs.List.{remove}
use Rattle.atomic_table.specs.Seated.{TableId}
use Rattle.muck_links.specs.Sessions.{LinksTold}
use Rattle.muck_model.specs.declared.event.Event.{Event}
use Rattle.spec_events.specs.World.{World}
use Rattle.spec_serve.specs.Promises.{Tally}
use Rattle.spec_serve.specs.inner.Keeping.{Peer}
use Rattle.muck_io.specs.Faults.{Rose}
use Rattle.muck_work.specs.inner.Seats.{Chair, Rests}
use Rattle.muck_peer.specs.Moves.{Clocked}
use Rattle.muck_porter.specs.declared.desk.Fault.TheVariants.{NoMemory}
use Rattle.muck_porter.specs.declared.deeds.Served.{Served}
use Rattle.muck_porter.specs.declared.deeds.Served.TheVariants.{Went as ServedOne, Closed as ClosedOne, Nobody, Dead as ServedDead}
use Rattle.muck_porter.specs.inner.Kept.{tally, BooksAt, Ready}
use Rattle.muck_porter.specs.inner.Deeds.{ServedAs}
use Rattle.muck_porter.specs.inner.Turns.{PorterTurn}
use Rattle.muck_porter.specs.inner.Moves.{CarriesOn, number_in}
use Rattle.muck_porter.specs.inner.Rounds.{WroteAt, ClosedAt}
use Rattle.muck_porter.specs.inner.Desks.{Stand, Far, Sits, Booked, Goes}
use Rattle.muck_porter.proofs.OneServed.{went_ready, went_carries, closed_ready, closed_carries, nobody_ready, nobody_carries}
use Rattle.muck_porter.proofs.Holding.{held_with, turn_goes, died_free}

module _ (d : Stand) (me' : Chair) (table' : TableId) (id' : ℕ) (noted' : Bool) (answers' : Option (List ℕ)) (w : World) (event : Event)
    (sits : Sits d) (ready : Ready d.noted d.me) (own : (table' ≡ d.seat_table) × (id' ≡ d.seat_id))
    (taken : Rests 0 me' × PorterTurn d.noted noted' d.told d.me.0 me'.0 w event) (clocked : Clocked d.answers answers' w event)
    (served : Served) (ps1 : List Peer) (did : ServedAs served d.peers ps1 w event) where
  booked : (tells' : Bool) (told' : LinksTold) (listening' : ℕ) (ps2 : List Peer) → listening' ≡ d.listening → CarriesOn d.me.0 me'.0 (tally d.told d.listening) (tally told' d.listening) d.peers ps2
      → (b : Tally) → Booked b d → Booked b (held_with d me' table' id' noted' answers' w event sits ready.resting own taken clocked tells' told' listening' ps2 d.coming)
  booked tells' told' listening' ps2 listening carries b bk = record {
    since = subst (λ (n : ℕ). b.listening ≤ n) (sym listening) bk.since;
    broke = λ e. subst (λ (n : ℕ). Rose b.listening n) (sym listening) (bk.broke e);
    books = subst (λ (n : ℕ). BooksAt b me'.0 (tally told' n) ps2 (number_in d.coming)) (sym listening) (carries (number_in d.coming) b bk.books);
  }

  pub went_goes : (i : ℕ) (tells' : Bool) (told' : LinksTold) (listening' : ℕ) (ps2 : List Peer) → served ≡ ServedOne i → tells' ≡ d.tells → listening' ≡ d.listening → (d.tells ≡ true → told'.ports ≡ d.told.ports)
      → (d.tells ≡ true → WroteAt i noted' d.told told' ps1 ps2) → Goes Far.free d (held_with d me' table' id' noted' answers' w event sits ready.resting own taken clocked tells' told' listening' ps2 d.coming)
  went_goes i tells' told' listening' ps2 is tells listening ports wrote =
      turn_goes d me' table' id' noted' answers' w event sits ready.resting own taken clocked Far.free tells' told' listening' ps2 d.coming tells listening ports
      ((own.0 ∙ sits.0, sits.1), went_ready d.noted noted' d.told d.me me' w event taken.0 taken.1 ready served d.peers ps1 did i is)
      (λ t. booked tells' told' listening' ps2 listening (went_carries d.noted noted' d.told d.me me' w event taken.0 taken.1 ready served d.peers ps1 did i told' d.listening ps2 is (wrote t)))

  pub closed_goes : (i : ℕ) (tells' : Bool) (told' : LinksTold) (listening' : ℕ) (ps2 : List Peer) → served ≡ ClosedOne i → tells' ≡ d.tells → listening' ≡ d.listening → (d.tells ≡ true → told'.ports ≡ d.told.ports)
      → (d.tells ≡ true → ClosedAt i d.told told' ps1) → ps2 ≡ remove ps1 i → Goes Far.free d (held_with d me' table' id' noted' answers' w event sits ready.resting own taken clocked tells' told' listening' ps2 d.coming)
  closed_goes i tells' told' listening' ps2 is tells listening ports closed gone =
      turn_goes d me' table' id' noted' answers' w event sits ready.resting own taken clocked Far.free tells' told' listening' ps2 d.coming tells listening ports
      ((own.0 ∙ sits.0, sits.1), closed_ready d.noted noted' d.told d.me me' w event taken.0 taken.1 ready served d.peers ps1 did i is)
      (λ t. booked tells' told' listening' ps2 listening (closed_carries d.noted noted' d.told d.me me' w event taken.0 taken.1 ready served d.peers ps1 did i told' d.listening ps2 is (closed t) gone))

  pub nobody_goes : served ≡ Nobody → Goes Far.timed d (held_with d me' table' id' noted' answers' w event sits ready.resting own taken clocked d.tells d.told d.listening ps1 d.coming)
  nobody_goes is =
      turn_goes d me' table' id' noted' answers' w event sits ready.resting own taken clocked Far.timed d.tells d.told d.listening ps1 d.coming refl refl (λ t. refl)
      ((own.0 ∙ sits.0, sits.1), nobody_ready d.noted noted' d.told d.me me' w event taken.0 taken.1 ready served d.peers ps1 did is)
      (λ t. booked d.tells d.told d.listening ps1 refl (nobody_carries d.noted noted' d.told d.me me' w event taken.0 taken.1 ready served d.peers ps1 did d.listening is))

  pub dead_goes : served ≡ ServedDead → Goes (Far.ended NoMemory) d (held_with d me' table' id' noted' answers' w event sits ready.resting own taken clocked d.tells d.told d.listening ps1 d.coming)
  dead_goes is =
      died_free d me' table' id' noted' answers' w event sits ready.resting own taken clocked ps1 d.coming ready.free (subst (λ (y : Served). ServedAs y d.peers ps1 w event) is did)
