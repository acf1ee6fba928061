-- One link is served.
use Rattle.std.proofs.Common.{◌≡◌, ℕ, ◌+◌, ◌<◌, ◌≤◌, Bool, List, [], ◌∷◌, ◌++◌, length, refl, sym, ap, ◌∙◌, subst, arith, Some}
use Rattle.std.specs.List.{remove}
use Rattle.std.proofs.lemmas.List.{length-set}
use Rattle.std.proofs.lemmas.List.Edits.{length-remove}
use mathlib.Core.Option.{some}
use lib.ListN.{get_elem?}
use Rattle.muck_laws.proofs.Places.{at_below, set_same, set_there}
use Rattle.muck_links.specs.Sessions.{LinksTold}
use Rattle.muck_model.specs.declared.event.Event.{Event}
use Rattle.muck_model.specs.declared.event.Event.TheVariants.{Input, Closed, Take, Moment}
use Rattle.spec_events.specs.declared.logged.Logged.{Logged}
use Rattle.spec_events.specs.World.{World}
use Rattle.spec_events.specs.Histories.{by_porter}
use Rattle.spec_events.specs.Own.{Stage}
use Rattle.spec_serve.specs.inner.Keeping.{Peer}
use Rattle.muck_work.specs.inner.Seats.{Chair, Rests}
use Rattle.muck_peer.specs.Moves.{PeerStep}
use Rattle.muck_porter.specs.declared.deeds.Served.{Served}
use Rattle.muck_porter.specs.declared.deeds.Served.TheVariants.{Went as ServedOne, Closed as ClosedOne, Nobody, Dead as ServedDead}
use Rattle.muck_porter.specs.inner.Notes.{note_in}
use Rattle.muck_porter.specs.inner.Kept.{tally, BooksAt, IsFree, Ready, ReadyTimed}
use Rattle.muck_porter.specs.inner.Deeds.{ServedAs, ServedFrom}
use Rattle.muck_porter.specs.inner.Turns.{PorterTurn}
use Rattle.muck_porter.specs.inner.Moves.{CarriesOn}
use Rattle.muck_porter.specs.inner.Rounds.{WroteAt, ClosedAt, Nearer}
use Rattle.muck_porter.proofs.Stages.{stage_free}
use Rattle.muck_porter.proofs.Carrying.{turn_noted, carries_peer, carries_closed}
use Rattle.muck_porter.proofs.Doing.{linked_books, turn_resting, moment_ready, moment_carries}

peer_free : (own own' : List Logged) (item : Logged) (p p' : Peer) (w : World) (event : Event) → own' ≡ own ++ item ∷ [] → item.entry ≡ by_porter event → IsFree own → PeerStep p p' w event → IsFree own'
peer_free own own' item p p' w event is entry free (PeerStep.heard line more e ready same) = IsFree.unbound (stage_free own own' item is (Input p.number line) Stage.unbound (entry ∙ ap by_porter e) free refl refl)
peer_free own own' item p p' w event is entry free (PeerStep.taken n e none same) = IsFree.unbound (stage_free own own' item is (Take p.number n) Stage.unbound (entry ∙ ap by_porter e) free refl refl)
peer_free own own' item p p' w event is entry free (PeerStep.timed t e same) = IsFree.timed (stage_free own own' item is (Moment t) Stage.timed (entry ∙ ap by_porter e) free refl refl)

-- what is one from a place on is one from each before it
pub served_on : (from at : ℕ) (served : Served) → from ≤ at → ServedFrom at served → ServedFrom from served
served_on from at (ServedOne i) le place = omega (arith, le, place)
served_on from at (ClosedOne i) le place = omega (arith, le, place)
served_on from at Nobody le place = tt
served_on from at ServedDead le place = tt

-- where the link stands
pub went_below : (served : Served) (i : ℕ) (ps ps1 : List Peer) (w : World) (event : Event) → served ≡ ServedOne i → ServedAs served ps ps1 w event → i < length ps1
went_below served i ps ps1 w event is s =
    let x : ServedAs (ServedOne i) ps ps1 w event = subst (λ (y : Served). ServedAs y ps ps1 w event) is s in
    let lt = at_below ps i x.0 x.2 in
    let n = ap length x.3 ∙ length-set ps i x.1 in
    omega arith

pub closed_below : (served : Served) (i : ℕ) (ps ps1 : List Peer) (w : World) (event : Event) → served ≡ ClosedOne i → ServedAs served ps ps1 w event → i < length ps1
closed_below served i ps ps1 w event is s =
    let x : ServedAs (ClosedOne i) ps ps1 w event = subst (λ (y : Served). ServedAs y ps ps1 w event) is s in
    let lt = at_below ps i x.0 x.1 in
    let n = ap length x.2 ∙ length-set ps i x.0 in
    omega arith

pub went_nearer : (served : Served) (i from : ℕ) (ps ps1 ps2 : List Peer) (w : World) (event : Event) → served ≡ ServedOne i → ServedAs served ps ps1 w event → ServedFrom from served → length ps2 ≡ length ps1 → Nearer (Some (i + 1)) from ps ps2
went_nearer served i from ps ps1 ps2 w event is s place count =
    let x : ServedAs (ServedOne i) ps ps1 w event = subst (λ (y : Served). ServedAs y ps ps1 w event) is s in
    let n = ap length x.3 ∙ length-set ps i x.1 in
    let f : from ≤ i = subst (ServedFrom from) is place in
    omega arith

pub closed_nearer : (served : Served) (i from : ℕ) (ps ps1 ps2 : List Peer) (w : World) (event : Event) → served ≡ ClosedOne i → ServedAs served ps ps1 w event → ServedFrom from served → ps2 ≡ remove ps1 i → Nearer (Some i) from ps ps2
closed_nearer served i from ps ps1 ps2 w event is s place gone =
    let x : ServedAs (ClosedOne i) ps ps1 w event = subst (λ (y : Served). ServedAs y ps ps1 w event) is s in
    let n = ap length x.2 ∙ length-set ps i x.0 in
    let lt = closed_below served i ps ps1 w event is s in
    let r = length-remove ps1 i lt in
    let g = ap length gone in
    let f : from ≤ i = subst (ServedFrom from) is place in
    omega arith

module _ (noted noted' : Bool) (k : LinksTold) (me me' : Chair) (w : World) (event : Event) (r : Rests 0 me') (turn : PorterTurn noted noted' k me.0 me'.0 w event) (ready : Ready noted me)
    (served : Served) (ps ps1 : List Peer) (did : ServedAs served ps ps1 w event) where
  pub went_ready : (i : ℕ) → served ≡ ServedOne i → Ready noted' me'
  went_ready i is =
      let x : ServedAs (ServedOne i) ps ps1 w event = subst (λ (y : Served). ServedAs y ps ps1 w event) is did in
      record { resting = turn_resting noted noted' k me me' w event r turn ready.resting.known; free = peer_free me.0.own me'.0.own turn.item x.0 x.1 w event turn.own turn.entry ready.free x.4 }

  pub went_carries : (i : ℕ) (k' : LinksTold) (n : ℕ) (ps2 : List Peer) → served ≡ ServedOne i → WroteAt i noted' k k' ps1 ps2 → CarriesOn me.0 me'.0 (tally k n) (tally k' n) ps ps2
  went_carries i k' n ps2 is wrote coming b bk =
      let x : ServedAs (ServedOne i) ps ps1 w event = subst (λ (y : Served). ServedAs y ps ps1 w event) is did in
      let there : get_elem? ps1 i ≡ some x.1 = ap (λ (l : List Peer). get_elem? l i) x.3 ∙ set_there ps i x.0 x.1 x.2 in
      let o = wrote x.1 there in
      subst (λ (l : List Peer). BooksAt b me'.0 (tally k' n) l coming) (sym o.1)
      (linked_books b me'.0 k k' n ps1 coming i x.1 o.0 there (o.2 (note_in me'.0.own) (sym (turn_noted noted noted' k me.0 me'.0 w event turn ready.resting.known)))
      (subst (λ (l : List Peer). BooksAt b me'.0 (tally k n) l coming) (sym x.3)
      (carries_peer noted noted' k me.0 me'.0 w event turn ready.resting.known b n ps coming i x.0 x.1 x.2 x.4 bk)))

  pub closed_ready : (i : ℕ) → served ≡ ClosedOne i → Ready noted' me'
  closed_ready i is =
      let x : ServedAs (ClosedOne i) ps ps1 w event = subst (λ (y : Served). ServedAs y ps ps1 w event) is did in
      record {
        resting = turn_resting noted noted' k me me' w event r turn ready.resting.known;
        free = IsFree.unbound (stage_free me.0.own me'.0.own turn.item turn.own (Closed x.0.number) Stage.unbound (turn.entry ∙ ap by_porter x.3) ready.free refl refl);
      }

  pub closed_carries : (i : ℕ) (k' : LinksTold) (n : ℕ) (ps2 : List Peer) → served ≡ ClosedOne i → ClosedAt i k k' ps1 → ps2 ≡ remove ps1 i → CarriesOn me.0 me'.0 (tally k n) (tally k' n) ps ps2
  closed_carries i k' n ps2 is told gone coming b bk =
      let x : ServedAs (ClosedOne i) ps ps1 w event = subst (λ (y : Served). ServedAs y ps ps1 w event) is did in
      let same : ps1 ≡ ps = x.2 ∙ set_same ps i x.0 x.1 in
      subst (λ (l : List Peer). BooksAt b me'.0 (tally k' n) l coming) (sym (gone ∙ ap (λ (l : List Peer). remove l i) same))
      (carries_closed noted noted' k me.0 me'.0 w event turn ready.resting.known b n k' ps coming i x.0 x.1 x.3 x.4
      (told x.0 (ap (λ (l : List Peer). get_elem? l i) same ∙ x.1)) bk)

  pub nobody_ready : served ≡ Nobody → ReadyTimed noted' me'
  nobody_ready is =
      let x : ServedAs Nobody ps ps1 w event = subst (λ (y : Served). ServedAs y ps ps1 w event) is did in
      moment_ready noted noted' k me me' w event r turn ready.resting.known ready.free x.0

  pub nobody_carries : (n : ℕ) → served ≡ Nobody → CarriesOn me.0 me'.0 (tally k n) (tally k n) ps ps1
  nobody_carries n is coming b bk =
      let x : ServedAs Nobody ps ps1 w event = subst (λ (y : Served). ServedAs y ps ps1 w event) is did in
      subst (λ (l : List Peer). BooksAt b me'.0 (tally k n) l coming) (sym x.1) (moment_carries noted noted' k me me' w event r turn ready.resting.known n ps coming x.0 b bk)
