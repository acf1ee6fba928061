-- The moments of a history that goes on.
use Rattle.std.proofs.Common.{◌≡◌, ℕ, Bool, true, false, List, [], ◌∷◌, ◌++◌, refl, sym, ap, ◌∙◌, subst, append_assoc, Option}
use Rattle.std.specs.Prelude.{◌==◌, is_some}
use Rattle.std.proofs.lemmas.Bool.{and_parts}
use Rattle.std.proofs.lemmas.List.{append-nil}
use Rattle.muck_laws.proofs.Truths.{allowed_one, opposed}
use Rattle.turn_lock.specs.Histories.{own_of, StartsWith}
use Rattle.muck_links.specs.Sessions.{LinksTold}
use Rattle.muck_model.specs.declared.event.Entry.{Entry}
use Rattle.muck_model.specs.declared.event.Event.{Event}
use Rattle.muck_model.specs.declared.event.Event.TheVariants.{Moment}
use Rattle.spec_events.specs.declared.logged.Logged.{Logged}
use Rattle.spec_events.specs.World.{World}
use Rattle.spec_events.specs.Steps.{is_lawful, effect}
use Rattle.spec_events.specs.Histories.{after, AllLawful, by_porter}
use Rattle.spec_events.specs.Logged.{entries_of}
use Rattle.spec_events.proofs.Logging.{entries_append}
use Rattle.spec_talks.specs.Parties.{party_of}
use Rattle.spec_talks.proofs.Histories.{lawful_back, not_first, others_own}
use Rattle.spec_talks.proofs.Items.{own_entries_of}
use Rattle.muck_work.specs.inner.Beginnings.{begun}
use Rattle.muck_work.specs.inner.Seats.{Sight, Chair, AllOrderly, Rests, Waited}
use Rattle.muck_peer.specs.Moves.{Clocked}
use Rattle.muck_porter.specs.inner.Notes.{note_in}
use Rattle.muck_porter.specs.inner.Kept.{Resting}
use Rattle.muck_porter.specs.inner.Turns.{Marked, PorterTurn}
use Rattle.muck_porter.specs.Noted.{AllNoted}
use Rattle.muck_porter.specs.Times.{Timely, TimedBy, ByClock}
use Rattle.muck_porter.proofs.Items.{same_world}
use Rattle.muck_porter.proofs.Noted.{note_own, orderly_front, noted_same, noted_turned}

timely_append : (a a1 a2 : Option (List ℕ)) (w : World) (xs ys : List Entry) → Timely a a1 w xs → Timely a1 a2 (after w xs) ys → Timely a a2 w (xs ++ ys)
timely_append a a1 a2 w [] ys t u = subst (λ (x : Option (List ℕ)). Timely x a2 w ys) t u
timely_append a a1 a2 w (e ∷ es) ys t u = (t.0, t.1, timely_append t.0 a1 a2 (effect w e) es ys t.2 u)

-- where another party does something, time doesn't go on
clocked_other : (a : Option (List ℕ)) (w : World) (p : ℕ) (event : Event) → is_lawful w (record { party = p; event = event }) ≡ true → (p == 0) ≡ false → Clocked a a w event
unfolding is_lawful
clocked_other a w p (Moment t) l other = absurd (opposed (p == 0) (and_parts (p == 0) _ (allowed_one w.dead false _ l refl)).0 other)
clocked_other a w p event l other = refl

timely_others : (a : Option (List ℕ)) (w : World) (es : List Entry) → AllLawful w es → own_of party_of 0 es ≡ [] → Timely a a w es
timely_others a w [] l none = refl
timely_others a w (e ∷ es) l none = let two = not_first e es none in (a, clocked_other a w e.party e.event l.0 two.0, timely_others a (effect w e) es l.1 two.1)

-- who has seen the front knows of the whole, where the first party has done nothing since
pub timely_same : (a a' : Option (List ℕ)) (w : World) (h h' : List Entry) → AllLawful w h' → StartsWith h' h → own_of party_of 0 h' ≡ own_of party_of 0 h → Timely a a' w h → Timely a a' w h'
timely_same a a' w h h' l (rest, is) own t =
    subst (Timely a a' w) (sym is)
    (timely_append a a' a' w h rest t (timely_others a' (after w h) rest (lawful_back w h rest (subst (AllLawful w) is l)) (others_own h rest (sym (ap (own_of party_of 0) is) ∙ own))))

-- a turn of the first party: entries of others, and then this one
pub timely_turned : (a a' a'' : Option (List ℕ)) (w : World) (h h' : List Entry) (event : Event) → AllLawful w h' → StartsWith h' h → own_of party_of 0 h' ≡ own_of party_of 0 h
    → Clocked a' a'' (after w h') event → Timely a a' w h → Timely a a'' w (h' ++ by_porter event ∷ [])
timely_turned a a' a'' w h h' event l more own c t = timely_append a a' a'' w h' (by_porter event ∷ []) (timely_same a a' w h h' l more own t) (a'', c, refl)

-- What the seat knows of the moments.

front_on : (v : Sight) (front more : List Logged) → StartsWith v.seen front → StartsWith (v.seen ++ more) front
front_on v front more seen = (seen.0 ++ more, ap (λ (ls : List Logged). ls ++ more) seen.1 ∙ append_assoc front seen.0 more)

-- at a seat that has seen nothing
pub timed_fresh : (a : Option (List ℕ)) (v : Sight) → v.own ≡ [] → TimedBy a a v
timed_fresh a v none = record { front = []; seen = (v.seen, refl); own = none; timely = λ w m root. refl; noted = λ w m root. tt }

-- at a seat that has only waited since
pub timed_waited : (a : Option (List ℕ)) (v v' : Sight) → Waited v v' → ByClock v v' a a
timed_waited a v v' waited before t =
    let more = front_on v t.front waited.0.0 t.seen in
    record { front = t.front; seen = (more.0, waited.0.1 ∙ more.1); own = waited.1 ∙ t.own; timely = λ w m root. t.timely w m (sym waited.5 ∙ root); noted = λ w m root. t.noted w m (sym waited.5 ∙ root) }

-- and at one that had its turn
pub timed_turned : (noted noted' : Bool) (k : LinksTold) (a a' : Option (List ℕ)) (me me' : Chair) (w : World) (event : Event) → Resting noted me → Rests 0 me' → PorterTurn noted noted' k me.0 me'.0 w event → Clocked a a' w event
    → ByClock me.0 me'.0 a a'
timed_turned noted noted' k a a' me me' w event r r' turn clocked before t = record {
  front = me'.0.seen;
  seen = ([], sym (append-nil me'.0.seen));
  own = r'.own;
  timely = λ u m root.
      let h = me.0.seen ++ turn.others in
      let root_before : me.0.root ≡ begun u m ∷ [] = sym turn.lists.0 ∙ root in
      let same : turn.start ≡ u = same_world turn.start u turn.mounting m (sym turn.root ∙ root_before) in
      let more = front_on me.0 t.front turn.others t.seen in
      let whole : entries_of me'.0.seen ≡ entries_of h ++ by_porter event ∷ [] =
      ap entries_of turn.seen ∙ entries_append h (turn.item ∷ []) ∙ ap (λ (e : Entry). entries_of h ++ e ∷ []) turn.entry in
      subst (λ (es : List Entry). Timely before a' u es) (sym whole)
      (timely_turned before a a' u (entries_of t.front) (entries_of h) event
      (subst (λ (x : World). AllLawful x (entries_of h)) same turn.lawful)
      (entries_of more.0, ap entries_of more.1 ∙ entries_append t.front more.0)
      (sym (own_entries_of 0 h) ∙ ap entries_of (turn.still ∙ sym r.rests.own ∙ t.own) ∙ own_entries_of 0 t.front)
      (subst (λ (x : World). Clocked a a' x event) (turn.world ∙ ap (λ (x : World). after x (entries_of h)) same) clocked)
      (t.timely u m root_before));
  noted = λ u m root.
      let h = me.0.seen ++ turn.others in
      let root_before : me.0.root ≡ begun u m ∷ [] = sym turn.lists.0 ∙ root in
      let same : turn.start ≡ u = same_world turn.start u turn.mounting m (sym turn.root ∙ root_before) in
      let orderly = orderly_front h (turn.item ∷ []) (subst AllOrderly turn.seen r'.orderly) in
      let all = noted_same u t.front h orderly (front_on me.0 t.front turn.others t.seen) (turn.still ∙ sym r.rests.own ∙ t.own) (t.noted u m root_before) in
      subst (AllNoted false u) (sym turn.seen)
      (noted_turned noted noted' k u h turn.item all
      (r.known ∙ ap (λ (ls : List Logged). is_some (note_in ls)) (r.rests.own ∙ sym turn.still) ∙ ap is_some (sym (note_own h orderly)))
      (ap (λ (e : Entry). e.party == 0) turn.entry)
      (subst (λ (x : World). Marked noted noted' k x turn.item.counted) (turn.world ∙ ap (λ (x : World). after x (entries_of h)) same) turn.marked));
}
