-- One turn of the porter, as its seat sees it.
use Rattle.std.proofs.Common.{true≢false, ◌≡◌, ℕ, Bool, true, false, List, ◌++◌, refl, sym, ap, ◌∙◌, subst, None}
use Rattle.turn_lock.specs.Histories.{own_of}
use Rattle.muck_links.specs.Sessions.{LinksTold}
use Rattle.muck_model.specs.declared.event.Entry.{Entry}
use Rattle.muck_model.specs.declared.event.Event.{Event}
use Rattle.muck_model.specs.declared.note.Note.{Note}
use Rattle.spec_events.specs.declared.logged.Logged.{Logged}
use Rattle.spec_events.specs.World.{World}
use Rattle.spec_events.specs.Histories.{History, now, after, AllLawful, entered, by_porter}
use Rattle.spec_events.specs.Logged.{NoCounts, is_dump, logged, logged_by, entries_of, bare_item, counted_item, IsSettled, IsOrderly}
use Rattle.spec_events.proofs.Logging.{orderly_bare, orderly_counted}
use Rattle.spec_events.specs.Steps.{has_claim}
use Rattle.spec_talks.specs.Counts.{counts}
use Rattle.muck_work.specs.inner.Seats.{Chair, OneMore, AllOrderly, Rests}
use Rattle.muck_work.proofs.Seating.{one_bare, one_counted, held_settled, held_start, not_counted}
use Rattle.muck_work.specs.inner.Holds.{HasTurn, HasEntered, HasGiven}
use Rattle.muck_work.proofs.Holding.{others_since, entries_since, claim_held}
use Rattle.muck_porter.specs.declared.deeds.Deed.{Deed}
use Rattle.muck_porter.specs.declared.deeds.Deed.TheVariants.{Open, Slice, Time, Stop, Leave, Die}
use Rattle.muck_porter.specs.inner.Kept.{Resting}
use Rattle.muck_porter.specs.inner.Deeds.{ClaimOf}
use Rattle.muck_porter.specs.inner.Moves.{ClaimAt}
use Rattle.muck_porter.specs.inner.Turns.{Marked, MarkedIn, Given, PorterTurn}
use Rattle.muck_porter.proofs.Items.{note_none, some_is}

-- The note of the links is made where there is none yet.

pub none_yet : (noted : Bool) (me me' : Chair) (h : History) → Resting noted me → HasTurn 0 me me' h → noted ≡ false → h.counted ≡ None
none_yet noted me me' h r t is =
    not_counted t.rests.begun.mounting h (held_settled 0 me me'.0 h t.rests t.waited t.root) t.placed (subst AllOrderly (sym t.seen) t.orderly)
    (subst (λ (ls : List Logged). NoCounts ls) own (note_none me.0.own (some_is _ (sym is ∙ r.known))))
  where
    own : me.0.own ≡ own_of logged_by 0 (logged h)
    own = r.rests.own ∙ sym (others_since 0 me me' h t) ∙ ap (own_of logged_by 0) (sym (t.seen ∙ t.waited.0.1))

-- The item that a turn adds.
pub record ItemOf (noted noted' : Bool) (k : LinksTold) (h h' h2 : History) (event : Event) : Type 0 where
  pub item : Logged
  pub one : OneMore h h2 item
  pub entry : item.entry ≡ by_porter event
  pub orderly : IsOrderly item
  pub marked : Marked noted noted' k (now h') item.counted
  pub same : now h' ≡ now h

item_of : (m : Note) (noted noted' : Bool) (k : LinksTold) (h h' h2 : History) (event : Event) → IsSettled m h → is_dump event ≡ false → h2 ≡ entered h' (by_porter event) → MarkedIn noted noted' k h h' → ItemOf noted noted' k h h' h2 event
unfolding now
item_of m noted noted' k h h' h2 event settled quiet is (MarkedIn.kept same stays free) = record {
  item = bare_item (by_porter event);
  one = one_bare m h h2 (by_porter event) settled (is ∙ ap (λ (x : History). entered x (by_porter event)) stays);
  entry = refl;
  orderly = orderly_bare (by_porter event) (λ dump. absurd (true≢false (sym dump ∙ quiet)));
  marked = Marked.kept same refl (λ n dead. ap (λ (x : History). (now x).stopping) stays ∙ free n (sym (ap (λ (x : History). (now x).dead) stays) ∙ dead));
  same = ap now stays;
}
item_of m noted noted' k h h' h2 event settled quiet is (MarkedIn.made was now_is stopping alive none made) = record {
  item = counted_item (counts k.sessions) (by_porter event);
  one = one_counted m h h2 (counts k.sessions) (by_porter event) settled none (is ∙ ap (λ (x : History). entered x (by_porter event)) made);
  entry = refl;
  orderly = orderly_counted (counts k.sessions) (by_porter event) refl quiet;
  marked = Marked.made was now_is (ap (λ (x : History). (now x).stopping) made ∙ stopping) (ap (λ (x : History). (now x).dead) made ∙ alive) refl;
  same = ap now made;
}

module _ (noted noted' : Bool) (k : LinksTold) (me me1 : Chair) (h' h2 : History) (event : Event) (g : Given noted noted' k me me1 h') (quiet : is_dump event ≡ false) (is : h2 ≡ entered h' (by_porter event)) where
  turn_item : ItemOf noted noted' k g.given h' h2 event
  turn_item = let t = g.turn in item_of t.rests.begun.mounting noted noted' k g.given h' h2 event (held_settled 0 me me1.0 g.given t.rests t.waited t.root) quiet is g.marked

  abbrev turn_entered : HasEntered 0 me me1 h2 turn_item.item
  turn_entered = record { history = g.given; turn = g.turn; one = turn_item.one; party = ap (λ (e : Entry). e.party) turn_item.entry; orderly = turn_item.orderly }

  -- what is given back is one item longer
  pub turn_entry : (whose : ℕ) × (m : Chair) × (item : Logged) × HasEntered whose m me1 h2 item
  turn_entry = (0, me, turn_item.item, turn_entered)

  -- Then the seat rests again, one turn further.
  pub turn_made : (me2 : Chair) → ((whose : ℕ) (m : Chair) (item : Logged) (e : HasEntered whose m me1 h2 item) → HasGiven whose m me2 e.turn.waited.0.0 item)
      → Rests 0 me2 × PorterTurn noted noted' k me.0 me2.0 (now h') event
  unfolding now
  turn_made me2 gave =
      let t = g.turn in
      let o : HasGiven 0 me me2 t.waited.0.0 turn_item.item = gave 0 me turn_item.item turn_entered in
      let start : g.given.start ≡ t.rests.begun.world = held_start 0 me me1.0 g.given t.rests t.waited t.root in
      let entries : g.given.entries ≡ entries_of (me.0.seen ++ t.waited.0.0) = entries_since 0 me me1 g.given t in (
        o.rests,
        record {
          start = t.rests.begun.world;
          mounting = t.rests.begun.mounting;
          root = t.rests.begun.is;
          others = t.waited.0.0;
          item = turn_item.item;
          seen = o.seen;
          own = o.own;
          lists = o.lists;
          lawful = subst (λ (x : World). AllLawful x (entries_of (me.0.seen ++ t.waited.0.0))) start (subst (λ (es : List Entry). AllLawful g.given.start es) entries t.lawful);
          world = turn_item.same ∙ ap (after g.given.start) entries ∙ ap (λ (x : World). after x (entries_of (me.0.seen ++ t.waited.0.0))) start;
          still = others_since 0 me me1 g.given t;
          entry = turn_item.entry;
          marked = turn_item.marked;
        },
      )

-- What the porter claimed last is its own still.

pub deed_held : (noted noted' : Bool) (k : LinksTold) (me me1 : Chair) (h' : History) (deed : Deed) → Given noted noted' k me me1 h' → ClaimAt deed me.0 → ClaimOf deed (now h')
unfolding now
deed_held noted noted' k me me1 h' (Slice pid) g claimed = ap (has_claim 0 pid) (same g.marked) ∙ claim_held 0 pid me me1 g.given g.turn claimed
  where
    same : MarkedIn noted noted' k g.given h' → after h'.start h'.entries ≡ after g.given.start g.given.entries
    same (MarkedIn.kept a stays b) = ap (λ (x : History). after x.start x.entries) stays
    same (MarkedIn.made a b c d e made) = ap (λ (x : History). after x.start x.entries) made
deed_held noted noted' k me me1 h' (Open d) g claimed = tt
deed_held noted noted' k me me1 h' Time g claimed = tt
deed_held noted noted' k me me1 h' Stop g claimed = tt
deed_held noted noted' k me me1 h' Leave g claimed = tt
deed_held noted noted' k me me1 h' Die g claimed = tt
