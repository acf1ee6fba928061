-- A turn of the dumper at its seat.
use Rattle.std.proofs.Common.{◌≡◌, ℕ, Bool, false, List, [], ◌∷◌, ◌++◌, length, refl, sym, ◌∙◌, ap, subst, append_assoc, Option, Some, None}
use Rattle.muck_model.specs.declared.event.Entry.{Entry}
use Rattle.muck_model.specs.declared.event.Event.{Event}
use Rattle.muck_model.specs.declared.note.Note.{Note}
use Rattle.spec_events.specs.declared.logged.Logged.{Logged}
use Rattle.spec_events.specs.Histories.{History, entered, noted}
use Rattle.muck_log.specs.Store.{LogState}
use Rattle.spec_events.specs.Logged.{is_cut, logged, bare_item, noted_item, events_of, NoCounts, IsSettled, IsPlaced, IsOrderly}
use Rattle.spec_events.specs.Own.{Stage, next_stage, stage_of}
use Rattle.spec_events.proofs.Logging.{placed_entered, placed_noted, events_append, no_counts_one, orderly_noted, orderly_bare}
use Rattle.spec_events.proofs.Owning.{stage_more}
use Rattle.muck_work.specs.inner.Seats.{Chair, OneMore, Waited}
use Rattle.muck_work.proofs.Seating.{held_settled, one_bare, one_noted, given_root, seen_later}
use Rattle.muck_work.specs.inner.Holds.{HasTurn, HasEntered, HasGiven}
use Rattle.muck_dumping.specs.inner.Dumps.{by}
use Rattle.muck_dumping.specs.inner.Between.{GoesByMarks}
use Rattle.muck_dumping.proofs.Marks.{goes_entered, goes_noted, goes_quiet}
use Rattle.muck_dumper.specs.inner.Dumping.{history_seen}
use Rattle.muck_dumper.specs.inner.Steps.{MadeBy, bare, with_note, Step, Moves}
use Rattle.muck_dumper.proofs.Knowing.{held_quiet, given_known}

-- The item of an entry.

pub record Item (event : Event) (h k : History) : Type 0 where
  pub it : Logged
  pub entry : it.entry ≡ by 9 event
  pub counted : it.counted ≡ None
  pub orderly : IsOrderly it
  pub more : OneMore h k it
  pub placed : IsPlaced k

item_bare : (m : Note) (h k : History) (event : Event) → IsSettled m h → IsPlaced h → k ≡ entered h (by 9 event) → Item event h k
item_bare m h k event settled placed is = record {
  it = bare_item (by 9 event);
  entry = refl;
  counted = refl;
  orderly = orderly_bare (by 9 event) (λ dump. refl);
  more = one_bare m h k (by 9 event) settled is;
  placed = subst IsPlaced (sym is) (placed_entered h (by 9 event) placed);
}

item_noted : (m : Note) (h k : History) (event : Event) (x : Note) → IsSettled m h → IsPlaced h → x.entries ≡ length h.entries → k ≡ entered (noted h x) (by 9 event) → Item event h k
item_noted m h k event x settled placed at is = record {
  it = noted_item x (by 9 event);
  entry = refl;
  counted = refl;
  orderly = orderly_noted x (by 9 event) refl;
  more = one_noted m h k x (by 9 event) settled at is;
  placed = subst IsPlaced (sym is) (placed_entered (noted h x) (by 9 event) (placed_noted h x at placed));
}

pub item_made : (m : Note) (h k : History) (event : Event) → IsSettled m h → IsPlaced h → MadeBy event h k → Item event h k
item_made m h k event settled placed (bare is) = item_bare m h k event settled placed is
item_made m h k event settled placed (with_note x at is) = item_noted m h k event x settled placed at is

-- The world as it was given, and as it is given back.
module _ (me me1 : Chair) (h k : History) (event : Event) (t : HasTurn 9 me me1 h) (made : MadeBy event h k) where
  its_item : Item event h k
  its_item = item_made t.rests.begun.mounting h k event (held_settled 9 me me1.0 h t.rests t.waited t.root) t.placed made

  abbrev its_entry : HasEntered 9 me me1 k its_item.it
  its_entry = record { history = h; turn = t; one = its_item.more; party = ap (λ (e : Entry). e.party) its_item.entry; orderly = its_item.orderly }

  pub entry_made : (whose : ℕ) × (m : Chair) × (item : Logged) × HasEntered whose m me1 k item
  entry_made = (9, me, its_item.it, its_entry)

  -- behind the turn
  pub step_made : (me' : Chair) → ((whose : ℕ) (m : Chair) (item : Logged) (e : HasEntered whose m me1 k item) → HasGiven whose m me' e.turn.waited.0.0 item) → (s : Step event me me') × (s.world ≡ h) × (history_seen me'.0 ≡ k)
  step_made me' gave =
      let i = its_item in
      let l = i.it in
      let o : HasGiven 9 me me' t.waited.0.0 l = gave 9 me l its_entry in
      let seen : me'.0.seen ≡ logged k = o.seen ∙ ap (λ (ls : List Logged). ls ++ l ∷ []) (sym (t.seen ∙ t.waited.0.1)) ∙ sym i.more.logged in
      let known : history_seen me'.0 ≡ k = given_known me' k o.rests.begun (given_root me1.0 h k l i.more t.root ∙ t.waited.5 ∙ sym o.lists.0) i.placed seen in
      let s : Step event me me' = record {
        rests = o.rests;
        world = h;
        quiet = held_quiet me me1 h t;
        made = subst (MadeBy event h) (sym known) made;
        lists = o.lists;
        sight = (t.waited.0.0 ++ l ∷ [], o.seen ∙ append_assoc me.0.seen t.waited.0.0 (l ∷ []));
        events = ap events_of o.own ∙ events_append me.0.own (l ∷ []) ∙ ap (λ (e : Event). events_of me.0.own ++ e ∷ []) (ap (λ (e : Entry). e.event) i.entry);
        counts = λ none. subst NoCounts (sym o.own) (no_counts_one me.0.own l none i.counted);
        last = (me.0.own, l, o.own, i.entry);
      } in
      (s, refl, known)

-- What is kept by the marks of the objects stays so at an entry that is no Cut.

goes_made : (marks : Bool) (log : Option LogState) (event : Event) (h k : History) → is_cut event ≡ false → MadeBy event h k → GoesByMarks marks log h → GoesByMarks marks log k
goes_made marks log event h k other (bare is) goes = goes_entered marks log h k (by 9 event) other is goes
goes_made marks log event h k other (with_note x at is) goes = goes_noted marks log h k x (by 9 event) other is goes

pub goes_step : (marks : Bool) (log : Option LogState) (event : Event) (me me' : Chair) → is_cut event ≡ false → Step event me me' → GoesByMarks marks log (history_seen me.0) → GoesByMarks marks log (history_seen me'.0)
goes_step marks log event me me' other t goes = goes_made marks log event t.world (history_seen me'.0) other t.made (goes_quiet marks log (history_seen me.0) t.world t.quiet goes)

-- From stage to stage.

pub moves_step : (from to : Stage) (event : Event) (me me' : Chair) → Step event me me' → next_stage 9 from event ≡ Some to → Moves from to me me'
moves_step from to event me me' s may = record {
  lists = s.lists;
  sight = s.sight;
  stage = λ known. ap (stage_of 9) s.events ∙ stage_more 9 (events_of me.0.own) event from to known may;
  counts = s.counts;
}

pub moves_on : (a b c : Stage) (x y z : Chair) → Moves a b x y → Moves b c y z → Moves a c x z
moves_on a b c x y z p q = record {
  lists = (q.lists.0 ∙ p.lists.0, q.lists.1 ∙ p.lists.1, q.lists.2 ∙ p.lists.2);
  sight = seen_later x.0.seen y.0.seen z.0.seen p.sight q.sight;
  stage = λ known. q.stage (p.stage known);
  counts = λ none. q.counts (p.counts none);
}

pub moves_same : (a : Stage) (x y : Chair) → Waited x.0 y.0 → Moves a a x y
moves_same a x y waited = record {
  lists = (waited.5, waited.3, waited.4);
  sight = waited.0;
  stage = λ known. ap (λ (ls : List Logged). stage_of 9 (events_of ls)) waited.1 ∙ known;
  counts = λ none. subst NoCounts (sym waited.1) none;
}
