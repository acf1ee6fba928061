-- What the whole history says, once all seats are taken in and the lock is closed.
use Rattle.std.proofs.Common.{◌≡◌, ℕ, zero, suc, ◌+◌, ◌<◌, ◌≤◌, ◌==◌, Bool, true, false, List, [], ◌∷◌, ◌++◌, length, map, refl, sym, ap, ◌∙◌, subst, arith, length-append, Option, Some, None}
use Rattle.std.specs.Prelude.{slice_get, slice_index_or, All, take, drop}
use Rattle.std.proofs.lemmas.Option.{same_Some, none-some, slice_get_within}
use Rattle.std.proofs.lemmas.Bool.{both_ways}
use mathlib.Core.Option.{some, some-ne-none, some-injective}
use lib.ListN.{get_elem?}
use Rattle.muck_laws.proofs.Places.{got_index}
use Rattle.atomic_table.specs.Seated.{TableId}
use Rattle.turn_lock.specs.Histories.{StartsWith, entry_kept, own_of, Has}
use Rattle.turn_lock.specs.declared.view.Taken.{Taken}
use Rattle.turn_lock.specs.declared.view.Place.TheVariants.{Idle}
use Rattle.turn_lock.specs.inner.Turns.{kept_of, left_after, newcomer}
use Rattle.turn_lock.proofs.Parts.{has_more}
use Rattle.muck_model.specs.declared.event.Entry.{Entry}
use Rattle.muck_model.specs.declared.event.Event.{Event}
use Rattle.muck_model.specs.declared.event.Event.TheVariants.{Died}
use Rattle.muck_model.specs.declared.note.Note.{Note}
use Rattle.spec_events.specs.declared.logged.Logged.{Logged}
use Rattle.spec_events.specs.World.{World}
use Rattle.spec_events.specs.Steps.{is_died, is_lawful, effect, happened, hooked_by}
use Rattle.spec_events.specs.Histories.{History, now, after, AllLawful}
use Rattle.spec_events.specs.Logged.{logged, loose_notes, loose_count, logged_by, entry_of, entries_of, events_of, notes_from, counted_from, items_from}
use Rattle.spec_events.proofs.Logging.{entries_logged}
use Rattle.spec_talks.specs.Parties.{party_of}
use Rattle.spec_talks.proofs.Items.{own_entries_of}
use Rattle.muck_machine.specs.declared.beginning.Beginning.{Beginning}
use Rattle.muck_machine.specs.inner.Beginnings.{beginning, begun}
use Rattle.muck_machine.specs.inner.Seats.{Sight, Chair, Rests, AllOrderly}
use Rattle.muck_machine.proofs.Seating.{begun_settled}
use Rattle.muck_dumper.specs.declared.Store.{Store}
use Rattle.muck_dumper.specs.inner.Between.{IsReady as HasLog, Knows}
use Rattle.muck_dumper.specs.inner.Dumping.{history_from, history_seen}
use Rattle.muck_porter.specs.inner.Porter.{PorterReady}
use Rattle.muck_crew.specs.declared.seats.Part.{Part}
use Rattle.muck_crew.specs.Shared.{events_done_by}
use Rattle.muck_crew.specs.inner.Parts.{IsAble, given_to, IsDealt, AreDealt, all_in, IsReady, IsDone, AreDone}
use Rattle.muck_crew.specs.inner.Runs.{IsFresh}

-- Items and entries.

events_entries : (ls : List Logged) → map (λ (e : Entry). e.event) (entries_of ls) ≡ events_of ls
events_entries [] = refl
events_entries (l ∷ ls) = ap (λ (es : List Event). l.entry.event ∷ es) (events_entries ls)

-- what a party did are the events of its own items
pub done_own : (p : ℕ) (h : History) → events_done_by p h.entries ≡ events_of (own_of logged_by p (logged h))
done_own p h =
    ap (λ (es : List Entry). map (λ (e : Entry). e.event) (own_of party_of p es)) (sym (entries_logged h))
    ∙ ap (λ (es : List Entry). map (λ (e : Entry). e.event) es) (sym (own_entries_of p (logged h)))
    ∙ events_entries (own_of logged_by p (logged h))

pub own_has : (p : ℕ) (ls : List Logged) (l : Logged) → Has (own_of logged_by p ls) l → Has ls l
own_has p [] l h = h
own_has p (x ∷ xs) l h = from (own_has p xs l) (x.entry.party == p) h
  where
    from : (Has (own_of logged_by p xs) l → Has xs l) → (b : Bool) → Has (entry_kept b x (own_of logged_by p xs)) l → Has (x ∷ xs) l
    from ih true (zero, at) = (0, at)
    from ih true (suc i, at) = let r = ih (i, at) in (suc r.0, r.1)
    from ih false r = let q = ih r in (suc q.0, q.1)

pub has_end : {X : Type 0} (xs : List X) (x : X) → Has (xs ++ x ∷ []) x
has_end [] x = (0, refl)
has_end (y ∷ ys) x = let h = has_end ys x in (suc h.0, h.1)

pub has_entry : (ls : List Logged) (l : Logged) → Has ls l → Has (entries_of ls) l.entry
has_entry [] l (i, at) = absurd (some-ne-none l (sym at))
has_entry (x ∷ xs) l (zero, at) = (0, ap some (ap entry_of (some-injective x l at)))
has_entry (x ∷ xs) l (suc i, at) = let h = has_entry xs l (i, at) in (suc h.0, h.1)

pub entry_at : (ls : List Logged) (i : ℕ) (e : Entry) → slice_get (entries_of ls) i ≡ Some e → (l : Logged) × (get_elem? ls i ≡ some l) × (l.entry ≡ e)
entry_at [] i e at = absurd (none-some e at)
entry_at (l ∷ ls) zero e at = (l, refl, same_Some l.entry e at)
entry_at (l ∷ ls) (suc i) e at = entry_at ls i e at

pub longer_than : {X : Type 0} (xs ys : List X) → StartsWith xs ys → length ys ≤ length xs
longer_than xs ys (rest, is) = let l = length-append ys rest in let s = ap length is in omega (arith, l, s)

-- Want of memory.

died_dead : (w : World) (p : ℕ) (event : Event) → is_died event ≡ true → (hooked_by w event (happened w p event)).dead ≡ true
died_dead w p Died is = refl
died_dead w p event is = absurd (both_ways false refl is)

dead_stays : (w : World) (es : List Entry) → w.dead ≡ true → AllLawful w es → (after w es).dead ≡ true
unfolding is_lawful effect
dead_stays w [] dead l = dead
dead_stays w (e ∷ es) dead l = dead_stays (effect w e) es (died_dead w e.party e.event (sym (ap (λ (b : Bool). Rattle.std.proofs.Common.cond b (is_died e.event) (Rattle.spec_events.specs.Steps.is_allowed w e.party e.event)) dead) ∙ l.0)) l.1

pub died_at : (w : World) (es : List Entry) (e : Entry) → Has es e → e.event ≡ Died → AllLawful w es → (after w es).dead ≡ true
unfolding effect
died_at w [] e (i, at) is l = absurd (some-ne-none e (sym at))
died_at w (x ∷ xs) e (zero, at) is l = dead_stays (effect w x) xs (died_dead w x.party x.event (ap is_died (ap (λ (y : Entry). y.event) (some-injective x e at) ∙ is))) l.1
died_at w (x ∷ xs) e (suc i, at) is l = died_at (effect w x) xs e (i, at) is l.1

-- Parts by their places.

-- the part of a party as it was given out and as it returned
pub record WasDone (table : TableId) (v : Sight) (i : ℕ) (p' : Part) : Type 0 where
  pub part : Part
  pub dealt : IsDealt table (suc i) v part
  pub done : IsDone part p'

pub done_at : (table : TableId) (n : ℕ) (v : Sight) (parts parts' : List Part) → AreDealt table n v parts → AreDone parts parts' → (i : ℕ) (p' : Part) → slice_get parts' i ≡ Some p' → WasDone table v i p'
done_at table n v parts parts' dealt done i p' at =
    let within : i < length parts = (let lt = slice_get_within parts' i p' at in let s = done.same in omega (arith, lt, s)) in
    let p = slice_index_or parts i p' in
    let is : slice_index_or parts' i p' ≡ p' = same_Some (slice_index_or parts' i p') p' (sym (got_index parts' i p' (slice_get_within parts' i p' at)) ∙ at) in
    record { part = p; dealt = dealt.each i p (got_index parts i p' within); done = subst (λ (q : Part). IsDone p q) is (done.each i p' within) }

-- The first seat, with others taken in.

pub record SameButJoined (u v : Sight) : Type 0 where
  pub party : u.party ≡ v.party
  pub root : u.root ≡ v.root
  pub place : u.place ≡ v.place
  pub seen : u.seen ≡ v.seen
  pub own : u.own ≡ v.own
  pub given : u.given ≡ v.given

pub in_same : (ps : List Part) (v : Sight) → SameButJoined (all_in ps v) v
in_same [] v = record { party = refl; root = refl; place = refl; seen = refl; own = refl; given = refl }
in_same (p ∷ ps) v = let s = in_same ps v in record { party = s.party; root = s.root; place = s.place; seen = s.seen; own = s.own; given = s.given }

pub in_count : (ps : List Part) (v : Sight) → length (all_in ps v).joined ≡ length v.joined + length ps
in_count [] v = omega arith
in_count (p ∷ ps) v = let ih = in_count ps v in let l = length-append (all_in ps v).joined (kept_of p.seat.me.0 ∷ []) in omega (arith, ih, l)

pub in_has : (ps : List Part) (v : Sight) (x : Taken Logged) → Has v.joined x → Has (all_in ps v).joined x
in_has [] v x h = h
in_has (p ∷ ps) v x h = has_more (all_in ps v).joined (kept_of p.seat.me.0 ∷ []) x (in_has ps v x h)

pub in_kept : (ps : List Part) (v : Sight) (i : ℕ) (p : Part) → slice_get ps i ≡ Some p → Has (all_in ps v).joined (kept_of p.seat.me.0)
in_kept [] v i p at = absurd (none-some p at)
in_kept (q ∷ qs) v zero p at = subst (λ (r : Part). Has (all_in (q ∷ qs) v).joined (kept_of r.seat.me.0)) (same_Some q p at) (has_end (all_in qs v).joined (kept_of q.seat.me.0))
in_kept (q ∷ qs) v (suc i) p at = has_more (all_in qs v).joined (kept_of q.seat.me.0 ∷ []) (kept_of p.seat.me.0) (in_kept qs v i p at)

-- As the seats begin.

-- the first seat of a lock round this world
pub record Begins (v : Chair) (world : History) : Type 0 where
  pub free : v.1 ≡ []
  pub idle : v.0.place ≡ Idle
  pub party : v.0.party ≡ 0
  pub unseen : v.0.seen ≡ []
  pub unowned : v.0.own ≡ []
  pub root : v.0.root ≡ beginning world ∷ []
  pub ungiven : v.0.given ≡ []
  pub unjoined : v.0.joined ≡ []

pub given_same : (n : ℕ) (v : Sight) → given_to n v ≡ record v { given = (given_to n v).given }
given_same zero v = refl
given_same (suc n) v = ap (left_after (suc n)) (given_same n v)

pub fresh_begun : (m : Note) (world : History) → IsFresh m world → beginning world ≡ begun world.start m
unfolding loose_notes loose_count
fresh_begun m world f = begun_settled m world (record {
  notes = ap (λ (ns : List Note). take 1 ns ++ notes_from (length world.entries) (drop 1 ns)) f.notes;
  counted = ap (counted_from (length world.entries)) f.counted;
})

pub fresh_logged : (m : Note) (world : History) → IsFresh m world → logged world ≡ []
unfolding logged
fresh_logged m world f = ap (items_from 0 (drop 1 world.notes) world.counted) f.entries

pub fresh_history : (m : Note) (world : History) → IsFresh m world → history_from (beginning world ∷ []) [] ≡ world
fresh_history m world f =
    ap (λ (b : Beginning). history_from (b ∷ []) []) (fresh_begun m world f)
    ∙ sym (ap (λ (es : List Entry). record world { entries = es }) f.entries
    ∙ ap (λ (ns : List Note). record world { entries = []; notes = ns }) f.notes
    ∙ ap (λ (o : Option Rattle.muck_model.specs.declared.note.Counted.Counted). let k : History = record { start = world.start; entries = []; notes = m ∷ []; counted = o } in k) f.counted)

none_orderly : (ls : List Logged) → ls ≡ [] → AllOrderly ls
none_orderly ls none i l at = absurd (some-ne-none l (sym (sym (ap (λ (xs : List Logged). get_elem? xs i) none) ∙ at)))

-- a seat that has seen nothing yet and has no item
pub rests_new : (p : ℕ) (m : Note) (world : History) (me : Chair) → IsFresh m world → me.1 ≡ [] → me.0.place ≡ Idle → me.0.party ≡ p → me.0.seen ≡ [] → me.0.own ≡ [] → me.0.root ≡ beginning world ∷ [] → Rests p me
rests_new p m world me f free idle party unseen unowned root = record {
  free = free;
  idle = idle;
  party = party;
  own = unowned ∙ sym (ap (own_of logged_by p) unseen);
  orderly = none_orderly me.0.seen unseen;
  begun = record { world = world.start; mounting = m; is = root ∙ ap (λ (b : Beginning). b ∷ []) (fresh_begun m world f) };
}

module _ (m : Note) (world : History) (f : IsFresh m world) (v : Chair) (begins : Begins v world) (n : ℕ) where
  given_root : (given_to n v.0).root ≡ beginning world ∷ []
  given_root = ap (λ (u : Sight). u.root) (given_same n v.0) ∙ begins.root

  given_seen : (given_to n v.0).seen ≡ []
  given_seen = ap (λ (u : Sight). u.seen) (given_same n v.0) ∙ begins.unseen

  pub ready_porter : (me : Chair) → me ≡ (left_after 9 (given_to n v.0), v.1) → PorterReady me
  ready_porter me is =
      let root : me.0.root ≡ beginning world ∷ [] = ap (λ (c : Chair). c.0.root) is ∙ given_root in record {
        rests = rests_new 0 m world me f (ap (λ (c : Chair). c.1) is ∙ begins.free)
            (ap (λ (c : Chair). c.0.place) is ∙ ap (λ (u : Sight). u.place) (given_same n v.0) ∙ begins.idle)
            (ap (λ (c : Chair). c.0.party) is ∙ ap (λ (u : Sight). u.party) (given_same n v.0) ∙ begins.party)
            (ap (λ (c : Chair). c.0.seen) is ∙ given_seen)
            (ap (λ (c : Chair). c.0.own) is ∙ ap (λ (u : Sight). u.own) (given_same n v.0) ∙ begins.unowned)
            root;
        seen = ap (λ (c : Chair). c.0.seen) is ∙ given_seen;
        nobody = λ w mounting at. ap (λ (u : World). u.live.board.connections) (sym (first_world (sym (root ∙ ap (λ (b : Beginning). b ∷ []) (fresh_begun m world f)) ∙ at))) ∙ f.nobody;
      }
    where
      first_world : {a b : World} {x y : Note} → ◌≡◌ {A = List Beginning} (begun a x ∷ []) (begun b y ∷ []) → a ≡ b
      first_world {a} {b} e = ap (λ (bs : List Beginning). world_or bs a) e
        where
          world_or : List Beginning → World → World
          world_or [] d = d
          world_or (z ∷ zs) d = z.world

  pub ready_dumper : {D : Type 0} (tells : Bool) (seen : D → List ℕ) (moment : D → ℕ) (images : D → ℕ → List ℕ → Type 0) (faults : D → ℕ) (store : Store) (a b : D) (me : Chair)
      → me ≡ (newcomer 9 (given_to n v.0), []) → Knows store world → (tells ≡ true → (mounted : ℕ) × HasLog seen moment images faults store.log a b mounted world) → IsAble tells seen moment images faults store a b me
  unfolding now
  ready_dumper tells seen moment images faults store a b me is knows mounts = record {
    ready = record {
      rests = rests_new 9 m world me f (ap (λ (c : Chair). c.1) is) (ap (λ (c : Chair). c.0.place) is) (ap (λ (c : Chair). c.0.party) is) (ap (λ (c : Chair). c.0.seen) is ∙ given_seen) (ap (λ (c : Chair). c.0.own) is) root;
      fresh = ap (λ (c : Chair). c.0.own) is;
      idle = ap (λ (h : History). (now h).dumps.running) (seen_history) ∙ now_idle;
    };
    knows = subst (λ (h : History). Knows store h) (sym seen_history) knows;
    mounted = λ x. let y = mounts x in (y.0, subst (λ (h : History). HasLog seen moment images faults store.log a b y.0 h) (sym seen_history) y.1);
  }
    where
      root : me.0.root ≡ beginning world ∷ []
      root = ap (λ (c : Chair). c.0.root) is ∙ given_root

      seen_history : history_seen me.0 ≡ world
      seen_history = ap (λ (bs : List Beginning). history_from bs me.0.seen) root ∙ ap (history_from (beginning world ∷ [])) (ap (λ (c : Chair). c.0.seen) is ∙ given_seen) ∙ fresh_history m world f

      now_idle : (now world).dumps.running ≡ None
      now_idle = ap (λ (es : List Entry). (after world.start es).dumps.running) f.entries ∙ f.idle

  pub ready_parts : (table : TableId) (parts : List Part) → n < 9 → AreDealt table n v.0 parts → All (λ p. IsReady table p) parts
  ready_parts table parts few dealt i d lt =
      let p = slice_index_or parts i d in
      let one = dealt.each i p (got_index parts i d lt) in
      let count = dealt.count in (
        one.lock,
        record {
          first = subst (λ (q : ℕ). 0 < q) (sym one.number) (omega arith);
          last = subst (λ (q : ℕ). q < 9) (sym one.number) (omega (arith, lt, count, few));
          rests = rests_new p.party m world p.seat.me f (ap (λ (c : Chair). c.1) one.me) (ap (λ (c : Chair). c.0.place) one.me) (ap (λ (c : Chair). c.0.party) one.me ∙ sym one.number)
              (ap (λ (c : Chair). c.0.seen) one.me ∙ begins.unseen) (ap (λ (c : Chair). c.0.own) one.me) (ap (λ (c : Chair). c.0.root) one.me ∙ begins.root);
          fresh = ap (λ (c : Chair). c.0.own) one.me;
        },
      )
