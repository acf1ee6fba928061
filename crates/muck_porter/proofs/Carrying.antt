-- How a turn carries the books over.
use Rattle.std.proofs.Common.{◌≡◌, ℕ, ◌≤◌, Bool, false, List, [], ◌∷◌, ◌++◌, set, take, refl, sym, ap, ◌∙◌, subst, inl, inr, arith, Option, Some, None}
use Rattle.std.specs.Prelude.{is_some, if◌then◌else◌}
use Rattle.std.specs.List.{remove}
use Rattle.std.proofs.lemmas.List.{append-nil}
use mathlib.Core.Option.{some}
use lib.ListN.{get_elem?}
use Rattle.muck_laws.proofs.Places.{set_same}
use Rattle.turn_lock.specs.Histories.{StartsWith, own_of}
use Rattle.muck_links.specs.Sessions.{LinksTold, on_session, shut}
use Rattle.muck_model.specs.declared.event.Entry.{Entry}
use Rattle.muck_model.specs.declared.event.Event.{Event}
use Rattle.muck_model.specs.declared.event.Event.TheVariants.{Opened, Input, Closed, Moment, Take, Halt, StopSeen, Died}
use Rattle.muck_model.specs.declared.note.Note.{Note}
use Rattle.spec_events.specs.declared.logged.Logged.{Logged}
use Rattle.spec_events.specs.World.{World, queue_of}
use Rattle.spec_events.specs.Histories.{after, AllLawful, by_porter}
use Rattle.spec_events.specs.Logged.{logged_by, entries_of}
use Rattle.spec_events.proofs.Logging.{entries_append}
use Rattle.spec_talks.specs.Parties.{party_of, worlds_at, halts, is_halt}
use Rattle.spec_talks.specs.Talks.{Talk, talked, talks}
use Rattle.spec_talks.specs.Counts.{counts}
use Rattle.spec_talks.proofs.Talking.{talks_turned}
use Rattle.spec_talks.proofs.Halting.{halts_turned}
use Rattle.spec_talks.proofs.Items.{own_entries_of}
use Rattle.spec_serve.specs.Marks.{LinksNote}
use Rattle.spec_serve.specs.Accounts.{Cause, Agrees}
use Rattle.spec_serve.specs.Promises.{Tally, HaltCause, Promised, PromisedOf}
use Rattle.spec_serve.specs.inner.Keeping.{Peer, new_peer}
use Rattle.spec_serve.specs.inner.Books.{BooksOf}
use Rattle.spec_serve.proofs.Counted.{counts_made}
use Rattle.spec_serve.proofs.Noting.{books_noted, agrees_noted}
use Rattle.spec_serve.proofs.Pairs.{all2_map}
use Rattle.spec_serve.proofs.Promising.{books_promised}
use Rattle.spec_serve.proofs.Connecting.{nobody_there}
use Rattle.spec_serve.proofs.Turning.{turn_others, turn_quiet, turn_heard, turn_taken, turn_opened, turn_closed, turn_halted}
use Rattle.muck_work.specs.inner.Beginnings.{begun}
use Rattle.muck_work.specs.inner.Seats.{Sight, Waited}
use Rattle.muck_peer.specs.Moves.{PeerStep, HasCause}
use Rattle.muck_porter.specs.inner.Notes.{first_note, note_in}
use Rattle.muck_porter.specs.inner.Kept.{tally, BooksAt, PromisedIn, KeptBy}
use Rattle.muck_porter.specs.inner.Turns.{Marked, PorterTurn}
use Rattle.muck_porter.specs.inner.Moves.{MayHalt, LastEntry}
use Rattle.muck_porter.proofs.Items.{same_world, note_append, some_is}

-- an event that no link sees
pub record IsQuiet (event : Event) : Type 0 where
  pub halts : halts event ≡ false
  pub talked : (v : World) (ts : List Talk) → talked v event ts ≡ ts

pub quiet_moment : (t : ℕ) → IsQuiet (Moment t)
quiet_moment t = record { halts = refl; talked = λ v ts. refl }

pub quiet_died : IsQuiet Died
quiet_died = record { halts = refl; talked = λ v ts. refl }

pub quiet_stop : IsQuiet StopSeen
quiet_stop = record { halts = refl; talked = λ v ts. refl }

first_none : (o : LinksNote) → first_note o None ≡ o
first_none None = refl
first_none (Some cs) = refl

-- What is known of the history behind which a turn's entry stands, and of what was seen of it before.
pub record Placed (w u : World) (seen h : List Entry) : Type 0 where
  pub lawful : AllLawful u h
  pub more : StartsWith h seen
  pub own : own_of party_of 0 h ≡ own_of party_of 0 seen
  pub world : w ≡ after u h
  pub nobody : u.live.board.connections ≡ []

module _ (noted noted' : Bool) (k : LinksTold) (v v' : Sight) (w : World) (event : Event) (turn : PorterTurn noted noted' k v v' w event) where
  -- what the seat's own items say of the note of the links
  note_after : note_in v'.own ≡ first_note (note_in v.own) turn.item.counted
  note_after = ap note_in turn.own ∙ note_append v.own (turn.item ∷ []) ∙ ap (first_note (note_in v.own)) (first_none turn.item.counted)

  module _ (known : noted ≡ is_some (note_in v.own)) where
    none_before : noted ≡ false → note_in v.own ≡ None
    none_before is = some_is (note_in v.own) (sym is ∙ known)

    -- whether there is one
    pub turn_noted : noted' ≡ is_some (note_in v'.own)
    turn_noted = from turn.marked
      where
        from : Marked noted noted' k w turn.item.counted → noted' ≡ is_some (note_in v'.own)
        from (Marked.kept same none free) = same ∙ known ∙ ap is_some (sym (note_after ∙ ap (first_note (note_in v.own)) none ∙ first_none (note_in v.own)))
        from (Marked.made was now_is stopping alive is) = now_is ∙ ap is_some (sym (note_after ∙ ap (λ (o : LinksNote). first_note o turn.item.counted) (none_before was) ∙ is))

    -- the books with that note
    books_marked : (b : Tally) (n : ℕ) (peers : List Peer) (coming : Option ℕ) (u : World) (h : List Entry) → BooksOf (note_in v.own) b u h (tally k n) peers coming → BooksOf (note_in v'.own) b u h (tally k n) peers coming
    books_marked b n peers coming u h bk = from turn.marked
      where
        from : Marked noted noted' k w turn.item.counted → BooksOf (note_in v'.own) b u h (tally k n) peers coming
        from (Marked.kept same none free) = subst (λ (o : LinksNote). BooksOf o b u h (tally k n) peers coming) (sym (note_after ∙ ap (first_note (note_in v.own)) none ∙ first_none (note_in v.own))) bk
        from (Marked.made was now_is stopping alive is) =
            subst (λ (o : LinksNote). BooksOf o b u h (tally k n) peers coming) (sym (note_after ∙ ap (λ (o : LinksNote). first_note o turn.item.counted) (none_before was) ∙ is))
            (books_noted b (talks u h) (worlds_at is_halt u h) (tally k n) peers coming (subst (λ (o : LinksNote). BooksOf o b u h (tally k n) peers coming) (none_before was) bk))

    -- and what is promised
    promised_marked : (b : Tally) (n : ℕ) (ts : List Talk) (hs : List World) → Promised (note_in v.own) b ts hs (tally k n) → Promised (note_in v'.own) b ts hs (tally k n)
    promised_marked b n ts hs p = from turn.marked
      where
        with_note : Promised None b ts hs (tally k n) → Promised (Some (counts k.sessions)) b ts hs (tally k n)
        with_note q = record {
          mine = q.mine;
          extra = q.extra;
          whole = q.whole;
          single = q.single;
          agree = all2_map (Agrees None) (Agrees (Some (counts k.sessions))) (agrees_noted (counts k.sessions)) ts q.mine q.agree;
          counts = counts_made k.sessions;
          halts = q.halts;
        }

        from : Marked noted noted' k w turn.item.counted → Promised (note_in v'.own) b ts hs (tally k n)
        from (Marked.kept same none free) = subst (λ (o : LinksNote). Promised o b ts hs (tally k n)) (sym (note_after ∙ ap (first_note (note_in v.own)) none ∙ first_none (note_in v.own))) p
        from (Marked.made was now_is stopping alive is) =
            subst (λ (o : LinksNote). Promised o b ts hs (tally k n)) (sym (note_after ∙ ap (λ (o : LinksNote). first_note o turn.item.counted) (none_before was) ∙ is))
            (with_note (subst (λ (o : LinksNote). Promised o b ts hs (tally k n)) (none_before was) p))

    -- how an entry leads from books to books, with the note that there is then
    abbrev pub Moves : Tally → Tally → Tally → List Peer → List Peer → Option ℕ → Option ℕ → Type 0
    Moves b K K' peers peers' coming coming' = (u : World) (seen h : List Entry) → Placed w u seen h
        → BooksOf (note_in v'.own) b u seen K peers coming → BooksOf (note_in v'.own) b u (h ++ by_porter event ∷ []) K' peers' coming'

    root_before : (u : World) (m : Note) → v'.root ≡ begun u m ∷ [] → v.root ≡ begun u m ∷ []
    root_before u m root = sym turn.lists.0 ∙ root

    placed : (u : World) (m : Note) → v'.root ≡ begun u m ∷ [] → u.live.board.connections ≡ [] → Placed w u (entries_of v.seen) (entries_of (v.seen ++ turn.others))
    placed u m root nobody =
        let h = entries_of (v.seen ++ turn.others) in
        let same : turn.start ≡ u = same_world turn.start u turn.mounting m (sym turn.root ∙ root_before u m root) in
        record {
          lawful = subst (λ (x : World). AllLawful x h) same turn.lawful;
          more = (entries_of turn.others, entries_append v.seen turn.others);
          own = sym (own_entries_of 0 (v.seen ++ turn.others)) ∙ ap entries_of turn.still ∙ own_entries_of 0 v.seen;
          world = turn.world ∙ ap (λ (x : World). after x h) same;
          nobody = nobody;
        }

    entries_after : entries_of v'.seen ≡ entries_of (v.seen ++ turn.others) ++ by_porter event ∷ []
    entries_after = ap entries_of turn.seen ∙ entries_append (v.seen ++ turn.others) (turn.item ∷ []) ∙ ap (λ (e : Entry). entries_of (v.seen ++ turn.others) ++ e ∷ []) turn.entry

    pub turn_books : (b : Tally) (n : ℕ) (K' : Tally) (peers peers' : List Peer) (coming coming' : Option ℕ) → n ≤ K'.listening → (b.listening ≤ n → Moves b (tally k n) K' peers peers' coming coming')
        → BooksAt b v (tally k n) peers coming → BooksAt b v' K' peers' coming'
    turn_books b n K' peers peers' coming coming' more moves bk u m root =
        let bi = bk u m (root_before u m root) in
        let l1 = bi.later in
        let pl = placed u m root bi.nobody in
        record {
          nobody = bi.nobody;
          later = omega arith;
          books = subst (λ (es : List Entry). BooksOf (note_in v'.own) b u es K' peers' coming') (sym entries_after)
              (moves l1 u (entries_of v.seen) (entries_of (v.seen ++ turn.others)) pl (books_marked b n peers coming u (entries_of v.seen) bi.books));
        }

    -- The entries.

    same_event : (b K K' : Tally) (peers peers' : List Peer) (coming coming' : Option ℕ) (u : World) (h : List Entry) (e : Event) → event ≡ e
        → BooksOf (note_in v'.own) b u (h ++ by_porter e ∷ []) K' peers' coming' → BooksOf (note_in v'.own) b u (h ++ by_porter event ∷ []) K' peers' coming'
    same_event b K K' peers peers' coming coming' u h e is bk = subst (λ (x : Event). BooksOf (note_in v'.own) b u (h ++ by_porter x ∷ []) K' peers' coming') (sym is) bk

    -- one that no link sees
    pub carries_quiet : (b : Tally) (n : ℕ) (peers : List Peer) (coming : Option ℕ) → IsQuiet event → BooksAt b v (tally k n) peers coming → BooksAt b v' (tally k n) peers coming
    carries_quiet b n peers coming q bk =
        turn_books b n (tally k n) peers peers coming coming (omega arith)
        (λ l u seen h p x. turn_quiet u seen h p.lawful p.more p.own (note_in v'.own) b (tally k n) peers coming event q.halts q.talked x) bk

    -- one for a link
    pub carries_peer : (b : Tally) (n : ℕ) (peers : List Peer) (coming : Option ℕ) (i : ℕ) (p p' : Peer) → get_elem? peers i ≡ some p → PeerStep p p' w event
        → BooksAt b v (tally k n) peers coming → BooksAt b v' (tally k n) (set peers i p') coming
    carries_peer b n peers coming i p p' at (PeerStep.heard line more is ready same) bk =
        turn_books b n (tally k n) peers (set peers i p') coming coming (omega arith)
        (λ l u seen h pl x. same_event b (tally k n) (tally k n) peers (set peers i p') coming coming u h (Input p.number line) is
        (subst (λ (q : Peer). BooksOf (note_in v'.own) b u (h ++ by_porter (Input p.number line) ∷ []) (tally k n) (set peers i q) coming) (sym same)
        (turn_heard u seen h pl.lawful pl.more pl.own (note_in v'.own) b (tally k n) peers coming i p line more at ready x))) bk
    carries_peer b n peers coming i p p' at (PeerStep.taken m is none_kept same) bk =
        turn_books b n (tally k n) peers (set peers i p') coming coming (omega arith)
        (λ l u seen h pl x. same_event b (tally k n) (tally k n) peers (set peers i p') coming coming u h (Take p.number m) is
        (subst (λ (q : Peer). BooksOf (note_in v'.own) b u (h ++ by_porter (Take p.number m) ∷ []) (tally k n) (set peers i q) coming)
        (sym (same ∙ ap (λ (x : World). let q : Peer = record p { unsent = take m (queue_of p.number x) } in q) pl.world))
        (turn_taken u seen h pl.lawful pl.more pl.own (note_in v'.own) b (tally k n) peers coming i p m at none_kept x))) bk
    carries_peer b n peers coming i p p' at (PeerStep.timed t is same) bk =
        subst (λ (ps : List Peer). BooksAt b v' (tally k n) ps coming) (sym (ap (set peers i) same ∙ set_same peers i p at))
        (carries_quiet b n peers coming (subst IsQuiet (sym is) (quiet_moment t)) bk)

    -- a connection is closed, and then its link
    pub carries_closed : (b : Tally) (n : ℕ) (k' : LinksTold) (peers : List Peer) (coming : Option ℕ) (i : ℕ) (p : Peer) → get_elem? peers i ≡ some p → event ≡ Closed p.number → HasCause p w
        → k' ≡ on_session p.number shut k → BooksAt b v (tally k n) peers coming → BooksAt b v' (tally k' n) (remove peers i) coming
    carries_closed b n k' peers coming i p at is cause told bk =
        turn_books b n (tally k' n) peers (remove peers i) coming coming (omega arith)
        (λ l u seen h pl x. same_event b (tally k n) (tally k' n) peers (remove peers i) coming coming u h (Closed p.number) is
        (subst (λ (x : LinksTold). BooksOf (note_in v'.own) b u (h ++ by_porter (Closed p.number) ∷ []) (tally x n) (remove peers i) coming) (sym told)
        (turn_closed u seen h pl.lawful pl.more pl.own (note_in v'.own) b (tally k n) peers coming i p at
        (λ t s y. subst (λ (z : World). Cause (note_in v'.own) z t s) pl.world (cause (note_in v'.own) t s y)) x))) bk

    -- the link that came is opened, before there is a note
    pub carries_opened : (b : Tally) (n : ℕ) (peers : List Peer) (d : ℕ) (p : Peer) → event ≡ Opened d → noted' ≡ false → p ≡ new_peer d
        → BooksAt b v (tally k n) peers (Some d) → BooksAt b v' (tally k n) (peers ++ p ∷ []) None
    carries_opened b n peers d p is none new bk =
        let without : note_in v'.own ≡ None = some_is (note_in v'.own) (sym none ∙ turn_noted) in
        turn_books b n (tally k n) peers (peers ++ p ∷ []) (Some d) None (omega arith)
        (λ l u seen h pl x. same_event b (tally k n) (tally k n) peers (peers ++ p ∷ []) (Some d) None u h (Opened d) is
        (subst (λ (o : LinksNote). BooksOf o b u (h ++ by_porter (Opened d) ∷ []) (tally k n) (peers ++ p ∷ []) None) (sym without)
        (subst (λ (q : Peer). BooksOf None b u (h ++ by_porter (Opened d) ∷ []) (tally k n) (peers ++ q ∷ []) None) (sym new)
        (turn_opened u seen h pl.lawful pl.more pl.own b (tally k n) peers d (subst (λ (o : LinksNote). BooksOf o b u seen (tally k n) peers (Some d)) without x))))) bk

    -- the run is stopped for a cause
    pub carries_halted : (b : Tally) (n : ℕ) (peers : List Peer) (coming : Option ℕ) → event ≡ Halt → (b.listening ≤ n → MayHalt b (tally k n) peers)
        → BooksAt b v (tally k n) peers coming → BooksAt b v' (tally k n) peers coming
    carries_halted b n peers coming is may bk =
        turn_books b n (tally k n) peers peers coming coming (omega arith)
        (λ l u seen h pl x. same_event b (tally k n) (tally k n) peers peers coming coming u h Halt is
        (turn_halted u seen h pl.lawful pl.more pl.own (note_in v'.own) b (tally k n) peers coming
        (cause u seen h pl (may l) (turn_others u seen h pl.lawful pl.more pl.own (note_in v'.own) b (tally k n) peers coming x)) x)) bk
      where
        cause : (u : World) (seen h : List Entry) → Placed w u seen h → MayHalt b (tally k n) peers → BooksOf (note_in v'.own) b u h (tally k n) peers coming → HaltCause b (tally k n) (after u h)
        cause u seen h pl (inl rose) x = inl rose
        cause u seen h pl (inr (over, none)) x =
            inr (over, nobody_there (note_in v'.own) b u h (tally k n) peers coming pl.nobody pl.lawful (subst (λ (ps : List Peer). BooksOf (note_in v'.own) b u h (tally k n) ps coming) none x))

    -- A last entry, that no link sees.
    pub last_entry : (n : ℕ) → IsQuiet event → v'.own ≡ own_of logged_by 0 v'.seen → LastEntry (tally k n) (tally k n) v v'
    last_entry n q own b promise = record {
      front = v'.seen;
      seen = ([], sym (append-nil v'.seen));
      own = own;
      promised = λ u m root.
          let pl = placed_only u m root in
          let h = entries_of (v.seen ++ turn.others) in
          subst (λ (es : List Entry). PromisedOf (note_in v'.own) b u es (tally k n)) (sym entries_after)
          (subst (λ (ts : List Talk). Promised (note_in v'.own) b ts (worlds_at is_halt u (h ++ by_porter event ∷ [])) (tally k n))
          (sym (talks_turned u (entries_of v.seen) h (by_porter event) pl.0 pl.1 pl.2 ∙ q.talked (after u h) (talks u (entries_of v.seen))))
          (subst (λ (hs : List World). Promised (note_in v'.own) b (talks u (entries_of v.seen)) hs (tally k n)) (sym (no_more u h pl))
          (promised_marked b n (talks u (entries_of v.seen)) (worlds_at is_halt u (entries_of v.seen)) (promise u m (root_before u m root)))));
    }
      where
        placed_only : (u : World) (m : Note) → v'.root ≡ begun u m ∷ []
            → AllLawful u (entries_of (v.seen ++ turn.others)) × StartsWith (entries_of (v.seen ++ turn.others)) (entries_of v.seen)
            × (own_of party_of 0 (entries_of (v.seen ++ turn.others)) ≡ own_of party_of 0 (entries_of v.seen))
        placed_only u m root = (
          subst (λ (x : World). AllLawful x (entries_of (v.seen ++ turn.others))) (same_world turn.start u turn.mounting m (sym turn.root ∙ root_before u m root)) turn.lawful,
          (entries_of turn.others, entries_append v.seen turn.others),
          sym (own_entries_of 0 (v.seen ++ turn.others)) ∙ ap entries_of turn.still ∙ own_entries_of 0 v.seen,
        )

        no_more : (u : World) (h : List Entry)
            → AllLawful u h × StartsWith h (entries_of v.seen) × (own_of party_of 0 h ≡ own_of party_of 0 (entries_of v.seen))
            → worlds_at is_halt u (h ++ by_porter event ∷ []) ≡ worlds_at is_halt u (entries_of v.seen)
        no_more u h pl =
            halts_turned u (entries_of v.seen) h (by_porter event) pl.0 pl.1 pl.2
            ∙ ap (λ (t : Bool). worlds_at is_halt u (entries_of v.seen) ++ (if t then after u h ∷ [] else [])) q.halts
            ∙ append-nil (worlds_at is_halt u (entries_of v.seen))

-- What is kept is promised.
pub promised_in : (b : Tally) (v : Sight) (K : Tally) (peers : List Peer) (coming : Option ℕ) → BooksAt b v K peers coming → PromisedIn b v v.seen K
promised_in b v K peers coming bk u m root = books_promised (note_in v.own) b (talks u (entries_of v.seen)) (worlds_at is_halt u (entries_of v.seen)) K peers coming (bk u m root).books

-- at a seat that knows its own
pub kept_now : (b : Tally) (v : Sight) (K : Tally) → v.own ≡ own_of logged_by 0 v.seen → PromisedIn b v v.seen K → KeptBy b v K
kept_now b v K own promise = record { front = v.seen; seen = ([], sym (append-nil v.seen)); own = own; promised = promise }

-- at a seat that has only waited since
pub kept_waited : (b : Tally) (v v' : Sight) (K : Tally) → v.own ≡ own_of logged_by 0 v.seen → Waited v v' → PromisedIn b v v.seen K → KeptBy b v' K
kept_waited b v v' K own waited promise = record {
  front = v.seen;
  seen = waited.0;
  own = waited.1 ∙ own;
  promised = λ u m root. subst (λ (ls : List Logged). PromisedOf (note_in ls) b u (entries_of v.seen) K) (sym waited.1) (promise u m (sym waited.5 ∙ root));
}
