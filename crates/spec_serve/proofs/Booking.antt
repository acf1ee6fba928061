-- The books of all links, step by step.
use Rattle.std.proofs.Common.{true≢false, ◌≡◌, ◌≢◌, ◌⊎◌, ℕ, zero, suc, ◌<◌, ◌≤◌, true, false, List, [], ◌∷◌, ◌++◌, length, set, refl, sym, ap, ◌∙◌, subst, inl, inr, ⊎_elim, arith, Option, Some, None}
use Rattle.std.proofs.lemmas.Option.{same_Some, none-some}
use Rattle.std.specs.List.{remove}
use mathlib.Core.Option.{some, some-ne-none, some-injective}
use mathlib.Core.Logic.{dite}
use native.Mathlib.Decide.{ℕ_discrete}
use lib.ListN.{get_elem?}
use Rattle.muck_laws.proofs.Places.{at_removed, set_there, still_at}
use Rattle.atomic_table.proofs.Lists.{at_set, set_else, at_snoc, at_longer}
use Rattle.muck_io.specs.Faults.{one_more}
use Rattle.muck_links.specs.Keyed.{altered, latest}
use Rattle.muck_links.specs.Sessions.{Session, LinksTold, session_number, accepted, on_session, is_session_open, is_used, shut}
use Rattle.muck_links.proofs.Keys.{altered_same, told_same}
use Rattle.spec_events.specs.World.{World}
use Rattle.spec_talks.specs.Talks.{Talk, talk_of, talk_begun, ended_in}
use Rattle.spec_serve.specs.Marks.{LinksNote, AreCountsOf}
use Rattle.spec_serve.specs.Accounts.{Agrees, Cause}
use Rattle.spec_serve.specs.Promises.{Tally, HaltCause, HaltsCaused}
use Rattle.spec_serve.specs.inner.Keeping.{Keeps, Peer, new_peer}
use Rattle.spec_serve.specs.inner.Books.{with_told, Waits, Books}
use Rattle.spec_serve.proofs.Keys.{latest_altered, latest_else, altered_front, latest_front, altered_behind, latest_behind, latest_head}
use Rattle.spec_serve.proofs.Pairs.{all2_altered}
use Rattle.spec_serve.proofs.Counted.{counts_came, counts_altered}
use Rattle.spec_serve.proofs.Accounting.{keeps_agrees, keeps_new, keeps_closed}

pub same_number : (counted : LinksNote) (t : Talk) (s : Session) → Agrees counted t s → talk_of t ≡ session_number s
same_number counted t s a = a.number

-- a change of a link of ours leaves what waits and what was before
pub through : (d : ℕ) (g : Session → Session) (coming : Option ℕ) (extra mine before : List Session) (s : Session) → Waits coming extra → ((c : ℕ) → coming ≡ Some c → ¬ (c ≡ d))
    → latest session_number d mine ≡ Some s → altered session_number d g (extra ++ (mine ++ before)) ≡ extra ++ (altered session_number d g mine ++ before)
through d g None extra mine before s waits away there =
    ap (λ (l : List Session). altered session_number d g (l ++ (mine ++ before))) waits
    ∙ altered_front session_number d g mine before s there
    ∙ ap (λ (l : List Session). l ++ (altered session_number d g mine ++ before)) (sym waits)
through d g (Some c) extra mine before s waits away there =
    ap (λ (l : List Session). altered session_number d g (l ++ (mine ++ before))) waits
    ∙ altered_behind session_number d g (accepted c) (mine ++ before) (away c refl)
    ∙ ap (λ (l : List Session). accepted c ∷ l) (altered_front session_number d g mine before s there)
    ∙ ap (λ (l : List Session). l ++ (altered session_number d g mine ++ before)) (sym waits)

-- what one peer's step does to the books
pub books_changed : (counted : LinksNote) (b : Tally) (ts : List Talk) (hs : List World) (k : Tally) (peers : List Peer) (coming : Option ℕ)
    (i d : ℕ) (p p' : Peer) (f : Talk → Talk) (g : Session → Session) → get_elem? peers i ≡ some p → p.number ≡ d → p'.number ≡ d
    → ((t : Talk) → talk_of (f t) ≡ talk_of t) → ((s : Session) → session_number (g s) ≡ session_number s) → ((s : Session) → s.refused ≤ (g s).refused)
    → ((t : Talk) (s : Session) → latest talk_of d ts ≡ Some t → Keeps counted p t s → Keeps counted p' (f t) (g s))
    → Books counted b ts hs k peers coming → Books counted b (altered talk_of d f ts) hs (with_told (on_session d g k.told) k) (set peers i p') coming
books_changed counted b ts hs k peers coming i d p p' f g at is is' tells links refuses keeps bk =
    let m = bk.kept i p at in
    let t = m.0 in
    let s = m.1 in
    let lt : latest talk_of d ts ≡ Some t = subst (λ (n : ℕ). latest talk_of n ts ≡ Some t) is m.2 in
    let ls : latest session_number d bk.mine ≡ Some s = subst (λ (n : ℕ). latest session_number n bk.mine ≡ Some s) is m.3 in
    let now : Keeps counted p' (f t) (g s) = keeps t s lt m.4 in
    record {
      mine = altered session_number d g bk.mine;
      extra = bk.extra;
      whole = ap (λ (l : List Session). altered session_number d g l) bk.whole
          ∙ through d g coming bk.extra bk.mine b.told.sessions s bk.waits (λ c e same. bk.away c e i p at (is ∙ sym same)) ls;
      waits = bk.waits;
      agree = all2_altered talk_of session_number (Agrees counted) (same_number counted) d f g ts bk.mine t s bk.agree lt ls (keeps_agrees counted p' (f t) (g s) now);
      kept = λ j q atj. ⊎_elim
          (λ (x : (j ≡ i) × (p' ≡ q)). subst (λ (y : Peer). Kept y) x.1 (
            f t,
            g s,
            subst (λ (n : ℕ). latest talk_of n (altered talk_of d f ts) ≡ Some (f t)) (sym is') (latest_altered talk_of d f tells ts t lt),
            subst (λ (n : ℕ). latest session_number n (altered session_number d g bk.mine) ≡ Some (g s)) (sym is') (latest_altered session_number d g links bk.mine s ls),
            now,
          ))
          (λ (x : (j ≢ i) × (get_elem? peers j ≡ some q)).
          let o = bk.kept j q x.1 in
          let ne : d ≢ q.number = λ e. x.0 (bk.apart j i q p x.1 at (sym e ∙ sym is)) in
          (o.0, o.1, latest_else talk_of d q.number f ne tells ts ∙ o.2, latest_else session_number d q.number g ne links bk.mine ∙ o.3, o.4))
          (at_set peers i j p' q atj);
      apart = λ j j' q q' a a' e. let o = before j q a in let o' = before j' q' a' in bk.apart j j' o.0 o'.0 o.1 o'.1 (o.2 ∙ e ∙ sym o'.2);
      away = λ c e j q a. let o = before j q a in λ (same : q.number ≡ c). bk.away c e j o.0 o.1 (o.2 ∙ same);
      known = λ d' t' l live. dite (ℕ_discrete d' d)
          (λ here. (i, p', set_there peers i p p' at, is' ∙ sym here))
          (λ other. let o = bk.known d' t' (sym (latest_else talk_of d d' f (λ e. other (sym e)) tells ts) ∙ l) live in
          (o.0, o.1, set_else peers i o.0 p' (λ e. other (sym o.3 ∙ ap (λ (y : Peer). y.number) (some-injective o.1 p (sym o.2 ∙ ap (λ (n : ℕ). get_elem? peers n) e ∙ at)) ∙ is)) ∙ o.2, o.3));
      counts = counts_altered d g links refuses counted k.told.sessions bk.counts;
      halts = bk.halts;
    }
  where
    Kept : Peer → Type 0
    Kept q = (t : Talk) × (s : Session) × (latest talk_of q.number (altered talk_of d f ts) ≡ Some t) × (latest session_number q.number (altered session_number d g bk.mine) ≡ Some s) × Keeps counted q t s

    -- who stood at a place before has the same number
    before : (j : ℕ) (q : Peer) → get_elem? (set peers i p') j ≡ some q → (o : Peer) × (get_elem? peers j ≡ some o) × (o.number ≡ q.number)
    before j q a = ⊎_elim
        (λ (x : (j ≡ i) × (p' ≡ q)). (p, ap (λ (n : ℕ). get_elem? peers n) x.0 ∙ at, is ∙ sym is' ∙ ap (λ (y : Peer). y.number) x.1))
        (λ (x : (j ≢ i) × (get_elem? peers j ≡ some q)). (q, x.1, refl))
        (at_set peers i j p' q a)

-- a call for one link
pub books_linked : (counted : LinksNote) (b : Tally) (ts : List Talk) (hs : List World) (k : Tally) (peers : List Peer) (coming : Option ℕ)
    (i : ℕ) (p p' : Peer) (g : Session → Session) → get_elem? peers i ≡ some p → p'.number ≡ p.number → ((s : Session) → session_number (g s) ≡ session_number s) → ((s : Session) → s.refused ≤ (g s).refused)
    → ((t : Talk) (s : Session) → Keeps counted p t s → Keeps counted p' t (g s))
    → Books counted b ts hs k peers coming → Books counted b ts hs (with_told (on_session p.number g k.told) k) (set peers i p') coming
books_linked counted b ts hs k peers coming i p p' g at same links refuses keeps bk =
    subst (λ (l : List Talk). Books counted b l hs (with_told (on_session p.number g k.told) k) (set peers i p') coming) (altered_same talk_of p.number (λ t. t) (λ t. refl) ts)
    (books_changed counted b ts hs k peers coming i p.number p p' (λ t. t) g at refl same (λ t. refl) links refuses (λ t s l x. keeps t s x) bk)

-- an entry for one connection
pub books_talked : (counted : LinksNote) (b : Tally) (ts : List Talk) (hs : List World) (k : Tally) (peers : List Peer) (coming : Option ℕ)
    (i : ℕ) (p p' : Peer) (f : Talk → Talk) → get_elem? peers i ≡ some p → p'.number ≡ p.number → ((t : Talk) → talk_of (f t) ≡ talk_of t)
    → ((t : Talk) (s : Session) → Keeps counted p t s → Keeps counted p' (f t) s)
    → Books counted b ts hs k peers coming → Books counted b (altered talk_of p.number f ts) hs k (set peers i p') coming
books_talked counted b ts hs k peers coming i p p' f at same talks keeps bk =
    subst (λ (x : LinksTold). Books counted b (altered talk_of p.number f ts) hs (with_told x k) (set peers i p') coming) (sym (told_same p.number (λ s. s) (λ s. refl) k.told))
    (books_changed counted b ts hs k peers coming i p.number p p' f (λ s. s) at refl same talks (λ s. refl) (λ s. omega arith) (λ t s l x. keeps t s x) bk)

-- as the call begins
pub books_begin : (b : Tally) → Books None b [] [] b [] None
books_begin b = record {
  mine = [];
  extra = [];
  whole = refl;
  waits = refl;
  agree = tt;
  kept = λ i p at. absurd (some-ne-none p (sym at));
  apart = λ i j p q at at' e. absurd (some-ne-none p (sym at));
  away = λ d e i p at. absurd (some-ne-none p (sym at));
  known = λ d t l live. absurd (none-some t l);
  counts = tt;
  halts = λ i w at. absurd (some-ne-none w (sym at));
}

-- What the links tell beside their sessions.

-- a cause of a halt stays one
halt_later : (b k k' : Tally) (w : World) → k.listening ≤ k'.listening → (k.told.over ≡ true → k'.told.over ≡ true) → HaltCause b k w → HaltCause b k' w
halt_later b k k' w more over (inl rose) = inl (longer (one_more b.listening) k.listening k'.listening rose more)
  where
    longer : (a n m : ℕ) → a ≤ n → n ≤ m → a ≤ m
    longer a n m x y = omega arith
halt_later b k k' w more over (inr (is, nobody)) = inr (over is, nobody)

pub halts_later : (b k k' : Tally) (hs : List World) → k.listening ≤ k'.listening → (k.told.over ≡ true → k'.told.over ≡ true) → HaltsCaused b hs k → HaltsCaused b hs k'
halts_later b k k' hs more over halts i w at = halt_later b k k' w more over (halts i w at)

-- No session changed: a call listened, or asked for a link where none came, or none will come any more.
pub books_still : (counted : LinksNote) (b : Tally) (ts : List Talk) (hs : List World) (k k' : Tally) (peers : List Peer) (coming : Option ℕ)
    → k'.told.sessions ≡ k.told.sessions → k.listening ≤ k'.listening → (k.told.over ≡ true → k'.told.over ≡ true) → Books counted b ts hs k peers coming → Books counted b ts hs k' peers coming
books_still counted b ts hs k k' peers coming same more over bk = record {
  mine = bk.mine;
  extra = bk.extra;
  whole = same ∙ bk.whole;
  waits = bk.waits;
  agree = bk.agree;
  kept = bk.kept;
  apart = bk.apart;
  away = bk.away;
  known = bk.known;
  counts = subst (AreCountsOf counted) (sym same) bk.counts;
  halts = halts_later b k k' hs more over bk.halts;
}

-- a link comes
pub books_came : (counted : LinksNote) (b : Tally) (ts : List Talk) (hs : List World) (k k' : Tally) (peers : List Peer) (d : ℕ)
    → k'.told ≡ record k.told { sessions = accepted d ∷ k.told.sessions } → is_used d k.told.sessions ≡ false → k.listening ≤ k'.listening
    → Books counted b ts hs k peers None → Books counted b ts hs k' peers (Some d)
books_came counted b ts hs k k' peers d is unused more bk = record {
  mine = bk.mine;
  extra = accepted d ∷ [];
  whole = ap (λ (x : LinksTold). x.sessions) is ∙ ap (λ (l : List Session). accepted d ∷ l) before;
  waits = refl;
  agree = bk.agree;
  kept = bk.kept;
  apart = bk.apart;
  away = λ c e i p at. let m = bk.kept i p at in λ (same : p.number ≡ c).
      true≢false (sym m.4.in_use
      ∙ ap is_session_open (sym (latest_front session_number d bk.mine b.told.sessions m.1 (subst (λ (n : ℕ). latest session_number n bk.mine ≡ Some m.1) (same ∙ sym (same_Some d c e)) m.3)))
      ∙ ap (λ (l : List Session). is_session_open (latest session_number d l)) (sym before) ∙ unused);
  known = bk.known;
  counts = subst (AreCountsOf counted) (sym (ap (λ (x : LinksTold). x.sessions) is)) (counts_came counted (accepted d) k.told.sessions bk.counts);
  halts = halts_later b k k' hs more (λ over. ap (λ (x : LinksTold). x.over) is ∙ over) bk.halts;
}
  where
    before : k.told.sessions ≡ bk.mine ++ b.told.sessions
    before = bk.whole ∙ ap (λ (l : List Session). l ++ (bk.mine ++ b.told.sessions)) bk.waits

-- it is opened, before there is a note
pub books_opened : (b : Tally) (ts : List Talk) (hs : List World) (k : Tally) (peers : List Peer) (d : ℕ) (p : Peer) → p ≡ new_peer d
    → Books None b ts hs k peers (Some d) → Books None b (talk_begun d ∷ ts) hs k (peers ++ p ∷ []) None
books_opened b ts hs k peers d p is bk = record {
  mine = accepted d ∷ bk.mine;
  extra = [];
  whole = bk.whole ∙ ap (λ (l : List Session). l ++ (bk.mine ++ b.told.sessions)) bk.waits;
  waits = refl;
  agree = (keeps_agrees None (new_peer d) (talk_begun d) (accepted d) (keeps_new d), bk.agree);
  kept = λ i q at. ⊎_elim
      (λ (x : get_elem? peers i ≡ some q).
      let o = bk.kept i q x in
      let ne : ¬ (d ≡ q.number) = λ e. bk.away d refl i q x (sym e) in
      (o.0, o.1, latest_behind talk_of q.number (talk_begun d) ts ne ∙ o.2, latest_behind session_number q.number (accepted d) bk.mine ne ∙ o.3, o.4))
      (λ (x : p ≡ q). subst (λ (y : Peer). Kept y) (sym is ∙ x)
      (talk_begun d, accepted d, latest_head talk_of d (talk_begun d) ts refl, latest_head session_number d (accepted d) bk.mine refl, keeps_new d))
      (at_snoc peers p q i at);
  apart = λ i j q r a a' e. ⊎_elim
      (λ (x : get_elem? peers i ≡ some q). ⊎_elim
      (λ (y : get_elem? peers j ≡ some r). bk.apart i j q r x y e)
      (λ (y : p ≡ r). absurd (bk.away d refl i q x (e ∙ sym (ap (λ (z : Peer). z.number) (sym is ∙ y)))))
      (at_snoc peers p r j a'))
      (λ (x : p ≡ q). ⊎_elim
      (λ (y : get_elem? peers j ≡ some r). absurd (bk.away d refl j r y (sym e ∙ sym (ap (λ (z : Peer). z.number) (sym is ∙ x)))))
      (λ (y : p ≡ r). place peers (λ n z atz. bk.away d refl n z atz) i q a x ∙ sym (place peers (λ n z atz. bk.away d refl n z atz) j r a' y))
      (at_snoc peers p r j a'))
      (at_snoc peers p q i a);
  away = λ c e i q at. absurd (none-some c e);
  known = λ d' t l live. dite (ℕ_discrete d d')
      (λ here. let last = at_end peers p in (last.0, p, last.1, ap (λ (z : Peer). z.number) is ∙ here))
      (λ other. let o = bk.known d' t (sym (latest_behind talk_of d' (talk_begun d) ts other) ∙ l) live in (o.0, o.1, at_longer peers (p ∷ []) o.0 o.1 o.2, o.3));
  counts = tt;
  halts = bk.halts;
}
  where
    Kept : Peer → Type 0
    Kept q = (t : Talk) × (s : Session) × (latest talk_of q.number (talk_begun d ∷ ts) ≡ Some t) × (latest session_number q.number (accepted d ∷ bk.mine) ≡ Some s) × Keeps None q t s

    at_end : (xs : List Peer) (x : Peer) → (i : ℕ) × (get_elem? (xs ++ x ∷ []) i ≡ some x)
    at_end [] x = (0, refl)
    at_end (y ∷ ys) x = let h = at_end ys x in (suc h.0, h.1)

    place : (xs : List Peer) → ((n : ℕ) (z : Peer) → get_elem? xs n ≡ some z → ¬ (z.number ≡ d)) → (i : ℕ) (q : Peer) → get_elem? (xs ++ p ∷ []) i ≡ some q → p ≡ q → i ≡ length xs
    place [] free zero q a e = refl
    place [] free (suc i) q a e = absurd (some-ne-none q (sym a))
    place (x ∷ xs) free zero q a e = absurd (free 0 q a (sym (ap (λ (z : Peer). z.number) (sym is ∙ e))))
    place (x ∷ xs) free (suc i) q a e = ap suc (place xs (λ n z atz. free (suc n) z atz) i q a e)

-- it is closed
pub books_closed : (counted : LinksNote) (b : Tally) (ts : List Talk) (hs : List World) (k : Tally) (peers peers' : List Peer) (coming : Option ℕ)
    (i d : ℕ) (p : Peer) (w : World) → get_elem? peers i ≡ some p → p.number ≡ d → peers' ≡ remove peers i
    → ((t : Talk) (s : Session) → latest talk_of d ts ≡ Some t → Keeps counted p t s → Cause counted w t s)
    → Books counted b ts hs k peers coming → Books counted b (altered talk_of d (ended_in w) ts) hs (with_told (on_session d shut k.told) k) peers' coming
books_closed counted b ts hs k peers peers' coming i d p w at is gone cause bk =
    let m = bk.kept i p at in
    let t = m.0 in
    let s = m.1 in
    let lt : latest talk_of d ts ≡ Some t = subst (λ (n : ℕ). latest talk_of n ts ≡ Some t) is m.2 in
    let ls : latest session_number d bk.mine ≡ Some s = subst (λ (n : ℕ). latest session_number n bk.mine ≡ Some s) is m.3 in
    record {
      mine = altered session_number d shut bk.mine;
      extra = bk.extra;
      whole = ap (λ (l : List Session). altered session_number d shut l) bk.whole
          ∙ through d shut coming bk.extra bk.mine b.told.sessions s bk.waits (λ c e same. bk.away c e i p at (is ∙ sym same)) ls;
      waits = bk.waits;
      agree = all2_altered talk_of session_number (Agrees counted) (same_number counted) d (ended_in w) shut ts bk.mine t s bk.agree lt ls (keeps_closed counted p t s w (cause t s lt m.4) m.4);
      kept = λ j q atj.
          let o = old j q atj in
          let c = bk.kept o.0 q o.1 in
          let ne : d ≢ q.number = λ e. not_there i j o.0 o.2 (bk.apart o.0 i q p o.1 at (sym e ∙ sym is)) in
          (c.0, c.1, latest_else talk_of d q.number (ended_in w) ne (λ x. refl) ts ∙ c.2, latest_else session_number d q.number shut ne (λ x. refl) bk.mine ∙ c.3, c.4);
      apart = λ j j' q q' a a' e.
          let o = old j q a in
          let o' = old j' q' a' in
          one_place i j j' o.0 o'.0 o.2 o'.2 (bk.apart o.0 o'.0 q q' o.1 o'.1 e);
      away = λ c e j q a. let o = old j q a in bk.away c e o.0 q o.1;
      known = λ d' t' l live. dite (ℕ_discrete d' d)
          (λ here. absurd (some_closed w (ap (λ (x : Talk). x.closed) (same_Some (ended_in w t) t' (sym (latest_altered talk_of d (ended_in w) (λ x. refl) ts t lt) ∙ ap (λ (n : ℕ). latest talk_of n (altered talk_of d (ended_in w) ts)) (sym here) ∙ l)) ∙ live)))
          (λ other.
          let o = bk.known d' t' (sym (latest_else talk_of d d' (ended_in w) (λ e. other (sym e)) (λ x. refl) ts) ∙ l) live in
          let n = still_at peers i o.0 o.1 o.2 (λ e. other (sym o.3 ∙ ap (λ (y : Peer). y.number) (some-injective o.1 p (sym o.2 ∙ ap (λ (m : ℕ). get_elem? peers m) e ∙ at)) ∙ is)) in
          (n.0, o.1, ap (λ (l : List Peer). get_elem? l n.0) gone ∙ n.1, o.3));
      counts = counts_altered d shut (λ x. refl) (λ x. omega arith) counted k.told.sessions bk.counts;
      halts = bk.halts;
    }
  where
    Side : ℕ → ℕ → ℕ → Type 0
    Side i j n = ((j < i) × (n ≡ j)) ⊎ ((i ≤ j) × (n ≡ suc j))

    old : (j : ℕ) (q : Peer) → get_elem? peers' j ≡ some q → (n : ℕ) × (get_elem? peers n ≡ some q) × Side i j n
    old j q a = ⊎_elim
        (λ (x : (j < i) × (get_elem? peers j ≡ some q)). (j, x.1, inl (x.0, refl)))
        (λ (x : (i ≤ j) × (get_elem? peers (suc j) ≡ some q)). (suc j, x.1, inr (x.0, refl)))
        (at_removed peers i j q (sym (ap (λ (l : List Peer). get_elem? l j) gone) ∙ a))

    not_there : (i j n : ℕ) → Side i j n → n ≢ i
    not_there i j n (inl (lt, e)) h = absurd (omega arith)
    not_there i j n (inr (le, e)) h = absurd (omega arith)

    one_place : (i j j' n n' : ℕ) → Side i j n → Side i j' n' → n ≡ n' → j ≡ j'
    one_place i j j' n n' (inl (a, e)) (inl (a', e')) h = omega arith
    one_place i j j' n n' (inl (a, e)) (inr (a', e')) h = absurd (omega arith)
    one_place i j j' n n' (inr (a, e)) (inl (a', e')) h = absurd (omega arith)
    one_place i j j' n n' (inr (a, e)) (inr (a', e')) h = omega arith

    some_closed : (x : World) → ◌≡◌ {A = Option World} (Some x) None → ⊥
    some_closed x e = none-some x (sym e)

-- the run is stopped for a cause
pub books_halted : (counted : LinksNote) (b : Tally) (ts : List Talk) (hs : List World) (k : Tally) (peers : List Peer) (coming : Option ℕ) (w : World) → HaltCause b k w
    → Books counted b ts hs k peers coming → Books counted b ts (hs ++ w ∷ []) k peers coming
books_halted counted b ts hs k peers coming w cause bk = record {
  mine = bk.mine;
  extra = bk.extra;
  whole = bk.whole;
  waits = bk.waits;
  agree = bk.agree;
  kept = bk.kept;
  apart = bk.apart;
  away = bk.away;
  known = bk.known;
  counts = bk.counts;
  halts = λ i x at. ⊎_elim (λ (y : get_elem? hs i ≡ some x). bk.halts i x y) (λ (y : w ≡ x). subst (HaltCause b k) y cause) (at_snoc hs w x i at);
}
