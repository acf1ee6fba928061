-- Who is connected, against the books.
use Rattle.std.proofs.Common.{◌≡◌, ℕ, true, false, List, [], refl, sym, ap, ◌∙◌, Option, Some, None}
use Rattle.std.specs.Prelude.{is_some, is_none}
use mathlib.Core.Option.{some, some-ne-none}
use lib.ListN.{get_elem?}
use Rattle.muck_links.specs.Keyed.{latest}
use Rattle.muck_links.specs.Sessions.{Session, session_number}
use Rattle.muck_model.specs.declared.event.Entry.{Entry}
use Rattle.spec_live.specs.Connections.{Connection}
use Rattle.spec_events.specs.World.{World, connection}
use Rattle.spec_events.specs.Histories.{after, AllLawful}
use Rattle.spec_talks.specs.Talks.{Talk, talk_of, talks, is_open}
use Rattle.spec_talks.proofs.Connected.{connected}
use Rattle.spec_serve.specs.Marks.{LinksNote}
use Rattle.spec_serve.specs.Accounts.{WorkedOff}
use Rattle.spec_serve.specs.Promises.{Tally, OpenWorkedOff}
use Rattle.spec_serve.specs.inner.Keeping.{Peer}
use Rattle.spec_serve.specs.inner.Books.{BooksOf}

module _ (counted : LinksNote) (b : Tally) (w : World) (h : List Entry) (k : Tally) (peers : List Peer) (coming : Option ℕ)
    (nobody : w.live.board.connections ≡ []) (lawful : AllLawful w h) where
  none_of : (o : Option Connection) → is_some o ≡ false → o ≡ None
  none_of None e = refl
  none_of (Some c) e = absurd cc

  -- a connection whose latest talk isn't open isn't there
  not_there : (d : ℕ) → ((t : Talk) → latest talk_of d (talks w h) ≡ Some t → t.closed ≡ None → ⊥) → connection d (after w h) ≡ None
  not_there d shut = none_of (connection d (after w h)) (connected w h nobody lawful d ∙ by_latest (latest talk_of d (talks w h)) refl)
    where
      by_closed : (o : Option World) → (o ≡ None → ⊥) → is_none o ≡ false
      by_closed None f = absurd (f refl)
      by_closed (Some v) f = refl

      by_latest : (o : Option Talk) → latest talk_of d (talks w h) ≡ o → is_open o ≡ false
      by_latest None e = refl
      by_latest (Some t) e = by_closed t.closed (shut t e)

  -- A peer's connection is there, so it may be closed.
  pub peer_there : BooksOf counted b w h k peers coming → (i : ℕ) (p : Peer) → get_elem? peers i ≡ some p → is_some (connection p.number (after w h)) ≡ true
  peer_there bk i p at =
      let m = bk.kept i p at in
      connected w h nobody lawful p.number ∙ ap is_open m.2 ∙ ap is_none m.4.not_closed

  -- That of a link that comes isn't, so it may be opened.
  pub coming_not_there : BooksOf counted b w h k peers coming → (d : ℕ) → coming ≡ Some d → connection d (after w h) ≡ None
  coming_not_there bk d comes = not_there d (λ t there not_closed. let o = bk.known d t there not_closed in bk.away d comes o.0 o.1 o.2 o.3)

  -- Where there is no peer, nobody is connected.
  pub nobody_there : BooksOf counted b w h k [] coming → (d : ℕ) → connection d (after w h) ≡ None
  nobody_there bk d = not_there d (λ t there not_closed. let o = bk.known d t there not_closed in some-ne-none o.1 (sym o.2))

  -- The connections that are there are worked off, where those are whose talks are open.
  pub there_worked_off : (v : World) → OpenWorkedOff counted v (talks w h) k → (d : ℕ) → is_some (connection d (after w h)) ≡ true
      → (t : Talk) × (s : Session) × (latest talk_of d (talks w h) ≡ Some t) × (latest session_number d k.told.sessions ≡ Some s) × WorkedOff counted v t s
  there_worked_off v worked d there = by_latest (latest talk_of d (talks w h)) refl (sym (connected w h nobody lawful d) ∙ there)
    where
      none_closed : (o : Option World) → is_none o ≡ true → o ≡ None
      none_closed None e = refl
      none_closed (Some x) e = absurd cc

      by_latest : (o : Option Talk) → latest talk_of d (talks w h) ≡ o → is_open o ≡ true
          → (t : Talk) × (s : Session) × (latest talk_of d (talks w h) ≡ Some t) × (latest session_number d k.told.sessions ≡ Some s) × WorkedOff counted v t s
      by_latest None e is = absurd cc
      by_latest (Some t) e is = let m = worked d t e (none_closed t.closed is) in (t, m.0, e, m.1, m.2)
