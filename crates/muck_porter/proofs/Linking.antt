-- Calls of the links, at the desk.
use Rattle.std.proofs.Common.{◌≡◌, ◌⊎◌, ℕ, ◌≤◌, Bool, true, false, List, ◌∷◌, refl, sym, ap, ◌∙◌, subst, inl, inr, arith, Option, Some, None}
use Rattle.muck_io.specs.Faults.{Rose}
use Rattle.muck_links.specs.Sessions.{LinksTold, accepted, is_used}
use Rattle.spec_serve.specs.Promises.{Tally}
use Rattle.spec_serve.specs.inner.Keeping.{Peer, new_peer}
use Rattle.muck_porter.specs.declared.desk.Fault.{Fault}
use Rattle.muck_porter.specs.declared.deeds.Deed.TheVariants.{Die}
use Rattle.muck_porter.specs.inner.Kept.{tally, BooksAt, PromisedIn}
use Rattle.muck_porter.specs.inner.Moves.{Carries, Tends, Loses, number_in, IsNew}
use Rattle.muck_porter.specs.inner.Desks.{Stand, Far, Stands, Booked, Goes}
use Rattle.muck_porter.specs.inner.Reaches.{EndsLast}
use Rattle.muck_porter.proofs.Carrying.{promised_in}
use Rattle.muck_porter.proofs.InRounds.{told_came, told_same_on, told_over, came_carries, tended}
use Rattle.muck_porter.proofs.Going.{broken}
use Rattle.muck_porter.proofs.Rising.{rose_since, rose_on}

module _ (d : Stand) (tells' : Bool) (told' : LinksTold) (listening' : ℕ) (tells : tells' ≡ d.tells) (later : d.listening ≤ listening') (ports : d.tells ≡ true → told'.ports ≡ d.told.ports) where
  -- the desk behind the call, and what else became of what is kept
  abbrev pub linked : Bool → List Peer → Option Peer → Stand
  linked broke' peers' coming' = record d { tells = tells'; told = told'; listening = listening'; broke = broke'; peers = peers'; coming = coming' }

  pub links_goes : (broke' : Bool) (peers' : List Peer) (coming' : Option Peer) → Stands Far.free d → (broke' ≡ true → (d.broke ≡ true) ⊎ Rose d.listening listening') → IsNew coming'
      → (d.tells ≡ true → Carries d.me.0 d.me.0 (tally d.told d.listening) (tally told' listening') d.peers peers' (number_in d.coming) (number_in coming')) → Goes Far.free d (linked broke' peers' coming')
  links_goes broke' peers' coming' stands broke new carries = record {
    names = (refl, refl, refl);
    own = (refl, refl, refl);
    lists = (refl, refl, refl);
    time = λ before t. t;
    tells = tells;
    later = later;
    broke = broke;
    ports = ports;
    stands = ((stands.0.0, new), stands.1);
    books = λ t b bk. let since = bk.since in record { since = omega arith; broke = λ e. rose b bk (broke e); books = carries t b bk.books };
  }
    where
      rose : (b : Tally) → Booked b d → (d.broke ≡ true) ⊎ Rose d.listening listening' → Rose b.listening listening'
      rose b bk (inl e) = rose_on b.listening d.listening listening' (bk.broke e) later
      rose b bk (inr r) = rose_since b.listening d.listening listening' bk.since r

  -- what was kept of the links is lost, and then the porter ends
  pub lost_goes : (peers' : List Peer) (d2 : Stand) (fault : Fault) → (d.tells ≡ true → (b : Tally) → BooksAt b d.me.0 (tally d.told d.listening) d.peers (number_in d.coming) → PromisedIn b d.me.0 d.me.0.seen (tally told' listening'))
      → Goes (Far.ended fault) (linked d.broke peers' d.coming) d2 → EndsLast Die (linked d.broke peers' d.coming) d2 → Goes (Far.ended fault) d d2
  lost_goes peers' d2 fault lost g last =
      let more = g.later in
      record {
        names = g.names;
        own = g.own;
        lists = g.lists;
        time = g.time;
        tells = g.tells ∙ tells;
        later = omega arith;
        broke = λ e. broken d.listening listening' d2.listening later g.later (λ x. inl x) (g.broke e);
        ports = λ t. g.ports (tells ∙ t) ∙ ports t;
        stands = g.stands;
        books = λ t b bk. last b (lost t b bk.books);
      }

  -- each link was written to and read
  pub tended_goes : (peers' : List Peer) → Stands Far.free d → listening' ≡ d.listening → (d.tells ≡ true → Tends d.noted d.told told' d.peers peers') → Goes Far.free d (linked d.broke peers' d.coming)
  tended_goes peers' stands same tends = links_goes d.broke peers' d.coming stands (λ e. inl e) stands.0.1
      (λ t. tended d.noted d.me.0 d.told told' d.listening listening' d.peers peers' stands.1.resting.known same (tends t) (number_in d.coming))

  pub untended_goes : (peers' : List Peer) (d2 : Stand) (fault : Fault) → Stands Far.free d → listening' ≡ d.listening → (d.tells ≡ true → Loses d.noted d.told told' d.peers)
      → Goes (Far.ended fault) (linked d.broke peers' d.coming) d2 → EndsLast Die (linked d.broke peers' d.coming) d2 → Goes (Far.ended fault) d d2
  untended_goes peers' d2 fault stands same loses =
      lost_goes peers' d2 fault (λ t b bk. subst (λ (n : ℕ). PromisedIn b d.me.0 d.me.0.seen (tally told' n)) (sym same) (loses t d.me.0 b (number_in d.coming) d.listening (sym stands.1.resting.known) bk))

  -- none came
  pub same_goes : Stands Far.free d → (broke' : Bool) → (broke' ≡ true → (d.broke ≡ true) ⊎ Rose d.listening listening') → (d.tells ≡ true → told' ≡ d.told) → Goes Far.free d (linked broke' d.peers d.coming)
  same_goes stands broke' broke same = links_goes broke' d.peers d.coming stands broke stands.0.1
      (λ t. told_same_on d.me.0 d.told told' d.listening listening' d.peers (number_in d.coming) (same t) later)

  -- none will come any more
  pub over_goes : Stands Far.free d → (d.tells ≡ true → told' ≡ record d.told { over = true }) → Goes Far.free d (linked d.broke d.peers d.coming)
  over_goes stands over = links_goes d.broke d.peers d.coming stands (λ e. inl e) stands.0.1
      (λ t. told_over d.me.0 d.told told' d.listening listening' d.peers (number_in d.coming) (over t) later)

  -- one came
  module _ (n : ℕ) (none : d.coming ≡ None) (came : d.tells ≡ true → (told' ≡ record d.told { sessions = accepted n ∷ d.told.sessions }) × (is_used n d.told.sessions ≡ false)) where
    pub came_goes : Stands Far.free d → (p : Peer) → p ≡ new_peer n → Goes Far.free d (linked d.broke d.peers (Some p))
    came_goes stands p is = links_goes d.broke d.peers (Some p) stands (λ e. inl e) (is ∙ ap new_peer (sym (ap (λ (x : Peer). x.number) is)))
        (λ t. subst (λ (o : Option Peer). Carries d.me.0 d.me.0 (tally d.told d.listening) (tally told' listening') d.peers d.peers (number_in o) (Some p.number)) (sym none)
        (came_carries d.me.0 d.told told' d.listening listening' d.peers n p is (came t) later))

    -- and there is no memory for it
    pub turned_away : (d2 : Stand) (fault : Fault) → Goes (Far.ended fault) (linked d.broke d.peers d.coming) d2 → EndsLast Die (linked d.broke d.peers d.coming) d2 → Goes (Far.ended fault) d d2
    turned_away d2 fault = lost_goes d.peers d2 fault
        (λ t b bk. promised_in b d.me.0 (tally told' listening') d.peers (Some n)
        (told_came d.me.0 d.told told' d.listening listening' d.peers n (came t) later b
        (subst (λ (o : Option Peer). BooksAt b d.me.0 (tally d.told d.listening) d.peers (number_in o)) none bk)))
