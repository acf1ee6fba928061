-- Calls of a desk, one behind another.
use Rattle.std.proofs.Common.{true≢false, ◌≡◌, ◌⊎◌, ℕ, ℤ, ◌≤◌, true, false, List, Option, refl, sym, ◌∙◌, subst, inl, inr, arith}
use Rattle.muck_io.specs.Faults.{Rose}
use Rattle.spec_serve.specs.Promises.{Tally}
use Rattle.spec_serve.specs.inner.Keeping.{Peer}
use Rattle.muck_porter.specs.declared.rounds.Round.{Round}
use Rattle.muck_porter.specs.declared.rounds.Round.TheVariants.{Busy, Idle, Left}
use Rattle.muck_porter.specs.inner.Rounds.{is_left}
use Rattle.muck_porter.specs.inner.Desks.{Stand, Far, Stands, Booked, Books, Goes}
use Rattle.muck_porter.specs.inner.Reaches.{round_far}
use Rattle.muck_porter.proofs.Rising.{rose_since, rose_on}

later_rose : {A : Type 0} (l m n : ℕ) → m ≤ n → A ⊎ Rose l m → A ⊎ Rose l n
later_rose l m n le (inl a) = inl a
later_rose l m n le (inr r) = inr (rose_on l m n r le)

pub broken : {A B : Type 0} (l m n : ℕ) → l ≤ m → m ≤ n → (B → A ⊎ Rose l m) → B ⊎ Rose m n → A ⊎ Rose l n
broken l m n le more f (inl b) = later_rose l m n more (f b)
broken l m n le more f (inr r) = inr (rose_since l m n le r)

-- nothing is done
pub still : (far : Far) (d : Stand) → ((b : Tally) → Booked b d → Books far b d) → Stands far d → Goes far d d
still far d books s = record {
  names = (refl, refl, refl);
  own = (refl, refl, refl);
  lists = (refl, refl, refl);
  time = λ before t. t;
  tells = refl;
  later = omega arith;
  broke = λ e. inl e;
  ports = λ t. refl;
  stands = s;
  books = λ t b bk. books b bk;
}

pub goes_still : (d : Stand) → Stands Far.free d → Goes Far.free d d
goes_still d s = still Far.free d (λ b bk. bk) s

pub still_with : (d : Stand) (peers' : List Peer) (coming' : Option Peer) → Stands Far.free d → peers' ≡ d.peers → coming' ≡ d.coming → Goes Far.free d (record d { peers = peers'; coming = coming' })
still_with d peers' coming' s ps o =
    subst (λ (l : List Peer). Goes Far.free d (record d { peers = l; coming = coming' })) (sym ps)
    (subst (λ (q : Option Peer). Goes Far.free d (record d { coming = q })) (sym o) (goes_still d s))

pub timed_still : (d : Stand) → Stands Far.timed d → Goes Far.timed d d
timed_still d s = still Far.timed d (λ b bk. bk) s

-- one call behind another, which had the books
then_on : (near far : Far) (a b c : Stand) → ((t : Tally) → Books near t b → Booked t b) → Goes near a b → Goes far b c → Goes far a c
then_on near far a b c on g h =
    let l1 = g.later in
    let l2 = h.later in
    record {
      names = (h.names.0 ∙ g.names.0, h.names.1 ∙ g.names.1, h.names.2 ∙ g.names.2);
      own = (h.own.0 ∙ g.own.0, h.own.1 ∙ g.own.1, h.own.2 ∙ g.own.2);
      lists = (h.lists.0 ∙ g.lists.0, h.lists.1 ∙ g.lists.1, h.lists.2 ∙ g.lists.2);
      time = λ before t. h.time before (g.time before t);
      tells = h.tells ∙ g.tells;
      later = omega arith;
      broke = λ e. broken a.listening b.listening c.listening g.later h.later g.broke (h.broke e);
      ports = λ t. h.ports (g.tells ∙ t) ∙ g.ports t;
      stands = h.stands;
      books = λ t x bk. h.books (g.tells ∙ t) x (on x (g.books t x bk));
    }

pub free_then : (far : Far) (a b c : Stand) → Goes Far.free a b → Goes far b c → Goes far a c
free_then far a b c g h = then_on Far.free far a b c (λ t x. x) g h

pub timed_then : (far : Far) (a b c : Stand) → Goes Far.timed a b → Goes far b c → Goes far a c
timed_then far a b c g h = then_on Far.timed far a b c (λ t x. x) g h

pub claimed_then : (pid : ℤ) (far : Far) (a b c : Stand) → Goes (Far.claimed pid) a b → Goes far b c → Goes far a c
claimed_then pid far a b c g h = then_on (Far.claimed pid) far a b c (λ t x. x) g h

-- a claim, by another name
pub claimed_stands : (pid pid' : ℤ) (a d : Stand) → pid' ≡ pid → Goes (Far.claimed pid) a d → Stands (Far.claimed pid') d
claimed_stands pid pid' a d is g = subst (λ (n : ℤ). Stands (Far.claimed n) d) (sym is) g.stands

-- how far, by another name
pub goes_as : (far far' : Far) (a b : Stand) → far ≡ far' → Goes far a b → Goes far' a b
goes_as far far' a b is g = subst (λ (f : Far). Goes f a b) is g

pub round_stays : (round : Round) (a b : Stand) → is_left round ≡ false → Goes (round_far round) a b → Goes Far.free a b
round_stays Left a b is g = absurd (true≢false is)
round_stays Busy a b is g = g
round_stays Idle a b is g = g

pub round_leaves : (round : Round) (a b : Stand) → is_left round ≡ true → Goes (round_far round) a b → Goes Far.left a b
round_leaves Left a b is g = g
round_leaves Busy a b is g = absurd (true≢false (sym is))
round_leaves Idle a b is g = absurd (true≢false (sym is))
