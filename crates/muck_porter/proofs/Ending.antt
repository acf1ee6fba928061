-- What the porter leaves, of how far its desk has come.
use Rattle.std.proofs.Common.{true≢false, ◌≡◌, ◌⊎◌, Bool, true, refl, sym, ◌∙◌, subst, inl, inr, arith, Option}
use Rattle.muck_io.specs.Faults.{Rose}
use Rattle.spec_serve.specs.Promises.{Tally}
use Rattle.spec_serve.specs.inner.Keeping.{Peer}
use Rattle.muck_porter.specs.declared.desk.Fault.{Fault}
use Rattle.muck_porter.specs.declared.desk.Fault.TheVariants.{NoMemory as Dead, Spent as Had}
use Rattle.muck_porter.specs.declared.porting.Why.{Why}
use Rattle.muck_porter.specs.declared.porting.Why.TheVariants.{Fine, ListenFault, NoMemory, Spent}
use Rattle.muck_porter.specs.inner.Kept.{tally, account, BooksAt, Ready}
use Rattle.muck_porter.specs.inner.Moves.{number_in, IsNew}
use Rattle.muck_porter.specs.inner.Porter.{PorterDone, HasStopped}
use Rattle.muck_porter.specs.inner.Rounds.{EndsEarly}
use Rattle.muck_porter.specs.inner.Desks.{Stand, Far, Stands, Fresh, Booked, Goes}
use Rattle.muck_porter.specs.inner.Reaches.{why_far}
use Rattle.muck_porter.proofs.InRounds.{ready_fresh, books_start, timed_start, not_stopped, stop_over}

pub fresh_stands : (d : Stand) → Fresh d → Stands Far.free d
fresh_stands d f = ((f.seat, subst IsNew (sym f.coming) tt), subst (λ (n : Bool). Ready n d.me) (sym f.noted) (ready_fresh d.me f.ready))

module _ (d d' : Stand) (fresh : Fresh d) where
  abbrev start : Tally
  start = tally d.told d.listening

  booked : Booked start d
  booked = record {
    since = omega arith;
    broke = λ e. absurd (true≢false (sym e ∙ fresh.broke));
    books = subst (λ (o : Option Peer). BooksAt start d.me.0 start d.peers (number_in o)) (sym fresh.coming) (books_start start d.me d.peers fresh.ready fresh.peers);
  }

  rose : (d.broke ≡ true) ⊎ Rose d.listening d'.listening → Rose d.listening d'.listening
  rose (inl e) = absurd (true≢false (sym e ∙ fresh.broke))
  rose (inr r) = r

  done_left : (why : Why) → ¬ (why ≡ Spent) → (why ≡ ListenFault → d'.broke ≡ true) → Goes Far.left d d'
      → PorterDone why d.tells (account d.told d.listening d.answers) (account d'.told d'.listening d'.answers) d.me d'.me
  done_left why not fell g = record {
    lists = g.lists;
    over = g.stands.1;
    kept = λ t. (g.books t start booked).0;
    timed = g.time d.answers (timed_start d.answers d.me fresh.ready);
    ports = g.ports;
    last = λ h. g.stands.0;
    stopped = λ h t. (g.books t start booked).1;
    fault = λ f. rose (g.broke (fell f));
    later = g.later;
    ended = λ n. stop_over d'.me.0.own g.stands.0 g.stands.1.formed;
    spent = λ s. absurd (not s);
  }

  done_ended : (why : Why) (fault : Fault) → ¬ (HasStopped why) → ¬ (why ≡ ListenFault) → (why ≡ Spent → fault ≡ Had) → (¬ (why ≡ Spent) → fault ≡ Dead) → Goes (Far.ended fault) d d'
      → PorterDone why d.tells (account d.told d.listening d.answers) (account d'.told d'.listening d'.answers) d.me d'.me
  done_ended why fault stopped fell had dead g = record {
    lists = g.lists;
    over = g.stands.0;
    kept = λ t. g.books t start booked;
    timed = g.time d.answers (timed_start d.answers d.me fresh.ready);
    ports = g.ports;
    last = λ h. absurd (stopped h);
    stopped = λ h t. absurd (stopped h);
    fault = λ f. absurd (fell f);
    later = g.later;
    ended = λ n. subst (λ (x : Fault). EndsEarly x d'.me.0) (dead n) g.stands.1;
    spent = λ s. subst (λ (x : Fault). EndsEarly x d'.me.0) (had s) g.stands.1;
  }

  done_by : (why : Why) → (why ≡ ListenFault → d'.broke ≡ true) → Goes (why_far why) d d'
      → PorterDone why d.tells (account d.told d.listening d.answers) (account d'.told d'.listening d'.answers) d.me d'.me
  done_by Fine fell g = done_left Fine (λ e. cc) fell g
  done_by ListenFault fell g = done_left ListenFault (λ e. cc) fell g
  done_by NoMemory fell g = done_ended NoMemory Dead (not_stopped NoMemory refl) (λ e. cc) (λ e. cc) (λ n. refl) g
  done_by Spent fell g = done_ended Spent Had (not_stopped Spent refl) (λ e. cc) (λ e. refl) (λ n. absurd (n refl)) g

pub porter_done : (why : Why) (d d' : Stand) → Goes (why_far why) d d' → Fresh d → (why ≡ ListenFault → d'.broke ≡ true)
    → PorterDone why d.tells (account d.told d.listening d.answers) (account d'.told d'.listening d'.answers) d.me d'.me
porter_done why d d' g fresh fell = done_by d d' fresh why fell g
