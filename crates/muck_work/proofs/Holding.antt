-- What a party may give back, and what it has claimed.
use Rattle.std.proofs.Common.{◌≡◌, ℕ, ℤ, Bool, true, false, ◌==◌, List, [], ◌∷◌, ◌++◌, refl, sym, ◌∙◌, ap, subst, arith, append_assoc}
use Rattle.std.proofs.lemmas.Bool.Decides.{nat_tests}
use Rattle.turn_lock.specs.Histories.{entry_kept, own_of}
use Rattle.turn_lock.specs.declared.view.Place.TheVariants.{Idle}
use Rattle.muck_model.specs.declared.event.Entry.{Entry}
use Rattle.muck_model.specs.declared.event.Event.{Event}
use Rattle.muck_model.specs.declared.event.Event.TheVariants.{Claim}
use Rattle.spec_events.specs.declared.logged.Logged.{Logged}
use Rattle.spec_events.specs.Histories.{History, now, after, AllLawful, entered}
use Rattle.spec_events.specs.Steps.{has_claim}
use Rattle.spec_events.specs.Logged.{is_dump, logged, logged_by, bare_item, entries_of, IsOrderly}
use Rattle.spec_events.proofs.Logging.{entries_logged, entries_append, orderly_bare}
use Rattle.spec_claims.specs.inner.Claims.{AreOthers}
use Rattle.spec_claims.proofs.Staying.{claim_stays}
use Rattle.muck_machine.specs.inner.Beginnings.{beginning}
use Rattle.muck_machine.specs.inner.Seats.{Chair, Turned}
use Rattle.muck_machine.proofs.Seating.{one_bare, held_settled, given_seen, given_root, none_or_more, others_none, rests_turned}
use Rattle.muck_work.specs.inner.Jobs.{by}
use Rattle.muck_work.specs.inner.Holds.{HasTurn, HasEntered, HasGiven, HasClaimed}

-- an entry without a note
pub entered_bare : (whose : ℕ) (me me' : Chair) (h k : History) (event : Event) → HasTurn whose me me' h → k ≡ entered h (by whose event) → is_dump event ≡ false → HasEntered whose me me' k (bare_item (by whose event))
entered_bare whose me me' h k event t is quiet = record {
  history = h;
  turn = t;
  one = one_bare t.rests.begun.mounting h k (by whose event) (held_settled whose me me'.0 h t.rests t.waited t.root) is;
  party = refl;
  orderly = orderly_bare (by whose event) (λ dump. absurd (let both : ◌≡◌ {A = Bool} true false = sym dump ∙ quiet in cc));
}

module _ (whose : ℕ) (me me' : Chair) (k : History) (item : Logged) (e : HasEntered whose me me' k item) where
  -- what the lock asks for
  pub entry_given : (l : Logged) × (logged k ≡ me'.0.seen ++ l ∷ []) × (logged_by l ≡ me'.0.party) × IsOrderly l
  entry_given = (item, given_seen me'.0 e.history k item e.one e.turn.seen, e.party ∙ sym (e.turn.waited.2 ∙ e.turn.rests.party), e.orderly)

  pub start_given : beginning k ∷ [] ≡ me'.0.root
  start_given = given_root me'.0 e.history k item e.one e.turn.root

  -- the seat rests again
  pub turn_over : (now_me : Chair) → now_me.1 ≡ [] → now_me.0.place ≡ Idle → now_me.0.seen ≡ logged k
      → (now_me.0.party ≡ me'.0.party) × (now_me.0.root ≡ me'.0.root) × (now_me.0.given ≡ me'.0.given) × (now_me.0.joined ≡ me'.0.joined)
      → ((l : Logged) → logged k ≡ me'.0.seen ++ l ∷ [] → logged_by l ≡ me'.0.party → IsOrderly l → now_me.0.own ≡ me'.0.own ++ l ∷ []) → HasGiven whose me now_me e.turn.waited.0.0 item
  turn_over now_me free idle seen same mine =
      let t = e.turn in
      let w = t.waited in
      let longer = given_seen me'.0 e.history k item e.one t.seen in
      record {
        rests = (rests_turned whose me me'.0 now_me e.history k item t.rests w t.seen t.known t.orderly e.one e.party e.orderly free idle seen same mine).0;
        seen = seen ∙ longer ∙ ap (λ (ls : List Logged). ls ++ item ∷ []) w.0.1;
        own = mine item longer (e.party ∙ sym (w.2 ∙ t.rests.party)) e.orderly ∙ ap (λ (ls : List Logged). ls ++ item ∷ []) w.1;
        lists = (same.1 ∙ w.5, same.2 ∙ w.3, same.3 ∙ w.4);
      }

pub given_turned : (whose : ℕ) (me me' : Chair) (others : List Logged) (item : Logged) → HasGiven whose me me' others item → Turned me.0 me'.0 item
given_turned whose me me' others item g = record { others = others; seen = g.seen; own = g.own; lists = g.lists }

-- What was claimed is held still.

others_are : (p : ℕ) (ls : List Logged) → own_of logged_by p ls ≡ [] → AreOthers p (entries_of ls)
others_are p [] none = tt
others_are p (l ∷ ls) none = from (l.entry.party == p) refl none (others_are p ls)
  where
    other : (a b : ℕ) → (a == b) ≡ false → ¬ (a ≡ b)
    other a b is = λ same. grind (arith, nat_tests)

    from : (t : Bool) → (l.entry.party == p) ≡ t → entry_kept t l (own_of logged_by p ls) ≡ [] → (own_of logged_by p ls ≡ [] → AreOthers p (entries_of ls)) → (¬ (l.entry.party ≡ p)) × AreOthers p (entries_of ls)
    from true is e rest = absurd (none_or_more l (own_of logged_by p ls) e)
    from false is e rest = (other l.entry.party p is, rest e)

-- others' items alone came since
pub others_since : (whose : ℕ) (me me' : Chair) (h : History) (t : HasTurn whose me me' h) → own_of logged_by whose (me.0.seen ++ t.waited.0.0) ≡ own_of logged_by whose me.0.seen
others_since whose me me' h t =
    ap (own_of logged_by whose) (sym t.waited.0.1) ∙ ap (λ (p : ℕ). own_of logged_by p me'.0.seen) (sym (t.waited.2 ∙ t.rests.party)) ∙ sym t.known ∙ t.waited.1 ∙ t.rests.own

pub entries_since : (whose : ℕ) (me me' : Chair) (h : History) (t : HasTurn whose me me' h) → h.entries ≡ entries_of (me.0.seen ++ t.waited.0.0)
entries_since whose me me' h t = sym (entries_logged h) ∙ ap entries_of (t.seen ∙ t.waited.0.1)

-- what a seat has claimed last is claimed in the world that it is given
pub claim_held : (whose : ℕ) (pid : ℤ) (me me' : Chair) (h : History) → HasTurn whose me me' h → HasClaimed whose pid me.0 → has_claim whose pid (now h) ≡ true
unfolding now
claim_held whose pid me me' h t claimed =
    let rest : List Logged = t.waited.0.0 in
    let whole : h.entries ≡ entries_of claimed.0 ++ by whose (Claim pid) ∷ entries_of rest =
    entries_since whose me me' h t
    ∙ ap (λ (ls : List Logged). entries_of (ls ++ rest)) claimed.2
    ∙ ap entries_of (append_assoc claimed.0 (claimed.1 ∷ []) rest)
    ∙ entries_append claimed.0 (claimed.1 ∷ rest)
    ∙ ap (λ (e : Entry). entries_of claimed.0 ++ e ∷ entries_of rest) claimed.3
    in
    ap (λ (es : List Entry). has_claim whose pid (after h.start es)) whole
    ∙ claim_stays h.start (entries_of claimed.0) whose pid (entries_of rest) (subst (AllLawful h.start) whole t.lawful)
    (others_are whose rest (others_none whose me.0.seen rest (others_since whose me me' h t)))
