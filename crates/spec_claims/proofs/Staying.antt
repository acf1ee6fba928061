-- A claim stays until its party has taken the slice, or has learned that the process ended.
use Rattle.std.proofs.Common.{◌≡◌, ℕ, ℤ, Bool, true, false, not, ◌&&◌, ◌||◌, ◌==◌, cond, nat_le, List, [], ◌∷◌, ◌++◌, refl, sym, ◌∙◌, ap, subst}
use Rattle.std.specs.List.{filter, list_any}
use Rattle.std.specs.Ordering.{int_eq}
use Rattle.std.proofs.lemmas.Cmp.{int_eq_equiv}
use Rattle.std.proofs.lemmas.Bool.{eq-eqb, and_parts, eqb-true}
use Rattle.muck_laws.proofs.Numbers.{same_pid}
use Rattle.muck_model.specs.declared.event.Entry.{Entry}
use Rattle.muck_model.specs.declared.event.Event.{Event}
use Rattle.muck_model.specs.declared.event.Event.TheVariants.{Opened, Input, Closed, Moment, Exec, Planned, Claim, Slice, Commit, Lost, Idle, Take, Cut, Stored, DumpFailed, Halt, StopSeen, Died}
use Rattle.muck_queue.specs.declared.claim.Claim.{Claim as Claimed}
use Rattle.muck_queue.specs.declared.process.Process.{Process}
use Rattle.muck_queue.specs.Queues.{is_process_due, is_claimed, is_on, has_pid, claimed, released, ended_tied, is_reading, is_awaiting}
use Rattle.spec_events.specs.World.{World, connection}
use Rattle.spec_events.specs.Steps.{has_claim, is_lawful, is_allowed, is_died, happened, effect}
use Rattle.spec_events.specs.Slices.{sliced}
use Rattle.spec_events.specs.Histories.{after, AllLawful}
use Rattle.spec_events.proofs.Happening.{effect-claims}
use Rattle.spec_claims.specs.inner.Claims.{IsSole, AreOthers}
use Rattle.spec_claims.proofs.Kept.{same_done, same_sliced}

-- Lists.

any_filter : {X : Type 0} (u t : X → Bool) (cs : List X) → list_any (λ c. u c && t c) cs ≡ list_any t (filter u cs)
any_filter u t [] = refl
any_filter u t (c ∷ cs) = at (u c) refl (any_filter u t cs)
  where
    at : (b : Bool) → u c ≡ b → list_any (λ x. u x && t x) cs ≡ list_any t (filter u cs) → ((u c && t c) || list_any (λ x. u x && t x) cs) ≡ list_any t (cond (u c) (c ∷ filter u cs) (filter u cs))
    at true is rest = ap (λ b. (b && t c) || list_any (λ x. u x && t x) cs) is ∙ ap (λ b. t c || b) rest ∙ ap (λ b. list_any t (cond b (c ∷ filter u cs) (filter u cs))) (sym is)
    at false is rest = ap (λ b. (b && t c) || list_any (λ x. u x && t x) cs) is ∙ rest ∙ ap (λ b. list_any t (cond b (c ∷ filter u cs) (filter u cs))) (sym is)

none_kept : {X : Type 0} (u : X → Bool) (cs : List X) → list_any u cs ≡ false → filter u cs ≡ []
none_kept u [] e = refl
none_kept u (c ∷ cs) e = at (u c) e (none_kept u cs)
  where
    at : (b : Bool) → (b || list_any u cs) ≡ false → (list_any u cs ≡ false → filter u cs ≡ []) → cond b (c ∷ filter u cs) (filter u cs) ≡ []
    at true e f = cc
    at false e f = f e

some_kept : {X : Type 0} (u : X → Bool) (cs : List X) (x : X) (xs : List X) → filter u cs ≡ x ∷ xs → list_any u cs ≡ true
some_kept u [] x xs e = cc
some_kept u (c ∷ cs) x xs e = at (u c) e (some_kept u cs x xs)
  where
    at : (b : Bool) → cond b (c ∷ filter u cs) (filter u cs) ≡ x ∷ xs → (filter u cs ≡ x ∷ xs → list_any u cs ≡ true) → (b || list_any u cs) ≡ true
    at true e f = refl
    at false e f = f e

filter_last : {X : Type 0} (u : X → Bool) (cs : List X) (c : X) → filter u (cs ++ c ∷ []) ≡ filter u cs ++ filter u (c ∷ [])
filter_last u [] c = refl
filter_last u (x ∷ xs) c = at (u x) (filter_last u xs c)
  where
    at : (b : Bool) → filter u (xs ++ c ∷ []) ≡ filter u xs ++ filter u (c ∷ []) → cond b (x ∷ filter u (xs ++ c ∷ [])) (filter u (xs ++ c ∷ [])) ≡ cond b (x ∷ filter u xs) (filter u xs) ++ filter u (c ∷ [])
    at true e = ap (λ ys. x ∷ ys) e
    at false e = e

-- what passes the one test passes the other
filter_both : {X : Type 0} (u t : X → Bool) (cs : List X) → ((c : X) → u c ≡ true → t c ≡ true) → filter u (filter t cs) ≡ filter u cs
filter_both u t [] only = refl
filter_both u t (c ∷ cs) only = at (t c) refl (u c) refl (filter_both u t cs only)
  where
    at : (b : Bool) → t c ≡ b → (a : Bool) → u c ≡ a → filter u (filter t cs) ≡ filter u cs → filter u (cond (t c) (c ∷ filter t cs) (filter t cs)) ≡ cond (u c) (c ∷ filter u cs) (filter u cs)
    at true is a known rest = ap (λ b. filter u (cond b (c ∷ filter t cs) (filter t cs))) is ∙ ap (λ ys. cond (u c) (c ∷ ys) ys) rest
    at false is true known rest = let must = only c known in cc
    at false is false known rest = ap (λ b. filter u (cond b (c ∷ filter t cs) (filter t cs))) is ∙ rest ∙ ap (λ b. cond b (c ∷ filter u cs) (filter u cs)) (sym known)

-- Whose claim it is.

claim_of : (party other : ℕ) (pid : ℤ) (w : World) → IsSole party pid w → has_claim other pid w ≡ ((party == other) || false)
claim_of party other pid w sole = any_filter (is_on pid) (λ (c : Claimed). c.party == other) w.queue.claims ∙ ap (list_any (λ (c : Claimed). c.party == other)) sole

-- it is this party's
pub sole_claim : (party : ℕ) (pid : ℤ) (w : World) → IsSole party pid w → has_claim party pid w ≡ true
sole_claim party pid w sole = claim_of party party pid w sole ∙ ap (λ b. b || false) (eq-eqb party party refl)

-- and no other party's
sole_other : (party other : ℕ) (pid : ℤ) (w : World) → IsSole party pid w → ¬ (other ≡ party) → has_claim other pid w ≡ true → ⊥
sole_other party other pid w sole apart has = at (party == other) refl (sym (claim_of party other pid w sole) ∙ has)
  where
    at : (b : Bool) → (party == other) ≡ b → (b || false) ≡ true → ⊥
    at true is e = apart (sym (eqb-true party other is))
    at false is e = cc

-- who may claim a process finds it claimed by nobody
unclaimed : (moment : ℕ) (cs : List Claimed) (pid : ℤ) (ps : List Process) → list_any (λ p. has_pid pid p && is_process_due moment cs p) ps ≡ true → is_claimed pid cs ≡ false
unclaimed moment cs pid [] e = cc
unclaimed moment cs pid (p ∷ ps) e = at (has_pid pid p) refl (is_process_due moment cs p) refl e (unclaimed moment cs pid ps)
  where
    free : (a b c d : Bool) → (a && (b && (c && not d))) ≡ true → d ≡ false
    free true true true true e = cc
    free true true true false e = refl
    free true true false d e = cc
    free true false c d e = cc
    free false b c d e = cc

    at : (a : Bool) → has_pid pid p ≡ a → (b : Bool) → is_process_due moment cs p ≡ b → ((a && b) || list_any (λ p. has_pid pid p && is_process_due moment cs p) ps) ≡ true →
        (list_any (λ p. has_pid pid p && is_process_due moment cs p) ps ≡ true → is_claimed pid cs ≡ false) → is_claimed pid cs ≡ false
    at true has true due e f = ap (λ n. is_claimed n cs) (sym (same_pid p.number pid has)) ∙ free (nat_le p.due moment) (not (is_reading p)) (not (is_awaiting p)) (is_claimed p.number cs) due
    at true has false due e f = f e
    at false has b due e f = f e

allowed : (w : World) (party : ℕ) (event : Event) → is_lawful w (record { party = party; event = event }) ≡ true → is_died event ≡ false → is_allowed w party event ≡ true
unfolding is_lawful
allowed w party event lawful other = at w.dead lawful
  where
    at : (b : Bool) → cond b (is_died event) (is_allowed w party event) ≡ true → is_allowed w party event ≡ true
    at true e = cc
    at false e = e

may_claim : (w : World) (party : ℕ) (pid : ℤ) → is_lawful w (record { party = party; event = Claim pid }) ≡ true → is_claimed pid w.queue.claims ≡ false
may_claim w party pid lawful = unclaimed w.moment w.queue.claims pid w.queue.processes (and_parts _ _ (allowed w party (Claim pid) lawful refl)).0

-- It begins.

claim_entered : (w : World) (party : ℕ) (pid : ℤ) → is_lawful w (record { party = party; event = Claim pid }) ≡ true → IsSole party pid (effect w (record { party = party; event = Claim pid }))
unfolding effect claimed
claim_entered w party pid lawful =
    let c : Claimed = record { number = pid; party = party } in
    filter_last (is_on pid) w.queue.claims c
    ∙ ap (λ ys. ys ++ filter (is_on pid) (c ∷ [])) (none_kept (is_on pid) w.queue.claims (may_claim w party pid lawful))
    ∙ ap (λ b. cond b (c ∷ []) []) (int_eq_equiv.refl pid)

-- It stays.

module _ (party : ℕ) (pid : ℤ) (w : World) (sole : IsSole party pid w) (other : ℕ) (apart : ¬ (other ≡ party)) where
  stays_claim : (n : ℤ) → is_lawful w (record { party = other; event = Claim n }) ≡ true → IsSole party pid (happened w other (Claim n))
  unfolding claimed
  stays_claim n lawful = at (int_eq n pid) refl
    where
      c : Claimed
      c = record { number = n; party = other }

      at : (b : Bool) → int_eq n pid ≡ b → filter (is_on pid) (w.queue.claims ++ c ∷ []) ≡ record { number = pid; party = party } ∷ []
      at true is =
          let there = some_kept (is_on pid) w.queue.claims _ _ sole in
          let gone = ap (λ k. is_claimed k w.queue.claims) (sym (same_pid n pid is)) ∙ may_claim w other n lawful in
          absurd (let both : ◌≡◌ {A = Bool} true false = sym there ∙ gone in cc)
      at false is = filter_last (is_on pid) w.queue.claims c ∙ ap (λ b. filter (is_on pid) w.queue.claims ++ cond b (c ∷ []) []) is ∙ ap (λ ys. ys ++ []) sole

  stays_released : (n : ℤ) (cs : List Claimed) → has_claim other n w ≡ true → cs ≡ w.queue.claims → filter (is_on pid) (filter (λ c. not (is_on n c)) cs) ≡ record { number = pid; party = party } ∷ []
  stays_released n cs has is = ap (λ ds. filter (is_on pid) (filter (λ c. not (is_on n c)) ds)) is ∙ filter_both (is_on pid) (λ c. not (is_on n c)) w.queue.claims apart_on ∙ sole
    where
      apart_on : (c : Claimed) → is_on pid c ≡ true → not (is_on n c) ≡ true
      apart_on c on = at (is_on n c) refl
        where
          at : (b : Bool) → is_on n c ≡ b → not b ≡ true
          at true is_n =
              let one_pid : n ≡ pid = sym (same_pid c.number n is_n) ∙ same_pid c.number pid on in
              absurd (sole_other party other pid w sole apart (subst (λ k. has_claim other k w ≡ true) one_pid has))
          at false is_n = refl

  stays_event : (event : Event) → is_lawful w (record { party = other; event = event }) ≡ true → IsSole party pid (happened w other event)
  unfolding released ended_tied
  stays_event (Opened d) lawful = sole
  stays_event (Input d line) lawful = sole
  stays_event (Closed d) lawful = sole
  stays_event (Moment t) lawful = sole
  stays_event (Exec d) lawful = ap (filter (is_on pid)) (same_done d (connection d w) w) ∙ sole
  stays_event (Planned d) lawful = sole
  stays_event (Claim n) lawful = stays_claim n lawful
  stays_event (Slice n) lawful = stays_released n (sliced n w).queue.claims (and_parts _ _ (allowed w other (Slice n) lawful refl)).0 (same_sliced n w)
  stays_event (Commit n) lawful = sole
  stays_event (Lost n) lawful = stays_released n w.queue.claims (and_parts _ _ (allowed w other (Lost n) lawful refl)).0 refl
  stays_event Idle lawful = sole
  stays_event (Take d n) lawful = sole
  stays_event (Cut k) lawful = sole
  stays_event (Stored k) lawful = sole
  stays_event (DumpFailed k) lawful = sole
  stays_event Halt lawful = sole
  stays_event StopSeen lawful = sole
  stays_event Died lawful = sole

pub sole_stays : (party : ℕ) (pid : ℤ) (es : List Entry) (w : World) → IsSole party pid w → AllLawful w es → AreOthers party es → IsSole party pid (after w es)
sole_stays party pid [] w sole lawful others = sole
sole_stays party pid (e ∷ es) w sole lawful others =
    sole_stays party pid es (effect w e) (ap (filter (is_on pid)) (effect-claims w e) ∙ stays_event party pid w sole e.party others.0 e.event lawful.0) lawful.1 others.1

-- Behind a claim and others' entries it is this party's still.
pub claim_stays : (w : World) (front : List Entry) (party : ℕ) (pid : ℤ) (es : List Entry) → AllLawful w (front ++ record { party = party; event = Claim pid } ∷ es) → AreOthers party es →
    has_claim party pid (after w (front ++ record { party = party; event = Claim pid } ∷ es)) ≡ true
claim_stays w [] party pid es lawful others =
    let v : World = effect w (record { party = party; event = Claim pid }) in
    sole_claim party pid (after v es) (sole_stays party pid es v (claim_entered w party pid lawful.0) lawful.1 others)
claim_stays w (e ∷ front) party pid es lawful others = claim_stays (effect w e) front party pid es lawful.1 others
