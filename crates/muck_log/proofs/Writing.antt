-- One file while a batch is written: what each torn write may leave.
use Rattle.std.proofs.Common.{◌≡◌, ◌≢◌, ◌⊎◌, inl, inr, ℕ, ◌+◌, ◌-◌, ◌<◌, ◌≤◌, true, false, eqb, leb, List, [], ◌∷◌, ◌++◌, length, take, drop, get_or, refl, sym, ◌∙◌, ap, arith, length-append, length-take, length-drop, append_assoc}
use Rattle.std.proofs.lemmas.List.{drop_at, drop_more, get_or_at}
use Rattle.std.proofs.lemmas.Bool.{cases_eq, cases_lt, leb-true, leb-false, eqb-true, eqb-false, or_cases, or_parts, or_from, lt-leb, ne_eqb}
use Rattle.muck_laws.proofs.Parts.{front_less}
use Rattle.muck_laws.proofs.Places.{get_or_front, same_back}
use Rattle.muck_disk.specs.Images.{Torn, bytes_written}
use Rattle.muck_disk.specs.inner.Memory.{Torn-written}
use Rattle.muck_log.specs.Store.{IsKept, IsDone, MayBe, must_close}

-- the first write: a closed gate, where it was missing or 01
pub closing : (place : ℕ) (old new : List ℕ) → place ≤ length old → must_close place old ≡ true → Torn place 1 old new → IsKept place old new
unfolding must_close
closing place old new within close torn = record { front = torn.before; no_shorter = torn.no_shorter; shut = cases (or_cases _ _ close) }
  where
    cases : (leb (length old) place ≡ true) ⊎ (eqb (get_or old place 0) 1 ≡ true) → (length new ≤ place + 1) ⊎ (get_or new place 0 ≢ 1) ⊎ (new ≡ old)
    cases (inl missing) = inl (omega (arith, torn.no_longer, leb-true _ _ missing))
    cases (inr is_one) = elim (cases_lt place (length old)) [
      | inr past ↦ inl (omega (arith, torn.no_longer, past))
      | inl there ↦
          let same : length new ≡ length old = omega (arith, torn.no_longer, torn.no_shorter, there) in
          elim (cases_eq (get_or new place 0) 1) [
            | inr other ↦ inr (inl other)
            | inl one ↦ inr (inr (same_back place new old same torn.before (one ∙ sym (eqb-true (get_or old place 0) 1 is_one)) torn.after (omega (arith, same, there))))
          ]
    ]

-- the gate is closed on the disk
pub record IsClosed (place : ℕ) (old new : List ℕ) : Type 0 where
  pub front : take place new ≡ take place old
  pub no_shorter : length old ≤ length new
  pub there : place < length new
  pub shut : get_or new place 0 ≢ 1

pub closed_already : (place : ℕ) (old : List ℕ) → must_close place old ≡ false → IsClosed place old old
unfolding must_close
closed_already place old h =
    let parts = or_parts (leb (length old) place) (eqb (get_or old place 0) 1) h in
    record { front = refl; no_shorter = omega arith; there = leb-false (length old) place parts.0; shut = eqb-false (get_or old place 0) 1 parts.1 }

pub closed_now : (place : ℕ) (old : List ℕ) → place ≤ length old → IsClosed place old (bytes_written old place (0 ∷ []))
closed_now place old le =
    let torn = Torn-written place (0 ∷ []) old le in
    let size : length (take place old) ≡ place = omega (arith, length-take place old) in
    let is : get_or (bytes_written old place (0 ∷ [])) place 0 ≡ 0 = ap (λ l. get_or l place 0) (append_assoc (take place old) (0 ∷ []) (drop (place + 1) old)) ∙ get_or_at (take place old) 0 (drop (place + 1) old) 0 place size in
    let len : length (bytes_written old place (0 ∷ [])) ≡ place + 1 + (length old - (place + 1)) =
    omega (arith, length-append (take place old ++ 0 ∷ []) (drop (place + 1) old), length-append (take place old) (0 ∷ []), length-drop (place + 1) old, size) in
    record { front = torn.before; no_shorter = torn.no_shorter; there = omega (arith, len); shut = λ e. omega (arith, is, e) }

-- the second write: behind a closed gate
pub behind : (place n : ℕ) (old closed new : List ℕ) → IsClosed place old closed → Torn (place + 1) n closed new → IsKept place old new
behind place n old closed new c torn = record {
  front = front_less place (place + 1) new closed (omega arith) torn.before ∙ c.front;
  no_shorter = omega (arith, c.no_shorter, torn.no_shorter);
  shut = inr (inl (λ e. c.shut (sym (get_or_front (place + 1) new closed place torn.before (omega arith)) ∙ e)));
}

-- the closed gate with the batch behind it
pub record IsStaged (place : ℕ) (bytes old new : List ℕ) : Type 0 where
  pub closed : IsClosed place old new
  pub back : (rest : List ℕ) × (drop (place + 1) new ≡ bytes ++ rest)

pub staged : (place : ℕ) (bytes old closed : List ℕ) → IsClosed place old closed → IsStaged place bytes old (bytes_written closed (place + 1) bytes)
staged place bytes old closed c =
    let within : place + 1 ≤ length closed = omega (arith, c.there) in
    let torn = Torn-written (place + 1) bytes closed within in
    let size : length (take (place + 1) closed) ≡ place + 1 = omega (arith, length-take (place + 1) closed) in
    let rest = drop (place + 1 + length bytes) closed in
    record {
      closed = record {
        front = front_less place (place + 1) (bytes_written closed (place + 1) bytes) closed (omega arith) torn.before ∙ c.front;
        no_shorter = omega (arith, c.no_shorter, torn.no_shorter);
        there = omega (arith, c.there, torn.no_shorter);
        shut = λ e. c.shut (sym (get_or_front (place + 1) (bytes_written closed (place + 1) bytes) closed place torn.before (omega arith)) ∙ e);
      };
      back = (rest, ap (drop (place + 1)) (append_assoc (take (place + 1) closed) bytes rest) ∙ drop_at (take (place + 1) closed) (bytes ++ rest) (place + 1) size);
    }

-- the third write: the gate is opened, or it isn't yet
pub done_if : (place : ℕ) (bytes old whole new : List ℕ) → IsStaged place bytes old whole → Torn place 1 whole new → get_or new place 0 ≡ 1 → IsDone place bytes old new
done_if place bytes old whole new s torn one = record {
  front = torn.before ∙ s.closed.front;
  no_shorter = omega (arith, s.closed.no_shorter, torn.no_shorter);
  back = (s.back.0, drop_more new place 0 (omega (arith, s.closed.there, torn.no_shorter)) ∙ ap (λ x. x ∷ drop (place + 1) new) one ∙ ap (λ l. 1 ∷ l) (torn.after ∙ s.back.1));
}

pub gate : (place : ℕ) (bytes old whole new : List ℕ) → IsStaged place bytes old whole → Torn place 1 whole new → IsKept place old new ⊎ IsDone place bytes old new
gate place bytes old whole new s torn = elim (cases_eq (get_or new place 0) 1) [
  | inl one ↦ inr (done_if place bytes old whole new s torn one)
  | inr other ↦ inl (record { front = torn.before ∙ s.closed.front; no_shorter = omega (arith, s.closed.no_shorter, torn.no_shorter); shut = inr (inl other) })
]

pub done : (place : ℕ) (bytes old whole : List ℕ) → IsStaged place bytes old whole → IsDone place bytes old (bytes_written whole place (1 ∷ []))
done place bytes old whole s =
    let within : place ≤ length whole = omega (arith, s.closed.there) in
    let size : length (take place whole) ≡ place = omega (arith, length-take place whole) in
    done_if place bytes old whole (bytes_written whole place (1 ∷ [])) s (Torn-written place (1 ∷ []) whole within)
    (ap (λ l. get_or l place 0) (append_assoc (take place whole) (1 ∷ []) (drop (place + 1) whole)) ∙ get_or_at (take place whole) 1 (drop (place + 1) whole) 0 place size)

-- of a file whose gate was closed first
pub kept_from : (place : ℕ) (old closed new : List ℕ) → IsClosed place old closed → IsKept place closed new → IsKept place old new
kept_from place old closed new c k = record { front = k.front ∙ c.front; no_shorter = omega (arith, c.no_shorter, k.no_shorter); shut = cases k.shut }
  where
    cases : (length new ≤ place + 1) ⊎ (get_or new place 0 ≢ 1) ⊎ (new ≡ closed) → (length new ≤ place + 1) ⊎ (get_or new place 0 ≢ 1) ⊎ (new ≡ old)
    cases (inl short) = inl short
    cases (inr (inl ne)) = inr (inl ne)
    cases (inr (inr same)) = inr (inl (λ e. c.shut (ap (λ l. get_or l place 0) (sym same) ∙ e)))

pub done_from : (place : ℕ) (bytes old closed new : List ℕ) → IsClosed place old closed → IsDone place bytes closed new → IsDone place bytes old new
done_from place bytes old closed new c d = record { front = d.front ∙ c.front; no_shorter = omega (arith, c.no_shorter, d.no_shorter); back = d.back }

pub may_from : (place : ℕ) (bytes old closed new : List ℕ) → IsClosed place old closed → MayBe place bytes closed new → MayBe place bytes old new
may_from place bytes old closed new c (inl k) = inl (kept_from place old closed new c k)
may_from place bytes old closed new c (inr d) = inr (done_from place bytes old closed new c d)

-- closed, and so not to be closed
pub shut_now : (place : ℕ) (old new : List ℕ) → IsClosed place old new → must_close place new ≡ false
unfolding must_close
shut_now place old new c = or_from (leb (length new) place) (eqb (get_or new place 0) 1) (lt-leb (length new) place c.there) (ne_eqb (get_or new place 0) 1 c.shut)
