-- A mounted log and its two files.
use Rattle.std.proofs.Common.{◌≡◌, inl, inr, ℕ, ◌+◌, ◌<◌, ◌≤◌, ◌^◌, Bool, true, false, cond, eqb, leb, List, [], ◌∷◌, ◌++◌, length, drop, get_or, Option, Some, None, Ok, Err, refl, sym, ◌∙◌, ap, subst, arith, length-append, length-drop, append_assoc}
use Rattle.std.proofs.lemmas.List.{get_or_at, get_or-drop}
use Rattle.std.specs.Prelude.{option_and_then}
use Rattle.muck_codec.specs.Batches.{whole_batch, batch_at}
use Rattle.std.proofs.lemmas.Bool.{cases_lt, lt-ltb, cases_Bool, cond-true, cond-false, eq-eqb, ne_eqb, lt-leb, or_from, or_right}
use Rattle.std.specs.Int.{w64, to_be_bytes}
use Rattle.muck_log.specs.World.{StoredWorld, lost, laid, laid_over, batch_if}
use Rattle.muck_log.specs.File.{after_number, is_gate_open}
use Rattle.muck_log.specs.Store.{Chosen, MayBeAt, IsDone, store_of, must_close, opens_new, target, next_body, after_batch, framed, pick}
use Rattle.muck_log.specs.Append.{IsEither}
use Rattle.muck_log.proofs.Files.{file_facts, two}
use Rattle.muck_log.proofs.Stores.{view, Fits, either, finished, stored_at, target_same, target_new, empty_same, swaps}

short_batch : (payload : List ℕ) → length payload < 4 → whole_batch 1 payload ≡ Err 0
unfolding whole_batch batch_at
short_batch payload short = rw (lt-ltb (length payload) 4 short) refl

pub laid_long : (payload : List ℕ) (v w : StoredWorld) → laid payload v ≡ Some w → 4 ≤ length payload
unfolding laid
laid_long payload v w e = elim (cases_lt (length payload) 4) [
  | inl short ↦ absurd (none (ap (λ r. option_and_then (λ b. laid_over b v) (batch_if r)) (sym (short_batch payload short)) ∙ e))
  | inr long ↦ long
]
  where
    none : ◌≡◌ {A = Option StoredWorld} None (Some w) → ⊥
    none h = cc

pub number_fits : (n : ℕ) → after_number n < 2 ^ 64
unfolding after_number
number_fits n = omega arith

within_chosen : (a b : List ℕ) (s : Chosen) → store_of a b ≡ Ok s → s.place ≤ length (pick s.second a b)
within_chosen a b s e = elim (view a b s e) [
  | inl empty ↦ (let zero_place : s.place ≡ 0 = ap (λ (c : Chosen). c.place) empty.is in omega (arith, zero_place))
  | inr h ↦ (file_facts h.generation (record { place = s.place; held = s.held }) (pick s.second a b) h.own).ended.within
]

pub within_target : (a b : List ℕ) (s : Chosen) → store_of a b ≡ Ok s → (target s).place ≤ length (pick (target s).second a b)
within_target a b s e = elim (cases_Bool (opens_new s.held)) [
  | inl new ↦ subst (λ (t : Chosen). t.place ≤ length (pick t.second a b)) (sym (target_new s [] lost new)) (omega arith)
  | inr no_new ↦ subst (λ (t : Chosen). t.place ≤ length (pick t.second a b)) (sym (target_same s [] lost no_new)) (within_chosen a b s e)
]

pub close_target : (a b : List ℕ) (s : Chosen) (close other_close : Bool) → close ≡ must_close s.place (pick s.second a b) → other_close ≡ must_close 0 (pick s.second b a)
    → cond (opens_new s.held) other_close close ≡ must_close (target s).place (pick (target s).second a b)
close_target a b s close other_close is other_is = elim (cases_Bool (opens_new s.held)) [
  | inl new ↦ cond-true (opens_new s.held) _ _ new ∙ other_is ∙ ap (must_close 0) (swaps s [] lost s.second a b) ∙ ap (λ (t : Chosen). must_close t.place (pick t.second a b)) (sym (target_new s [] lost new))
  | inr no_new ↦ cond-false (opens_new s.held) _ _ no_new ∙ is ∙ ap (λ (t : Chosen). must_close t.place (pick t.second a b)) (sym (target_same s [] lost no_new))
]

restored : (at : Bool) (c d : List ℕ) → store_of c d ≡ stored_at at (pick at c d) (pick at d c)
restored true c d = refl
restored false c d = refl

module _ (a b : List ℕ) (s : Chosen) (e : store_of a b ≡ Ok s) (payload : List ℕ) (w : StoredWorld) (f : Fits (target s) s payload w) where
  -- at any moment of the writing the store is as it was, or has the batch
  pub may_stored : (c d : List ℕ) → MayBeAt (target s).second (target s).place (framed (next_body s payload)) a b c d → IsEither s (after_batch s payload w) (store_of c d)
  unfolding after_batch next_body
  may_stored c d may =
      subst (λ r. IsEither s (after_batch s payload w) r) (ap (stored_at (target s).second (pick (target s).second c d)) (sym may.other) ∙ sym (restored (target s).second c d))
      (either s payload w a b (pick (target s).second c d) e (target s) refl f may.written)

  -- then it has the batch
  pub done_stored : (c d : List ℕ) → IsDone (target s).place (framed (next_body s payload)) (pick (target s).second a b) (pick (target s).second c d) → pick (target s).second d c ≡ pick (target s).second b a
      → store_of c d ≡ Ok (after_batch s payload w)
  unfolding after_batch next_body
  done_stored c d did other =
      restored (target s).second c d ∙ ap (stored_at (target s).second (pick (target s).second c d)) other
      ∙ finished s payload w a b (pick (target s).second c d) e (target s) refl f did

-- behind the batch stands a closed gate
done_shut : (place : ℕ) (body x c : List ℕ) → place ≤ length x → IsDone place (framed body) x c → must_close (place + 9 + length body) c ≡ false
unfolding must_close framed
done_shut place body x c within did =
    or_from (leb (length c) (place + 9 + length body)) (eqb (get_or c (place + 9 + length body) 0) 1)
    (lt-leb (length c) (place + 9 + length body) (omega (arith, long, length-drop place c, did.no_shorter)))
    (ne_eqb (get_or c (place + 9 + length body) 0) 1 (λ one. omega (arith, one, gate)))
  where
    rest : List ℕ
    rest = did.back.0

    is : drop place c ≡ (1 ∷ (to_be_bytes w64 (length body) ++ body)) ++ 0 ∷ rest
    is = did.back.1 ∙ ap (λ l. 1 ∷ l) (append_assoc (to_be_bytes w64 (length body) ++ body) (0 ∷ []) rest)

    front : length (1 ∷ (to_be_bytes w64 (length body) ++ body)) ≡ 9 + length body
    front = omega (arith, length-append (to_be_bytes w64 (length body)) body)

    long : length (drop place c) ≡ 9 + length body + (1 + length rest)
    long = ap length is ∙ length-append (1 ∷ (to_be_bytes w64 (length body) ++ body)) (0 ∷ rest) ∙ omega (arith, front)

    gate : get_or c (place + 9 + length body) 0 ≡ 0
    gate = ap (λ k. get_or c k 0) (omega arith) ∙ sym (get_or-drop place c (9 + length body) 0) ∙ ap (λ l. get_or l (9 + length body) 0) is ∙ get_or_at (1 ∷ (to_be_bytes w64 (length body) ++ body)) 0 rest 0 (9 + length body) front

pub close_after : (a b : List ℕ) (s : Chosen) (payload : List ℕ) (w : StoredWorld) → store_of a b ≡ Ok s → (c d : List ℕ)
    → IsDone (target s).place (framed (next_body s payload)) (pick (target s).second a b) (pick (target s).second c d)
    → false ≡ must_close (after_batch s payload w).place (pick (after_batch s payload w).second c d)
unfolding after_batch
close_after a b s payload w e c d did =
    sym (done_shut (target s).place (next_body s payload) (pick (target s).second a b) (pick (target s).second c d) (within_target a b s e) did)

open_closes : (x : List ℕ) → is_gate_open x ≡ true → must_close 0 x ≡ true
unfolding must_close
open_closes x is = or_right (leb (length x) 0) (eqb (get_or x 0 0) 1) (eq-eqb (get_or x 0 0) 1 (two x is).1)

-- the other file after a batch
pub other_after : (a b : List ℕ) (s : Chosen) (payload : List ℕ) (w : StoredWorld) (other_close : Bool) → store_of a b ≡ Ok s → (c d : List ℕ) → other_close ≡ must_close 0 (pick s.second b a)
    → pick (target s).second d c ≡ pick (target s).second b a
    → cond (opens_new s.held) true other_close ≡ must_close 0 (pick (after_batch s payload w).second d c)
unfolding after_batch
other_after a b s payload w other_close e c d is same = elim (cases_Bool (opens_new s.held)) [
  | inl new ↦ cond-true (opens_new s.held) _ _ new ∙ sym (own_open new) ∙ ap (must_close 0) (swaps s [] lost s.second b a ∙ ap (λ (t : Chosen). pick t.second b a) (sym (target_new s [] lost new)) ∙ sym same)
  | inr no_new ↦ cond-false (opens_new s.held) _ _ no_new ∙ is ∙ ap (must_close 0) (ap (λ (t : Chosen). pick t.second b a) (sym (target_same s [] lost no_new)) ∙ sym same)
]
  where
    own_open : opens_new s.held ≡ true → must_close 0 (pick s.second a b) ≡ true
    own_open new = elim (view a b s e) [
      | inl empty ↦ absurd (both (sym new ∙ empty_same s [] lost s empty.is))
      | inr h ↦ open_closes (pick s.second a b) (file_facts h.generation (record { place = s.place; held = s.held }) (pick s.second a b) h.own).is_open
    ]
      where
        both : true ≡ false → ⊥
        both h = cc
