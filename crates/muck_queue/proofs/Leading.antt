-- The earliest is one of those that pass, and none of them is before it.
use Rattle.std.proofs.Common.{◌≡◌, ◌⊎◌, ℕ, ℤ, Bool, true, false, List, [], ◌∷◌, Option, Some, None, inl, inr, arith, refl, sym, subst}
use Rattle.std.specs.Prelude.{nat_lt, ◌||◌, ◌&&◌, ◌==◌, int_lt}
use Rattle.std.specs.Option.{option_map}
use Rattle.std.specs.List.{filter, fold, reduce}
use Rattle.std.proofs.lemmas.Bool.{cond_both, cond-true, cond-false, both_ways}
use Rattle.std.proofs.lemmas.Bool.Decides.{nat_tests}
use Rattle.std.proofs.lemmas.Int.{ints}
use Rattle.muck_queue.specs.declared.claim.Claim.{Claim}
use Rattle.muck_queue.specs.declared.process.Process.{Process}
use Rattle.muck_queue.specs.Queues.{Queue, is_process_due, is_before, earlier, earliest, next_due}
use Rattle.muck_queue.specs.inner.Leading.{IsAmong, NoneBefore, NoneDueBefore, NoneDue, IsNext}

before : ℕ → ℤ → ℕ → ℤ → Bool
before a m b n = nat_lt a b || (a == b && int_lt m n)

itself : (a : ℕ) (m : ℤ) → before a m a m ≡ false
unfolding before
itself a m = grind (arith, nat_tests, ints)

behind : (a b c : ℕ) (m n k : ℤ) → before b n a m ≡ true → before b n c k ≡ false → before a m c k ≡ false
unfolding before
behind a b c m n k = grind (arith, nat_tests, ints)

level : (a b c : ℕ) (m n k : ℤ) → before b n a m ≡ false → before a m c k ≡ false → before b n c k ≡ false
unfolding before
level a b c m n k = grind (arith, nat_tests, ints)

-- one of the others, or the first of the two that stand before them
among : (r p other : Process) (ps : List Process) → (r ≡ p) ⊎ IsAmong r ps → IsAmong r (p ∷ other ∷ ps)
among r p other ps (inl e) = inl e
among r p other ps (inr s) = inr (inr s)

leads_from : (p : Process) (ps : List Process) → NoneBefore (fold earlier p ps) (p ∷ ps) × IsAmong (fold earlier p ps) (p ∷ ps)
unfolding before
leads_from p [] = ((itself p.due p.number, tt), inl refl)
leads_from p (q ∷ ps) =
    cond_both (is_before q p) q p (λ x. NoneBefore (fold earlier x ps) (p ∷ q ∷ ps) × IsAmong (fold earlier x ps) (p ∷ q ∷ ps))
    (λ e. let l = leads_from q ps in let r = fold earlier q ps in ((behind p.due q.due r.due p.number q.number r.number e l.0.0, l.0), inr l.1))
    (λ e. let l = leads_from p ps in let r = fold earlier p ps in ((l.0.0, (level p.due q.due r.due p.number q.number r.number e l.0.0, l.0.1)), among r p q ps l.1))

first_of : (ps : List Process) (r : Process) → reduce earlier ps ≡ Some r → NoneBefore r ps × IsAmong r ps
first_of [] r e = absurd cc
first_of (p ∷ ps) r e =
    let same : fold earlier p ps ≡ r = cc in
    subst (λ (x : Process). NoneBefore x (p ∷ ps) × IsAmong x (p ∷ ps)) same (leads_from p ps)

-- the earliest of those that pass
pub earliest_leads : (test : Process → Bool) (ps : List Process) (r : Process) → earliest test ps ≡ Some r →
    NoneBefore r (filter test ps) × IsAmong r (filter test ps)
earliest_leads test ps r e = first_of (filter test ps) r e

-- what is among those that pass is among all, and passes
among_all : (test : Process → Bool) (r : Process) (ps : List Process) → IsAmong r (filter test ps) → IsAmong r ps × (test r ≡ true)
among_all test r [] i = absurd i
among_all test r (p ∷ ps) i = decide (test p) refl (among_all test r ps) where
  here : test p ≡ true → (IsAmong r (filter test ps) → IsAmong r ps × (test r ≡ true)) → (r ≡ p) ⊎ IsAmong r (filter test ps) → IsAmong r (p ∷ ps) × (test r ≡ true)
  here e rest (inl is) = (inl is, subst (λ (x : Process). test x ≡ true) (sym is) e)
  here e rest (inr i) = let a = rest i in (inr a.0, a.1)

  decide : (b : Bool) → test p ≡ b → (IsAmong r (filter test ps) → IsAmong r ps × (test r ≡ true)) → IsAmong r (p ∷ ps) × (test r ≡ true)
  decide true e rest = here e rest (subst (IsAmong r) (cond-true _ _ _ e) i)
  decide false e rest = let a = rest (subst (IsAmong r) (cond-false _ _ _ e) i) in (inr a.0, a.1)

none_due_before : (moment : ℕ) (cs : List Claim) (r : Process) (ps : List Process) → NoneBefore r (filter (is_process_due moment cs) ps) → NoneDueBefore moment cs r ps
none_due_before moment cs r [] n = tt
none_due_before moment cs r (p ∷ ps) n = decide (is_process_due moment cs p) refl (none_due_before moment cs r ps) where
  decide : (b : Bool) → is_process_due moment cs p ≡ b → (NoneBefore r (filter (is_process_due moment cs) ps) → NoneDueBefore moment cs r ps) → NoneDueBefore moment cs r (p ∷ ps)
  decide true e rest = let m : NoneBefore r (p ∷ filter (is_process_due moment cs) ps) = subst (NoneBefore r) (cond-true _ _ _ e) n in (λ _. m.0, rest m.1)
  decide false e rest = (λ d. absurd (both_ways _ e d), rest (subst (NoneBefore r) (cond-false _ _ _ e) n))

none_due : (moment : ℕ) (cs : List Claim) (ps : List Process) → earliest (is_process_due moment cs) ps ≡ None → NoneDue moment cs ps
none_due moment cs [] e = tt
none_due moment cs (p ∷ ps) e = decide (is_process_due moment cs p) refl (none_due moment cs ps) where
  decide : (b : Bool) → is_process_due moment cs p ≡ b → (earliest (is_process_due moment cs) ps ≡ None → NoneDue moment cs ps) → NoneDue moment cs (p ∷ ps)
  decide true d rest = let some : reduce earlier (p ∷ filter (is_process_due moment cs) ps) ≡ None = subst (λ xs. reduce earlier xs ≡ None) (cond-true _ _ _ d) e in absurd cc
  decide false d rest = (d, rest (subst (λ xs. reduce earlier xs ≡ None) (cond-false _ _ _ d) e))

-- the next is the earliest of those that are due
pub next_is_next : (moment : ℕ) (q : Queue) (r : Option ℤ) → r ≡ next_due moment q → IsNext moment q.claims q.processes r
unfolding next_due
next_is_next moment q r e = subst (IsNext moment q.claims q.processes) (sym e) (decide (earliest (is_process_due moment q.claims) q.processes) refl) where
  decide : (o : Option Process) → earliest (is_process_due moment q.claims) q.processes ≡ o → IsNext moment q.claims q.processes (option_map (λ p. p.number) o)
  decide None is = none_due moment q.claims q.processes is
  decide (Some p) is =
      let l = earliest_leads (is_process_due moment q.claims) q.processes p is in
      let a = among_all (is_process_due moment q.claims) p q.processes l.1 in
      record { process = p; number = refl; among = a.0; due = a.1; first = none_due_before moment q.claims p q.processes l.0 }
