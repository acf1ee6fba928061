-- Each change of a queue leaves room for the claims to come.
use Rattle.std.proofs.Common.{◌≡◌, ◌⊎◌, inl, inr, ℕ, suc, ℤ, ◌+◌, ◌≤◌, ◌≤ℤ◌, Bool, true, false, not, cond, ◌||◌, List, [], ◌∷◌, ◌++◌, length, refl, sym, ◌∙◌, ap, subst, arith, if◌then◌else◌}
use Rattle.std.specs.Prelude.{map}
use Rattle.std.specs.List.{filter}
use Rattle.std.specs.Ordering.{int_eq}
use Rattle.std.proofs.lemmas.Bool.{cond_both}
use Rattle.std.proofs.lemmas.Int.{ints}
use Rattle.std.proofs.Math.Bool.{or-false}
use Rattle.std.proofs.lemmas.Cmp.{int_eq_equiv}
use Rattle.muck_laws.proofs.Numbers.{at_most_more, both_more, fewer_one, taken_here, taken_later}
use Rattle.muck_laws.proofs.Truths.{or_assoc}
use Rattle.muck_model.specs.declared.dbref.Dbref.{Dbref}
use Rattle.muck_queue.specs.declared.claim.Claim.{Claim}
use Rattle.muck_queue.specs.declared.process.Process.{Process}
use Rattle.muck_queue.specs.Queues.{changed_first, has_trigger, is_claimed, is_on, without_first, without_trigger}
use Rattle.muck_queue.specs.inner.Leading.{IsAmong}
use Rattle.muck_queue.specs.inner.Numbered.{Rises}
use Rattle.muck_queue.specs.inner.Room.{unclaimed}
use Rattle.muck_queue.proofs.Changed.{KeepsNumber}

-- Processes.

-- one more, of which nothing is known
pub unclaimed_added : (cs : List Claim) (p : Process) (ps : List Process) → unclaimed cs (ps ++ p ∷ []) ≤ suc (length ps)
unclaimed_added cs p [] = cond_both (is_claimed p.number cs) 0 1 (λ n. n ≤ 1) (λ e. omega arith) (λ e. omega arith)
unclaimed_added cs p (x ∷ ps) =
    let rest = unclaimed_added cs p ps in
    cond_both (is_claimed x.number cs) (unclaimed cs (ps ++ p ∷ [])) (suc (unclaimed cs (ps ++ p ∷ []))) (λ n. n ≤ suc (length (x ∷ ps))) (λ e. omega arith) (λ e. omega arith)

-- some of them
pub unclaimed_kept : (cs : List Claim) (test : Process → Bool) (ps : List Process) → unclaimed cs (filter test ps) ≤ unclaimed cs ps
unclaimed_kept cs test [] = omega arith
unclaimed_kept cs test (p ∷ ps) =
    cond_both (test p) (p ∷ filter test ps) (filter test ps) (λ qs. unclaimed cs qs ≤ unclaimed cs (p ∷ ps))
    (λ e. both_more (is_claimed p.number cs) _ _ (unclaimed_kept cs test ps))
    (λ e. at_most_more (is_claimed p.number cs) _ _ (unclaimed_kept cs test ps))

pub unclaimed_without : (cs : List Claim) (test : Process → Bool) (ps : List Process) → unclaimed cs (without_first test ps) ≤ unclaimed cs ps
unclaimed_without cs test [] = omega arith
unclaimed_without cs test (p ∷ ps) =
    cond_both (test p) ps (p ∷ without_first test ps) (λ qs. unclaimed cs qs ≤ unclaimed cs (p ∷ ps))
    (λ e. at_most_more (is_claimed p.number cs) _ _ (omega arith))
    (λ e. both_more (is_claimed p.number cs) _ _ (unclaimed_without cs test ps))

-- the same numbers
pub unclaimed_changed : (cs : List Claim) (test : Process → Bool) (f : Process → Process) → KeepsNumber f → (ps : List Process) → unclaimed cs (changed_first test f ps) ≡ unclaimed cs ps
unclaimed_changed cs test f k [] = refl
unclaimed_changed cs test f k (p ∷ ps) =
    cond_both (test p) (f p ∷ ps) (p ∷ changed_first test f ps) (λ qs. unclaimed cs qs ≡ unclaimed cs (p ∷ ps))
    (λ e. ap (λ n. cond (is_claimed n cs) (unclaimed cs ps) (suc (unclaimed cs ps))) (k p))
    (λ e. ap (λ n. cond (is_claimed p.number cs) n (suc n)) (unclaimed_changed cs test f k ps))

pub unclaimed_cleared : (cs : List Claim) (trigger : Dbref) (ps : List Process) → unclaimed cs (map (λ p. if has_trigger trigger p then without_trigger p else p) ps) ≡ unclaimed cs ps
unclaimed_cleared cs trigger [] = refl
unclaimed_cleared cs trigger (p ∷ ps) =
    let rest = ap (λ n. cond (is_claimed p.number cs) n (suc n)) (unclaimed_cleared cs trigger ps) in
    cond_both (has_trigger trigger p) (without_trigger p) p (λ q. unclaimed cs (q ∷ map (λ p. if has_trigger trigger p then without_trigger p else p) ps) ≡ unclaimed cs (p ∷ ps)) (λ e. rest) (λ e. rest)

-- A claim more.

claimed_more : (n : ℤ) (c : Claim) (cs : List Claim) → is_claimed n (cs ++ c ∷ []) ≡ (is_claimed n cs || is_on n c)
claimed_more n c [] = or-false (is_on n c)
claimed_more n c (x ∷ cs) = ap (λ b. is_on n x || b) (claimed_more n c cs) ∙ or_assoc (is_on n x) (is_claimed n cs) (is_on n c)

fewer : (c : Claim) (cs : List Claim) (ps : List Process) → unclaimed (cs ++ c ∷ []) ps ≤ unclaimed cs ps
fewer c cs [] = omega arith
fewer c cs (p ∷ ps) =
    let m = unclaimed (cs ++ c ∷ []) ps in
    subst (λ b. cond b m (suc m) ≤ unclaimed cs (p ∷ ps)) (sym (claimed_more p.number c cs)) (fewer_one (is_claimed p.number cs) (is_on p.number c) m (unclaimed cs ps) (fewer c cs ps))

-- on a process that nobody has claimed: one fewer is left
pub unclaimed_claimed : (c : Claim) (cs : List Claim) (r : Process) (ps : List Process) → c.number ≡ r.number → is_claimed r.number cs ≡ false → IsAmong r ps → suc (unclaimed (cs ++ c ∷ []) ps) ≤ unclaimed cs ps
unclaimed_claimed c cs r [] n e a = absurd a
unclaimed_claimed c cs r (p ∷ ps) n e (inl is) =
    let on : is_on p.number c ≡ true = ap (λ (q : Process). int_eq c.number q.number) (sym is) ∙ ap (λ k. int_eq c.number k) (sym n) ∙ int_eq_equiv.refl c.number in
    let free : is_claimed p.number cs ≡ false = ap (λ (q : Process). is_claimed q.number cs) (sym is) ∙ e in
    let m = unclaimed (cs ++ c ∷ []) ps in
    subst (λ b. suc (cond b m (suc m)) ≤ unclaimed cs (p ∷ ps)) (sym (claimed_more p.number c cs)) (taken_here (is_claimed p.number cs) (is_on p.number c) m (unclaimed cs ps) free on (fewer c cs ps))
unclaimed_claimed c cs r (p ∷ ps) n e (inr s) =
    let m = unclaimed (cs ++ c ∷ []) ps in
    subst (λ b. suc (cond b m (suc m)) ≤ unclaimed cs (p ∷ ps)) (sym (claimed_more p.number c cs)) (taken_later (is_claimed p.number cs) (is_on p.number c) m (unclaimed cs ps) (unclaimed_claimed c cs r ps n e s))

-- Nobody claims a process any more.

module _ (pid : ℤ) where
  abbrev pub left : List Claim → List Claim
  left cs = filter (λ c. not (is_on pid c)) cs

  -- some claims go, or all stay
  shorter : (cs : List Claim) → (suc (length (left cs)) ≤ length cs) ⊎ (left cs ≡ cs)
  shorter [] = inr refl
  shorter (c ∷ cs) = decide (is_on pid c) (shorter cs) where
    decide : (b : Bool) → (suc (length (left cs)) ≤ length cs) ⊎ (left cs ≡ cs) → (suc (length (cond (not b) (c ∷ left cs) (left cs))) ≤ length (c ∷ cs)) ⊎ (cond (not b) (c ∷ left cs) (left cs) ≡ c ∷ cs)
    decide true (inl h) = inl (omega arith)
    decide true (inr e) = inl (let same : length (left cs) ≡ length cs = ap length e in omega arith)
    decide false (inl h) = inl (omega arith)
    decide false (inr e) = inr (ap (λ xs. c ∷ xs) e)

  -- another process is claimed as before
  others : (n : ℤ) (cs : List Claim) → int_eq n pid ≡ false → is_claimed n (left cs) ≡ is_claimed n cs
  others n [] e = refl
  others n (c ∷ cs) e = decide (others n cs e) (is_on pid c) refl where
    decide : is_claimed n (left cs) ≡ is_claimed n cs → (b : Bool) → is_on pid c ≡ b → is_claimed n (cond (not b) (c ∷ left cs) (left cs)) ≡ (is_on n c || is_claimed n cs)
    decide rest true on = let off : is_on n c ≡ false = grind (arith, ints) in rest ∙ ap (λ b. b || is_claimed n cs) (sym off)
    decide rest false on = ap (λ b. is_on n c || b) rest

  -- so above its number nothing changes
  above : (low last : ℤ) (cs : List Claim) (ps : List Process) → pid ≤ℤ low → Rises low last ps → unclaimed (left cs) ps ≡ unclaimed cs ps
  above low last cs [] h r = refl
  above low last cs (p ∷ ps) h r =
      let other : int_eq p.number pid ≡ false = grind (arith, ints, r.0) in
      let rest = above p.number last cs ps (omega (arith, ints, r.0)) r.1 in
      ap (λ b. cond b (unclaimed (left cs) ps) (suc (unclaimed (left cs) ps))) (others p.number cs other) ∙ ap (λ n. cond (is_claimed p.number cs) n (suc n)) rest

  one_more : (b c : Bool) (m k : ℕ) → m ≡ k → cond b m (suc m) ≤ suc (cond c k (suc k))
  one_more true true m k e = omega arith
  one_more true false m k e = omega arith
  one_more false true m k e = omega arith
  one_more false false m k e = omega arith

  same_more : (b : Bool) (m k : ℕ) → m ≤ suc k → cond b m (suc m) ≤ suc (cond b k (suc k))
  same_more true m k h = h
  same_more false m k h = omega arith

  -- at most one process more is left that nobody has claimed
  pub unclaimed_left : (low last : ℤ) (cs : List Claim) (ps : List Process) → Rises low last ps → unclaimed (left cs) ps ≤ suc (unclaimed cs ps)
  unclaimed_left low last cs [] r = omega arith
  unclaimed_left low last cs (p ∷ ps) r = decide (unclaimed_left p.number last cs ps r.1) (int_eq p.number pid) refl where
    decide : unclaimed (left cs) ps ≤ suc (unclaimed cs ps) → (b : Bool) → int_eq p.number pid ≡ b → unclaimed (left cs) (p ∷ ps) ≤ suc (unclaimed cs (p ∷ ps))
    decide rest true e = one_more (is_claimed p.number (left cs)) (is_claimed p.number cs) _ _ (above p.number last cs ps (grind (arith, ints, e)) r.1)
    decide rest false e =
        subst (λ b. cond b (unclaimed (left cs) ps) (suc (unclaimed (left cs) ps)) ≤ suc (unclaimed cs (p ∷ ps))) (sym (others p.number cs e)) (same_more (is_claimed p.number cs) _ _ rest)

  -- so there is room for as many claims as before
  pub room_left : (low last : ℤ) (cs : List Claim) (ps : List Process) → Rises low last ps → unclaimed (left cs) ps + length (left cs) ≤ unclaimed cs ps + length cs
  room_left low last cs ps r = decide (shorter cs) where
    decide : (suc (length (left cs)) ≤ length cs) ⊎ (left cs ≡ cs) → unclaimed (left cs) ps + length (left cs) ≤ unclaimed cs ps + length cs
    decide (inl h) = let more = unclaimed_left low last cs ps r in omega arith
    decide (inr e) = subst (λ xs. unclaimed xs ps + length xs ≤ unclaimed cs ps + length cs) (sym e) (omega arith)
