-- Which processes are there behind a change of a list of them.
use Rattle.std.proofs.Common.{◌≡◌, ℤ, Bool, true, false, cond, List, [], ◌∷◌, refl, sym, subst, Option, Some, None, ◌⊎◌, inl, inr}
use Rattle.std.specs.Prelude.{find}
use Rattle.std.specs.Ordering.{int_eq}
use Rattle.muck_queue.specs.declared.process.Process.{Process}
use Rattle.muck_queue.specs.Queues.{has_pid, changed_first, without_first}

-- the same process, at the same state, which may go on in another way
pub record IsSame (p r : Process) : Type 0 where
  pub number : r.number ≡ p.number
  pub program : r.program ≡ p.program
  pub player : r.player ≡ p.player
  pub running : r.running ≡ p.running

-- Where one was there it is there, or it may end; and none is there that wasn't.
abbrev pub Stays : (Process → Type 0) → Option Process → Option Process → Type 0
Stays may (Some p) (Some r) = IsSame p r ⊎ may p
Stays may (Some p) None = may p
Stays may None (Some r) = ⊥
Stays may None None = Unit {0}

pub same_so : {p r : Process} → r.number ≡ p.number → r.program ≡ p.program → r.player ≡ p.player → r.running ≡ p.running → IsSame p r
same_so a b c d = record { number = a; program = b; player = c; running = d }

pub same_itself : (p : Process) → IsSame p p
same_itself p = record { number = refl; program = refl; player = refl; running = refl }

module _ (may : Process → Type 0) where
  pub stays_itself : (o : Option Process) → Stays may o o
  stays_itself None = tt
  stays_itself (Some p) = inl (same_itself p)

  ends_so : (p : Process) (o : Option Process) → may p → Stays may (Some p) o
  ends_so p None h = h
  ends_so p (Some r) h = inr h

  -- one that isn't looked for stands before the others
  behind_one : (p : Process) (b : Bool) (o r : Option Process) → Stays may o r → Stays may (cond b (Some p) o) (cond b (Some p) r)
  behind_one p true o r h = inl (same_itself p)
  behind_one p false o r h = h

  -- one is changed
  module _ (pid : ℤ) (f : Process → Process) (same : (p : Process) → IsSame p (f p)) where
    changed_one : (p : Process) (at : ℤ) (o : Option Process) → Stays may (cond (has_pid at p) (Some p) o) (cond (has_pid at (f p)) (Some (f p)) o)
    changed_one p at o = subst (λ n. Stays may (cond (has_pid at p) (Some p) o) (cond (int_eq n at) (Some (f p)) o)) (sym (same p).number) (first (has_pid at p))
      where
        first : (b : Bool) → Stays may (cond b (Some p) o) (cond b (Some (f p)) o)
        first true = inl (same p)
        first false = stays_itself o

    pub stays_changed : (ps : List Process) (at : ℤ) → Stays may (find (has_pid at) ps) (find (has_pid at) (changed_first (has_pid pid) f ps))
    stays_changed [] at = tt
    stays_changed (p ∷ ps) at = here (stays_changed ps at) (has_pid pid p)
      where
        here : Stays may (find (has_pid at) ps) (find (has_pid at) (changed_first (has_pid pid) f ps)) → (c : Bool) → Stays may (find (has_pid at) (p ∷ ps)) (find (has_pid at) (cond c (f p ∷ ps) (p ∷ changed_first (has_pid pid) f ps)))
        here h true = changed_one p at (find (has_pid at) ps)
        here h false = behind_one p (has_pid at p) _ _ h

  -- one goes that may end
  module _ (pid : ℤ) (other : Process) (h : may other) where
    gone_one : (p : Process) (b : Bool) (o : Option Process) → Some p ≡ Some other → Stays may (cond b (Some p) o) o
    gone_one p true o e = ends_so p o (subst may (let same : other ≡ p = cc in same) h)
    gone_one p false o e = stays_itself o

    pub stays_without : (ps : List Process) (at : ℤ) → find (has_pid pid) ps ≡ Some other → Stays may (find (has_pid at) ps) (find (has_pid at) (without_first (has_pid pid) ps))
    stays_without [] at = λ e. absurd cc
    stays_without (p ∷ ps) at = here (stays_without ps at) (has_pid pid p)
      where
        here : (find (has_pid pid) ps ≡ Some other → Stays may (find (has_pid at) ps) (find (has_pid at) (without_first (has_pid pid) ps))) → (c : Bool) → cond c (Some p) (find (has_pid pid) ps) ≡ Some other →
            Stays may (find (has_pid at) (p ∷ ps)) (find (has_pid at) (cond c ps (p ∷ without_first (has_pid pid) ps)))
        here h true e = gone_one p (has_pid at p) (find (has_pid at) ps) e
        here h false e = behind_one p (has_pid at p) _ _ (h e)
