-- The first element that passes a test: where it stands, and what changing or removing it does.
use Rattle.std.proofs.Common.{◌≡◌, ℕ, ◌+◌, ◌<◌, ◌≤◌, Bool, true, false, List, [], ◌∷◌, length, refl, sym, ◌∙◌, ap, arith, cond, Some, None, not, suc, get_or, set}
use Rattle.std.specs.Prelude.{find}
use Rattle.std.specs.List.{position_or_len, remove}
use Rattle.muck_queue.specs.declared.process.Process.{Process}
use Rattle.muck_queue.specs.Queues.{changed_first, without_first}

changed_at : (test : Process → Bool) (f : Process → Process) (ps : List Process) (old : Process) →
    position_or_len test ps < length ps → old ≡ get_or ps (position_or_len test ps) old →
    set ps (position_or_len test ps) (f old) ≡ changed_first test f ps
changed_at test f [] old = λ h e. absurd (omega arith)
changed_at test f (p ∷ ps) old =
    elim (test p) as (λ b.
    cond (not b) (1 + position_or_len test ps) 0 < length (p ∷ ps) →
    old ≡ get_or (p ∷ ps) (cond (not b) (1 + position_or_len test ps) 0) old →
    set (p ∷ ps) (cond (not b) (1 + position_or_len test ps) 0) (f old) ≡ cond b (f p ∷ ps) (p ∷ changed_first test f ps)) [
      | true ↦ λ h e. ap (λ x. f x ∷ ps) e
      | false ↦ λ h e.
          let one : 1 + position_or_len test ps ≡ suc (position_or_len test ps) = omega arith in
          let below : position_or_len test ps < length ps = omega arith in
          rw one (ap (λ xs. p ∷ xs) (changed_at test f ps old below (rw one at e)))
    ]

-- a write at the place of the first one that passes
pub changed_where : (test : Process → Bool) (f : Process → Process) (ps : List Process) (at : ℕ) (old new : Process) →
    at ≡ position_or_len test ps → at < length ps → old ≡ get_or ps at old → new ≡ f old →
    set ps at new ≡ changed_first test f ps
changed_where test f ps at old new e h there is =
    let h' : position_or_len test ps < length ps = omega arith in
    ap (set ps at) is ∙ rw e (changed_at test f ps old h' (rw e at there))

changed_beyond : (test : Process → Bool) (f : Process → Process) (ps : List Process) →
    length ps ≤ position_or_len test ps → changed_first test f ps ≡ ps
changed_beyond test f [] = λ h. refl
changed_beyond test f (p ∷ ps) =
    elim (test p) as (λ b.
    length (p ∷ ps) ≤ cond (not b) (1 + position_or_len test ps) 0 → cond b (f p ∷ ps) (p ∷ changed_first test f ps) ≡ p ∷ ps) [
      | true ↦ λ h. absurd (omega arith)
      | false ↦ λ h. ap (λ x. p ∷ x) (changed_beyond test f ps (omega arith))
    ]

-- where none passes, nothing changes
pub changed_nowhere : (test : Process → Bool) (f : Process → Process) (ps : List Process) (at : ℕ) →
    at ≡ position_or_len test ps → length ps ≤ at → ps ≡ changed_first test f ps
changed_nowhere test f ps at e h = sym (changed_beyond test f ps (omega arith))

without_at : (test : Process → Bool) (ps : List Process) → position_or_len test ps < length ps →
    remove ps (position_or_len test ps) ≡ without_first test ps
without_at test [] = λ h. absurd (omega arith)
without_at test (p ∷ ps) =
    elim (test p) as (λ b.
    cond (not b) (1 + position_or_len test ps) 0 < length (p ∷ ps) →
    remove (p ∷ ps) (cond (not b) (1 + position_or_len test ps) 0) ≡ cond b ps (p ∷ without_first test ps)) [
      | true ↦ λ h. refl
      | false ↦ λ h.
          let one : 1 + position_or_len test ps ≡ suc (position_or_len test ps) = omega arith in
          let below : position_or_len test ps < length ps = omega arith in
          rw one (ap (λ xs. p ∷ xs) (without_at test ps below))
    ]

-- taking away at the place of the first one that passes
pub without_where : (test : Process → Bool) (ps new : List Process) (at : ℕ) →
    at ≡ position_or_len test ps → at < length ps → new ≡ remove ps at → new ≡ without_first test ps
without_where test ps new at e h is =
    let h' : position_or_len test ps < length ps = omega arith in
    is ∙ rw e (without_at test ps h')

without_beyond : (test : Process → Bool) (ps : List Process) → length ps ≤ position_or_len test ps → ps ≡ without_first test ps
without_beyond test [] = λ h. refl
without_beyond test (p ∷ ps) =
    elim (test p) as (λ b.
    length (p ∷ ps) ≤ cond (not b) (1 + position_or_len test ps) 0 → p ∷ ps ≡ cond b ps (p ∷ without_first test ps)) [
      | true ↦ λ h. absurd (omega arith)
      | false ↦ λ h. ap (λ x. p ∷ x) (without_beyond test ps (omega arith))
    ]

pub without_nowhere : (test : Process → Bool) (ps : List Process) (at : ℕ) →
    at ≡ position_or_len test ps → length ps ≤ at → ps ≡ without_first test ps
without_nowhere test ps at e h = without_beyond test ps (omega arith)

found_at : (test : Process → Bool) (ps : List Process) (old : Process) → position_or_len test ps < length ps →
    old ≡ get_or ps (position_or_len test ps) old → find test ps ≡ Some old
found_at test [] old = λ h e. absurd (omega arith)
found_at test (p ∷ ps) old =
    elim (test p) as (λ b.
    cond (not b) (1 + position_or_len test ps) 0 < length (p ∷ ps) →
    old ≡ get_or (p ∷ ps) (cond (not b) (1 + position_or_len test ps) 0) old →
    cond b (Some p) (find test ps) ≡ Some old) [
      | true ↦ λ h e. ap Some (sym e)
      | false ↦ λ h e.
          let one : 1 + position_or_len test ps ≡ suc (position_or_len test ps) = omega arith in
          found_at test ps old (omega arith) (rw one at e)
    ]

-- what stands at the place of the first one that passes
pub found_where : (test : Process → Bool) (ps : List Process) (at : ℕ) (old : Process) →
    at ≡ position_or_len test ps → at < length ps → old ≡ get_or ps at old → find test ps ≡ Some old
found_where test ps at old e h there =
    let h' : position_or_len test ps < length ps = omega arith in
    found_at test ps old h' (rw e at there)

found_beyond : (test : Process → Bool) (ps : List Process) → length ps ≤ position_or_len test ps → find test ps ≡ None
found_beyond test [] = λ h. refl
found_beyond test (p ∷ ps) =
    elim (test p) as (λ b.
    length (p ∷ ps) ≤ cond (not b) (1 + position_or_len test ps) 0 → cond b (Some p) (find test ps) ≡ None) [
      | true ↦ λ h. absurd (omega arith)
      | false ↦ λ h. found_beyond test ps (omega arith)
    ]

pub found_nowhere : (test : Process → Bool) (ps : List Process) (at : ℕ) →
    at ≡ position_or_len test ps → length ps ≤ at → find test ps ≡ None
found_nowhere test ps at e h = found_beyond test ps (omega arith)
