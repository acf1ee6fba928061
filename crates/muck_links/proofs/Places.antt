-- Lemmas on the connection of a number.
use Rattle.std.proofs.Common.{◌≡◌, ℕ, ◌+◌, ◌<◌, ◌≤◌, true, false, List, [], ◌∷◌, length, get_or, set, refl, sym, ◌∙◌, ap, arith, cond, not, suc}
use Rattle.std.specs.List.{position_or_len}
use Rattle.muck_links.specs.Keyed.{altered}
use Rattle.muck_links.specs.Sessions.{Session, session_number, has_number}

changed_at : (d : ℕ) (f : Session → Session) (cs : List Session) (old : Session) →
    position_or_len (has_number d) cs < length cs → old ≡ get_or cs (position_or_len (has_number d) cs) old →
    set cs (position_or_len (has_number d) cs) (f old) ≡ altered session_number d f cs
changed_at d f [] old = λ h e. absurd (omega arith)
changed_at d f (c ∷ cs) old =
    elim (has_number d c) as (λ b.
    cond (not b) (1 + position_or_len (has_number d) cs) 0 < length (c ∷ cs) →
    old ≡ get_or (c ∷ cs) (cond (not b) (1 + position_or_len (has_number d) cs) 0) old →
    set (c ∷ cs) (cond (not b) (1 + position_or_len (has_number d) cs) 0) (f old) ≡ cond b (f c ∷ cs) (c ∷ altered session_number d f cs)) [
      | true ↦ λ h e. ap (λ x. f x ∷ cs) e
      | false ↦ λ h e.
          let one : 1 + position_or_len (has_number d) cs ≡ suc (position_or_len (has_number d) cs) = omega arith in
          let below : position_or_len (has_number d) cs < length cs = omega arith in
          rw one (ap (λ xs. c ∷ xs) (changed_at d f cs old below (rw one at e)))
    ]

-- a write at the place of d changes the connection d
pub changed_where : (d : ℕ) (f : Session → Session) (cs : List Session) (at : ℕ) (old new : Session) →
    at ≡ position_or_len (has_number d) cs → at < length cs → old ≡ get_or cs at old → new ≡ f old →
    set cs at new ≡ altered session_number d f cs
changed_where d f cs at old new e h there is =
    let h' : position_or_len (has_number d) cs < length cs = omega arith in
    ap (set cs at) is ∙ rw e (changed_at d f cs old h' (rw e at there))

changed_beyond : (d : ℕ) (f : Session → Session) (cs : List Session) →
    length cs ≤ position_or_len (has_number d) cs → altered session_number d f cs ≡ cs
changed_beyond d f [] = λ h. refl
changed_beyond d f (c ∷ cs) =
    elim (has_number d c) as (λ b.
    length (c ∷ cs) ≤ cond (not b) (1 + position_or_len (has_number d) cs) 0 → cond b (f c ∷ cs) (c ∷ altered session_number d f cs) ≡ c ∷ cs) [
      | true ↦ λ h. absurd (omega arith)
      | false ↦ λ h. ap (λ x. c ∷ x) (changed_beyond d f cs (omega arith))
    ]

-- where d isn't there, nothing changes
pub changed_nowhere : (d : ℕ) (f : Session → Session) (cs : List Session) (at : ℕ) →
    at ≡ position_or_len (has_number d) cs → length cs ≤ at → cs ≡ altered session_number d f cs
changed_nowhere d f cs at e h = sym (changed_beyond d f cs (omega arith))
