-- Lists of things with numbers.
use Rattle.std.proofs.Common.{◌≡◌, ℕ, Bool, true, false, List, [], ◌∷◌, refl, sym, ap}
use Rattle.std.specs.Prelude.{◌==◌, if◌then◌else◌}
use Rattle.muck_links.specs.Keyed.{altered}
use Rattle.muck_links.specs.Sessions.{Session, LinksTold, session_number, on_session}

-- a change that changes nothing
pub altered_same : {A : Type 0} (key : A → ℕ) (d : ℕ) (f : A → A) → ((x : A) → f x ≡ x) → (xs : List A) → altered key d f xs ≡ xs
altered_same key d f same [] = refl
altered_same key d f same (x ∷ xs) = from (altered_same key d f same xs) (key x == d)
  where
    from : altered key d f xs ≡ xs → (t : Bool) → (if t then f x ∷ xs else x ∷ altered key d f xs) ≡ x ∷ xs
    from e true = ap (λ y. y ∷ xs) (same x)
    from e false = ap (λ l. x ∷ l) e

pub told_same : (d : ℕ) (f : Session → Session) → ((s : Session) → f s ≡ s) → (told : LinksTold) → told ≡ on_session d f told
told_same d f same told = ap (λ (l : List Session). let k : LinksTold = record told { sessions = l } in k) (sym (altered_same session_number d f same told.sessions))
