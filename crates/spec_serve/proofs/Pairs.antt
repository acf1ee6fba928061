-- Two lists, item by item.
use Rattle.std.proofs.Common.{◌≡◌, ℕ, zero, suc, Bool, true, false, List, [], ◌∷◌, ◌++◌, refl, sym, ap, ◌∙◌, subst, Some}
use Rattle.std.proofs.lemmas.Option.{same_Some, none-some}
use Rattle.std.specs.Prelude.{◌==◌, if◌then◌else◌, slice_get}
use Rattle.muck_links.specs.Keyed.{altered, latest}
use Rattle.muck_links.specs.Sessions.{Session}
use Rattle.spec_talks.specs.Talks.{Talk, talks_with}
use Rattle.spec_serve.specs.Pairs.{All2}
use Rattle.spec_serve.specs.Marks.{LinksNote}
use Rattle.spec_serve.specs.Accounts.{Agrees}
use Rattle.spec_serve.specs.Promises.{sessions_with}

module _ {A B : Type 0} (key : A → ℕ) (key' : B → ℕ) (R : A → B → Type 0) (same : (x : A) (y : B) → R x y → key x ≡ key' y) where
  -- the latest of a number is changed in both
  pub all2_altered : (d : ℕ) (f : A → A) (g : B → B) (xs : List A) (ys : List B) (a : A) (b : B) → All2 R xs ys → latest key d xs ≡ Some a → latest key' d ys ≡ Some b
      → R (f a) (g b) → All2 R (altered key d f xs) (altered key' d g ys)
  all2_altered d f g [] ys a b all ea eb r = absurd (none-some a ea)
  all2_altered d f g (x ∷ xs) [] a b all ea eb r = absurd (none-some b eb)
  all2_altered d f g (x ∷ xs) (y ∷ ys) a b all ea eb r = from (λ h k. all2_altered d f g xs ys a b all.1 h k r) (key x == d) (ap (λ (n : ℕ). n == d) (sym (same x y all.0))) ea eb
    where
      from : (latest key d xs ≡ Some a → latest key' d ys ≡ Some b → All2 R (altered key d f xs) (altered key' d g ys))
          → (t : Bool) → (key' y == d) ≡ t
          → (if t then Some x else latest key d xs) ≡ Some a → (if key' y == d then Some y else latest key' d ys) ≡ Some b
          → All2 R (if t then f x ∷ xs else x ∷ altered key d f xs) (if key' y == d then g y ∷ ys else y ∷ altered key' d g ys)
      from ih true is ha hb =
          let b_is : y ≡ b = same_Some y b (sym (ap (λ (u : Bool). if u then Some y else latest key' d ys) is) ∙ hb) in
          subst (λ (u : Bool). All2 R (f x ∷ xs) (if u then g y ∷ ys else y ∷ altered key' d g ys)) (sym is)
          (subst (λ (z : A). R (f z) (g y)) (sym (same_Some x a ha)) (subst (λ (z : B). R (f a) (g z)) (sym b_is) r), all.1)
      from ih false is ha hb =
          subst (λ (u : Bool). All2 R (x ∷ altered key d f xs) (if u then g y ∷ ys else y ∷ altered key' d g ys)) (sym is)
          (all.0, ih ha (sym (ap (λ (u : Bool). if u then Some y else latest key' d ys) is) ∙ hb))

module _ {A B : Type 0} where
  pub all2_map : (R S : A → B → Type 0) → ((x : A) (y : B) → R x y → S x y) → (xs : List A) (ys : List B) → All2 R xs ys → All2 S xs ys
  all2_map R S f [] [] all = tt
  all2_map R S f [] (y ∷ ys) all = absurd all
  all2_map R S f (x ∷ xs) [] all = absurd all
  all2_map R S f (x ∷ xs) (y ∷ ys) all = (f x y all.0, all2_map R S f xs ys all.1)

  all2_end : (R : A → B → Type 0) (xs : List A) (ys : List B) (x : A) (y : B) → All2 R xs ys → R x y → All2 R (xs ++ x ∷ []) (ys ++ y ∷ [])
  all2_end R [] [] x y all r = (r, tt)
  all2_end R [] (b ∷ bs) x y all r = absurd all
  all2_end R (a ∷ rest) [] x y all r = absurd all
  all2_end R (a ∷ rest) (b ∷ bs) x y all r = (all.0, all2_end R rest bs x y all.1 r)

  all2_at : (R : A → B → Type 0) (xs : List A) (ys : List B) (place : ℕ) (x : A) → All2 R xs ys → slice_get xs place ≡ Some x → (y : B) × (slice_get ys place ≡ Some y) × R x y
  all2_at R [] ys place x all at = absurd (none-some x at)
  all2_at R (a ∷ rest) [] place x all at = absurd all
  all2_at R (a ∷ rest) (b ∷ bs) zero x all at = (b, refl, subst (λ (z : A). R z b) (same_Some a x at) all.0)
  all2_at R (a ∷ rest) (b ∷ bs) (suc place) x all at = all2_at R rest bs place x all.1 at

all2_with : (counted : LinksNote) (d : ℕ) (ts : List Talk) (ss : List Session) → All2 (Agrees counted) ts ss → All2 (Agrees counted) (talks_with d ts) (sessions_with d ss)
all2_with counted d [] [] all = tt
all2_with counted d [] (s ∷ ss) all = absurd all
all2_with counted d (t ∷ ts) [] all = absurd all
all2_with counted d (t ∷ ts) (s ∷ ss) all = from (all2_with counted d ts ss all.1) (t.number == d) (ap (λ (n : ℕ). n == d) (sym all.0.number))
  where
    from : All2 (Agrees counted) (talks_with d ts) (sessions_with d ss) → (b : Bool) → (s.number == d) ≡ b
        → All2 (Agrees counted) (if b then talks_with d ts ++ t ∷ [] else talks_with d ts) (if s.number == d then sessions_with d ss ++ s ∷ [] else sessions_with d ss)
    from ih true is = subst (λ (u : Bool). All2 (Agrees counted) (talks_with d ts ++ t ∷ []) (if u then sessions_with d ss ++ s ∷ [] else sessions_with d ss)) (sym is) (all2_end (Agrees counted) (talks_with d ts) (sessions_with d ss) t s ih all.0)
    from ih false is = subst (λ (u : Bool). All2 (Agrees counted) (talks_with d ts) (if u then sessions_with d ss ++ s ∷ [] else sessions_with d ss)) (sym is) ih

-- The opening of d at a place belongs to the acceptance of d at the same place.
pub by_number : (counted : LinksNote) (d place : ℕ) (ts : List Talk) (ss : List Session) (t : Talk) → All2 (Agrees counted) ts ss → slice_get (talks_with d ts) place ≡ Some t
    → (s : Session) × (slice_get (sessions_with d ss) place ≡ Some s) × Agrees counted t s
by_number counted d place ts ss t all at = all2_at (Agrees counted) (talks_with d ts) (sessions_with d ss) place t (all2_with counted d ts ss all) at
