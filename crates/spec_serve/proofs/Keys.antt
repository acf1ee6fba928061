-- Lists of things with numbers, the latest first.
use Rattle.std.proofs.Common.{◌≡◌, ◌≢◌, ℕ, Bool, true, false, List, [], ◌∷◌, ◌++◌, refl, sym, ap, ◌∙◌, Option, Some, eqb-true, ne_eqb, eq-eqb}
use Rattle.std.proofs.lemmas.Option.{none-some, same_Some}
use Rattle.std.specs.Prelude.{◌==◌, if◌then◌else◌}
use Rattle.muck_links.specs.Keyed.{altered, latest}

module _ {A : Type 0} (key : A → ℕ) where
  pub latest_altered : (d : ℕ) (f : A → A) → ((x : A) → key (f x) ≡ key x) → (xs : List A) (a : A) → latest key d xs ≡ Some a → latest key d (altered key d f xs) ≡ Some (f a)
  latest_altered d f keeps [] a e = absurd (none-some a e)
  latest_altered d f keeps (x ∷ xs) a e = from (latest_altered d f keeps xs a) (key x == d) refl e
    where
      from : (latest key d xs ≡ Some a → latest key d (altered key d f xs) ≡ Some (f a))
          → (t : Bool) → (key x == d) ≡ t → (if t then Some x else latest key d xs) ≡ Some a
          → latest key d (if t then f x ∷ xs else x ∷ altered key d f xs) ≡ Some (f a)
      from ih true is h = ap (λ (n : ℕ). if n == d then Some (f x) else latest key d xs) (keeps x) ∙ ap (λ (u : Bool). if u then Some (f x) else latest key d xs) is ∙ ap (λ (y : A). Some (f y)) (same_Some x a h)
      from ih false is h = ap (λ (u : Bool). if u then Some x else latest key d (altered key d f xs)) is ∙ ih h

  pub latest_else : (d d' : ℕ) (f : A → A) → d ≢ d' → ((x : A) → key (f x) ≡ key x) → (xs : List A) → latest key d' (altered key d f xs) ≡ latest key d' xs
  latest_else d d' f ne keeps [] = refl
  latest_else d d' f ne keeps (x ∷ xs) = from (latest_else d d' f ne keeps xs) (key x == d) refl
    where
      from : latest key d' (altered key d f xs) ≡ latest key d' xs → (t : Bool) → (key x == d) ≡ t
          → latest key d' (if t then f x ∷ xs else x ∷ altered key d f xs) ≡ (if key x == d' then Some x else latest key d' xs)
      from ih true is =
          let off : (key x == d') ≡ false = ne_eqb (key x) d' (λ e. ne (sym (eqb-true (key x) d is) ∙ e)) in
          ap (λ (n : ℕ). if n == d' then Some (f x) else latest key d' xs) (keeps x)
          ∙ ap (λ (u : Bool). if u then Some (f x) else latest key d' xs) off
          ∙ sym (ap (λ (u : Bool). if u then Some x else latest key d' xs) off)
      from ih false is = ap (λ (o : Option A). if key x == d' then Some x else o) ih

  pub altered_front : (d : ℕ) (f : A → A) (xs ys : List A) (a : A) → latest key d xs ≡ Some a → altered key d f (xs ++ ys) ≡ altered key d f xs ++ ys
  altered_front d f [] ys a e = absurd (none-some a e)
  altered_front d f (x ∷ xs) ys a e = from (altered_front d f xs ys a) (key x == d) e
    where
      from : (latest key d xs ≡ Some a → altered key d f (xs ++ ys) ≡ altered key d f xs ++ ys)
          → (t : Bool) → (if t then Some x else latest key d xs) ≡ Some a
          → (if t then f x ∷ (xs ++ ys) else x ∷ altered key d f (xs ++ ys)) ≡ (if t then f x ∷ xs else x ∷ altered key d f xs) ++ ys
      from ih true h = refl
      from ih false h = ap (λ (l : List A). x ∷ l) (ih h)

  pub latest_front : (d : ℕ) (xs ys : List A) (a : A) → latest key d xs ≡ Some a → latest key d (xs ++ ys) ≡ Some a
  latest_front d [] ys a e = absurd (none-some a e)
  latest_front d (x ∷ xs) ys a e = from (latest_front d xs ys a) (key x == d) e
    where
      from : (latest key d xs ≡ Some a → latest key d (xs ++ ys) ≡ Some a) → (t : Bool) → (if t then Some x else latest key d xs) ≡ Some a → (if t then Some x else latest key d (xs ++ ys)) ≡ Some a
      from ih true h = h
      from ih false h = ih h

  -- the head has another number
  pub altered_behind : (d : ℕ) (f : A → A) (x : A) (xs : List A) → ¬ (key x ≡ d) → altered key d f (x ∷ xs) ≡ x ∷ altered key d f xs
  altered_behind d f x xs ne = ap (λ (u : Bool). if u then f x ∷ xs else x ∷ altered key d f xs) (ne_eqb (key x) d ne)

  pub latest_behind : (d : ℕ) (x : A) (xs : List A) → ¬ (key x ≡ d) → latest key d (x ∷ xs) ≡ latest key d xs
  latest_behind d x xs ne = ap (λ (u : Bool). if u then Some x else latest key d xs) (ne_eqb (key x) d ne)

  pub latest_head : (d : ℕ) (x : A) (xs : List A) → key x ≡ d → latest key d (x ∷ xs) ≡ Some x
  latest_head d x xs e = ap (λ (u : Bool). if u then Some x else latest key d xs) (eq-eqb (key x) d e)
