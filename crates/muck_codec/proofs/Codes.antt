-- What a part that is read and a spelling have to do with each other, and how that carries over to parts of parts.
use Rattle.std.proofs.Common.{◌≡◌, ℕ, zero, suc, ◌+◌, ◌<◌, List, [], ◌∷◌, ◌++◌, length, get_or, take, drop, Option, Some, None, Result, Ok, Err, refl, sym, ap, subst, ◌∙◌, append_assoc, arith, inl, inr}
use Rattle.std.specs.List.{flat_map}
use Rattle.std.proofs.lemmas.Bool.{cases_lt}
use Rattle.std.proofs.lemmas.List.{length-take, get_or-drop, get_or-take, get_or_past}
use Rattle.std.proofs.lemmas.List.Concat.{flat_map-cons}
use Rattle.muck_codec.specs.Reading.{◌>>=◌, both_read, count_then_items, mapped, several}
use Rattle.muck_codec.specs.inner.Stored.{Run}

abbrev pub IsBytes : List ℕ → Type 0
IsBytes bytes = (i : ℕ) → get_or bytes i 0 < 256

pub bytes_drop : (n : ℕ) (bytes : List ℕ) → IsBytes bytes → IsBytes (drop n bytes)
bytes_drop n bytes h i = rw get_or-drop (h (n + i))

pub bytes_take : (n : ℕ) (bytes : List ℕ) → IsBytes bytes → IsBytes (take n bytes)
bytes_take n bytes h i = elim (cases_lt i n) [
  | inl lt ↦ rw (get_or-take n bytes i 0 lt) (h i)
  | inr le ↦ rw (get_or_past (take n bytes) i 0 (omega (arith, length-take n bytes))) (omega arith)
]

pub bytes_rest : (b : ℕ) (bytes : List ℕ) → IsBytes (b ∷ bytes) → IsBytes bytes
bytes_rest b bytes h i = h (suc i)

-- the value of a step that did not fail
pub bind_ok : {A B : Type 0} (r : Result A ℕ) (f : A → Result B ℕ) (y : B) → (r >>= f) ≡ Ok y → (x : A) × (r ≡ Ok x) × (f x ≡ Ok y)
bind_ok (Ok x) f y e = (x, refl, e)
bind_ok (Err left) f y e = absurd cc

abbrev right : {A : Type 0} → A → Result A ℕ
right x = Ok x

pub ok_is : {A : Type 0} (x y : A) → right x ≡ right y → x ≡ y
ok_is x y e = cc

-- what was taken from the front
pub record Takes (bytes text rest : List ℕ) : Type 0 where
  pub parts : bytes ≡ text ++ rest
  pub rest_fits : IsBytes rest

pub takes_then : (a x b y c : List ℕ) → Takes a x b → Takes b y c → Takes a (x ++ y) c
takes_then a x b y c p q = record { parts = p.parts ∙ ap (λ (t : List ℕ). x ++ t) q.parts ∙ sym (append_assoc x y c); rest_fits = q.rest_fits }

-- what is read is spelled so, and what is spelled so is read
pub record Codes {A : Type 0} (part : List ℕ → Result (A × List ℕ) ℕ) (spell : A → List ℕ) (rule : A → Type 0) : Type 0 where
  pub takes : (bytes rest : List ℕ) (x : A) → IsBytes bytes → part bytes ≡ Ok (x, rest) → Takes bytes (spell x) rest × rule x
  pub again : (x : A) (rest : List ℕ) → rule x → part (spell x ++ rest) ≡ Ok (x, rest)

pub both_codes : {A B : Type 0} (p : List ℕ → Result (A × List ℕ) ℕ) (q : List ℕ → Result (B × List ℕ) ℕ) (s : A → List ℕ) (t : B → List ℕ) (F : A → Type 0) (G : B → Type 0)
    → Codes p s F → Codes q t G → Codes (both_read p q) (λ x. s x.0 ++ t x.1) (λ x. F x.0 × G x.1)
both_codes {A = A} {B = B} p q s t F G first second = record {
  takes = λ bytes rest x fits e.
      let a = bind_ok (p bytes) (λ u. q u.1 >>= λ v. Ok ((u.0, v.0), v.1)) (x, rest) e in
      let b = bind_ok (q a.0.1) (λ v. Ok ((a.0.0, v.0), v.1)) (x, rest) a.2 in
      let one = first.takes bytes a.0.1 a.0.0 fits a.1 in
      let two = second.takes a.0.1 b.0.1 b.0.0 one.0.rest_fits b.1 in
      let whole : (A × B) × List ℕ = ((a.0.0, b.0.0), b.0.1) in
      let made : (A × B) × List ℕ = (x, rest) in
      subst (λ (y : (A × B) × List ℕ). Takes bytes (s y.0.0 ++ t y.0.1) y.1 × (F y.0.0 × G y.0.1)) (ok_is whole made b.2)
      (takes_then bytes (s a.0.0) a.0.1 (t b.0.0) b.0.1 one.0 two.0, (one.1, two.1));
  again = λ x rest rule.
      let two : q (t x.1 ++ rest) ≡ Ok (x.1, rest) = second.again x.1 rest rule.1 in
      let one : p (s x.0 ++ (t x.1 ++ rest)) ≡ Ok (x.0, t x.1 ++ rest) = first.again x.0 (t x.1 ++ rest) rule.0 in
      ap (both_read p q) (append_assoc (s x.0) (t x.1) rest) ∙ rw (one, two) refl;
}

pub mapped_codes : {A B : Type 0} (f : A → B) (p : List ℕ → Result (A × List ℕ) ℕ) (s : A → List ℕ) (t : B → List ℕ) (F : A → Type 0) (G : B → Type 0)
    → ((x : A) → F x → t (f x) ≡ s x) → ((x : A) → F x → G (f x)) → ((y : B) → G y → (x : A) × (f x ≡ y) × F x)
    → Codes p s F → Codes (mapped f p) t G
mapped_codes {A = A} {B = B} f p s t F G same forth back codes = record {
  takes = λ bytes rest y fits e.
      let a = bind_ok (p bytes) (λ u. Ok (f u.0, u.1)) (y, rest) e in
      let one = codes.takes bytes a.0.1 a.0.0 fits a.1 in
      let whole : B × List ℕ = (f a.0.0, a.0.1) in
      let made : B × List ℕ = (y, rest) in
      subst (λ (z : B × List ℕ). Takes bytes (t z.0) z.1 × G z.0) (ok_is whole made a.2)
      (subst (λ l. Takes bytes l a.0.1) (sym (same a.0.0 one.1)) one.0, forth a.0.0 one.1);
  again = λ y rest rule.
      let x = back y rule in
      let spelled : t y ≡ s x.0 = ap t (sym x.1) ∙ same x.0 x.2 in
      ap (λ l. mapped f p (l ++ rest)) spelled ∙ ap (λ r. r >>= λ u. Ok (f u.0, u.1)) (codes.again x.0 rest x.2) ∙ ap (λ z. Ok (z, rest)) x.1;
}

module _ {A K : Type 0} (key : A → K) (part : Option K → List ℕ → Result (A × List ℕ) ℕ) (s : A → List ℕ) (F : Option K → A → Type 0) (codes : (before : Option K) → Codes (part before) s (F before)) where
  pub several_take : (before : Option K) (n : ℕ) (bytes rest : List ℕ) (xs : List A) → IsBytes bytes → several key part before n bytes ≡ Ok (xs, rest)
      → Takes bytes (flat_map s xs) rest × ((length xs ≡ n) × Run key F before xs)
  unfolding several
  several_take before zero bytes rest xs fits e =
      let whole : List A × List ℕ = ([], bytes) in
      let made : List A × List ℕ = (xs, rest) in
      subst (λ (y : List A × List ℕ). Takes bytes (flat_map s y.0) y.1 × ((length y.0 ≡ 0) × Run key F before y.0)) (ok_is whole made e) (record { parts = refl; rest_fits = fits }, (refl, tt))
  several_take before (suc n) bytes rest xs fits e =
      let a = bind_ok (part before bytes) (λ u. several key part (Some (key u.0)) n u.1 >>= λ v. Ok (u.0 ∷ v.0, v.1)) (xs, rest) e in
      let b = bind_ok (several key part (Some (key a.0.0)) n a.0.1) (λ v. Ok (a.0.0 ∷ v.0, v.1)) (xs, rest) a.2 in
      let one = (codes before).takes bytes a.0.1 a.0.0 fits a.1 in
      let two = several_take (Some (key a.0.0)) n a.0.1 b.0.1 b.0.0 one.0.rest_fits b.1 in
      let whole : List A × List ℕ = (a.0.0 ∷ b.0.0, b.0.1) in
      let made : List A × List ℕ = (xs, rest) in
      subst (λ (y : List A × List ℕ). Takes bytes (flat_map s y.0) y.1 × ((length y.0 ≡ suc n) × Run key F before y.0)) (ok_is whole made b.2)
      (subst (λ l. Takes bytes l b.0.1) (sym (flat_map-cons s a.0.0 b.0.0)) (takes_then bytes (s a.0.0) a.0.1 (flat_map s b.0.0) b.0.1 one.0 two.0), (ap suc two.1.0, (one.1, two.1.1)))

  pub several_again : (before : Option K) (xs : List A) (rest : List ℕ) → Run key F before xs → several key part before (length xs) (flat_map s xs ++ rest) ≡ Ok (xs, rest)
  unfolding several
  several_again before [] rest rule = refl
  several_again before (x ∷ xs) rest rule =
      let regrouped : flat_map s (x ∷ xs) ++ rest ≡ s x ++ (flat_map s xs ++ rest) = ap (λ (l : List ℕ). l ++ rest) (flat_map-cons s x xs) ∙ append_assoc (s x) (flat_map s xs) rest in
      let one : part before (s x ++ (flat_map s xs ++ rest)) ≡ Ok (x, flat_map s xs ++ rest) = (codes before).again x (flat_map s xs ++ rest) rule.0 in
      let two : several key part (Some (key x)) (length xs) (flat_map s xs ++ rest) ≡ Ok (xs, rest) = several_again (Some (key x)) xs rest rule.1 in
      ap (several key part before (suc (length xs))) regrouped ∙ rw (one, two) refl

  -- behind their count
  pub counted_codes : (count : List ℕ → Result (ℕ × List ℕ) ℕ) (t : ℕ → List ℕ) (G : ℕ → Type 0) → Codes count t G
      → Codes (count_then_items count (several key part None)) (λ xs. t (length xs) ++ flat_map s xs) (λ xs. G (length xs) × Run key F None xs)
  counted_codes count t G number = record {
    takes = λ bytes rest xs fits e.
        let a = bind_ok (count bytes) (λ n. several key part None n.0 n.1) (xs, rest) e in
        let one = number.takes bytes a.0.1 a.0.0 fits a.1 in
        let two = several_take None a.0.0 a.0.1 rest xs one.0.rest_fits a.2 in
        (subst (λ k. Takes bytes (t k ++ flat_map s xs) rest) (sym two.1.0) (takes_then bytes (t a.0.0) a.0.1 (flat_map s xs) rest one.0 two.0), (subst G (sym two.1.0) one.1, two.1.1));
    again = λ xs rest rule.
        ap (count_then_items count (several key part None)) (append_assoc (t (length xs)) (flat_map s xs) rest)
        ∙ ap (λ r. r >>= λ n. several key part None n.0 n.1) (number.again (length xs) (flat_map s xs ++ rest) rule.0)
        ∙ several_again None xs rest rule.1;
  }
