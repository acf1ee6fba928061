-- The last of a list of what waits.
use Rattle.std.proofs.Common.{◌≡◌, ℕ, ◌+◌, ◌-◌, List, [], ◌∷◌, ◌++◌, length, reverse, Some, None, Option, true, false, refl, sym, ◌∙◌, ap, arith}
use Rattle.std.specs.Prelude.{◌<◌, ◌==◌, IfSome, slice_get, option_to_list}
use Rattle.std.proofs.lemmas.Bool.{false≢true, eqb-true}
use Rattle.std.proofs.lemmas.List.{reverse-append, length-append}
use Rattle.muck_lock.specs.inner.Waiting.{ends}
use Rattle.muck_lock.specs.declared.reader.Waiting.{Waiting}

slice_get-last : (xs : List Waiting) (w : Waiting) → slice_get (xs ++ w ∷ []) (length xs) ≡ Some w
slice_get-last [] w = refl
slice_get-last (x ∷ xs) w = slice_get-last xs w

pub taken_last : (old new : List Waiting) (r : Option Waiting) (x : Waiting) (ahead : Option ℕ) → old ≡ new ++ option_to_list r → Some x ≡ slice_get old (length old - 1)
    → ends x ahead ≡ true → IfSome r (λ w. (reverse old ≡ w ∷ reverse new) × (ends w ahead ≡ true))
taken_last old new None x ahead popped last h = tt
taken_last old new (Some w) x ahead popped last h =
    let size : length old - 1 ≡ length new = let e : length old ≡ length new + 1 = ap length popped ∙ length-append new (w ∷ []) in omega (arith, e) in
    let here : Some x ≡ Some w = last ∙ ap (λ n. slice_get old n) size ∙ ap (λ l. slice_get l (length new)) popped ∙ slice_get-last new w in
    let e : x ≡ w = cc in
    (ap reverse popped ∙ reverse-append new (w ∷ []), ap (λ z. ends z ahead) (sym e) ∙ h)

pub empty_from : (xs : List Waiting) (n : ℕ) → n ≡ length xs → true ≡ (n == 0) → xs ≡ []
empty_from [] n e h = refl
empty_from (x ∷ xs) n e h = let z : n ≡ 0 = eqb-true n 0 (sym h) in absurd (omega (arith, e, z))

pub some_from : (xs : List Waiting) (n : ℕ) → n ≡ length xs → false ≡ (n == 0) → 0 < length xs
some_from [] n e h = absurd (false≢true (h ∙ ap (λ m. m == 0) e))
some_from (x ∷ xs) n e h = omega arith
