-- What stands in code stays where it grows, and where an instruction is written over one that was not known.
use Rattle.std.proofs.Common.{◌≡◌, ℕ, zero, suc, List, [], ◌∷◌, ◌++◌, length, Some, refl, sym, ap, ◌∙◌}
use Rattle.std.specs.Prelude.{slice_get, slice_set}
use Rattle.muf_model.specs.declared.code.Instr.{Instr}
use Rattle.muf_model.specs.declared.code.Instr.TheVariants.{Unset}
use Rattle.muf_model.specs.declared.code.Placed.{Placed}
use Rattle.muf_model.specs.inner.Stands.{IsAt}
use Rattle.muf_model.proofs.Standing.{Extends}

pub get_append : (xs ys : List Placed) (i : ℕ) (x : Placed) → slice_get xs i ≡ Some x → slice_get (xs ++ ys) i ≡ Some x
get_append [] ys i x e = cc
get_append (a ∷ xs) ys zero x e = e
get_append (a ∷ xs) ys (suc i) x e = get_append xs ys i x e

pub get_end : (xs : List Placed) (y : Placed) → slice_get (xs ++ y ∷ []) (length xs) ≡ Some y
get_end [] y = refl
get_end (a ∷ xs) y = get_end xs y

pub get_set_same : (xs : List Placed) (i : ℕ) (x y : Placed) → slice_get xs i ≡ Some x → slice_get (slice_set xs i y) i ≡ Some y
get_set_same [] i x y e = cc
get_set_same (a ∷ xs) zero x y e = refl
get_set_same (a ∷ xs) (suc i) x y e = get_set_same xs i x y e

pub get_set_other : (xs : List Placed) (i j : ℕ) (x y : Placed) → (i ≡ j → ⊥) → slice_get xs j ≡ Some x → slice_get (slice_set xs i y) j ≡ Some x
get_set_other [] i j x y n e = cc
get_set_other (a ∷ xs) zero zero x y n e = absurd (n refl)
get_set_other (a ∷ xs) (suc i) zero x y n e = e
get_set_other (a ∷ xs) zero (suc j) x y n e = e
get_set_other (a ∷ xs) (suc i) (suc j) x y n e = get_set_other xs i j x y (λ h. n (ap suc h)) e

pub extends_append : (code more : List Placed) → Extends code (code ++ more)
extends_append code more = record { kept = λ place line i n e. get_append code more place _ e }

-- a write over an instruction whose target was not known
pub extends_set : (code : List Placed) (at line : ℕ) (y : Placed) → IsAt code at line Unset → Extends code (slice_set code at y)
extends_set code at line y u = record { kept = λ place row i n e. get_set_other code at place _ y (λ h. n (unset place row i h e)) e }
  where
    unset : (place row : ℕ) (i : Instr) → at ≡ place → IsAt code place row i → i ≡ Unset
    unset place row i h e =
        let p : Placed = record { line = row; instr = i } in
        let q : Placed = record { line = line; instr = Unset } in
        let g : Some p ≡ Some q = sym e ∙ ap (λ p. slice_get code p) (sym h) ∙ u in
        let same : p ≡ q = cc in
        ap (λ (x : Placed). x.instr) same

pub extends_two : (a b c : List Placed) → Extends a b → Extends b c → Extends a c
extends_two a b c x y = record { kept = λ place line i n e. y.kept place line i n (x.kept place line i n e) }
