-- A form that is kept, and one that is kept no more.
use Rattle.std.proofs.Common.{◌≡◌, ℕ, zero, suc, ◌+◌, ◌-◌, ◌<◌, ◌≤◌, List, [], ◌∷◌, ◌++◌, length, replicate, Option, Some, None, refl, sym, ap, append-nil, ◌∙◌, arith}
use Rattle.std.specs.Prelude.{slice_get, slice_set}
use Rattle.std.specs.Option.{option_map, option_and_then}
use Rattle.muck_laws.proofs.Lists.{behind}
use Rattle.spec_live.specs.Objects.{changed_at}
use Rattle.muf_model.specs.declared.code.Code.{Code}
use Rattle.muf_model.specs.inner.Decode.{tree_of}
use Rattle.muck_library.specs.Library.{itself, with_form}
use Rattle.muck_library.specs.inner.Forms.{trees_of}

-- the tree at a number
pub tree_read : (forms : List (Option Code)) (n : ℕ) → option_and_then itself (slice_get (trees_of forms) n) ≡ option_and_then (option_map tree_of) (slice_get forms n)
tree_read [] n = refl
tree_read (form ∷ forms) zero = refl
tree_read (form ∷ forms) (suc n) = tree_read forms n

-- a form in a list that has places up to its number
pub with_form_placed : (n : ℕ) (code : Code) (forms : List (Option Code)) → trees_of (slice_set (forms ++ replicate (n + 1 - length forms) None) n (Some code)) ≡ with_form n (tree_of code) (trees_of forms)
with_form_placed zero code [] = refl
with_form_placed zero code (form ∷ forms) =
    let e : 0 + 1 - suc (length forms) ≡ 0 = omega arith in
    rw (e, append-nil forms) refl
with_form_placed (suc n) code [] =
    let e : suc n + 1 - 0 ≡ suc (n + 1 - 0) = omega arith in
    rw e (ap (λ fs. None ∷ fs) (with_form_placed n code []))
with_form_placed (suc n) code (form ∷ forms) =
    let e : suc n + 1 - suc (length forms) ≡ n + 1 - length forms = omega arith in
    rw e (ap (λ fs. option_map tree_of form ∷ fs) (with_form_placed n code forms))

-- no form at a number
pub none_placed : (n : ℕ) (forms : List (Option Code)) → n < length forms → trees_of (slice_set forms n None) ≡ changed_at n (λ form. None) (trees_of forms)
unfolding changed_at
none_placed n [] l = absurd (omega (arith, l))
none_placed zero (form ∷ forms) l = refl
none_placed (suc n) (form ∷ forms) l =
    ap (λ fs. option_map tree_of form ∷ fs) (none_placed n forms (omega (arith, l)))
    ∙ sym (behind (option_map tree_of form) (λ x. slice_set (trees_of forms) n None) (slice_get (trees_of forms) n) (trees_of forms))

-- there is none from the last one on
pub none_past : (n : ℕ) (forms : List (Option Code)) → length forms ≤ n → trees_of forms ≡ changed_at n (λ form. None) (trees_of forms)
unfolding changed_at
none_past n [] l = refl
none_past zero (form ∷ forms) l = absurd (omega (arith, l))
none_past (suc n) (form ∷ forms) l =
    ap (λ fs. option_map tree_of form ∷ fs) (none_past n forms (omega (arith, l)))
    ∙ sym (behind (option_map tree_of form) (λ x. slice_set (trees_of forms) n None) (slice_get (trees_of forms) n) (trees_of forms))
