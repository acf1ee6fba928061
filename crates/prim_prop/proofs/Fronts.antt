-- A part of a text is a text.
use Rattle.std.proofs.Common.{◌≡◌, ◌≤◌, ◌-◌, ℕ, zero, suc, List, [], ◌∷◌, length, take, None, refl, arith}
use Rattle.std.specs.List.{suffix_len}
use Rattle.std.proofs.lemmas.List.{length-take}
use Rattle.muck_model.specs.Bytes.{text_fault, text_most}
use Rattle.muf_model.proofs.FaultTexts.{IsInside, inside-cons, inside-first, from_inside}
use Rattle.spec_prims.specs.PropRows.{is_part, directory_part}
use Rattle.prim_common.proofs.Inside.{to_inside}

first_inside : (n : ℕ) (xs : List ℕ) → IsInside xs → IsInside (take n xs)
first_inside zero xs h = refl
first_inside (suc n) [] h = refl
first_inside (suc n) (x ∷ xs) h = let f = inside-first x xs h in inside-cons x (take n xs) f.0 (first_inside n xs f.1)

pub front_is_text : (t : List ℕ) → text_fault t ≡ None → length t ≤ text_most → text_fault (directory_part t) ≡ None
front_is_text t h short =
    from_inside (directory_part t) (first_inside (length t - suffix_len is_part t) t (to_inside t h)) (omega (arith, length-take (length t - suffix_len is_part t) t, short))
