-- What others hear of a text that was said or posed is a text.
use Rattle.std.proofs.Common.{◌≡◌, ℕ, zero, suc, Bool, true, false, cond, List, [], ◌∷◌, ◌++◌, take, None, refl, arith}
use Rattle.std.specs.Prelude.{◌==◌, codes}
use Rattle.std.proofs.lemmas.List.{length-take}
use Rattle.muck_model.specs.Bytes.{text_fault, text_most}
use Rattle.muf_model.proofs.FaultTexts.{IsInside, inside-cons, inside-first, inside-append, from_inside}
use Rattle.spec_commands.specs.Replies.{says}
use Rattle.spec_commands.specs.Talking.{heard_as, pose_tail}
use Rattle.prim_common.proofs.Inside.{to_inside}

taken_inside : (n : ℕ) (xs : List ℕ) → IsInside xs → IsInside (take n xs)
taken_inside zero xs h = refl
taken_inside (suc n) [] h = refl
taken_inside (suc n) (x ∷ xs) h = let f = inside-first x xs h in inside-cons x (take n xs) f.0 (taken_inside n xs f.1)

says_inside : (text : List ℕ) → IsInside text → IsInside (says text)
unfolding says
says_inside text h = inside-append (codes " says, \"" ++ text) (codes "\"") (inside-append (codes " says, \"") text refl h) refl

tail_inside : (text : List ℕ) → IsInside text → IsInside (pose_tail text)
tail_inside [] h = h
tail_inside (b ∷ text) h = at (b == 39)
  where
    at : (t : Bool) → IsInside (cond t (b ∷ text) (32 ∷ b ∷ text))
    at true = h
    at false = inside-cons 32 (b ∷ text) refl h

heard_inside : (pose : Bool) (text : List ℕ) → IsInside text → IsInside (cond pose (pose_tail text) (says text))
heard_inside true text h = tail_inside text h
heard_inside false text h = says_inside text h

pub heard_is_text : (pose : Bool) (name text : List ℕ) → text_fault name ≡ None → text_fault text ≡ None → text_fault (heard_as pose name text) ≡ None
heard_is_text pose name text n t =
    let whole : List ℕ = name ++ cond pose (pose_tail text) (says text) in
    from_inside (take text_most whole) (taken_inside text_most whole (inside-append name _ (to_inside name n) (heard_inside pose text (to_inside text t)))) (omega (arith, length-take text_most whole))
