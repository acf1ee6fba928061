-- What is made, and items that give way to it.
use Rattle.std.proofs.Common.{◌≡◌, ℕ, ◌+◌, ◌<◌, ◌≤◌, Bool, true, false, cond, List, [], ◌∷◌, ◌++◌, length, map, take, drop, refl, ap, sym, ◌∙◌, arith, length-append, ⊎_elim}
use Rattle.std.specs.Prelude.{nat_lt}
use Rattle.std.proofs.lemmas.Bool.{cases_Bool, cond-true, cond-false, lt-ltb, le-ltb, ltb-false}
use Rattle.muck_laws.proofs.Mapped.{map_drop}
use Rattle.muf_model.specs.declared.fault.MufFault.TheVariants.{StackFull}
use Rattle.muf_model.specs.Datum.{Datum}
use Rattle.muf_model.specs.Answer.{Answer, gives, refuses, Made, makes, items_put, stack_fitting}
use Rattle.std.proofs.lemmas.List.{length-map, length-drop, map-append}
use Rattle.prim_text.proofs.Texts.{made_is_text}

pub ruleset making_steps = (made_is_text)

fits : (items rest : List Datum) → length items + length rest ≤ 1024 → stack_fitting (items ++ rest) ≡ gives (items ++ rest)
fits items rest le = cond-false _ _ _ (le-ltb 1024 (length (items ++ rest)) (omega (arith, le, length-append items rest)))

-- items that take the place of n others, where the stack has room, and where it hasn't
pub put_fits : (n : ℕ) (items rest : List Datum) → length items + length rest ≤ 1024 → items_put n (makes items) rest ≡ gives (items ++ rest)
put_fits n items rest le =
    ⊎_elim
    (λ e. cond-true _ _ _ e ∙ fits items rest le)
    (λ e. cond-false _ _ _ e)
    (cases_Bool (nat_lt n (length items)))

pub put_full : (n : ℕ) (items rest : List Datum) → n + length rest ≤ 1024 → 1024 < length items + length rest → items_put n (makes items) rest ≡ refuses StackFull
put_full n items rest le over =
    cond-true _ _ _ (lt-ltb n (length items) (omega (arith, le, over)))
    ∙ cond-true _ _ _ (lt-ltb 1024 (length (items ++ rest)) (omega (arith, over, length-append items rest)))

pub ruleset giving_steps = (put_fits, put_full, map-append, map_drop, length-map, length-drop)
