-- Records put in their places, one after the other.
use Rattle.muck_log.specs.inner.Head.{IsPlaced}
use Rattle.std.proofs.Common.{◌≡◌, Bool, true, false, List, [], ◌∷◌, ◌++◌, reverse, Option, Some, None, option_and_then, sym, ◌∙◌, ap, subst}
use Rattle.std.specs.Prelude.{All}
use Rattle.std.proofs.lemmas.List.Elements.{All-head, All-tail}
use Rattle.muck_codec.specs.inner.Stored.{IsStored}
use Rattle.std.proofs.lemmas.List.{reverse-append}
use Rattle.muck_codec.specs.declared.stored.Stored.{Stored}
use Rattle.muck_log.specs.World.{record_placed, all_placed}

turned : (left rest : List Stored) (o : Stored) → left ≡ rest ++ o ∷ [] → reverse left ≡ o ∷ reverse rest
turned left rest o is = ap reverse is ∙ reverse-append rest (o ∷ [])

pub next_placed : (left rest objects later : List Stored) (o : Stored) (whole : Option (List Stored)) → left ≡ rest ++ o ∷ [] → record_placed o objects ≡ Some later
    → all_placed (reverse left) objects ≡ whole → all_placed (reverse rest) later ≡ whole
unfolding all_placed
next_placed left rest objects later o whole is put so_far =
    sym (ap (λ l. all_placed l objects) (turned left rest o is) ∙ ap (option_and_then (all_placed (reverse rest))) put) ∙ so_far

pub never_placed : (left rest objects : List Stored) (o : Stored) (whole : Option (List Stored)) → left ≡ rest ++ o ∷ [] → record_placed o objects ≡ None → all_placed (reverse left) objects ≡ whole → whole ≡ None
unfolding all_placed
never_placed left rest objects o whole is put so_far =
    sym so_far ∙ ap (λ l. all_placed l objects) (turned left rest o is) ∙ ap (option_and_then (all_placed (reverse rest))) put

pub all_are : (left objects : List Stored) (whole : Option (List Stored)) → left ≡ [] → all_placed (reverse left) objects ≡ whole → whole ≡ Some objects
unfolding all_placed
all_are left objects whole is so_far = sym so_far ∙ ap (λ l. all_placed (reverse l) objects) is

pub was_put : (b : Bool) (o : Stored) (objects later : List Stored) → b ≡ true → IsPlaced b o objects later → record_placed o objects ≡ Some later
was_put true o objects later is put = put
was_put false o objects later is put = absurd cc

pub not_put : (b : Bool) (o : Stored) (objects later : List Stored) → b ≡ false → IsPlaced b o objects later → record_placed o objects ≡ None
not_put false o objects later is put = put
not_put true o objects later is put = absurd cc

-- The last record, and those before it.
pub next_stored : (left rest : List Stored) (o : Stored) → left ≡ rest ++ o ∷ [] → All IsStored (reverse left) → IsStored o × All IsStored (reverse rest)
next_stored left rest o is all =
    let turn : All IsStored (o ∷ reverse rest) = subst (All IsStored) (turned left rest o is) all in
    (All-head IsStored o (reverse rest) turn, All-tail IsStored o (reverse rest) turn)
