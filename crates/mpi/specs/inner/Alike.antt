-- Loops over items whose text is the same for each.
use Rattle.std.specs.Prelude.{ℕ, if◌then◌else◌, List, [], ◌∷◌, Option, Some, None, option_map, Result, Ok, Err}
use Rattle.mpi.specs.declared.fault.MpiFault.{MpiFault}
use Rattle.mpi.specs.declared.fault.MpiFault.TheVariants.{TooLong}
use Rattle.mpi.specs.declared.functions.Keep.{Keep}
use Rattle.mpi.specs.declared.functions.Scope.{Scope}
use Rattle.mpi.specs.declared.functions.Scope.TheVariants.{Once, Numbers, Items}
use Rattle.mpi.specs.Brackets.{FormulaPiece, byte, call, formula_pieces}
use Rattle.mpi.specs.Gathering.{gathered_text, kept_item}
use Rattle.mpi.specs.Made.{is_long}
use Rattle.mpi.specs.Values.{nth, items}

-- what pieces say that are all bytes; None where one is a function
unfoldable pub said : List FormulaPiece → Option (List ℕ)
said [] = Some []
said (byte b ∷ more) = option_map (λ bytes. b ∷ bytes) (said more)
said (call body ∷ more) = None

-- what is gathered of items, where the text is this for each
unfoldable pub alike_items : Keep → List ℕ → Option (List ℕ) → List (List ℕ) → Result (List ℕ) MpiFault
alike_items keep text list [] = Ok (gathered_text list)
alike_items keep text list (item ∷ more) =
    if is_long (gathered_text (kept_item keep list item text)) then Err TooLong
    else alike_items keep text (kept_item keep list item text) more

-- what a loop over items gives whose text is the same for each; None where the scope is another, or a function stands in the text
abbrev pub answer_alike : Scope → List (List ℕ) → List ℕ → Option (Result (List ℕ) MpiFault)
answer_alike Once values body = None
answer_alike Numbers values body = None
answer_alike (Items keep) values body = option_map (λ text. alike_items keep text None (items (nth 1 values))) (said (formula_pieces body))

-- a fault, or what may be lacking
abbrev pub transposed : {A : Type 0} → Option (Result A MpiFault) → Result (Option A) MpiFault
transposed None = Ok None
transposed (Some (Ok x)) = Ok (Some x)
transposed (Some (Err fault)) = Err fault
