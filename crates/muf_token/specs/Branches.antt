-- Conditionals that are open, the innermost first.
use Rattle.std.specs.Prelude.{ℕ, Bool, true, List, [], ◌∷◌, Option, Some, None, Result, Ok}
use Rattle.muf_token.specs.declared.fault.FaultKind.TheVariants.{BadDirective}
use Rattle.muf_token.specs.declared.fault.Refusal.{Refusal}
use Rattle.muf_token.specs.declared.branch.Branch.{Branch}
use Rattle.muf_token.specs.Output.{refuse}

-- whether words are read here. A conditional within a part that isn't read has no part that is
abbrev pub is_taking : List Branch → Bool
is_taking [] = true
is_taking (innermost ∷ branches) = innermost.taken

-- the line of the outermost
abbrev pub outermost : List Branch → Option ℕ
outermost [] = None
outermost (branch ∷ []) = Some branch.line
outermost (branch ∷ next ∷ branches) = outermost (next ∷ branches)

abbrev pub branch_turned : ℕ → Branch → Option Bool → List Branch → Result (List Branch) Refusal
branch_turned line innermost None branches = refuse line BadDirective
branch_turned line innermost (Some taken) branches = Ok (record innermost { taken = taken; other = None } ∷ branches)

-- behind the `$else` at this line, which belongs to the innermost; a second one is refused
abbrev pub other_part : ℕ → List Branch → Result (List Branch) Refusal
other_part line [] = refuse line BadDirective
other_part line (innermost ∷ branches) = branch_turned line innermost innermost.other branches

-- behind the `$endif` at this line, which ends the innermost
abbrev pub without_innermost : ℕ → List Branch → Result (List Branch) Refusal
without_innermost line [] = refuse line BadDirective
without_innermost line (innermost ∷ branches) = Ok branches
