-- The line of what comes next is that of the instruction.
use Rattle.std.proofs.Common.{◌≡◌, ℕ, suc, List, [], ◌∷◌, length, refl, ◌∙◌, Option, Some, None}
use Rattle.std.specs.Prelude.{slice_get}
use Rattle.std.specs.Option.{option_map}
use Rattle.muf_model.specs.declared.code.Instr.{Instr}
use Rattle.muf_model.specs.declared.code.Instr.TheVariants.{Plain, Close, When, IfElse, Try, Else, Catch, Begin, For, Each, Unset}
use Rattle.muf_model.specs.declared.code.Placed.{Placed}
use Rattle.muf_model.specs.Tree.{Block}
use Rattle.muf_model.specs.inner.Decode.{Rest, placed_at, placed_or, block, rest_at, rest, remains_at}
use Rattle.muf_compile.specs.Lines.{next_line}

abbrev line_at : Rest → ℕ
line_at r = next_line r.now r.end

at_instr : (code : List Placed) (go : ℕ → ℕ → Block) (on : ℕ → Rest) (place line : ℕ) (i : Instr) → line_at (rest_at code go on place line i) ≡ line
at_instr code go on place line (Plain w) = refl
at_instr code go on place line (Close c) = refl
at_instr code go on place line (When to) = refl
at_instr code go on place line (IfElse to) = refl
at_instr code go on place line (Try to) = refl
at_instr code go on place line (Else to) = refl
at_instr code go on place line (Catch to) = refl
at_instr code go on place line (Begin to) = refl
at_instr code go on place line (For to) = refl
at_instr code go on place line (Each to) = refl
at_instr code go on place line Unset = refl

some_fuel : (fuel : ℕ) (code : List Placed) (place : ℕ) → line_at (rest (suc fuel) code place) ≡ (placed_at code place).line
some_fuel fuel code place = at_instr code (block fuel code) (rest fuel code) place (placed_at code place).line (placed_at code place).instr

-- where no instruction is, both are 0
pub same_line : (code : List Placed) (place : ℕ) → next_line (remains_at code place).now (remains_at code place).end ≡ (placed_at code place).line
same_line [] place = refl
same_line (p ∷ ps) place = some_fuel (length ps) (p ∷ ps) place

found_line : (o : Option Placed) (line : ℕ) → option_map (λ p. p.line) o ≡ Some line → (placed_or o).line ≡ line
found_line (Some p) line e = cc
found_line None line e = absurd cc

pub line_found : (code : List Placed) (place line : ℕ) → option_map (λ p. p.line) (slice_get code place) ≡ Some line → next_line (remains_at code place).now (remains_at code place).end ≡ line
line_found code place line e = same_line code place ∙ found_line (slice_get code place) line e
