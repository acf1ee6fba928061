-- What the tests that all primitives begin with come to, where none needs a world.
use Rattle.std.proofs.Common.{◌≡◌, ℕ, suc, ◌+◌, Bool, true, false, List, ◌∷◌, length, take, drop, cond, refl}
use Rattle.std.specs.Prelude.{nat_lt, Option, Some, None}
use Rattle.std.specs.Option.{option_or}
use Rattle.muf_model.specs.declared.fault.MufFault.{MufFault}
use Rattle.muf_model.specs.declared.needs.Need.{Need}
use Rattle.muf_model.specs.Datum.{Datum}
use Rattle.muf_model.specs.Answer.{Answer, refuses, Scope, Made, plain, whole, items_put, answer_unless, needing, too_few}
use Rattle.muf_model.specs.Needs.{takes_items}
use Rattle.muf_model.specs.Ladder.{first_refusal, unfit, absent, all_there}
use Rattle.muf_model.specs.Rows.{primitive_used}

shorter : (b : Bool) (f : MufFault) (o : Option MufFault) (a : Answer) → answer_unless (option_or (cond b (Some f) None) o) a ≡ cond b (refuses f) (answer_unless o a)
shorter true f o a = refl
shorter false f o a = refl

-- the tests of items that no world knows
abbrev pub kinds : List Need → List Datum → Option MufFault
kinds fixed stack = option_or (first_refusal unfit fixed stack) (first_refusal (absent all_there) fixed stack)

-- a primitive that takes something answers by the count of its items, and then by their kinds
pub used_plain : (level : ℕ) (first : Need) (fixed : List Need) (f : List Datum → Made) (s : Scope) (stack : List Datum) → primitive_used level (takes_items (first ∷ fixed)) (Some (plain f)) s stack ≡ needing (suc (length fixed)) s.locked stack (answer_unless (kinds (first ∷ fixed) stack) (items_put (suc (length fixed)) (f (take (suc (length fixed)) stack)) (drop (suc (length fixed)) stack)))
used_plain level first fixed f s stack = shorter (nat_lt (length stack) (s.locked + suc (length fixed))) (too_few (suc (length fixed)) stack) (kinds (first ∷ fixed) stack) (items_put (suc (length fixed)) (f (take (suc (length fixed)) stack)) (drop (suc (length fixed)) stack))

pub used_whole : (level : ℕ) (first : Need) (fixed : List Need) (f : Scope → List Datum → Answer) (s : Scope) (stack : List Datum) → primitive_used level (takes_items (first ∷ fixed)) (Some (whole f)) s stack ≡ needing (suc (length fixed)) s.locked stack (answer_unless (kinds (first ∷ fixed) stack) (f s stack))
used_whole level first fixed f s stack = shorter (nat_lt (length stack) (s.locked + suc (length fixed))) (too_few (suc (length fixed)) stack) (kinds (first ∷ fixed) stack) (f s stack)
