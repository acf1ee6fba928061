-- How many items needs name.
use Rattle.std.proofs.Common.{◌≡◌, ℕ, zero, suc, ◌+◌, ◌*◌, ◌<◌, ◌≤◌, List, [], ◌∷◌, ◌++◌, length, drop, cond, Bool, true, Option, Some, None, refl, sym, ap, ◌∙◌, arith}
use Rattle.std.specs.Prelude.{ℤ, pos, negsuc, nat_lt, ◌&&◌}
use Rattle.std.proofs.lemmas.List.{length-append, length-map, append-nil}
use Rattle.std.proofs.lemmas.Bool.{ltb-true, and_parts}
use Rattle.std.proofs.Math.Nat.{zero-mul, suc-mul}
use Rattle.std.specs.Option.{option_or}
use Rattle.muck_laws.proofs.Numbers.{product_most}
use Rattle.muf_model.specs.declared.needs.Need.{Need}
use Rattle.muf_model.specs.declared.prims.Primitive.{Primitive}
use Rattle.muf_model.specs.declared.prims.Primitive.TheVariants.{Pop}
use Rattle.muf_model.specs.declared.fault.MufFault.{MufFault}
use Rattle.muf_model.specs.declared.fault.MufFault.TheVariants.{BadArgument}
use Rattle.muf_model.specs.Answer.{too_few}
use Rattle.muf_model.specs.Datum.{Datum, int}
use Rattle.muf_model.specs.Needs.{Many, Needs}
use Rattle.muf_model.specs.Prims.{needs_of}
use Rattle.muf_model.specs.Ladder.{short, times, count_on_top, wanted, miscounted, too_short}
use Rattle.muf_frame.specs.inner.Answers.{int_at}
use Rattle.prim_common.specs.inner.Tests.{count_of, uncounted, AreFew, FewCounted}
use Rattle.prim_common.proofs.Faults.{or_assoc}

-- the item that counts

pub count_top : (o : Option ℤ) (n : ℕ) → o ≡ Some (pos n) → n ≡ count_of o
count_top o n e = ap count_of (sym e)

pub ruleset count_steps = (count_top)

abbrev negative : Option ℤ → Option MufFault
negative (Some (negsuc n)) = Some BadArgument
negative _ = None

pub miscounted_at : (at : ℕ) (stack : List Datum) → miscounted (drop at stack) ≡ negative (int_at at stack)
miscounted_at zero [] = refl
miscounted_at zero (int (pos n) ∷ rest) = refl
miscounted_at zero (int (negsuc n) ∷ rest) = refl
miscounted_at zero (_ ∷ rest) = refl
miscounted_at (suc at) [] = refl
miscounted_at (suc at) (x ∷ rest) = miscounted_at at rest

count_at : (at : ℕ) (stack : List Datum) → count_on_top (drop at stack) ≡ count_of (int_at at stack)
count_at zero [] = refl
count_at zero (int (pos n) ∷ rest) = refl
count_at zero (int (negsuc n) ∷ rest) = refl
count_at zero (_ ∷ rest) = refl
count_at (suc at) [] = refl
count_at (suc at) (x ∷ rest) = count_at at rest

-- needs of these parts
abbrev pub made_of : List Need → Option Many → Needs
made_of fixed many = record { fixed = fixed; many = many }

pub counted_at : (fixed : List Need) (m : Many) (stack : List Datum) → wanted (made_of fixed (Some m)) stack ≡ fixed ++ (times (count_of (int_at m.at stack)) m.each ++ m.under)
counted_at fixed m stack = ap (λ n. fixed ++ (times n m.each ++ m.under)) (count_at m.at stack)

pub none_counted : (fixed : List Need) (stack : List Datum) → fixed ++ [] ≡ wanted (made_of fixed None) stack
none_counted fixed stack = append-nil fixed

-- too few items: without those that are counted, or with a count below 0, or with them
pub short_by : (fixed : List Need) (many : Option Many) (locked : ℕ) (stack : List Datum) → option_or (uncounted fixed many locked stack) (short (length (wanted (made_of fixed many) stack)) locked stack) ≡ too_short (made_of fixed many) locked stack
short_by fixed None locked stack = refl
short_by fixed (Some m) locked stack = sym (or_assoc (short (length (fixed ++ m.under)) locked stack) (miscounted (drop m.at stack)) (short (length (wanted (made_of fixed (Some m)) stack)) locked stack))

-- so many items, of which there is one

pub short_some : (n locked : ℕ) (stack : List Datum) → 0 < n → short n locked stack ≡ cond (nat_lt (length stack) (locked + n)) (Some (too_few n stack)) None
short_some zero locked stack h = absurd (omega (arith, h))
short_some (suc n) locked stack h = refl

pub ruleset short_steps = (short_some, length-map)

pub ruleset length_steps = (length-append)

-- each so many times

pub times_length : (n : ℕ) (each : List Need) → length (times n each) ≡ n * length each
times_length zero each = sym (zero-mul (length each))
times_length (suc n) each =
    let first : length (times (suc n) each) ≡ length each + length (times n each) = length-append each (times n each) in
    let rest : length (times n each) ≡ n * length each = times_length n each in
    omega (arith, first, rest, suc-mul n (length each))

pub ruleset product_steps = (times_length, product_most)

-- the needs of every primitive are few

abbrev is_short : List Need → Bool
is_short needs = nat_lt (length needs) 65

abbrev is_counted_short : Option Many → Bool
is_counted_short None = true
is_counted_short (Some m) = is_short m.each && is_short m.under

abbrev is_few : Option Needs → Bool
is_few None = true
is_few (Some needs) = is_short needs.fixed && is_counted_short needs.many

table_few : (p : Primitive) → is_few (needs_of p) ≡ true
table_few Pop = refl
table_few _ = refl

short_list : (needs : List Need) → is_short needs ≡ true → length needs ≤ 64
short_list needs h = omega (arith, ltb-true (length needs) 65 h)

counted_few : (many : Option Many) → is_counted_short many ≡ true → FewCounted many
counted_few None h = tt
counted_few (Some m) h = (let e = and_parts (is_short m.each) (is_short m.under) h in (short_list m.each e.0, short_list m.under e.1))

few : (needs : Needs) → is_few (Some needs) ≡ true → AreFew needs
few needs h = (let e = and_parts (is_short needs.fixed) (is_counted_short needs.many) h in (short_list needs.fixed e.0, counted_few needs.many e.1))

pub needs_few : (p : Primitive) (needs : Needs) → needs_of p ≡ Some needs → AreFew needs
needs_few p needs e = few needs (sym (ap is_few e) ∙ table_few p)
