-- Numbers are texts.
use Rattle.std.proofs.Common.{◌≡◌, ◌<◌, ◌^◌, ◌∷◌, None, refl, arith}
use Rattle.std.specs.Prelude.{ℤ}
use Rattle.std.specs.Fmt.{signed_decimal}
use Rattle.std.specs.Int.Signed.{mag}
use Rattle.muck_laws.proofs.Tests.{all_cons}
use Rattle.muck_laws.proofs.Texts.{number_short}
use Rattle.muck_model.specs.Bytes.{text_fault}
use Rattle.mpi.proofs.Inside.{is_inside, made_is_text, inside_number}

pub number_is_text : (z : ℤ) → mag z < 2 ^ 32 → text_fault (signed_decimal z) ≡ None
number_is_text z h = made_is_text (signed_decimal z) (inside_number z h) (omega (arith, number_short z h))

pub reference_is_text : (z : ℤ) → mag z < 2 ^ 32 → text_fault (35 ∷ signed_decimal z) ≡ None
reference_is_text z h = made_is_text (35 ∷ signed_decimal z) (all_cons is_inside 35 (signed_decimal z) refl (inside_number z h)) (omega (arith, number_short z h))

pub ruleset number_texts = (number_is_text, reference_is_text)
