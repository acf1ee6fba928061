-- What a player is told of a fault, put together.
use Rattle.std.proofs.Common.{◌≡◌, List, ◌++◌, refl, ap, ◌∙◌, ℕ}
use Rattle.std.specs.Prelude.{ℤ, pos, negsuc, codes}
use Rattle.std.specs.Fmt.{signed_decimal}
use Rattle.std.proofs.lemmas.List.{append_assoc}
use Rattle.std.specs.Fmt.{signed_decimal as signed_text}
use Rattle.muf_model.specs.Faults.{fault_text}
use Rattle.muf_model.specs.declared.fault.MufFault.{MufFault}
use Rattle.spec_events.specs.Slices.{program_error}

-- a number is written alike
same_number : (n : ℤ) → signed_decimal n ≡ signed_text n
same_number (pos n) = refl
same_number (negsuc n) = refl

-- the parts of what the player is told of a fault
pub error_joined : (n : ℤ) (f : MufFault) (head text : List ℕ) → head ≡ codes "Program error in #" ++ (signed_decimal n ++ codes ": ") → text ≡ fault_text f → head ++ text ≡ program_error n f
unfolding program_error
error_joined n f head text h t =
    ap (λ x. x ++ text) h ∙ ap (λ x. (codes "Program error in #" ++ (signed_decimal n ++ codes ": ")) ++ x) t
    ∙ ap (λ x. codes "Program error in #" ++ x) (append_assoc (signed_decimal n) (codes ": ") (fault_text f))
    ∙ ap (λ x. codes "Program error in #" ++ (x ++ (codes ": " ++ fault_text f))) (same_number n)
