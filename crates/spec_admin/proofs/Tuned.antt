-- What is tuned stays in its range.
use Rattle.std.proofs.Common.{◌≡◌, ◌≤◌, ◌&&◌, ℕ, Bool, true, false, cond, List, refl, subst, Option, Some, None, nat_le, arith}
use Rattle.std.specs.Option.{option_map, option_and_then}
use Rattle.std.proofs.lemmas.Bool.Decides.{nat_tests}
use Rattle.muck_model.specs.declared.tune.Tune.{Tune}
use Rattle.muck_model.specs.Decimal.{is_decimal, value_from, decimal_of}
use Rattle.muck_model.specs.declared.tune.Parameter.{Parameter}
use Rattle.muck_model.specs.Parameters.{row_of, parameter_named, with_parameter, IsInRange}
use Rattle.muck_model.proofs.Parameters.{set_in_range}
use Rattle.spec_admin.specs.Parameters.{value_for, retuned}

-- at least 1, and at most this
abbrev Within : ℕ → ℕ → Type 0
Within most n = (1 ≤ n) × (n ≤ most)

value_within : (most v n : ℕ) (b c d : Bool) → nat_le v most ≡ c → nat_le 1 v ≡ d → option_and_then (λ (m : ℕ). cond (nat_le 1 m) (Some m) None) (cond (b && c) (Some v) None) ≡ Some n → Within most n
value_within most v n false c d f g e = absurd (cc)
value_within most v n true false d f g e = absurd (cc)
value_within most v n true true d f g e = here d g e
  where
    here : (d : Bool) → nat_le 1 v ≡ d → cond (nat_le 1 v) (Some v) None ≡ Some n → Within most n
    here d g e = grind (arith, nat_tests)

value_in_range : (p : Parameter) (text : List ℕ) (n : ℕ) → value_for p text ≡ Some n → Within ((row_of p).most) n
unfolding decimal_of
value_in_range p text n e = value_within ((row_of p).most) (value_from 0 text) n (is_decimal text) _ _ refl refl e

pub retuned_in_range : (name text : List ℕ) (tune next : Tune) → retuned name text tune ≡ Some next → IsInRange tune → IsInRange next
unfolding retuned
retuned_in_range name text tune next e h = at (parameter_named name) e
  where
    set : (p : Parameter) (q : Option ℕ) → value_for p text ≡ q → option_map (λ n. with_parameter p n tune) q ≡ Some next → IsInRange next
    set p None f e = absurd (cc)
    set p (Some n) f e =
        let same : with_parameter p n tune ≡ next = cc in
        subst IsInRange same (λ r. set_in_range p r n tune (value_in_range p text n f) (h r))

    at : (p : Option Parameter) → option_and_then (λ p. option_map (λ n. with_parameter p n tune) (value_for p text)) p ≡ Some next → IsInRange next
    at None e = absurd (cc)
    at (Some p) e = set p (value_for p text) refl e
