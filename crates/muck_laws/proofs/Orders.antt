-- What a comparison answers.
use Rattle.std.proofs.Common.{arith, false, inl, inr, refl, rules, true, ℕ, ◌≡◌, ◌⊎◌}
use Rattle.std.specs.Ordering.{is_eq, is_le, is_lt, nat_cmp, ordering_reverse, ordering_then}
use Rattle.std.specs.Prelude.{T}
use Rattle.std.specs.declared.cmp.Ordering.{Ordering}
use Rattle.std.specs.declared.cmp.Ordering.TheVariants.{Equal, Greater, Less}

pub less_of : (r : Ordering) → T (is_lt r) → r ≡ Less
less_of Less h = refl
less_of Equal h = absurd h
less_of Greater h = absurd h

pub equal_then : (r : Ordering) → is_eq r ≡ true → r ≡ Equal
equal_then Less h = cc
equal_then Equal h = refl
equal_then Greater h = cc

pub is_less : (r : Ordering) → is_lt r ≡ true → r ≡ Less
is_less Less h = refl
is_less Equal h = cc
is_less Greater h = cc

pub then_less : (r x : Ordering) → ordering_then r x ≡ Less → (r ≡ Less) ⊎ ((r ≡ Equal) × (x ≡ Less))
then_less Less x h = inl refl
then_less Equal x h = inr (refl, h)
then_less Greater x h = cc

-- past all that continues a child of p
pub zero_least : (y : ℕ) → is_le (nat_cmp 0 y) ≡ true
zero_least y = grind arith

pub not_less_turned : (o : Ordering) → o ≡ ordering_reverse o → is_lt o ≡ false
not_less_turned Less e = search (rules, e)
not_less_turned Equal e = refl
not_less_turned Greater e = refl
