-- Setting or clearing another flag than W leaves W.
use Rattle.std.proofs.Common.{◌≡◌, ℕ, ◌+◌, ◌-◌, ◌/◌, ◌%◌, ◌==◌, Bool, true, false, cond, List, [], ◌∷◌, refl, ap, subst, arith, inl, inr}
use Rattle.std.proofs.lemmas.Bool.{or_cases, eqb-true}
use Rattle.std.specs.List.{list_any}
use Rattle.muck_laws.proofs.Numbers.{even, odd}
use Rattle.muck_model.specs.declared.dbref.Flags.{Flags}
use Rattle.spec_live.specs.Flags.{has_flag, with_flag, without_flag, wizard}
use Rattle.spec_rights.specs.Changing.{flag_values, is_flag}

-- the bit of W after adding or taking away the value of another bit
record Leaves (v : ℕ) : Type 0 where
  set : (x : ℕ) → x / v % 2 ≡ 0 → (x + v) / 2048 % 2 ≡ x / 2048 % 2
  cleared : (x : ℕ) → x / v % 2 ≡ 1 → (x - v) / 2048 % 2 ≡ x / 2048 % 2

abbrev Other : ℕ → Type 0
Other v = has_flag wizard (record { 0 = v }) ≡ false → Leaves v

-- each of the values
abbrev pub Each : (ℕ → Type 0) → List ℕ → Type 0
Each P [] = Unit {0}
Each P (v ∷ vs) = P v × Each P vs

other_1 : Other 1
other_1 e = record { set = λ x h. omega arith; cleared = λ x h. omega arith }

other_2 : Other 2
other_2 e = record { set = λ x h. omega arith; cleared = λ x h. omega arith }

other_4 : Other 4
other_4 e = record { set = λ x h. omega arith; cleared = λ x h. omega arith }

other_8 : Other 8
other_8 e = record { set = λ x h. omega arith; cleared = λ x h. omega arith }

other_16 : Other 16
other_16 e = record { set = λ x h. omega arith; cleared = λ x h. omega arith }

other_32 : Other 32
other_32 e = record { set = λ x h. omega arith; cleared = λ x h. omega arith }

other_64 : Other 64
other_64 e = record { set = λ x h. omega arith; cleared = λ x h. omega arith }

other_128 : Other 128
other_128 e = record { set = λ x h. omega arith; cleared = λ x h. omega arith }

other_256 : Other 256
other_256 e = record { set = λ x h. omega arith; cleared = λ x h. omega arith }

other_512 : Other 512
other_512 e = record { set = λ x h. omega arith; cleared = λ x h. omega arith }

other_1024 : Other 1024
other_1024 e = record { set = λ x h. omega arith; cleared = λ x h. omega arith }

other_2048 : Other 2048
other_2048 e = absurd (cc)

other_4096 : Other 4096
other_4096 e = record { set = λ x h. omega arith; cleared = λ x h. omega arith }

other_8192 : Other 8192
other_8192 e = record { set = λ x h. omega arith; cleared = λ x h. omega arith }

others : Each Other flag_values
others = (other_1, (other_2, (other_4, (other_8, (other_16, (other_32, (other_64, (other_128, (other_256, (other_512, (other_1024, (other_2048, (other_4096, (other_8192, tt))))))))))))))

pub picked : (P : ℕ → Type 0) (v : ℕ) (vs : List ℕ) → Each P vs → list_any (λ u. u == v) vs ≡ true → P v
picked P v [] h e = absurd (cc)
picked P v (u ∷ us) h e = elim (or_cases (u == v) (list_any (λ t. t == v) us) e) [
  | inl one ↦ subst P (eqb-true u v one) h.0
  | inr more ↦ picked P v us h.1 more
]

pub wizard_stays_set : (flag flags : Flags) → is_flag flag ≡ true → has_flag wizard flag ≡ false → has_flag wizard (with_flag flag.0 flags) ≡ has_flag wizard flags
wizard_stays_set flag flags k e = at (has_flag flag.0 flags) refl
  where
    at : (b : Bool) → has_flag flag.0 flags ≡ b → has_flag wizard (cond b flags (record { 0 = flags.0 + flag.0 })) ≡ has_flag wizard flags
    at true h = refl
    at false h = ap (λ n. n == 1) ((picked Other flag.0 flag_values others k e).set flags.0 (even (flags.0 / flag.0) h))

pub wizard_stays_cleared : (flag flags : Flags) → is_flag flag ≡ true → has_flag wizard flag ≡ false → has_flag wizard (without_flag flag.0 flags) ≡ has_flag wizard flags
wizard_stays_cleared flag flags k e = at (has_flag flag.0 flags) refl
  where
    at : (b : Bool) → has_flag flag.0 flags ≡ b → has_flag wizard (cond b (record { 0 = flags.0 - flag.0 }) flags) ≡ has_flag wizard flags
    at true h = ap (λ n. n == 1) ((picked Other flag.0 flag_values others k e).cleared flags.0 (odd (flags.0 / flag.0) h))
    at false h = refl
