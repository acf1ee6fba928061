-- What a word says by itself: an integer, a dbref, an address, or nothing but its name.
use Rattle.std.specs.Prelude.{ℕ, ℤ, ◌+◌, ◌-◌, ◌*◌, ◌^◌, pos, neg_ℤ, Bool, true, false, ◌==◌, nat_le, nat_lt, if◌then◌else◌, List, [], ◌∷◌, fold, Option, Some, None}
use Rattle.std.specs.List.{list_all}
use Rattle.muck_model.specs.Decimal.{is_digit}
use Rattle.muf_token.specs.declared.token.TokenKind.{TokenKind}
use Rattle.muf_token.specs.declared.token.TokenKind.TheVariants.{Word, Number, Ref, Address}
use Rattle.muf_token.specs.declared.number.Numeral.{Numeral}
use Rattle.muf_token.specs.declared.number.Numeral.TheVariants.{No, Beyond, Is}

-- the amount that digits write
abbrev pub amount_of : List ℕ → ℕ
amount_of digits = fold (λ n digit. n * 10 + (digit - 48)) 0 digits

-- that amount with its sign, where 32 bits hold it
abbrev pub amount_signed : Bool → ℕ → Numeral
amount_signed true n = if nat_le n (2 ^ 31) then Is (neg_ℤ (pos n)) else Beyond
amount_signed false n = if nat_lt n (2 ^ 31) then Is (pos n) else Beyond

-- digits behind a sign
abbrev pub digits_of : Bool → List ℕ → Numeral
digits_of negative [] = No
digits_of negative (b ∷ bytes) = if list_all is_digit (b ∷ bytes) then amount_signed negative (amount_of (b ∷ bytes)) else No

-- an optional `-` and digits
abbrev pub integer_of : List ℕ → Numeral
integer_of [] = No
integer_of (b ∷ bytes) = if b == 45 then digits_of true bytes else digits_of false (b ∷ bytes)

-- a word that may write an integer, which says that; where it writes none, it is but a word
abbrev pub numeral_kind : (ℤ → TokenKind) → List ℕ → Numeral → Option TokenKind
numeral_kind said word No = Some (Word word)
numeral_kind said word Beyond = None
numeral_kind said word (Is n) = Some (said n)

abbrev pub address_kind : List ℕ → Option TokenKind
address_kind [] = Some (Word (39 ∷ []))
address_kind (b ∷ name) = Some (Address (b ∷ name))

-- what a word says by itself: behind `#` an integer is a dbref, and what stands behind `'` is the name of a word whose
-- address it is; none where it writes a number that 32 bits don't hold
unfoldable pub token_kind : List ℕ → Option TokenKind
token_kind [] = Some (Word [])
token_kind (b ∷ bytes) =
    if b == 35 then numeral_kind (λ n. Ref (record { 0 = n })) (b ∷ bytes) (integer_of bytes)
    else if b == 39 then address_kind bytes
    else numeral_kind (λ n. Number n) (b ∷ bytes) (integer_of (b ∷ bytes))
