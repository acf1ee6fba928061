-- Parts of texts, where a text stands in another, and what texts write.
use Rattle.std.specs.Prelude.{ℕ, zero, suc, ◌+◌, ◌-◌, Bool, ◌&&◌, ◌==◌, nat_le, if◌then◌else◌, List, [], ◌∷◌, ◌++◌, length, take, drop, bytes_eq, ℤ, pos, negsuc, neg_ℤ, ◌-ℤ◌, Option, Some, None}
use Rattle.std.specs.List.{list_all, prefix_len, suffix_len}
use Rattle.muck_model.specs.Bytes.{is_outside}
use Rattle.muck_model.specs.Decimal.{is_digit, value_from}

-- the first byte, or 0
abbrev pub first_byte : List ℕ → ℕ
first_byte [] = 0
first_byte (b ∷ s) = b

-- the difference of the first unlike bytes of two texts, where one that has ended goes on with 0
abbrev pub difference : List ℕ → List ℕ → ℤ
difference (b ∷ s) (c ∷ t) = if b == c then difference s t else pos b -ℤ pos c
difference s t = pos (first_byte s) -ℤ pos (first_byte t)

-- whether t stands in s at a place, from 0
abbrev pub text_stands_at : List ℕ → List ℕ → ℕ → Bool
text_stands_at t s k = nat_le (k + length t) (length s) && bytes_eq (take (length t) (drop k s)) t

-- the first of n places, from k on, where t stands in s
abbrev pub first_from : List ℕ → List ℕ → ℕ → ℕ → Option ℕ
first_from t s k zero = None
first_from t s k (suc n) = if text_stands_at t s k then Some k else first_from t s (k + 1) n

-- the last of the first n places where t stands in s
abbrev pub last_below : List ℕ → List ℕ → ℕ → Option ℕ
last_below t s zero = None
last_below t s (suc n) = if text_stands_at t s n then Some n else last_below t s n

-- the first place, from 0, where t stands in s, and the last
unfoldable pub first_place : List ℕ → List ℕ → Option ℕ
first_place t s = first_from t s 0 (length s + 1)

unfoldable pub last_place : List ℕ → List ℕ → Option ℕ
last_place t s = last_below t s (length s + 1)

-- what stands before a t at a place, and what go makes of what stands behind it
abbrev pub cut_at : List ℕ → List ℕ → (List ℕ → List (List ℕ)) → Option ℕ → List (List ℕ)
cut_at t s go (Some k) = take k s ∷ go (drop (k + length t) s)
cut_at t s go None = s ∷ []

-- s cut at its first t's, n of them at most
unfoldable pub text_cut : ℕ → List ℕ → List ℕ → List (List ℕ)
text_cut zero t s = s ∷ []
text_cut (suc n) t s = cut_at t s (text_cut n t) (first_place t s)

-- what stands between the t's in s, left to right; there are no more t's than bytes
abbrev pub text_pieces : List ℕ → List ℕ → List (List ℕ)
text_pieces t s = text_cut (length s) t s

-- pieces with u between each two
abbrev pub texts_joined : List ℕ → List (List ℕ) → List ℕ
texts_joined u [] = []
texts_joined u (p ∷ []) = p
texts_joined u (p ∷ q ∷ ps) = p ++ (u ++ texts_joined u (q ∷ ps))

-- s with a t for each u in it, left to right; s itself where u is empty
abbrev pub substituted : List ℕ → List ℕ → List ℕ → List ℕ
substituted s t [] = s
substituted s t (b ∷ u) = texts_joined t (text_pieces (b ∷ u) s)

abbrev pub is_space : ℕ → Bool
is_space b = b == 32

-- without the spaces at its start, and without those at its end
abbrev pub lead_stripped : List ℕ → List ℕ
lead_stripped s = drop (prefix_len is_space s) s

abbrev pub tail_stripped : List ℕ → List ℕ
tail_stripped s = take (length s - suffix_len is_space s) s

-- The number that n and digits behind it write, up to a bound; 0 past that, or where another byte stands there.
abbrev pub amount : ℕ → ℕ → List ℕ → ℕ
amount most n bytes = if list_all is_digit bytes && nat_le (value_from n bytes) most then value_from n bytes else 0

-- the number that a whole text writes, an optional `-` and digits, in 32 bits; else 0
abbrev pub number_in_text : List ℕ → ℤ
number_in_text [] = pos 0
number_in_text (b ∷ bytes) = if b == 45 then neg_ℤ (pos (amount 2147483648 0 bytes)) else pos (amount 2147483647 0 (b ∷ bytes))

-- the text of one byte, where texts have such a byte, else the empty one
abbrev pub one_byte : ℤ → List ℕ
one_byte (pos b) = if is_outside b then [] else b ∷ []
one_byte (negsuc n) = []
