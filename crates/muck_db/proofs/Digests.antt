-- The digest of a password is a text of 80 hex digits.
use Rattle.std.proofs.Common.{◌≡◌, ℕ, ◌+◌, ◌*◌, ◌/◌, ◌%◌, ◌<◌, ◌≤◌, zero, suc, List, [], ◌∷◌, ◌++◌, Option, Some, None, Ok, take, length-take, inl, inr, refl, sym, ◌∙◌, ap, subst, length, length-append, slice_index, arith, Bool, true, false, ◌&&◌}
use Rattle.std.proofs.lemmas.Bool.{and_parts, cases_lt}
use Rattle.std.proofs.lemmas.Bool.Decides.{nat_tests}
use Rattle.std.proofs.lemmas.List.Elements.{All-nil, All-cons}
use Rattle.std.proofs.lemmas.List.Quantifiers.{position-Some}
use Rattle.std.specs.List.{AllPass, position}
use Rattle.std.specs.Int.{bytes_high_first}
use Rattle.muck_laws.proofs.Texts.{byte_small, length-bytes_high}
use Rattle.hex.specs.Hex.{IsBytes, encode_with, encode_lower, decode_of, lower_digits}
use Rattle.hex.proofs.HexLemmas.{length-encode_with, decode_of-ok}
use Rattle.sha2.specs.Sha256.{digest_bytes, sha256}
use Rattle.muck_model.specs.Bytes.{is_outside, text_most, text_fault}
use Rattle.spec_live.specs.Password.{digest_of}
use Rattle.muck_db.specs.inner.Limits.{is_digit, IsDigest}

-- bytes

bytes_append : (xs ys : List ℕ) → IsBytes xs → IsBytes ys → IsBytes (xs ++ ys)
bytes_append [] ys h k i = k i
bytes_append (x ∷ xs) ys h k zero = h zero
bytes_append (x ∷ xs) ys h k (suc i) = bytes_append xs ys (λ j. h (suc j)) k i

pub bytes_high : (k n : ℕ) → IsBytes (bytes_high_first k n)
bytes_high zero n i = omega arith
bytes_high (suc k) n zero = byte_small k n
bytes_high (suc k) n (suc i) = bytes_high k n i

words_bytes : (h : List ℕ) (n : ℕ) → IsBytes (digest_bytes h n)
unfolding digest_bytes
words_bytes h zero i = omega arith
words_bytes h (suc n) i = bytes_append (digest_bytes h n) (bytes_high_first 4 (slice_index h n)) (words_bytes h n) (bytes_high 4 (slice_index h n)) i

length-words : (h : List ℕ) (n : ℕ) → length (digest_bytes h n) ≡ 4 * n
unfolding digest_bytes
length-words h zero = refl
length-words h (suc n) =
    let e : length (digest_bytes h n) ≡ 4 * n = length-words h n in
    omega (arith, length-append (digest_bytes h n) (bytes_high_first 4 (slice_index h n)), length-bytes_high 4 (slice_index h n))

bytes_hash : (m : List ℕ) → IsBytes (sha256 m)
unfolding sha256
bytes_hash m = words_bytes _ 8

length-hash : (m : List ℕ) → length (sha256 m) ≡ 32
unfolding sha256
length-hash m = length-words _ 8

-- digits

-- the first n digits are in lower case
abbrev digits_pass : ℕ → Bool
digits_pass zero = true
digits_pass (suc n) = is_digit (slice_index lower_digits n) && digits_pass n

digit_below : (n k : ℕ) → digits_pass n ≡ true → k < n → is_digit (slice_index lower_digits k) ≡ true
digit_below zero k h lt = absurd (omega arith)
digit_below (suc n) k h lt =
    let parts = and_parts (is_digit (slice_index lower_digits n)) (digits_pass n) h in
    elim (cases_lt k n) [
      | inl below ↦ digit_below n k parts.1 below
      | inr top ↦ let e : k ≡ n = omega arith in rw e parts.0
    ]

digit : (k : ℕ) → k < 16 → is_digit (slice_index lower_digits k) ≡ true
digit k lt = digit_below 16 k refl lt

pub digits_of : (bytes : List ℕ) → IsBytes bytes → AllPass is_digit (encode_lower bytes)
unfolding encode_with
digits_of [] h = All-nil (λ b. is_digit b ≡ true)
digits_of (b ∷ rest) h =
    let low : b < 256 = h zero in
    All-cons (λ d. is_digit d ≡ true) (slice_index lower_digits (b / 16)) (slice_index lower_digits (b % 16) ∷ encode_lower rest) (digit (b / 16) (omega arith))
    (All-cons (λ d. is_digit d ≡ true) (slice_index lower_digits (b % 16)) (encode_lower rest) (digit (b % 16) (omega arith)) (digits_of rest (λ i. h (suc i))))

-- a digit stands in texts
digit_inside : (b : ℕ) → is_digit b ≡ true → is_outside b ≡ true → ⊥
digit_inside b h o = grind (arith, nat_tests)

-- digits, but not too many, are a text
pub digits_text : (digits : List ℕ) → AllPass is_digit digits → length digits ≤ text_most → text_fault digits ≡ None
digits_text digits h le = by_cases (position is_outside digits) refl
  where
    by_cases : (o : Option ℕ) → position is_outside digits ≡ o → text_fault digits ≡ None
    by_cases None e = rw e (grind (arith, nat_tests))
    by_cases (Some i) e =
        let at : (i < length digits) × (is_outside (slice_index digits i) ≡ true) × ((k : ℕ) → k < i → is_outside (slice_index digits k) ≡ false) = position-Some is_outside digits i 0 e in
        absurd (digit_inside (slice_index digits i) (h i 0 at.0) at.1)

-- the digest

salted_bytes : (salt word : List ℕ) → IsBytes salt → IsBytes (salt ++ sha256 (salt ++ word))
salted_bytes salt word h = bytes_append salt (sha256 (salt ++ word)) h (bytes_hash (salt ++ word))

pub length-digest_of : (salt word : List ℕ) → length (digest_of salt word) ≡ 2 * length salt + 64
unfolding digest_of
length-digest_of salt word = omega (arith, length-encode_with lower_digits (salt ++ sha256 (salt ++ word)), length-append salt (sha256 (salt ++ word)), length-hash (salt ++ word))

pub digits-digest_of : (salt word : List ℕ) → IsBytes salt → AllPass is_digit (digest_of salt word)
unfolding digest_of
digits-digest_of salt word h = digits_of (salt ++ sha256 (salt ++ word)) (salted_bytes salt word h)

pub is_digest : (salt word : List ℕ) → IsBytes salt → length salt ≡ 8 → IsDigest (digest_of salt word)
is_digest salt word h e = inr (omega (arith, length-digest_of salt word), digits-digest_of salt word h)

-- the salt that a digest begins with
pub salt_short : (digits digest salt : List ℕ) → digits ≡ take 16 digest → decode_of digits ≡ Ok salt → length salt ≤ 8
salt_short digits digest salt is e = omega (arith, (decode_of-ok digits salt e).2, ap (λ (l : List ℕ). length l) is, length-take 16 digest)

pub salted_digits : (salt word kept sliced digits : List ℕ) → kept ≡ salt ++ sha256 (salt ++ word) → sliced ≡ kept → digits ≡ encode_lower sliced → digits ≡ digest_of salt word
unfolding digest_of
salted_digits salt word kept sliced digits k s d = d ∙ ap (λ (l : List ℕ). encode_lower l) (s ∙ k)

-- a digest is a text
pub digest_text : (salt word digits : List ℕ) → IsBytes salt → length salt ≤ 8 → digits ≡ digest_of salt word → text_fault digits ≡ None
digest_text salt word digits h le is =
    let P : List ℕ → Type 0 = λ l. text_fault l ≡ None in
    subst P (sym is) (digits_text (digest_of salt word) (digits-digest_of salt word h) (omega (arith, length-digest_of salt word)))
