-- The password that a digest is found to be of is the one that was hashed.
use Rattle.std.proofs.Common.{◌≡◌, ℕ, true, List, ◌++◌, length, length-append, ◌*◌, take, refl, ◌∙◌, ap, arith, Result, Ok, Err}
use Rattle.std.proofs.lemmas.Bool.{false≢true}
use Rattle.std.proofs.lemmas.List.{length-take-le}
use Rattle.std.proofs.lemmas.Slice.Eq.{bytes_eq-Decides}
use Rattle.hex.specs.Hex.{lower_digits, encode_lower, decode_of}
use Rattle.hex.specs.declared.error.FromHexError.{FromHexError}
use Rattle.hex.proofs.HexLemmas.{length-encode_with, decode_of-ok}
use Rattle.sha2.specs.Sha256.{sha256}
use Rattle.sha2.proofs.Facts256.{length-sha256}
use Rattle.spec_live.specs.Password.{digest_of, is_salted, is_digest_of}

-- eight bytes of salt, and the SHA-256 of the salt followed by the word
abbrev pub IsHashed : List ℕ → List ℕ → Type 0
IsHashed word digest = (salt : List ℕ) × (length salt ≡ 8) × (digest ≡ encode_lower (salt ++ sha256 (salt ++ word)))

hashed_by : (word digest : List ℕ) (r : Result (List ℕ) FromHexError) → decode_of (take 16 digest) ≡ r → is_salted word digest r ≡ true → IsHashed word digest
unfolding digest_of
hashed_by word digest (Ok salt) e h =
    let same : digest ≡ encode_lower (salt ++ sha256 (salt ++ word)) = (bytes_eq-Decides digest (digest_of salt word)).0 h in
    let whole : length digest ≡ 2 * length (salt ++ sha256 (salt ++ word)) = ap length same ∙ length-encode_with lower_digits (salt ++ sha256 (salt ++ word)) in
    let parts = length-append salt (sha256 (salt ++ word)) in
    let hash = length-sha256 (salt ++ word) in
    let front = length-take-le 16 digest (omega (arith, whole, parts, hash)) in
    let decoded = (decode_of-ok (take 16 digest) salt e).2 in
    (salt, omega (arith, front, decoded), same)
hashed_by word digest (Err fault) e h = absurd (false≢true h)

pub is_hashed : (word digest : List ℕ) → is_digest_of word digest ≡ true → IsHashed word digest
unfolding is_digest_of
is_hashed word digest h = hashed_by word digest (decode_of (take 16 digest)) refl h
