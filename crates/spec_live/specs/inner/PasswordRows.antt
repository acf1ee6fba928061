-- Whom a digest lets in, by examples.
use Rattle.std.specs.Prelude.{◌≡◌, true, false, [], codes, refl}
use Rattle.hex.specs.Hex.{encode_with, decode_pairs}
use Rattle.sha2.specs.Sha256.{first_words, schedule, rounds, compress, hash_after, digest_bytes, sha256}
use Rattle.spec_live.specs.Password.{digest_of, is_digest_of, salt_bytes}
use Rattle.spec_live.specs.Start.{first_digest}

unfoldable pub PasswordRows : Type 0
PasswordRows =
    -- One's digest as the world begins: eight bytes of salt, and what `sha256sum` says of these and the password
    (first_digest ≡ codes "0000000000000000788a82af0ffc0d0cdaa372295052de2760a7cbb2947aa0585aab17efefce5216")
    × (is_digest_of (codes "potrzebie") first_digest ≡ true)
    -- almost the password isn't it
    × (is_digest_of (codes "potrzebid") first_digest ≡ false)
    × (is_digest_of [] first_digest ≡ false)
    -- under another salt the same password has another digest, which it opens too
    × (digest_of (salt_bytes 0x0123456789abcdef) (codes "potrzebie") ≡ codes "0123456789abcdefe2d28a9a3ce9ce6e38092cbe702b0add3aa3f02b3f3185267b3b33bd27d61caf")
    × (is_digest_of (codes "potrzebie") (codes "0123456789abcdefe2d28a9a3ce9ce6e38092cbe702b0add3aa3f02b3f3185267b3b33bd27d61caf") ≡ true)
    -- what is no digest opens to nobody
    × (is_digest_of (codes "potrzebie") [] ≡ false)
    × (is_digest_of (codes "potrzebie") (codes "potrzebie") ≡ false)

pub password_rows : PasswordRows
unfolding PasswordRows first_digest digest_of is_digest_of encode_with decode_pairs first_words schedule rounds compress hash_after digest_bytes sha256
password_rows = (refl, refl, refl, refl, refl, refl, refl, refl)
