-- How a password is kept.
use Rattle.std.specs.Prelude.{ℕ, Bool, false, List, ◌++◌, take, replicate, codes, Result, Ok, Err}
use Rattle.std.specs.Str.{bytes_eq}
use Rattle.std.specs.Int.{bytes_high_first}
use Rattle.hex.specs.Hex.{encode_lower, decode_of}
use Rattle.hex.specs.declared.FromHexError.{FromHexError}
use Rattle.sha2.specs.Sha256.{sha256}

-- 80 hex digits: eight bytes of salt, and the SHA-256 of the salt followed by the word
unfoldable pub digest_of : List ℕ → List ℕ → List ℕ
digest_of salt word = encode_lower (salt ++ sha256 (salt ++ word))

-- the eight bytes of a number, the highest first
abbrev pub salt_bytes : ℕ → List ℕ
salt_bytes salt = bytes_high_first 8 salt

abbrev pub is_salted : List ℕ → List ℕ → Result (List ℕ) FromHexError → Bool
is_salted word digest (Ok salt) = bytes_eq digest (digest_of salt word)
is_salted word digest (Err e) = false

-- the digest is the one of the word under the salt that it begins with
unfoldable pub is_digest_of : List ℕ → List ℕ → Bool
is_digest_of word digest = is_salted word digest (decode_of (take 16 digest))

-- One's salt
abbrev pub first_salt : List ℕ
first_salt = replicate 8 0

-- One's first password
abbrev pub first_password : List ℕ
first_password = codes "potrzebie"
