use Rattle.std.proofs.Common.{sym, ◌∙◌, ap, take, length, arith, List, ℕ}
use Rattle.std.specs.Prelude.{bytes_eq}
use Rattle.spec_live.specs.Password.{digest_of}
use Rattle.muck_db.proofs.Counting.{known_by, unknown_by}
use Rattle.muck_db.proofs.Digests.{salt_short}
use Rattle.muck_db.proofs.password.is_digest_of.Goals as goal

pub returns-in_ok-same-in-Ok-clause-is : goal.returns-in_ok-same-in-Ok-clause-is
returns-in_ok-same-in-Ok-clause-is c =
    c.in_ok-same-in-Ok.ensures.is
    ∙ ap (λ (salt : List ℕ). bytes_eq c.args.digest.now (digest_of salt c.args.word.now)) c.as_slice-in-Ok.ensures.value
    ∙ sym (known_by c.args.word.now c.args.digest.now c.salt_digits.result.now c.in-Ok.salt.items (c.salt_digits.ensures ∙ ap (λ (l : List ℕ). take 16 l) c.as_slice.ensures.bytes) c.in-Ok.ensures.ok)

pub returns-else-is_memory-clause-is : goal.returns-else-is_memory-clause-is
returns-else-is_memory-clause-is c =
    sym (unknown_by c.args.word.now c.args.digest.now c.salt_digits.result.now c.in-Err.fault (c.salt_digits.ensures ∙ ap (λ (l : List ℕ). take 16 l) c.as_slice.ensures.bytes) c.in-Err.ensures.err (sym c.is_memory.ensures ∙ c.if-is_memory.false))

pub is_digest_under-requires : goal.is_digest_under-requires
is_digest_under-requires c = omega (
  arith,
  salt_short c.salt_digits.result.now c.args.digest.now c.in-Ok.salt.items (c.salt_digits.ensures ∙ ap (λ (l : List ℕ). take 16 l) c.as_slice.ensures.bytes) c.in-Ok.ensures.ok,
  ap (λ (l : List ℕ). length l) c.as_slice-in-Ok.ensures.value,
)
