use Rattle.std.proofs.Common.{◌∙◌, ap, arith}
use Rattle.muck_db.proofs.Digests.{salted_digits, digest_text}
use Rattle.muck_db.proofs.password.digest_text.Goals as goal

pub of_text_vec-requires : goal.of_text_vec-requires
of_text_vec-requires c =
    digest_text c.args.salt.now c.args.word.now c.into_bytes.result.items (λ i. omega (arith, c.type_inv.salt i)) c.requires
    (salted_digits c.args.salt.now c.args.word.now c.in_ok-kept.kept.items c.as_slice.result.now c.into_bytes.result.items c.in_ok-kept.ensures c.as_slice.ensures.value (ap (λ v. v.items) c.into_bytes.ensures.value ∙ c.in_ok-digits.ensures))
