use Rattle.std.proofs.Common.{◌≡◌, ◌++◌, rules}
use Rattle.std.specs.Prelude.{codes}
use Rattle.std.specs.Fmt.{signed_decimal}
use Rattle.muf_model.specs.Faults.{fault_text}
use Rattle.spec_events.proofs.Errors.{error_joined}
use Rattle.spec_events.proofs.texts.error_text.Goals as goal

pub returns : goal.returns
returns c =
    let head : c.into_bytes-bytes.result.items ≡ codes "Program error in #" ++ (signed_decimal c.args.program.0 ++ codes ": ") = search rules in
    let text : c.as_slice.result.now ≡ fault_text c.args.fault.now = search rules in
    let joined = error_joined c.args.program.0 c.args.fault.now c.into_bytes-bytes.result.items c.as_slice.result.now head text in
    search (rules, joined)
