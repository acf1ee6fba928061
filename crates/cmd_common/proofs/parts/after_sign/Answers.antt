use Rattle.std.proofs.Common.{◌≡◌, ℕ, List, None, sym, subst}
use Rattle.muck_lock.proofs.Places.{text_fault-drop}
use Rattle.muck_model.specs.Bytes.{text_fault}
use Rattle.cmd_common.proofs.Texts.{trimmed_text}
use Rattle.cmd_common.proofs.parts.after_sign.Goals as goal

-- what stands behind the sign is a text
pub of_text-requires-2 : goal.of_text-requires-2
of_text-requires-2 c =
    let P : List ℕ → Type 0 = λ l. text_fault l ≡ None in
    subst P (sym c.trim.ensures) (trimmed_text c.split_at.result.1.now (subst P (sym c.split_at.ensures.back) (text_fault-drop 1 c.as_slice-bytes.result.now c.as_slice-bytes.ensures.text)))
