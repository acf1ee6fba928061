use Rattle.std.proofs.Common.{◌≡◌, ℕ, List, None, sym, subst}
use Rattle.muck_model.specs.Bytes.{text_fault}
use Rattle.muck_turns.proofs.Speaking.{heard_is_text}
use Rattle.muck_turns.proofs.state.hook.heard_as.Goals as goal

pub of_text_vec-line-requires : goal.of_text_vec-line-requires
of_text_vec-line-requires c = subst (λ (xs : List ℕ). text_fault xs ≡ None) (sym c.in_ok-bytes.ensures) (heard_is_text c.args.pose c.args.name.now c.args.text.now c.requires.name c.requires.text)
