use Rattle.std.proofs.Common.{◌++◌, ap, ◌∙◌}
use Rattle.spec_hooks.specs.Told.{told}
use Rattle.muck_turns.proofs.state.hook.push_next.Goals as goal

pub returns : goal.returns
returns c = λ ms. ap (λ l. l ++ told c.in_ok-rest.rest ms) c.in_ok-push_move.ensures ∙ c.in_ok-rest.ensures ms
