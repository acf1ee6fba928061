use Rattle.std.proofs.Common.{ap, [], List, ℕ, arith}
use Rattle.muck_board.specs.inner.Waiting.{Waiting}
use Rattle.muck_board.proofs.Ended.{none_are}
use Rattle.muck_board.proofs.lines.Lines.new.Goals as goal

pub invariant_of-result : goal.invariant_of-result
invariant_of-result c = (omega arith, omega arith, (none_are c.new.result.items c.new.ensures.items).0)

pub returns : goal.returns
returns c = ap {A = List (List ℕ)} {B = Waiting} (λ ls. record { begun = []; lines = ls }) (none_are c.new.result.items c.new.ensures.items).1
