use Rattle.spec_live.specs.Boards.{queue_in}
use Rattle.std.proofs.Common.{ap, ◌∙◌}
use Rattle.spec_live.specs.Output.{output_taken}
use Rattle.muck_board.proofs.Numbered.{changed, queue_left}
use Rattle.muck_board.proofs.board.Board.take.Goals as goal

pub returns-in-Some-clause-left : goal.returns-in-Some-clause-left
returns-in-Some-clause-left c =
    ap (queue_in c.args.d) (changed c.args.d (λ x. record x { output = output_taken c.take.result x.output }) c.args.self.now _ _ c.in-Some.ensures.value c.take.ensures.rest) ∙ queue_left c.args.d c.take.result c.args.self.now.connections
