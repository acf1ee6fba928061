use Rattle.std.proofs.Common.{rules, Ok}
use Rattle.muf_token.specs.Source.{piece_taken}
use Rattle.muf_token.specs.inner.Spots.{spot_of}
use Rattle.muf_token.specs.inner.Readers.{state_of}
use Rattle.muf_token.proofs.Takings.{leads_on}
use Rattle.muf_token.proofs.reader.Reader.take_here.Goals as goal

pub returns-clause-leads : goal.returns-clause-leads
returns-clause-leads g c =
    leads_on (piece_taken (g.I.Includes.lent c.args.include.now) c.args.line c.args.piece.now (state_of c.args.self.now) (spot_of c.args.place)) (Ok c.args.place) (state_of c.put_out.new.self) (search rules)
