use Rattle.std.proofs.Common.{sym, ◌∙◌}
use Rattle.muf_token.specs.inner.Readers.{state_of}
use Rattle.muf_token.proofs.Takings.{passed_by}
use Rattle.muf_token.proofs.reader.Reader.take.Goals as goal

pub returns-clause-leads : goal.returns-clause-leads
returns-clause-leads g c =
    passed_by (g.I.Includes.lent c.args.include.now) c.args.line c.args.piece.now (state_of c.args.self.now) (state_of c.pass.new.self) c.args.place
    (sym c.is_taking.ensures ∙ c.if-is_taking.false) c.in_ok-pass.ensures.leads
