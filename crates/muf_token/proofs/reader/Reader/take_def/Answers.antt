use Rattle.std.proofs.Common.{rules}
use Rattle.muf_token.specs.Source.{with_definition}
use Rattle.muf_token.specs.inner.Readers.{state_of}
use Rattle.muf_token.proofs.reader.Reader.take_def.Goals as goal

pub returns-clause-leads : goal.returns-clause-leads
returns-clause-leads c = (with_definition c.in_ok-name.name.name c.in_ok-body.body (state_of c.args.self.now), search rules, c.in_ok-define.ensures.defined)
