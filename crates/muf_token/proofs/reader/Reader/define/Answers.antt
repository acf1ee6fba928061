use Rattle.std.proofs.Common.{refl}
use Rattle.muf_token.proofs.Renewals.{defined_by}
use Rattle.muf_token.proofs.reader.Reader.define.Goals as goal

pub returns-clause-defined : goal.returns-clause-defined
returns-clause-defined c = defined_by c.args.self.now _ c.args.name c.args.body c.set.result c.requires c.set.ensures.mean c.set.ensures.kept refl refl
