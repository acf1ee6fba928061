use Rattle.muck_laws.proofs.Texts.{texts_same}
use Rattle.muck_log.proofs.same.are_same_lines.Goals as goal

pub returns : goal.returns
returns c = texts_same c.args.a.now c.args.b.now c.eq.result c.eq.ensures
