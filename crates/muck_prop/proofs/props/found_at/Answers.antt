use Rattle.std.proofs.Common.{rules}
use Rattle.muck_prop.specs.Paths.{segments_of}
use Rattle.muck_prop.proofs.Parts.{found_by}
use Rattle.muck_prop.proofs.props.found_at.Goals as goal

pub returns-in-Ok : goal.returns-in-Ok
returns-in-Ok c = found_by _ (segments_of c.args.text.now) c.args.values.now.entries _ c.searched.ensures (search rules)
