use Rattle.muck_links.proofs.Cuts.{cut_is_lines}
use Rattle.muck_links.proofs.cutter.cuts_lines.Goals as goal

pub returns : goal.returns
returns c = cut_is_lines c.args._bytes.now
