use Rattle.std.proofs.Common.{refl}
use Rattle.muck_links.proofs.Keys.{told_same}
use Rattle.muck_links.proofs.script.ScriptLinksLinks.read.Goals as goal

pub returns-in-Nothing-clause-told : goal.returns-in-Nothing-clause-told
returns-in-Nothing-clause-told c t = told_same c.args.d _ (λ s. refl) _
