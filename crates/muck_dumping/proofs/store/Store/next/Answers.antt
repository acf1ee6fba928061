use Rattle.std.proofs.Common.{sym, ◌∙◌}
use Rattle.muck_dumping.proofs.Knowing.{next_mounted, next_unmounted}
use Rattle.muck_dumping.proofs.store.Store.next.Goals as goal

pub returns-in-Some : goal.returns-in-Some
returns-in-Some c = c.next.ensures ∙ sym (next_mounted c.args.self.now c.in-Some.log c.in-Some.is)

pub returns-in-None : goal.returns-in-None
returns-in-None c = sym (next_unmounted c.args.self.now c.in-None.is)
