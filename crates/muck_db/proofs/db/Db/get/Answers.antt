use Rattle.muck_db.proofs.LimitLaws.{fits_found}
use Rattle.muck_db.proofs.db.Db.get.Goals as goal

pub returns-clause-limits : goal.returns-clause-limits
returns-clause-limits c = fits_found c.found.result _ _ c.self.invariant.kept.sound.limits c.found.ensures
