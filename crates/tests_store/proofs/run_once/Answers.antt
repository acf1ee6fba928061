use Rattle.tests_store.proofs.Nothing.{makes}
use Rattle.tests_store.proofs.run_once.Goals as goal

pub append-requires-clause-makes : goal.append-requires-clause-makes
append-requires-clause-makes g c = λ fresh. makes c.in_ok-log.log _ c.in_ok-log.ensures.fine c.in_ok-new.ensures c.first.ensures
