use Rattle.std.proofs.Common.{arith, refl}
use Rattle.std.proofs.lemmas.Bool.{both_ways}
use Rattle.muck_laws.proofs.Lists.{stable}
use Rattle.muck_peer.proofs.peer.Peer.takeable.Goals as goal

pub returns-then-has_unsent : goal.returns-then-has_unsent
returns-then-has_unsent c some = absurd (omega (arith, some))

pub returns : goal.returns
returns c some = (stable _ (λ kept. both_ways c.has_unsent.result c.if-has_unsent.false (c.has_unsent.ensures.1 kept)), refl)
