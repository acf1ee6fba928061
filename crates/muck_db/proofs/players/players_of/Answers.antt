use Rattle.std.proofs.Common.{arith}
use Rattle.muck_db.proofs.Listing.{player_known}
use Rattle.muck_db.proofs.players.players_of.Goals as goal

pub returns : goal.returns
returns c = λ k is. c.loop-k.invariant k (omega (arith, player_known _ k is, c.len-n.ensures, c.loop-k-test.false)) is
