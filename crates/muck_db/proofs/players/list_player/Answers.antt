use Rattle.muck_db.proofs.Listing.{among_more, among_last}
use Rattle.muck_db.proofs.players.list_player.Goals as goal

pub returns-in_ok-push-in-Player-clause-more : goal.returns-in_ok-push-in-Player-clause-more
returns-in_ok-push-in-Player-clause-more c = λ k a. among_more _ _ _ k c.in_ok-push-in-Player.ensures.items a

pub returns-in_ok-push-in-Player-clause-listed : goal.returns-in_ok-push-in-Player-clause-listed
returns-in_ok-push-in-Player-clause-listed c = λ is. among_last _ _ _ c.in_ok-push-in-Player.ensures.items
