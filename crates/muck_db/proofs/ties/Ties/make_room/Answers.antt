use Rattle.muck_db.proofs.Tying.{noted_pushed}
use Rattle.muck_db.proofs.ties.Ties.make_room.Goals as goal

pub returns-in_ok-push-clause-others : goal.returns-in_ok-push-clause-others
returns-in_ok-push-clause-others c = λ d j lt h. noted_pushed _ _ _ d j c.in_ok-push.ensures.items lt h
