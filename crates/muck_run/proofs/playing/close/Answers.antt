use Rattle.std.proofs.Common.{refl, sym, ◌∙◌}
use Rattle.spec_dumps.proofs.Quiet.{quiet_nothing, quiet_one}
use Rattle.spec_events.proofs.Runs.{longer_one}
use Rattle.muck_run.proofs.Parts.{breaks_at_once}
use Rattle.muck_run.proofs.Acts.{closed_where, plays_close, plays_no_close, plays_parting}
use Rattle.muck_run.proofs.playing.close.Goals as goal

pub returns-then-leaving-clause-plays : goal.returns-then-leaving-clause-plays
returns-then-leaving-clause-plays g c =
    plays_parting _ _ _ _ c.part.result _ c.requires (sym (c.leaving.ensures c.requires) ∙ c.if-leaving.true) c.part.ensures.plays

pub returns-then-not-connected-clause-plays : goal.returns-then-not-connected-clause-plays
returns-then-not-connected-clause-plays g c = plays_no_close _ _ _ c.requires (sym (c.connected.ensures c.requires) ∙ c.if-not-connected.true)

pub closed-requires : goal.closed-requires
closed-requires g c = closed_where _ _ c.requires ∙ sym (c.connected.ensures c.requires) ∙ c.if-not-connected.false

pub returns-in-Ok-clause-plays : goal.returns-in-Ok-clause-plays
returns-in-Ok-clause-plays g c =
    plays_close _ _ _ _ c.requires (sym (c.leaving.ensures c.requires) ∙ c.if-leaving.false)
    (closed_where _ _ c.requires ∙ sym (c.connected.ensures c.requires) ∙ c.if-not-connected.false) c.in-Ok.ensures.ok

pub returns-in-Err-clause-plays : goal.returns-in-Err-clause-plays
returns-in-Err-clause-plays g c = breaks_at_once _ _ _ _ (longer_one _ _ _ c.in-Err.ensures.died)

-- no dump is made of it

pub returns-then-not-connected-clause-quiet : goal.returns-then-not-connected-clause-quiet
returns-then-not-connected-clause-quiet g c = quiet_nothing _ _ refl

pub returns-in-Ok-clause-quiet : goal.returns-in-Ok-clause-quiet
returns-in-Ok-clause-quiet g c = quiet_one _ _ _ refl c.in-Ok.ensures.ok

pub returns-in-Err-clause-quiet : goal.returns-in-Err-clause-quiet
returns-in-Err-clause-quiet g c = quiet_one _ _ _ refl c.in-Err.ensures.died
