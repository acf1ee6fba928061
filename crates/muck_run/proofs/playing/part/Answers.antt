use Rattle.std.proofs.Common.{◌≡◌, true, [], refl, sym, ◌∙◌}
use Rattle.std.proofs.lemmas.Bool.{cond-true}
use Rattle.spec_dumps.proofs.Quiet.{quiet_nothing, quiet_one}
use Rattle.spec_events.specs.World.{is_leaving}
use Rattle.spec_events.specs.Histories.{now}
use Rattle.spec_events.proofs.Reached.{close_lawful}
use Rattle.spec_events.proofs.Runs.{longer_one}
use Rattle.muck_run.proofs.Parts.{plays_one, breaks_after, breaks_at_once, text_parted, lives_on}
use Rattle.muck_run.proofs.playing.part.Goals as goal

pub closed-requires : goal.closed-requires
closed-requires g c = close_lawful _ _ c.requires (sym (c.leaving.ensures c.requires) ∙ c.if-not-leaving.false)

pub returns-in-Ok-write_all-clause-plays : goal.returns-in-Ok-write_all-clause-plays
returns-in-Ok-write_all-clause-plays g c =
    let on : is_leaving c.args.d (now c.args.world.now) ≡ true = sym (c.leaving.ensures c.requires) ∙ c.if-not-leaving.false in
    plays_one _ _ _ _ _ _ _ (λ later. cond-true _ _ _ on) c.in-Ok-closed.ensures.ok refl c.requires (text_parted _ _ _ on (c.as_slice.ensures.value ∙ c.in-Ok.ensures)) c.in-Ok-write_all.ensures.ok

pub returns-in-Ok-clause-plays : goal.returns-in-Ok-clause-plays
returns-in-Ok-clause-plays g c =
    let on : is_leaving c.args.d (now c.args.world.now) ≡ true = sym (c.leaving.ensures c.requires) ∙ c.if-not-leaving.false in
    breaks_after _ [] _ _ _ _ _ _ (λ later. cond-true _ _ _ on) (longer_one _ _ _ c.in-Ok-closed.ensures.ok) (text_parted _ _ _ on (c.as_slice.ensures.value ∙ c.in-Ok.ensures)) c.in-Err-write_all.ensures.front (λ _. lives_on _ _ _ c.in-Ok-closed.ensures.ok refl c.requires)

pub returns-in-Err-closed-clause-plays : goal.returns-in-Err-closed-clause-plays
returns-in-Err-closed-clause-plays g c = breaks_at_once _ _ _ _ (longer_one _ _ _ c.in-Err-closed.ensures.died)

pub returns-clause-plays : goal.returns-clause-plays
returns-clause-plays g c = breaks_at_once _ _ _ _ (longer_one _ _ _ c.died.ensures)

-- no dump is made of it

pub returns-then-not-leaving-clause-quiet : goal.returns-then-not-leaving-clause-quiet
returns-then-not-leaving-clause-quiet g c = quiet_nothing _ _ refl

pub returns-in-Err-closed-clause-quiet : goal.returns-in-Err-closed-clause-quiet
returns-in-Err-closed-clause-quiet g c = quiet_one _ _ _ refl c.in-Err-closed.ensures.died

pub returns-in-Ok-write_all-clause-quiet : goal.returns-in-Ok-write_all-clause-quiet
returns-in-Ok-write_all-clause-quiet g c = quiet_one _ _ _ refl c.in-Ok-closed.ensures.ok

pub returns-in-Ok-clause-quiet : goal.returns-in-Ok-clause-quiet
returns-in-Ok-clause-quiet g c = quiet_one _ _ _ refl c.in-Ok-closed.ensures.ok

pub returns-clause-quiet : goal.returns-clause-quiet
returns-clause-quiet g c = quiet_one _ _ _ refl c.died.ensures
