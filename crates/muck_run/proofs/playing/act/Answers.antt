use Rattle.std.proofs.Common.{◌≡◌, ◌≤◌, refl, arith}
use Rattle.spec_events.proofs.Runs.{longer_one}
use Rattle.muck_run.proofs.Parts.{plays_if_lawful, breaks_at_once, opened_silent, input_silent}
use Rattle.spec_dumps.proofs.Quiet.{quiet_one}
use Rattle.spec_events.specs.Histories.{now}
use Rattle.spec_events.proofs.Reached.{moment_lawful}
use Rattle.muck_script.specs.Story.{moment_later}
use Rattle.muck_run.proofs.Acts.{plays_wait, quiet_if}
use Rattle.muck_run.proofs.playing.act.Goals as goal

pub returns-in-Ok-clause-plays : goal.returns-in-Ok-clause-plays
returns-in-Ok-clause-plays g c =
    rw c.in-Open.is (plays_if_lawful _ _ _ _ c.in-Ok.field-0 (opened_silent _ _) refl c.requires c.in-Ok.ensures.lawful c.in-Ok.ensures.step)

pub returns-in-Ok-input-clause-plays : goal.returns-in-Ok-input-clause-plays
returns-in-Ok-input-clause-plays g c =
    rw c.in-Send.is (rw (← c.in-Ok-copy.ensures) (plays_if_lawful _ _ _ _ c.in-Ok-input.field-0 (input_silent _ _ _) refl c.requires c.in-Ok-input.ensures.lawful c.in-Ok-input.ensures.step))

pub moment-requires : goal.moment-requires
moment-requires g c =
    let at = c.now.ensures c.requires in
    let on : (now c.args.world.now).moment ≤ c.saturating_add-then.result = omega (arith, at, c.saturating_add-then.ensures) in
    moment_lawful _ _ c.requires on

pub returns-in-Wait-clause-plays : goal.returns-in-Wait-clause-plays
returns-in-Wait-clause-plays g c =
    let at = c.now.ensures c.requires in
    let on : (now c.args.world.now).moment ≤ c.saturating_add-then.result = omega (arith, at, c.saturating_add-then.ensures) in
    let is : c.saturating_add-then.result ≡ moment_later c.in-Wait.seconds (now c.args.world.now) = omega (arith, at, c.saturating_add-then.ensures) in
    rw c.in-Wait.is (plays_wait _ _ _ _ _ is c.requires (moment_lawful _ _ c.requires on) c.moment.ensures)

pub returns-in-Err-clause-plays : goal.returns-in-Err-clause-plays
returns-in-Err-clause-plays g c = breaks_at_once _ _ _ _ (longer_one _ _ _ c.in-Err.ensures.died)

pub returns-in-Err-input-clause-plays : goal.returns-in-Err-input-clause-plays
returns-in-Err-input-clause-plays g c = breaks_at_once _ _ _ _ (longer_one _ _ _ c.in-Err-input.ensures.died)

pub returns-in-Err-copy-clause-plays : goal.returns-in-Err-copy-clause-plays
returns-in-Err-copy-clause-plays g c = breaks_at_once _ _ _ _ (longer_one _ _ _ c.died.ensures)

-- no dump is made of it

pub returns-in-Ok-clause-quiet : goal.returns-in-Ok-clause-quiet
returns-in-Ok-clause-quiet g c = quiet_if _ _ _ _ refl c.in-Ok.ensures.step

pub returns-in-Err-clause-quiet : goal.returns-in-Err-clause-quiet
returns-in-Err-clause-quiet g c = quiet_one _ _ _ refl c.in-Err.ensures.died

pub returns-in-Ok-input-clause-quiet : goal.returns-in-Ok-input-clause-quiet
returns-in-Ok-input-clause-quiet g c = quiet_if _ _ _ _ refl c.in-Ok-input.ensures.step

pub returns-in-Wait-clause-quiet : goal.returns-in-Wait-clause-quiet
returns-in-Wait-clause-quiet g c = quiet_one _ _ _ refl c.moment.ensures
