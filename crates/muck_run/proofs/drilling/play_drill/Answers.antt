use Rattle.std.proofs.Common.{refl, ap, ◌∙◌, Some}
use Rattle.muck_laws.proofs.Results.{on_err_as}
use Rattle.muck_run.proofs.Drilled.{fresh_alive, fresh_idle, fresh_opens, played_by, fresh_short, broke_short}
use Rattle.muck_run.proofs.drilling.play_drill.Goals as goal

pub play-requires-clause-alive : goal.play-requires-clause-alive
play-requires-clause-alive c = fresh_alive _ c.requires

pub play-requires-clause-idle : goal.play-requires-clause-idle
play-requires-clause-idle c = fresh_idle _ c.requires

pub play-requires-clause-knows : goal.play-requires-clause-knows
play-requires-clause-knows c = c.in_ok-store.ensures _

pub play-requires-clause-opened : goal.play-requires-clause-opened
play-requires-clause-opened c = fresh_opens _ c.requires

pub returns-in-Ok : goal.returns-in-Ok
returns-in-Ok c = record { played = played_by c.args.count _ _ _ _ _ _ (c.as_slice.ensures.value ∙ c.in_ok-acts.ensures) c.requires (ap Some c.new-transcript.ensures.bytes) refl c.in-Ok.ensures.plays; short = tt }

-- it broke off

pub returns-in_err-acts-clause-short : goal.returns-in_err-acts-clause-short
returns-in_err-acts-clause-short c = on_err_as c.from_residual.result (fresh_short c.args.count c.args.world.now c.requires)

pub returns-in_err-buf-clause-short : goal.returns-in_err-buf-clause-short
returns-in_err-buf-clause-short c = on_err_as c.from_residual-in_err-buf.result (fresh_short c.args.count c.args.world.now c.requires)

pub returns-in_err-store-clause-short : goal.returns-in_err-store-clause-short
returns-in_err-store-clause-short c = on_err_as c.from_residual-in_err-store.result (fresh_short c.args.count c.args.world.now c.requires)

pub returns-clause-short : goal.returns-clause-short
returns-clause-short c =
    broke_short c.args.count _ c.args.world.now c.play.new.world _ _ c.in-Err-NoMemory.field-0 (c.as_slice.ensures.value ∙ c.in_ok-acts.ensures) c.requires c.in-Err-NoMemory.ensures.plays
