use Rattle.std.proofs.Common.{ap, ◌∙◌}
use Rattle.std.proofs.lemmas.Result.{err_from_is_err_and}
use Rattle.muck_codec.specs.declared.stored.Stored.{Stored}
use Rattle.muck_codec.specs.Batches.{next_record_at, records_at}
use Rattle.muck_codec.proofs.Loops.{goes_on_with, ends_with, is_done}
use Rattle.muck_codec.specs.Reading.{last_key}
use Rattle.muck_codec.proofs.batch.records_at.Goals as goal

pub returns-in_err-stored : goal.returns-in_err-stored
returns-in_err-stored c =
    let p = err_from_is_err_and c.from_residual.result c.from_residual.ensures.1 in
    rw (p.1, p.2) (ends_with (λ (o : Stored). o.dbref) (next_record_at c.args.version) c.in_err-stored.field-0.0 c.loop.records.items c.args.count c.loop.counter c.loop.rest.now (records_at c.args.version c.args.count c.args.bytes.now) c.last_dbref.result (c.last_dbref.ensures ∙ ap (last_key (λ (o : Stored). o.dbref)) c.deref.ensures.value) c.loop-test.true c.in_err-stored.ensures c.loop.invariant)

pub loop-preserved : goal.loop-preserved
loop-preserved c =
    rw (c.in_ok-push.ensures.items) (goes_on_with (λ (o : Stored). o.dbref) (next_record_at c.args.version) c.loop.records.items c.args.count c.loop.counter c.loop.rest.now c.in_ok-stored.stored c.in_ok-stored.after.now (records_at c.args.version c.args.count c.args.bytes.now) c.last_dbref.result (c.last_dbref.ensures ∙ ap (last_key (λ (o : Stored). o.dbref)) c.deref.ensures.value) c.loop-test.true c.in_ok-stored.ensures c.loop.invariant)

pub returns : goal.returns
returns c = is_done (λ (o : Stored). o.dbref) (next_record_at c.args.version) c.loop.records.items c.args.count c.loop.counter c.loop.rest.now (records_at c.args.version c.args.count c.args.bytes.now) c.loop-test.false c.loop.invariant
