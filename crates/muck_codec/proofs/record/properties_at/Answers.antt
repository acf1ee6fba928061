use Rattle.std.proofs.Common.{ap, ◌∙◌}
use Rattle.std.specs.Option.{option_copied}
use Rattle.std.proofs.lemmas.Result.{err_from_is_err_and}
use Rattle.muck_codec.specs.declared.stored.Property.{Property}
use Rattle.muck_codec.specs.Records.{property_at, properties_at}
use Rattle.muck_codec.proofs.Loops.{goes_on_with, ends_with, is_done}
use Rattle.muck_codec.specs.Reading.{last_key}
use Rattle.muck_codec.proofs.record.properties_at.Goals as goal

pub returns-in_err-property : goal.returns-in_err-property
returns-in_err-property c =
    let p = err_from_is_err_and c.from_residual.result c.from_residual.ensures.1 in
    rw (p.1, p.2) (ends_with (λ (p : Property). p.path) (property_at c.args.version) c.in_err-property.field-0.0 c.loop.props.items c.args.count c.loop.counter c.loop.rest.now (properties_at c.args.version c.args.count c.args.bytes.now) (option_copied c.last_path.result) (c.last_path.ensures ∙ ap (last_key (λ (p : Property). p.path)) c.deref.ensures.value) c.loop-test.true c.in_err-property.ensures c.loop.invariant)

pub loop-preserved : goal.loop-preserved
loop-preserved c =
    rw (c.in_ok-push.ensures.items) (goes_on_with (λ (p : Property). p.path) (property_at c.args.version) c.loop.props.items c.args.count c.loop.counter c.loop.rest.now c.in_ok-property.property c.in_ok-property.after.now (properties_at c.args.version c.args.count c.args.bytes.now) (option_copied c.last_path.result) (c.last_path.ensures ∙ ap (last_key (λ (p : Property). p.path)) c.deref.ensures.value) c.loop-test.true c.in_ok-property.ensures c.loop.invariant)

pub returns : goal.returns
returns c = rw (c.shrink_to_fit.ensures.items) (is_done (λ (p : Property). p.path) (property_at c.args.version) c.loop.props.items c.args.count c.loop.counter c.loop.rest.now (properties_at c.args.version c.args.count c.args.bytes.now) c.loop-test.false c.loop.invariant)
