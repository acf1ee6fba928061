use Rattle.std.proofs.Common.{◌≡◌, ◌∙◌, drop}
use Rattle.muck_laws.proofs.Results.{if_ok_mapped}
use Rattle.muf_model.specs.inner.View.{view}
use Rattle.muf_model.specs.ArrayRows.{entries_in, first_key}
use Rattle.prim_text.specs.inner.Made.{made_of}
use Rattle.muf_array.proofs.Reading.{first_at}
use Rattle.muf_array.proofs.rows.key_from.Goals as goal

pub returns : goal.returns
returns c =
    let es = entries_in (view c.args.held.now) in
    if_ok_mapped _ (λ made. first_key (drop c.args.at es) ≡ made_of made) c.two-2.result (λ made e. first_at es c.args.at (view c.in_ok-key.key) c.in_ok-key.ensures ∙ e) c.two-2.ensures
