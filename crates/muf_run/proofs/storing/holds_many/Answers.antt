use Rattle.std.proofs.Common.{ap, sym, ◌∙◌}
use Rattle.std.specs.Prelude.{is_some, option_map, option_copied}
use Rattle.muf_model.specs.inner.View.{view}
use Rattle.muf_run.proofs.storing.holds_many.Goals as goal

pub returns-in-Items : goal.returns-in-Items
returns-in-Items c t = ap is_some (sym (c.variable.ensures 0)) ∙ ap (λ o. is_some (option_map view (option_copied o))) c.in-Some.is

pub returns-in-Items-2 : goal.returns-in-Items-2
returns-in-Items-2 c t = ap is_some (sym (c.variable.ensures 0)) ∙ ap (λ o. is_some (option_map view (option_copied o))) c.in-Some.is
