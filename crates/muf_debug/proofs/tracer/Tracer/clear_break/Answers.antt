use Rattle.std.proofs.Common.{◌∙◌, rules, ap}
use Rattle.std.proofs.lemmas.Fn.{filter_same}
use Rattle.muf_debug.specs.Shown.{without_break}
use Rattle.muf_debug.specs.contracts.tracer.Tracer as tracer
use Rattle.muf_debug.proofs.tracer.Tracer.clear_break.Goals as goal

pub returns-clause-cleared : goal.returns-clause-cleared
returns-clause-cleared c =
    ap (λ breaks. record (tracer.the_view c.self.inside) { breaks = breaks }) (filter_same _ _ _ (λ x b f k. search rules) _ _ c.retain.ensures.filtered)
    ∙ ap (without_break (record { program = c.args.program; line = c.args.line })) c.self.view_is
