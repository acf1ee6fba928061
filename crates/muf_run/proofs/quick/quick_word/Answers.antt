use Rattle.std.proofs.Common.{ap, sym, ◌∙◌}
use Rattle.muf_frame.specs.inner.Shown.{flat}
use Rattle.muf_run.specs.inner.Machine as machine
use Rattle.muf_run.proofs.quick.quick_word.Goals as goal

pub returns-then-quick_at-clause-yes : goal.returns-then-quick_at-clause-yes
returns-then-quick_at-clause-yes c y code =
    ap (λ g. machine.word_after code c.args.word.now (flat c.args.frame.now) (flat g)) (sym c.go_to.ensures) ∙ c.quick_at.ensures.yes c.if-quick_at.true code (flat c.args.frame.now)
