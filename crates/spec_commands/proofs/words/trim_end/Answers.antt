use Rattle.std.proofs.Common.{sym, ◌∙◌, ap, eq-eqb}
use Rattle.std.proofs.lemmas.Bool.{ne_eqb}
use Rattle.spec_commands.specs.Texts.{end_trimmed}
use Rattle.spec_commands.proofs.Trims.{end_trimmed-space, end_trimmed-other}
use Rattle.spec_commands.proofs.words.trim_end.Goals as goal

pub returns-then-last-ne32 : goal.returns-then-last-ne32
returns-then-last-ne32 c =
    c.in-Some.ensures.cases.0 ∙ sym (end_trimmed-other c.in-Some.last.now c.in-Some.others.now (ne_eqb _ _ c.if-last-ne32.true))
    ∙ ap end_trimmed (sym c.in-Some.ensures.cases.0) ∙ c.loop-last.invariant

pub loop-last-preserved : goal.loop-last-preserved
loop-last-preserved c =
    sym (end_trimmed-space c.in-Some.last.now c.in-Some.others.now (eq-eqb _ _ c.if-last-ne32.false))
    ∙ ap end_trimmed (sym c.in-Some.ensures.cases.0) ∙ c.loop-last.invariant
