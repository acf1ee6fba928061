use Rattle.std.proofs.Common.{◌∙◌}
use Rattle.muckd.proofs.top.by_script.Goals as goal

pub returns-clause-run : goal.returns-clause-run
returns-clause-run g c = λ store is. c.obey-why.ensures.run store (c.command_of.ensures.command ∙ is)

pub returns-clause-drill : goal.returns-clause-drill
returns-clause-drill g c = λ n is. c.obey-why.ensures.drill n (c.command_of.ensures.command ∙ is)

pub returns-clause-mirror : goal.returns-clause-mirror
returns-clause-mirror g c = λ store is. c.obey-why.ensures.mirror store (c.command_of.ensures.command ∙ is)

pub returns-clause-debug : goal.returns-clause-debug
returns-clause-debug g c = λ store is. c.obey-why.ensures.debug store (c.command_of.ensures.command ∙ is)
