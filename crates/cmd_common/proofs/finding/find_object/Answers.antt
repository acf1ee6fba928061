use Rattle.std.proofs.Common.{rules, ◌≡◌, None, Ok, subst}
use Rattle.spec_live.specs.Lives.{tell}
use Rattle.spec_commands.specs.Replies.{cant_be_done}
use Rattle.spec_commands.specs.Finding.{finding, finding_object, where_so, is_object}
use Rattle.cmd_common.specs.inner.Plays.{Finds}
use Rattle.cmd_common.proofs.finding.find_object.Goals as goal

pub returns-in_default-clause-finds : goal.returns-in_default-clause-finds
unfolding finding_object
returns-in_default-clause-finds c =
    let none : c.find_one.result ≡ Ok None = search rules in
    λ go. subst (λ q. Finds (finding (tell c.args.d) c.args.guard.now.actor.player c.args.name.now) c.args.guard.now c.find_one.new.guard q) none c.find_one.ensures (λ x. where_so (is_object x) (tell c.args.d cant_be_done) (go x))
