use Rattle.std.proofs.Common.{rules, ◌≡◌, Some, None, Ok}
use Rattle.spec_commands.specs.declared.shape.Arguments.{Arguments}
use Rattle.spec_commands.specs.Going.{Play}
use Rattle.spec_commands.specs.Reading.{part_meant, argued, with_fit, with_parts}
use Rattle.muck_model.specs.declared.dbref.Dbref.{Dbref}
use Rattle.muck_perm.specs.declared.guard.Guard.{Guard}
use Rattle.cmd_common.proofs.Taking.{takes_after, takes_none}
use Rattle.cmd_common.proofs.reading.take.Goals as goal

pub returns-in_default-clause-takes : goal.returns-in_default-clause-takes
unfolding with_parts
returns-in_default-clause-takes c =
    let none : c.mean.result ≡ Ok None = search rules in
    let rest : Guard → Dbref → (Arguments → Play) → Play = λ g x go. part_meant c.args.d g.actor c.args.shape.second c.args.parts.right (λ y. with_fit c.args.d c.args.shape (argued c.args.parts.left x c.args.parts.right y) go) in
    takes_none (part_meant c.args.d c.args.guard.now.actor c.args.shape.first c.args.parts.left) rest c.args.guard.now c.mean.new.guard c.mean.result c.mean.ensures.means none

pub returns-in_default-2-clause-takes : goal.returns-in_default-2-clause-takes
unfolding with_parts
returns-in_default-2-clause-takes c =
    let one : c.mean.result ≡ Ok (Some c.in-Some.x) = search rules in
    let none : c.mean-2.result ≡ Ok None = search rules in
    let fit : Dbref → (Arguments → Play) → Play = λ y go. with_fit c.args.d c.args.shape (argued c.args.parts.left c.in-Some.x c.args.parts.right y) go in
    let rest : Guard → Dbref → (Arguments → Play) → Play = λ g x go. part_meant c.args.d g.actor c.args.shape.second c.args.parts.right (λ y. with_fit c.args.d c.args.shape (argued c.args.parts.left x c.args.parts.right y) go) in
    takes_after (part_meant c.args.d c.args.guard.now.actor c.args.shape.first c.args.parts.left) rest c.in-Some.x c.args.guard.now c.mean.new.guard c.mean-2.new.guard c.mean.result (Ok None) c.mean.ensures.means one
    (takes_none (part_meant c.args.d c.mean.new.guard.actor c.args.shape.second c.args.parts.right) (λ g y go. fit y go) c.mean.new.guard c.mean-2.new.guard c.mean-2.result c.mean-2.ensures.means none)

pub returns-clause-takes : goal.returns-clause-takes
unfolding with_parts
returns-clause-takes c =
    let one : c.mean.result ≡ Ok (Some c.in-Some.x) = search rules in
    let other : c.mean-2.result ≡ Ok (Some c.in-Some-2.y) = search rules in
    let fit : Dbref → (Arguments → Play) → Play = λ y go. with_fit c.args.d c.args.shape (argued c.args.parts.left c.in-Some.x c.args.parts.right y) go in
    let rest : Guard → Dbref → (Arguments → Play) → Play = λ g x go. part_meant c.args.d g.actor c.args.shape.second c.args.parts.right (λ y. with_fit c.args.d c.args.shape (argued c.args.parts.left x c.args.parts.right y) go) in
    takes_after (part_meant c.args.d c.args.guard.now.actor c.args.shape.first c.args.parts.left) rest c.in-Some.x c.args.guard.now c.mean.new.guard c.fit.new.guard c.mean.result c.fit.result c.mean.ensures.means one
    (takes_after (part_meant c.args.d c.mean.new.guard.actor c.args.shape.second c.args.parts.right) (λ g y go. fit y go) c.in-Some-2.y c.mean.new.guard c.mean-2.new.guard c.fit.new.guard c.mean-2.result c.fit.result c.mean-2.ensures.means other c.fit.ensures.takes)
