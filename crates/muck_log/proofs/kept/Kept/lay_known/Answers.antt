use Rattle.std.proofs.Common.{Bool, subst}
use Rattle.muck_log.specs.inner.Head.{IsPut}
use Rattle.muck_log.proofs.Rereading.{never_refused, put_known}
use Rattle.muck_log.proofs.kept.Kept.lay_known.Goals as goal

pub unreachable-requires : goal.unreachable-requires
unreachable-requires c =
    never_refused c.args.batch c.args.self.now c.requires.storable c.requires.few c.see_tune.ensures c.requires.makes
    (subst (λ (yes : Bool). IsPut yes c.args.batch c.args.self.now c.put.new.self) c.if-not-branch.true c.in_ok-put.ensures)

pub returns-clause-laid : goal.returns-clause-laid
returns-clause-laid c =
    (put_known c.args.batch c.args.self.now c.requires.storable c.requires.few c.see_tune.ensures c.requires.makes c.put.new.self
    (subst (λ (yes : Bool). IsPut yes c.args.batch c.args.self.now c.put.new.self) c.if-not-branch.false c.in_ok-put.ensures)).0

pub returns-clause-fine : goal.returns-clause-fine
returns-clause-fine c =
    (put_known c.args.batch c.args.self.now c.requires.storable c.requires.few c.see_tune.ensures c.requires.makes c.put.new.self
    (subst (λ (yes : Bool). IsPut yes c.args.batch c.args.self.now c.put.new.self) c.if-not-branch.false c.in_ok-put.ensures)).1
