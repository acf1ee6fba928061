use Rattle.std.proofs.Common.{arith, sym, subst, ◌≡◌, true, map}
use Rattle.std.specs.List.{list_all}
use Rattle.muck_laws.proofs.Mapped.{taken}
use Rattle.muck_laws.proofs.Tests.{all_take}
use Rattle.mpi.specs.Made.{is_text}
use Rattle.mpi.proofs.evaluator.texts_before.Goals as goal

pub returns-clause-value : goal.returns-clause-value
returns-clause-value c = taken (λ x. x.now) c.args.texts.now c.args.at c.min.result (λ le. omega arith) (λ le. omega arith)

pub returns-clause-texts : goal.returns-clause-texts
returns-clause-texts c = subst (λ xs. list_all is_text xs ≡ true) (sym (taken (λ x. x.now) c.args.texts.now c.args.at c.min.result (λ le. omega arith) (λ le. omega arith))) (all_take is_text c.args.at (map (λ x. x.now) c.args.texts.now) c.requires)
