use Rattle.std.proofs.Common.{sym, subst, ◌≡◌, None}
use Rattle.muck_model.specs.Bytes.{text_fault}
use Rattle.mpi.proofs.Mapped.{nth_past, mapped_text}
use Rattle.mpi.proofs.evaluator.text_at.Goals as goal

pub returns-in-None-clause-value : goal.returns-in-None-clause-value
returns-in-None-clause-value c = sym (nth_past (λ x. x.now) c.args.texts.now c.args.at c.in-None.ensures.lookup.3)

pub returns-in-Some-clause-text : goal.returns-in-Some-clause-text
returns-in-Some-clause-text c = let h = c.in-Some.ensures.lookup in subst (λ x. text_fault x.now ≡ None) (sym h.1) (mapped_text (λ x. x.now) c.args.texts.now c.args.at c.in-Some.text.now c.requires h.3.0)
