use Rattle.std.proofs.Common.{◌-◌, sym, ◌∙◌, ap, length}
use Rattle.std.specs.Prelude.{slice_get}
use Rattle.muck_lock.proofs.Lasts.{taken_last}
use Rattle.muck_lock.proofs.reader.take_last.Goals as goal

pub returns-then-ends-clause-taken : goal.returns-then-ends-clause-taken
returns-then-ends-clause-taken c =
    taken_last c.args.waiting.now.items c.pop.new.self.items c.pop.result c.in_ok-last.field-0.now c.args.ahead c.pop.ensures.items (c.in_ok-last.ensures.value ∙ ap (λ l. slice_get l (length l - 1)) c.deref.ensures.value) (sym c.if-ends.ensures)
