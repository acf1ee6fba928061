use Rattle.std.proofs.Common.{◌≡◌, sym, subst, true}
use Rattle.muck_db.specs.declared.cut.Extent.{Extent}
use Rattle.muck_db.specs.inner.Dumps.{passes}
use Rattle.muck_db.specs.inner.Slots.{saving_at}
use Rattle.muck_db.proofs.Passing.{not_due}
use Rattle.muck_db.proofs.cut.next_look.Goals as goal

pub returns-in-WhatIsDue-clause-passed : goal.returns-in-WhatIsDue-clause-passed
returns-in-WhatIsDue-clause-passed c = λ i le lt there.
    let P : Extent → Type 0 = λ e. passes e (saving_at c.args.slots.now.items i) ≡ true in
    subst P (sym c.in-WhatIsDue.is) (not_due c.args.slots.now.items i there (c.next_flagged.ensures.lacks i le lt))
