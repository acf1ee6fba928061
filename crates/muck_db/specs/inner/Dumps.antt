-- What a dump looks at, and what becomes of the change marks at each moment of one.
use Rattle.std.specs.Prelude.{Bool, false, not, List}
use Rattle.spec_live.specs.declared.saving.Saving.{Saving}
use Rattle.spec_live.specs.Objects.{Entry}
use Rattle.spec_live.specs.Saving.{is_due, pending, saving_done, due_again}
use Rattle.muck_codec.specs.declared.stored.Stored.{Stored}
use Rattle.muck_store.specs.inner.Changes.{KeepsUndue}
use Rattle.muck_db.specs.declared.cut.Extent.{Extent}
use Rattle.muck_db.specs.declared.cut.Extent.TheVariants.{WhatIsDue, Everything}
use Rattle.muck_db.specs.declared.marking.Moment.{Moment}
use Rattle.muck_db.specs.declared.marking.Moment.TheVariants.{Cut, Kept, Failed}

abbrev pub saving_after : Moment → Saving → Saving
saving_after Cut = pending
saving_after Kept = saving_done
saving_after Failed = due_again

-- whether a dump leaves out an object without a look at it
abbrev pub passes : Extent → Saving → Bool
passes WhatIsDue saving = not (is_due saving)
passes Everything saving = false

-- a dump may look at what is due alone, where the rest is kept
abbrev pub MayLook : Extent → List Stored → List Entry → Type 0
MayLook WhatIsDue base es = KeepsUndue base es
MayLook Everything base es = Unit {0}
