-- What tests answer, and what is asked of which items.
use Rattle.std.specs.Prelude.{◌≡◌, ◌≤◌, List, ◌++◌, length, drop, ℤ, pos, ℕ, Option, Some, None, Result, Ok, Err}
use Rattle.std.specs.Option.{option_or}
use Rattle.spec_live.specs.Objects.{Entry}
use Rattle.spec_rights.specs.declared.act.Actor.{Actor}
use Rattle.muf_model.specs.declared.fault.MufFault.{MufFault}
use Rattle.muf_model.specs.declared.needs.Need.{Need}
use Rattle.muf_model.specs.Datum.{Datum}
use Rattle.muf_model.specs.Needs.{Many, Needs}
use Rattle.muf_model.specs.Ladder.{short, times, miscounted, unfit, absent, distant}
use Rattle.spec_prims.specs.Asking.{is_number_there, near_fault}
use Rattle.prim_common.specs.declared.items.Asked.{Asked}
use Rattle.prim_common.specs.declared.items.Asked.TheVariants.{Kind, There, Near}
use Rattle.prim_common.specs.declared.parts.Parts.{Parts}

-- the fault that a test has, where it has one
abbrev pub Passes : {X : Type 0} → Option MufFault → Result X MufFault → Type 0
Passes None (Ok x) = Unit {0}
Passes None (Err f) = ⊥
Passes (Some e) (Ok x) = ⊥
Passes (Some e) (Err f) = f ≡ e

-- what is asked of an item
abbrev pub item_fault : Asked → Actor → List Entry → Need → Datum → Option MufFault
item_fault Kind a es = unfit
item_fault There a es = absent (is_number_there es)
item_fault Near a es = distant (near_fault a es)

-- how many an integer counts, where there is one
abbrev pub count_of : Option ℤ → ℕ
count_of (Some (pos n)) = n
count_of _ = 0

-- what each item must be, the top first
abbrev pub all_needs : Parts → List Need
all_needs p = p.fixed.now ++ (times p.count p.each.now ++ p.under.now)

-- a count that isn't negative, and what is asked for without what is counted
abbrev pub uncounted : List Need → Option Many → ℕ → List Datum → Option MufFault
uncounted fixed None locked stack = None
uncounted fixed (Some m) locked stack = option_or (short (length (fixed ++ m.under)) locked stack) (miscounted (drop m.at stack))

-- the parts are short, and the count is that of an integer
abbrev pub AreShort : Parts → Type 0
AreShort p = (length p.fixed.now ≤ 64) × (length p.each.now ≤ 64) × (length p.under.now ≤ 64) × (p.count ≤ 2147483647)

-- needs name few items
abbrev pub FewCounted : Option Many → Type 0
FewCounted None = Unit {0}
FewCounted (Some m) = (length m.each ≤ 64) × (length m.under ≤ 64)

abbrev pub AreFew : Needs → Type 0
AreFew needs = (length needs.fixed ≤ 64) × FewCounted needs.many
