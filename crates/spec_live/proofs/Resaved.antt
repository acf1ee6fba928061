-- A world whose objects differ in their change marks alone hangs together as before.
use Rattle.std.proofs.Common.{List}
use Rattle.spec_live.specs.declared.saving.Saving.{Saving}
use Rattle.spec_live.specs.Objects.{Entry}
use Rattle.spec_live.specs.Saving.{all_saving}
use Rattle.spec_live.specs.Consistent.{IsConsistent}
use Rattle.spec_live.proofs.Ties.{consistent_seen}
use Rattle.spec_live.proofs.Savings.{length_resaved, object_resaved, list_resaved}

pub consistent_resaved : (f : Saving → Saving) (es : List Entry) → IsConsistent es → IsConsistent (all_saving f es)
consistent_resaved f es c = consistent_seen es (all_saving f es) (length_resaved f es) (λ k. object_resaved f k es) (λ v k. list_resaved v f k es) c
