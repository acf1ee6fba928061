-- Primitives without a row, and those without a rule for their arguments.
use Rattle.std.proofs.Common.{◌≡◌, ℕ, List, Option, None, refl}
use Rattle.spec_live.specs.Lives.{Live}
use Rattle.spec_rights.specs.declared.act.Actor.{Actor}
use Rattle.muf_model.specs.declared.prims.Primitive.{Primitive}
use Rattle.muf_model.specs.declared.prims.Primitive.TheVariants.{Notify, NotifyExclude, IsAwake, Online, ConCount, ConDbref, Descriptors, Descr, ConBoot}
use Rattle.muf_model.specs.Datum.{Datum}
use Rattle.spec_prims.specs.Talk.{talk_row}
use Rattle.prim_common.specs.inner.Applied.{argued_of}

pub no_row : (descr : Option ℕ) (p : Primitive) → (p ≡ Notify → ⊥) → (p ≡ NotifyExclude → ⊥) → (p ≡ IsAwake → ⊥) → (p ≡ Online → ⊥) → (p ≡ ConCount → ⊥) → (p ≡ ConDbref → ⊥) → (p ≡ Descriptors → ⊥) → (p ≡ Descr → ⊥) → (p ≡ ConBoot → ⊥) → talk_row descr p ≡ None
no_row descr Notify a b c d e f g h i = absurd (a refl)
no_row descr NotifyExclude a b c d e f g h i = absurd (b refl)
no_row descr IsAwake a b c d e f g h i = absurd (c refl)
no_row descr Online a b c d e f g h i = absurd (d refl)
no_row descr ConCount a b c d e f g h i = absurd (e refl)
no_row descr ConDbref a b c d e f g h i = absurd (f refl)
no_row descr Descriptors a b c d e f g h i = absurd (g refl)
no_row descr Descr a b c d e f g h i = absurd (h refl)
no_row descr ConBoot a b c d e f g h i = absurd (i refl)
no_row descr _ a b c d e f g h i = refl

pub no_rule : (descr : Option ℕ) (p : Primitive) (a : Actor) (items : List Datum) (w : Live) → (p ≡ ConDbref → ⊥) → (p ≡ ConBoot → ⊥) → argued_of (talk_row descr p) a items w ≡ None
no_rule descr ConDbref a items w g h = absurd (g refl)
no_rule descr ConBoot a items w g h = absurd (h refl)
no_rule descr _ a items w g h = refl
