-- Primitives without a row; and no row has a rule for its arguments, since a path is asked behind what is near.
use Rattle.std.proofs.Common.{◌≡◌, List, None, refl}
use Rattle.spec_live.specs.Lives.{Live}
use Rattle.spec_rights.specs.declared.act.Actor.{Actor}
use Rattle.muf_model.specs.declared.prims.Primitive.{Primitive}
use Rattle.muf_model.specs.declared.prims.Primitive.TheVariants.{GetProp, GetPropStr, GetPropVal, SetProp, AddProp, RemoveProp, NextProp, IsPropDir, EnvProp, EnvPropStr, ParseMpi}
use Rattle.muf_model.specs.Datum.{Datum}
use Rattle.spec_prims.specs.PropRows.{property_row}
use Rattle.prim_common.specs.inner.Applied.{argued_of}

pub no_row : (p : Primitive) → (p ≡ GetProp → ⊥) → (p ≡ GetPropStr → ⊥) → (p ≡ GetPropVal → ⊥) → (p ≡ IsPropDir → ⊥) → (p ≡ EnvProp → ⊥) → (p ≡ EnvPropStr → ⊥) → (p ≡ NextProp → ⊥) → (p ≡ SetProp → ⊥) → (p ≡ AddProp → ⊥) → (p ≡ RemoveProp → ⊥) → (p ≡ ParseMpi → ⊥) → property_row p ≡ None
no_row GetProp a b c d e f g h i j k = absurd (a refl)
no_row GetPropStr a b c d e f g h i j k = absurd (b refl)
no_row GetPropVal a b c d e f g h i j k = absurd (c refl)
no_row IsPropDir a b c d e f g h i j k = absurd (d refl)
no_row EnvProp a b c d e f g h i j k = absurd (e refl)
no_row EnvPropStr a b c d e f g h i j k = absurd (f refl)
no_row NextProp a b c d e f g h i j k = absurd (g refl)
no_row SetProp a b c d e f g h i j k = absurd (h refl)
no_row AddProp a b c d e f g h i j k = absurd (i refl)
no_row RemoveProp a b c d e f g h i j k = absurd (j refl)
no_row ParseMpi a b c d e f g h i j k = absurd (k refl)
no_row _ a b c d e f g h i j k = refl

pub no_rule : (p : Primitive) (a : Actor) (items : List Datum) (w : Live) → None ≡ argued_of (property_row p) a items w
no_rule GetProp a items w = refl
no_rule GetPropStr a items w = refl
no_rule GetPropVal a items w = refl
no_rule IsPropDir a items w = refl
no_rule EnvProp a items w = refl
no_rule EnvPropStr a items w = refl
no_rule NextProp a items w = refl
no_rule SetProp a items w = refl
no_rule AddProp a items w = refl
no_rule RemoveProp a items w = refl
no_rule ParseMpi a items w = refl
no_rule _ a items w = refl
