-- What may be used of a family has its row.
use Rattle.std.proofs.Common.{◌≡◌, ℕ, Option, refl}
use Rattle.std.specs.Prelude.{◌&&◌, is_some}
use Rattle.muf_model.specs.declared.prims.Primitive.{Primitive}
use Rattle.muf_model.specs.declared.prims.Primitive.TheVariants.{Name, Notify, NotifyExclude, IsAwake, Online, ConCount, ConDbref, Descriptors, Descr, ConBoot, GetProp, GetPropStr, GetPropVal, SetProp, AddProp, RemoveProp, NextProp, IsPropDir, EnvProp, EnvPropStr, ParseMpi}
use Rattle.muf_model.specs.Prims.{is_usable}
use Rattle.spec_prims.specs.ObjectRows.{object_row, is_object}
use Rattle.spec_prims.specs.PropRows.{property_row, is_property}
use Rattle.spec_prims.specs.Talk.{talk_row, is_talk}

pub talk_there : (descr : Option ℕ) (p : Primitive) → is_some (talk_row descr p) ≡ is_talk p && is_usable p
talk_there descr Notify = refl
talk_there descr NotifyExclude = refl
talk_there descr IsAwake = refl
talk_there descr Online = refl
talk_there descr ConCount = refl
talk_there descr ConDbref = refl
talk_there descr Descriptors = refl
talk_there descr Descr = refl
talk_there descr ConBoot = refl
talk_there descr _ = refl

pub object_there : (p : Primitive) → is_some (object_row p) ≡ is_object p && is_usable p
object_there Name = refl
object_there _ = refl

pub properties_there : (p : Primitive) → is_some (property_row p) ≡ is_property p && is_usable p
properties_there GetProp = refl
properties_there GetPropStr = refl
properties_there GetPropVal = refl
properties_there SetProp = refl
properties_there AddProp = refl
properties_there RemoveProp = refl
properties_there NextProp = refl
properties_there IsPropDir = refl
properties_there EnvProp = refl
properties_there EnvPropStr = refl
properties_there ParseMpi = refl
properties_there _ = refl
