-- What is set of an object.
use Rattle.std.specs.Prelude.{◌≡◌, ℕ, false, List, Result, Ok, Err}
use Rattle.spec_live.specs.declared.object.Object.{Object}
use Rattle.spec_live.specs.declared.fault.DbFault.{DbFault}
use Rattle.spec_live.specs.Objects.{Entry, is_garbage, kind_in}
use Rattle.spec_live.specs.Setting.{set_at, with_name, with_owner, with_link, with_home, with_flags, with_level}
use Rattle.spec_live.specs.Consistent.{IsConsistent}
use Rattle.muck_db.specs.declared.setting.Setting.{Setting}
use Rattle.muck_db.specs.declared.setting.Setting.TheVariants.{Name, Owner, Link, Home, Flags, Level, Digest}
use Rattle.muck_db.specs.inner.Slots.{with_digest}
use Rattle.muck_db.specs.inner.Limits.{IsWithinLimits}

abbrev pub with_setting : Setting → Object → Object
with_setting (Name name) = with_name name
with_setting (Owner owner) = with_owner owner
with_setting (Link to) = with_link to
with_setting (Home to) = with_home to
with_setting (Flags flags) = with_flags flags
with_setting (Level level) = with_level level
with_setting (Digest digest) = with_digest digest

-- an object that is there and may be changed so
pub record CanSet (f : Object → Object) (n : ℕ) (es : List Entry) : Type 0 where
  pub alive : is_garbage (kind_in es n) ≡ false
  pub world : IsConsistent (set_at f n es)
  pub limits : IsWithinLimits (set_at f n es)

-- the object that was found may be changed so
abbrev pub MaySet : Result ℕ DbFault → (Object → Object) → List Entry → Type 0
MaySet (Ok n) f es = CanSet f n es
MaySet (Err fault) f es = Unit {0}
