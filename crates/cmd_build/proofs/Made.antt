-- What a maker does, and what is told of it.
use Rattle.std.proofs.Common.{◌≡◌, ℕ, List, Result, Ok, Err, subst}
use Rattle.muck_model.specs.declared.dbref.Dbref.{Dbref}
use Rattle.muck_model.specs.declared.dbref.Kind.{Kind}
use Rattle.muck_model.specs.declared.memory.NoMemory.{NoMemory}
use Rattle.spec_live.specs.declared.fault.DbFault.{DbFault}
use Rattle.spec_live.specs.declared.fault.DbFault.TheVariants.{NoMemory as WantsMemory}
use Rattle.spec_live.specs.declared.object.Object.{Object}
use Rattle.spec_live.specs.Making.{create_check}
use Rattle.spec_live.specs.Lives.{Change, ◌▸◌, reading, tell}
use Rattle.spec_rights.specs.declared.act.Actor.{Actor}
use Rattle.spec_rights.specs.Levels.{dbref_number}
use Rattle.spec_rights.specs.Changing.{created_so}
use Rattle.spec_commands.specs.Replies.{cant_be_done}
use Rattle.spec_commands.specs.Building.{made_at, created_shown, making}
use Rattle.muck_perm.specs.declared.guard.Guard.{Guard}
use Rattle.muck_perm.specs.inner.Guards.{Did, Founds, objects_of}
use Rattle.muck_perm.proofs.Worlds.{did_both}
use Rattle.cmd_build.specs.inner.Told.{IsTold}
use Rattle.cmd_common.proofs.Doing.{wanted}

-- that the world refused it
refused : (d : ℕ) (old mid new : Guard) (fault : DbFault) (result : Result (Unit {0}) NoMemory) → mid ≡ old → IsTold d (Err fault) mid new result → Did (tell d cant_be_done) old new result
refused d old mid new WantsMemory result e t = wanted (tell d cant_be_done) old mid new result e t
refused d old mid new _ result e t = let P : Guard → Type 0 = λ g. Did (tell d cant_be_done) g new result in subst P e t

told : (change : ℕ → ℕ → Change) (check : Result (ℕ × ℕ) DbFault) (d : ℕ) (old mid new : Guard) (made : Result Dbref DbFault) (result : Result (Unit {0}) NoMemory)
    → Founds check change old mid made → IsTold d made mid new result → Did (made_at check (λ n to. change n to ▸ created_shown d n) (tell d cant_be_done)) old new result
told change (Ok p) d old mid new (Ok x) result f t =
    let P : Dbref → Type 0 = λ z. Did (created_shown d (dbref_number z)) mid new result in
    did_both (change p.0 p.1) (created_shown d p.0) old mid new result f.1 (subst P f.0 t)
told change (Ok p) d old mid new (Err fault) result f t =
    let P : DbFault → Type 0 = λ z. IsTold d (Err z) mid new result in
    wanted (change p.0 p.1 ▸ created_shown d p.0) old mid new result f.1 (subst P f.0 t)
told change (Err fault) d old mid new (Ok x) result f t = absurd f
told change (Err fault) d old mid new (Err found) result f t = refused d old mid new found result f.1 t

pub told_making : (d : ℕ) (a : Actor) (kind : Kind) (name : List ℕ) (place : Dbref) (f : Object → Object) (old mid new : Guard) (made : Result Dbref DbFault) (result : Result (Unit {0}) NoMemory)
    → Founds (create_check kind a.user place (objects_of old)) (λ n to. created_so n kind name a.user to f) old mid made → IsTold d made mid new result → Did (making d a kind name place f) old new result
unfolding making reading
told_making d a kind name place f old mid new made (Ok u) h t = told (λ n to. created_so n kind name a.user to f) (create_check kind a.user place (objects_of old)) d old mid new made (Ok u) h t
told_making d a kind name place f old mid new made (Err e) h t = told (λ n to. created_so n kind name a.user to f) (create_check kind a.user place (objects_of old)) d old mid new made (Err e) h t
