-- The fault of the first test, by the needs of a primitive.
use Rattle.std.proofs.Common.{◌≡◌, ℕ, List, Option, Some, None, Err, refl, sym, ap, subst}
use Rattle.spec_live.specs.Lives.{Live}
use Rattle.spec_rights.specs.declared.act.Actor.{Actor}
use Rattle.muf_model.specs.declared.fault.MufFault.{MufFault}
use Rattle.muf_model.specs.declared.fault.MufFault.TheVariants.{NotCompiled}
use Rattle.muf_model.specs.declared.prims.Primitive.{Primitive}
use Rattle.muf_model.specs.Datum.{Datum}
use Rattle.muf_model.specs.Needs.{Needs}
use Rattle.muf_model.specs.Prims.{needs_of, primitive_level}
use Rattle.spec_prims.specs.Shared.{fault_by, first_fault}
use Rattle.prim_common.specs.inner.Tests.{Passes}

pub first_some : (p : Primitive) (needs : Needs) (argued : Option MufFault) (a : Actor) (locked : ℕ) (stack : List Datum) (w : Live) → needs_of p ≡ Some needs → fault_by (Some needs) (primitive_level p) argued a locked stack w ≡ first_fault p argued a locked stack w
unfolding first_fault
first_some p needs argued a locked stack w e = ap (λ (o : Option Needs). fault_by o (primitive_level p) argued a locked stack w) (sym e)

pub first_none : (X : Type 0) (p : Primitive) (argued : Option MufFault) (a : Actor) (locked : ℕ) (stack : List Datum) (w : Live) → needs_of p ≡ None → Passes {X = X} (first_fault p argued a locked stack w) (Err NotCompiled)
unfolding first_fault
first_none X p argued a locked stack w e =
    subst (λ (o : Option Needs). Passes {X = X} (fault_by o (primitive_level p) argued a locked stack w) (Err NotCompiled)) (sym e) refl
