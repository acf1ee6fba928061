-- The rows of the family, behind the tests.
use Rattle.std.proofs.Common.{◌≡◌, ℕ, List, take, drop, Option, None, Result, Ok, Err, sym, ap, ◌∙◌, subst}
use Rattle.std.specs.Prelude.{◌&&◌, is_some}
use Rattle.spec_live.specs.Lives.{Live}
use Rattle.spec_rights.specs.declared.act.Actor.{Actor}
use Rattle.muf_model.specs.declared.fault.MufFault.{MufFault}
use Rattle.muf_model.specs.declared.prims.Family.{Family}
use Rattle.muf_model.specs.declared.prims.Family.TheVariants.{Property}
use Rattle.muf_model.specs.declared.prims.Primitive.{Primitive}
use Rattle.muf_model.specs.Datum.{Datum}
use Rattle.muf_model.specs.Prims.{family_of, is_usable}
use Rattle.spec_prims.specs.Row.{refuses, given_upon}
use Rattle.spec_prims.specs.Shared.{items_taken, first_fault, doing_in, primitive_done, shared}
use Rattle.spec_prims.specs.PropRows.{property_row, is_property_family}
use Rattle.spec_prims.proofs.Fits.{Fits, fits_property}
use Rattle.spec_prims.proofs.There.{properties_there}
use Rattle.prim_common.specs.inner.Applied.{does_of}
use Rattle.prim_common.specs.inner.Tests.{Passes}
use Rattle.prim_common.proofs.Applying.{fails_first, gives_first, fits_of}
use Rattle.prim_prop.proofs.Missing.{no_rule}

shared_property : (p : Primitive) (a : Actor) (descr : Option ℕ) (locked : ℕ) (stack : List Datum) (w : Live) → family_of p ≡ Property → shared p a descr locked stack w ≡ primitive_done (property_row p) p a locked stack w
unfolding shared
shared_property p a descr locked stack w property = ap (λ (family : Family). primitive_done (doing_in descr family p) p a locked stack w) property

pub row_there : (p : Primitive) → family_of p ≡ Property → is_some (property_row p) ≡ is_usable p
row_there p property = properties_there p ∙ ap (λ (family : Family). is_property_family family && is_usable p) property

module _ (p : Primitive) (a : Actor) (descr : Option ℕ) (locked : ℕ) (stack : List Datum) (w : Live) (r : Result ℕ MufFault) (property : family_of p ≡ Property) (pass : Passes (first_fault p None a locked stack w) r) where
  pub refused_first : (h : MufFault) → r ≡ Err h → shared p a descr locked stack w ≡ refuses h
  refused_first h is =
      shared_property p a descr locked stack w property
      ∙ fails_first p None a locked stack w (property_row p) h r (row_there p property) (no_rule p a (take (items_taken p stack) stack) w) pass is

  pub row_first : (n : ℕ) → r ≡ Ok n → n ≡ items_taken p stack → shared p a descr locked stack w ≡ given_upon (drop n stack) (does_of (property_row p) a (take (items_taken p stack) stack) w)
  row_first n is count =
      shared_property p a descr locked stack w property
      ∙ gives_first p None a locked stack w (property_row p) n r (row_there p property) (no_rule p a (take (items_taken p stack) stack) w) pass is count
      ∙ ap (λ k. given_upon (drop n stack) (does_of (property_row p) a (take k stack) w)) count

pub row_fits : (p : Primitive) (a : Actor) (stack : List Datum) (w : Live) (n : ℕ) → n ≡ items_taken p stack → Fits (take n stack) w (does_of (property_row p) a (take (items_taken p stack) stack) w)
row_fits p a stack w n count =
    subst (λ k. Fits (take k stack) w (does_of (property_row p) a (take (items_taken p stack) stack) w)) (sym count)
    (fits_of (property_row p) a (take (items_taken p stack) stack) w (fits_property p))
