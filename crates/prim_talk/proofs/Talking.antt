-- The rows of the family, behind the tests.
use Rattle.std.proofs.Common.{◌≡◌, ℕ, false, List, take, drop, Option, Result, Ok, Err, refl, sym, ap, ◌∙◌, subst}
use Rattle.std.specs.Prelude.{◌&&◌, is_some}
use Rattle.spec_live.specs.Lives.{Live}
use Rattle.spec_rights.specs.declared.act.Actor.{Actor}
use Rattle.muf_model.specs.declared.fault.MufFault.{MufFault}
use Rattle.muf_model.specs.declared.prims.Family.{Family}
use Rattle.muf_model.specs.declared.prims.Family.TheVariants.{Talk}
use Rattle.muf_model.specs.declared.prims.Primitive.{Primitive}
use Rattle.muf_model.specs.declared.prims.Primitive.TheVariants.{ParseMpi}
use Rattle.muf_model.specs.Datum.{Datum}
use Rattle.muf_model.specs.Prims.{family_of, is_usable}
use Rattle.spec_prims.specs.Row.{refuses, given_upon}
use Rattle.spec_prims.specs.Formulas.{is_formula}
use Rattle.spec_prims.specs.Shared.{items_taken, first_fault, doing_in, primitive_done, shared}
use Rattle.spec_prims.specs.Talk.{talk_row, is_talk_family}
use Rattle.spec_prims.proofs.Fits.{Fits, fits_talk}
use Rattle.spec_prims.proofs.There.{talk_there}
use Rattle.prim_common.specs.inner.Applied.{argued_of, does_of}
use Rattle.prim_common.specs.inner.Tests.{Passes}
use Rattle.prim_common.proofs.Applying.{fails_first, gives_first, fits_of}

shared_talk : (p : Primitive) (a : Actor) (descr : Option ℕ) (locked : ℕ) (stack : List Datum) (w : Live) → family_of p ≡ Talk → shared p a descr locked stack w ≡ primitive_done (talk_row descr p) p a locked stack w
unfolding shared
shared_talk p a descr locked stack w talk = ap (λ (family : Family). primitive_done (doing_in descr family p) p a locked stack w) talk

pub row_there : (descr : Option ℕ) (p : Primitive) → family_of p ≡ Talk → is_some (talk_row descr p) ≡ is_usable p
row_there descr p talk = talk_there descr p ∙ ap (λ (family : Family). is_talk_family family && is_usable p) talk

-- none of them is a formula
pub no_formula : (p : Primitive) → family_of p ≡ Talk → is_formula p ≡ false
no_formula ParseMpi talk = absurd cc
no_formula _ talk = refl

module _ (p : Primitive) (a : Actor) (descr : Option ℕ) (locked : ℕ) (stack : List Datum) (w : Live) (argued : Option MufFault) (r : Result ℕ MufFault) (talk : family_of p ≡ Talk)
    (same : (d : Option ℕ) → argued ≡ argued_of (talk_row d p) a (take (items_taken p stack) stack) w) (pass : Passes (first_fault p argued a locked stack w) r) where
  pub refused_first : (h : MufFault) → r ≡ Err h → shared p a descr locked stack w ≡ refuses h
  refused_first h is =
      shared_talk p a descr locked stack w talk
      ∙ fails_first p argued a locked stack w (talk_row descr p) h r (row_there descr p talk) (same descr) pass is

  pub row_first : (n : ℕ) → r ≡ Ok n → n ≡ items_taken p stack → shared p a descr locked stack w ≡ given_upon (drop n stack) (does_of (talk_row descr p) a (take (items_taken p stack) stack) w)
  row_first n is count =
      shared_talk p a descr locked stack w talk
      ∙ gives_first p argued a locked stack w (talk_row descr p) n r (row_there descr p talk) (same descr) pass is count
      ∙ ap (λ k. given_upon (drop n stack) (does_of (talk_row descr p) a (take k stack) w)) count

pub row_fits : (p : Primitive) (a : Actor) (descr : Option ℕ) (stack : List Datum) (w : Live) (n : ℕ) → n ≡ items_taken p stack → Fits (take n stack) w (does_of (talk_row descr p) a (take (items_taken p stack) stack) w)
row_fits p a descr stack w n count =
    subst (λ k. Fits (take k stack) w (does_of (talk_row descr p) a (take (items_taken p stack) stack) w)) (sym count)
    (fits_of (talk_row descr p) a (take (items_taken p stack) stack) w (fits_talk descr p))
