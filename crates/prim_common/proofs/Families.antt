-- What the `apply` of a family answers, by the row that stands there for the primitive.
use Rattle.std.proofs.Common.{◌≡◌, ℕ, List, take, drop, Option, Result, Ok, Err, sym, ap, ◌∙◌, subst}
use Rattle.std.specs.Prelude.{is_some}
use Rattle.muf_model.specs.declared.fault.MufFault.{MufFault}
use Rattle.muf_model.specs.declared.prims.Primitive.{Primitive}
use Rattle.muf_model.specs.Datum.{Datum}
use Rattle.muf_model.specs.Prims.{is_usable}
use Rattle.muf_frame.specs.declared.fault.PrimFault.{PrimFault}
use Rattle.muf_frame.specs.declared.fault.PrimFault.TheVariants.{Fault}
use Rattle.muf_frame.specs.inner.Shown.{Shown, flat, locked_by}
use Rattle.muck_perm.specs.declared.guard.Guard.{Guard}
use Rattle.muck_perm.specs.inner.Guards.{world_of}
use Rattle.spec_prims.specs.Row.{WorldAnswer, WorldDoing, given_upon}
use Rattle.spec_prims.specs.Shared.{items_taken, first_fault, primitive_done, shared}
use Rattle.spec_prims.proofs.Fits.{Fits, IsFit}
use Rattle.prim_common.specs.inner.Applied.{Applied, Makes, Given, items_of, argued_of, does_of}
use Rattle.prim_common.specs.declared.made.Made.{Made}
use Rattle.prim_common.specs.inner.Tests.{Passes}
use Rattle.prim_common.proofs.Applying.{fails_first, gives_first, refused_so, made_fault, applied_given, applied_full, fits_of}

-- what a primitive makes of a frame and of the world that a guard lends
abbrev pub whole : Primitive → Option ℕ → Shown → Guard → WorldAnswer
whole p descr f g = shared p g.actor descr (locked_by (flat f).marks) (flat f).stack (world_of g)

-- the items that it takes
abbrev pub taken_of : Primitive → Shown → List Datum
taken_of p f = take (items_taken p (flat f).stack) (flat f).stack

-- the row stands for it, and the tests before it have answered
pub record Begun (p : Primitive) (row : Option WorldDoing) (descr : Option ℕ) (f : Shown) (g : Guard) (rule : Option MufFault) (r : Result ℕ MufFault) : Type 0 where
  pub stands : whole p descr f g ≡ primitive_done row p g.actor (locked_by (flat f).marks) (flat f).stack (world_of g)
  pub there : is_some row ≡ is_usable p
  pub fits : IsFit row
  pub same : rule ≡ argued_of row g.actor (taken_of p f) (world_of g)
  pub pass : Passes (first_fault p rule g.actor (locked_by (flat f).marks) (flat f).stack (world_of g)) r

module _ {p : Primitive} {row : Option WorldDoing} {descr : Option ℕ} {f : Shown} {g : Guard} {rule : Option MufFault} {r : Result ℕ MufFault} (b : Begun p row descr f g rule r) where
  -- a test fails
  pub untested : (h : MufFault) → r ≡ Err h → Applied (whole p descr f g) f f g g (Err (Fault h))
  untested h is = refused_so _ f g h (b.stands ∙ fails_first p rule g.actor (locked_by (flat f).marks) (flat f).stack (world_of g) row h r b.there b.same b.pass is)

  -- they pass, and so many items are taken
  module _ (n : ℕ) (passed : r ≡ Ok n) (count : n ≡ items_taken p (flat f).stack) where
    row_upon : whole p descr f g ≡ given_upon (drop n (flat f).stack) (does_of row g.actor (taken_of p f) (world_of g))
    row_upon =
        b.stands
        ∙ gives_first p rule g.actor (locked_by (flat f).marks) (flat f).stack (world_of g) row n r b.there b.same b.pass passed count
        ∙ ap (λ k. given_upon (drop n (flat f).stack) (does_of row g.actor (take k (flat f).stack) (world_of g))) count

    row_fits : Fits (take n (flat f).stack) (world_of g) (does_of row g.actor (taken_of p f) (world_of g))
    row_fits =
        subst (λ k. Fits (take k (flat f).stack) (world_of g) (does_of row g.actor (taken_of p f) (world_of g))) (sym count)
        (fits_of row g.actor (taken_of p f) (world_of g) b.fits)

    -- the row refuses, or memory is wanted
    pub unmade : (new : Guard) (h : PrimFault) (q : Result Made PrimFault) → Makes (does_of row g.actor (taken_of p f) (world_of g)) g new q → q ≡ Err h → Applied (whole p descr f g) f f g new (Err h)
    unmade new h q m was = made_fault _ _ _ f g new h q row_upon m was

    module _ (after : Shown) (new : Guard) (made : Made) (q : Result Made PrimFault) (x : Result (Unit {0}) MufFault)
        (m : Makes (does_of row g.actor (taken_of p f) (world_of g)) g new q) (was : q ≡ Ok made) (k : Given n (items_of made) f after x) where
      -- there is no room for what it gives
      pub unroomed : (h : MufFault) → x ≡ Err h → Applied (whole p descr f g) f after g new (Err (Fault h))
      unroomed h is = applied_full _ _ n f after g new made q x h row_upon row_fits m was k is

      -- it is given
      pub given : (u : Unit {0}) → x ≡ Ok u → Applied (whole p descr f g) f after g new (Ok u)
      given u is = applied_given _ _ n f after g new made q x u row_upon m was k is
