-- A formula touches notes alone, whether it gives its value or breaks off.
use Rattle.std.proofs.Common.{◌≡◌, ℕ, true, Option, Result, Ok, Err, refl, sym, subst}
use Rattle.spec_live.specs.Lives.{Live}
use Rattle.spec_live.proofs.Tracing.{traced_itself}
use Rattle.spec_mpi.specs.Touching.{TouchesNotes}
use Rattle.muf_model.specs.declared.prims.Primitive.{Primitive}
use Rattle.muf_frame.specs.declared.fault.PrimFault.{PrimFault}
use Rattle.muf_frame.specs.declared.fault.PrimFault.TheVariants.{Fault, NoMemory}
use Rattle.muf_frame.specs.inner.Shown.{Shown, flat, locked_by}
use Rattle.muck_perm.specs.declared.guard.Guard.{Guard}
use Rattle.muck_perm.specs.inner.Guards.{world_of}
use Rattle.spec_prims.specs.Row.{WorldAnswer, gives, refuses, breaks}
use Rattle.spec_prims.specs.Formulas.{is_formula}
use Rattle.spec_prims.proofs.Opens.{formula_is}
use Rattle.spec_prims.proofs.Touches.{RowTouches, formula_touches}
use Rattle.prim_common.specs.inner.Applied.{Applied, OnAnswer}
use Rattle.prim_common.proofs.Families.{whole}

touches_itself : (w : Live) → TouchesNotes w w
touches_itself w = record { objects = refl; traced = traced_itself w.objects; connections = refl; tune = refl }

module _ (f g : Shown) (old new : Guard) where
  row_touches : (row : WorldAnswer) (r : Result (Unit {0}) PrimFault) → RowTouches (world_of old) row → Applied row f g old new r → OnAnswer r (TouchesNotes (world_of old) (world_of new))
  row_touches (gives stack w) (Ok x) notes h = subst (TouchesNotes (world_of old)) (sym h.1) notes
  row_touches (gives stack w) (Err (Fault k)) notes h = absurd h
  row_touches (refuses e) (Ok x) notes h = absurd h
  row_touches (refuses e) (Err (Fault k)) notes h = subst (TouchesNotes (world_of old)) (sym h.2.0) (touches_itself (world_of old))
  row_touches (breaks e w) (Ok x) notes h = absurd h
  row_touches (breaks e w) (Err (Fault k)) notes h = subst (TouchesNotes (world_of old)) (sym h.2) notes
  row_touches row (Err NoMemory) notes h = tt

  pub formula_notes : (p : Primitive) (descr : Option ℕ) (r : Result (Unit {0}) PrimFault) → Applied (whole p descr f old) f g old new r → is_formula p ≡ true → OnAnswer r (TouchesNotes (world_of old) (world_of new))
  formula_notes p descr r h is =
      row_touches (whole p descr f old) r
      (subst (λ (q : Primitive). RowTouches (world_of old) (whole q descr f old)) (sym (formula_is p is)) (formula_touches old.actor descr (locked_by (flat f).marks) (flat f).stack (world_of old))) h
