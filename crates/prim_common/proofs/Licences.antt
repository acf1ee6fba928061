-- What a row makes of the world is open to who answers for it, whether the primitive is used or refused.
use Rattle.std.proofs.Common.{◌≡◌, ℕ, false, Option, Result, Ok, Err, sym, subst}
use Rattle.std.proofs.lemmas.Bool.{cond-false}
use Rattle.spec_rights.specs.declared.act.Actor.{Actor}
use Rattle.spec_rights.specs.Licence.{Licensed, nobody}
use Rattle.muf_model.specs.declared.prims.Primitive.{Primitive}
use Rattle.muf_frame.specs.declared.fault.PrimFault.{PrimFault}
use Rattle.muf_frame.specs.declared.fault.PrimFault.TheVariants.{Fault, NoMemory}
use Rattle.muf_frame.specs.inner.Shown.{Shown, flat, locked_by}
use Rattle.muck_perm.specs.declared.guard.Guard.{Guard}
use Rattle.muck_perm.specs.inner.Guards.{objects_of, world_of}
use Rattle.spec_prims.specs.Row.{WorldAnswer, gives, refuses, breaks}
use Rattle.spec_prims.specs.Formulas.{is_formula, answers_for}
use Rattle.spec_prims.proofs.Opens.{RowOpen, same_open, shared_open}
use Rattle.prim_common.specs.inner.Applied.{Applied, OnAnswer}
use Rattle.prim_common.proofs.Families.{whole}

module _ (f g : Shown) (old new : Guard) where
  -- of a row that is open to an actor
  row_licensed : (a : Actor) (row : WorldAnswer) (r : Result (Unit {0}) PrimFault) → RowOpen a (world_of old) row → Applied row f g old new r → OnAnswer r (Licensed a nobody (world_of old) (world_of new))
  row_licensed a (gives stack w) (Ok x) may h = subst (Licensed a nobody (world_of old)) (sym h.1) may.licensed
  row_licensed a (gives stack w) (Err (Fault k)) may h = absurd h
  row_licensed a (refuses e) (Ok x) may h = absurd h
  row_licensed a (refuses e) (Err (Fault k)) may h = subst (Licensed a nobody (world_of old)) (sym h.2.0) (same_open a (world_of old)).licensed
  row_licensed a (breaks e w) (Ok x) may h = absurd h
  row_licensed a (breaks e w) (Err (Fault k)) may h = subst (Licensed a nobody (world_of old)) (sym h.2) may.0.licensed
  row_licensed a row (Err NoMemory) may h = tt

  module _ (p : Primitive) (descr : Option ℕ) (r : Result (Unit {0}) PrimFault) (h : Applied (whole p descr f old) f g old new r) where
    -- of any primitive
    pub used_licensed : OnAnswer r (Licensed (answers_for p old.actor (objects_of old)) nobody (world_of old) (world_of new))
    used_licensed = row_licensed (answers_for p old.actor (objects_of old)) (whole p descr f old) r (shared_open p old.actor descr (locked_by (flat f).marks) (flat f).stack (world_of old)) h

    -- of all but formulas who acts answers
    pub actor_licensed : is_formula p ≡ false → OnAnswer r (Licensed old.actor nobody (world_of old) (world_of new))
    actor_licensed other = subst (λ (a : Actor). OnAnswer r (Licensed a nobody (world_of old) (world_of new))) (cond-false _ _ _ other) used_licensed
