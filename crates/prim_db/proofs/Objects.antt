-- The rows of the family.
use Rattle.std.proofs.Common.{◌≡◌, ℕ, false, List, [], ◌∷◌, Option, Some, None, Ok, Err, refl, sym, ap, subst, ◌∙◌}
use Rattle.std.specs.Prelude.{◌&&◌, is_some, option_map, Result}
use Rattle.std.specs.Option.{option_or}
use Rattle.spec_live.specs.Lives.{Live}
use Rattle.spec_rights.specs.declared.act.Actor.{Actor}
use Rattle.muf_model.specs.declared.fault.MufFault.{MufFault}
use Rattle.muf_model.specs.declared.prims.Family.{Family}
use Rattle.muf_model.specs.declared.prims.Family.TheVariants.{Object}
use Rattle.muf_model.specs.declared.prims.Primitive.{Primitive}
use Rattle.muf_model.specs.declared.prims.Primitive.TheVariants.{MoveTo, SetLink, SetOwn, Recycle, SetName, Set, SetLockStr, NewRoom, NewObject, NewExit, ParseMpi}
use Rattle.muf_model.specs.declared.value.Value.{Value}
use Rattle.muf_model.specs.Datum.{Datum}
use Rattle.muf_model.specs.Prims.{family_of, is_usable}
use Rattle.muf_frame.specs.declared.fault.PrimFault.{PrimFault}
use Rattle.muf_frame.specs.declared.fault.PrimFault.TheVariants.{Fault, NoMemory}
use Rattle.muf_frame.specs.inner.Shown.{Shown, flat, locked_by}
use Rattle.muck_perm.specs.declared.guard.Guard.{Guard}
use Rattle.muck_perm.specs.inner.Guards.{objects_of, world_of}
use Rattle.muck_perm.proofs.Worlds.{kept_itself}
use Rattle.spec_prims.specs.Row.{WorldAnswer, WorldDoing}
use Rattle.spec_prims.specs.Formulas.{is_formula}
use Rattle.spec_prims.specs.ObjectRows.{Finding, finding_of, finds, given as given_row, object_row, is_object_family}
use Rattle.spec_prims.specs.Shared.{first_fault, doing_in, primitive_done, shared}
use Rattle.spec_prims.specs.ObjectWrites.{writing_row}
use Rattle.spec_prims.proofs.Fits.{fits_object}
use Rattle.spec_prims.proofs.There.{object_there}
use Rattle.prim_common.specs.inner.Applied.{Makes, argued_of, does_of}
use Rattle.prim_common.specs.declared.made.Made.TheVariants.{One}
use Rattle.prim_common.specs.inner.Tests.{Passes}
use Rattle.prim_common.proofs.Families.{Begun, taken_of}
use Rattle.prim_db.proofs.Rules.{no_writing}
use Rattle.prim_db.specs.inner.Found.{Finds, found_in, found_with}

shared_object : (p : Primitive) (a : Actor) (descr : Option ℕ) (locked : ℕ) (stack : List Datum) (w : Live) → family_of p ≡ Object → shared p a descr locked stack w ≡ primitive_done (object_row p) p a locked stack w
unfolding shared
shared_object p a descr locked stack w object = ap (λ (family : Family). primitive_done (doing_in descr family p) p a locked stack w) object

pub row_there : (p : Primitive) → family_of p ≡ Object → is_some (object_row p) ≡ is_usable p
row_there p object = object_there p ∙ ap (λ (family : Family). is_object_family family && is_usable p) object

-- none of them is a formula
pub no_formula : (p : Primitive) → family_of p ≡ Object → is_formula p ≡ false
no_formula ParseMpi object = absurd cc
no_formula _ object = refl

-- a test's answer and the row behind it
pub begun : (p : Primitive) (descr : Option ℕ) (f : Shown) (g : Guard) (rule : Option MufFault) (r : Result ℕ MufFault) → family_of p ≡ Object → rule ≡ argued_of (object_row p) g.actor (taken_of p f) (world_of g) → Passes (first_fault p rule g.actor (locked_by (flat f).marks) (flat f).stack (world_of g)) r → Begun p (object_row p) descr f g rule r
begun p descr f g rule r object same pass = record {
  stands = shared_object p g.actor descr (locked_by (flat f).marks) (flat f).stack (world_of g) object;
  there = row_there p object;
  fits = fits_object p;
  same = same;
  pass = pass;
}

-- it gives what it finds
does_by : (p : Primitive) (o : Option Finding) (r : Option WorldDoing) (a : Actor) (items : List Datum) (w : Live) → r ≡ None → does_of (option_or (option_map (finds p) o) r) a items w ≡ given_row w (found_with o a w.objects items)
does_by p None None a items w e = refl
does_by p None (Some doing) a items w e = absurd cc
does_by p (Some find) r a items w e = refl

item_made : (found : Result Datum MufFault) (g : Guard) (v : Value) → Finds found (Ok v) → Makes (given_row (world_of g) found) g g (Ok (One v))
item_made (Ok item) g v h = (ap (λ x. x ∷ []) h, refl, kept_itself g)
item_made (Err f) g v h = absurd h

none_made : (found : Result Datum MufFault) (g : Guard) (f : PrimFault) → Finds found (Err f) → Makes (given_row (world_of g) found) g g (Err f)
none_made (Ok item) g (Fault f) h = absurd h
none_made (Ok item) g NoMemory h = (refl, refl)
none_made (Err e) g (Fault f) h = (h, refl)
none_made (Err e) g NoMemory h = (refl, refl)

module _ (p : Primitive) (g : Guard) (items : List Datum) (a : p ≡ MoveTo → ⊥) (b : p ≡ SetLink → ⊥) (c : p ≡ SetOwn → ⊥) (d : p ≡ Recycle → ⊥) (e : p ≡ SetName → ⊥) (f : p ≡ NewRoom → ⊥) (h : p ≡ NewObject → ⊥) (k : p ≡ NewExit → ⊥) (m : p ≡ Set → ⊥) (n : p ≡ SetLockStr → ⊥) where
  abbrev row : WorldAnswer
  row = does_of (object_row p) g.actor items (world_of g)

  row_is : row ≡ given_row (world_of g) (found_in p g.actor (objects_of g) items)
  row_is = does_by p (finding_of p) (writing_row p) g.actor items (world_of g) (no_writing p a b c d e f h k m n)

  pub makes_item : (v : Value) → Finds (found_in p g.actor (objects_of g) items) (Ok v) → Makes row g g (Ok (One v))
  makes_item v l = subst (λ row. Makes row g g (Ok (One v))) (sym row_is) (item_made _ g v l)

  pub makes_none : (r : PrimFault) → Finds (found_in p g.actor (objects_of g) items) (Err r) → Makes row g g (Err r)
  makes_none r l = subst (λ row. Makes row g g (Err r)) (sym row_is) (none_made _ g r l)

pub ruleset making = (makes_item, makes_none)
