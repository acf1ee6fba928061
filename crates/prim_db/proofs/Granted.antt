-- A change by leave, as its row has it.
use Rattle.std.proofs.Common.{◌≡◌, ◌⊎◌, inl, inr, ℕ, Bool, true, false, cond, List, [], ◌∷◌, codes, Option, Some, None, Ok, Err, refl, sym, ap, subst, ◌∙◌}
use Rattle.std.specs.Prelude.{Result}
use Rattle.muck_model.specs.declared.dbref.Dbref.{Dbref}
use Rattle.muck_prop.specs.declared.value.PropValue.TheVariants.{Text}
use Rattle.muck_lock.specs.Grammar.{lock_of}
use Rattle.spec_live.specs.declared.fault.DbFault.{DbFault}
use Rattle.spec_live.specs.declared.fault.DbFault.TheVariants.{NoMemory as WantsMemory, WorldFull as NoRoom}
use Rattle.spec_live.specs.Making.{create_check}
use Rattle.spec_live.specs.Lives.{Change}
use Rattle.spec_rights.specs.declared.act.Act.{Act}
use Rattle.spec_rights.specs.declared.act.Act.TheVariants.{Change as ChangeAct}
use Rattle.spec_rights.specs.Changing.{property_stored}
use Rattle.spec_rights.specs.Verdict.{verdict}
use Rattle.spec_commands.specs.declared.new.New.{New}
use Rattle.spec_commands.specs.Building.{act_in, is_still_there, key_names, kind_made, may_be}
use Rattle.spec_commands.specs.Finding.{message_path}
use Rattle.muf_model.specs.declared.fault.MufFault.{MufFault}
use Rattle.muf_model.specs.declared.fault.MufFault.TheVariants.{BadArgument, WorldFull}
use Rattle.muf_model.specs.declared.value.Value.{Value}
use Rattle.muf_model.specs.declared.value.Value.TheVariants.{Ref}
use Rattle.muf_model.specs.StackRows.{truth_item}
use Rattle.muf_model.specs.inner.View.{view}
use Rattle.muf_frame.specs.declared.fault.PrimFault.{PrimFault}
use Rattle.muf_frame.specs.declared.fault.PrimFault.TheVariants.{Fault, NoMemory}
use Rattle.muck_perm.specs.declared.guard.Guard.{Guard}
use Rattle.muck_perm.specs.inner.Guards.{Done, Founds, objects_of, world_of}
use Rattle.muck_perm.proofs.Worlds.{same_as}
use Rattle.spec_prims.specs.Asking.{fault_of_denial}
use Rattle.spec_prims.specs.Row.{WorldAnswer, gives, refuses, row_unless}
use Rattle.spec_prims.specs.ObjectWrites.{changed_with_leave, given_made, key_kept_of, lock_put, locked_by, made_so, new_made}
use Rattle.prim_common.specs.inner.Applied.{Makes}
use Rattle.prim_common.specs.declared.made.Made.{Made}
use Rattle.prim_common.specs.declared.made.Made.TheVariants.{Nothing, One}
use Rattle.prim_common.proofs.Applying.{wants}
use Rattle.prim_db.specs.inner.Changed.{IsMade, Leaves}

pub wants_made : (row : WorldAnswer) (old new : Guard) → new ≡ old → Makes row old new (Err NoMemory)
wants_made row old new e = wants row old new (same_as old new e)

-- a test before a row

pub passes_before : (o : Option MufFault) (row : WorldAnswer) (old new : Guard) (result : Result Made PrimFault) → o ≡ None → Makes row old new result → Makes (row_unless o row) old new result
passes_before None row old new result e h = h
passes_before (Some f) row old new result e h = absurd cc

pub fails_before : (o : Option MufFault) (row : WorldAnswer) (old new : Guard) (e : MufFault) → o ≡ Some e → new ≡ old → Makes (row_unless o row) old new (Err (Fault e))
fails_before o row old new e h same = subst (λ o. Makes (row_unless o row) old new (Err (Fault e))) (sym h) (refl, same)

pub ruleset before = (passes_before, fails_before)

-- leave that isn't given

denied_before : (act : Act) (row : WorldAnswer) (old new : Guard) (e : PrimFault) → new ≡ old → Leaves act old (Err e) → Makes (row_unless (fault_of_denial (verdict (objects_of old) old.actor act)) row) old new (Err e)
denied_before act row old new (Fault f) same h = fails_before _ row old new f h same
denied_before act row old new NoMemory same h = absurd h

given_before : (act : Act) (row : WorldAnswer) (old new : Guard) (result : Result Made PrimFault) → verdict (objects_of old) old.actor act ≡ None → Makes row old new result →
    Makes (row_unless (fault_of_denial (verdict (objects_of old) old.actor act)) row) old new result
given_before act row old new result v h = passes_before _ row old new result (ap fault_of_denial v) h

where_true : (may : Bool) (row other : WorldAnswer) (old new : Guard) (result : Result Made PrimFault) → may ≡ true → Makes row old new result → Makes (cond may row other) old new result
where_true true row other old new result e h = h
where_true false row other old new result e h = absurd cc

where_false : (may : Bool) (row other : WorldAnswer) (old new : Guard) (result : Result Made PrimFault) → may ≡ false → Makes other old new result → Makes (cond may row other) old new result
where_false false row other old new result e h = h
where_false true row other old new result e h = absurd cc

-- a write

module _ (act : Act) (may : Bool) (f : Change) (old new : Guard) where
  abbrev row : WorldAnswer
  row = changed_with_leave old.actor act may f (world_of old)

  pub denied_made : (e : PrimFault) → new ≡ old → Leaves act old (Err e) → Makes row old new (Err e)
  unfolding changed_with_leave
  denied_made e same h = denied_before act (cond may (gives [] (f (world_of old))) (refuses BadArgument)) old new e same h

  pub done_made : verdict (objects_of old) old.actor act ≡ None → may ≡ true → Done f old new → Makes row old new (Ok Nothing)
  unfolding changed_with_leave
  done_made v m h = given_before act _ old new (Ok Nothing) v (where_true may (gives [] (f (world_of old))) (refuses BadArgument) old new (Ok Nothing) m (refl, h.0, h.1))

  pub refused_made : verdict (objects_of old) old.actor act ≡ None → may ≡ false → new ≡ old → Makes row old new (Err (Fault BadArgument))
  unfolding changed_with_leave
  refused_made v m same = given_before act _ old new (Err (Fault BadArgument)) v (where_false may (gives [] (f (world_of old))) (refuses BadArgument) old new (Err (Fault BadArgument)) m (refl, same))

pub ruleset changing = (wants_made, denied_made, done_made, refused_made)

-- a lock

module _ (x : Dbref) (printed : List ℕ) (old new : Guard) where
  abbrev kept : WorldAnswer
  kept = gives (truth_item true ∷ []) (property_stored x (message_path (codes "lok")) (Text printed) (world_of old))

  pub done_kept : (path : List (List ℕ)) (v : Value) → is_still_there x (world_of old) ≡ true → path ≡ message_path (codes "lok") → Done (property_stored x path (Text printed)) old new → view v ≡ truth_item true → Makes (lock_put x (Some printed) (world_of old)) old new (Ok (One v))
  done_kept path v m e h t =
      where_true (is_still_there x (world_of old)) kept (refuses BadArgument) old new (Ok (One v)) m
      (ap (λ item. item ∷ []) t, h.0 ∙ ap (λ place. property_stored x place (Text printed) (world_of old)) e, h.1)

  pub refused_kept : is_still_there x (world_of old) ≡ false → new ≡ old → Makes (lock_put x (Some printed) (world_of old)) old new (Err (Fault BadArgument))
  refused_kept m same = where_false (is_still_there x (world_of old)) kept (refuses BadArgument) old new (Err (Fault BadArgument)) m (refl, same)

pub ruleset keeping = (wants_made, done_kept, refused_kept)

module _ (x : Dbref) (t : List ℕ) (old new : Guard) where
  abbrev locking_row : WorldAnswer
  locking_row = locked_by old.actor x t (world_of old)

  abbrev read_row : WorldAnswer
  read_row = key_kept_of x (lock_of (key_names (world_of old) old.actor.player) t) (world_of old)

  pub denied_locking : (e : PrimFault) → new ≡ old → Leaves (ChangeAct x) old (Err e) → Makes locking_row old new (Err e)
  unfolding locked_by
  denied_locking e same h = denied_before (ChangeAct x) read_row old new e same h

  pub done_locking : (result : Result Made PrimFault) → verdict (objects_of old) old.actor (ChangeAct x) ≡ None → Makes read_row old new result → Makes locking_row old new result
  unfolding locked_by
  done_locking result v h = given_before (ChangeAct x) read_row old new result v h

pub ruleset locking = (wants_made, denied_locking, done_locking)

-- what is made

why_none : (change : ℕ → ℕ → Change) (fault found : DbFault) (old new : Guard) (result : Result Made PrimFault) → ((found ≡ fault) ⊎ (found ≡ WantsMemory)) → new ≡ old → IsMade (Err found) result →
    Makes (given_made (Err fault) change (world_of old)) old new result
why_none change fault found old new result (inr e) same h =
    let none : result ≡ Err NoMemory = subst (λ (x : DbFault). IsMade (Err x) result) e h in
    subst (λ r. Makes (given_made (Err fault) change (world_of old)) old new r) (sym none) (wants_made (given_made (Err fault) change (world_of old)) old new same)
why_none change fault found old new result (inl e) same h = at fault (subst (λ (x : DbFault). IsMade (Err x) result) e h)
  where
    at : (fault : DbFault) → IsMade (Err fault) result → Makes (given_made (Err fault) change (world_of old)) old new result
    at WantsMemory k = subst (λ r. Makes (refuses BadArgument) old new r) (sym k) (wants_made (refuses BadArgument) old new same)
    at NoRoom k = subst (λ r. Makes (refuses WorldFull) old new r) (sym k) (refl, same)
    at _ k = subst (λ r. Makes (refuses BadArgument) old new r) (sym k) (refl, same)

pub number_given : (check : Result (ℕ × ℕ) DbFault) (change : ℕ → ℕ → Change) (old new : Guard) (made : Result Dbref DbFault) (result : Result Made PrimFault) → Founds check change old new made → IsMade made result →
    Makes (given_made check change (world_of old)) old new result
number_given (Ok p) change old new (Ok object) result f h =
    subst (λ r. Makes (given_made (Ok p) change (world_of old)) old new r) (sym h) (ap (λ (d : Dbref). view (Ref d) ∷ []) f.0, f.1.0, f.1.1)
number_given (Ok p) change old new (Err found) result f h =
    let none : result ≡ Err NoMemory = subst (λ (x : DbFault). IsMade (Err x) result) f.0 h in
    subst (λ r. Makes (given_made (Ok p) change (world_of old)) old new r) (sym none) (wants_made (given_made (Ok p) change (world_of old)) old new f.1)
number_given (Err fault) change old new (Ok object) result f h = absurd f
number_given (Err fault) change old new (Err found) result f h = why_none change fault found old new result f.0 f.1 h

module _ (new : New) (name : List ℕ) (place : Dbref) (old now : Guard) where
  abbrev making : WorldAnswer
  making = new_made old.actor new name place (world_of old)

  abbrev made : WorldAnswer
  made = given_made (create_check (kind_made new) old.actor.user place (objects_of old)) (made_so new name old.actor.user) (world_of old)

  pub denied_making : (e : PrimFault) → now ≡ old → Leaves (act_in place new) old (Err e) → Makes making old now (Err e)
  unfolding new_made
  denied_making e same h = denied_before (act_in place new) (cond (may_be new (world_of old)) made (refuses BadArgument)) old now e same h

  pub done_making : (result : Result Made PrimFault) → verdict (objects_of old) old.actor (act_in place new) ≡ None → may_be new (world_of old) ≡ true → Makes made old now result → Makes making old now result
  unfolding new_made
  done_making result v m h = given_before (act_in place new) _ old now result v (where_true (may_be new (world_of old)) made (refuses BadArgument) old now result m h)

  pub refused_making : verdict (objects_of old) old.actor (act_in place new) ≡ None → may_be new (world_of old) ≡ false → now ≡ old → Makes making old now (Err (Fault BadArgument))
  unfolding new_made
  refused_making v m same = given_before (act_in place new) _ old now (Err (Fault BadArgument)) v (where_false (may_be new (world_of old)) made (refuses BadArgument) old now (Err (Fault BadArgument)) m (refl, same))

pub ruleset creating = (wants_made, denied_making, done_making, refused_making)
