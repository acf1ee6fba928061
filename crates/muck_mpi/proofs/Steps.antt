-- What a deed comes to at each of its returns.
use Rattle.std.proofs.Common.{◌≡◌, ℕ, true, false, List, Option, Some, None, Bor, refl, sym, ap, ◌∙◌, subst}
use Rattle.std.specs.Prelude.{Result, Ok, Err, if◌then◌else◌, is_some}
use Rattle.mpi.specs.Hosting.{Means, Meant}
use Rattle.std.specs.Option.{option_map, option_map_or, option_and_then}
use Rattle.muck_model.specs.declared.dbref.Dbref.{Dbref}
use Rattle.muck_model.specs.declared.dbref.Denial.{Denial}
use Rattle.spec_live.specs.declared.object.Object.{Object}
use Rattle.spec_live.specs.declared.fault.DbFault.{DbFault}
use Rattle.spec_live.specs.declared.fault.DbFault.TheVariants.{NoSuchObject, WrongKind}
use Rattle.spec_live.specs.Objects.{Entry, object_at, object_in, number_in}
use Rattle.spec_live.specs.Setting.{every_number, checked}
use Rattle.spec_live.specs.Lives.{Live, Change}
use Rattle.spec_rights.specs.declared.act.Actor.{Actor}
use Rattle.spec_rights.specs.declared.act.Act.TheVariants.{Write}
use Rattle.spec_rights.specs.Verdict.{verdict}
use Rattle.mpi.specs.declared.fault.MpiFault.{MpiFault}
use Rattle.mpi.specs.declared.fault.MpiFault.TheVariants.{Unclosed, UnknownFunction, BadCount, BadValue, TooManyCommands, TooLong, Denied, NoMemory}
use Rattle.mpi.specs.Thoughts.{found_or_bad}
use Rattle.muck_perm.specs.declared.guard.Guard.{Guard}
use Rattle.muck_perm.specs.inner.Guards.{Same, Kept, Makes, Tries, objects_of, world_of}
use Rattle.muck_perm.proofs.Worlds.{same_as}
use Rattle.spec_mpi.specs.Stages.{MpiStage}
use Rattle.spec_mpi.specs.Telling.{path_written_in, at_written_path, mpi_by_leave}
use Rattle.spec_mpi.specs.Doing.{Done, stage_refused, stage_changed, path_written}
use Rattle.muck_mpi.specs.inner.Seeing.{stage_of, Did, IsWritten}

-- the guard itself
pub same_self : (g : Guard) → Same g g
same_self g = (refl, refl)

-- What is written, by what is there, what is read and what is allowed.

abbrev Parts : Dbref → (List (List ℕ) → Change) → MpiStage → List (List ℕ) → Done
Parts d f s p = mpi_by_leave (stage_refused s) s.live.objects s.actor (Write d p) (stage_changed (f p) s)

pub not_there : (d : Dbref) (text : List ℕ) (f : List (List ℕ) → Change) (s : MpiStage) → object_at d s.live.objects ≡ None → path_written d text f s ≡ stage_refused s BadValue
unfolding path_written
not_there d text f s e = ap (λ (o : Option Object). option_map_or (λ (x : Object). at_written_path (stage_refused s) (Parts d f s) text) o (stage_refused s BadValue)) e

there_is : (d : Dbref) (text : List ℕ) (f : List (List ℕ) → Change) (s : MpiStage) (o : Object) → object_at d s.live.objects ≡ Some o → path_written d text f s ≡ at_written_path (stage_refused s) (Parts d f s) text
unfolding path_written
there_is d text f s o e = ap (λ (o : Option Object). option_map_or (λ (x : Object). at_written_path (stage_refused s) (Parts d f s) text) o (stage_refused s BadValue)) e

bad_path : (path : Option (List (List ℕ))) → ◌≡◌ {A = Result (List (List ℕ)) MpiFault} (found_or_bad path) (Err BadValue) → path ≡ None
bad_path None e = refl
bad_path (Some p) e = absurd (cc)

good_path : (path : Option (List (List ℕ))) (p : List (List ℕ)) → ◌≡◌ {A = Result (List (List ℕ)) MpiFault} (found_or_bad path) (Ok p) → path ≡ Some p
good_path None p e = absurd (cc)
good_path (Some q) p e = let same : q ≡ p = cc in ap (λ (x : List (List ℕ)). Some x) same

pub no_path : (d : Dbref) (text : List ℕ) (f : List (List ℕ) → Change) (s : MpiStage) (o : Object) → object_at d s.live.objects ≡ Some o → ◌≡◌ {A = Result (List (List ℕ)) MpiFault} (found_or_bad (path_written_in text)) (Err BadValue) → path_written d text f s ≡ stage_refused s BadValue
no_path d text f s o e h = there_is d text f s o e ∙ ap (λ (q : Option (List (List ℕ))). option_map_or (Parts d f s) q (stage_refused s BadValue)) (bad_path (path_written_in text) h)

pub parts_at : (d : Dbref) (text : List ℕ) (f : List (List ℕ) → Change) (s : MpiStage) (o : Object) (p : List (List ℕ)) → object_at d s.live.objects ≡ Some o → ◌≡◌ {A = Result (List (List ℕ)) MpiFault} (found_or_bad (path_written_in text)) (Ok p) → path_written d text f s ≡ Parts d f s p
parts_at d text f s o p e h = there_is d text f s o e ∙ ap (λ (q : Option (List (List ℕ))). option_map_or (Parts d f s) q (stage_refused s BadValue)) (good_path (path_written_in text) p h)

pub denied_at : (d : Dbref) (text : List ℕ) (f : List (List ℕ) → Change) (s : MpiStage) (o : Object) (p : List (List ℕ)) (denial : Denial) → object_at d s.live.objects ≡ Some o → ◌≡◌ {A = Result (List (List ℕ)) MpiFault} (found_or_bad (path_written_in text)) (Ok p) →
    verdict s.live.objects s.actor (Write d p) ≡ Some denial → path_written d text f s ≡ stage_refused s (Denied denial.rule)
denied_at d text f s o p denial e h v = parts_at d text f s o p e h ∙ ap (λ (x : Option Denial). option_map_or (λ (y : Denial). stage_refused s (Denied y.rule)) x (stage_changed (f p) s)) v

pub allowed_at : (d : Dbref) (text : List ℕ) (f : List (List ℕ) → Change) (s : MpiStage) (o : Object) (p : List (List ℕ)) → object_at d s.live.objects ≡ Some o → ◌≡◌ {A = Result (List (List ℕ)) MpiFault} (found_or_bad (path_written_in text)) (Ok p) →
    verdict s.live.objects s.actor (Write d p) ≡ None → path_written d text f s ≡ stage_changed (f p) s
allowed_at d text f s o p e h v = parts_at d text f s o p e h ∙ ap (λ (x : Option Denial). option_map_or (λ (y : Denial). stage_refused s (Denied y.rule)) x (stage_changed (f p) s)) v

bad_only : (q : Option (List (List ℕ))) (x : MpiFault) → ◌≡◌ {A = Result (List (List ℕ)) MpiFault} (found_or_bad q) (Err x) → x ≡ BadValue
bad_only None x h = cc
bad_only (Some p) x h = absurd (cc)

-- a text that writes no path, or want of memory
pub path_refused : (d : Dbref) (text : List ℕ) (f : List (List ℕ) → Change) (s : MpiStage) (o : Object) (fault : MpiFault) → object_at d s.live.objects ≡ Some o → Means {A = List (List ℕ)} (found_or_bad (path_written_in text)) (Err fault) → Meant {A = Unit {0}} (path_written d text f s) s (Err fault)
path_refused d text f s o BadValue e h = no_path d text f s o e h
path_refused d text f s o NoMemory e h = tt
path_refused d text f s o Unclosed e h = absurd (let k = bad_only (path_written_in text) Unclosed h in cc)
path_refused d text f s o UnknownFunction e h = absurd (let k = bad_only (path_written_in text) UnknownFunction h in cc)
path_refused d text f s o BadCount e h = absurd (let k = bad_only (path_written_in text) BadCount h in cc)
path_refused d text f s o TooManyCommands e h = absurd (let k = bad_only (path_written_in text) TooManyCommands h in cc)
path_refused d text f s o TooLong e h = absurd (let k = bad_only (path_written_in text) TooLong h in cc)
path_refused d text f s o (Denied rule) e h = absurd (let k = bad_only (path_written_in text) (Denied rule) h in cc)

-- What is there, by what was read.

pub copied_none : (r : Option (Bor Object)) (q : Option Object) → is_some r ≡ false → option_map (λ (x : Bor Object). x.now) r ≡ q → q ≡ None
copied_none None q h e = sym e
copied_none (Some x) q h e = absurd (cc)

pub copied_some : (r : Option (Bor Object)) (q : Option Object) → is_some r ≡ true → option_map (λ (x : Bor Object). x.now) r ≡ q → (o : Object) × (q ≡ Some o)
copied_some None q h e = absurd (cc)
copied_some (Some x) q h e = (x.now, sym e)

-- What a writer answers of an object that is there.

there_number : (d : Dbref) (es : List Entry) (o : Object) (q : Option ℕ) → number_in es d ≡ q → option_and_then (object_in es) q ≡ Some o → (n : ℕ) × (checked every_number d es ≡ Ok n)
unfolding checked
there_number d es o None e h = absurd (cc)
there_number d es o (Some n) e h = (n, ap (λ (x : Option ℕ). option_map_or (λ (m : ℕ). if every_number m then Ok m else Err WrongKind) x (Err NoSuchObject)) e)

checked_there : (d : Dbref) (es : List Entry) (o : Object) → object_at d es ≡ Some o → (n : ℕ) × (checked every_number d es ≡ Ok n)
unfolding object_at
checked_there d es o e = there_number d es o (number_in es d) refl e

stage_done : (f : Change) (old new : Guard) → world_of new ≡ f (world_of old) → new.actor ≡ old.actor → ◌≡◌ {A = Done} (stage_changed f (stage_of old)) (None, stage_of new)
stage_done f old new w a =
    let S : Actor → Live → MpiStage = λ actor live. record { actor = actor; live = live } in
    let is : S old.actor (f (world_of old)) ≡ S new.actor (world_of new) = ap (λ (live : Live). S old.actor live) (sym w) ∙ ap (λ (actor : Actor). S actor (world_of new)) (sym a) in
    ap (λ (s : MpiStage). (None, s)) is

did_done : (meant : Done) (f : Change) (old new : Guard) (made : Result (Unit {0}) MpiFault) → meant ≡ stage_changed f (stage_of old) → world_of new ≡ f (world_of old) → Kept old new → made ≡ Ok tt → Did meant old new made
did_done meant f old new made is w k m = subst (Did meant old new) (sym m) (is ∙ stage_done f old new w k.0, k.1)

did_want : (meant : Done) (old new : Guard) (made : Result (Unit {0}) MpiFault) → new ≡ old → made ≡ Err NoMemory → Did meant old new made
did_want meant old new made e m = subst (Did meant old new) (sym m) (tt, same_as old new e)

tried : (meant : Done) (f : Change) (old new : Guard) (check : Result ℕ DbFault) (n : ℕ) (r : Result (Unit {0}) DbFault) (made : Result (Unit {0}) MpiFault) → meant ≡ stage_changed f (stage_of old) → check ≡ Ok n → Tries f check old new r → IsWritten r made → Did meant old new made
tried meant f old new check n r made is e h m = by r made (subst (λ c. Tries f c old new r) e h) m
  where
    by : (r : Result (Unit {0}) DbFault) (made : Result (Unit {0}) MpiFault) → Tries f (Ok n) old new r → IsWritten r made → Did meant old new made
    by (Ok u) made h m = did_done meant f old new made is h.0 h.1 m
    by (Err fault) made h m = did_want meant old new made h.1 m

pub tried_there : (d : Dbref) (o : Object) (meant : Done) (f : Change) (old new : Guard) (r : Result (Unit {0}) DbFault) (made : Result (Unit {0}) MpiFault) → object_at d (objects_of old) ≡ Some o → meant ≡ stage_changed f (stage_of old) →
    Tries f (checked every_number d (objects_of old)) old new r → IsWritten r made → Did meant old new made
tried_there d o meant f old new r made e is h m = let c = checked_there d (objects_of old) o e in tried meant f old new (checked every_number d (objects_of old)) c.0 r made is c.1 h m

pub made_there : (d : Dbref) (o : Object) (meant : Done) (f : Change) (old new : Guard) (r : Result (Unit {0}) DbFault) (made : Result (Unit {0}) MpiFault) → object_at d (objects_of old) ≡ Some o → meant ≡ stage_changed f (stage_of old) →
    Makes f (checked every_number d (objects_of old)) old new r → IsWritten r made → Did meant old new made
made_there d o meant f old new r made e is h m =
    let c = checked_there d (objects_of old) o e in
    let k : Makes f (Ok c.0) old new r = subst (λ c. Makes f c old new r) c.1 h in
    did_done meant f old new made is k.1.0 k.1.1 (subst (λ x. IsWritten x made) k.0 m)
