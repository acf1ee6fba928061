-- A program that is there can be given its source.
use Rattle.std.proofs.Common.{◌≡◌, ℕ, true, false, cond, List, Option, Some, None, Result, Ok, Err, subst}
use Rattle.std.proofs.lemmas.Bool.{cond-true}
use Rattle.std.specs.Option.{option_map_or, option_and_then}
use Rattle.muck_model.specs.declared.dbref.Dbref.{Dbref}
use Rattle.muck_model.specs.declared.dbref.Kind.TheVariants.{Garbage}
use Rattle.spec_live.specs.declared.object.Object.{Object}
use Rattle.spec_live.specs.declared.fault.DbFault.{DbFault}
use Rattle.spec_live.specs.declared.fault.DbFault.TheVariants.{NoSuchObject, WrongKind}
use Rattle.spec_live.specs.Objects.{Entry, is_program, kind_in, object_in, object_at, number_in}
use Rattle.spec_live.specs.Setting.{checked, lines_check}
use Rattle.spec_rights.specs.Changing.{lines_kept}
use Rattle.spec_commands.specs.Finding.{is_object_so}
use Rattle.spec_commands.specs.Going.{is_program_there}
use Rattle.muck_perm.specs.declared.guard.Guard.{Guard}
use Rattle.muck_perm.specs.inner.Guards.{Done, Makes, objects_of, world_of}

-- the number of what is there
abbrev index : Dbref → List Entry → ℕ
index x es = option_map_or (λ n. n) (number_in es x) 0

checked_there : (x : Dbref) (es : List Entry) → option_map_or (λ (o : Object). is_program o.kind) (object_at x es) false ≡ true → lines_check x es ≡ Ok (index x es)
unfolding lines_check checked object_at kind_in
checked_there x es h = by_number (number_in es x) h
  where
    by_object : (n : ℕ) (q : Option Object) → option_map_or (λ (o : Object). is_program o.kind) q false ≡ true →
        ◌≡◌ {A = Result ℕ DbFault} (cond (is_program (option_map_or (λ (o : Object). o.kind) q Garbage)) (Ok n) (Err WrongKind)) (Ok n)
    by_object n None h = absurd (cc h)
    by_object n (Some o) h = cond-true _ _ _ h

    by_number : (q : Option ℕ) → option_map_or (λ (o : Object). is_program o.kind) (option_and_then (object_in es) q) false ≡ true →
        ◌≡◌ {A = Result ℕ DbFault} (option_map_or (λ n. cond (is_program (kind_in es n)) (Ok n) (Err WrongKind)) q (Err NoSuchObject)) (Ok (option_map_or (λ n. n) q 0))
    by_number None h = absurd (cc h)
    by_number (Some n) h = by_object n (object_in es n) h

pub makes_there : (x : Dbref) (lines : List (List ℕ)) (old new : Guard) (result : Result (Unit {0}) DbFault) → is_program_there x (world_of old) ≡ true →
    Makes (lines_kept x lines) (lines_check x (objects_of old)) old new result → (result ≡ Ok tt) × Done (lines_kept x lines) old new
unfolding is_object_so
makes_there x lines old new result h m =
    let P : Result ℕ DbFault → Type 0 = λ check. Makes (lines_kept x lines) check old new result in
    subst P (checked_there x (objects_of old) h) m
