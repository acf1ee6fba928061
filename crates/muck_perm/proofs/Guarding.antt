-- What a change of the objects makes of the world of a guard.
use Rattle.std.proofs.Common.{◌≡◌, ℕ, ◌==◌, Bool, true, false, cond, Option, Some, None, Result, Ok, Err, refl, sym, ◌∙◌, ap, List}
use Rattle.std.specs.Option.{option_map_or}
use Rattle.muck_model.specs.declared.dbref.Dbref.{Dbref}
use Rattle.muck_prop.specs.declared.value.PropValue.{PropValue}
use Rattle.spec_live.specs.declared.fault.DbFault.{DbFault}
use Rattle.spec_live.specs.declared.fault.DbFault.TheVariants.{NoSuchObject, WouldLoop, WrongKind}
use Rattle.spec_live.specs.Chain.{has}
use Rattle.spec_live.specs.Objects.{Entry, nothing, home, same, is_exit, kind_in, fits_in, places_from, number_in}
use Rattle.spec_live.specs.Moving.{Does, Moves, move_judged, moved, move_check}
use Rattle.spec_live.specs.Setting as setting
use Rattle.spec_live.specs.Setting.{every_number, checked, checked_both, has_link, may_link, owner_check, link_check, home_check, level_check, lines_check, password_check, set_at, lines_set, with_name, with_owner, with_link, with_home, with_level, with_prop, without_prop, with_password}
use Rattle.spec_live.specs.Recycling.{recycled, recycle_check}
use Rattle.spec_live.specs.Lives.{on_objects}
use Rattle.spec_rights.specs.Changing.{at_number, moved_at, moved_to, name_given, object_owned_by, linked, homed, leveled, lines_kept, property_stored, unstored, recycled_now, password_kept}
use Rattle.muck_perm.specs.declared.guard.Guard.{Guard}
use Rattle.muck_perm.specs.inner.Guards.{objects_of, world_of, Kept, Makes, Tries}

-- The number of what passed a check.

number_by : (test : ℕ → Bool) (o : Option ℕ) (n : ℕ) → ◌≡◌ {A = Result ℕ DbFault} (option_map_or (λ m. cond (test m) (Ok m) (Err WrongKind)) o (Err NoSuchObject)) (Ok n) → o ≡ Some n
number_by test None n h = absurd (cc (h))
number_by test (Some m) n h = passed (test m) h
  where
    passed : (b : Bool) → ◌≡◌ {A = Result ℕ DbFault} (cond b (Ok m) (Err WrongKind)) (Ok n) → ◌≡◌ {A = Option ℕ} (Some m) (Some n)
    passed true h = cc
    passed false h = absurd (cc (h))

pub checked_number : (test : ℕ → Bool) (d : Dbref) (es : List Entry) (n : ℕ) → checked test d es ≡ Ok n → number_in es d ≡ Some n
unfolding checked
checked_number test d es n h = number_by test (number_in es d) n h

both_by : (test : ℕ → ℕ → Bool) (o q : Option ℕ) (n : ℕ) → ◌≡◌ {A = Result ℕ DbFault} (option_map_or (λ m. option_map_or (λ t. cond (test m t) (Ok m) (Err WrongKind)) q (Err NoSuchObject)) o (Err NoSuchObject)) (Ok n) → o ≡ Some n
both_by test None q n h = absurd (cc (h))
both_by test (Some m) None n h = absurd (cc (h))
both_by test (Some m) (Some t) n h = passed (test m t) h
  where
    passed : (b : Bool) → ◌≡◌ {A = Result ℕ DbFault} (cond b (Ok m) (Err WrongKind)) (Ok n) → ◌≡◌ {A = Option ℕ} (Some m) (Some n)
    passed true h = cc
    passed false h = absurd (cc (h))

pub both_number : (test : ℕ → ℕ → Bool) (d to : Dbref) (es : List Entry) (n : ℕ) → checked_both test d to es ≡ Ok n → number_in es d ≡ Some n
unfolding checked_both
both_number test d to es n h = both_by test (number_in es d) (number_in es to) n h

pub link_number : (d to : Dbref) (es : List Entry) (n : ℕ) → link_check d to es ≡ Ok n → number_in es d ≡ Some n
unfolding link_check
link_number d to es n h = by_cases (same to nothing) (same to home) h
  where
    by_cases : (b c : Bool)
        → cond b (checked (λ n. has_link (kind_in es n)) d es) (cond c (checked (λ n. is_exit (kind_in es n)) d es) (checked_both (λ n t. may_link (kind_in es n) (kind_in es t)) d to es)) ≡ Ok n
        → number_in es d ≡ Some n
    by_cases true c h = checked_number _ d es n h
    by_cases false true h = checked_number _ d es n h
    by_cases false false h = both_number _ d to es n h

judged_by : (x y : ℕ) (p : ℕ × ℕ) (a b c : Bool) → ◌≡◌ {A = Result (ℕ × ℕ) DbFault} (cond a (Err WrongKind) (cond b (cond c (Err WouldLoop) (Ok (x, y))) (Err WrongKind))) (Ok p) → ◌≡◌ {A = ℕ × ℕ} (x, y) p
judged_by x y p true b c h = absurd (cc (h))
judged_by x y p false false c h = absurd (cc (h))
judged_by x y p false true true h = absurd (cc (h))
judged_by x y p false true false h = cc (h)

judged_is : (x y : ℕ) (es : List Entry) (p : ℕ × ℕ) → move_judged x y es ≡ Ok p → ◌≡◌ {A = ℕ × ℕ} (x, y) p
unfolding move_judged
judged_is x y es p h = judged_by x y p (x == 0) (fits_in es x y) (has x (places_from es y)) h

move_by : (es : List Entry) (a b : Option ℕ) (p : ℕ × ℕ)
    → ◌≡◌ {A = Result (ℕ × ℕ) DbFault} (option_map_or (λ x. option_map_or (λ y. move_judged x y es) b (Err NoSuchObject)) a (Err NoSuchObject)) (Ok p) → moved_at a b es ≡ moved p.0 p.1 es
move_by es None b p h = absurd (cc (h))
move_by es (Some x) None p h = absurd (cc (h))
move_by es (Some x) (Some y) p h = ap (λ q. moved q.0 q.1 es) (judged_is x y es p h)

pub move_numbers : (d to : Dbref) (es : List Entry) (p : ℕ × ℕ) → move_check d to es ≡ Ok p → moved_at (number_in es d) (number_in es to) es ≡ moved p.0 p.1 es
unfolding move_check
move_numbers d to es p h = move_by es (number_in es d) (number_in es to) p h

-- The guard.

abbrev pub with_objects : List Entry → Guard → Guard
with_objects es g = record g { db = record g.db { now = es } }

-- its objects are others now
pub written : (g : Guard) (es fs : List Entry) → es ≡ fs → (world_of (with_objects es g) ≡ world_of (with_objects fs g)) × Kept g (with_objects es g)
written g es fs e = (ap (λ z. world_of (with_objects z g)) e, (refl, (refl, refl)))

pub at_found : (f : ℕ → List Entry → List Entry) (x : Dbref) (es : List Entry) (n : ℕ) → number_in es x ≡ Some n → f n es ≡ at_number f x es
at_found f x es n e = sym (ap (λ o. option_map_or (λ m. f m es) o es) e)

pub makes_one : (f : ℕ → List Entry → List Entry) (x : Dbref) (check : Result ℕ DbFault) (g : Guard) (es : List Entry) (result : Result (Unit {0}) DbFault)
    → ((n : ℕ) → check ≡ Ok n → number_in (objects_of g) x ≡ Some n) → Does f check (objects_of g) es result → Makes (on_objects (at_number f x)) check g (with_objects es g) result
makes_one f x (Ok n) g es result number d = (d.0, written g es _ (d.1 ∙ at_found f x (objects_of g) n (number n refl)))
makes_one f x (Err fault) g es result number d = (d.0, ap (λ z. with_objects z g) d.1)

pub tries_one : (f : ℕ → List Entry → List Entry) (x : Dbref) (check : Result ℕ DbFault) (g : Guard) (es : List Entry) (result : Result (Unit {0}) DbFault)
    → ((n : ℕ) → check ≡ Ok n → number_in (objects_of g) x ≡ Some n) → setting.Tries f check (objects_of g) es result → Tries (on_objects (at_number f x)) check g (with_objects es g) result
tries_one f x (Ok n) g es (Ok u) number d = written g es _ (d ∙ at_found f x (objects_of g) n (number n refl))
tries_one f x (Ok n) g es (Err found) number d = (d.0, ap (λ z. with_objects z g) d.1)
tries_one f x (Err fault) g es (Ok u) number d = absurd d
tries_one f x (Err fault) g es (Err found) number d = (d.0, ap (λ z. with_objects z g) d.1)

pub makes_moved : (x to : Dbref) (g : Guard) (es : List Entry) (result : Result (Unit {0}) DbFault)
    → Moves (move_check x to (objects_of g)) (objects_of g) es result → Makes (moved_to x to) (move_check x to (objects_of g)) g (with_objects es g) result
unfolding moved_to
makes_moved x to g es result d = by_cases (move_check x to (objects_of g)) refl d
  where
    by_cases : (check : Result (ℕ × ℕ) DbFault) → move_check x to (objects_of g) ≡ check → Moves check (objects_of g) es result → Makes (moved_to x to) check g (with_objects es g) result
    by_cases (Ok p) e d = (d.0, written g es _ (d.1 ∙ sym (move_numbers x to (objects_of g) p e)))
    by_cases (Err fault) e d = (d.0, ap (λ z. with_objects z g) d.1)

pub makes_named : (x : Dbref) (name : List ℕ) (g : Guard) (es : List Entry) (result : Result (Unit {0}) DbFault)
    → Does (set_at (with_name name)) (checked every_number x (objects_of g)) (objects_of g) es result → Makes (name_given x name) (checked every_number x (objects_of g)) g (with_objects es g) result
unfolding name_given
makes_named x name g es result d = makes_one (set_at (with_name name)) x _ g es result (λ n e. checked_number _ x (objects_of g) n e) d

pub makes_owned : (x owner : Dbref) (g : Guard) (es : List Entry) (result : Result (Unit {0}) DbFault)
    → Does (set_at (with_owner owner)) (owner_check x owner (objects_of g)) (objects_of g) es result → Makes (object_owned_by x owner) (owner_check x owner (objects_of g)) g (with_objects es g) result
unfolding object_owned_by owner_check
makes_owned x owner g es result d = makes_one (set_at (with_owner owner)) x _ g es result (λ n e. both_number _ x owner (objects_of g) n e) d

pub makes_linked : (x to : Dbref) (g : Guard) (es : List Entry) (result : Result (Unit {0}) DbFault)
    → Does (set_at (with_link to)) (link_check x to (objects_of g)) (objects_of g) es result → Makes (linked x to) (link_check x to (objects_of g)) g (with_objects es g) result
unfolding linked
makes_linked x to g es result d = makes_one (set_at (with_link to)) x _ g es result (λ n e. link_number x to (objects_of g) n e) d

pub makes_homed : (x to : Dbref) (g : Guard) (es : List Entry) (result : Result (Unit {0}) DbFault)
    → Does (set_at (with_home to)) (home_check x to (objects_of g)) (objects_of g) es result → Makes (homed x to) (home_check x to (objects_of g)) g (with_objects es g) result
unfolding homed home_check
makes_homed x to g es result d = makes_one (set_at (with_home to)) x _ g es result (λ n e. both_number _ x to (objects_of g) n e) d

pub makes_leveled : (x : Dbref) (level : ℕ) (g : Guard) (es : List Entry) (result : Result (Unit {0}) DbFault)
    → Does (set_at (with_level level)) (level_check x level (objects_of g)) (objects_of g) es result → Makes (leveled x level) (level_check x level (objects_of g)) g (with_objects es g) result
unfolding leveled level_check
makes_leveled x level g es result d = makes_one (set_at (with_level level)) x _ g es result (λ n e. checked_number _ x (objects_of g) n e) d

pub makes_lines : (x : Dbref) (lines : List (List ℕ)) (g : Guard) (es : List Entry) (result : Result (Unit {0}) DbFault)
    → Does (lines_set lines) (lines_check x (objects_of g)) (objects_of g) es result → Makes (lines_kept x lines) (lines_check x (objects_of g)) g (with_objects es g) result
unfolding lines_kept lines_check
makes_lines x lines g es result d = makes_one (lines_set lines) x _ g es result (λ n e. checked_number _ x (objects_of g) n e) d

pub makes_recycled : (x : Dbref) (g : Guard) (es : List Entry) (result : Result (Unit {0}) DbFault)
    → Does recycled (recycle_check x (objects_of g)) (objects_of g) es result → Makes (recycled_now x) (recycle_check x (objects_of g)) g (with_objects es g) result
unfolding recycled_now recycle_check
makes_recycled x g es result d = makes_one recycled x _ g es result (λ n e. checked_number _ x (objects_of g) n e) d

pub makes_unstored : (x : Dbref) (path : List (List ℕ)) (g : Guard) (es : List Entry) (result : Result (Unit {0}) DbFault)
    → Does (set_at (without_prop path)) (checked every_number x (objects_of g)) (objects_of g) es result → Makes (unstored x path) (checked every_number x (objects_of g)) g (with_objects es g) result
unfolding unstored
makes_unstored x path g es result d = makes_one (set_at (without_prop path)) x _ g es result (λ n e. checked_number _ x (objects_of g) n e) d

pub tries_stored : (x : Dbref) (path : List (List ℕ)) (value : PropValue) (g : Guard) (es : List Entry) (result : Result (Unit {0}) DbFault)
    → setting.Tries (set_at (with_prop path value)) (checked every_number x (objects_of g)) (objects_of g) es result → Tries (property_stored x path value) (checked every_number x (objects_of g)) g (with_objects es g) result
unfolding property_stored
tries_stored x path value g es result d = tries_one (set_at (with_prop path value)) x _ g es result (λ n e. checked_number _ x (objects_of g) n e) d

pub tries_password : (x : Dbref) (salt : ℕ) (word : List ℕ) (g : Guard) (es : List Entry) (result : Result (Unit {0}) DbFault)
    → setting.Tries (set_at (with_password salt word)) (password_check x (objects_of g)) (objects_of g) es result → Tries (password_kept x salt word) (password_check x (objects_of g)) g (with_objects es g) result
unfolding password_kept password_check
tries_password x salt word g es result d = tries_one (set_at (with_password salt word)) x _ g es result (λ n e. checked_number _ x (objects_of g) n e) d
