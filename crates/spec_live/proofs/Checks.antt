-- What a passed check says.
use Rattle.std.proofs.Common.{◌≡◌, ℕ, ◌<◌, ℤ, pos, negsuc, Option, Some, None, Result, Ok, Err, inl, inr, refl, sym, ◌∙◌, ap, subst, length, Bool, true, false, cond, eqb, List}
use Rattle.std.proofs.lemmas.Bool.{cases_lt, eqb-false, false≢true}
use Rattle.std.specs.Option.{option_and_then, option_map_or}
use Rattle.muck_laws.proofs.Options.{kept_some}
use Rattle.muck_model.specs.declared.dbref.Dbref.{Dbref}
use Rattle.spec_live.specs.declared.fault.DbFault.{DbFault}
use Rattle.spec_live.specs.declared.fault.DbFault.TheVariants.{NoSuchObject, WouldLoop, WrongKind}
use Rattle.spec_live.specs.Chain.{has}
use Rattle.spec_live.specs.Objects.{Entry, dbref_of, index_of, is_garbage, kind_in, fits_in, places_from, number_in}
use Rattle.spec_live.specs.Moving.{move_judged, move_check}
use Rattle.spec_live.specs.Setting.{checked, checked_both}
use Rattle.spec_live.specs.Consistent.{MayMove}
use Rattle.spec_live.proofs.Lists.{has_not}
use Rattle.spec_live.proofs.Readers.{kind_past}

-- A number behind a dbref.

index_is : (z : ℤ) (n : ℕ) → index_of (record { 0 = z }) ≡ Some n → ◌≡◌ {A = Dbref} (record { 0 = z }) (dbref_of n)
index_is (pos m) n h = let e : m ≡ n = cc (h) in ap (λ k. dbref_of k) e
index_is (negsuc m) n h = absurd (cc (h))

pub index_only : (d : Dbref) (n : ℕ) → index_of d ≡ Some n → d ≡ dbref_of n
index_only d n h = index_is d.0 n h

-- what is known of the number behind a dbref
pub record IsThere (es : List Entry) (d : Dbref) (n : ℕ) : Type 0 where
  pub is : d ≡ dbref_of n
  pub known : n < length es
  pub alive : is_garbage (kind_in es n) ≡ false

pub alive_known : (es : List Entry) (n : ℕ) → is_garbage (kind_in es n) ≡ false → n < length es
alive_known es n h = elim (cases_lt n (length es)) [ inl lt ↦ lt | inr le ↦ absurd (false≢true (sym h ∙ ap (λ z. is_garbage z) (kind_past es n le))) ]

number_by : (es : List Entry) (d : Dbref) (o : Option ℕ) (n : ℕ) → index_of d ≡ o → option_and_then (λ m. cond (is_garbage (kind_in es m)) None (Some m)) o ≡ Some n → IsThere es d n
number_by es d None n i h = absurd (cc (h))
number_by es d (Some m) n i h =
    let k : (is_garbage (kind_in es m) ≡ false) × (m ≡ n) = kept_some (is_garbage (kind_in es m)) m n h in
    let P : ℕ → Type 0 = λ z. IsThere es d z in
    subst P k.1 (record { is = index_only d m i; known = alive_known es m k.0; alive = k.0 })

pub number_there : (es : List Entry) (d : Dbref) (n : ℕ) → number_in es d ≡ Some n → IsThere es d n
unfolding number_in
number_there es d n h = number_by es d (index_of d) n refl h

-- A move.

judged_by : (es : List Entry) (d to : ℕ) (p : ℕ × ℕ) (a b c : Bool) → d < length es → to < length es → eqb d 0 ≡ a → fits_in es d to ≡ b → has d (places_from es to) ≡ c
    → ◌≡◌ {A = Result (ℕ × ℕ) DbFault} (cond a (Err WrongKind) (cond b (cond c (Err WouldLoop) (Ok (d, to))) (Err WrongKind))) (Ok p) → MayMove es p.0 p.1
judged_by es d to p true b c k l x y z h = absurd (cc (h))
judged_by es d to p false false c k l x y z h = absurd (cc (h))
judged_by es d to p false true true k l x y z h = absurd (cc (h))
judged_by es d to p false true false k l x y z h =
    let pair : ◌≡◌ {A = ℕ × ℕ} (d, to) p = cc (h) in
    let P : ℕ × ℕ → Type 0 = λ u. MayMove es u.0 u.1 in
    subst P pair (record { known = k; place = l; lower = eqb-false d 0 x; fits = y; free = has_not d (places_from es to) z })

judged_ok : (es : List Entry) (d to : ℕ) (p : ℕ × ℕ) → d < length es → to < length es → move_judged d to es ≡ Ok p → MayMove es p.0 p.1
unfolding move_judged
judged_ok es d to p k l h = judged_by es d to p _ _ _ k l refl refl refl h

move_by : (es : List Entry) (a b : Option ℕ) (p : ℕ × ℕ) → ((m : ℕ) → a ≡ Some m → m < length es) → ((m : ℕ) → b ≡ Some m → m < length es)
    → option_map_or (λ x. option_map_or (λ y. move_judged x y es) b (Err NoSuchObject)) a (Err NoSuchObject) ≡ Ok p → MayMove es p.0 p.1
move_by es None b p u v h = absurd (cc (h))
move_by es (Some x) None p u v h = absurd (cc (h))
move_by es (Some x) (Some y) p u v h = judged_ok es x y p (u x refl) (v y refl) h

pub move_checked : (d to : Dbref) (es : List Entry) (p : ℕ × ℕ) → move_check d to es ≡ Ok p → MayMove es p.0 p.1
unfolding move_check
move_checked d to es p h = move_by es (number_in es d) (number_in es to) p (λ m e. (number_there es d m e).known) (λ m e. (number_there es to m e).known) h

-- A change of one object, and of one that names another.

pub record Passed (es : List Entry) (test : ℕ → Bool) (d : Dbref) (n : ℕ) : Type 0 where
  pub there : IsThere es d n
  pub holds : test n ≡ true

checked_by : (es : List Entry) (test : ℕ → Bool) (d : Dbref) (o : Option ℕ) (n : ℕ) → ((m : ℕ) → o ≡ Some m → IsThere es d m)
    → ◌≡◌ {A = Result ℕ DbFault} (option_map_or (λ m. cond (test m) (Ok m) (Err WrongKind)) o (Err NoSuchObject)) (Ok n) → Passed es test d n
checked_by es test d None n there h = absurd (cc (h))
checked_by es test d (Some m) n there h = by_cases (test m) refl h
  where
    by_cases : (b : Bool) → test m ≡ b → ◌≡◌ {A = Result ℕ DbFault} (cond b (Ok m) (Err WrongKind)) (Ok n) → Passed es test d n
    by_cases false e q = absurd (cc (q))
    by_cases true e q =
        let same : m ≡ n = cc (q) in
        let P : ℕ → Type 0 = λ z. Passed es test d z in
        subst P same (record { there = there m refl; holds = e })

pub checked_ok : (test : ℕ → Bool) (d : Dbref) (es : List Entry) (n : ℕ) → checked test d es ≡ Ok n → Passed es test d n
unfolding checked
checked_ok test d es n h = checked_by es test d (number_in es d) n (λ m e. number_there es d m e) h

pub record PassedBoth (es : List Entry) (test : ℕ → ℕ → Bool) (d to : Dbref) (n t : ℕ) : Type 0 where
  pub there : IsThere es d n
  pub other : IsThere es to t
  pub holds : test n t ≡ true

both_by : (es : List Entry) (test : ℕ → ℕ → Bool) (d to : Dbref) (a b : Option ℕ) (n : ℕ) → ((m : ℕ) → a ≡ Some m → IsThere es d m) → ((m : ℕ) → b ≡ Some m → IsThere es to m)
    → ◌≡◌ {A = Result ℕ DbFault} (option_map_or (λ m. option_map_or (λ t. cond (test m t) (Ok m) (Err WrongKind)) b (Err NoSuchObject)) a (Err NoSuchObject)) (Ok n) → (t : ℕ) × PassedBoth es test d to n t
both_by es test d to None b n u v h = absurd (cc (h))
both_by es test d to (Some m) None n u v h = absurd (cc (h))
both_by es test d to (Some m) (Some t) n u v h = by_cases (test m t) refl h
  where
    by_cases : (b : Bool) → test m t ≡ b → ◌≡◌ {A = Result ℕ DbFault} (cond b (Ok m) (Err WrongKind)) (Ok n) → (t : ℕ) × PassedBoth es test d to n t
    by_cases false e q = absurd (cc (q))
    by_cases true e q =
        let same : m ≡ n = cc (q) in
        let P : ℕ → Type 0 = λ z. PassedBoth es test d to z t in
        (t, subst P same (record { there = u m refl; other = v t refl; holds = e }))

pub both_ok : (test : ℕ → ℕ → Bool) (d to : Dbref) (es : List Entry) (n : ℕ) → checked_both test d to es ≡ Ok n → (t : ℕ) × PassedBoth es test d to n t
unfolding checked_both
both_ok test d to es n h = both_by es test d to (number_in es d) (number_in es to) n (λ m e. number_there es d m e) (λ m e. number_there es to m e) h
