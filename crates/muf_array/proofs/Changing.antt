-- What lists and dictionaries become that are changed.
use Rattle.std.proofs.Common.{◌≡◌, ◌∙◌, ap, sym, refl, ℕ, zero, suc, ◌+◌, ◌<◌, ◌≤◌, Bool, true, false, List, [], ◌∷◌, ◌++◌, length, take, drop, set, Option, Some, None, arith, inl, inr}
use Rattle.std.specs.Prelude.{ℤ, pos, negsuc, nat_lt, if◌then◌else◌}
use Rattle.std.specs.List.{insert, remove}
use Rattle.std.proofs.lemmas.Bool.{lt-ltb, le-ltb, ltb-false}
use Rattle.std.proofs.lemmas.Bool.Decides.{nat_tests}
use Rattle.muf_model.specs.declared.fault.MufFault.TheVariants.{TooHeavy, BadArgument}
use Rattle.muf_model.specs.declared.value.MapKey.{MapKey}
use Rattle.muf_model.specs.declared.value.MapKey.TheVariants.{Number, Name}
use Rattle.muf_model.specs.Datum.{Datum, items, dict, data_of, pairs_of, entries_of, data_list}
use Rattle.muf_model.specs.Entries.{with_entry, without_key}
use Rattle.muf_model.specs.Values.{value_fits}
use Rattle.muf_model.specs.Answer.{Made, makes, rejects}
use Rattle.muf_model.specs.ArrayRows.{valued, appended_to, gone_from}
use Rattle.muf_model.proofs.Sized.{entries_again, at_end}
use Rattle.muf_array.specs.declared.changes.Change.{Change}
use Rattle.muf_array.specs.declared.changes.Change.TheVariants.{Set, Insert}
use Rattle.muf_array.specs.inner.Shapes.{changed, placed_in, place_in, index_in, by_place, gone_by, fault_of, refusal}
use Rattle.muf_array.proofs.Reading.{list_again}

-- ---- places of a list

pub placed_insert : (n : ℕ) (x : Datum) (ds : List Datum) → placed_in Insert n x ds ≡ insert ds n x
placed_insert zero x ds = refl
placed_insert (suc n) x [] = refl
placed_insert (suc n) x (d ∷ ds) = ap (λ r. d ∷ r) (placed_insert n x ds)

pub placed_set : (n : ℕ) (x : Datum) (ds : List Datum) → n < length ds → placed_in Set n x ds ≡ set ds n x
placed_set n x [] h = absurd (omega (arith, h))
placed_set zero x (d ∷ ds) h = refl
placed_set (suc n) x (d ∷ ds) h = let z : suc n + 1 ≡ suc (n + 1) = omega arith in rw z (ap (λ r. d ∷ r) (placed_set n x ds (omega (arith, h))))

pub placed_end : (n : ℕ) (x : Datum) (ds : List Datum) → n ≤ length ds → length ds ≤ n → placed_in Set n x ds ≡ insert ds n x
placed_end zero x [] h l = refl
placed_end zero x (d ∷ ds) h l = absurd (omega (arith, l))
placed_end (suc n) x [] h l = absurd (omega (arith, h))
placed_end (suc n) x (d ∷ ds) h l = let z : suc n + 1 ≡ suc (n + 1) = omega arith in rw z (ap (λ r. d ∷ r) (placed_end n x ds (omega (arith, h)) (omega (arith, l))))

pub ruleset place_steps = (placed_insert, placed_set, placed_end)

-- ---- what comes to a key

between_cases : (b : Bool) (c : Change) (n : ℕ) (x : Datum) (ds : List Datum) → (if b then rejects BadArgument else valued (items (data_of (placed_in c n x ds)))) ≡ by_place c x ds (if b then None else Some n)
between_cases true c n x ds = refl
between_cases false c n x ds = refl

pub changed_at : (c : Change) (x : Datum) (ds : List Datum) (z : ℤ) → changed c x (items (data_of ds)) (Number z) ≡ by_place c x ds (place_in z ds)
changed_at Set x ds (pos n) = rw (list_again ds) (between_cases (nat_lt (length ds) n) Set n x ds)
changed_at Insert x ds (pos n) = rw (list_again ds) (between_cases (nat_lt (length ds) n) Insert n x ds)
changed_at Set x ds (negsuc n) = refl
changed_at Insert x ds (negsuc n) = refl

pub changed_dict : (c : Change) (x : Datum) (es : List (MapKey × Datum)) (k : MapKey) → changed c x (dict (pairs_of es)) k ≡ valued (dict (pairs_of (with_entry k x es)))
changed_dict Set x es k = ap (λ r. valued (dict (pairs_of (with_entry k x r)))) (entries_again es)
changed_dict Insert x es k = ap (λ r. valued (dict (pairs_of (with_entry k x r)))) (entries_again es)

pub appended_at : (x : Datum) (ds : List Datum) → appended_to (items (data_of ds)) x ≡ valued (items (data_of (insert ds (length ds) x)))
appended_at x ds = rw (list_again ds) (ap (λ r. valued (items (data_of r))) (at_end ds x))

refusal_cases : (b : Bool) (d : Datum) → refusal (if b then makes (d ∷ []) else rejects TooHeavy) ≡ fault_of b
refusal_cases true d = refl
refusal_cases false d = refl

pub refusal_valued : (d : Datum) → refusal (valued d) ≡ fault_of (value_fits d)
refusal_valued d = refusal_cases (value_fits d) d

fitting_cases : (b : Bool) → fault_of b ≡ None → b ≡ true
fitting_cases true e = refl
fitting_cases false e = absurd (let no : Some TooHeavy ≡ None = e in cc)

pub fits_of : (d : Datum) → refusal (valued d) ≡ None → value_fits d ≡ true
fits_of d e = fitting_cases (value_fits d) (sym (refusal_valued d) ∙ e)

pub valued_of : (d : Datum) → value_fits d ≡ true → valued d ≡ makes (d ∷ [])
valued_of d e = rw e refl

pub ruleset change_steps = (changed_at, changed_dict, appended_at, refusal_valued, fits_of, valued_of)

-- ---- what goes

remove_past : (n : ℕ) (ds : List Datum) → length ds ≤ n → remove ds n ≡ ds
remove_past zero [] h = refl
remove_past zero (d ∷ ds) h = absurd (omega (arith, h))
remove_past (suc n) [] h = refl
remove_past (suc n) (d ∷ ds) h = ap (λ r. d ∷ r) (remove_past n ds (omega (arith, h)))

gone_cases : (b : Bool) (n : ℕ) (ds : List Datum) → nat_lt n (length ds) ≡ b → remove ds n ≡ gone_by ds (if b then Some n else None)
gone_cases true n ds e = refl
gone_cases false n ds e = remove_past n ds (grind (arith, nat_tests, e))

pub gone_number : (ds : List Datum) (z : ℤ) → gone_from (items (data_of ds)) (Number z) ≡ makes (items (data_of (gone_by ds (index_in z ds))) ∷ [])
gone_number ds (pos n) = rw (list_again ds) (ap (λ r. makes (items (data_of r) ∷ [])) (gone_cases (nat_lt n (length ds)) n ds refl))
gone_number ds (negsuc n) = refl

pub gone_dict : (es : List (MapKey × Datum)) (k : MapKey) → gone_from (dict (pairs_of es)) k ≡ makes (dict (pairs_of (without_key k es)) ∷ [])
gone_dict es k = ap (λ r. makes (dict (pairs_of (without_key k r)) ∷ [])) (entries_again es)

pub ruleset gone_steps = (gone_number, gone_dict)
