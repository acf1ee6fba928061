-- What is written of a lock is read as that lock.
use Rattle.std.proofs.Common.{◌≡◌, ℕ, ◌+◌, ◌<◌, ◌≤◌, ◌^◌, suc, Bool, true, false, cond, List, [], ◌∷◌, ◌++◌, append_assoc, length, take, drop, Some, None, Ok, Err, refl, sym, ◌∙◌, ap, subst, arith}
use Rattle.std.specs.Prelude.{◌-◌, ℤ, pos, negsuc, not, ◌&&◌, ◌==◌, nat_le, nat_lt, if◌then◌else◌}
use Rattle.std.specs.List.{position, position_or_len}
use Rattle.std.specs.Fmt.{decimal, signed_decimal}
use Rattle.std.proofs.lemmas.Bool.{lt-ltb, ltb-true, leb-true, eqb-true, ne_eqb, false≢true, not-true}
use Rattle.std.proofs.lemmas.List.{length-append, append-nil, take_at, drop_at}
use Rattle.muck_laws.proofs.Truths.{and_first, and_rest}
use Rattle.muck_model.specs.Decimal.{is_digit}
use Rattle.muck_model.specs.Numbers.{dbref_written}
use Rattle.muck_model.specs.declared.dbref.Dbref.{Dbref}
use Rattle.muck_model.specs.declared.lock.Lock.{Lock}
use Rattle.muck_model.specs.declared.lock.Lock.TheVariants.{Free, Object, Prop, Not, Both, Either}
use Rattle.muck_lock.specs.Naming.{Naming}
use Rattle.muck_lock.specs.Paths.{is_path}
use Rattle.muck_lock.specs.Grammar.{LockReading, ends_key, is_colon, object_key, property_key, named_key, lock_key_of, key_or_fault, key_in, negated, bracket_closed, with_first_lock, sign_followed, locks_joined, part_of, part_reading, whole, whole_of, lock_of}
use Rattle.muck_lock.specs.inner.Made.{is_short, is_made, is_made_step}
use Rattle.muck_lock.specs.Printed.{groups_both, groups_either, grouped, lock_written, written_step, lock_printed}
use Rattle.muck_lock.specs.inner.Law.{has_no_program, has_no_program_step, ReadsBack}
use Rattle.muck_lock.specs.declared.part.Part.{Part}
use Rattle.muck_lock.specs.declared.part.Part.TheVariants.{OneOf, AllOf, Term}
use Rattle.muck_lock.proofs.Locks.{each_lock, at_free, at_object, at_prop, at_not, at_both, at_either}
use Rattle.muck_lock.proofs.Passes.{Passes, passes-more, passes-append, passes-all, prefix-stops}
use Rattle.muck_lock.proofs.Digits.{digits_of, dbref_of-written}
use Rattle.muck_lock.proofs.Depth.{reading_is}
use Rattle.muck_lock.proofs.Kept.{lacks, begins_path, is_kept_property, is_kept, is_kept_step, IsKeptReading, kept-part_of}

not_end : ℕ → Bool
not_end b = not (ends_key b)

-- what may stand behind a part
abbrev EndsAt : Part → List ℕ → Type 0
EndsAt Term [] = Unit {0}
EndsAt Term (b ∷ more) = ends_key b ≡ true
EndsAt AllOf [] = Unit {0}
EndsAt AllOf (b ∷ more) = (ends_key b ≡ true) × ((b == 38) ≡ false)
EndsAt OneOf [] = Unit {0}
EndsAt OneOf (b ∷ more) = (ends_key b ≡ true) × ((b == 38) ≡ false) × ((b == 124) ≡ false)

term_end : (rest : List ℕ) → EndsAt AllOf rest → EndsAt Term rest
term_end [] h = tt
term_end (b ∷ more) h = h.0

all_end : (rest : List ℕ) → EndsAt OneOf rest → EndsAt AllOf rest
all_end [] h = tt
all_end (b ∷ more) h = (h.0, h.1)

alone : (sign : ℕ) (join : Lock → Lock → Lock) (more : List ℕ → LockReading) (lock : Lock) (b : ℕ) (rest : List ℕ) → (b == sign) ≡ false → sign_followed sign join more lock (b ∷ rest) ≡ Ok (lock, b ∷ rest)
alone sign join more lock b rest h = rw h refl

no_and : (names : Naming) (lock : Lock) (rest : List ℕ) → EndsAt AllOf rest → locks_joined 38 Both (part_reading names AllOf) (Ok (lock, rest)) ≡ Ok (lock, rest)
no_and names lock [] h = refl
no_and names lock (b ∷ rest) h = alone 38 Both (part_reading names AllOf) lock b rest h.1

no_or : (names : Naming) (lock : Lock) (rest : List ℕ) → EndsAt OneOf rest → locks_joined 124 Either (part_reading names OneOf) (Ok (lock, rest)) ≡ Ok (lock, rest)
no_or names lock [] h = refl
no_or names lock (b ∷ rest) h = alone 124 Either (part_reading names OneOf) lock b rest h.2

all_of_term : (names : Naming) (text : List ℕ) → part_reading names AllOf text ≡ locks_joined 38 Both (part_reading names AllOf) (part_reading names Term text)
all_of_term names text = reading_is names AllOf text ∙ ap (locks_joined 38 Both (part_reading names AllOf)) (sym (reading_is names Term text))

one_of_all : (names : Naming) (text : List ℕ) → part_reading names OneOf text ≡ locks_joined 124 Either (part_reading names OneOf) (part_reading names AllOf text)
one_of_all names text = reading_is names OneOf text ∙ ap (locks_joined 124 Either (part_reading names OneOf)) (sym (reading_is names AllOf text))

-- a term is terms, and terms are parts, where no sign follows
term-all : (names : Naming) (text : List ℕ) (lock : Lock) (rest : List ℕ) → EndsAt AllOf rest → part_reading names Term text ≡ Ok (lock, rest) → part_reading names AllOf text ≡ Ok (lock, rest)
term-all names text lock rest ends h = all_of_term names text ∙ ap (locks_joined 38 Both (part_reading names AllOf)) h ∙ no_and names lock rest ends

all-one : (names : Naming) (text : List ℕ) (lock : Lock) (rest : List ℕ) → EndsAt OneOf rest → part_reading names AllOf text ≡ Ok (lock, rest) → part_reading names OneOf text ≡ Ok (lock, rest)
all-one names text lock rest ends h = one_of_all names text ∙ ap (locks_joined 124 Either (part_reading names OneOf)) h ∙ no_or names lock rest ends

term-any : (names : Naming) (p : Part) (text : List ℕ) (lock : Lock) (rest : List ℕ) → EndsAt p rest → (EndsAt Term rest → part_reading names Term text ≡ Ok (lock, rest)) → part_reading names p text ≡ Ok (lock, rest)
term-any names Term text lock rest ends h = h ends
term-any names AllOf text lock rest ends h = term-all names text lock rest ends (h (term_end rest ends))
term-any names OneOf text lock rest ends h =
    all-one names text lock rest ends (term-all names text lock rest (all_end rest ends) (h (term_end rest (all_end rest ends))))

-- parts in parentheses
closed-term : (names : Naming) (text : List ℕ) (lock : Lock) (rest : List ℕ) → part_reading names OneOf (text ++ 41 ∷ rest) ≡ Ok (lock, 41 ∷ rest) → part_reading names Term (40 ∷ (text ++ 41 ∷ rest)) ≡ Ok (lock, rest)
closed-term names text lock rest h = reading_is names Term (40 ∷ (text ++ 41 ∷ rest)) ∙ ap bracket_closed h

without-parentheses : (text rest : List ℕ) → grouped false text ++ rest ≡ text ++ rest
without-parentheses text rest = ap (λ l. l ++ rest) (append-nil text)

with-parentheses : (text rest : List ℕ) → grouped true text ++ rest ≡ 40 ∷ (text ++ 41 ∷ rest)
with-parentheses text rest = ap (λ l. 40 ∷ l) (append_assoc text (41 ∷ []) rest)

-- a key, with its end behind it
key_size : (key rest : List ℕ) → Passes not_end key → EndsAt Term rest → position_or_len ends_key (key ++ rest) ≡ length key
unfolding not_end
key_size key [] passes h = ap (position_or_len ends_key) (append-nil key) ∙ passes
key_size key (b ∷ rest) passes h = prefix-stops (λ x. not (ends_key x)) key b rest passes (ap not h)

key_reading : (names : Naming) (key rest : List ℕ) (lock : Lock) → Passes not_end key → EndsAt Term rest → lock_key_of names key ≡ Some lock → key_in names (key ++ rest) ≡ Ok (lock, rest)
key_reading names key rest lock passes h is =
    ap (λ n. key_or_fault (lock_key_of names (take n (key ++ rest))) (key ++ rest) (drop n (key ++ rest))) (key_size key rest passes h)
    ∙ ap (λ l. key_or_fault (lock_key_of names l) (key ++ rest) (drop (length key) (key ++ rest))) (take_at key rest (length key) refl)
    ∙ ap (λ l. key_or_fault (lock_key_of names key) (key ++ rest) l) (drop_at key rest (length key) refl)
    ∙ ap (λ k. key_or_fault k (key ++ rest) rest) is

key_term : (names : Naming) (b : ℕ) (more rest : List ℕ) (lock : Lock) → (b == 33) ≡ false → (b == 40) ≡ false → Passes not_end (b ∷ more) → EndsAt Term rest → lock_key_of names (b ∷ more) ≡ Some lock
    → part_reading names Term ((b ∷ more) ++ rest) ≡ Ok (lock, rest)
key_term names b more rest lock n g passes h is =
    reading_is names Term ((b ∷ more) ++ rest)
    ∙ ap (λ t. if t then negated (part_reading names Term (more ++ rest)) else if b == 40 then bracket_closed (part_reading names OneOf (more ++ rest)) else key_in names ((b ∷ more) ++ rest)) n
    ∙ ap (λ t. if t then bracket_closed (part_reading names OneOf (more ++ rest)) else key_in names ((b ∷ more) ++ rest)) g
    ∙ key_reading names (b ∷ more) rest lock passes h is

-- a number
not_end-digit : (b : ℕ) → is_digit b ≡ true → not_end b ≡ true
unfolding not_end
not_end-digit b h =
    let low : 48 ≤ b = leb-true 48 b (and_first (nat_le 48 b) (nat_le b 57) h) in
    let high : b ≤ 57 = leb-true b 57 (and_rest (nat_le 48 b) (nat_le b 57) h) in
    let a : (b == 38) ≡ false = ne_eqb b 38 (λ e. omega (arith, low, e)) in
    let o : (b == 124) ≡ false = ne_eqb b 124 (λ e. omega (arith, high, e)) in
    let c : (b == 41) ≡ false = ne_eqb b 41 (λ e. omega (arith, low, e)) in
    rw (a, o, c) refl

not_end-decimal : (n : ℕ) → n < 2 ^ 64 → Passes not_end (decimal n)
not_end-decimal n h = passes-all is_digit not_end (decimal n) not_end-digit (digits_of n h)

not_end-number : (z : ℤ) → is_short z ≡ true → Passes not_end (signed_decimal z)
unfolding not_end
not_end-number (pos n) h = not_end-decimal n (let short : n < 2147483648 = ltb-true n 2147483648 h in omega (arith, short))
not_end-number (negsuc n) h = passes-more not_end 45 (decimal (suc n)) refl (not_end-decimal (suc n) (let short : n < 2147483648 = ltb-true n 2147483648 h in omega (arith, short)))

object_back : (names : Naming) (d : Dbref) → is_short d.0 ≡ true → not (names.is_program d) ≡ true → (rest : List ℕ) → EndsAt Term rest → part_reading names Term ((35 ∷ signed_decimal d.0) ++ rest) ≡ Ok (Object d, rest)
unfolding not_end
object_back names d short known rest ends =
    key_term names 35 (signed_decimal d.0) rest (Object d) refl refl (passes-more not_end 35 (signed_decimal d.0) refl (not_end-number d.0 short)) ends
    (ap (object_key names) (dbref_of-written d.0 short) ∙ ap (λ t. if t then None else Some (Object d)) (not-true (names.is_program d) known))

-- a property
lacks_is : (p : ℕ → Bool) (xs : List ℕ) → lacks p xs ≡ true → Passes (λ x. not (p x)) xs
lacks_is p xs h = eqb-true (position_or_len p xs) (length xs) h

property_named : (names : Naming) (path value : List ℕ) → lacks is_colon path ≡ true → is_path path ≡ true → named_key names (path ++ 58 ∷ value) (position is_colon (path ++ 58 ∷ value)) ≡ Some (Prop path value)
property_named names path value colon is =
    let size : position_or_len is_colon (path ++ 58 ∷ value) ≡ length path = prefix-stops (λ x. not (is_colon x)) path 58 value (lacks_is is_colon path colon) refl in
    let whole : length (path ++ 58 ∷ value) ≡ length path + suc (length value) = length-append path (58 ∷ value) in
    ap (λ n. named_key names (path ++ 58 ∷ value) (cond (nat_lt n (length (path ++ 58 ∷ value))) (Some n) None)) size
    ∙ ap (λ t. named_key names (path ++ 58 ∷ value) (cond t (Some (length path)) None)) (lt-ltb (length path) (length (path ++ 58 ∷ value)) (omega (arith, whole)))
    ∙ ap (λ l. property_key l (drop (length path + 1) (path ++ 58 ∷ value))) (take_at path (58 ∷ value) (length path) refl)
    ∙ ap (λ l. property_key path l) (ap (λ l. drop (length path + 1) l) (sym (append_assoc path (58 ∷ []) value)) ∙ drop_at (path ++ 58 ∷ []) value (length path + 1) (length-append path (58 ∷ [])))
    ∙ ap (λ t. if t then Some (Prop path value) else None) is

property_back : (names : Naming) (path value : List ℕ) → is_kept_property path value ≡ true → (rest : List ℕ) → EndsAt Term rest → part_reading names Term ((path ++ 58 ∷ value) ++ rest) ≡ Ok (Prop path value, rest)
unfolding not_end
property_back names [] value kept rest ends = absurd (false≢true kept)
property_back names (b ∷ more) value kept rest ends =
    let begins : begins_path b ≡ true = and_first (begins_path b) (lacks ends_key (b ∷ more) && (lacks is_colon (b ∷ more) && (is_path (b ∷ more) && lacks ends_key value))) kept in
    let k1 : lacks ends_key (b ∷ more) && (lacks is_colon (b ∷ more) && (is_path (b ∷ more) && lacks ends_key value)) ≡ true = and_rest (begins_path b) (lacks ends_key (b ∷ more) && (lacks is_colon (b ∷ more) && (is_path (b ∷ more) && lacks ends_key value))) kept in
    let k2 : lacks is_colon (b ∷ more) && (is_path (b ∷ more) && lacks ends_key value) ≡ true = and_rest (lacks ends_key (b ∷ more)) (lacks is_colon (b ∷ more) && (is_path (b ∷ more) && lacks ends_key value)) k1 in
    let k3 : is_path (b ∷ more) && lacks ends_key value ≡ true = and_rest (lacks is_colon (b ∷ more)) (is_path (b ∷ more) && lacks ends_key value) k2 in
    let b2 : not (b == 33) && not (b == 40) && not (b == 35) ≡ true = and_first (not (b == 33) && not (b == 40) && not (b == 35)) (not (b == 42)) begins in
    let b3 : not (b == 33) && not (b == 40) ≡ true = and_first (not (b == 33) && not (b == 40)) (not (b == 35)) b2 in
    let n : (b == 33) ≡ false = not-true (b == 33) (and_first (not (b == 33)) (not (b == 40)) b3) in
    let g : (b == 40) ≡ false = not-true (b == 40) (and_rest (not (b == 33)) (not (b == 40)) b3) in
    let s : (b == 35) ≡ false = not-true (b == 35) (and_rest (not (b == 33) && not (b == 40)) (not (b == 35)) b2) in
    let p : (b == 42) ≡ false = not-true (b == 42) (and_rest (not (b == 33) && not (b == 40) && not (b == 35)) (not (b == 42)) begins) in
    let passes : Passes not_end ((b ∷ more) ++ 58 ∷ value) = passes-append not_end (b ∷ more) (58 ∷ value)
    (lacks_is ends_key (b ∷ more) (and_first (lacks ends_key (b ∷ more)) (lacks is_colon (b ∷ more) && (is_path (b ∷ more) && lacks ends_key value)) k1))
    (passes-more not_end 58 value refl (lacks_is ends_key value (and_rest (is_path (b ∷ more)) (lacks ends_key value) k3))) in
    key_term names b (more ++ 58 ∷ value) rest (Prop (b ∷ more) value) n g passes ends
    (ap (λ t. if t then object_key names (dbref_written ((b ∷ more) ++ 58 ∷ value)) else if b == 42 then object_key names (names.find ((b ∷ more) ++ 58 ∷ value)) else named_key names ((b ∷ more) ++ 58 ∷ value) (position is_colon ((b ∷ more) ++ 58 ∷ value))) s
    ∙ ap (λ t. if t then object_key names (names.find ((b ∷ more) ++ 58 ∷ value)) else named_key names ((b ∷ more) ++ 58 ∷ value) (position is_colon ((b ∷ more) ++ 58 ∷ value))) p
    ∙ property_named names (b ∷ more) value (and_first (lacks is_colon (b ∷ more)) (is_path (b ∷ more) && lacks ends_key value) k2) (and_first (is_path (b ∷ more)) (lacks ends_key value) k3))

-- two locks with a sign between them
both_back : (names : Naming) (a b : Lock) (ta tb rest : List ℕ) → part_reading names Term (ta ++ 38 ∷ (tb ++ rest)) ≡ Ok (a, 38 ∷ (tb ++ rest)) → part_reading names AllOf (tb ++ rest) ≡ Ok (b, rest)
    → part_reading names AllOf ((ta ++ 38 ∷ tb) ++ rest) ≡ Ok (Both a b, rest)
both_back names a b ta tb rest ha hb =
    ap (part_reading names AllOf) (append_assoc ta (38 ∷ tb) rest)
    ∙ all_of_term names (ta ++ 38 ∷ (tb ++ rest)) ∙ ap (locks_joined 38 Both (part_reading names AllOf)) ha ∙ ap (with_first_lock Both a) hb

either_back : (names : Naming) (a b : Lock) (ta tb rest : List ℕ) → part_reading names AllOf (ta ++ 124 ∷ (tb ++ rest)) ≡ Ok (a, 124 ∷ (tb ++ rest)) → part_reading names OneOf (tb ++ rest) ≡ Ok (b, rest)
    → part_reading names OneOf ((ta ++ 124 ∷ tb) ++ rest) ≡ Ok (Either a b, rest)
either_back names a b ta tb rest ha hb =
    ap (part_reading names OneOf) (append_assoc ta (124 ∷ tb) rest)
    ∙ one_of_all names (ta ++ 124 ∷ (tb ++ rest)) ∙ ap (locks_joined 124 Either (part_reading names OneOf)) ha ∙ ap (with_first_lock Either a) hb

-- A text of terms is read where it stands in parentheses if it needs them.
grouped_all : (names : Naming) (p : Part) (text : List ℕ) (lock : Lock) → ((rest : List ℕ) → EndsAt AllOf rest → part_reading names AllOf (text ++ rest) ≡ Ok (lock, rest))
    → (rest : List ℕ) → EndsAt p rest → part_reading names p (grouped (groups_both p) text ++ rest) ≡ Ok (lock, rest)
grouped_all names Term text lock h rest ends =
    ap (part_reading names Term) (with-parentheses text rest) ∙ closed-term names text lock rest (all-one names (text ++ 41 ∷ rest) lock (41 ∷ rest) (refl, refl, refl) (h (41 ∷ rest) (refl, refl)))
grouped_all names AllOf text lock h rest ends = ap (part_reading names AllOf) (without-parentheses text rest) ∙ h rest ends
grouped_all names OneOf text lock h rest ends = ap (part_reading names OneOf) (without-parentheses text rest) ∙ all-one names (text ++ rest) lock rest ends (h rest (all_end rest ends))

grouped_one : (names : Naming) (p : Part) (text : List ℕ) (lock : Lock) → ((rest : List ℕ) → EndsAt OneOf rest → part_reading names OneOf (text ++ rest) ≡ Ok (lock, rest))
    → (rest : List ℕ) → EndsAt p rest → part_reading names p (grouped (groups_either p) text ++ rest) ≡ Ok (lock, rest)
grouped_one names Term text lock h rest ends =
    ap (part_reading names Term) (with-parentheses text rest) ∙ closed-term names text lock rest (h (41 ∷ rest) (refl, refl, refl))
grouped_one names AllOf text lock h rest ends =
    term-all names (grouped true text ++ rest) lock rest ends (ap (part_reading names Term) (with-parentheses text rest) ∙ closed-term names text lock rest (h (41 ∷ rest) (refl, refl, refl)))
grouped_one names OneOf text lock h rest ends = ap (part_reading names OneOf) (without-parentheses text rest) ∙ h rest ends

IsBack : Naming → Lock → Type 0
IsBack names lock = is_kept lock ≡ true → is_made lock ≡ true → has_no_program names lock ≡ true → (p : Part) (rest : List ℕ) → EndsAt p rest → part_reading names p (lock_written lock p ++ rest) ≡ Ok (lock, rest)

-- as it is written
spelled : (names : Naming) (lock : Lock) (p : Part) (text rest : List ℕ) → lock_written lock p ≡ text → part_reading names p (text ++ rest) ≡ Ok (lock, rest) → part_reading names p (lock_written lock p ++ rest) ≡ Ok (lock, rest)
spelled names lock p text rest e h = ap (λ l. part_reading names p (l ++ rest)) e ∙ h

free_back : (names : Naming) → IsBack names Free
unfolding IsBack
free_back names kept made known p rest ends = absurd (false≢true (sym (at_free is_kept_step) ∙ kept))

object_is_back : (names : Naming) (d : Dbref) → IsBack names (Object d)
unfolding IsBack
object_is_back names d kept made known p rest ends =
    spelled names (Object d) p (35 ∷ signed_decimal d.0) rest (ap (λ f. f p) (at_object written_step d))
    (term-any names p ((35 ∷ signed_decimal d.0) ++ rest) (Object d) rest ends
    (object_back names d (sym (at_object is_made_step d) ∙ made) (sym (at_object (has_no_program_step names) d) ∙ known) rest))

property_is_back : (names : Naming) (path value : List ℕ) → IsBack names (Prop path value)
unfolding IsBack
property_is_back names path value kept made known p rest ends =
    spelled names (Prop path value) p (path ++ 58 ∷ value) rest (ap (λ f. f p) (at_prop written_step path value))
    (term-any names p ((path ++ 58 ∷ value) ++ rest) (Prop path value) rest ends (property_back names path value (sym (at_prop is_kept_step path value) ∙ kept) rest))

not_is_back : (names : Naming) (a : Lock) → IsBack names a → IsBack names (Not a)
unfolding IsBack
not_is_back names a ha kept made known p rest ends =
    spelled names (Not a) p (33 ∷ lock_written a Term) rest (ap (λ f. f p) (at_not written_step a))
    (term-any names p ((33 ∷ lock_written a Term) ++ rest) (Not a) rest ends
    (λ e. reading_is names Term ((33 ∷ lock_written a Term) ++ rest)
    ∙ ap negated (ha (sym (at_not is_kept_step a) ∙ kept) (sym (at_not is_made_step a) ∙ made) (sym (at_not (has_no_program_step names) a) ∙ known) Term rest e)))

both_is_back : (names : Naming) (a b : Lock) → IsBack names a → IsBack names b → IsBack names (Both a b)
unfolding IsBack
both_is_back names a b ha hb kept made known p rest ends =
    let k : is_kept a && is_kept b ≡ true = sym (at_both is_kept_step a b) ∙ kept in
    let m : is_made a && is_made b ≡ true = sym (at_both is_made_step a b) ∙ made in
    let n : has_no_program names a && has_no_program names b ≡ true = sym (at_both (has_no_program_step names) a b) ∙ known in
    spelled names (Both a b) p (grouped (groups_both p) (lock_written a Term ++ 38 ∷ lock_written b AllOf)) rest (ap (λ f. f p) (at_both written_step a b))
    (grouped_all names p (lock_written a Term ++ 38 ∷ lock_written b AllOf) (Both a b)
    (λ r e. both_back names a b (lock_written a Term) (lock_written b AllOf) r
    (ha (and_first (is_kept a) (is_kept b) k) (and_first (is_made a) (is_made b) m) (and_first (has_no_program names a) (has_no_program names b) n) Term (38 ∷ (lock_written b AllOf ++ r)) refl)
    (hb (and_rest (is_kept a) (is_kept b) k) (and_rest (is_made a) (is_made b) m) (and_rest (has_no_program names a) (has_no_program names b) n) AllOf r e))
    rest ends)

either_is_back : (names : Naming) (a b : Lock) → IsBack names a → IsBack names b → IsBack names (Either a b)
unfolding IsBack
either_is_back names a b ha hb kept made known p rest ends =
    let k : is_kept a && is_kept b ≡ true = sym (at_either is_kept_step a b) ∙ kept in
    let m : is_made a && is_made b ≡ true = sym (at_either is_made_step a b) ∙ made in
    let n : has_no_program names a && has_no_program names b ≡ true = sym (at_either (has_no_program_step names) a b) ∙ known in
    spelled names (Either a b) p (grouped (groups_either p) (lock_written a AllOf ++ 124 ∷ lock_written b OneOf)) rest (ap (λ f. f p) (at_either written_step a b))
    (grouped_one names p (lock_written a AllOf ++ 124 ∷ lock_written b OneOf) (Either a b)
    (λ r e. either_back names a b (lock_written a AllOf) (lock_written b OneOf) r
    (ha (and_first (is_kept a) (is_kept b) k) (and_first (is_made a) (is_made b) m) (and_first (has_no_program names a) (has_no_program names b) n) AllOf (124 ∷ (lock_written b OneOf ++ r)) (refl, refl))
    (hb (and_rest (is_kept a) (is_kept b) k) (and_rest (is_made a) (is_made b) m) (and_rest (has_no_program names a) (has_no_program names b) n) OneOf r e))
    rest ends)

each_back : (names : Naming) (lock : Lock) → IsBack names lock
each_back names = each_lock (IsBack names) (free_back names) (object_is_back names) (property_is_back names) (not_is_back names) (both_is_back names) (either_is_back names)

-- the whole text
whole_back : (names : Naming) (text : List ℕ) (lock : Lock) → part_reading names OneOf text ≡ Ok (lock, []) → lock_of names text ≡ Ok lock
unfolding part_of
whole_back names [] lock h = absurd (let e : Err [] ≡ Ok (lock, []) = h in cc)
whole_back names (b ∷ more) lock h = ap (whole (length (b ∷ more))) h

kept-whole_of : (size : ℕ) (read lock : Lock) (rest : List ℕ) → is_kept read ≡ true → whole_of size read rest ≡ Ok lock → is_kept lock ≡ true
kept-whole_of size read lock [] kept h = let e : read ≡ lock = cc in ap is_kept (sym e) ∙ kept
kept-whole_of size read lock (b ∷ rest) kept h = absurd (let e : Err (size - length (b ∷ rest)) ≡ Ok lock = h in cc)

kept-whole : (size : ℕ) (r : LockReading) (lock : Lock) → IsKeptReading r → whole size r ≡ Ok lock → is_kept lock ≡ true
kept-whole size (Err rest) lock kept h = absurd (let e : Err (size - length rest) ≡ Ok lock = h in cc)
kept-whole size (Ok read) lock kept h = kept-whole_of size read.0 lock read.1 kept h

free_again : (others : Naming) (lock : Lock) → Free ≡ lock → lock_of others (lock_printed lock) ≡ Ok lock
free_again others lock e = subst (λ l. lock_of others (lock_printed l) ≡ Ok l) e (ap (λ f. lock_of others (f OneOf)) (at_free written_step))

kept_again : (others : Naming) (lock : Lock) → is_kept lock ≡ true → is_made lock ≡ true → has_no_program others lock ≡ true → lock_of others (lock_printed lock) ≡ Ok lock
unfolding IsBack
kept_again others lock kept made known =
    whole_back others (lock_printed lock) lock (ap (part_reading others OneOf) (sym (append-nil (lock_printed lock))) ∙ each_back others lock kept made known OneOf [] tt)

pub reads_back : (lock : Lock) → is_made lock ≡ true → ReadsBack lock (lock_printed lock)
reads_back lock made names [] read others known = free_again others lock (let e : Ok Free ≡ Ok lock = read in cc)
reads_back lock made names (b ∷ more) read others known =
    kept_again others lock (kept-whole (length (b ∷ more)) (part_reading names OneOf (b ∷ more)) lock (kept-part_of names (suc (length (b ∷ more))) OneOf (b ∷ more)) read) made known
