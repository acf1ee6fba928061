-- The bytes of a written lock are those of texts.
use Rattle.std.proofs.Common.{◌≡◌, ℕ, ◌<◌, ◌≤◌, ◌^◌, suc, Bool, true, false, List, [], ◌∷◌, ◌++◌, refl, sym, ◌∙◌, ap, subst, arith}
use Rattle.std.specs.Prelude.{ℤ, pos, negsuc, ◌&&◌, nat_le, nat_lt}
use Rattle.std.specs.Fmt.{decimal, signed_decimal}
use Rattle.std.proofs.lemmas.Bool.{ltb-true, leb-true, le-ltb}
use Rattle.muck_laws.proofs.Options.{none_of}
use Rattle.muck_laws.proofs.Truths.{and_first, and_rest}
use Rattle.muck_model.specs.Bytes.{text_fault}
use Rattle.muck_model.specs.Decimal.{is_digit}
use Rattle.muck_model.specs.declared.lock.Lock.{Lock}
use Rattle.muck_model.specs.declared.lock.Lock.TheVariants.{Free, Object, Prop, Not, Both, Either}
use Rattle.muck_lock.specs.inner.Made.{is_short, is_text, is_made, is_made_step}
use Rattle.muck_lock.specs.Printed.{groups_both, groups_either, grouped, lock_written, written_step}
use Rattle.muck_lock.specs.declared.part.Part.{Part}
use Rattle.muck_lock.specs.declared.part.Part.TheVariants.{OneOf, AllOf, Term}
use Rattle.muck_lock.proofs.Locks.{each_lock, at_free, at_object, at_prop, at_not, at_both, at_either}
use Rattle.muck_lock.proofs.Passes.{Passes, passes-more, passes-append, passes-all}
use Rattle.muck_lock.proofs.Places.{is_inside, inside_from}
use Rattle.muck_lock.proofs.Digits.{digits_of}

is_inside-digit : (b : ℕ) → is_digit b ≡ true → is_inside b ≡ true
is_inside-digit b h =
    let low : 48 ≤ b = leb-true 48 b (and_first (nat_le 48 b) (nat_le b 57) h) in
    let high : b ≤ 57 = leb-true b 57 (and_rest (nat_le 48 b) (nat_le b 57) h) in
    let l : nat_lt b 32 ≡ false = le-ltb b 32 (omega (arith, low)) in
    let u : nat_lt 126 b ≡ false = le-ltb 126 b (omega (arith, high)) in
    rw (l, u) refl

inside-decimal : (n : ℕ) → n < 2 ^ 64 → Passes is_inside (decimal n)
inside-decimal n h = passes-all is_digit is_inside (decimal n) is_inside-digit (digits_of n h)

inside-number : (z : ℤ) → is_short z ≡ true → Passes is_inside (signed_decimal z)
inside-number (pos n) h = inside-decimal n (let short : n < 2147483648 = ltb-true n 2147483648 h in omega (arith, short))
inside-number (negsuc n) h = passes-more is_inside 45 (decimal (suc n)) refl (inside-decimal (suc n) (let short : n < 2147483648 = ltb-true n 2147483648 h in omega (arith, short)))

inside-grouped : (b : Bool) (text : List ℕ) → Passes is_inside text → Passes is_inside (grouped b text)
inside-grouped true text h = passes-append is_inside ((40 ∷ []) ++ text) (41 ∷ []) (passes-append is_inside (40 ∷ []) text refl h) refl
inside-grouped false text h = passes-append is_inside text [] h refl

inside-text : (bytes : List ℕ) → is_text bytes ≡ true → Passes is_inside bytes
inside-text bytes h = inside_from bytes (none_of (text_fault bytes) h)

IsInside : Lock → Type 0
IsInside lock = is_made lock ≡ true → (p : Part) → Passes is_inside (lock_written lock p)

along : (xs ys : List ℕ) → xs ≡ ys → Passes is_inside ys → Passes is_inside xs
along xs ys e h = subst (λ l. Passes is_inside l) (sym e) h

pub inside-written : (lock : Lock) → is_made lock ≡ true → (p : Part) → Passes is_inside (lock_written lock p)
unfolding IsInside
inside-written = each_lock IsInside
    (λ made p. along (lock_written Free p) [] (ap (λ f. f p) (at_free written_step)) refl)
    (λ d made p. along (lock_written (Object d) p) (35 ∷ signed_decimal d.0) (ap (λ f. f p) (at_object written_step d))
    (passes-more is_inside 35 (signed_decimal d.0) refl (inside-number d.0 (sym (at_object is_made_step d) ∙ made))))
    (λ path value made p.
    let m : is_text path && is_text value ≡ true = sym (at_prop is_made_step path value) ∙ made in
    along (lock_written (Prop path value) p) (path ++ 58 ∷ value) (ap (λ f. f p) (at_prop written_step path value))
    (passes-append is_inside path (58 ∷ value) (inside-text path (and_first (is_text path) (is_text value) m))
    (passes-more is_inside 58 value refl (inside-text value (and_rest (is_text path) (is_text value) m)))))
    (λ a ha made p. along (lock_written (Not a) p) (33 ∷ lock_written a Term) (ap (λ f. f p) (at_not written_step a))
    (passes-more is_inside 33 (lock_written a Term) refl (ha (sym (at_not is_made_step a) ∙ made) Term)))
    (λ a b ha hb made p.
    let m : is_made a && is_made b ≡ true = sym (at_both is_made_step a b) ∙ made in
    along (lock_written (Both a b) p) (grouped (groups_both p) (lock_written a Term ++ 38 ∷ lock_written b AllOf)) (ap (λ f. f p) (at_both written_step a b))
    (inside-grouped (groups_both p) (lock_written a Term ++ 38 ∷ lock_written b AllOf)
    (passes-append is_inside (lock_written a Term) (38 ∷ lock_written b AllOf) (ha (and_first (is_made a) (is_made b) m) Term)
    (passes-more is_inside 38 (lock_written b AllOf) refl (hb (and_rest (is_made a) (is_made b) m) AllOf)))))
    (λ a b ha hb made p.
    let m : is_made a && is_made b ≡ true = sym (at_either is_made_step a b) ∙ made in
    along (lock_written (Either a b) p) (grouped (groups_either p) (lock_written a AllOf ++ 124 ∷ lock_written b OneOf)) (ap (λ f. f p) (at_either written_step a b))
    (inside-grouped (groups_either p) (lock_written a AllOf ++ 124 ∷ lock_written b OneOf)
    (passes-append is_inside (lock_written a AllOf) (124 ∷ lock_written b OneOf) (ha (and_first (is_made a) (is_made b) m) AllOf)
    (passes-more is_inside 124 (lock_written b OneOf) refl (hb (and_rest (is_made a) (is_made b) m) OneOf)))))
