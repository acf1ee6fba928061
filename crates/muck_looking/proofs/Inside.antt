-- What is shown of objects are bytes of texts.
use Rattle.std.proofs.Common.{◌≡◌, ℕ, zero, suc, ◌<◌, ◌^◌, Bool, true, false, cond, List, [], ◌∷◌, ◌++◌, None, refl, arith}
use Rattle.std.specs.Prelude.{codes, decimal}
use Rattle.std.specs.List.{filter}
use Rattle.std.proofs.lemmas.List.{length-take}
use Rattle.muck_model.specs.Bytes.{text_most, text_fault}
use Rattle.muck_model.specs.Decimal.{is_digit}
use Rattle.muck_model.specs.declared.dbref.Kind.{Kind}
use Rattle.muck_model.specs.declared.dbref.Kind.TheVariants.{Room, Thing, Exit, Player, Program, Garbage}
use Rattle.muck_model.proofs.Decimals.{digits_of}
use Rattle.muck_model.proofs.Texts.{text_if}
use Rattle.muck_lock.proofs.Passes.{Passes, passes-parts, passes-more, passes-append, passes-take, passes-all}
use Rattle.muck_lock.proofs.Places.{is_inside, inside_from}
use Rattle.spec_live.specs.declared.object.Object.{Object}
use Rattle.spec_live.specs.Flags.{has_flag, flag_of}
use Rattle.spec_live.specs.Seen.{kind_letter, flag_letters, level_letters, long_form}
use Rattle.muck_looking.specs.Looks.{line_shortened}
use Rattle.muck_looking.specs.inner.Inside.{AreInside}

-- what is cut of them is a text
pub cut_text : (bytes : List ℕ) → AreInside bytes → text_fault (line_shortened bytes) ≡ None
cut_text bytes h = text_if (line_shortened bytes) (omega (arith, passes-take is_inside text_most bytes h)) (omega (arith, length-take text_most bytes))

pub inside_both : (xs ys : List ℕ) → text_fault xs ≡ None → text_fault ys ≡ None → AreInside (xs ++ ys)
inside_both xs ys h k = passes-append is_inside xs ys (inside_from xs h) (inside_from ys k)

digit_inside : (b : ℕ) → is_digit b ≡ true → is_inside b ≡ true
digit_inside b h = grind arith

inside_decimal : (n : ℕ) → n < 2 ^ 64 → AreInside (decimal n)
inside_decimal n l = passes-all is_digit is_inside (decimal n) digit_inside (digits_of n l)

passes_filter : (q p : ℕ → Bool) (xs : List ℕ) → Passes q xs → Passes q (filter p xs)
passes_filter q p [] h = refl
passes_filter q p (x ∷ xs) h =
    let parts = passes-parts q x xs h in
    let rest = passes_filter q p xs parts.1 in
    elim (p x) as (λ b. Passes q (cond b (x ∷ filter p xs) (filter p xs))) [
      | true ↦ passes-more q x (filter p xs) parts.0 rest
      | false ↦ rest
    ]

inside_kind : (kind : Kind) → AreInside (kind_letter kind)
inside_kind Room = refl
inside_kind Thing = refl
inside_kind Exit = refl
inside_kind Player = refl
inside_kind Program = refl
inside_kind Garbage = refl

inside_level : (n : ℕ) → n < 2 ^ 64 → AreInside (level_letters n)
inside_level zero l = refl
inside_level (suc n) l = passes-more is_inside 77 (decimal (suc n)) refl (inside_decimal (suc n) l)

-- the long form of an object
pub inside_form : (n : ℕ) (o : Object) → n < 2 ^ 64 → o.level < 2 ^ 64 → text_fault o.name ≡ None → AreInside (long_form n o)
unfolding long_form flag_letters
inside_form n o l m h =
    let level = passes-append is_inside (level_letters o.level) (codes ")") (inside_level o.level m) refl in
    let set : ℕ → Bool = λ letter. has_flag (flag_of letter) o.flags in
    let flags = passes-append is_inside (filter set (codes "ABCDHJKLQSVWXZ")) (level_letters o.level ++ codes ")") (passes_filter is_inside set (codes "ABCDHJKLQSVWXZ") refl) level in
    let kind = passes-append is_inside (kind_letter o.kind) _ (inside_kind o.kind) flags in
    let number = passes-append is_inside (decimal n) _ (inside_decimal n l) kind in
    let mark = passes-append is_inside (codes "(#") _ refl number in
    passes-append is_inside o.name _ (inside_from o.name h) mark
