-- Bytes of lines may stand in texts.
use Rattle.std.proofs.Common.{◌≡◌, ℕ, zero, suc, ◌+◌, ◌<◌, ◌^◌, true, cond, List, [], ◌∷◌, ◌++◌, length, map, take, get_or, Some, None, inl, inr, refl, ap, sym, ◌∙◌, subst, arith}
use Rattle.std.specs.Prelude.{ℤ, pos, negsuc, codes}
use lib.Signed.{mag}
use Rattle.std.specs.List.{position_or_len}
use Rattle.std.specs.Fmt.{decimal, signed_decimal}
use Rattle.std.proofs.lemmas.Bool.{cases_lt, lt-ltb}
use Rattle.std.proofs.lemmas.List.{append-nil, append_assoc, map-append, length-take, take_more}
use Rattle.std.proofs.lemmas.List.Sums.{prefix_len-le-length}
use Rattle.muck_model.specs.Bytes.{is_outside, text_most, fault_of_bytes, text_fault}
use Rattle.muf_model.specs.declared.value.Value.{Value}
use Rattle.muf_model.specs.Datum.{Datum}
use Rattle.muf_model.specs.inner.View.{view}
use Rattle.muf_model.proofs.FaultTexts.{is_inside, inside-cons, inside-append, inside-decimal, inside-first, from_inside}
use Rattle.muf_debug.specs.declared.view.View.{View}
use Rattle.muf_debug.specs.Printed.{numbers_text, head_text, item_text, values_text, scope_text, top_of, view_printed}
use Rattle.muf_debug.specs.inner.Printing.{AreInside}

-- those of a text may
pub to_inside : (xs : List ℕ) → text_fault xs ≡ None → AreInside xs
to_inside xs h =
    elim (cases_lt (position_or_len is_outside xs) (length xs)) [
      | inl within ↦ absurd (let e : fault_of_bytes (cond true (Some (position_or_len is_outside xs)) None) (length xs) ≡ None = rw (lt-ltb (position_or_len is_outside xs) (length xs) within) at h in cc)
      | inr past ↦ omega (arith, past, prefix_len-le-length is_inside xs)
    ]

-- those of a front of them
front_inside : (n : ℕ) (xs : List ℕ) → AreInside xs → AreInside (take n xs)
front_inside zero xs h = refl
front_inside (suc n) [] h = refl
front_inside (suc n) (x ∷ xs) h = let parts = inside-first x xs h in inside-cons x (take n xs) parts.0 (front_inside n xs parts.1)

-- those of a number
pub int_inside : (z : ℤ) → mag z < 2 ^ 63 → AreInside (signed_decimal z)
int_inside (pos n) h = inside-decimal n (omega (arith, h))
int_inside (negsuc n) h = inside-cons 45 (decimal (suc n)) refl (inside-decimal (suc n) (omega (arith, h)))

pub object_inside : (z : ℤ) → mag z < 2 ^ 63 → AreInside (codes "#" ++ signed_decimal z)
object_inside z h = inside-append (codes "#") (signed_decimal z) refl (int_inside z h)

pub quoted_inside : (t : List ℕ) → text_fault t ≡ None → AreInside (codes "\"" ++ (t ++ codes "\""))
quoted_inside t h = inside-append (codes "\"") (t ++ codes "\"") refl (inside-append t (codes "\"") (to_inside t h) refl)

pub numbers_inside : (pid program : ℤ) (line depth : ℕ) → mag pid < 2 ^ 63 → mag program < 2 ^ 63 → line < 2 ^ 64 → depth < 2 ^ 64 → AreInside (numbers_text pid program line depth)
numbers_inside pid program line depth p q l d =
    inside-append (codes "! ") _ refl (inside-append (signed_decimal pid) _ (int_inside pid p)
    (inside-append (codes " #") _ refl (inside-append (signed_decimal program) _ (int_inside program q)
    (inside-append (codes " ") _ refl (inside-append (decimal line) _ (inside-decimal line l)
    (inside-append (codes " ") _ refl (inside-decimal depth d)))))))

-- a value more
pub values_more : (ds : List Datum) (d : Datum) → values_text (ds ++ d ∷ []) ≡ values_text ds ++ (codes " " ++ item_text d)
values_more [] d = ap (λ t. codes " " ++ t) (append-nil (item_text d))
values_more (e ∷ ds) d =
    ap (λ t. codes " " ++ (item_text e ++ t)) (values_more ds d)
    ∙ ap (λ t. codes " " ++ t) (sym (append_assoc (item_text e) (values_text ds) (codes " " ++ item_text d)))

-- and it may stand there too
pub more_inside : (ds : List Datum) (d : Datum) → AreInside (values_text ds) → AreInside (item_text d) → AreInside (values_text (ds ++ d ∷ []))
more_inside ds d h k =
    subst AreInside (sym (values_more ds d)) (inside-append (values_text ds) (codes " " ++ item_text d) h (inside-append (codes " ") (item_text d) refl k))

-- the first values and one more
pub taken_more : (vs : List Value) (at : ℕ) (v : Value) → at < length vs → v ≡ get_or vs at v → map view (take (at + 1) vs) ≡ map view (take at vs) ++ view v ∷ []
taken_more vs at v within is =
    ap (map view) (take_more vs at v within ∙ ap (λ x. take at vs ++ x ∷ []) (sym is)) ∙ map-append view (take at vs) (v ∷ [])

pub pushed_more : (old bytes text after : List ℕ) (vs : List Value) (at : ℕ) (v : Value) → at < length vs → v ≡ get_or vs at v → bytes ≡ old ++ values_text (map view (take at vs))
    → text ≡ item_text (view v) → after ≡ (bytes ++ codes " ") ++ text → after ≡ old ++ values_text (map view (take (at + 1) vs))
pushed_more old bytes text after vs at v within is before same e =
    e ∙ append_assoc bytes (codes " ") text
    ∙ ap (λ t. bytes ++ (codes " " ++ t)) same
    ∙ ap (λ t. t ++ (codes " " ++ item_text (view v))) before
    ∙ append_assoc old (values_text (map view (take at vs))) (codes " " ++ item_text (view v))
    ∙ ap (λ t. old ++ t) (sym (values_more (map view (take at vs)) (view v)) ∙ sym (ap values_text (taken_more vs at v within is)))

pub kept_inside : (vs : List Value) (at : ℕ) (v : Value) → at < length vs → v ≡ get_or vs at v → AreInside (values_text (map view (take at vs))) → AreInside (item_text (view v)) → AreInside (values_text (map view (take (at + 1) vs)))
kept_inside vs at v within is h k = subst (λ ds. AreInside (values_text ds)) (sym (taken_more vs at v within is)) (more_inside (map view (take at vs)) (view v) h k)

-- a front of a line is a text
pub cut_is_text : (xs : List ℕ) → AreInside xs → text_fault (take text_most xs) ≡ None
cut_is_text xs h = from_inside (take text_most xs) (front_inside text_most xs h) (omega (arith, length-take text_most xs))

-- the whole line
abbrev whole_text : View → List ℕ
whole_text v = head_text v ++ (values_text (top_of v.stack) ++ scope_text v.scope)

pub line_cut : (v : View) (head more whole cut : List ℕ) → head ≡ head_text v → more ≡ head ++ values_text (top_of v.stack) → whole ≡ more ++ scope_text v.scope → cut ≡ take text_most whole → cut ≡ view_printed v
line_cut v head more whole cut h m w c =
    c ∙ ap (take text_most) (w ∙ ap (λ t. t ++ scope_text v.scope) (m ∙ ap (λ t. t ++ values_text (top_of v.stack)) h) ∙ append_assoc (head_text v) (values_text (top_of v.stack)) (scope_text v.scope))

pub line_is_text : (v : View) → AreInside (head_text v) → AreInside (values_text (top_of v.stack)) → AreInside (scope_text v.scope) → text_fault (view_printed v) ≡ None
line_is_text v h k l =
    cut_is_text (whole_text v) (inside-append (head_text v) _ h (inside-append (values_text (top_of v.stack)) (scope_text v.scope) k l))
