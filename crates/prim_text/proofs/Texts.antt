-- Texts that are made of texts and numbers are texts.
use Rattle.std.proofs.Common.{◌≡◌, ℕ, ◌<◌, ◌≤◌, ◌^◌, zero, suc, Bool, true, cond, List, [], ◌∷◌, ◌++◌, length, map, take, drop, Some, None, refl, inl, inr, arith}
use Rattle.std.specs.Prelude.{ℤ, pos, negsuc}
use Rattle.std.specs.Char.{to_ascii_lowercase, to_ascii_uppercase}
use Rattle.std.specs.List.{position_or_len}
use Rattle.std.specs.Fmt.{decimal, signed_decimal}
use Rattle.std.specs.Int.Signed.{mag}
use Rattle.std.proofs.lemmas.Bool.{cases_lt, lt-ltb, le-ltb}
use Rattle.std.proofs.lemmas.List.{length-take, length-drop, take_all, drop_all}
use Rattle.std.proofs.lemmas.List.Sums.{prefix_len-le-length}
use Rattle.muck_model.specs.Bytes.{is_outside, fault_of_bytes, text_fault, text_most}
use Rattle.muf_model.proofs.FaultTexts.{is_inside, IsInside, inside-append, inside-cons, inside-first, inside-decimal, from_inside}

pub to_inside : (xs : List ℕ) → text_fault xs ≡ None → IsInside xs
to_inside xs h =
    elim (cases_lt (position_or_len is_outside xs) (length xs)) [
      | inl inside ↦ absurd (let e : fault_of_bytes (cond true (Some (position_or_len is_outside xs)) None) (length xs) ≡ None = rw (lt-ltb (position_or_len is_outside xs) (length xs) inside) at h in cc)
      | inr past ↦ omega (arith, past, prefix_len-le-length is_inside xs)
    ]

short_text : (xs : List ℕ) → text_fault xs ≡ None → length xs ≤ text_most
short_text xs h =
    let past : length xs ≤ position_or_len is_outside xs = omega (arith, to_inside xs h) in
    let whole : fault_of_bytes None (length xs) ≡ None = rw (le-ltb (position_or_len is_outside xs) (length xs) past) at h in
    elim (cases_lt text_most (length xs)) [
      | inl over ↦ absurd (let e : Some text_most ≡ None = rw (lt-ltb text_most (length xs) over) at whole in cc)
      | inr le ↦ le
    ]

inside-take : (n : ℕ) (xs : List ℕ) → IsInside xs → IsInside (take n xs)
inside-take zero xs h = refl
inside-take (suc n) [] h = refl
inside-take (suc n) (x ∷ xs) h = let f = inside-first x xs h in inside-cons x (take n xs) f.0 (inside-take n xs f.1)

inside-drop : (n : ℕ) (xs : List ℕ) → IsInside xs → IsInside (drop n xs)
inside-drop zero xs h = h
inside-drop (suc n) [] h = refl
inside-drop (suc n) (x ∷ xs) h = let f = inside-first x xs h in inside-drop n xs f.1

-- a part of a text is a text
pub text-take : (n : ℕ) (xs : List ℕ) → text_fault xs ≡ None → text_fault (take n xs) ≡ None
text-take n xs h = from_inside (take n xs) (inside-take n xs (to_inside xs h)) (omega (arith, length-take n xs, short_text xs h))

pub text-drop : (n : ℕ) (xs : List ℕ) → text_fault xs ≡ None → text_fault (drop n xs) ≡ None
text-drop n xs h = from_inside (drop n xs) (inside-drop n xs (to_inside xs h)) (omega (arith, length-drop n xs, short_text xs h))

pub ruleset part_steps = (text-take, text-drop)

-- the bytes of a part, and of a text in another case
pub take_inside : (n : ℕ) (xs : List ℕ) → text_fault xs ≡ None → IsInside (take n xs)
take_inside n xs h = inside-take n xs (to_inside xs h)

pub drop_inside : (n : ℕ) (xs : List ℕ) → text_fault xs ≡ None → IsInside (drop n xs)
drop_inside n xs h = inside-drop n xs (to_inside xs h)

pub middle_inside : (n p : ℕ) (xs : List ℕ) → text_fault xs ≡ None → IsInside (take n (drop p xs))
middle_inside n p xs h = inside-take n (drop p xs) (drop_inside p xs h)

mapped_inside : (f : ℕ → ℕ) → ((b : ℕ) → is_inside b ≡ true → is_inside (f b) ≡ true) → (xs : List ℕ) → IsInside xs → IsInside (map f xs)
mapped_inside f keeps [] h = refl
mapped_inside f keeps (x ∷ xs) h = let p = inside-first x xs h in inside-cons (f x) (map f xs) (keeps x p.0) (mapped_inside f keeps xs p.1)

upper_keeps : (b : ℕ) → is_inside b ≡ true → is_inside (to_ascii_uppercase b) ≡ true
upper_keeps b h = grind arith

lower_keeps : (b : ℕ) → is_inside b ≡ true → is_inside (to_ascii_lowercase b) ≡ true
lower_keeps b h = grind arith

pub upper_inside : (xs : List ℕ) → text_fault xs ≡ None → IsInside (map to_ascii_uppercase xs)
upper_inside xs h = mapped_inside to_ascii_uppercase upper_keeps xs (to_inside xs h)

pub lower_inside : (xs : List ℕ) → text_fault xs ≡ None → IsInside (map to_ascii_lowercase xs)
lower_inside xs h = mapped_inside to_ascii_lowercase lower_keeps xs (to_inside xs h)

pub joined_inside : (s t : List ℕ) → text_fault s ≡ None → text_fault t ≡ None → IsInside (s ++ t)
joined_inside s t h k = inside-append s t (to_inside s h) (to_inside t k)

pub ruleset row_steps = (take_inside, drop_inside, middle_inside, upper_inside, lower_inside, joined_inside, to_inside)

pub ruleset end_steps = (take_all, drop_all)

pub inside_number : (z : ℤ) → mag z < 2 ^ 32 → IsInside (signed_decimal z)
inside_number (pos n) h = inside-decimal n (omega (arith, h))
inside_number (negsuc n) h = inside-cons 45 (decimal (suc n)) refl (inside-decimal (suc n) (omega (arith, h)))

-- bytes that may stand in a text, and not too many of them
pub made_is_text : (bytes : List ℕ) → IsInside bytes → length bytes ≤ text_most → text_fault bytes ≡ None
made_is_text bytes h le = from_inside bytes h le
