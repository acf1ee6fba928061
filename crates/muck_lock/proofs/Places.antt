-- The first place that passes a test, and texts inside texts.
use Rattle.std.proofs.Common.{◌≡◌, ℕ, ◌<◌, ◌≤◌, Bool, true, cond, List, length, take, drop, Some, None, refl, sym, ◌∙◌, inl, inr, arith}
use Rattle.std.specs.Prelude.{not}
use Rattle.std.specs.List.{position_or_len}
use Rattle.std.proofs.lemmas.Bool.{cases_lt, lt-ltb, le-ltb}
use Rattle.std.proofs.lemmas.List.{length-take, length-drop}
use Rattle.std.proofs.lemmas.List.Sums.{prefix_len-le-length}
use Rattle.muck_model.specs.inner.Text.{IsTextOrFault}
use Rattle.muck_model.specs.declared.line.LineFault.{LineFault}
use Rattle.muck_model.specs.declared.line.LineFault.TheVariants.{NotLine, NoMemory}
use Rattle.std.proofs.Common.{Err}
use Rattle.muck_lock.proofs.Passes.{Passes, passes-take, passes-drop}
use Rattle.muck_model.specs.Bytes.{is_outside, text_most, fault_of_bytes, text_fault}

abbrev pub is_inside : ℕ → Bool
is_inside b = not (is_outside b)

-- all bytes are those of texts, and not too many
IsClean : List ℕ → Type 0
IsClean xs = Passes is_inside xs × (length xs ≤ text_most)

short_from : (n : ℕ) → fault_of_bytes None n ≡ None → n ≤ text_most
short_from n h =
    elim (cases_lt text_most n) [
      | inl over ↦ absurd (let e : Some text_most ≡ None = rw (lt-ltb text_most n over) at h in cc)
      | inr le ↦ le
    ]

no_fault : (n : ℕ) → n ≤ text_most → fault_of_bytes None n ≡ None
no_fault n le = rw (le-ltb text_most n le) refl

clean_from : (xs : List ℕ) → text_fault xs ≡ None → IsClean xs
unfolding IsClean
clean_from xs h =
    elim (cases_lt (position_or_len is_outside xs) (length xs)) [
      | inl inside ↦ absurd (let e : fault_of_bytes (cond true (Some (position_or_len is_outside xs)) None) (length xs) ≡ None = rw (lt-ltb (position_or_len is_outside xs) (length xs) inside) at h in cc)
      | inr past ↦ (omega (arith, past, prefix_len-le-length is_inside xs), short_from (length xs) (rw (le-ltb (position_or_len is_outside xs) (length xs) past) at h))
    ]

text_from : (xs : List ℕ) → IsClean xs → text_fault xs ≡ None
unfolding IsClean
text_from xs h =
    let past : length xs ≤ position_or_len is_outside xs = omega (arith, h.0) in
    rw (le-ltb (position_or_len is_outside xs) (length xs) past) (no_fault (length xs) h.1)

-- a part of a text is a text
pub text_fault-take : (n : ℕ) (xs : List ℕ) → text_fault xs ≡ None → text_fault (take n xs) ≡ None
unfolding IsClean
text_fault-take n xs h =
    let c : IsClean xs = clean_from xs h in
    text_from (take n xs) (passes-take is_inside n xs c.0, omega (arith, c.1, length-take n xs))

pub text_fault-drop : (n : ℕ) (xs : List ℕ) → text_fault xs ≡ None → text_fault (drop n xs) ≡ None
unfolding IsClean
text_fault-drop n xs h =
    let c : IsClean xs = clean_from xs h in
    text_from (drop n xs) (passes-drop is_inside n xs c.0, omega (arith, c.1, length-drop n xs))

pub ruleset parts_of_texts = (text_fault-take, text_fault-drop)

-- a text has its bytes alone
pub inside_from : (xs : List ℕ) → text_fault xs ≡ None → Passes is_inside xs
unfolding IsClean
inside_from xs h = let c : IsClean xs = clean_from xs h in c.0

-- bytes of texts that are no text are too many
pub too_many : (xs : List ℕ) (fault : LineFault) → Passes is_inside xs → IsTextOrFault xs (Err fault) → text_most < length xs
unfolding IsClean
too_many xs (NotLine at) inside h =
    elim (cases_lt text_most (length xs)) [
      | inl over ↦ over
      | inr le ↦ absurd (let e : None ≡ Some at = sym (text_from xs (inside, le)) ∙ h in cc)
    ]
too_many xs NoMemory inside h = absurd h
