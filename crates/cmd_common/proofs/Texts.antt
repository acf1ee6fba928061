-- Parts of texts are texts.
use Rattle.std.proofs.Common.{◌≡◌, ℕ, suc, ◌+◌, Bool, true, false, cond, List, [], ◌∷◌, take, None, refl, sym, subst, ap}
use Rattle.std.specs.List.{before_first, after_first, position_or_len}
use Rattle.muck_model.specs.Bytes.{text_fault}
use Rattle.muck_lock.proofs.Places.{text_fault-take, text_fault-drop}
use Rattle.spec_commands.specs.Texts.{is_space, start_trimmed, before_trimmed, end_trimmed, trimmed}
use Rattle.spec_commands.specs.declared.shape.Form.{Form}
use Rattle.spec_commands.specs.declared.shape.Form.TheVariants.{Any, One, Two, Full, OneOrFull}
use Rattle.spec_commands.specs.Reading.{is_equals, left_part, right_part, has_equals, left_in, right_in}

abbrev IsLine : List ℕ → Type 0
IsLine xs = text_fault xs ≡ None

start_text : (xs : List ℕ) → IsLine xs → IsLine (start_trimmed xs)
start_text [] h = h
start_text (b ∷ xs) h =
    elim (is_space b) as (λ c. IsLine (cond c (start_trimmed xs) (b ∷ xs))) [
      | true ↦ start_text xs (text_fault-drop 1 (b ∷ xs) h)
      | false ↦ h
    ]

-- a front of a list
record IsFront (ys xs : List ℕ) : Type 0 where
  count : ℕ
  front : ys ≡ take count xs

front_after : (b : ℕ) (ys xs : List ℕ) → IsFront ys xs → IsFront (before_trimmed b ys) (b ∷ xs)
front_after b [] xs h =
    elim (is_space b) as (λ c. IsFront (cond c [] (b ∷ [])) (b ∷ xs)) [
      | true ↦ record { count = 0; front = refl }
      | false ↦ record { count = 1; front = refl }
    ]
front_after b (c ∷ ys) xs h = record { count = suc h.count; front = ap (λ l. b ∷ l) h.front }

end_front : (xs : List ℕ) → IsFront (end_trimmed xs) xs
end_front [] = record { count = 0; front = refl }
end_front (b ∷ xs) = front_after b (end_trimmed xs) xs (end_front xs)

pub trimmed_text : (xs : List ℕ) → text_fault xs ≡ None → text_fault (trimmed xs) ≡ None
trimmed_text xs h =
    let ys : List ℕ = start_trimmed xs in
    let e : IsFront (end_trimmed ys) ys = end_front ys in
    subst IsLine (sym e.front) (text_fault-take e.count ys (start_text xs h))

pub before_text : (p : ℕ → Bool) (xs : List ℕ) → text_fault xs ≡ None → text_fault (before_first p xs) ≡ None
before_text p xs h = text_fault-take (position_or_len p xs) xs h

pub after_text : (p : ℕ → Bool) (xs : List ℕ) → text_fault xs ≡ None → text_fault (after_first p xs) ≡ None
after_text p xs h = text_fault-drop (position_or_len p xs + 1) xs h

left_part_text : (xs : List ℕ) → text_fault xs ≡ None → text_fault (left_part xs) ≡ None
left_part_text xs h = trimmed_text (before_first is_equals xs) (before_text is_equals xs h)

right_part_text : (xs : List ℕ) → text_fault xs ≡ None → text_fault (right_part xs) ≡ None
right_part_text xs h = trimmed_text (after_first is_equals xs) (after_text is_equals xs h)

either_text : (b : Bool) (xs ys : List ℕ) → text_fault xs ≡ None → text_fault ys ≡ None → text_fault (cond b xs ys) ≡ None
either_text true xs ys p q = p
either_text false xs ys p q = q

pub left_text : (form : Form) (xs : List ℕ) → text_fault xs ≡ None → text_fault (left_in form xs) ≡ None
left_text Any xs h = h
left_text One xs h = h
left_text Two xs h = left_part_text xs h
left_text Full xs h = left_part_text xs h
left_text OneOrFull xs h = either_text (has_equals xs) _ _ (left_part_text xs h) h

pub right_text : (form : Form) (xs : List ℕ) → text_fault xs ≡ None → text_fault (right_in form xs) ≡ None
right_text Any xs h = refl
right_text One xs h = refl
right_text Two xs h = right_part_text xs h
right_text Full xs h = right_part_text xs h
right_text OneOrFull xs h = either_text (has_equals xs) _ _ (right_part_text xs h) refl

pub ruleset parts_are_texts = (trimmed_text, before_text, after_text, text_fault-drop, left_text, right_text)
