-- The first place of a part in a text: what a search finds is what is meant.
use Rattle.std.proofs.Common.{◌≡◌, ℕ, ◌+◌, ◌<◌, ◌≤◌, zero, suc, true, false, List, [], ◌∷◌, length, take, drop, get_or, Some, None, sym, ap, subst, ◌∙◌, arith, ⊎_elim}
use Rattle.std.specs.Prelude.{Option, IfSome}
use Rattle.std.specs.Option.{option_map}
use Rattle.std.proofs.Math.Seq.{drop-cons}
use Rattle.std.proofs.lemmas.Bool.{cases_Bool, cases_eq, cond-true, cond-false, eq-eqb, ne_eqb, false≢true}
use Rattle.std.proofs.lemmas.List.{drop_all, length-take, length-drop}
use Rattle.std.proofs.lemmas.Slice.Eq.{bytes_eq-Decides}
use Rattle.muck_laws.proofs.Options.{mapped_on, mapped_zero}
use Rattle.memchr.specs.Find.{OccursAt, IsFirst, FindsNeedle}
use Rattle.memchr.proofs.lemmas.MatchLemmas.{OccursAt-part, OccursAt-from_part}
use Rattle.mpi.specs.Values.{begins_with, place_in_text}

-- a text without bytes has an empty part alone
pub place_empty : (part : List ℕ) → length part ≡ 0 → place_in_text [] part ≡ Some 0
unfolding place_in_text
place_empty part none = cond-true _ _ _ (eq-eqb (length part) 0 none)

pub place_end : (part : List ℕ) → (length part ≡ 0 → ⊥) → place_in_text [] part ≡ None
unfolding place_in_text
place_end part some = cond-false _ _ _ (ne_eqb (length part) 0 some)

-- a text that begins with the part, and one that doesn't
pub place_first : (b : ℕ) (more part : List ℕ) → begins_with (b ∷ more) part ≡ true → place_in_text (b ∷ more) part ≡ Some 0
unfolding place_in_text
place_first b more part h = cond-true _ _ _ h

pub place_other : (b : ℕ) (more part : List ℕ) → begins_with (b ∷ more) part ≡ false → place_in_text (b ∷ more) part ≡ option_map suc (place_in_text more part)
unfolding place_in_text
place_other b more part h = cond-false _ _ _ h

-- a part occurs at a place exactly where the text begins with it from there on
begins : (text part : List ℕ) (at : ℕ) → OccursAt text part at → begins_with (drop at text) part ≡ true
begins text part at h = (bytes_eq-Decides part (take (length part) (drop at text))).1 (sym (OccursAt-part text part at h))

occurs : (text part : List ℕ) (at : ℕ) → at ≤ length text → begins_with (drop at text) part ≡ true → OccursAt text part at
occurs text part at le h =
    let same : take (length part) (drop at text) ≡ part = sym ((bytes_eq-Decides part (take (length part) (drop at text))).0 h) in
    OccursAt-from_part text part at (omega (arith, le, ap length same, length-take (length part) (drop at text), length-drop at text)) same

-- the first place from a place on, as the definition has it
abbrev place_from : List ℕ → List ℕ → ℕ → Option ℕ
place_from text part at = option_map (λ k. at + k) (place_in_text (drop at text) part)

-- where the text begins with the part, its place is here
from_here : (text part : List ℕ) (at : ℕ) → at < length text → begins_with (drop at text) part ≡ true → place_from text part at ≡ Some (at + 0)
from_here text part at less h =
    let e = drop-cons text at 0 less in
    ap (λ xs. option_map (λ k. at + k) (place_in_text xs part)) e
    ∙ ap (option_map (λ k. at + k)) (place_first (get_or text at 0) (drop (suc at) text) part (ap (λ xs. begins_with xs part) (sym e) ∙ h))

-- where it doesn't, the place is behind or nowhere
from_behind : (text part : List ℕ) (at : ℕ) → at < length text → begins_with (drop at text) part ≡ false → place_from text part at ≡ place_from text part (suc at)
from_behind text part at less h =
    let e = drop-cons text at 0 less in
    ap (λ xs. option_map (λ k. at + k) (place_in_text xs part)) e
    ∙ ap (option_map (λ k. at + k)) (place_other (get_or text at 0) (drop (suc at) text) part (ap (λ xs. begins_with xs part) (sym e) ∙ h))
    ∙ mapped_on at (place_in_text (drop (suc at) text) part)

from_end : (text part : List ℕ) (at : ℕ) → length text ≤ at → place_from text part at ≡ option_map (λ k. at + k) (place_in_text [] part)
from_end text part at past = ap (λ xs. option_map (λ k. at + k) (place_in_text xs part)) (drop_all at text past)

-- what is found at the end of the text
found_end : (text part : List ℕ) (at : ℕ) (r : Option ℕ) → at ≡ length text → IsFirst (OccursAt text part) at (length text + 1) r → r ≡ option_map (λ k. at + k) (place_in_text [] part)
found_end text part at None e h =
    ⊎_elim
    (λ none. absurd (h at (omega arith) (omega arith) (record { fits = omega arith; reads = λ j less. absurd (omega arith) })))
    (λ some. sym (ap (option_map (λ k. at + k)) (place_end part some)))
    (cases_eq (length part) 0)
found_end text part at (Some k) e h =
    let low = h.0.low in
    let high = h.0.high in
    let fits = h.1.fits in
    let none : length part ≡ 0 = omega arith in
    let is : k ≡ at + 0 = omega arith in
    ap Some is ∙ sym (ap (option_map (λ k. at + k)) (place_empty part none))

-- what is found where the text begins with the part
found_here : (text part : List ℕ) (at : ℕ) (r : Option ℕ) → at < length text → begins_with (drop at text) part ≡ true → IsFirst (OccursAt text part) at (length text + 1) r → r ≡ Some (at + 0)
found_here text part at None less here h = absurd (h at (omega arith) (omega arith) (occurs text part at (omega arith) here))
found_here text part at (Some k) less here h =
    let low = h.0.low in
    let same : k ≡ at = ⊎_elim (λ q. q) (λ other. absurd (h.0.before at (omega arith) (omega arith) (occurs text part at (omega arith) here))) (cases_eq k at) in
    let is : k ≡ at + 0 = omega arith in
    ap Some is

-- where it doesn't, the same is found from the next place on
found_behind : (text part : List ℕ) (at most : ℕ) (r : Option ℕ) → begins_with (drop at text) part ≡ false → IsFirst (OccursAt text part) at most r → IsFirst (OccursAt text part) (suc at) most r
found_behind text part at most None other h = λ q a b. h q (omega arith) b
found_behind text part at most (Some k) other h =
    let low = h.0.low in
    let high = h.0.high in
    let away : k ≡ at → ⊥ = λ same. false≢true (sym other ∙ begins text part at (subst (OccursAt text part) same h.1)) in
    (record { low = omega arith; high = omega arith; before = λ q a b. h.0.before q (omega arith) b }, h.1)

found_from : (text part : List ℕ) (n at : ℕ) (r : Option ℕ) → at + n ≡ length text → IsFirst (OccursAt text part) at (length text + 1) r → r ≡ place_from text part at
found_from text part zero at r e h = found_end text part at r (omega (arith, e)) h ∙ sym (from_end text part at (omega (arith, e)))
found_from text part (suc n) at r e h =
    ⊎_elim
    (λ here. found_here text part at r (omega (arith, e)) here h ∙ sym (from_here text part at (omega (arith, e)) here))
    (λ other. found_from text part n (suc at) r (omega (arith, e)) (found_behind text part at (length text + 1) r other h) ∙ sym (from_behind text part at (omega (arith, e)) other))
    (cases_Bool (begins_with (drop at text) part))

pub found_first : (text part : List ℕ) (r : Option ℕ) → FindsNeedle text part 0 r → r ≡ place_in_text text part
found_first text part r h = found_from text part (length text) 0 r (omega arith) h ∙ mapped_zero (place_in_text text part)

pub found_within : (text part : List ℕ) (r : Option ℕ) → FindsNeedle text part 0 r → IfSome r (λ n. n ≤ length text)
found_within text part None h = tt
found_within text part (Some k) h = let high = h.0.high in omega arith

pub ruleset place_steps = (found_first, found_within)
