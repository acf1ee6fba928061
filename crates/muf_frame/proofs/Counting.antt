-- The innermost mark changed in place.
use Rattle.std.proofs.Common.{◌≡◌, ◌<◌, ◌-◌, ◌+◌, ℕ, List, [], ◌∷◌, length, map, take, drop, reverse, slice_index_or, slice_set, Option, ℤ, refl, sym, ap, ◌∙◌, arith}
use Rattle.std.proofs.lemmas.List.{take-set, drop-set, drop_more, drop_all}
use Rattle.muck_laws.proofs.Turned.{reversed_last}
use Rattle.muf_frame.specs.declared.mark.Mark.{Mark}
use Rattle.muf_frame.specs.declared.mark.Mark.TheVariants.{Loop, Guard, Back, Leave}
use Rattle.muf_frame.specs.declared.mark.Turns.TheVariants.{Plain, Indices, Values, Pairs}
use Rattle.muf_frame.specs.inner.Shown.{flat_mark, locked_by, calls_by, opened_by, GuardsFit}
use Rattle.muf_frame.specs.inner.Counting.{counting, with_next}

pub counted_in_place : (next : Option ℤ) (n : ℕ) (xs : List Mark) (m w : Mark) → n ≡ length xs → 0 < n → m ≡ slice_index_or xs (n - 1) m → w ≡ counting next m → reverse (slice_set xs (n - 1) w) ≡ with_next next (reverse xs)
counted_in_place next n xs m w e p r c =
    let h : n - 1 < length xs = omega (arith, e, p) in
    let z : drop (n - 1 + 1) xs ≡ [] = drop_all (n - 1 + 1) xs (omega (arith, e, p)) in
    let old : drop (n - 1) xs ≡ m ∷ [] = drop_more xs (n - 1) m h ∙ ap (λ x. x ∷ drop (n - 1 + 1) xs) (sym r) ∙ ap (λ l. m ∷ l) z in
    let new : drop (n - 1) (slice_set xs (n - 1) w) ≡ w ∷ [] = drop-set xs (n - 1) w h ∙ ap (λ l. w ∷ l) z in
    reversed_last (n - 1) (slice_set xs (n - 1) w) w new
    ∙ ap (λ l. w ∷ reverse l) (take-set xs (n - 1) w)
    ∙ ap (λ x. x ∷ reverse (take (n - 1) xs)) c
    ∙ sym (ap (with_next next) (reversed_last (n - 1) xs m old))

-- what a loop counts is nothing that the frame keeps account of
abbrev pub Kept : List Mark → List Mark → Type 0
Kept old new =
    (locked_by (map flat_mark old) ≡ locked_by (map flat_mark new))
    × (calls_by (map flat_mark old) ≡ calls_by (map flat_mark new))
    × (opened_by (map flat_mark old) ≡ opened_by (map flat_mark new))
    × (GuardsFit old → GuardsFit new)

pub next_kept : (next : Option ℤ) (ms : List Mark) → Kept ms (with_next next ms)
next_kept next [] = (refl, refl, refl, λ g. g)
next_kept next (Loop Plain again after ∷ ms) = (refl, refl, refl, λ g. g)
next_kept next (Loop (Indices index last step) again after ∷ ms) = (refl, refl, refl, λ g. g)
next_kept next (Loop (Values of at) again after ∷ ms) = (refl, refl, refl, λ g. g)
next_kept next (Loop (Pairs of at) again after ∷ ms) = (refl, refl, refl, λ g. g)
next_kept next (Guard locked outer handler ∷ ms) = (refl, refl, refl, λ g. g)
next_kept next (Back base place ∷ ms) = (refl, refl, refl, λ g. g)
next_kept next (Leave caller base place ∷ ms) = (refl, refl, refl, λ g. g)

-- and so the frame's account of its marks still holds
pub counted_fits : (next : Option ℤ) (old new : List Mark) → new ≡ with_next next old → Kept old new
counted_fits next old new e = rw e (next_kept next old)
