-- Lemmas on what was read so far.
use Rattle.std.proofs.Common.{◌≡◌, ℕ, ◌+◌, ◌<◌, ◌≤◌, List, ◌++◌, length, drop, refl, sym, ◌∙◌, ap, subst, arith, Option, Some, None}
use Rattle.std.proofs.lemmas.List.{drop_at}
use Rattle.muck_laws.proofs.Lists.{length_both}
use Rattle.muck_laws.proofs.Parts.{drop_both}
use Rattle.muck_io.specs.Faults.{Rose}
use Rattle.muck_io.specs.Source.{Gives, TookFront, BrokeReading}

-- what was read so far, with what is left, was left before
abbrev pub IsPartRead : Option (List ℕ) → Option (List ℕ) → List ℕ → Type 0
IsPartRead None now bytes = Unit {0}
IsPartRead (Some left) now bytes = (rest : List ℕ) × (now ≡ Some rest) × (bytes ++ rest ≡ left)

-- a part was read, and n bytes more were taken
pub took_more : (a b c : Option (List ℕ)) (xs buf : List ℕ) (n most : ℕ) → IsPartRead a b xs → Gives b c n buf → length xs + n ≤ most → TookFront a c most
took_more None b c xs buf n most p g h = tt
took_more (Some left) b c xs buf n most p g h =
    let G : Option (List ℕ) → Type 0 = λ o. Gives o c n buf in
    let given : Gives (Some p.0) c n buf = subst G p.1 g in
    (length xs + n, h, length_both xs p.0 left n p.2 given.0, given.2 ∙ ap Some (drop_both xs p.0 left n p.2))

-- a part was read
pub took_part : (a b : Option (List ℕ)) (xs : List ℕ) (most : ℕ) → IsPartRead a b xs → length xs ≤ most → TookFront a b most
took_part None b xs most p h = tt
took_part (Some left) b xs most p h =
    let whole : length xs + 0 ≤ length left = length_both xs p.0 left 0 p.2 (omega arith) in
    let rest : p.0 ≡ drop (length xs) left = sym (drop_at xs p.0 (length xs) refl) ∙ ap (drop (length xs)) p.2 in
    (length xs, h, omega (arith, whole), p.1 ∙ ap Some rest)

-- a read failed where a part was read
pub broke_reading :
    (S : Type 0) (left : S → Option (List ℕ)) (faults : S → ℕ) (before last now : S) (xs : List ℕ) (most : ℕ)
    → IsPartRead (left before) (left last) xs → length xs < most → faults last ≡ faults before
    → Rose (faults last) (faults now) → left now ≡ left last
    → BrokeReading S left faults before now most
broke_reading S left faults before last now xs most p below fine rose still = record {
  last = last;
  bound = length xs;
  below = below;
  front = took_part (left before) (left last) xs (length xs) p (omega arith);
  fine = fine;
  rose = rose;
  still = still;
}
