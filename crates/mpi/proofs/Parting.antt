-- Where a part of a text ends that has neither a `{` nor a `\`.
use Rattle.std.proofs.Common.{◌≡◌, ℕ, ◌+◌, ◌-◌, ◌<◌, ◌≤◌, suc, Bool, true, false, cond, List, [], ◌∷◌, length, drop, get_or, refl, sym, ap, ◌∙◌, arith}
use Rattle.std.specs.Prelude.{◌==◌}
use Rattle.std.proofs.Math.Seq.{drop-cons}
use Rattle.std.proofs.lemmas.Bool.{cond-true, cond-false}
use Rattle.std.proofs.lemmas.List.{drop_all}
use Rattle.mpi.specs.Brackets.{scan_begun, byte_passed, part_len}
use Rattle.mpi.specs.declared.brackets.Scan.{Scan}

-- a byte that opens nothing leaves a scan as it was where it began
plain_passed : (b : ℕ) → (b == 123) ≡ false → (b == 92) ≡ false → byte_passed b scan_begun ≡ scan_begun
plain_passed b opens escapes =
    let none : cond (b == 125) (0 - 1) 0 ≡ 0 = elim (b == 125) as (λ c. cond c (0 - 1) 0 ≡ 0) [ true ↦ refl | false ↦ refl ] in
    let deep : cond (b == 123) (0 + 1) (cond (b == 125) (0 - 1) 0) ≡ 0 = cond-false _ _ _ opens ∙ none in
    λ i. record { deep = deep i; escaped = escapes i }

part_here : (wanted b : ℕ) (more : List ℕ) → (b == wanted) ≡ true → part_len wanted scan_begun (b ∷ more) ≡ 0
unfolding part_len
part_here wanted b more is = cond-true _ _ _ is

part_behind : (wanted b : ℕ) (more : List ℕ) → (b == wanted) ≡ false → (b == 123) ≡ false → (b == 92) ≡ false
    → part_len wanted scan_begun (b ∷ more) ≡ suc (part_len wanted scan_begun more)
unfolding part_len
part_behind wanted b more other opens escapes = cond-false _ _ _ other ∙ ap (λ s. suc (part_len wanted s more)) (plain_passed b opens escapes)

part_none : (wanted : ℕ) → part_len wanted scan_begun [] ≡ 0
unfolding part_len
part_none wanted = refl

pub part_found : (wanted : ℕ) (text : List ℕ) (at : ℕ) → at < length text → part_len wanted scan_begun text ≡ at + part_len wanted scan_begun (drop at text)
    → (get_or text at 0 == wanted) ≡ true → at ≡ part_len wanted scan_begun text
part_found wanted text at less whole is =
    let here : part_len wanted scan_begun (drop at text) ≡ 0 = ap (part_len wanted scan_begun) (drop-cons text at 0 less) ∙ part_here wanted (get_or text at 0) (drop (suc at) text) is in
    omega (arith, whole, here)

pub part_further : (wanted : ℕ) (text : List ℕ) (at : ℕ) → at < length text → part_len wanted scan_begun text ≡ at + part_len wanted scan_begun (drop at text)
    → (get_or text at 0 == wanted) ≡ false → (get_or text at 0 == 123) ≡ false → (get_or text at 0 == 92) ≡ false
    → part_len wanted scan_begun text ≡ suc at + part_len wanted scan_begun (drop (suc at) text)
part_further wanted text at less whole other opens escapes =
    let here : part_len wanted scan_begun (drop at text) ≡ suc (part_len wanted scan_begun (drop (suc at) text)) = ap (part_len wanted scan_begun) (drop-cons text at 0 less) ∙ part_behind wanted (get_or text at 0) (drop (suc at) text) other opens escapes in
    omega (arith, whole, here)

pub part_whole : (wanted : ℕ) (text : List ℕ) (at : ℕ) → length text ≤ at → part_len wanted scan_begun text ≡ at + part_len wanted scan_begun (drop at text) → at ≡ part_len wanted scan_begun text
part_whole wanted text at past whole =
    let here : part_len wanted scan_begun (drop at text) ≡ 0 = ap (part_len wanted scan_begun) (drop_all at text past) ∙ part_none wanted in
    omega (arith, whole, here)

pub ruleset parting = (part_found, part_further, part_whole)
