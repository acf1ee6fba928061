-- A text has no byte outside of those that texts have.
use Rattle.std.proofs.Common.{◌≡◌, ℕ, true, cond, List, length, Some, None, inl, inr, arith}
use Rattle.std.specs.List.{position_or_len}
use Rattle.std.proofs.lemmas.Bool.{cases_lt, lt-ltb}
use Rattle.std.proofs.lemmas.List.Sums.{prefix_len-le-length}
use Rattle.muck_model.specs.Bytes.{is_outside, fault_of_bytes, text_fault}
use Rattle.muf_model.proofs.FaultTexts.{is_inside, IsInside}

pub to_inside : (xs : List ℕ) → text_fault xs ≡ None → IsInside xs
to_inside xs h =
    elim (cases_lt (position_or_len is_outside xs) (length xs)) [
      | inl within ↦ absurd (let e : fault_of_bytes (cond true (Some (position_or_len is_outside xs)) None) (length xs) ≡ None = rw (lt-ltb (position_or_len is_outside xs) (length xs) within) at h in cc)
      | inr past ↦ omega (arith, past, prefix_len-le-length is_inside xs)
    ]
