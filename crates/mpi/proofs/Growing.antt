-- Texts that grew are texts.
use Rattle.std.proofs.Common.{◌≡◌, ℕ, ◌≤◌, List, ◌++◌, length, Ok, None, subst, sym}
use Rattle.muck_model.specs.Bytes.{text_fault, text_most}
use Rattle.mpi.specs.Made.{Inside, IsGrown}
use Rattle.mpi.proofs.Inside.{inside_more, made_is_text}
use Rattle.mpi.proofs.Lengths.{short_length}

pub grown_inside : (old more new : List ℕ) → IsGrown old more new (Ok tt) → Inside old → Inside more → Inside new
grown_inside old more new h one two = subst (λ xs. Inside xs) (sym h.0) (inside_more old more one two)

pub grown_short : (old more new : List ℕ) → IsGrown old more new (Ok tt) → length new ≤ text_most
grown_short old more new h = subst (λ xs. length xs ≤ text_most) (sym h.0) (short_length (old ++ more) h.1)

pub grown_text : (old more new : List ℕ) → IsGrown old more new (Ok tt) → Inside old → Inside more → text_fault new ≡ None
grown_text old more new h one two = made_is_text new (grown_inside old more new h one two) (grown_short old more new h)
