-- More room than a text needs for its pieces or arguments changes nothing.
use Rattle.std.proofs.Common.{◌≡◌, ℕ, ◌<◌, ◌≤◌, zero, suc, Bool, true, false, cond, List, [], ◌∷◌, ◌++◌, length, take, drop, refl, sym, ap, ◌∙◌, arith, nat_lt, append_assoc}
use Rattle.std.specs.Prelude.{◌==◌}
use Rattle.std.proofs.lemmas.List.{length-drop}
use Rattle.std.proofs.lemmas.Bool.{ltb-true, lt-ltb}
use Rattle.mpi.proofs.Inside.{text_short, part_is_text, rest_is_text}
use Rattle.mpi.specs.Brackets.{scan_begun, part_len, part, behind_part, arguments_up_to, arguments, byte, escaped, call_ahead, first_piece, pieces_up_to, formula_pieces}

by_comma : (text : List ℕ) (n m : ℕ) (t : Bool) → nat_lt (part_len 44 scan_begun text) (length text) ≡ t
    → ((xs : List ℕ) → length xs < length text → arguments_up_to n xs ≡ arguments_up_to m xs)
    → cond t (part 44 text ∷ arguments_up_to n (behind_part 44 text)) (text ∷ []) ≡ cond t (part 44 text ∷ arguments_up_to m (behind_part 44 text)) (text ∷ [])
by_comma text n m true e same =
    let h : part_len 44 scan_begun text < length text = ltb-true _ _ e in
    ap (λ rest. part 44 text ∷ rest) (same (behind_part 44 text) (omega (arith, h, length-drop (suc (part_len 44 scan_begun text)) text)))
by_comma text n m false e same = refl

-- with room for the whole text there are all arguments
pub room : (n m : ℕ) (text : List ℕ) → length text < n → length text < m → arguments_up_to n text ≡ arguments_up_to m text
unfolding arguments_up_to
room zero m text h k = absurd (omega (arith, h))
room (suc n) zero text h k = absurd (omega (arith, k))
room (suc n) (suc m) text h k = by_comma text n m (nat_lt (part_len 44 scan_begun text) (length text)) refl (λ xs short. room n m xs (omega (arith, h, short)) (omega (arith, k, short)))

-- the last argument
pub last_argument : (text : List ℕ) → length text ≤ part_len 44 scan_begun text → arguments text ≡ text ∷ []
unfolding arguments_up_to
last_argument text h =
    elim (nat_lt (part_len 44 scan_begun text) (length text)) as (λ t. nat_lt (part_len 44 scan_begun text) (length text) ≡ t → cond t (part 44 text ∷ arguments_up_to (length text) (behind_part 44 text)) (text ∷ []) ≡ text ∷ []) [
      | true ↦ λ e. absurd (omega (arith, h, ltb-true _ _ e))
      | false ↦ λ e. refl
    ] refl

-- an argument that a comma ends, and those behind it
pub next_argument : (text : List ℕ) → part_len 44 scan_begun text < length text → arguments text ≡ part 44 text ∷ arguments (behind_part 44 text)
unfolding arguments_up_to
next_argument text h =
    rw (lt-ltb (part_len 44 scan_begun text) (length text) h)
    (ap (λ rest. part 44 text ∷ rest) (room (length text) (suc (length (behind_part 44 text))) (behind_part 44 text) (omega (arith, h, length-drop (suc (part_len 44 scan_begun text)) text)) (omega arith)))

-- an argument more is known
pub one_more : (text rest more : List ℕ) (done : List (List ℕ)) (n : ℕ) → arguments text ≡ done ++ arguments rest → n ≡ part_len 44 scan_begun rest → n < length rest
    → more ≡ drop (suc n) rest → arguments text ≡ (done ++ take n rest ∷ []) ++ arguments more
one_more text rest more done n whole at less is =
    whole ∙ ap (λ xs. done ++ xs) (next_argument rest (omega (arith, at, less)))
    ∙ (λ i. done ++ take (sym at i) rest ∷ arguments (drop (suc (sym at i)) rest))
    ∙ (λ i. done ++ take n rest ∷ arguments (sym is i))
    ∙ sym (append_assoc done (take n rest ∷ []) (arguments more))

pub ruleset argument_steps = (one_more, last_argument, next_argument, text_short, part_is_text, rest_is_text)

escaped_shorter : (more : List ℕ) → length (escaped more).1 ≤ length more
escaped_shorter [] = omega arith
escaped_shorter (b ∷ more) = omega arith

chosen_shorter : (t u : Bool) (b : ℕ) (more : List ℕ) → length (cond t (escaped more) (cond u (call_ahead more) (byte b, more))).1 ≤ length more
chosen_shorter true u b more = escaped_shorter more
chosen_shorter false true b more = omega (arith, length-drop (suc (part_len 125 scan_begun more)) more)
chosen_shorter false false b more = omega arith

-- what stands behind the first piece is no longer than what stands behind the first byte
pub behind_first : (b : ℕ) (more : List ℕ) → length (first_piece b more).1 ≤ length more
behind_first b more = chosen_shorter (b == 92) (b == 123) b more

no_pieces : (n : ℕ) → pieces_up_to n [] ≡ []
unfolding pieces_up_to
no_pieces zero = refl
no_pieces (suc n) = refl

-- with room for the whole text there are all pieces
piece_room : (n m : ℕ) (text : List ℕ) → length text ≤ n → length text ≤ m → pieces_up_to n text ≡ pieces_up_to m text
unfolding pieces_up_to
piece_room n m [] h k = no_pieces n ∙ sym (no_pieces m)
piece_room zero m (b ∷ more) h k = absurd (omega (arith, h))
piece_room (suc n) zero (b ∷ more) h k = absurd (omega (arith, k))
piece_room (suc n) (suc m) (b ∷ more) h k =
    ap (λ rest. (first_piece b more).0 ∷ rest) (piece_room n m (first_piece b more).1 (omega (arith, h, behind_first b more)) (omega (arith, k, behind_first b more)))

-- the first piece, and those of what stands behind it
pub pieces_ahead : (b : ℕ) (more : List ℕ) → formula_pieces (b ∷ more) ≡ (first_piece b more).0 ∷ formula_pieces (first_piece b more).1
unfolding pieces_up_to
pieces_ahead b more = ap (λ rest. (first_piece b more).0 ∷ rest) (piece_room (length more) (length (first_piece b more).1) (first_piece b more).1 (behind_first b more) (omega arith))
