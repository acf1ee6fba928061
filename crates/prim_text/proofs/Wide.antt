-- More pieces than a stack has room for.
use Rattle.std.proofs.Common.{◌≡◌, ℕ, suc, ◌+◌, ◌<◌, ◌≤◌, List, [], ◌∷◌, Some, length, map, drop, ap, sym, arith}
use Rattle.std.specs.Prelude.{pos}
use Rattle.std.proofs.lemmas.List.{length-map, length-drop}
use Rattle.muf_model.specs.declared.fault.MufFault.TheVariants.{StackFull}
use Rattle.muf_model.specs.declared.prims.Primitive.TheVariants.{Explode}
use Rattle.muf_model.specs.declared.value.Value.{Value}
use Rattle.muf_model.specs.inner.View.{view}
use Rattle.muf_model.specs.Datum.{int, text}
use Rattle.muf_model.specs.Answer.{items_put, refuses}
use Rattle.muf_model.specs.Texts.{first_place, text_pieces}
use Rattle.prim_text.specs.inner.Made.{sought_in}
use Rattle.prim_text.proofs.Making.{put_full}
use Rattle.prim_text.proofs.Pieces.{pieces_more}

-- one piece, and those behind it
pub one_piece : (t s : List ℕ) (k : ℕ) → 0 < length t → Some k ≡ first_place t s → length (text_pieces t s) ≡ suc (length (text_pieces t (drop (k + length t) s)))
one_piece t s k p e = ap length (pieces_more t s k p (sym e))

pub wide : (s t : List ℕ) (vs : List Value) → 0 < length t → 2 ≤ length vs → length vs ≤ 1024 → 1025 < length (text_pieces t s) + length vs → items_put 2 (sought_in Explode s t) (drop 2 (map view vs)) ≡ refuses StackFull
unfolding sought_in
wide s [] vs some two most over = absurd (omega (arith, some))
wide s (b ∷ t) vs some two most over =
    let ps = text_pieces (b ∷ t) s in
    let rest = drop 2 (map view vs) in
    let left : length rest + 2 ≡ length vs = omega (arith, two, length-drop 2 (map view vs), length-map vs view) in
    put_full 2 (int (pos (length ps)) ∷ map text ps) rest (omega (arith, left, most)) (omega (arith, left, over, length-map ps text))
