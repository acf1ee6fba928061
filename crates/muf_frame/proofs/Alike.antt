-- What copies keep.
use Rattle.std.proofs.Common.{◌≡◌, List, [], ◌∷◌, map, drop, ap, rules}
use Rattle.muf_frame.specs.declared.mark.Mark.{Mark}
use Rattle.muf_frame.specs.inner.Shown.{flat_mark, outer_of, GuardsFit}

abbrev first_or : {A : Type 0} → A → List A → A
first_or d [] = d
first_or d (x ∷ xs) = x

-- marks that look alike and know as much fit alike
pub guards_fit : (ms ns : List Mark) → map flat_mark ms ≡ map flat_mark ns → map outer_of ms ≡ map outer_of ns → GuardsFit ns → GuardsFit ms
guards_fit [] ns e o h = tt
guards_fit (m ∷ ms) [] e o h = absurd (search (rules, e))
guards_fit (m ∷ ms) (n ∷ ns) e o (g, h) =
    let t : map flat_mark ms ≡ map flat_mark ns = ap (drop 1) e in
    let f : flat_mark m ≡ flat_mark n = ap (first_or (flat_mark m)) e in
    let k : outer_of m ≡ outer_of n = ap (first_or (outer_of m)) o in
    (rw (f, k, t) g, guards_fit ms ns t (ap (drop 1) o) h)
