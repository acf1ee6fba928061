-- The order of paths: by their segments, from the first on, and segments by their bytes.
-- A path stands before the paths that continue it.
use Rattle.std.specs.Prelude.{◌≡◌, ℕ, Bool, true, false, ◌&&◌, List, [], ◌∷◌, ◌++◌, bytes_eq, take, length, suc}
use Rattle.std.specs.Ordering.{nat_cmp}
use Rattle.std.specs.declared.cmp.Ordering.{Ordering}
use Rattle.std.specs.Cmp.{IsTotalOrder, IsEquivalence, IsPartialOrder, po}
use Rattle.std.specs.Cmp.Lexicographic.{slice_cmp, pointwise, lists_total, lists_equiv, lists_ties, nat_list_cmp_total, nat_list_eq_equiv, texts_ties}
use Rattle.std.specs.Ordering.{eq_by_cmp}
use Rattle.std.specs.Prelude.{Some}

abbrev pub segment_cmp : List ℕ → List ℕ → Ordering
segment_cmp = slice_cmp nat_cmp

abbrev pub path_cmp : List (List ℕ) → List (List ℕ) → Ordering
path_cmp = slice_cmp segment_cmp

abbrev pub path_eq : List (List ℕ) → List (List ℕ) → Bool
path_eq = pointwise bytes_eq

-- q continues p by a segment or more
abbrev pub is_below : List (List ℕ) → List (List ℕ) → Bool
is_below [] [] = false
is_below [] (t ∷ q) = true
is_below (s ∷ p) [] = false
is_below (s ∷ p) (t ∷ q) = bytes_eq s t && is_below p q

-- the path one segment below p on the way to q
abbrev pub child : List (List ℕ) → List (List ℕ) → List (List ℕ)
child p q = take (suc (length p)) q

-- the laws of the order, as the types of paths need them
pub path_cmp_total : IsTotalOrder path_cmp
path_cmp_total = lists_total nat_list_cmp_total

pub path_eq_equiv : IsEquivalence path_eq
path_eq_equiv = lists_equiv nat_list_eq_equiv

pub path_ties : (p q : List (List ℕ)) → path_eq p q ≡ eq_by_cmp path_cmp p q
path_ties = lists_ties segment_cmp texts_ties

pub path_po : IsPartialOrder path_eq (λ p q. Some (path_cmp p q))
path_po = po path_cmp_total path_ties

-- the least list of segments above all that continue p: its last segment is followed by the least byte
abbrev pub past : List (List ℕ) → List (List ℕ)
past [] = []
past (s ∷ []) = (s ++ 0 ∷ []) ∷ []
past (s ∷ t ∷ p) = s ∷ past (t ∷ p)
