-- The two readings of a path, in the key of a lock and of a property, take the same bytes.
use Rattle.std.proofs.Common.{◌≡◌, ℕ, ◌+◌, Bool, true, false, cond, not, ◌&&◌, ◌||◌, ◌==◌, nat_lt, List, [], ◌∷◌, map, length, drop, Some, None, refl, sym, ◌∙◌, ap, arith, length-append}
use Rattle.std.specs.Prelude.{nat_le, if◌then◌else◌, is_none, count_by}
use Rattle.std.specs.List.{filter, list_any, slice_split, onto_first}
use Rattle.std.specs.Char.{to_ascii_lowercase}
use Rattle.std.proofs.lemmas.Bool.{le-leb, ne_eqb}
use Rattle.std.proofs.lemmas.Bool.Decides.{nat_tests}
use Rattle.std.proofs.lemmas.List.{length-map}
use Rattle.std.proofs.lemmas.List.Recursion.{is_count_by}
use Rattle.muck_laws.proofs.Texts.{behind_onto}
use Rattle.muck_prop.specs.declared.path.PropFault.TheVariants.{BadPath, TooDeep}
use Rattle.muck_prop.specs.Paths.{is_slash, is_filled, segments_of, path_text, path_fault}
use Rattle.muck_lock.specs.Paths.{segments_from, segments_in, is_in_segment, is_barred, is_path}

abbrev parts : List ℕ → List (List ℕ)
parts bytes = slice_split is_slash bytes

-- How many segments there are.

first_counts : (b : ℕ) (ps : List (List ℕ)) → length (filter is_filled (onto_first b ps)) ≡ 1 + length (filter is_filled (drop 1 ps))
first_counts b [] = refl
first_counts b (p ∷ ps) = omega arith

counted : (bytes : List ℕ) → (segments_from false bytes ≡ length (filter is_filled (parts bytes))) × (segments_from true bytes ≡ length (filter is_filled (drop 1 (parts bytes))))
counted [] = (refl, refl)
counted (b ∷ bytes) = at (b == 47) (counted bytes)
  where
    at : (t : Bool) → (segments_from false bytes ≡ length (filter is_filled (parts bytes))) × (segments_from true bytes ≡ length (filter is_filled (drop 1 (parts bytes)))) →
        (cond t (segments_from false bytes) (1 + segments_from true bytes) ≡ length (filter is_filled (cond t ([] ∷ parts bytes) (onto_first b (parts bytes)))))
        × (cond t (segments_from false bytes) (0 + segments_from true bytes) ≡ length (filter is_filled (drop 1 (cond t ([] ∷ parts bytes) (onto_first b (parts bytes))))))
    at true h = (h.0, h.0)
    at false h = (omega (arith, h.1, first_counts b (parts bytes)), omega (arith, h.1, ap (λ ps. length (filter is_filled ps)) (behind_onto b (parts bytes))))

-- How many bytes they have.

total : List (List ℕ) → ℕ
total [] = 0
total (p ∷ ps) = length p + total ps

total_first : (b : ℕ) (ps : List (List ℕ)) → total (onto_first b ps) ≡ 1 + total ps
unfolding total
total_first b [] = refl
total_first b (p ∷ ps) = omega arith

total_filled : (ps : List (List ℕ)) → total (filter is_filled ps) ≡ total ps
unfolding total
total_filled [] = refl
total_filled ([] ∷ ps) = omega (arith, total_filled ps)
total_filled ((b ∷ p) ∷ ps) = omega (arith, total_filled ps)

total_lowered : (ps : List (List ℕ)) → total (map (map to_ascii_lowercase) ps) ≡ total ps
unfolding total
total_lowered [] = refl
total_lowered (p ∷ ps) = omega (arith, length-map p to_ascii_lowercase, total_lowered ps)

total_parts : (bytes : List ℕ) → total (parts bytes) ≡ count_by is_in_segment bytes
unfolding total
total_parts bytes = is_count_by (λ bs. total (parts bs)) is_in_segment refl step bytes
  where
    at : (b : ℕ) (bs : List ℕ) (t : Bool) → total (cond t ([] ∷ parts bs) (onto_first b (parts bs))) ≡ cond (not t) (1 + total (parts bs)) (total (parts bs))
    at b bs true = omega arith
    at b bs false = total_first b (parts bs)

    step : (b : ℕ) (bs : List ℕ) → total (parts (b ∷ bs)) ≡ cond (is_in_segment b) (1 + total (parts bs)) (total (parts bs))
    step b bs = at b bs (b == 47)

-- one `/` stands between any two
joined : (p : List ℕ) (ps : List (List ℕ)) → length (path_text (p ∷ ps)) + 1 ≡ total (p ∷ ps) + length (p ∷ ps)
unfolding total
joined p [] = omega arith
joined p (q ∷ ps) = omega (arith, length-append p (47 ∷ path_text (q ∷ ps)), joined q ps)

-- The law.

table : (few short : Bool) → (few && short) ≡ is_none (if not short then Some BadPath else (if not few then Some TooDeep else None))
table true true = refl
table true false = refl
table false true = refl
table false false = refl

agree : (barred : Bool) (ps : List (List ℕ)) (n c : ℕ) → length ps ≡ n → total ps ≡ c →
    (not barred && nat_le 1 n && nat_le n 16 && nat_le (c + n) 129) ≡ is_none (if barred || length ps == 0 || nat_lt 128 (length (path_text ps)) then Some BadPath else (if nat_lt 16 (length ps) then Some TooDeep else None))
agree true ps n c e t = refl
agree false [] n c e t = rw (sym e) refl
agree false (p ∷ ps) n c e t =
    let j : length (path_text (p ∷ ps)) + 1 ≡ c + n = omega (arith, joined p ps, e, t) in
    let some : nat_le 1 n ≡ true = le-leb 1 n (omega (arith, e)) in
    let other : (length (p ∷ ps) == 0) ≡ false = ne_eqb (length (p ∷ ps)) 0 (λ q. omega (arith, q)) in
    let long : nat_lt 128 (length (path_text (p ∷ ps))) ≡ not (nat_le (c + n) 129) = over 128 (length (path_text (p ∷ ps))) (c + n) j in
    let many : nat_lt 16 (length (p ∷ ps)) ≡ not (nat_le n 16) = above 16 (length (p ∷ ps)) n e in
    rw (some, other, long, many) (table (nat_le n 16) (nat_le (c + n) 129))
  where
    over : (most k m : ℕ) → k + 1 ≡ m → nat_lt most k ≡ not (nat_le m (most + 1))
    over most k m e = grind (arith, nat_tests)

    above : (most k m : ℕ) → k ≡ m → nat_lt most k ≡ not (nat_le m most)
    above most k m e = grind (arith, nat_tests)

-- a lock's key has a path exactly where reading the path has no fault
pub paths_agree : (text : List ℕ) → is_path text ≡ is_none (path_fault text)
paths_agree text =
    agree (list_any is_barred text) (segments_of text) (segments_in text) (count_by is_in_segment text)
    (length-map (filter is_filled (parts text)) (map to_ascii_lowercase) ∙ sym (counted text).0)
    (total_lowered (filter is_filled (parts text)) ∙ total_filled (parts text) ∙ total_parts text)
