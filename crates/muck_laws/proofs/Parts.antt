-- What a list begins with, and what is left of it.
use Rattle.std.proofs.Common.{Bool, List, [], ap, append_assoc, arith, cond, drop, eqb, false, if◌then◌else◌, le-ltb, leb, length, length-append, length-drop, length-take, length-take-le, lt-ltb, ltb-false, ltb-true, min, nat_lt, not, refl, subst, suc, sym, take, take-append-drop, take_all, true, zero, ℕ, ◌++◌, ◌+◌, ◌-◌, ◌<◌, ◌∙◌, ◌∷◌, ◌≡◌, ◌≤◌}
use Rattle.std.proofs.Math.Seq.{drop-append-add, take-add}
use Rattle.std.proofs.lemmas.Bool.{leb-false, leb-true}
use Rattle.std.proofs.lemmas.List.{drop-append-le, drop-drop, drop-take, drop_at, take-append-le, take-take}
use Rattle.muck_laws.proofs.Numbers.{one_added}

pub same_window : (bytes new more : List ℕ) (at begun : ℕ) → at + begun ≤ length bytes → new ≡ bytes ++ more → take begun (drop at new) ≡ take begun (drop at bytes)
same_window bytes new more at begun h is =
    ap (λ l. take begun (drop at l)) is ∙ ap (take begun) (drop-append-le at bytes more (omega (arith, h))) ∙ take-append-le begun (drop at bytes) more (omega (arith, length-drop at bytes, h))

-- the first bytes go of what was begun
pub window_dropped : (at begun n : ℕ) (bytes : List ℕ) → n ≤ begun → take (begun - n) (drop (at + n) bytes) ≡ drop n (take begun (drop at bytes))
window_dropped at begun n bytes h =
    let all : n + (begun - n) ≡ begun = omega (arith, h) in
    ap (take (begun - n)) (sym (drop-drop n at bytes)) ∙ sym (drop-take n (begun - n) (drop at bytes)) ∙ ap (λ k. drop n (take k (drop at bytes))) all

-- behind the first of two lists
pub drop_behind : (n : ℕ) (xs ys : List ℕ) → length xs ≤ n → drop n (xs ++ ys) ≡ drop (n - length xs) ys
drop_behind n xs ys h =
    let e : n ≡ length xs + (n - length xs) = omega arith in
    ap (λ k. drop k (xs ++ ys)) e ∙ drop-append-add xs ys (n - length xs)

-- of a file of which these are the first 34 bytes
pub body_front : (front file body : List ℕ) → front ≡ take 34 file → body ≡ drop 9 front → body ≡ take 25 (drop 9 file)
body_front front file body same at = at ∙ ap (drop 9) same ∙ drop-take 9 25 file

-- the first 34 bytes, or all
pub front_of : (whole buf front : List ℕ) (n left : ℕ) → length whole ≡ left → n ≡ min 34 left → take n buf ≡ take n whole → front ≡ take n buf → front ≡ take 34 whole
front_of whole buf front n left size is read at = at ∙ read ∙ by (leb 34 left) refl
  where
    by : (b : Bool) → leb 34 left ≡ b → take n whole ≡ take 34 whole
    by true e = let more : 34 ≤ left = leb-true 34 left e in let k : n ≡ 34 = omega (arith, is, more) in ap (λ m. take m whole) k
    by false e = let less : left < 34 = leb-false 34 left e in take_all n whole (omega (arith, is, size, less)) ∙ sym (take_all 34 whole (omega (arith, size, less)))

pub nine : (file : List ℕ) → drop 8 (drop 1 file) ≡ drop 9 file
nine file = drop-drop 8 1 file

-- more bytes of a part, and no more
pub part_more : (whole got buf front : List ℕ) (i n m : ℕ) → got ≡ take i whole → m ≤ n → take n buf ≡ take n (drop i whole) → front ≡ take m buf → got ++ front ≡ take (i + m) whole
part_more whole got buf front i n m so le read at =
    ap (λ l. l ++ front) so ∙ ap (λ l. take i whole ++ l) (at ∙ sym (take-take m n buf le) ∙ ap (take m) read ∙ take-take m n (drop i whole) le) ∙ sym (take-add i m whole)

pub word_in : (n size : ℕ) (l : List ℕ) → n + 8 ≤ size → take 8 (drop n (take size l)) ≡ take 8 (drop n l)
word_in n size l le =
    let k : size ≡ n + (size - n) = omega (arith, le) in
    ap (λ m. take 8 (drop n (take m l))) k ∙ ap (take 8) (drop-take n (size - n) l) ∙ take-take 8 (size - n) (drop n l) (omega (arith, le))

pub inserted_few : (at : ℕ) (line : List ℕ) (lines : List (List ℕ)) → at ≤ length lines → length (take at lines ++ line ∷ drop at lines) ≡ length lines + 1
inserted_few at line lines h = rw (length-append (take at lines) (line ∷ drop at lines), length-take-le at lines h, length-drop at lines) (omega arith)

pub removed_few : (from to : ℕ) (lines : List (List ℕ)) → from ≤ to → to ≤ length lines → length (take from lines ++ drop to lines) ≤ length lines
removed_few from to lines p q =
    let front : from ≤ length lines = omega arith in
    rw (length-append (take from lines) (drop to lines), length-take-le from lines front, length-drop to lines) (omega arith)

-- what stands behind the first element of the rest
pub tail_is : (bytes others rest : List ℕ) (n first : ℕ) → rest ≡ first ∷ others → rest ≡ drop n bytes → others ≡ drop (n + 1) bytes
tail_is bytes others rest n first e p =
    let tail : others ≡ drop 1 rest = sym (ap (drop 1) e) in
    tail ∙ ap (drop 1) p ∙ drop-drop 1 n bytes

pub tail_none : (bytes rest : List ℕ) (n : ℕ) → length rest ≡ 0 → rest ≡ drop n bytes → rest ≡ drop (n + 1) bytes
tail_none bytes rest n e p = nothing rest e ∙ sym (ap (drop 1) (nothing rest e)) ∙ ap (drop 1) p ∙ drop-drop 1 n bytes where
  nothing : (xs : List ℕ) → length xs ≡ 0 → xs ≡ []
  nothing [] h = refl
  nothing (x ∷ xs) h = absurd (omega arith)

-- as much behind a directory as it is longer
pub one_longer : (n : ℕ) (xs : List (List ℕ)) → eqb (length (drop n xs)) 1 ≡ eqb (length xs) (n + 1)
one_longer zero xs = refl
one_longer (suc n) [] = grind arith
one_longer (suc n) (x ∷ xs) = one_longer n xs ∙ both (length xs) n
  where
    both : (l m : ℕ) → eqb l (m + 1) ≡ eqb (suc l) (suc m + 1)
    both l m = grind arith

pub regroup : (part rest all : List ℕ) (n : ℕ) → part ++ rest ≡ all → (part ++ take n rest) ++ drop n rest ≡ all
regroup part rest all n e = append_assoc part (take n rest) (drop n rest) ∙ ap (λ r. part ++ r) (take-append-drop n rest) ∙ e

pub drop_both : (xs rest left : List ℕ) (n : ℕ) → xs ++ rest ≡ left → drop n rest ≡ drop (length xs + n) left
drop_both xs rest left n e =
    let seam : drop (length xs) left ≡ rest = ap (drop (length xs)) (sym e) ∙ drop_at xs rest (length xs) refl in
    ap (drop n) (sym seam) ∙ drop-drop n (length xs) left

-- what was read into the room that is left keeps within `most`
pub keeps_within : (len n room most : ℕ) (buf new : List ℕ) → n ≤ length new → length new ≡ length (take room buf) → room ≤ most - len → len < most → len + n ≤ most
keeps_within len n room most buf new h e r l = omega (arith, h, e, length-take room buf, r, l)

pub take_snoc : (n : ℕ) (ys : List ℕ) (b : ℕ) → take n (ys ++ b ∷ []) ≡ (if nat_lt (length (take n ys)) n then take n ys ++ b ∷ [] else take n ys)
take_snoc zero ys b = refl
take_snoc (suc n) [] b = take_nil n ∙ ap (λ (t : Bool). if t then b ∷ [] else []) (sym (lt-ltb 0 (suc n) (omega arith)))
  where
    take_nil : (m : ℕ) → b ∷ take m [] ≡ b ∷ []
    take_nil zero = refl
    take_nil (suc m) = refl
take_snoc (suc n) (y ∷ ys) b = from (take_snoc n ys b) (nat_lt (length (take n ys)) n) refl
  where
    from : take n (ys ++ b ∷ []) ≡ (if nat_lt (length (take n ys)) n then take n ys ++ b ∷ [] else take n ys)
        → (t : Bool) → nat_lt (length (take n ys)) n ≡ t
        → take (suc n) ((y ∷ ys) ++ b ∷ []) ≡ (if nat_lt (length (take (suc n) (y ∷ ys))) (suc n) then take (suc n) (y ∷ ys) ++ b ∷ [] else take (suc n) (y ∷ ys))
    from e true is = ap (λ (l : List ℕ). y ∷ l) (e ∙ ap (λ (t : Bool). if t then take n ys ++ b ∷ [] else take n ys) is)
        ∙ ap (λ (t : Bool). if t then y ∷ take n ys ++ b ∷ [] else y ∷ take n ys) (sym (lt-ltb (suc (length (take n ys))) (suc n) (let l = ltb-true (length (take n ys)) n is in omega arith)))
    from e false is = ap (λ (l : List ℕ). y ∷ l) (e ∙ ap (λ (t : Bool). if t then take n ys ++ b ∷ [] else take n ys) is)
        ∙ ap (λ (t : Bool). if t then y ∷ take n ys ++ b ∷ [] else y ∷ take n ys) (sym (le-ltb (suc (length (take n ys))) (suc n) (let l = ltb-false (length (take n ys)) n is in omega arith)))

pub length-from : (text : List ℕ) (at : ℕ) → at ≤ length text → length text - length (drop at text) ≡ at
length-from text at le = let e : length (drop at text) ≡ length text - at = length-drop at text in omega (arith, e)

pub front_less : (m n : ℕ) (a b : List ℕ) → m ≤ n → take n a ≡ take n b → take m a ≡ take m b
front_less m n a b le e = sym (take-take m n a le) ∙ ap (take m) e ∙ take-take m n b le

pub part : (p n m : ℕ) (x c : List ℕ) → n + m ≤ p → take p c ≡ take p x → take m (drop n c) ≡ take m (drop n x)
part p n m x c le e = sym (drop-take n m c) ∙ ap (drop n) (front_less (n + m) p c x le e) ∙ drop-take n m x

pub take_add : (m n : ℕ) (xs : List ℕ) → take (m + n) xs ≡ take m xs ++ take n (drop m xs)
take_add m n xs = sym (take-append-drop m (take (m + n) xs)) ∙ ap (λ l. l ++ drop m (take (m + n) xs)) (take-take m (m + n) xs (omega arith)) ∙ ap (λ l. take m xs ++ l) (drop-take m n xs)

pub back_front : (n len : ℕ) (p rest : List ℕ) → n ≤ length p → length p ≤ len → take n (take len (p ++ rest)) ≡ take n p
back_front n len p rest le fits = take-take n len (p ++ rest) (omega arith) ∙ take-append-le n p rest le

pub none_unsent : (at len : ℕ) (b : List ℕ) → (drop at (take len b) ≡ [] → ⊥) → nat_lt at len ≡ true
none_unsent at len b some = from (nat_lt at len) refl
  where
    from : (t : Bool) → nat_lt at len ≡ t → nat_lt at len ≡ true
    from true e = e
    from false e =
        let le = ltb-false at len e in
        let n = length-drop at (take len b) in
        let m = length-take len b in
        absurd (some (nothing (drop at (take len b)) (omega arith)))
      where
        nothing : (xs : List ℕ) → length xs ≤ 0 → xs ≡ []
        nothing [] h = refl
        nothing (x ∷ xs) h = absurd (omega arith)

pub some_unsent : (at len : ℕ) (b : List ℕ) → nat_lt at len ≡ true → len ≤ length b → drop at (take len b) ≡ [] → ⊥
some_unsent at len b t le e =
    let lt = ltb-true at len t in
    let n = length-drop at (take len b) in
    let m = length-take-le len b le in
    let z = ap length e in
    absurd (omega arith)

pub drop_whole : {A : Type 0} → (xs : List A) (n : ℕ) → length xs ≤ n → drop n xs ≡ []
drop_whole [] zero h = refl
drop_whole [] (suc n) h = refl
drop_whole (x ∷ xs) zero h = absurd (omega (arith, h))
drop_whole (x ∷ xs) (suc n) h = drop_whole xs n (omega (arith, h))

pub length_drop : (n : ℕ) (xs : List ℕ) → length (drop n xs) ≤ length xs
length_drop zero xs = omega arith
length_drop (suc n) [] = omega arith
length_drop (suc n) (x ∷ xs) = omega (arith, length_drop n xs)

pub word_rest : (b : ℕ) (text : List ℕ) (v : Bool) (n : ℕ) → v ≡ false → length (drop (cond (not v) (1 + n) 0) (b ∷ text)) < length (b ∷ text)
word_rest b text true n h = cc
word_rest b text false n h = subst (λ k. length (drop k (b ∷ text)) < length (b ∷ text)) (one_added n) (omega (arith, length_drop n text))

pub drop_front : (xs ys : List ℕ) → drop (length xs) (xs ++ ys) ≡ ys
drop_front [] ys = refl
drop_front (x ∷ xs) ys = drop_front xs ys

pub take_front : (xs ys : List ℕ) → take (length xs) (xs ++ ys) ≡ xs
take_front [] ys = refl
take_front (x ∷ xs) ys = ap (λ rest. x ∷ rest) (take_front xs ys)

pub drop_within : (n : ℕ) (xs ys : List ℕ) → n ≤ length xs → drop n (xs ++ ys) ≡ drop n xs ++ ys
drop_within zero xs ys h = refl
drop_within (suc n) [] ys h = absurd (omega (arith, h))
drop_within (suc n) (x ∷ xs) ys h = drop_within n xs ys (omega (arith, h))

pub length_take : (n : ℕ) (xs : List ℕ) → length (take n xs) ≤ length xs
length_take zero xs = omega arith
length_take (suc n) [] = omega arith
length_take (suc n) (x ∷ xs) = omega (arith, length_take n xs)

pub take_within : (n : ℕ) (xs ys : List ℕ) → n ≤ length xs → take n (xs ++ ys) ≡ take n xs
take_within zero xs ys h = refl
take_within (suc n) [] ys h = absurd (omega (arith, h))
take_within (suc n) (x ∷ xs) ys h = ap (λ rest. x ∷ rest) (take_within n xs ys (omega (arith, h)))

pub drop_taken : {A : Type 0} → (n : ℕ) (xs : List A) → drop n (take n xs) ≡ []
drop_taken zero xs = refl
drop_taken (suc n) [] = refl
drop_taken (suc n) (x ∷ xs) = drop_taken n xs
