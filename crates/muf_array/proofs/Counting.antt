-- The rows of primitives whose top item counts others.
use Rattle.std.proofs.Common.{◌≡◌, ◌∙◌, ap, sym, refl, ℕ, zero, suc, ◌+◌, ◌-◌, ◌*◌, ◌<◌, ◌≤◌, Bool, true, false, cond, List, [], ◌∷◌, ◌++◌, length, map, take, drop, reverse, Some, None, arith}
use Rattle.std.specs.Prelude.{Option, ℤ, pos, negsuc, nat_lt, slice_get}
use Rattle.std.specs.Option.{option_or, option_and_then}
use Rattle.std.proofs.lemmas.List.{length-map, append_assoc}
use Rattle.muck_laws.proofs.Numbers.{enough}
use Rattle.muf_model.specs.declared.fault.MufFault.{MufFault}
use Rattle.muf_model.specs.declared.fault.MufFault.TheVariants.{BadType, BadArgument}
use Rattle.muf_model.specs.declared.needs.Need.{Need}
use Rattle.muf_model.specs.declared.value.MapKey.{MapKey}
use Rattle.muf_model.specs.declared.value.MapKey.TheVariants.{Number, Name}
use Rattle.muf_model.specs.Datum.{Datum, int, text, object, variable, address, lock, items, dict, mark, data_of, pairs_of}
use Rattle.muf_model.specs.Entries.{gathered}
use Rattle.muf_model.specs.Answer.{Answer, refuses, Scope, Made, plain, items_put, answer_unless, needing, too_few}
use Rattle.muf_model.specs.Needs.{counts, anything, an_int, a_key}
use Rattle.muf_model.specs.Ladder.{times, first_refusal, unfit, absent, all_there, short}
use Rattle.muf_model.specs.Rows.{primitive_used}
use Rattle.muf_model.specs.ArrayRows.{map_key_of, valued, paired, list_made, dict_made}
use Rattle.muf_frame.specs.inner.Answers.{int_at}
use Rattle.muf_array.specs.inner.Shapes.{pair_before, pairs_in, pairs_before}
use Rattle.muf_array.specs.inner.Taken.{list_read, pairs_read, dict_read, by_top}

-- ---- the tests

fits_count : (b c : Bool) (f g : MufFault) (k : Option MufFault) (a : Answer) → answer_unless (option_or (option_or (cond b (Some f) None) (option_or None (cond c (Some g) None))) k) a ≡ cond b (refuses f) (cond c (refuses g) (answer_unless k a))
fits_count true c f g k a = refl
fits_count false true f g k a = refl
fits_count false false f g k a = refl

bad_count : (b : Bool) (f : MufFault) (o k : Option MufFault) (a : Answer) → answer_unless (option_or (option_or (cond b (Some f) None) (option_or (Some BadArgument) o)) k) a ≡ cond b (refuses f) (refuses BadArgument)
bad_count true f o k a = refl
bad_count false f o k a = refl

no_count : (b : Bool) (f : MufFault) (k : Option MufFault) (a : Answer) → answer_unless (option_or (option_or (cond b (Some f) None) (option_or None (cond b (Some f) None))) k) a ≡ cond b (refuses f) (answer_unless k a)
no_count true f k a = refl
no_count false f k a = refl

where_false : (c : Bool) (r x y : Answer) → (c ≡ false → x ≡ y) → cond c r x ≡ cond c r y
where_false true r x y h = refl
where_false false r x y h = h refl

any_length : (n : ℕ) → length (times n (anything ∷ []) ++ []) ≡ n
any_length zero = refl
any_length (suc n) = ap suc (any_length n)

pair_length : (n : ℕ) → length (times n (anything ∷ a_key ∷ []) ++ []) ≡ n + n
pair_length zero = refl
pair_length (suc n) = omega (arith, pair_length n)

-- an item of any kind passes each test
any_walk : (test : Need → Datum → Option MufFault) → ((x : Datum) → test anything x ≡ None) → (n : ℕ) (xs : List Datum) → first_refusal test (times n (anything ∷ []) ++ []) xs ≡ None
any_walk test quiet zero xs = refl
any_walk test quiet (suc n) [] = refl
any_walk test quiet (suc n) (x ∷ xs) = ap (λ o. option_or o (first_refusal test (times n (anything ∷ []) ++ []) xs)) (quiet x) ∙ any_walk test quiet n xs

-- no item of these has to be there
pair_walk : (n : ℕ) (xs : List Datum) → first_refusal (absent all_there) (times n (anything ∷ a_key ∷ []) ++ []) xs ≡ None
pair_walk zero xs = refl
pair_walk (suc n) [] = refl
pair_walk (suc n) (x ∷ []) = refl
pair_walk (suc n) (x ∷ k ∷ xs) = pair_walk n xs

-- ---- ARRAY_MAKE

list_counted : (n : ℕ) (s : Scope) (rest : List Datum) → primitive_used 1 (counts (an_int ∷ []) (anything ∷ []) []) (Some (plain list_made)) s (int (pos n) ∷ rest) ≡ needing 1 s.locked (int (pos n) ∷ rest) (needing (1 * n + 1) s.locked (int (pos n) ∷ rest) (list_read n (int (pos n) ∷ rest)))
list_counted n s rest =
    let st = int (pos n) ∷ rest in
    let ns = times n (anything ∷ []) ++ [] in
    let kinds = option_or (first_refusal unfit ns rest) (first_refusal (absent all_there) ns rest) in
    let one : 1 * n + 1 ≡ suc n = omega arith in
    let more : n + 1 ≡ suc n = omega arith in
    let quiet : kinds ≡ None = rw (any_walk unfit (λ x. refl) n rest, any_walk (absent all_there) (λ x. refl) n rest) refl in
    fits_count (nat_lt (length st) (s.locked + 1)) (nat_lt (length st) (s.locked + suc (length ns))) (too_few 1 st) (too_few (suc (length ns)) st) kinds (items_put (suc (length ns)) (list_made (take (suc (length ns)) st)) (drop (suc (length ns)) st))
    ∙ ap (λ k. needing 1 s.locked st (needing (suc (length ns)) s.locked st (answer_unless k (items_put (suc (length ns)) (list_made (take (suc (length ns)) st)) (drop (suc (length ns)) st))))) quiet
    ∙ ap (λ m. needing 1 s.locked st (needing (suc m) s.locked st (items_put (suc m) (list_made (take (suc m) st)) (drop (suc m) st)))) (any_length n)
    ∙ rw (one, more) refl

pub list_used : (s : Scope) (stack : List Datum) → primitive_used 1 (counts (an_int ∷ []) (anything ∷ []) []) (Some (plain list_made)) s stack ≡ needing 1 s.locked stack (by_top 1 list_read s.locked stack (int_at 0 stack))
list_used s (int (pos n) ∷ rest) = list_counted n s rest
list_used s (int (negsuc n) ∷ rest) = let st = int (negsuc n) ∷ rest in bad_count (nat_lt (length st) (s.locked + 1)) (too_few 1 st) (short 1 s.locked st) None (items_put 1 (list_made (take 1 st)) (drop 1 st))
list_used s [] = let st : List Datum = [] in no_count (nat_lt (length st) (s.locked + 1)) (too_few 1 st) None (refuses BadType)
list_used s (text t ∷ rest) = let st = text t ∷ rest in no_count (nat_lt (length st) (s.locked + 1)) (too_few 1 st) (Some BadType) (items_put 1 (list_made (take 1 st)) (drop 1 st))
list_used s (object d ∷ rest) = let st = object d ∷ rest in no_count (nat_lt (length st) (s.locked + 1)) (too_few 1 st) (Some BadType) (items_put 1 (list_made (take 1 st)) (drop 1 st))
list_used s (variable v ∷ rest) = let st = variable v ∷ rest in no_count (nat_lt (length st) (s.locked + 1)) (too_few 1 st) (Some BadType) (items_put 1 (list_made (take 1 st)) (drop 1 st))
list_used s (address p w ∷ rest) = let st = address p w ∷ rest in no_count (nat_lt (length st) (s.locked + 1)) (too_few 1 st) (Some BadType) (items_put 1 (list_made (take 1 st)) (drop 1 st))
list_used s (lock l ∷ rest) = let st = lock l ∷ rest in no_count (nat_lt (length st) (s.locked + 1)) (too_few 1 st) (Some BadType) (items_put 1 (list_made (take 1 st)) (drop 1 st))
list_used s (items ds ∷ rest) = let st = items ds ∷ rest in no_count (nat_lt (length st) (s.locked + 1)) (too_few 1 st) (Some BadType) (items_put 1 (list_made (take 1 st)) (drop 1 st))
list_used s (dict ps ∷ rest) = let st = dict ps ∷ rest in no_count (nat_lt (length st) (s.locked + 1)) (too_few 1 st) (Some BadType) (items_put 1 (list_made (take 1 st)) (drop 1 st))
list_used s (mark ∷ rest) = let st = mark ∷ rest in no_count (nat_lt (length st) (s.locked + 1)) (too_few 1 st) (Some BadType) (items_put 1 (list_made (take 1 st)) (drop 1 st))

-- ---- ARRAY_MAKE_DICT

-- what is done with pairs, where all are
abbrev by_pairs : (List (MapKey × Datum) → Answer) → Option (List (MapKey × Datum)) → Answer
by_pairs f (Some ps) = f ps
by_pairs f None = refuses BadType

one_more : (f : List (MapKey × Datum) → Answer) (k : MapKey) (x : Datum) (o : Option (List (MapKey × Datum))) → by_pairs (λ ps. f ((k, x) ∷ ps)) o ≡ by_pairs f (pair_before (Some k) x o)
one_more f k x (Some ps) = refl
one_more f k x None = refl

pairs_kinds : (n : ℕ) (rest : List Datum) (f : List (MapKey × Datum) → Answer) → n + n ≤ length rest → answer_unless (first_refusal unfit (times n (anything ∷ a_key ∷ []) ++ []) rest) (f (paired (take (n + n) rest))) ≡ by_pairs f (pairs_in n rest)
pairs_kinds zero rest f h = refl
pairs_kinds (suc n) [] f h = absurd (omega (arith, h))
pairs_kinds (suc n) (x ∷ []) f h = absurd (omega (arith, h))
pairs_kinds (suc n) (x ∷ int i ∷ rest) f h = let z : suc n + suc n ≡ suc (suc (n + n)) = omega arith in rw z (pairs_kinds n rest (λ ps. f ((Number i, x) ∷ ps)) (omega (arith, h)) ∙ one_more f (Number i) x (pairs_in n rest))
pairs_kinds (suc n) (x ∷ text t ∷ rest) f h = let z : suc n + suc n ≡ suc (suc (n + n)) = omega arith in rw z (pairs_kinds n rest (λ ps. f ((Name t, x) ∷ ps)) (omega (arith, h)) ∙ one_more f (Name t) x (pairs_in n rest))
pairs_kinds (suc n) (x ∷ object d ∷ rest) f h = refl
pairs_kinds (suc n) (x ∷ variable v ∷ rest) f h = refl
pairs_kinds (suc n) (x ∷ address p w ∷ rest) f h = refl
pairs_kinds (suc n) (x ∷ lock l ∷ rest) f h = refl
pairs_kinds (suc n) (x ∷ items ds ∷ rest) f h = refl
pairs_kinds (suc n) (x ∷ dict ps ∷ rest) f h = refl
pairs_kinds (suc n) (x ∷ mark ∷ rest) f h = refl

second_none : (o p : Option MufFault) → p ≡ None → option_or o p ≡ o
second_none (Some f) p e = refl
second_none None p e = e

dict_counted : (n : ℕ) (s : Scope) (rest : List Datum) → primitive_used 1 (counts (an_int ∷ []) (anything ∷ a_key ∷ []) []) (Some (plain dict_made)) s (int (pos n) ∷ rest) ≡ needing 1 s.locked (int (pos n) ∷ rest) (needing (2 * n + 1) s.locked (int (pos n) ∷ rest) (dict_read n (int (pos n) ∷ rest)))
dict_counted n s rest =
    let st = int (pos n) ∷ rest in
    let ns = times n (anything ∷ a_key ∷ []) ++ [] in
    let kinds = option_or (first_refusal unfit ns rest) (first_refusal (absent all_there) ns rest) in
    let two : 2 * n + 1 ≡ suc (n + n) = omega arith in
    let more : n + n + 1 ≡ suc (n + n) = omega arith in
    let quiet : kinds ≡ first_refusal unfit ns rest = second_none (first_refusal unfit ns rest) (first_refusal (absent all_there) ns rest) (pair_walk n rest) in
    fits_count (nat_lt (length st) (s.locked + 1)) (nat_lt (length st) (s.locked + suc (length ns))) (too_few 1 st) (too_few (suc (length ns)) st) kinds (items_put (suc (length ns)) (dict_made (take (suc (length ns)) st)) (drop (suc (length ns)) st))
    ∙ ap (λ k. needing 1 s.locked st (needing (suc (length ns)) s.locked st (answer_unless k (items_put (suc (length ns)) (dict_made (take (suc (length ns)) st)) (drop (suc (length ns)) st))))) quiet
    ∙ ap (λ m. needing 1 s.locked st (needing (suc m) s.locked st (answer_unless (first_refusal unfit ns rest) (items_put (suc m) (dict_made (take (suc m) st)) (drop (suc m) st))))) (pair_length n)
    ∙ ap (needing 1 s.locked st)
    (where_false (nat_lt (length st) (s.locked + suc (n + n))) (refuses (too_few (suc (n + n)) st)) _ _
    (λ e. pairs_kinds n rest (λ ps. items_put (suc (n + n)) (valued (dict (pairs_of (gathered ps)))) (drop (n + n) rest)) (enough (length rest) s.locked (n + n) e)))
    ∙ rw (two, more) (ap (λ a. needing 1 s.locked st (needing (suc (n + n)) s.locked st a)) (same_read n (pairs_in n rest) (drop (n + n) rest))) where
      same_read : (n : ℕ) (o : Option (List (MapKey × Datum))) (rest : List Datum) → by_pairs (λ ps. items_put (suc (n + n)) (valued (dict (pairs_of (gathered ps)))) rest) o ≡ pairs_read n o rest
      same_read n (Some ps) rest = let more : n + n + 1 ≡ suc (n + n) = omega arith in ap (λ m. items_put m (valued (dict (pairs_of (gathered ps)))) rest) (sym more)
      same_read n None rest = refl

pub dict_used : (s : Scope) (stack : List Datum) → primitive_used 1 (counts (an_int ∷ []) (anything ∷ a_key ∷ []) []) (Some (plain dict_made)) s stack ≡ needing 1 s.locked stack (by_top 2 dict_read s.locked stack (int_at 0 stack))
dict_used s (int (pos n) ∷ rest) = dict_counted n s rest
dict_used s (int (negsuc n) ∷ rest) = let st = int (negsuc n) ∷ rest in bad_count (nat_lt (length st) (s.locked + 1)) (too_few 1 st) (short 1 s.locked st) None (items_put 1 (dict_made (take 1 st)) (drop 1 st))
dict_used s [] = let st : List Datum = [] in no_count (nat_lt (length st) (s.locked + 1)) (too_few 1 st) None (refuses BadType)
dict_used s (text t ∷ rest) = let st = text t ∷ rest in no_count (nat_lt (length st) (s.locked + 1)) (too_few 1 st) (Some BadType) (items_put 1 (dict_made (take 1 st)) (drop 1 st))
dict_used s (object d ∷ rest) = let st = object d ∷ rest in no_count (nat_lt (length st) (s.locked + 1)) (too_few 1 st) (Some BadType) (items_put 1 (dict_made (take 1 st)) (drop 1 st))
dict_used s (variable v ∷ rest) = let st = variable v ∷ rest in no_count (nat_lt (length st) (s.locked + 1)) (too_few 1 st) (Some BadType) (items_put 1 (dict_made (take 1 st)) (drop 1 st))
dict_used s (address p w ∷ rest) = let st = address p w ∷ rest in no_count (nat_lt (length st) (s.locked + 1)) (too_few 1 st) (Some BadType) (items_put 1 (dict_made (take 1 st)) (drop 1 st))
dict_used s (lock l ∷ rest) = let st = lock l ∷ rest in no_count (nat_lt (length st) (s.locked + 1)) (too_few 1 st) (Some BadType) (items_put 1 (dict_made (take 1 st)) (drop 1 st))
dict_used s (items ds ∷ rest) = let st = items ds ∷ rest in no_count (nat_lt (length st) (s.locked + 1)) (too_few 1 st) (Some BadType) (items_put 1 (dict_made (take 1 st)) (drop 1 st))
dict_used s (dict ps ∷ rest) = let st = dict ps ∷ rest in no_count (nat_lt (length st) (s.locked + 1)) (too_few 1 st) (Some BadType) (items_put 1 (dict_made (take 1 st)) (drop 1 st))
dict_used s (mark ∷ rest) = let st = mark ∷ rest in no_count (nat_lt (length st) (s.locked + 1)) (too_few 1 st) (Some BadType) (items_put 1 (dict_made (take 1 st)) (drop 1 st))

pub ruleset count_steps = (length-map)

-- ---- what is read of the stack

pub counted_item : (n at : ℕ) (stack : List Datum) (x : Datum) → 0 < at → at ≤ n → slice_get stack at ≡ Some x → slice_get (take n (drop 1 stack)) (at - 1) ≡ Some x
counted_item n zero stack x p l e = absurd (omega (arith, p))
counted_item n (suc at) [] x p l e = absurd (let no : None ≡ Some x = e in cc)
counted_item n (suc at) (y ∷ stack) x p l e = let z : suc at - 1 ≡ at = omega arith in rw z (in_front n at stack (omega (arith, l)) ∙ e) where
  in_front : (n at : ℕ) (xs : List Datum) → at < n → slice_get (take n xs) at ≡ slice_get xs at
  in_front zero at xs h = absurd (omega (arith, h))
  in_front (suc n) at [] h = refl
  in_front (suc n) zero (y ∷ xs) h = refl
  in_front (suc n) (suc at) (y ∷ xs) h = in_front n at xs (omega (arith, h))

-- pairs that were read, and those that are left
pub pairs_more : (ps : List (MapKey × Datum)) (n : ℕ) (stack : List Datum) (x : Datum) (l : MapKey) → slice_get stack 0 ≡ Some x → option_and_then map_key_of (slice_get stack 1) ≡ Some l → pairs_before ps (pairs_in (suc n) stack) ≡ pairs_before (ps ++ (l, x) ∷ []) (pairs_in n (drop 2 stack))
pairs_more ps n [] x l e g = absurd (let no : None ≡ Some x = e in cc)
pairs_more ps n (y ∷ []) x l e g = absurd (let no : None ≡ Some l = g in cc)
pairs_more ps n (y ∷ j ∷ stack) x l e g =
    let p : y ≡ x = cc in
    ap (λ z. pairs_before ps (pair_before (map_key_of j) z (pairs_in n stack))) p
    ∙ ap (λ k. pairs_before ps (pair_before k x (pairs_in n stack))) g
    ∙ joined ps l x (pairs_in n stack) where
      joined : (ps : List (MapKey × Datum)) (l : MapKey) (x : Datum) (o : Option (List (MapKey × Datum))) → pairs_before ps (pair_before (Some l) x o) ≡ pairs_before (ps ++ (l, x) ∷ []) o
      joined ps l x (Some qs) = ap Some (sym (append_assoc ps ((l, x) ∷ []) qs))
      joined ps l x None = refl

pub pairs_none : (ps : List (MapKey × Datum)) (n : ℕ) (stack : List Datum) → option_and_then map_key_of (slice_get stack 1) ≡ None → pairs_before ps (pairs_in (suc n) stack) ≡ None
pairs_none ps n [] g = refl
pairs_none ps n (y ∷ []) g = refl
pairs_none ps n (y ∷ j ∷ stack) g = ap (λ k. pairs_before ps (pair_before k y (pairs_in n stack))) g

pub ruleset copy_steps = (length-map)

pub ruleset pair_steps = (length-map)

pub ruleset made_steps = (length-map)
