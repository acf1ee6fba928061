-- What stands at a place of a list, is put there, or taken out.
use Rattle.std.proofs.Common.{List, None, Option, Some, [], add-one, ap, arith, drop, drop-cons, get_or, inl, inr, insert, length, length-take, map, option_map, refl, rules, set, slice_index_or, subst, suc, sym, take, take-append-drop, zero, ℕ, ⊎_elim, ◌++◌, ◌+◌, ◌<◌, ◌∙◌, ◌∷◌, ◌≡◌, ◌≢◌, ◌≤◌, ◌⊎◌}
use Rattle.std.proofs.Math.Seq.{drop-append_seam, take-append_seam, take-set-lt}
use Rattle.std.proofs.lemmas.Bool.{cases_eq, cases_lt}
use Rattle.std.proofs.lemmas.List.{drop_more, get_or-map, get_or-take, length-map, set-get_or, set_past, take-set-le}
use Rattle.std.proofs.lemmas.Option.{get_or_from_slice_get, none-some, same_Some, slice_get-get_or, slice_get-map, slice_get_within}
use Rattle.std.specs.List.{remove}
use Rattle.std.specs.Prelude.{option_to_list, slice_get, slice_set}
use lib.ListN.{get_elem?}
use mathlib.Core.Logic.{dite}
use mathlib.Core.Option.{some, some-injective, some-ne-none}
use native.Mathlib.Decide.{ℕ_discrete}

-- one of them, and those behind it
pub split_here : {A : Type 0} (xs : List A) (i : ℕ) (e : A) → i < length xs → e ≡ get_or xs i e → drop i xs ≡ e ∷ drop (i + 1) xs
split_here xs i e h is =
    let more : drop i xs ≡ get_or xs i e ∷ drop (i + 1) xs = rw (add-one, drop-cons xs i e) refl in
    more ∙ ap (λ x. x ∷ drop (i + 1) xs) (sym is)

-- the next one, and those behind it
pub next_mapped : {A B : Type 0} (f : A → B) (xs : List A) (i : ℕ) (d : A) → i < length xs → drop i (map f xs) ≡ f (get_or xs i d) ∷ drop (i + 1) (map f xs)
next_mapped f xs i d less =
    drop-cons (map f xs) i (f d) (omega (arith, less, length-map xs f))
    ∙ ap (λ x. x ∷ drop (suc i) (map f xs)) (get_or-map f xs i d (f d) less)
    ∙ ap (λ k. f (get_or xs i d) ∷ drop k (map f xs)) (sym (add-one i))

pub quiet_at : {X : Type 0} (f : X → X) (xs : List X) (i : ℕ) (d new : X) → i < length xs → f new ≡ f (get_or xs i d) → map f (set xs i new) ≡ map f xs
quiet_at f [] i d new h q = absurd (omega arith)
quiet_at f (x ∷ xs) zero d new h q = ap (λ y. y ∷ map f xs) q
quiet_at f (x ∷ xs) (suc i) d new h q = ap (λ ys. f x ∷ ys) (quiet_at f xs i d new (omega arith) q)

-- where one is written that f doesn't tell from the old one
pub quiet_where : {X : Type 0} (f : X → X) (xs ys : List X) (i : ℕ) (d new : X) → i < length xs → f new ≡ f (get_or ys i d) → map f ys ≡ map f xs → map f (set ys i new) ≡ map f xs
quiet_where f xs ys i d new h q before =
    let as_long : length ys ≡ length xs = sym (length-map ys f) ∙ ap length before ∙ length-map xs f in
    quiet_at f ys i d new (omega arith) q ∙ before

pub first_byte : (file : List ℕ) (d : ℕ) → get_or (take 34 file) 0 d ≡ get_or file 0 d
first_byte [] d = refl
first_byte (x ∷ file) d = refl

pub got_index : {X : Type 0} (xs : List X) (i : ℕ) (d : X) → i < length xs → slice_get xs i ≡ Some (slice_index_or xs i d)
got_index [] i d lt = absurd (omega (arith, lt))
got_index (x ∷ xs) zero d lt = refl
got_index (x ∷ xs) (suc i) d lt = got_index xs i d (omega (arith, lt))

pub got_before : {X : Type 0} (xs : List X) (x y : X) (i : ℕ) → slice_get xs i ≡ Some y → slice_get (xs ++ x ∷ []) i ≡ Some y
got_before [] x y i at = absurd (none-some y at)
got_before (z ∷ zs) x y zero at = at
got_before (z ∷ zs) x y (suc i) at = got_before zs x y i at

-- of a list with one more, an item is the last one, or stands before it
pub place_snoc : {X : Type 0} (xs : List X) (x y : X) (i : ℕ) → slice_get (xs ++ x ∷ []) i ≡ Some y → ((i ≡ length xs) × (x ≡ y)) ⊎ (slice_get xs i ≡ Some y)
place_snoc [] x y zero at = inl (refl, same_Some x y at)
place_snoc [] x y (suc i) at = absurd (none-some y at)
place_snoc (z ∷ zs) x y zero at = inr at
place_snoc (z ∷ zs) x y (suc i) at = elim (place_snoc zs x y i at) [ inl e ↦ inl (ap suc e.0, e.1) | inr e ↦ inr e ]

pub get_more : {X : Type 0} (xs : List X) (x : X) (k : ℕ) → (k ≡ length xs → ⊥) → slice_get (xs ++ x ∷ []) k ≡ slice_get xs k
get_more [] x zero ne = absurd (ne refl)
get_more [] x (suc k) ne = refl
get_more (y ∷ ys) x zero ne = refl
get_more (y ∷ ys) x (suc k) ne = get_more ys x k (λ e. ne (ap suc e))

pub get_elsewhere : {X : Type 0} (xs : List X) (n k : ℕ) (v : X) → (k ≡ n → ⊥) → slice_get (slice_set xs n v) k ≡ slice_get xs k
get_elsewhere [] n k v ne = refl
get_elsewhere (y ∷ ys) zero zero v ne = absurd (ne refl)
get_elsewhere (y ∷ ys) zero (suc k) v ne = refl
get_elsewhere (y ∷ ys) (suc n) zero v ne = refl
get_elsewhere (y ∷ ys) (suc n) (suc k) v ne = get_elsewhere ys n k v (λ e. ne (ap suc e))

pub drop_here : {X : Type 0} (xs : List X) (k : ℕ) (x : X) → slice_get xs k ≡ Some x → drop k xs ≡ x ∷ drop (suc k) xs
drop_here xs k x h = drop-cons xs k x (slice_get_within xs k x h) ∙ ap (λ y. y ∷ drop (suc k) xs) (get_or_from_slice_get xs k x x h)

pub get_still : (ns : List ℕ) (n at k : ℕ) → slice_get ns at ≡ Some k → slice_get (ns ++ n ∷ []) at ≡ Some k
get_still [] n at k e = absurd (cc (e))
get_still (m ∷ ns) n zero k e = e
get_still (m ∷ ns) n (suc at) k e = get_still ns n at k e

pub take_next : {A : Type 0} (xs : List A) (i : ℕ) (x : A) → slice_get xs i ≡ Some x → take (suc i) xs ≡ take i xs ++ x ∷ []
take_next [] i x at = absurd (cc at)
take_next (y ∷ ys) zero x at = let same : y ≡ x = cc at in ap (λ z. z ∷ []) same
take_next (y ∷ ys) (suc i) x at = ap (λ zs. y ∷ zs) (take_next ys i x at)

pub get_ext : {X : Type 0} (xs ys : List X) → ((k : ℕ) → slice_get xs k ≡ slice_get ys k) → xs ≡ ys
get_ext [] [] h = refl
get_ext [] (y ∷ ys) h = absurd (cc (h 0))
get_ext (x ∷ xs) [] h = absurd (cc (h 0))
get_ext (x ∷ xs) (y ∷ ys) h =
    let head : x ≡ y = cc (h 0) in
    let rest : xs ≡ ys = get_ext xs ys (λ k. h (suc k)) in
    cc

-- an item that is written where it stands
pub set_back : {X : Type 0} (xs : List X) (n : ℕ) (x : X) → slice_get xs n ≡ Some x → slice_set xs n x ≡ xs
set_back [] n x h = refl
set_back (y ∷ ys) zero x h = let e : y ≡ x = cc (h) in ap (λ z. z ∷ ys) (sym e)
set_back (y ∷ ys) (suc n) x h = let e : slice_set ys n x ≡ ys = set_back ys n x h in cc

pub past : (l : List ℕ) (i d : ℕ) → length l ≤ i → get_or l i d ≡ d
past [] i d le = refl
past (x ∷ l) zero d le = absurd (omega (arith, le))
past (x ∷ l) (suc i) d le = past l i d (omega (arith, le))

pub drop-at : (text : List ℕ) (at b : ℕ) → slice_get text at ≡ Some b → drop at text ≡ b ∷ drop (suc at) text
drop-at [] at b h = absurd (let e : None ≡ Some b = h in cc)
drop-at (x ∷ xs) zero b h = let e : Some x ≡ Some b = h in let f : x ≡ b = cc in ap (λ z. z ∷ xs) f
drop-at (x ∷ xs) (suc at) b h = drop-at xs at b h

pub drop-here : (text : List ℕ) (at b : ℕ) → slice_get text at ≡ Some b → drop at text ≡ b ∷ drop (at + 1) text
drop-here text at b h = drop-at text at b h ∙ ap (λ n. b ∷ drop n text) (sym (add-one at))

-- what stands at a place of a text
pub drop-past : (text : List ℕ) (at : ℕ) → slice_get text at ≡ None → drop at text ≡ []
drop-past [] zero h = refl
drop-past [] (suc at) h = refl
drop-past (x ∷ xs) zero h = absurd (let e : Some x ≡ None = h in cc)
drop-past (x ∷ xs) (suc at) h = drop-past xs at h

-- the byte at a place is that of a longer equal front
pub get_or_front : (n : ℕ) (a b : List ℕ) (i : ℕ) → take n a ≡ take n b → i < n → get_or a i 0 ≡ get_or b i 0
get_or_front n a b i e lt = sym (get_or-take n a i 0 lt) ∙ ap (λ l. get_or l i 0) e ∙ get_or-take n b i 0 lt

-- the end of a list, known at one place and behind it
pub same_back : (place : ℕ) (a b : List ℕ) → length a ≡ length b → take place a ≡ take place b → get_or a place 0 ≡ get_or b place 0 → drop (place + 1) a ≡ drop (place + 1) b → place < length a → a ≡ b
same_back place a b len front at back lt =
    sym (take-append-drop place a)
    ∙ ap (λ l. take place a ++ l) (drop_more a place 0 lt ∙ ap (λ x. x ∷ drop (place + 1) a) at ∙ ap (λ l. get_or b place 0 ∷ l) back ∙ sym (drop_more b place 0 (omega (arith, len))))
    ∙ ap (λ l. l ++ drop place b) front
    ∙ take-append-drop place b

pub within : (bodies : List (List ℕ)) (i : ℕ) (bytes : List ℕ) → slice_get bodies i ≡ Some bytes → i < length bodies
within [] i bytes at = absurd (none-some bytes at)
within (x ∷ rest) zero bytes at = omega arith
within (x ∷ rest) (suc i) bytes at = omega (arith, within rest i bytes at)

pub set_again : {X : Type 0} (xs : List X) (i : ℕ) (x y : X) → slice_set (slice_set xs i x) i y ≡ slice_set xs i y
set_again [] i x y = refl
set_again (z ∷ xs) zero x y = refl
set_again (z ∷ xs) (suc i) x y = ap (λ l. z ∷ l) (set_again xs i x y)

-- what was replaced stands in its place again
pub restored : {X : Type 0} (xs : List X) (count at : ℕ) (x y : X) → y ≡ get_or xs at y → slice_set (take count (slice_set xs at x)) at y ≡ take count xs
restored xs count at x y is = by (cases_lt at count)
  where
    by : (at < count) ⊎ (count ≤ at) → slice_set (take count (slice_set xs at x)) at y ≡ take count xs
    by (inl lt) =
        ap (λ l. slice_set l at y) (take-set-lt count xs at x lt) ∙ set_again (take count xs) at x y ∙ sym (take-set-lt count xs at y lt)
        ∙ ap (take count) (ap (slice_set xs at) is ∙ set-get_or xs at y)
    by (inr ge) = ap (λ l. slice_set l at y) (take-set-le count xs at x ge) ∙ set_past (take count xs) at y (omega (arith, length-take count xs, ge))

-- a record is put back that was just replaced
pub same_again : {X : Type 0} (xs now : List X) (at : ℕ) (x y : X) → y ≡ get_or xs at y → now ≡ slice_set xs at x → slice_set now at y ≡ xs
same_again xs now at x y is set = ap (λ l. slice_set l at y) set ∙ set_again xs at x y ∙ ap (slice_set xs at) is ∙ set-get_or xs at y

pub mapped_at : {X : Type 0} (f : X → X) (i : ℕ) (xs : List X) (d : X) → i < length xs →
    set (map f (take i xs) ++ drop i xs) i (f (get_or (map f (take i xs) ++ drop i xs) i d)) ≡ map f (take (suc i) xs) ++ drop (suc i) xs
mapped_at f i [] d h = absurd (omega arith)
mapped_at f zero (x ∷ xs) d h = refl
mapped_at f (suc i) (x ∷ xs) d h = ap (λ ys. f x ∷ ys) (mapped_at f i xs d (omega arith))

-- one more is mapped
pub mapped_more : {X : Type 0} (f : X → X) (xs ys : List X) (i : ℕ) (d new : X) → i < length xs → ys ≡ map f (take i xs) ++ drop i xs → new ≡ f (get_or ys i d) →
    set ys i new ≡ map f (take (i + 1) xs) ++ drop (i + 1) xs
mapped_more f xs ys i d new h is e = ap (set ys i) e ∙ rw (add-one, is) (mapped_at f i xs d h)

-- where what stood there is named
pub mapped_there : {X : Type 0} (f : X → X) (xs ys : List X) (i : ℕ) (old new : X) → i < length xs → ys ≡ map f (take i xs) ++ drop i xs → old ≡ get_or ys i old → new ≡ f old →
    set ys i new ≡ map f (take (i + 1) xs) ++ drop (i + 1) xs
mapped_there f xs ys i old new h is there e = mapped_more f xs ys i old new h is (e ∙ ap f there)

pub set_same : {A : Type 0} (xs : List A) (i : ℕ) (a : A) → get_elem? xs i ≡ some a → set xs i a ≡ xs
set_same [] i a e = refl
set_same (x ∷ xs) zero a e = ap (λ y. y ∷ xs) (sym (same x a e))
  where
    same : {A : Type 0} (x a : A) → some x ≡ some a → x ≡ a
    same x a e = cc
set_same (x ∷ xs) (suc i) a e = ap (λ l. x ∷ l) (set_same xs i a e)

pub at_below : {A : Type 0} (xs : List A) (i : ℕ) (a : A) → get_elem? xs i ≡ some a → i < length xs
at_below [] i a e = absurd (some-ne-none a (sym e))
at_below (x ∷ xs) zero a e = omega arith
at_below (x ∷ xs) (suc i) a e = let h = at_below xs i a e in omega arith

pub one_more : {A : Type 0} (P : A → Type 0) (xs : List A) (n : ℕ) (x : A) → get_elem? xs n ≡ some x → P x
    → ((i : ℕ) (a : A) → i < n → get_elem? xs i ≡ some a → P a) → (i : ℕ) (a : A) → i < n + 1 → get_elem? xs i ≡ some a → P a
one_more P xs n x there here below i a lt at = dite (ℕ_discrete i n)
    (λ e. subst P (some-injective x a (sym there ∙ sym (ap (λ m. get_elem? xs m) e) ∙ at)) here)
    (λ ne. below i a (less i n ne lt) at)
  where
    less : (i n : ℕ) → ¬ (i ≡ n) → i < n + 1 → i < n
    less i n ne lt = ⊎_elim (λ (h : i < n). h) (λ (h : n ≤ i). absurd (ne (omega arith))) (cases_lt i n)

pub set_set : {A : Type 0} (xs : List A) (i : ℕ) (v w : A) → set (set xs i v) i w ≡ set xs i w
set_set [] i v w = refl
set_set (x ∷ xs) zero v w = refl
set_set (x ∷ xs) (suc i) v w = ap (λ l. x ∷ l) (set_set xs i v w)

-- a place that gets what it has
pub put_same : {A : Type 0} (l : List A) (i : ℕ) (a b : A) → get_elem? l i ≡ some a → b ≡ a → slice_set l i b ≡ l
put_same [] i a b h e = refl
put_same (x ∷ xs) zero a b h e = cc (h, e)
put_same (x ∷ xs) (suc i) a b h e = ap (λ l. x ∷ l) (put_same xs i a b h e)

pub get_left : (k : ℕ) (xs ys : List ℕ) → k < length xs → slice_get (xs ++ ys) k ≡ slice_get xs k
get_left k [] ys lt = absurd (omega arith)
get_left zero (x ∷ xs) ys lt = refl
get_left (suc k) (x ∷ xs) ys lt = get_left k xs ys (omega arith)

pub some_at : {X : Type 0} (xs : List X) (n : ℕ) → n < length xs → (x : X) × (slice_get xs n ≡ Some x)
some_at [] n h = absurd (omega arith)
some_at (y ∷ ys) zero h = (y, refl)
some_at (y ∷ ys) (suc n) h = some_at ys n (omega arith)

pub get_none : (k : ℕ) (xs : List ℕ) → slice_get xs k ≡ None → length xs ≤ k
get_none k xs h = elim (cases_lt k (length xs)) [ inl lt ↦ let s : (x : ℕ) × (slice_get xs k ≡ Some x) = some_at xs k lt in absurd (none-some s.0 (sym h ∙ s.1)) | inr le ↦ le ]

pub get_front : (xs ys : List ℕ) (k x : ℕ) → slice_get xs k ≡ Some x → slice_get (xs ++ ys) k ≡ Some x
get_front [] ys k x h = absurd (cc)
get_front (y ∷ xs) ys zero x h = h
get_front (y ∷ xs) ys (suc k) x h = get_front xs ys k x h

-- behind the last one
pub none_past : {X : Type 0} (xs : List X) (i : ℕ) → slice_get xs i ≡ None → length xs ≤ i
none_past xs i e =
    elim (cases_lt i (length xs)) [
      | inl within ↦ absurd (none_within xs i within e)
      | inr past ↦ past
    ]
  where
    none_within : {X : Type 0} (xs : List X) (i : ℕ) → i < length xs → slice_get xs i ≡ None → ⊥
    none_within [] i within e = omega (arith, within)
    none_within (x ∷ xs) i within e = let f : Some (get_or (x ∷ xs) i x) ≡ None = sym (slice_get-get_or (x ∷ xs) i x within) ∙ e in cc

pub get_drop : {A : Type 0} → (n k : ℕ) (xs : List A) → slice_get (drop n xs) k ≡ slice_get xs (n + k)
get_drop zero k xs = let e : 0 + k ≡ k = omega arith in rw e refl
get_drop (suc n) k [] = refl
get_drop (suc n) k (x ∷ xs) = let e : suc n + k ≡ suc (n + k) = omega arith in rw e (get_drop n k xs)

-- an item taken out and another one put into its place
pub set_parts : {A : Type 0} → (n : ℕ) (xs : List A) (x : A) → n < length xs → take n xs ++ (x ∷ drop (n + 1) xs) ≡ slice_set xs n x
set_parts n [] x h = absurd (omega (arith, h))
set_parts zero (y ∷ ys) x h = refl
set_parts (suc n) (y ∷ ys) x h =
    let e : suc n + 1 ≡ suc (n + 1) = omega arith in
    rw e (ap (λ r. y ∷ r) (set_parts n ys x (omega (arith, h))))

pub replaced : {A : Type 0} → (n : ℕ) (xs : List A) (x : A) → n < length xs → take n (take n xs ++ drop (n + 1) xs) ++ (x ∷ drop n (take n xs ++ drop (n + 1) xs)) ≡ slice_set xs n x
replaced n xs x h =
    let e : n ≡ length (take n xs) = omega (arith, h, length-take n xs) in
    ap (λ r. r ++ (x ∷ drop n (take n xs ++ drop (n + 1) xs))) (ap (λ k. take k (take n xs ++ drop (n + 1) xs)) e ∙ take-append_seam (take n xs) (drop (n + 1) xs))
    ∙ ap (λ r. take n xs ++ (x ∷ r)) (ap (λ k. drop k (take n xs ++ drop (n + 1) xs)) e ∙ drop-append_seam (take n xs) (drop (n + 1) xs))
    ∙ set_parts n xs x h

pub map_remove : {A B : Type 0} → (f : A → B) (xs : List A) (i : ℕ) → map f (remove xs i) ≡ remove (map f xs) i
map_remove f [] zero = refl
map_remove f [] (suc i) = refl
map_remove f (x ∷ xs) zero = refl
map_remove f (x ∷ xs) (suc i) = ap (λ r. f x ∷ r) (map_remove f xs i)

pub map_insert : {A B : Type 0} → (f : A → B) (xs : List A) (i : ℕ) (x : A) → map f (insert xs i x) ≡ insert (map f xs) i (f x)
map_insert f xs zero x = refl
map_insert f [] (suc i) x = refl
map_insert f (y ∷ xs) (suc i) x = ap (λ r. f y ∷ r) (map_insert f xs i x)

-- what is read of a list that is mapped
pub mapped_read : {A B : Type 0} → (f : A → B) (i : ℕ) (xs : List A) (x : A) → x ≡ get_or xs i x → f x ≡ get_or (map f xs) i (f x)
mapped_read f i [] x e = refl
mapped_read f zero (y ∷ xs) x e = ap f e
mapped_read f (suc i) (y ∷ xs) x e = mapped_read f i xs x e

-- the item at a place and those behind it
pub item_at : {A B : Type 0} (f : A → B) (xs : List A) (at : ℕ) (x : A) → slice_get xs at ≡ Some x → drop at (map f xs) ≡ f x ∷ drop (suc at) (map f xs)
item_at f [] at x e = absurd cc
item_at f (y ∷ ys) zero x e = (let same : y ≡ x = cc in ap (λ z. f z ∷ map f ys) same)
item_at f (y ∷ ys) (suc at) x e = item_at f ys at x e

pub none_at : {A B : Type 0} (f : A → B) (xs : List A) (at : ℕ) → slice_get xs at ≡ None → drop at (map f xs) ≡ []
none_at f [] zero e = refl
none_at f [] (suc at) e = refl
none_at f (y ∷ ys) zero e = absurd cc
none_at f (y ∷ ys) (suc at) e = none_at f ys at e

pub get_taken : {A : Type 0} → (n m : ℕ) (xs : List A) → n < m → slice_get (take m xs) n ≡ slice_get xs n
get_taken n zero xs h = absurd (omega (arith, h))
get_taken n (suc m) [] h = refl
get_taken zero (suc m) (x ∷ xs) h = refl
get_taken (suc n) (suc m) (x ∷ xs) h = get_taken n m xs (omega (arith, h))

pub first_one : {A : Type 0} → (n : ℕ) (xs : List A) (x : A) → slice_get xs n ≡ Some x → take 1 (drop n xs) ≡ x ∷ []
first_one zero [] x s = absurd (search (rules, s))
first_one zero (y ∷ ys) x s = ap (λ o. option_to_list o) s
first_one (suc n) [] x s = absurd (search (rules, s))
first_one (suc n) (y ∷ ys) x s = first_one n ys x s

pub get_map : {X Y : Type 0} (g : X → Y) (xs : List X) (k : ℕ) → slice_get (map g xs) k ≡ option_map g (slice_get xs k)
get_map g [] k = refl
get_map g (x ∷ xs) zero = refl
get_map g (x ∷ xs) (suc k) = get_map g xs k

pub got_last : {X : Type 0} (xs : List X) (x : X) → slice_get (xs ++ x ∷ []) (length xs) ≡ Some x
got_last [] x = refl
got_last (y ∷ xs) x = got_last xs x

pub got_on : {X : Type 0} (xs ys : List X) (i : ℕ) → i < length xs → slice_get (xs ++ ys) i ≡ slice_get xs i
got_on [] ys i less = absurd (omega (arith, less))
got_on (x ∷ xs) ys zero less = refl
got_on (x ∷ xs) ys (suc i) less = got_on xs ys i (omega (arith, less))

-- behind the last one is nothing
pub got_past : {X : Type 0} (xs : List X) (x : X) → slice_get (xs ++ x ∷ []) (suc (length xs)) ≡ None
got_past [] x = refl
got_past (y ∷ xs) x = got_past xs x

-- one that is kept is there, and the others are those that were
pub get_nil : {X : Type 0} (n : ℕ) → ◌≡◌ {A = Option X} (slice_get [] n) None
get_nil zero = refl
get_nil (suc n) = refl

pub get_past : {X : Type 0} (xs : List X) → slice_get xs (length xs) ≡ None
get_past [] = refl
get_past (x ∷ xs) = get_past xs

pub get_set_same : {X : Type 0} (xs : List X) (n : ℕ) (v x : X) → slice_get xs n ≡ Some x → slice_get (slice_set xs n v) n ≡ Some v
get_set_same [] n v x h = absurd (cc)
get_set_same (y ∷ ys) zero v x h = refl
get_set_same (y ∷ ys) (suc n) v x h = get_set_same ys n v x h

pub length_slice_set : {X : Type 0} (xs : List X) (n : ℕ) (v : X) → length (slice_set xs n v) ≡ length xs
length_slice_set [] n v = refl
length_slice_set (y ∷ ys) zero v = refl
length_slice_set (y ∷ ys) (suc n) v = ap suc (length_slice_set ys n v)

-- a reader that f leaves as it is
pub read_mapped : {X Y : Type 0} (read : Option X → Y) (f : X → X) (xs : List X) (k : ℕ) → ((x : X) → read (Some (f x)) ≡ read (Some x)) → read (slice_get (map f xs) k) ≡ read (slice_get xs k)
read_mapped {X} read f xs k h = ap read (slice_get-map f xs k) ∙ by_cases (slice_get xs k)
  where
    by_cases : (o : Option X) → read (option_map f o) ≡ read o
    by_cases None = refl
    by_cases (Some x) = h x

pub read_more : {X Y : Type 0} (g : Option X → Y) (xs : List X) (y : X) (k : ℕ) → g (Some y) ≡ g None → g (slice_get (xs ++ y ∷ []) k) ≡ g (slice_get xs k)
read_more {X} g xs y k h = elim (cases_eq k (length xs)) [
  | inl e ↦ rw (e, got_last xs y, get_past xs) h
  | inr e ↦ ap g (get_more xs y k e)
]

-- a change at one place that the view g doesn't see
pub map_set : {X Y : Type 0} (g : X → Y) (xs : List X) (n : ℕ) (x y : X) → slice_get xs n ≡ Some x → g y ≡ g x → map g (slice_set xs n y) ≡ map g xs
map_set g [] n x y e h = refl
map_set g (z ∷ zs) zero x y e h = let same : z ≡ x = cc in ap (λ v. v ∷ map g zs) (h ∙ ap g (sym same))
map_set g (z ∷ zs) (suc n) x y e h = ap (λ vs. g z ∷ vs) (map_set g zs n x y e h)

pub at_removed : {A : Type 0} (xs : List A) (i j : ℕ) (a : A) → get_elem? (remove xs i) j ≡ some a → ((j < i) × (get_elem? xs j ≡ some a)) ⊎ ((i ≤ j) × (get_elem? xs (suc j) ≡ some a))
at_removed [] zero j a e = absurd (some-ne-none a (sym e))
at_removed [] (suc i) j a e = absurd (some-ne-none a (sym e))
at_removed (x ∷ xs) zero j a e = inr (omega arith, e)
at_removed (x ∷ xs) (suc i) zero a e = inl (omega arith, e)
at_removed (x ∷ xs) (suc i) (suc j) a e = ⊎_elim
    (λ (y : (j < i) × (get_elem? xs j ≡ some a)). let l = y.0 in inl (omega arith, y.1))
    (λ (y : (i ≤ j) × (get_elem? xs (suc j) ≡ some a)). let l = y.0 in inr (omega arith, y.1))
    (at_removed xs i j a e)

pub set_there : {A : Type 0} (xs : List A) (i : ℕ) (v w : A) → get_elem? xs i ≡ some v → get_elem? (set xs i w) i ≡ some w
set_there [] i v w at = absurd (some-ne-none v (sym at))
set_there (x ∷ xs) zero v w at = refl
set_there (x ∷ xs) (suc i) v w at = set_there xs i v w at

pub still_at : {A : Type 0} (xs : List A) (i j : ℕ) (a : A) → get_elem? xs j ≡ some a → j ≢ i → (n : ℕ) × (get_elem? (remove xs i) n ≡ some a)
still_at [] i j a e ne = absurd (some-ne-none a (sym e))
still_at (x ∷ xs) zero zero a e ne = absurd (ne refl)
still_at (x ∷ xs) zero (suc j) a e ne = (j, e)
still_at (x ∷ xs) (suc i) zero a e ne = (0, e)
still_at (x ∷ xs) (suc i) (suc j) a e ne = let h = still_at xs i j a e (λ s. ne (ap suc s)) in (suc h.0, h.1)

pub length_set : {A : Type 0} (xs : List A) (i : ℕ) (a : A) → length (set xs i a) ≡ length xs
length_set [] i a = refl
length_set (x ∷ xs) zero a = refl
length_set (x ∷ xs) (suc i) a = ap suc (length_set xs i a)

pub set_swap : {A : Type 0} (xs : List A) (i j : ℕ) (a b : A) → i ≢ j → set (set xs i a) j b ≡ set (set xs j b) i a
set_swap [] i j a b ne = refl
set_swap (x ∷ xs) zero zero a b ne = absurd (ne refl)
set_swap (x ∷ xs) zero (suc j) a b ne = refl
set_swap (x ∷ xs) (suc i) zero a b ne = refl
set_swap (x ∷ xs) (suc i) (suc j) a b ne = ap (λ l. x ∷ l) (set_swap xs i j a b (λ e. ne (ap suc e)))
