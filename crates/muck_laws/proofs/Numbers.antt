-- Numbers, their order and their tests.
use Rattle.std.proofs.Common.{Bool, ap, arith, cond, false, if◌then◌else◌, inl, inr, int_lt, lt-ltb, ltb, ltb-false, ltb-true, min, nat_le, nat_lt, not, refl, rules, suc, sym, true, zero, ℕ, ℤ, ◌%◌, ◌&&◌, ◌*◌, ◌+◌, ◌-◌, ◌/◌, ◌<ℤ◌, ◌<◌, ◌==◌, ◌^◌, ◌||◌, ◌∙◌, ◌≡◌, ◌≢◌, ◌≤ℤ◌, ◌≤◌, ◌⊎◌}
use Rattle.std.proofs.Math.Nat.{mod-lt}
use Rattle.std.proofs.lemmas.Bool.{and_right, cases_eq, cases_lt, false≢true, le-leb, leb-false, lt-leb}
use Rattle.std.proofs.lemmas.Bool.Decides.{Decides-int_eq, nat_tests}
use Rattle.std.proofs.lemmas.Cmp.{int_eq_equiv}
use Rattle.std.proofs.lemmas.Int.{ints}
use Rattle.std.proofs.lemmas.Nat.{div-add-mod', div_below, le-div, mul-le}
use Rattle.std.specs.Cmp.{IsEquivalence}
use Rattle.std.specs.Ordering.{int_eq}
use Rattle.muck_laws.proofs.Truths.{or_last}

pub not_zero : (n : ℕ) → 0 < n → (n == 0) ≡ false
not_zero n h = grind (arith, nat_tests)

pub too_many : {n : ℕ} → n < 2 ^ 62 → 2 ^ 62 ≤ n → ⊥
too_many few many = omega (arith, few, many)

pub later_block : (k : ℕ) → k ≤ (k / 16 + 1) * 16
later_block k =
    let some : 0 < 16 = omega arith in
    let small : k % 16 < 16 = mod-lt k some in
    omega (arith, div-add-mod' k 16, small)

pub same_block : (k i : ℕ) → k ≤ i → i < (k / 16 + 1) * 16 → i / 16 ≡ k / 16
same_block k i le lt =
    omega (arith, div_below i 16 (k / 16 + 1) (omega arith) lt, le-div (k / 16) i 16 (omega arith) (omega (arith, le, div-add-mod' k 16)))

pub too_few : (n size count : ℕ) → size ≡ count → size < n → n ≤ count → ⊥
too_few n size count is more le = absurd (omega (arith, is, more, le))

pub not_less : (a b : ℕ) → nat_le b a ≡ true → nat_lt a b ≡ false
not_less a b h = grind arith

pub some_bytes : (n : ℕ) → false ≡ (n == 0) → 0 < n
some_bytes n h = elim (cases_eq n 0) [ inl e ↦ absurd (false≢true (h ∙ ap (λ m. m == 0) e)) | inr ne ↦ omega (arith, ne) ]

-- bytes were taken where some waited and there was room
pub took_count : (dead : Bool) (n a b : ℕ) → dead ≡ false → n ≡ (if dead then 0 else min a b) → 0 < a → 0 < b → 0 < n
took_count true n a b alive is some room = absurd cc
took_count false n a b alive is some room = omega arith

pub took_some : {A : Type 0} (n : ℕ) (old new : A) → 0 < n → (if nat_lt 0 n then new else old) ≡ new
took_some n old new some = ap (λ (b : Bool). if b then new else old) (lt-ltb 0 n some)

pub at_most : (n m : ℕ) → m ≡ n → n ≤ m
at_most n m same = omega arith

pub is_zero : (n : ℕ) → n ≡ 0 → (n == 0) ≡ true
is_zero zero h = refl
is_zero (suc n) h = absurd (omega arith)

pub other_number : (other pid n : ℤ) → int_eq other pid ≡ false → int_eq n pid ≡ true → int_eq n other ≡ false
other_number other pid n d e = grind (arith, ints)

pub int_equal : (a b : ℤ) → a ≡ b → int_eq a b ≡ true
int_equal a b e = rw e (int_eq_equiv.refl b)

pub event_of : (a b : Bool) (s due moment : ℕ) (r : Bool) → (a || (b || nat_le s due)) ≡ true → s ≤ moment → (a || (r || nat_le s (if b then moment else due))) ≡ true
event_of true b s due moment r h l = refl
event_of false true s due moment r h l = or_last false r (nat_le s moment) (le-leb s moment l)
event_of false false s due moment r h l = or_last false r (nat_le s due) h

pub late : (s m d : ℕ) → m < s → nat_le s d ≡ true → nat_le d m ≡ false
late s m d l h = grind (arith, nat_tests)

pub lower : (less s d : ℕ) → less ≤ s → nat_le s d ≡ true → nat_le less d ≡ true
lower less s d l h = grind (arith, nat_tests)

pub lower_of : (a b : Bool) (less s d : ℕ) → less ≤ s → (a || (b || nat_le s d)) ≡ true → (a || (b || nat_le less d)) ≡ true
lower_of true b less s d l h = refl
lower_of false true less s d l h = refl
lower_of false false less s d l h = lower less s d l h

pub not_due : (a b c : Bool) (s m d : ℕ) → m < s → (a || (b || nat_le s d)) ≡ true → (nat_le d m && (not a && (not b && c))) ≡ false
not_due true b c s m d l h = and_right (nat_le d m) false refl
not_due false true c s m d l h = and_right (nat_le d m) false refl
not_due false false c s m d l h = ap (λ x. x && c) (late s m d l h)

pub at_most_more : (c : Bool) (a b : ℕ) → a ≤ b → a ≤ cond c b (suc b)
at_most_more true a b h = h
at_most_more false a b h = omega arith

pub both_more : (c : Bool) (a b : ℕ) → a ≤ b → cond c a (suc a) ≤ cond c b (suc b)
both_more true a b h = h
both_more false a b h = omega arith

pub fewer_one : (a b : Bool) (m k : ℕ) → m ≤ k → cond (a || b) m (suc m) ≤ cond a k (suc k)
fewer_one true b m k h = h
fewer_one false true m k h = omega arith
fewer_one false false m k h = omega arith

pub taken_here : (a b : Bool) (m k : ℕ) → a ≡ false → b ≡ true → m ≤ k → suc (cond (a || b) m (suc m)) ≤ cond a k (suc k)
taken_here true b m k e f h = absurd cc
taken_here false true m k e f h = omega arith
taken_here false false m k e f h = absurd cc

pub taken_later : (a b : Bool) (m k : ℕ) → suc m ≤ k → suc (cond (a || b) m (suc m)) ≤ cond a k (suc k)
taken_later true b m k h = h
taken_later false true m k h = omega arith
taken_later false false m k h = omega arith

pub above_last : (most last d m : ℕ) → last ≡ min most 256 → last + 1 ≤ d → d ≤ m → m < 257 → most < m
above_last most last d m e over le less = grind (arith, nat_tests)

pub apart_above : (n d most : ℕ) → most < d → nat_le n most ≡ true → (n == d) ≡ false
apart_above n d most less e = grind (arith, nat_tests)

pub end_within : (most last d : ℕ) → last ≡ min most 256 → d < last + 1 → d < 257
end_within most last d e less = grind (arith, nat_tests)

pub le_more : (d least most : ℕ) → least ≤ most → nat_le d least ≡ true → nat_le d most ≡ true
le_more d least most le e = grind (arith, nat_tests)

pub few_left : (n : ℕ) → ¬ (2 ^ 62 ≤ n) → n < 2 ^ 62
few_left n unspent = elim (cases_lt n (2 ^ 62)) [ inl few ↦ few | inr many ↦ absurd (unspent many) ]

pub through_not : (b : Bool) (all most section left : ℕ) → 1 ≤ cond b (most - section) (left - suc all) → (not b && nat_le left (suc all)) ≡ false
through_not true all most section left h = refl
through_not false all most section left h = lt-leb left (suc all) (omega (arith, h))

pub enough : (c l m : ℕ) → nat_lt (suc c) (l + suc m) ≡ false → m ≤ c
enough c l m h = grind (arith, nat_tests, h)

pub small : (w n : ℕ) → w ≤ 65535 → n ≤ 63 → (nat_lt w 65536 && nat_lt n 64) ≡ true
small w n h k = rw (lt-ltb w 65536 (omega (arith, h)), lt-ltb n 64 (omega (arith, k))) refl

pub number_above : (m n : ℤ) (b c : Bool) → int_lt m n ≡ b → int_lt n m ≡ c → int_eq m n ≡ false → b ≡ false → c ≡ true
number_above m n true c e f h l = search (rules, l)
number_above m n false true e f h l = refl
number_above m n false false e f h l = search (rules, e, f, h)

pub place_at_most : (n m : ℕ) (b c : Bool) → n ≤ m → (if b then 0 else (if c then 0 else suc n)) ≤ suc m
place_at_most n m true c h = omega arith
place_at_most n m false true h = omega arith
place_at_most n m false false h = omega arith

pub beyond : (w n a b : ℕ) → a ≤ w → b ≤ n → (nat_lt a 65536 && nat_lt b 64) ≡ false → (nat_le (1 + w) 65536 && nat_le (1 + n) 64) ≡ false
beyond w n a b e f h = grind (arith, nat_tests, e, f, h)

pub both_within : (w n : ℕ) → (nat_le (1 + w) 65536 && nat_le (1 + n) 64) ≡ true → (w ≤ 65535) × (n ≤ 63)
both_within w n h = (grind (arith, nat_tests, h), grind (arith, nat_tests, h))

pub fitting : (w n a b : ℕ) → a ≡ 1 + w → b ≡ 1 + n → (nat_le a 65536 && nat_le b 64) ≡ (nat_lt w 65536 && nat_lt n 64)
fitting w n a b e f = grind (arith, nat_tests, e, f)

pub int_equal_itself : (n : ℤ) → int_eq n n ≡ true
int_equal_itself n = (Decides-int_eq n n).1 refl

pub one_added : (n : ℕ) → suc n ≡ 1 + n
one_added n = omega arith

pub lt_false : (t u : ℕ) → u ≤ t → nat_lt t u ≡ false
lt_false t u h = grind (arith, nat_tests)

pub lt_true : (t u : ℕ) → t < u → nat_lt t u ≡ true
lt_true t u h = grind (arith, nat_tests)

pub int_equivalence : IsEquivalence int_eq
int_equivalence = int_eq_equiv

-- no byte stands outside
pub inside_step : (v : Bool) (rest : Bool) (at n : ℕ) → suc n ≤ cond (not v) (1 + at) 0 → (n ≤ at → rest ≡ true) → (not v && rest) ≡ true
inside_step true rest at n h k = absurd (omega (arith, h))
inside_step false rest at n h k = k (omega (arith, h))

pub product_most : (a b : ℕ) → a ≤ 2147483647 → b ≤ 64 → a * b ≤ 137438953408
product_most a b h k = mul-le a b 2147483647 64 h k

pub one_short : (b : Bool) → (if b then 1 else 0) ≤ 1
one_short true = omega arith
one_short false = omega arith

pub above_not : (pid low m : ℤ) → pid ≤ℤ low → low <ℤ m → int_eq m pid ≡ false
above_not pid low m h k = grind (arith, ints)

pub int_at_most : (m n : ℤ) → m ≡ n → n ≤ℤ m
int_at_most m n e = omega (arith, ints)

pub same_pid : (m n : ℤ) → int_eq m n ≡ true → m ≡ n
same_pid m n e = grind (arith, ints)

pub less_apart : (n d e : ℕ) → (n == d) ≡ true → n < e → d ≢ e
less_apart n d e s h x = grind (arith, nat_tests)

pub other_apart : (n d e : ℕ) → (n == d) ≡ false → (n == e) ≡ true → d ≢ e
other_apart n d e s r x = grind (arith, nat_tests)

pub same_numbers : (n e d : ℕ) → (n == e) ≡ true → (n == d) ≡ true → e ≡ d
same_numbers n e d s r = grind (arith, nat_tests)

pub apart : (m n : ℕ) → m < n → (m == n) ≡ false
apart m n h = grind (arith, nat_tests)

pub test_of_less : (m n : ℕ) (P : Bool → Type 0) → (m < n → P true) → (n ≤ m → P false) → P (ltb m n)
test_of_less m n P p q =
    (elim (ltb m n) as (λ b. ltb m n ≡ b → P b) [ true ↦ λ e. p (ltb-true m n e) | false ↦ λ e. q (ltb-false m n e) ]) refl

pub differs : (m n : ℕ) → m ≤ n → (m == n) ≡ false → m < n
differs m n le e = grind (arith, nat_tests)

pub beyond_turning : (n d : ℕ) (m : ℕ) → (n == d) ≡ true → n < m → (m == d) ≡ false
beyond_turning n d m e lt = grind (arith, nat_tests)

-- some could be taken by the section and by the slice
pub clear_by : (b : Bool) (all most section left : ℕ) → (not b && nat_le left (suc all)) ≡ false → (b && nat_le most section) ≡ false → 0 < cond b (most - section) (left - suc all)
clear_by true all most section left h k = let less = leb-false most section k in omega (arith, less)
clear_by false all most section left h k = let less = leb-false left (suc all) h in omega (arith, less)

pub third_zero : (a b c : ℕ) → 0 < a → 0 < b → min a (min b c) ≡ 0 → c ≡ 0
third_zero a b c h k e = omega (arith, h, k, e)

pub some_of : (m k : ℕ) → suc m ≤ k → 1 ≤ k
some_of m k h = omega (arith, h)

pub zero_first : (k : ℕ) → k ≡ 0 + k
zero_first k = omega arith

pub way_not_by : (d to : ℕ) (b : Bool) → (d ≡ 0 → ⊥) → (to ≡ d → ⊥) → cond b to 0 ≡ d → ⊥
way_not_by d to true low ne h = ne h
way_not_by d to false low ne h = low (sym h)

pub same_place : (v w : Bool) (q p : ℕ) → ((v ≡ w) × (q ≡ p)) ⊎ (v ≡ w → q ≡ p → ⊥)
same_place true true q p = elim (cases_eq q p) [ inl e ↦ inl (refl, e) | inr e ↦ inr (λ _. e) ]
same_place false false q p = elim (cases_eq q p) [ inl e ↦ inl (refl, e) | inr e ↦ inr (λ _. e) ]
same_place true false q p = inr (λ e. absurd (false≢true (sym e)))
same_place false true q p = inr (λ e. absurd (false≢true e))

pub le_not : (n m : ℕ) → nat_le n m ≡ not (nat_lt m n)
le_not n m = grind (arith, nat_tests)

pub some_level : (n : ℕ) → (n == 0) ≡ false → nat_le 1 n ≡ true
some_level n e = grind (arith, nat_tests)

pub even : (n : ℕ) → (n % 2 == 1) ≡ false → n % 2 ≡ 0
even n e = grind (arith, nat_tests)

pub odd : (n : ℕ) → (n % 2 == 1) ≡ true → n % 2 ≡ 1
odd n e = grind (arith, nat_tests)

pub least_at_most : (n m : ℕ) → n ≡ m → nat_le (min n 3) m ≡ true
least_at_most n m e = grind (arith, nat_tests)

pub apart_from : (m n d : ℕ) → (m == n) ≡ false → (m == d) ≡ true → (n == d) ≡ false
apart_from m n d other same = grind (arith, nat_tests)
