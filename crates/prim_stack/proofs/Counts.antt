-- The tests of a primitive whose top item counts others, which may be anything.
use Rattle.muf_frame.specs.inner.Answers.{int_at}
use Rattle.std.proofs.Common.{◌≡◌, ◌∙◌, ap, refl, ℕ, zero, suc, ◌+◌, ◌-◌, ◌<◌, ◌≤◌, Bool, true, false, cond, List, [], ◌∷◌, ◌++◌, length, drop, arith}
use Rattle.std.specs.Prelude.{ℤ, pos, negsuc, nat_lt, Option, Some, None}
use Rattle.std.specs.Option.{option_or}
use Rattle.std.proofs.lemmas.Bool.{lt-ltb, le-ltb}
use Rattle.muf_model.specs.declared.fault.MufFault.{MufFault}
use Rattle.muf_model.specs.declared.fault.MufFault.TheVariants.{BadType, BadArgument}
use Rattle.muf_model.specs.declared.needs.Need.{Need}
use Rattle.muf_model.specs.Datum.{Datum, int, text, object, variable, address, lock, items, dict, mark}
use Rattle.muf_model.specs.Answer.{Answer, refuses, Scope, whole, answer_unless, needing, too_few}
use Rattle.muf_model.specs.Needs.{Needs, counts, anything, an_int}
use Rattle.muf_model.specs.Ladder.{times, first_refusal, unfit, absent, all_there, short}
use Rattle.muf_model.specs.Rows.{primitive_used}
use Rattle.muf_model.specs.StackRows.{by_count}

-- by the count that was read
abbrev by_top : ℕ → ℕ → List Datum → (ℕ → Answer) → Option ℤ → Answer
by_top fixed locked stack answer (Some (pos n)) = needing (n + fixed) locked stack (answer n)
by_top fixed locked stack answer (Some (negsuc n)) = refuses BadArgument
by_top fixed locked stack answer None = refuses BadType

abbrev counted : ℕ → ℕ → List Datum → (ℕ → Answer) → Answer
counted fixed locked stack answer = needing fixed locked stack (by_top fixed locked stack answer (int_at 0 stack))

abbrev anys : ℕ → List Need
anys k = times k (anything ∷ [])

any_length : (k : ℕ) (ns : List Need) → length (anys k ++ ns) ≡ k + length ns
any_length zero ns = omega arith
any_length (suc k) ns = omega (arith, any_length k ns)

any_walk : (test : Need → Datum → Option MufFault) → ((x : Datum) → test anything x ≡ None) → (k : ℕ) (ns : List Need) → ((ys : List Datum) → first_refusal test ns ys ≡ None) → (xs : List Datum) → first_refusal test (anys k ++ ns) xs ≡ None
any_walk test quiet zero ns h xs = h xs
any_walk test quiet (suc k) ns h [] = refl
any_walk test quiet (suc k) ns h (x ∷ xs) = ap (λ o. option_or o (first_refusal test (anys k ++ ns) xs)) (quiet x) ∙ any_walk test quiet k ns h xs

-- no test of these refuses an item
passed : (test : Need → Datum → Option MufFault) → ((x : Datum) → test anything x ≡ None) → (k n : ℕ) (xs : List Datum) → first_refusal test (anys k ++ (anys n ++ [])) xs ≡ None
passed test quiet k n xs = any_walk test quiet k (anys n ++ []) (any_walk test quiet n [] (λ ys. refl)) xs

abbrev tested : ℕ → List Datum → Option MufFault → ℕ → ℕ → Option MufFault → Option MufFault → Answer → Answer
tested locked stack count fixed all kinds there answer =
    answer_unless (option_or (option_or (short fixed locked stack) (option_or count (short all locked stack))) (option_or kinds there)) answer

fitting_count : (b c : Bool) (f g : MufFault) (a : Answer) → answer_unless (option_or (option_or (cond b (Some f) None) (option_or None (cond c (Some g) None))) None) a ≡ cond b (refuses f) (cond c (refuses g) a)
fitting_count true c f g a = refl
fitting_count false true f g a = refl
fitting_count false false f g a = refl

negative_count : (b : Bool) (f : MufFault) (o w : Option MufFault) (a : Answer) → answer_unless (option_or (option_or (cond b (Some f) None) (option_or (Some BadArgument) o)) w) a ≡ cond b (refuses f) (refuses BadArgument)
negative_count true f o w a = refl
negative_count false f o w a = refl

-- a count that is more than 0
sized_count : (m k locked : ℕ) (stack : List Datum) (a : Answer) → 0 < m → tested locked stack None (suc k) m None None a ≡ needing (suc k) locked stack (needing m locked stack a)
sized_count zero k locked stack a h = absurd (omega (arith, h))
sized_count (suc m) k locked stack a h = fitting_count (nat_lt (length stack) (locked + suc k)) (nat_lt (length stack) (locked + suc m)) (too_few (suc k) stack) (too_few (suc m) stack) a

wrong_count : (b : Bool) (f : MufFault) → answer_unless (option_or (option_or (cond b (Some f) None) (option_or None (cond b (Some f) None))) (Some BadType)) (refuses BadType) ≡ cond b (refuses f) (refuses BadType)
wrong_count true f = refl
wrong_count false f = refl

no_count : (b : Bool) (f : MufFault) → answer_unless (option_or (option_or (cond b (Some f) None) (option_or None (cond b (Some f) None))) None) (refuses BadType) ≡ cond b (refuses f) (refuses BadType)
no_count true f = refl
no_count false f = refl

fixed_length : (k : ℕ) → suc (length (anys k ++ [])) ≡ suc k
fixed_length k = omega (arith, any_length k [])

all_length : (k n : ℕ) → suc (length (anys k ++ (anys n ++ []))) ≡ n + suc k
all_length k n = omega (arith, any_length k (anys n ++ []), any_length n [])

other_count : (k locked : ℕ) (stack : List Datum) → tested locked stack None (suc (length (anys k ++ []))) (suc (length (anys k ++ []))) (Some BadType) None (refuses BadType) ≡ needing (suc k) locked stack (refuses BadType)
other_count k locked stack =
    ap (λ m. tested locked stack None m m (Some BadType) None (refuses BadType)) (fixed_length k)
    ∙ wrong_count (nat_lt (length stack) (locked + suc k)) (too_few (suc k) stack)

-- a count on the top, and k items below it beside those that are counted
counted_by : (k level : ℕ) (answer : List Datum → ℕ → Answer) (s : Scope) (stack : List Datum) → primitive_used level (counts (an_int ∷ anys k) (anything ∷ []) []) (Some (whole (by_count answer))) s stack ≡ counted (suc k) s.locked stack (answer (drop 1 stack))
counted_by k level answer s (int (pos n) ∷ rest) =
    let st = int (pos n) ∷ rest in
    let all = suc (length (anys k ++ (anys n ++ []))) in
    let kinds = first_refusal unfit (anys k ++ (anys n ++ [])) rest in
    let there = first_refusal (absent all_there) (anys k ++ (anys n ++ [])) rest in
    ap (λ m. tested s.locked st None m all kinds there (answer rest n)) (fixed_length k)
    ∙ ap (λ m. tested s.locked st None (suc k) m kinds there (answer rest n)) (all_length k n)
    ∙ ap (λ w. tested s.locked st None (suc k) (n + suc k) w there (answer rest n)) (passed unfit (λ x. refl) k n rest)
    ∙ ap (λ w. tested s.locked st None (suc k) (n + suc k) None w (answer rest n)) (passed (absent all_there) (λ x. refl) k n rest)
    ∙ sized_count (n + suc k) k s.locked st (answer rest n) (omega arith)
counted_by k level answer s (int (negsuc n) ∷ rest) =
    let st = int (negsuc n) ∷ rest in
    let kinds = first_refusal unfit (anys k ++ []) rest in
    let there = first_refusal (absent all_there) (anys k ++ []) rest in
    ap (λ m. tested s.locked st (Some BadArgument) m (suc (length (anys k ++ []))) kinds there (refuses BadType)) (fixed_length k)
    ∙ negative_count (nat_lt (length st) (s.locked + suc k)) (too_few (suc k) st) (short (suc (length (anys k ++ []))) s.locked st) (option_or kinds there) (refuses BadType)
counted_by k level answer s [] =
    let st : List Datum = [] in
    ap (λ m. tested s.locked st None m m None None (refuses BadType)) (fixed_length k)
    ∙ no_count (nat_lt (length st) (s.locked + suc k)) (too_few (suc k) st)
counted_by k level answer s (text t ∷ rest) = other_count k s.locked (text t ∷ rest)
counted_by k level answer s (object d ∷ rest) = other_count k s.locked (object d ∷ rest)
counted_by k level answer s (variable v ∷ rest) = other_count k s.locked (variable v ∷ rest)
counted_by k level answer s (address program word ∷ rest) = other_count k s.locked (address program word ∷ rest)
counted_by k level answer s (lock l ∷ rest) = other_count k s.locked (lock l ∷ rest)
counted_by k level answer s (items ds ∷ rest) = other_count k s.locked (items ds ∷ rest)
counted_by k level answer s (dict ps ∷ rest) = other_count k s.locked (dict ps ∷ rest)
counted_by k level answer s (mark ∷ rest) = other_count k s.locked (mark ∷ rest)

pub counted_used : (fixed level : ℕ) (answer : List Datum → ℕ → Answer) (s : Scope) (stack : List Datum) → 0 < fixed → primitive_used level (counts (an_int ∷ times (fixed - 1) (anything ∷ [])) (anything ∷ []) []) (Some (whole (by_count answer))) s stack ≡ counted fixed s.locked stack (answer (drop 1 stack))
counted_used zero level answer s stack h = absurd (omega (arith, h))
counted_used (suc k) level answer s stack h =
    let e : suc k - 1 ≡ k = omega arith in
    ap (λ m. primitive_used level (counts (an_int ∷ times m (anything ∷ [])) (anything ∷ []) []) (Some (whole (by_count answer))) s stack) e ∙ counted_by k level answer s stack

-- the needs of a primitive that takes so many fixed items
abbrev pub counting_needs : ℕ → Option Needs
counting_needs fixed = counts (an_int ∷ times (fixed - 1) (anything ∷ [])) (anything ∷ []) []

counted_at : (fixed n : ℕ) (answer : List Datum → ℕ → Answer) (s : Scope) (stack : List Datum) → 0 < fixed → s.locked + fixed ≤ length stack → int_at 0 stack ≡ Some (pos n) → primitive_used 1 (counting_needs fixed) (Some (whole (by_count answer))) s stack ≡ needing (n + fixed) s.locked stack (answer (drop 1 stack) n)
counted_at fixed n answer s stack p h e =
    counted_used fixed 1 answer s stack p
    ∙ rw (le-ltb _ _ h) (ap (by_top fixed s.locked stack (answer (drop 1 stack))) e)

pub count_few : (fixed n : ℕ) (answer : List Datum → ℕ → Answer) (s : Scope) (stack : List Datum) → 0 < fixed → s.locked + fixed ≤ length stack → int_at 0 stack ≡ Some (pos n) → length stack < s.locked + (n + fixed) → primitive_used 1 (counting_needs fixed) (Some (whole (by_count answer))) s stack ≡ refuses (too_few (n + fixed) stack)
count_few fixed n answer s stack p h e l = counted_at fixed n answer s stack p h e ∙ rw (lt-ltb (length stack) (s.locked + (n + fixed)) l) refl

pub count_fits : (fixed n : ℕ) (answer : List Datum → ℕ → Answer) (s : Scope) (stack : List Datum) → 0 < fixed → s.locked + fixed ≤ length stack → int_at 0 stack ≡ Some (pos n) → s.locked + (n + fixed) ≤ length stack → primitive_used 1 (counting_needs fixed) (Some (whole (by_count answer))) s stack ≡ answer (drop 1 stack) n
count_fits fixed n answer s stack p h e l = counted_at fixed n answer s stack p h e ∙ rw (le-ltb _ _ l) refl
