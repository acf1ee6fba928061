-- Lists, put together, and how long they are.
use Rattle.std.proofs.Common.{Bool, List, None, Option, Some, [], ap, append-nil, append_assoc, arith, cond, eqb-true, false, if◌then◌else◌, length, length-append, not, option_map, refl, subst, suc, sym, true, ℕ, ◌++◌, ◌+◌, ◌<◌, ◌==◌, ◌∙◌, ◌∷◌, ◌≡◌, ◌≤◌}
use Rattle.std.proofs.lemmas.Bool.{ne_eqb}
use Rattle.std.proofs.lemmas.Grind.{common_steps}
use Rattle.std.specs.List.{cons_option}
use Rattle.std.specs.Option.{option_map_or}

pub behind_byte : (out : List ℕ) (b : ℕ) (o : Option (List ℕ)) → option_map (λ xs. out ++ xs) (option_map (λ xs. b ∷ xs) o) ≡ option_map (λ xs. (out ++ b ∷ []) ++ xs) o
behind_byte out b None = refl
behind_byte out b (Some xs) = ap Some (sym (append_assoc out (b ∷ []) xs))

-- what is said is no longer than the text
pub short_ahead : (n : ℕ) (rest_text said_text : List ℕ) (b : ℕ) (o : Option (List ℕ)) → ((rest : List ℕ) → o ≡ Some rest → length rest ≤ n) → option_map (λ xs. b ∷ xs) o ≡ Some said_text → length said_text ≤ suc n
short_ahead n rest_text said_text b None next e = absurd (let f : None ≡ Some said_text = e in cc)
short_ahead n rest_text said_text b (Some rest) next e =
    let f : Some (b ∷ rest) ≡ Some said_text = e in
    let is : b ∷ rest ≡ said_text = cc in
    omega (arith, next rest refl, ap length is)

-- a part that stands at a place ends within the text
pub further_fits : (more part : List ℕ) (k : ℕ) (o : Option ℕ) → ((j : ℕ) → o ≡ Some j → j + length part ≤ length more) → option_map suc o ≡ Some k → k + length part ≤ suc (length more)
further_fits more part k None h e = absurd (let f : None ≡ Some k = e in cc)
further_fits more part k (Some j) h e =
    let f : Some (suc j) ≡ Some k = e in
    let is : suc j ≡ k = cc in
    omega (arith, is, h j refl)

pub whole_end : (whole out : List ℕ) → whole ≡ out → whole ≡ out ++ []
whole_end whole out e = e ∙ sym (append-nil out)

pub whole_new : (whole out front made new more : List ℕ) → whole ≡ (out ++ front) ++ (new ++ more) → made ≡ out ++ front → whole ≡ (made ++ new) ++ more
whole_new whole out front made new more e is = e ∙ ap (λ xs. xs ++ (new ++ more)) (sym is) ∙ sym (append_assoc made new more)

pub nil_either_way : (b : Bool) (xs : List (List ℕ)) → xs ≡ [] → (if b then xs else []) ≡ []
nil_either_way true xs e = e
nil_either_way false xs e = refl

pub firsts_same : {A : Type 0} (x y : A) (xs ys : List A) → x ∷ xs ≡ y ∷ ys → x ≡ y
firsts_same x y xs ys e = cc

pub no_first : {A : Type 0} (x : A) (xs : List A) → [] ≡ x ∷ xs → ⊥
no_first x xs e = cc

pub some_text : (text : List ℕ) → 1 ≤ length text → (length text == 0) ≡ false
some_text text h = ne_eqb (length text) 0 (λ q. omega (arith, q))

pub none_left : (xs : List ℕ) → (0 < length xs → ⊥) → xs ≡ []
none_left [] h = refl
none_left (x ∷ xs) h = absurd (h (omega arith))

pub kept_more : (b : Bool) (kept : List (List ℕ)) (line : List ℕ) → cond b (kept ++ line ∷ []) kept ≡ kept ++ cond b ([] ++ line ∷ []) []
kept_more true kept line = refl
kept_more false kept line = sym (append-nil kept)

pub no_parts : {A : Type 0} (xs ys : List A) → xs ++ ys ≡ [] → (xs ≡ []) × (ys ≡ [])
no_parts [] ys e = (refl, e)
no_parts (x ∷ xs) ys e = cc

pub joined : {X : Type 0} (o : Option X) (xs : List X) → cons_option o [] ++ xs ≡ cons_option o xs
joined None xs = refl
joined (Some x) xs = refl

pub short_of : (part rest all : List ℕ) → part ++ rest ≡ all → 0 < length rest → length part < length all
short_of part rest all e h = grind (arith, common_steps)

pub length_both : (xs rest left : List ℕ) (n : ℕ) → xs ++ rest ≡ left → n ≤ length rest → length xs + n ≤ length left
length_both xs rest left n e h = grind (arith, common_steps)

pub behind : {X Y : Type 0} (y : Y) (f : X → List Y) (o : Option X) (ys : List Y) → option_map_or (λ x. y ∷ f x) o (y ∷ ys) ≡ y ∷ option_map_or f o ys
behind y f None ys = refl
behind y f (Some x) ys = refl

pub at_files : (P : List ℕ → List ℕ → Type 0) (a b c d : List ℕ) → c ≡ a → d ≡ b → P a b → P c d
at_files P a b c d e f p = subst (λ x. P x d) (sym e) (subst (λ y. P a y) (sym f) p)

pub sign_put : (text new sign whole : List ℕ) → new ≡ text ++ 13 ∷ [] → whole ≡ new ++ sign → whole ≡ text ++ 13 ∷ sign
sign_put text new sign whole n w = w ∙ ap (λ ys. ys ++ sign) n ∙ append_assoc text (13 ∷ []) sign

pub stable : {A : Type 0} (xs : List A) → ((xs ≡ [] → ⊥) → ⊥) → xs ≡ []
stable [] h = refl
stable (x ∷ xs) h = absurd (h (λ e. cc))

-- an empty list, as it is tested
pub empty_of : {A : Type 0} (xs : List A) (b : Bool) → b ≡ true → b ≡ (length xs == 0) → xs ≡ []
empty_of [] b is e = refl
empty_of (x ∷ xs) b is e = let none = eqb-true (length (x ∷ xs)) 0 (sym e ∙ is) in absurd (omega arith)

pub no_ending : {X : Type 0} {x : X} {xs : List X} {P : Type 0} → x ∷ xs ≡ [] → P
no_ending e = cc

pub count_step : (b : Bool) (k n : ℕ) (xs : List ℕ) → length xs ≡ n → length (cond b xs (k ∷ xs)) ≡ cond (not b) 1 0 + n
count_step true k n xs h = omega arith
count_step false k n xs h = omega arith

pub fewer_by : (b : Bool) (y : ℕ) (xs ys : List ℕ) → length xs ≤ length ys → length (cond b xs (y ∷ xs)) ≤ suc (length ys)
fewer_by true y xs ys h = omega arith
fewer_by false y xs ys h = omega arith

pub no_items : {X : Type 0} (xs : List X) → length xs ≡ 0 → xs ≡ []
no_items [] h = refl
no_items (x ∷ xs) h = absurd (omega arith)

pub one_longer_spelling : (names : List (List ℕ)) (name : List ℕ) (n : ℕ) → n ≡ length names → n + 1 ≡ length (names ++ name ∷ [])
one_longer_spelling names name n e = ap (λ i. i + 1) e ∙ sym (length-append names (name ∷ []))

pub cond_mapped : (b : ℕ) (t : Bool) (name : List ℕ) → option_map (λ rest. b ∷ rest) (cond t (Some name) None) ≡ cond t (Some (b ∷ name)) None
cond_mapped b true name = refl
cond_mapped b false name = refl

pub append_none : {A : Type 0} (xs : List A) → xs ++ [] ≡ xs
append_none [] = refl
append_none (x ∷ xs) = ap (λ rest. x ∷ rest) (append_none xs)

pub length_last : {X : Type 0} (xs : List X) (x : X) → length (xs ++ x ∷ []) ≡ suc (length xs)
length_last [] x = refl
length_last (y ∷ xs) x = ap suc (length_last xs x)

pub none_long : (xs : List ℕ) → length xs ≤ 0 → xs ≡ []
none_long [] h = refl
none_long (x ∷ xs) h = absurd (omega arith)
