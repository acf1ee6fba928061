-- Texts in which one part takes the place of another.
use Rattle.std.proofs.Common.{◌≡◌, ℕ, ◌+◌, ◌-◌, ◌<◌, ◌≤◌, zero, suc, true, false, cond, List, [], ◌∷◌, ◌++◌, length, take, drop, Some, None, refl, sym, ap, subst, ◌∙◌, arith, append_assoc, ⊎_elim}
use Rattle.std.proofs.lemmas.Bool.{cases_Bool}
use Rattle.std.specs.Prelude.{Ok, Err, Option, ◌==◌}
use Rattle.std.specs.Option.{option_map}
use Rattle.muck_laws.proofs.Lists.{further_fits}
use Rattle.muck_laws.proofs.Options.{not_mapped}
use Rattle.muck_laws.proofs.Truths.{and_rest}
use Rattle.muck_model.specs.Bytes.{text_most}
use Rattle.mpi.specs.declared.fault.MpiFault.{MpiFault}
use Rattle.mpi.specs.Hosting.{Means}
use Rattle.mpi.specs.Made.{is_long, text_or_long, IsGrown}
use Rattle.mpi.specs.Values.{begins_with, place_in_text, replaced, text_substituted}
use Rattle.mpi.proofs.Lengths.{is_short, front_long, long_fails, made_whole}
use Rattle.mpi.proofs.Places.{place_end, place_first, place_other}

skipped : (old new : List ℕ) (n : ℕ) (xs : List ℕ) → replaced old new n xs ≡ replaced old new 0 (drop n xs)
unfolding replaced
skipped old new zero xs = refl
skipped old new (suc n) [] = refl
skipped old new (suc n) (x ∷ xs) = skipped old new n xs

first_here : (old new : List ℕ) (b : ℕ) (more : List ℕ) → begins_with (b ∷ more) old ≡ true → replaced old new 0 (b ∷ more) ≡ new ++ replaced old new (length old - 1) more
unfolding replaced
first_here old new b more h = ap (λ t. cond t (new ++ replaced old new (length old - 1) more) (b ∷ replaced old new 0 more)) h

first_other : (old new : List ℕ) (b : ℕ) (more : List ℕ) → begins_with (b ∷ more) old ≡ false → replaced old new 0 (b ∷ more) ≡ b ∷ replaced old new 0 more
unfolding replaced
first_other old new b more h = ap (λ t. cond t (new ++ replaced old new (length old - 1) more) (b ∷ replaced old new 0 more)) h

-- what stands before the first place stays, and the part there is replaced
begun_at : (old new : List ℕ) (b : ℕ) (more : List ℕ) → 0 < length old → begins_with (b ∷ more) old ≡ true
    → replaced old new 0 (b ∷ more) ≡ take 0 (b ∷ more) ++ (new ++ replaced old new 0 (drop (0 + length old) (b ∷ more)))
begun_at old new b more some h =
    let is : suc (length old - 1) ≡ 0 + length old = omega (arith, some) in
    first_here old new b more h ∙ ap (λ xs. new ++ xs) (skipped old new (length old - 1) more ∙ ap (λ n. replaced old new 0 (drop n (b ∷ more))) is)

further_at : (old new : List ℕ) (b : ℕ) (more : List ℕ) (k : ℕ) (o : Option ℕ)
    → ((j : ℕ) → o ≡ Some j → replaced old new 0 more ≡ take j more ++ (new ++ replaced old new 0 (drop (j + length old) more)))
    → option_map suc o ≡ Some k → b ∷ replaced old new 0 more ≡ take k (b ∷ more) ++ (new ++ replaced old new 0 (drop (k + length old) (b ∷ more)))
further_at old new b more k None h e = absurd (let f : None ≡ Some k = e in cc)
further_at old new b more k (Some j) h e =
    let f : Some (suc j) ≡ Some k = e in
    let is : suc j ≡ k = cc in
    let step : suc (j + length old) ≡ suc j + length old = omega arith in
    subst (λ n. b ∷ replaced old new 0 more ≡ take n (b ∷ more) ++ (new ++ replaced old new 0 (drop (n + length old) (b ∷ more)))) is
    (ap (λ xs. b ∷ xs) (h j refl) ∙ ap (λ n. b ∷ (take j more ++ (new ++ replaced old new 0 (drop n (b ∷ more))))) step)

replaced_at : (old new text : List ℕ) (k : ℕ) → 0 < length old → place_in_text text old ≡ Some k
    → replaced old new 0 text ≡ take k text ++ (new ++ replaced old new 0 (drop (k + length old) text))
replaced_at old new [] k some h = absurd (let e : None ≡ Some k = sym (place_end old (λ none. omega (arith, some, none))) ∙ h in cc)
replaced_at old new (b ∷ more) k some h =
    ⊎_elim
    (λ here.
    let f : Some 0 ≡ Some k = sym (place_first b more old here) ∙ h in
    let is : 0 ≡ k = cc in
    subst (λ n. replaced old new 0 (b ∷ more) ≡ take n (b ∷ more) ++ (new ++ replaced old new 0 (drop (n + length old) (b ∷ more)))) is (begun_at old new b more some here))
    (λ other. first_other old new b more other ∙ further_at old new b more k (place_in_text more old) (λ j e. replaced_at old new more j some e) (sym (place_other b more old other) ∙ h))
    (cases_Bool (begins_with (b ∷ more) old))

replaced_end : (old new : List ℕ) → replaced old new 0 [] ≡ []
unfolding replaced
replaced_end old new = refl

replaced_nowhere : (old new text : List ℕ) → place_in_text text old ≡ None → replaced old new 0 text ≡ text
replaced_nowhere old new [] h = replaced_end old new
replaced_nowhere old new (b ∷ more) h =
    ⊎_elim
    (λ here. absurd (let e : Some 0 ≡ None = sym (place_first b more old here) ∙ h in cc))
    (λ other. first_other old new b more other ∙ ap (λ xs. b ∷ xs) (replaced_nowhere old new more (not_mapped (place_in_text more old) (sym (place_other b more old other) ∙ h))))
    (cases_Bool (begins_with (b ∷ more) old))

-- what was made, a part that stays, the new one, and what the rest becomes, are the whole
pub whole_front : (whole out old new rest front behind : List ℕ) (k : ℕ) → whole ≡ out ++ replaced old new 0 rest → 0 < length old → place_in_text rest old ≡ Some k
    → front ≡ take k rest → behind ≡ drop (k + length old) rest → whole ≡ (out ++ front) ++ (new ++ replaced old new 0 behind)
whole_front whole out old new rest front behind k e some h f g =
    e ∙ ap (λ xs. out ++ xs) (replaced_at old new rest k some h)
    ∙ sym (append_assoc out (take k rest) (new ++ replaced old new 0 (drop (k + length old) rest)))
    ∙ ap (λ xs. (out ++ xs) ++ (new ++ replaced old new 0 (drop (k + length old) rest))) (sym f)
    ∙ ap (λ xs. (out ++ front) ++ (new ++ replaced old new 0 xs)) (sym g)

-- what was made and the rest are the whole
pub whole_rest : (whole out old new rest : List ℕ) → whole ≡ out ++ replaced old new 0 rest → place_in_text rest old ≡ None → whole ≡ out ++ rest
whole_rest whole out old new rest e h = e ∙ ap (λ xs. out ++ xs) (replaced_nowhere old new rest h)

-- a front that is too long
pub whole_long : (whole out more rest new : List ℕ) (f : MpiFault) → whole ≡ (out ++ more) ++ rest → IsGrown out more new (Err f) → Means (text_or_long whole) (Err f)
whole_long whole out more rest new f e h =
    long_fails out more new whole f h (λ long. ap is_long e ∙ front_long (out ++ more) rest long)

pub whole_made : (whole out : List ℕ) → whole ≡ out → length out ≤ text_most → text_or_long whole ≡ Ok out
whole_made whole out e le = made_whole whole out (sym e) (ap is_long e ∙ is_short out le)

-- the part is not empty
pub some_part : (text old new : List ℕ) → 0 < length old → text_substituted text old new ≡ replaced old new 0 text
some_part text [] new h = absurd (omega (arith, h))
some_part text (b ∷ more) new h = refl

-- the part is empty
pub none_part : (text old new : List ℕ) → length old ≡ 0 → text_substituted text old new ≡ text
none_part text [] new h = refl
none_part text (b ∷ more) new h = absurd (omega (arith, h))

begun_within : (xs ys : List ℕ) → begins_with xs ys ≡ true → length ys ≤ length xs
begun_within xs [] h = omega arith
begun_within [] (y ∷ ys) h = absurd (let e : false ≡ true = h in cc)
begun_within (x ∷ xs) (y ∷ ys) h = omega (arith, begun_within xs ys (and_rest (y == x) (begins_with xs ys) h))

pub place_fits : (text part : List ℕ) (k : ℕ) → 0 < length part → place_in_text text part ≡ Some k → k + length part ≤ length text
place_fits [] part k some h = absurd (let e : None ≡ Some k = sym (place_end part (λ none. omega (arith, some, none))) ∙ h in cc)
place_fits (b ∷ more) part k some h =
    ⊎_elim
    (λ here.
    let f : Some 0 ≡ Some k = sym (place_first b more part here) ∙ h in
    let is : 0 ≡ k = cc in
    omega (arith, is, begun_within (b ∷ more) part here))
    (λ other. further_fits more part k (place_in_text more part) (λ j e. place_fits more part j some e) (sym (place_other b more part other) ∙ h))
    (cases_Bool (begins_with (b ∷ more) part))
