-- The aliases of a name, taken off its front one after another.
use Rattle.std.proofs.Common.{◌≡◌, ℕ, ◌<◌, ◌+◌, Bool, true, false, List, [], ◌∷◌, Option, Some, None, refl, sym, ◌∙◌, ap, subst, length, take, drop, map, arith, eqb}
use Rattle.muck_laws.proofs.Options.{cond_is}
use Rattle.muck_laws.proofs.Texts.{split_none}
use Rattle.std.proofs.lemmas.List.{length-take-le}
use Rattle.std.proofs.lemmas.List.Splits.{slice_split_first}
use Rattle.std.proofs.lemmas.List.Quantifiers.{position-Some}
use Rattle.std.specs.List.{filter, slice_split, position, position_or_len}
use Rattle.muck_model.specs.declared.dbref.Dbref.{Dbref}
use Rattle.muck_match.specs.Words.{Alias, parts, texts_placed, aliases}
use Rattle.muck_match.specs.Exits.{first_item, alias_takes, hit_of, hits_in}
use Rattle.muck_match.specs.declared.exits.ExitHit.{ExitHit}

-- the hits in what is left of a name from there on
abbrev pub hits_from : Dbref → Bool → List ℕ → ℕ → List ℕ → List ExitHit
hits_from exit argument line from more = map (hit_of exit line) (filter (λ alias. alias_takes argument line alias.text) (texts_placed from (parts 59 more)))

pub hits_all : (exit : Dbref) (argument : Bool) (line name : List ℕ) → hits_from exit argument line 0 name ≡ hits_in exit argument line name
unfolding hits_in aliases
hits_all exit argument line name = refl

pub record Split (p : ℕ → Bool) (xs : List ℕ) (k : ℕ) : Type 0 where
  pub within : k < length xs
  pub first_part : slice_split p xs ≡ take k xs ∷ slice_split p (drop (k + 1) xs)

split_here : (p : ℕ → Bool) (xs : List ℕ) (k : ℕ) → position_or_len p xs ≡ k → k < length xs → Split p xs k
split_here p xs k e lt =
    let lower : position_or_len p xs < length xs = omega (arith, e) in
    let P : ℕ → Type 0 = λ n. slice_split p xs ≡ take n xs ∷ slice_split p (drop (n + 1) xs) in
    record { within = lt; first_part = subst P e (slice_split_first p xs 0 lower) }

-- the part before the first separator
pub split_some : (p : ℕ → Bool) (xs : List ℕ) (k : ℕ) → position p xs ≡ Some k → Split p xs k
split_some p xs k h = split_here p xs k (cond_is _ _ k h) (position-Some p xs k 0 h).0

-- what the first part gives, and what the others give
pub record Parts (exit : Dbref) (argument : Bool) (line : List ℕ) (from : ℕ) (more : List ℕ) (k : ℕ) : Type 0 where
  pub within : k < length more
  pub taken : alias_takes argument line (take k more) ≡ true → first_item (hits_from exit argument line from more) ≡ Some (hit_of exit line (record { text = take k more; from = from; to = from + length (take k more) }))
  pub passed : alias_takes argument line (take k more) ≡ false → first_item (hits_from exit argument line from more) ≡ first_item (hits_from exit argument line (from + (k + 1)) (drop (k + 1) more))

one_yes : (exit : Dbref) (argument : Bool) (line : List ℕ) (a : Alias) (more : List Alias) → alias_takes argument line a.text ≡ true
    → first_item (map (hit_of exit line) (filter (λ alias. alias_takes argument line alias.text) (a ∷ more))) ≡ Some (hit_of exit line a)
one_yes exit argument line a more h = rw h refl

one_no : (exit : Dbref) (argument : Bool) (line : List ℕ) (a : Alias) (more : List Alias) → alias_takes argument line a.text ≡ false
    → first_item (map (hit_of exit line) (filter (λ alias. alias_takes argument line alias.text) (a ∷ more))) ≡ first_item (map (hit_of exit line) (filter (λ alias. alias_takes argument line alias.text) more))
one_no exit argument line a more h = rw h refl

pub part_some : (exit : Dbref) (argument : Bool) (line : List ℕ) (from : ℕ) (more : List ℕ) (k : ℕ) → position (λ b. eqb b 59) more ≡ Some k → Parts exit argument line from more k
unfolding texts_placed
part_some exit argument line from more k h =
    let split : Split (λ b. eqb b 59) more k = split_some (λ b. eqb b 59) more k h in
    let P : List (List ℕ) → Type 0 = λ t. texts_placed from (parts 59 more) ≡ texts_placed from t in
    let all : texts_placed from (parts 59 more) ≡ texts_placed from (take k more ∷ parts 59 (drop (k + 1) more)) = ap (texts_placed from) split.first_part in
    let next : from + length (take k more) + 1 ≡ from + (k + 1) = omega (arith, length-take-le k more (omega (arith, split.within))) in
    let F : List Alias → Option ExitHit = λ t. first_item (map (hit_of exit line) (filter (λ alias. alias_takes argument line alias.text) t)) in
    record {
      within = split.within;
      taken = λ fits. ap F all ∙ one_yes exit argument line _ _ fits;
      passed = λ fails. ap F all ∙ one_no exit argument line _ _ fails ∙ ap (λ n. F (texts_placed n (parts 59 (drop (k + 1) more)))) next;
    }

pub last_yes : (exit : Dbref) (argument : Bool) (line : List ℕ) (from : ℕ) (more : List ℕ) → position (λ b. eqb b 59) more ≡ None → alias_takes argument line more ≡ true
    → first_item (hits_from exit argument line from more) ≡ Some (hit_of exit line (record { text = more; from = from; to = from + length more }))
unfolding texts_placed
last_yes exit argument line from more h fits =
    let F : List Alias → Option ExitHit = λ t. first_item (map (hit_of exit line) (filter (λ alias. alias_takes argument line alias.text) t)) in
    ap (λ t. F (texts_placed from t)) (split_none (λ b. eqb b 59) more h) ∙ one_yes exit argument line _ [] fits

pub last_no : (exit : Dbref) (argument : Bool) (line : List ℕ) (from : ℕ) (more : List ℕ) → position (λ b. eqb b 59) more ≡ None → alias_takes argument line more ≡ false
    → first_item (hits_from exit argument line from more) ≡ None
unfolding texts_placed
last_no exit argument line from more h fails =
    let F : List Alias → Option ExitHit = λ t. first_item (map (hit_of exit line) (filter (λ alias. alias_takes argument line alias.text) t)) in
    ap (λ t. F (texts_placed from t)) (split_none (λ b. eqb b 59) more h) ∙ one_no exit argument line _ [] fails

-- the same as a loop meets it, where the list that is left gives first what the whole one gives
pub part_taken : (exit : Dbref) (argument : Bool) (line : List ℕ) (from : ℕ) (more : List ℕ) (k : ℕ) (alias : List ℕ) (hit : ExitHit) (whole : Option ExitHit) → position (λ b. eqb b 59) more ≡ Some k → alias ≡ take k more
    → alias_takes argument line alias ≡ true → hit ≡ hit_of exit line (record { text = alias; from = from; to = from + length alias }) → first_item (hits_from exit argument line from more) ≡ whole → Some hit ≡ whole
part_taken exit argument line from more k alias hit whole h e fits made left =
    let P : List ℕ → Type 0 = λ t. alias_takes argument line t ≡ true in
    let Q : List ℕ → Type 0 = λ t. hit ≡ hit_of exit line (record { text = t; from = from; to = from + length t }) in
    ap (λ z. Some z) (subst Q e made) ∙ sym ((part_some exit argument line from more k h).taken (subst P e fits)) ∙ left

pub part_passed : (exit : Dbref) (argument : Bool) (line : List ℕ) (from : ℕ) (more : List ℕ) (k : ℕ) (alias behind : List ℕ) (whole : Option ExitHit) → position (λ b. eqb b 59) more ≡ Some k → alias ≡ take k more
    → behind ≡ drop (k + 1) more → alias_takes argument line alias ≡ false → first_item (hits_from exit argument line from more) ≡ whole → first_item (hits_from exit argument line (from + (k + 1)) behind) ≡ whole
part_passed exit argument line from more k alias behind whole h e b fails left =
    let P : List ℕ → Type 0 = λ t. alias_takes argument line t ≡ false in
    ap (λ t. first_item (hits_from exit argument line (from + (k + 1)) t)) b ∙ sym ((part_some exit argument line from more k h).passed (subst P e fails)) ∙ left
