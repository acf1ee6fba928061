-- A text, part by part.
use Rattle.std.proofs.Common.{◌≡◌, ℕ, zero, suc, ◌+◌, Bool, true, false, cond, not, List, [], ◌∷◌, map, length, nat_lt, eqb, take, drop, refl, sym, ◌∙◌, ap, subst, arith}
use Rattle.std.proofs.lemmas.Bool.{le-ltb, ne_eqb}
use Rattle.std.specs.Prelude.{Option, None, Some}
use Rattle.std.specs.Char.{to_ascii_lowercase}
use Rattle.std.specs.List.{AllByRecursion, filter, list_any, slice_split, onto_first, position_or_len}
use Rattle.std.specs.Option.{option_map_or}
use Rattle.std.specs.Map.{lookup}
use Rattle.std.specs.BTreeMap.{is_at}
use Rattle.std.specs.FinMap.{get, from_entries}
use Rattle.muck_laws.proofs.Found.{lookup_same}
use Rattle.muck_laws.proofs.Orders.{equal_then}
use Rattle.muck_prop.specs.declared.value.PropValue.{PropValue}
use Rattle.muck_prop.specs.declared.path.PropFault.{PropFault}
use Rattle.muck_prop.specs.Order.{path_cmp, path_eq, path_ties}
use Rattle.muck_prop.specs.Store.{IsKept}
use Rattle.muck_prop.proofs.Maps.{path_cmp_same, turned, get_is}
use Rattle.muck_prop.specs.Paths.{is_slash, is_filled, is_barred, segments_of, path_text, path_fault, fault_of_path, with_part, IsPath}

behind : List ℕ → List (List ℕ)
behind [] = []
behind (b ∷ bs) = slice_split is_slash bs

split_part : (text : List ℕ) → slice_split is_slash text ≡ take (position_or_len is_slash text) text ∷ behind (drop (position_or_len is_slash text) text)
unfolding behind
split_part [] = refl
split_part (b ∷ bs) = by_cases (is_slash b) (split_part bs)
  where
    by_cases : (r : Bool) → slice_split is_slash bs ≡ take (position_or_len is_slash bs) bs ∷ behind (drop (position_or_len is_slash bs) bs)
        → cond r ([] ∷ slice_split is_slash bs) (onto_first b (slice_split is_slash bs)) ≡ take (cond (not r) (1 + position_or_len is_slash bs) 0) (b ∷ bs) ∷ behind (drop (cond (not r) (1 + position_or_len is_slash bs) 0) (b ∷ bs))
    by_cases true h = refl
    by_cases false h = let e : 1 + position_or_len is_slash bs ≡ suc (position_or_len is_slash bs) = omega arith in rw e (ap (λ ps. onto_first b ps) h)

behind_drop : (text : List ℕ) (n : ℕ) → filter is_filled (behind (drop n text)) ≡ filter is_filled (slice_split is_slash (drop (suc n) text))
unfolding behind
behind_drop [] zero = refl
behind_drop [] (suc n) = refl
behind_drop (b ∷ bs) zero = refl
behind_drop (b ∷ bs) (suc n) = behind_drop bs n

filled_first : (part : List ℕ) (parts : List (List ℕ)) → map (map to_ascii_lowercase) (filter is_filled (part ∷ parts)) ≡ with_part part (map (map to_ascii_lowercase) (filter is_filled parts))
unfolding with_part
filled_first [] parts = refl
filled_first (b ∷ bs) parts = refl

-- the first part of a text, and what stands behind it
pub next_part : (text : List ℕ) → segments_of text ≡ with_part (take (position_or_len is_slash text) text) (segments_of (drop (suc (position_or_len is_slash text)) text))
next_part text =
    let n : ℕ = position_or_len is_slash text in
    ap (λ ps. map (map to_ascii_lowercase) (filter is_filled ps)) (split_part text) ∙ filled_first (take n text) (behind (drop n text))
    ∙ ap (λ ps. with_part (take n text) (map (map to_ascii_lowercase) ps)) (behind_drop text n)

pub part_fails : (rest : List (List ℕ)) (left : List ℕ) (n : ℕ) → n ≡ position_or_len is_slash left → ((tail : List (List ℕ)) → path_eq rest (with_part (take n left) tail) ≡ false) → path_eq rest (segments_of left) ≡ false
part_fails rest left n e h =
    let P : ℕ → Type 0 = λ k. (tail : List (List ℕ)) → path_eq rest (with_part (take k left) tail) ≡ false in
    ap (λ s. path_eq rest s) (next_part left) ∙ subst P e h (segments_of (drop (suc (position_or_len is_slash left)) left))

pub part_goes : (rest more : List (List ℕ)) (left behind_it : List ℕ) (n : ℕ) → n ≡ position_or_len is_slash left → behind_it ≡ drop (suc n) left → ((tail : List (List ℕ)) → path_eq rest (with_part (take n left) tail) ≡ path_eq more tail)
    → path_eq more (segments_of behind_it) ≡ path_eq rest (segments_of left)
part_goes rest more left behind_it n e is h =
    let P : ℕ → Type 0 = λ k. (tail : List (List ℕ)) → path_eq rest (with_part (take k left) tail) ≡ path_eq more tail in
    ap (λ t. path_eq more (segments_of t)) (is ∙ ap (λ k. drop (suc k) left) e)
    ∙ sym (ap (λ s. path_eq rest s) (next_part left) ∙ subst P e h (segments_of (drop (suc (position_or_len is_slash left)) left)))

-- the path of an entry

path_same : (p q : List (List ℕ)) → path_eq p q ≡ true → p ≡ q
path_same p q h = path_cmp_same p q (equal_then (path_cmp p q) (sym (path_ties p q) ∙ h))

pub found_path : (q : List (List ℕ)) (es : List (List (List ℕ) × PropValue)) (v : PropValue) → AllByRecursion IsKept es → lookup (λ path. path_eq path q) es ≡ Some v → IsPath q
found_path q [] v kept h = absurd (cc (h))
found_path q (e ∷ es) v kept h = by_cases (found_path q es v kept.1) (path_eq e.0 q) refl h
  where
    by_cases : (lookup (λ path. path_eq path q) es ≡ Some v → IsPath q) → (b : Bool) → path_eq e.0 q ≡ b → cond b (Some e.1) (lookup (λ path. path_eq path q) es) ≡ Some v → IsPath q
    by_cases rest true same found = subst (λ p. IsPath p) (path_same e.0 q same) kept.0.path
    by_cases rest false other found = rest found

lookup_at : (q : List (List ℕ)) (es : List (List (List ℕ) × PropValue)) → lookup (is_at (path_cmp q)) es ≡ lookup (λ path. path_eq path q) es
lookup_at q es = sym (lookup_same (λ path. path_eq path q) (is_at (path_cmp q)) es (λ path. path_ties path q ∙ sym (turned q path)))

-- what a search finds at a path is what a walk finds there
pub found_by : (p q : List (List ℕ)) (es : List (List (List ℕ) × PropValue)) (found : Option PropValue) → found ≡ lookup (is_at (path_cmp p)) es → p ≡ q → found ≡ lookup (λ path. path_eq path q) es
found_by p q es found e same = e ∙ lookup_at p es ∙ ap (λ r. lookup (λ path. path_eq path r) es) same

lookup_get : (q : List (List ℕ)) (es : List (List (List ℕ) × PropValue)) → lookup (λ path. path_eq path q) es ≡ get (from_entries {R = path_cmp} es) q
lookup_get q es = sym (lookup_at q es) ∙ sym (get_is q es)

no_fault_of : (text : List ℕ) (q : List (List ℕ)) → list_any is_barred text ≡ false → IsPath q → fault_of_path text q ≡ None
no_fault_of text q free path =
    let some : eqb (length q) 0 ≡ false = ne_eqb (length q) 0 (λ e. omega (arith, e, path.some)) in
    let short : nat_lt 128 (length (path_text q)) ≡ false = le-ltb 128 (length (path_text q)) path.short in
    let few : nat_lt 16 (length q) ≡ false = le-ltb 16 (length q) path.few in
    rw (free, some, short, few) refl

pub at_text : (text : List ℕ) (es : List (List (List ℕ) × PropValue)) → AllByRecursion IsKept es → list_any is_barred text ≡ false
    → lookup (λ path. path_eq path (segments_of text)) es ≡ option_map_or (λ fault. None) (path_fault text) (get (from_entries {R = path_cmp} es) (segments_of text))
at_text text es kept free = by_cases (lookup (λ path. path_eq path (segments_of text)) es) refl
  where
    nothing : (fault : Option PropFault) → ◌≡◌ {A = Option PropValue} None (option_map_or (λ f. None) fault None)
    nothing None = refl
    nothing (Some f) = refl

    by_cases : (r : Option PropValue) → lookup (λ path. path_eq path (segments_of text)) es ≡ r
        → lookup (λ path. path_eq path (segments_of text)) es ≡ option_map_or (λ fault. None) (path_fault text) (get (from_entries {R = path_cmp} es) (segments_of text))
    by_cases None e =
        e ∙ nothing (path_fault text) ∙ ap (λ (r : Option PropValue). option_map_or (λ fault. None) (path_fault text) r) (sym (sym (lookup_get (segments_of text) es) ∙ e))
    by_cases (Some v) e =
        lookup_get (segments_of text) es ∙ ap (λ (f : Option PropFault). option_map_or (λ fault. None) f (get (from_entries {R = path_cmp} es) (segments_of text))) (sym (no_fault_of text (segments_of text) free (found_path (segments_of text) es v kept e)))

pub at_barred : (text : List ℕ) (found : Option PropValue) → list_any is_barred text ≡ true → ◌≡◌ {A = Option PropValue} None (option_map_or (λ fault. None) (path_fault text) found)
at_barred text found h = rw h refl
