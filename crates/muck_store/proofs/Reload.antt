-- What is loaded of what was stored of a consistent world is that world, but for its marks.
use Rattle.std.proofs.Common.{◌≡◌, ℕ, ◌+◌, ◌<◌, suc, List, [], ◌∷◌, Option, Some, inl, inr, refl, sym, ◌∙◌, ap, subst, length, arith, Bool, true, false, map}
use Rattle.std.specs.FinMap.{from_entries, entries, get-from_entries, get-entries, same_map}
use Rattle.std.specs.List.{slice_get}
use Rattle.muck_prop.specs.Order.{path_cmp_total}
use Rattle.muck_prop.specs.Store.{PropMap}
use Rattle.muck_prop.specs.declared.value.PropValue.{PropValue}
use Rattle.muck_prop.proofs.Maps.{path_cmp_same}
use Rattle.muck_codec.specs.declared.stored.Stored.{Stored}
use Rattle.spec_live.specs.Chain.{walk, IsChain, Member}
use Rattle.spec_live.specs.Objects.{Entry, index_of, entry_list, list_in}
use Rattle.spec_live.specs.Consistent.{IsOrdered}
use Rattle.spec_live.proofs.Chains.{walk_is}
use Rattle.spec_live.proofs.Readers.{place_known}
use Rattle.muck_store.specs.Forms.{property_of, properties_of, first_in_list, stored_of, stored_from, persist, entry_at, next_of_stored, entry_of_stored, loaded}
use Rattle.muck_store.specs.inner.Again.{unmarked, LoadsAgain}
use Rattle.muck_store.proofs.MetChains.{Links, list_links}
use Rattle.muck_store.proofs.StoredForms.{first_of_list, length_persist, list_there, index_first}

-- Properties.

list_again : (es : List (List (List ℕ) × PropValue)) → map (λ p. entry_at p) (map (λ e. property_of e) es) ≡ es
list_again [] = refl
list_again (e ∷ es) = ap (λ t. e ∷ t) (list_again es)

map_again : (m : PropMap) → from_entries (map (λ p. entry_at p) (properties_of m)) ≡ m
map_again m =
    ap (λ es. from_entries es) (list_again (entries m))
    ∙ same_map path_cmp_total path_cmp_same (from_entries (entries m)) m (λ q. get-from_entries path_cmp_total (entries m) q ∙ sym (get-entries m q))

-- Lists.

chain_linked : (n : ℕ) (f : ℕ → Option ℕ) (xs : List ℕ) → Links f xs → ((d : ℕ) → Member d xs → d < n) → IsChain n f (first_of_list xs) xs
unfolding Links IsChain Member
chain_linked n f [] links below = refl
chain_linked n f (x ∷ xs) links below =
    (refl, below x (inl refl), subst (λ s. IsChain n f s xs) (sym links.0) (chain_linked n f xs links.1 (λ d m. below d (inr m))))

list_walk : (es : List Entry) → IsOrdered es → (v : Bool) (p : ℕ) → walk (length (persist es)) (next_of_stored (persist es)) (first_of_list (list_in v es p)) ≡ list_in v es p
list_walk es c v p =
    ap (λ n. walk n (next_of_stored (persist es)) (first_of_list (list_in v es p))) (length_persist es)
    ∙ walk_is (length es) (next_of_stored (persist es)) (first_of_list (list_in v es p)) (list_in v es p)
    (chain_linked (length es) (next_of_stored (persist es)) (list_in v es p) (list_links es c v p) (λ d m. place_known es d p (c.stands v p d m).place))

list_back : (es : List Entry) → IsOrdered es → (v : Bool) (k : ℕ) (e : Entry) → slice_get es k ≡ Some e → walk (length (persist es)) (next_of_stored (persist es)) (index_of (first_in_list (entry_list v e))) ≡ entry_list v e
list_back es c v k e at =
    ap (λ s. walk (length (persist es)) (next_of_stored (persist es)) s) (index_first (entry_list v e))
    ∙ subst (λ xs. walk (length (persist es)) (next_of_stored (persist es)) (first_of_list xs) ≡ xs) (list_there es v k e at) (list_walk es c v k)

-- Each object.

each_back : (es : List Entry) → IsOrdered es → (k : ℕ) (e : Entry) → slice_get es k ≡ Some e → entry_of_stored (persist es) (stored_of es k e) ≡ unmarked e
unfolding entry_of_stored stored_of
each_back es c k e at =
    let os : List Stored = persist es in
    let contents : List ℕ = walk (length os) (next_of_stored os) (index_of (first_in_list e.contents)) in
    let exits : List ℕ = walk (length os) (next_of_stored os) (index_of (first_in_list e.exits)) in
    let make : PropMap → List ℕ → List ℕ → Entry = λ m xs ys. record (unmarked e) { object = record e.object { props = m }; contents = xs; exits = ys } in
    ap (λ m. make m contents exits) (map_again e.object.props)
    ∙ ap (λ xs. make e.object.props xs exits) (list_back es c false k e at)
    ∙ ap (λ ys. make e.object.props e.contents ys) (list_back es c true k e at)

all_back : (es : List Entry) (os : List Stored) (k : ℕ) (rest : List Entry) → ((j n : ℕ) (e : Entry) → k + j ≡ n → slice_get rest j ≡ Some e → entry_of_stored os (stored_of es n e) ≡ unmarked e)
    → map (entry_of_stored os) (stored_from es k rest) ≡ map (λ e. unmarked e) rest
unfolding stored_from
all_back es os k [] h = refl
all_back es os k (e ∷ rest) h =
    let head : entry_of_stored os (stored_of es k e) ≡ unmarked e = h 0 k e (omega arith) refl in
    let tail : map (entry_of_stored os) (stored_from es (suc k) rest) ≡ map (λ x. unmarked x) rest = all_back es os (suc k) rest (λ j n x i q. h (suc j) n x (omega (arith, i)) q) in
    ap (λ x. x ∷ map (entry_of_stored os) (stored_from es (suc k) rest)) head ∙ ap (λ t. unmarked e ∷ t) tail

pub loads_again : LoadsAgain
unfolding persist loaded
loads_again = λ es c. all_back es (persist es) 0 es (λ j n e i at.
    let there : slice_get es n ≡ Some e = ap (λ z. slice_get es z) (sym (let q : j ≡ n = omega (arith, i) in q)) ∙ at in
    each_back es c.ordered n e there)
