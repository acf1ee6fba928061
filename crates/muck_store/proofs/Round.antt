-- What is stored of the objects that whole records stand for is those records.
use Rattle.std.proofs.Common.{◌≡◌, ℕ, ◌+◌, ◌<◌, ◌≤◌, zero, suc, List, [], ◌∷◌, Option, Some, None, inl, inr, refl, sym, ◌∙◌, ap, subst, length, arith, true, false, map, ◌&&◌}
use Rattle.std.proofs.lemmas.Bool.{and_parts, or_cases, cases_Bool, cases_eq, ne_eqb, eq-eqb}
use Rattle.std.proofs.lemmas.Option.{same_Some, none-some, slice_get_within}
use Rattle.std.specs.Prelude.{nat_lt}
use Rattle.std.specs.FinMap.{from_entries}
use Rattle.std.specs.List.{AllByRecursion, slice_get}
use Rattle.std.specs.List.Sorted.{IsStrictlySortedBy}
use Rattle.std.specs.Map.{keys_of}
use Rattle.std.specs.Option.{option_and_then}
use Rattle.std.specs.declared.cmp.Ordering.TheVariants.{Less}
use Rattle.muck_laws.proofs.Orders.{is_less}
use Rattle.muck_laws.proofs.Tests.{all_get}
use Rattle.muck_model.specs.declared.dbref.Dbref.{Dbref}
use Rattle.muck_model.proofs.Dbrefs.{eq_same}
use Rattle.muck_prop.specs.Order.{path_cmp, path_cmp_total}
use Rattle.muck_prop.proofs.Maps.{entries_are}
use Rattle.muck_codec.specs.inner.Stored.{Run, IsProperty, AreProperties}
use Rattle.muck_codec.specs.declared.stored.Property.{Property}
use Rattle.muck_codec.specs.declared.stored.Stored.{Stored}
use Rattle.spec_live.specs.Chain.{walk, IsChain, Member, follower}
use Rattle.spec_live.specs.Objects.{Entry, dbref_of, index_of, nothing, same, is_exit, is_garbage, may_stand, kind_in, list_in}
use Rattle.spec_live.proofs.Chains.{walk_none, walk_is}
use Rattle.muck_store.specs.Forms.{property_of, properties_of, link_to_number, first_in_list, next_in, stored_of, stored_from, persist, entry_at, next_of_stored, entry_of_stored, loaded}
use Rattle.muck_store.specs.Whole.{stored_kind, seats_in, first_at, may_name, leads_to, is_whole_store}
use Rattle.muck_store.proofs.Loaded.{kind_loaded, place_loaded, list_loaded}
use Rattle.muck_store.proofs.Meeting.{Listed, Held, place_at, place_stands}
use Rattle.muck_store.proofs.Parts.{Whole, Alive, kind_at, alive_ties, tied_at, blank_at, place_none, place_is, place_of, top_parts}
use Rattle.muck_store.proofs.Sound.{Hanging, hanging, held_in, listed_at}
use Rattle.muck_store.proofs.TiedRecords.{Leads, leads, TiedAt, AliveTied, Blank}

-- Properties.

all_further : (b p : List (List ℕ)) (ks : List (List (List ℕ))) → path_cmp b p ≡ Less → AllByRecursion (λ k. path_cmp p k ≡ Less) ks → AllByRecursion (λ k. path_cmp b k ≡ Less) ks
all_further b p [] lt h = tt
all_further b p (k ∷ ks) lt h = (path_cmp_total.trans b p k lt h.0, all_further b p ks lt h.1)

runs_behind : (b : List (List ℕ)) (ps : List Property) → Run (λ (p : Property). p.path) IsProperty (Some b) ps → AllByRecursion (λ k. path_cmp b k ≡ Less) (keys_of (map (λ p. entry_at p) ps))
runs_behind b [] h = tt
runs_behind b (p ∷ ps) h =
    let lt : path_cmp b p.path ≡ Less = is_less (path_cmp b p.path) h.0.0.1 in
    (lt, all_further b p.path (keys_of (map (λ x. entry_at x) ps)) lt (runs_behind p.path ps h.1))

runs_sorted : (before : Option (List (List ℕ))) (ps : List Property) → Run (λ (p : Property). p.path) IsProperty before ps → IsStrictlySortedBy path_cmp (keys_of (map (λ p. entry_at p) ps))
unfolding IsStrictlySortedBy
runs_sorted before [] h = tt
runs_sorted before (p ∷ ps) h = (runs_behind p.path ps h.1, runs_sorted (Some p.path) ps h.1)

entries_again : (ps : List Property) → map (λ e. property_of e) (map (λ p. entry_at p) ps) ≡ ps
entries_again [] = refl
entries_again (p ∷ ps) = ap (λ t. p ∷ t) (entries_again ps)

props_again : (ps : List Property) → AreProperties ps → properties_of (from_entries (map (λ p. entry_at p) ps)) ≡ ps
props_again ps h = ap (λ es. map (λ e. property_of e) es) (entries_are (map (λ p. entry_at p) ps) (runs_sorted None ps h.1)) ∙ entries_again ps

-- Numbers of objects.

-- nothing, or the number of an object
data Names (d : Dbref) : Type 0 where
  none : d ≡ nothing → Names d
  some : (n : ℕ) → d ≡ dbref_of n → Names d

names : (os : List Stored) (d : Dbref) → may_name os d ≡ true → Names d
names os d h = elim (or_cases (same d nothing) (leads_to (λ n. nat_lt n (length os)) d) h) [
  | inl e ↦ none (eq_same d nothing e)
  | inr e ↦ let l : Leads (λ n. nat_lt n (length os)) d = leads (λ n. nat_lt n (length os)) d e in some l.number l.is
]

link_again : (d : Dbref) → Names d → link_to_number (index_of d) ≡ d
link_again d (none e) = ap (λ z. link_to_number (index_of z)) e ∙ sym e
link_again d (some n e) = ap (λ z. link_to_number (index_of z)) e ∙ sym e

first_walk : (n : ℕ) (f : ℕ → Option ℕ) (m : ℕ) → 0 < n → first_in_list (walk n f (Some m)) ≡ dbref_of m
unfolding walk
first_walk zero f m h = absurd (omega (arith, h))
first_walk (suc n) f m h = refl

first_again : (n : ℕ) (f : ℕ → Option ℕ) (d : Dbref) → 0 < n → Names d → first_in_list (walk n f (index_of d)) ≡ d
first_again n f d lt (none e) = ap (λ z. first_in_list (walk n f (index_of z))) e ∙ ap (λ z. first_in_list z) (walk_none n f) ∙ sym e
first_again n f d lt (some m e) = ap (λ z. first_in_list (walk n f (index_of z))) e ∙ first_walk n f m lt ∙ sym e

-- What stands behind an object.

behind_first : (n : ℕ) (f : ℕ → Option ℕ) (x : ℕ) (xs : List ℕ) → IsChain n f (f x) xs → follower x (x ∷ xs) ≡ f x
unfolding IsChain follower
behind_first n f x [] h = rw (eq-eqb x x refl) (sym h)
behind_first n f x (y ∷ ys) h = rw (eq-eqb x x refl) (sym h.0)

behind_other : (d x : ℕ) (xs : List ℕ) → (x ≡ d → ⊥) → follower d (x ∷ xs) ≡ follower d xs
unfolding follower
behind_other d x xs ne = rw (ne_eqb x d ne) refl

follower_is : (n : ℕ) (f : ℕ → Option ℕ) (s : Option ℕ) (xs : List ℕ) (d : ℕ) → IsChain n f s xs → Member d xs → follower d xs ≡ f d
unfolding IsChain Member
follower_is n f s [] d h m = elim m [ ]
follower_is n f s (x ∷ xs) d h m = elim (cases_eq x d) [
  | inl e ↦ ap (λ z. follower z (x ∷ xs)) (sym e) ∙ behind_first n f x xs h.2 ∙ ap f e
  | inr ne ↦ behind_other d x xs ne ∙ follower_is n f (f x) xs d h.2 (elim m [ inl q ↦ absurd (ne (sym q)) | inr q ↦ q ])
]

next_is : (os : List Stored) (k : ℕ) (s : Stored) → slice_get os k ≡ Some s → next_of_stored os k ≡ index_of s.next
unfolding next_of_stored
next_is os k s e = ap (λ (o : Option Stored). option_and_then (λ (x : Stored). index_of x.next) o) e

unplaced : (os : List Stored) (k : ℕ) → place_at os k ≡ None → next_in (loaded os) k ≡ None
unfolding next_in
unplaced os k e = ap (λ (o : Option ℕ). option_and_then (λ p. follower k (list_in (is_exit (kind_in (loaded os) k)) (loaded os) p)) o) (place_loaded os k ∙ e)

placed_next : (os : List Stored) (k p : ℕ) → Hanging os → place_at os k ≡ Some p → next_in (loaded os) k ≡ next_of_stored os k
unfolding next_in
placed_next os k p h e =
    let l : Listed os k = listed_at os k p h e in
    let at : p ≡ l.at = same_Some p l.at (sym e ∙ place_stands os l.exits l.at k l.stands) in
    let kind : is_exit (kind_in (loaded os) k) ≡ l.exits = ap (λ z. is_exit z) (kind_loaded os k ∙ kind_at os k l.stands.stored l.stands.is) ∙ l.stands.kind in
    let held : Held os l.exits l.at = held_in os l.exits l.at h in
    let items : walk (length os) (next_of_stored os) (first_at l.exits os l.at) ≡ held.items = walk_is (length os) (next_of_stored os) (first_at l.exits os l.at) held.items held.chain in
    let M : List ℕ → Type 0 = λ xs. Member k xs in
    ap (λ (o : Option ℕ). option_and_then (λ q. follower k (list_in (is_exit (kind_in (loaded os) k)) (loaded os) q)) o) (place_loaded os k ∙ e)
    ∙ ap (λ v. follower k (list_in v (loaded os) p)) kind
    ∙ ap (λ q. follower k (list_in l.exits (loaded os) q)) at
    ∙ ap (λ xs. follower k xs) (list_loaded os l.exits l.at ∙ items)
    ∙ follower_is (length os) (next_of_stored os) (first_at l.exits os l.at) held.items k held.chain (subst M items l.member)

-- Each record.

-- what a record says of lists names objects
record Chained (os : List Stored) (k : ℕ) (s : Stored) : Type 0 where
  pub contents : Names s.first_content
  pub exits : Names s.first_exit
  pub next : link_to_number (next_in (loaded os) k) ≡ s.next

next_by : (os : List Stored) (k : ℕ) (s : Stored) → Hanging os → slice_get os k ≡ Some s → Names s.next → (place_at os k ≡ None → s.next ≡ nothing) → (o : Option ℕ) → place_at os k ≡ o → link_to_number (next_in (loaded os) k) ≡ s.next
next_by os k s h e named top None q = ap (λ z. link_to_number z) (unplaced os k q) ∙ sym (top q)
next_by os k s h e named top (Some p) q = ap (λ z. link_to_number z) (placed_next os k p h q ∙ next_is os k s e) ∙ link_again s.next named

never_none : (os : List Stored) (k : ℕ) → Whole os → (a : Alive os k) → (k ≡ 0 → ⊥) → place_at os k ≡ None → ⊥
never_none os k w a ne e =
    let l : Leads (λ p. may_stand a.stored.kind (stored_kind os p) (seats_in os p)) a.stored.place = place_of os k w a ne in
    none-some l.number (sym e ∙ place_is os k l.number a.stored a.is l.is)

-- what isn't garbage and has no place is `#0`
top_next : (os : List Stored) (k : ℕ) (s : Stored) → Hanging os → slice_get os k ≡ Some s → is_garbage s.kind ≡ false → place_at os k ≡ None → s.next ≡ nothing
top_next os k s h e alive nowhere = elim (cases_eq k 0) [
  | inl z ↦
      let a : Alive os 0 = record { stored = s; is = ap (λ n. slice_get os n) (sym z) ∙ e; alive = alive } in
      (top_parts os h.whole a).2
  | inr ne ↦
      let a : Alive os k = record { stored = s; is = e; alive = alive } in
      absurd (never_none os k h.whole a ne nowhere)
]

chained_alive : (os : List Stored) (k : ℕ) (s : Stored) → Hanging os → slice_get os k ≡ Some s → is_garbage s.kind ≡ false → Chained os k s
chained_alive os k s h e alive =
    let t : AliveTied os k s = alive_ties os k h.whole (record { stored = s; is = e; alive = alive }) in
    let all = and_parts (may_name os s.first_content && may_name os s.first_exit) (may_name os s.next) t.chains in
    let firsts = and_parts (may_name os s.first_content) (may_name os s.first_exit) all.0 in
    record {
      contents = names os s.first_content firsts.0;
      exits = names os s.first_exit firsts.1;
      next = next_by os k s h e (names os s.next all.1) (top_next os k s h e alive) (place_at os k) refl;
    }

chained_blank : (os : List Stored) (k : ℕ) (s : Stored) → Hanging os → slice_get os k ≡ Some s → is_garbage s.kind ≡ true → Chained os k s
chained_blank os k s h e g =
    let of_k : is_garbage (stored_kind os k) ≡ true = ap (λ z. is_garbage z) (kind_at os k s e) ∙ g in
    let b : Blank s = blank_at os k s h.whole e of_k in
    record {
      contents = none b.contents;
      exits = none b.exits;
      next = ap (λ z. link_to_number z) (unplaced os k (place_none os k h.whole of_k)) ∙ sym b.next;
    }

chained : (os : List Stored) (k : ℕ) (s : Stored) → Hanging os → slice_get os k ≡ Some s → Chained os k s
chained os k s h e = elim (cases_Bool (is_garbage s.kind)) [ inl g ↦ chained_blank os k s h e g | inr a ↦ chained_alive os k s h e a ]

each_again : (os : List Stored) (k : ℕ) (s : Stored) → Hanging os → slice_get os k ≡ Some s → AreProperties s.props → stored_of (loaded os) k (entry_of_stored os s) ≡ s
unfolding stored_of entry_of_stored
each_again os k s h e props =
    let n : ℕ = length os in
    let f : ℕ → Option ℕ = next_of_stored os in
    let lt : 0 < n = omega (arith, slice_get_within os k s e) in
    let t : TiedAt os k s = tied_at os k s h.whole e in
    let c : Chained os k s = chained os k s h e in
    let make : Dbref → Dbref → Dbref → Dbref → List Property → Stored = λ d x y z p. record s { dbref = d; first_content = x; first_exit = y; next = z; props = p } in
    let content : Dbref = first_in_list (walk n f (index_of s.first_content)) in
    let exit : Dbref = first_in_list (walk n f (index_of s.first_exit)) in
    let next : Dbref = link_to_number (next_in (loaded os) k) in
    let all : List Property = properties_of (from_entries (map (λ p. entry_at p) s.props)) in
    ap (λ d. make d content exit next all) (sym (eq_same s.dbref (dbref_of k) t.number))
    ∙ ap (λ d. make s.dbref d exit next all) (first_again n f s.first_content lt c.contents)
    ∙ ap (λ d. make s.dbref s.first_content d next all) (first_again n f s.first_exit lt c.exits)
    ∙ ap (λ d. make s.dbref s.first_content s.first_exit d all) c.next
    ∙ ap (λ p. make s.dbref s.first_content s.first_exit s.next p) (props_again s.props props)

-- All of them.

from_again : (os : List Stored) (es : List Entry) (k : ℕ) (rest : List Stored) → ((j n : ℕ) (s : Stored) → k + j ≡ n → slice_get rest j ≡ Some s → stored_of es n (entry_of_stored os s) ≡ s)
    → stored_from es k (map (entry_of_stored os) rest) ≡ rest
unfolding stored_from
from_again os es k [] h = refl
from_again os es k (s ∷ rest) h =
    let head : stored_of es k (entry_of_stored os s) ≡ s = h 0 k s (omega arith) refl in
    let tail : stored_from es (suc k) (map (entry_of_stored os) rest) ≡ rest = from_again os es (suc k) rest (λ j n x e q. h (suc j) n x (omega (arith, e)) q) in
    ap (λ x. x ∷ stored_from es (suc k) (map (entry_of_stored os) rest)) head ∙ ap (λ t. s ∷ t) tail

pub persist_loaded : (os : List Stored) → length os ≤ 100000 → is_whole_store os ≡ true → AllByRecursion (λ s. AreProperties s.props) os → persist (loaded os) ≡ os
unfolding persist loaded
persist_loaded os few w props =
    let h : Hanging os = hanging os w in
    from_again os (map (entry_of_stored os) os) 0 os (λ j n s e q.
    let at : slice_get os n ≡ Some s = ap (λ z. slice_get os z) (sym (let i : j ≡ n = omega (arith, e) in i)) ∙ q in
    each_again os n s h at (all_get (λ x. AreProperties x.props) os n s props at))
