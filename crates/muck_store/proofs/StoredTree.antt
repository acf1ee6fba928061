-- From `#0` on, all objects of a world are met along its records, and none twice.
use Rattle.std.proofs.Common.{◌≡◌, ◌⊎◌, ℕ, ◌<◌, ◌≤◌, ◌+◌, zero, suc, List, [], ◌∷◌, ◌++◌, Option, Some, None, inl, inr, refl, sym, ◌∙◌, ap, subst, length, arith, Bool, true, false}
use Rattle.std.proofs.lemmas.Bool.{cases_eq, cases_lt, eq-eqb, false≢true}
use Rattle.std.proofs.lemmas.Option.{slice_get_past, slice_get_within}
use Rattle.std.specs.Prelude.{not}
use Rattle.std.specs.List.{slice_get, count_by}
use Rattle.std.specs.Option.{option_and_then}
use Rattle.muck_laws.proofs.Options.{or_none}
use Rattle.muck_laws.proofs.Places.{get_front, some_at}
use Rattle.spec_live.specs.Chain.{walk, IsChain, Ends, Member, IsApart}
use Rattle.spec_live.specs.Objects.{Entry, is_exit, is_garbage, list_in, kind_in, place_in, is_vehicle_in, fits_in}
use Rattle.spec_live.specs.Consistent.{IsOrdered, IsConsistent}
use Rattle.spec_live.proofs.KindLaws.{standing_alive, place_alive}
use Rattle.muck_codec.specs.declared.stored.Stored.{Stored}
use Rattle.muck_store.specs.Forms.{persist}
use Rattle.muck_store.specs.Whole.{held_met, all_met, is_tree}
use Rattle.muck_store.proofs.MetLists.{member_left, member_right, member_split, apart_append, apart_at, apart_below}
use Rattle.muck_store.proofs.StoredForms.{length_persist, alive_below}
use Rattle.muck_store.proofs.MetChains.{held_walked}
use Rattle.muck_store.proofs.AliveCount.{alive_count}

-- What stands somewhere isn't garbage, nor is what it stands in.

pub held_alive : (es : List Entry) → IsOrdered es → (d p : ℕ) → place_in es d ≡ Some p → is_garbage (kind_in es d) ≡ false
unfolding fits_in
held_alive es c d p h = standing_alive (kind_in es d) (kind_in es p) (is_vehicle_in es p) (c.kinds d p h)

pub holder_alive : (es : List Entry) → IsOrdered es → (d p : ℕ) → place_in es d ≡ Some p → is_garbage (kind_in es p) ≡ false
unfolding fits_in
holder_alive es c d p h = place_alive (kind_in es d) (kind_in es p) (is_vehicle_in es p) (c.kinds d p h)

-- These objects were met so far, none twice, `#0` among them: what the first i of them hold, and nothing else.
pub record IsMet (es : List Entry) (i : ℕ) (met : List ℕ) : Type 0 where
  pub apart : IsApart met
  pub top : Member 0 met
  pub alive : (d : ℕ) → Member d met → is_garbage (kind_in es d) ≡ false
  pub walked : (k p d : ℕ) → k < i → slice_get met k ≡ Some p → place_in es d ≡ Some p → Member d met
  pub caused : (d p : ℕ) → Member d met → place_in es d ≡ Some p → (k : ℕ) × (k < i) × (slice_get met k ≡ Some p)

met_short : (es : List Entry) (i : ℕ) (met : List ℕ) → IsMet es i met → length met ≤ length es
met_short es i met s = apart_below met (length es) s.apart (λ d m. alive_below es d (s.alive d m))

-- One more of them is walked.

abbrev joined : List Entry → ℕ → List ℕ → List ℕ
joined es p met = (met ++ list_in false es p) ++ list_in true es p

joined_left : (es : List Entry) (p d : ℕ) (met : List ℕ) → Member d met → Member d (joined es p met)
joined_left es p d met m = member_left d (met ++ list_in false es p) (list_in true es p) (member_left d met (list_in false es p) m)

joined_by : (es : List Entry) (p d : ℕ) (met : List ℕ) (v : Bool) → Member d (list_in v es p) → Member d (joined es p met)
joined_by es p d met true m = member_right d (met ++ list_in false es p) (list_in true es p) m
joined_by es p d met false m = member_left d (met ++ list_in false es p) (list_in true es p) (member_right d met (list_in false es p) m)

joined_held : (es : List Entry) → IsOrdered es → (p d : ℕ) (met : List ℕ) → place_in es d ≡ Some p → Member d (joined es p met)
joined_held es c p d met h = joined_by es p d met (is_exit (kind_in es d)) (c.listed (is_exit (kind_in es d)) p d (record { place = h; kind = refl }))

joined_split : (es : List Entry) → IsOrdered es → (p d : ℕ) (met : List ℕ) → Member d (joined es p met) → Member d met ⊎ (place_in es d ≡ Some p)
joined_split es c p d met m = elim (member_split d (met ++ list_in false es p) (list_in true es p) m) [
  | inl q ↦ elim (member_split d met (list_in false es p) q) [ inl r ↦ inl r | inr r ↦ inr (c.stands false p d r).place ]
  | inr q ↦ inr (c.stands true p d q).place
]

joined_get : (es : List Entry) (p k q : ℕ) (met : List ℕ) → slice_get met k ≡ Some q → slice_get (joined es p met) k ≡ Some q
joined_get es p k q met h = get_front (met ++ list_in false es p) (list_in true es p) k q (get_front met (list_in false es p) k q h)

-- what stands in it wasn't met
held_new : (es : List Entry) → IsOrdered es → (i p : ℕ) (met : List ℕ) → slice_get met i ≡ Some p → IsMet es i met → (v : Bool) (d : ℕ) → Member d (list_in v es p) → Member d met → ⊥
held_new es c i p met at s v d m q =
    let by : (k : ℕ) × (k < i) × (slice_get met k ≡ Some p) = s.caused d p q (c.stands v p d m).place in
    let same : by.0 ≡ i = apart_at met by.0 i p s.apart by.2 at in
    omega (arith, by.1, same)

joined_apart : (es : List Entry) → IsOrdered es → (i p : ℕ) (met : List ℕ) → slice_get met i ≡ Some p → IsMet es i met → IsApart (joined es p met)
joined_apart es c i p met at s =
    apart_append (met ++ list_in false es p) (list_in true es p) (apart_append met (list_in false es p) s.apart (c.once false p) (λ d m q. held_new es c i p met at s false d q m)) (c.once true p)
    (λ d m q. elim (member_split d met (list_in false es p) m) [
      | inl r ↦ held_new es c i p met at s true d q r
      | inr r ↦ false≢true (sym (c.stands false p d r).kind ∙ (c.stands true p d q).kind)
    ])

joined_walked : (es : List Entry) → IsOrdered es → (i p : ℕ) (met : List ℕ) → slice_get met i ≡ Some p → IsMet es i met
    → (k q d : ℕ) → k < suc i → slice_get (joined es p met) k ≡ Some q → place_in es d ≡ Some q → Member d (joined es p met)
joined_walked es c i p met at s k q d lt g h = elim (cases_eq k i) [
  | inl e ↦
      let there : slice_get (joined es p met) k ≡ Some p = ap (λ (z : ℕ). slice_get (joined es p met) z) e ∙ joined_get es p i p met at in
      let same : Some q ≡ Some p = sym g ∙ there in
      joined_held es c p d met (h ∙ same)
  | inr ne ↦
      let within : i < length met = slice_get_within met i p at in
      let x : (y : ℕ) × (slice_get met k ≡ Some y) = some_at met k (omega arith) in
      let there : slice_get (joined es p met) k ≡ Some x.0 = joined_get es p k x.0 met x.1 in
      let same : Some q ≡ Some x.0 = sym g ∙ there in
      joined_left es p d met (s.walked k x.0 d (omega arith) x.1 (h ∙ same))
]

joined_caused : (es : List Entry) → IsOrdered es → (i p : ℕ) (met : List ℕ) → slice_get met i ≡ Some p → IsMet es i met
    → (d q : ℕ) → Member d (joined es p met) → place_in es d ≡ Some q → (k : ℕ) × (k < suc i) × (slice_get (joined es p met) k ≡ Some q)
joined_caused es c i p met at s d q m h = elim (joined_split es c p d met m) [
  | inl r ↦
      let by : (k : ℕ) × (k < i) × (slice_get met k ≡ Some q) = s.caused d q r h in
      (by.0, omega (arith, by.1), joined_get es p by.0 q met by.2)
  | inr e ↦ (i, omega arith, joined_get es p i p met at ∙ (sym e ∙ h))
]

met_step : (es : List Entry) → IsOrdered es → (i p : ℕ) (met : List ℕ) → slice_get met i ≡ Some p → IsMet es i met → IsMet es (suc i) (joined es p met)
met_step es c i p met at s = record {
  apart = joined_apart es c i p met at s;
  top = joined_left es p 0 met s.top;
  alive = λ d m. elim (joined_split es c p d met m) [ inl r ↦ s.alive d r | inr e ↦ held_alive es c d p e ];
  walked = joined_walked es c i p met at s;
  caused = joined_caused es c i p met at s;
}

met_start : (es : List Entry) → IsOrdered es → IsMet es 0 (0 ∷ [])
unfolding Member IsApart
met_start es c = record {
  apart = ((λ m. m), tt);
  top = inl refl;
  alive = λ d m. elim m [ inl e ↦ ap (λ z. is_garbage (kind_in es z)) e ∙ ap (λ k. is_garbage k) c.room | inr z ↦ absurd z ];
  walked = λ k p d lt g h. absurd (omega arith);
  caused = λ d p m h. elim m [ inl e ↦ let none : place_in es d ≡ None = ap (λ z. place_in es z) e ∙ c.top in absurd (cc) | inr z ↦ absurd z ];
}

-- All of them are walked.

all_walked : (n : ℕ) (es : List Entry) → IsOrdered es → (i : ℕ) (met : List ℕ) → n + i ≡ length es → IsMet es i met
    → (last : List ℕ) × (j : ℕ) × (all_met n (persist es) i met ≡ Some last) × (length last ≤ j) × IsMet es j last
unfolding all_met
all_walked zero es c i met fuel s = let short = met_short es i met s in (met, i, refl, omega (arith, short), s)
all_walked (suc n) es c i met fuel s = elim (cases_lt i (length met)) [
  | inl lt ↦
      let x : (p : ℕ) × (slice_get met i ≡ Some p) = some_at met i lt in
      let rest : (last : List ℕ) × (j : ℕ) × (all_met n (persist es) (suc i) (joined es x.0 met) ≡ Some last) × (length last ≤ j) × IsMet es j last =
      all_walked n es c (suc i) (joined es x.0 met) (omega arith) (met_step es c i x.0 met x.1 s) in
      let held : held_met (persist es) x.0 met ≡ Some (joined es x.0 met) = held_walked es c x.0 met (held_new es c i x.0 met x.1 s) in
      (rest.0, rest.1, rw x.1 (ap (λ (o : Option (List ℕ)). option_and_then (all_met n (persist es) (suc i)) o) held ∙ rest.2), rest.3, rest.4)
  | inr le ↦ (met, i, rw (slice_get_past met i le) refl, le, s)
]

-- What isn't garbage was met, as places lead up to `#0`.

climb : (es : List Entry) → IsConsistent es → (met : List ℕ) → Member 0 met → ((d p : ℕ) → Member p met → place_in es d ≡ Some p → Member d met)
    → (n d : ℕ) (xs : List ℕ) → IsChain n (place_in es) (Some d) xs → is_garbage (kind_in es d) ≡ false → Member d met
unfolding IsChain
climb es c met top closed n d [] h alive = absurd (cc (h))
climb es c met top closed n d (x ∷ xs) h alive =
    let same : x ≡ d = cc (h.0) in
    let P : ℕ → Type 0 = λ z. IsChain n (place_in es) (place_in es z) xs in
    let Q : Option ℕ → Type 0 = λ t. IsChain n (place_in es) t xs in
    let M : ℕ → Type 0 = λ z. Member z met in
    let rest : IsChain n (place_in es) (place_in es d) xs = subst P same h.2 in
    elim (or_none (place_in es d)) [
      | inl none ↦ elim (c.placed d none) [
        | inl z ↦ subst M (sym z) top
        | inr g ↦ absurd (false≢true (sym alive ∙ ap (λ k. is_garbage k) g))
      ]
      | inr s ↦ closed d s.0 (climb es c met top closed n s.0 xs (subst Q s.1 rest) (holder_alive es c.ordered d s.0 s.1)) s.1
    ]

climb_up : (es : List Entry) → IsConsistent es → (met : List ℕ) → Member 0 met → ((d p : ℕ) → Member p met → place_in es d ≡ Some p → Member d met)
    → (d : ℕ) → is_garbage (kind_in es d) ≡ false → Member d met
unfolding Ends
climb_up es c met top closed d alive = climb es c met top closed (length es) d (walk (length es) (place_in es) (Some d)) (c.ordered.up d (alive_below es d alive)) alive

place_of : (xs : List ℕ) (x : ℕ) → Member x xs → (k : ℕ) × (k < length xs) × (slice_get xs k ≡ Some x)
unfolding Member
place_of [] x m = elim m [ ]
place_of (y ∷ ys) x m = elim m [
  | inl e ↦ (0, omega arith, ap (λ (z : ℕ). Some z) (sym e))
  | inr r ↦ let t : (k : ℕ) × (k < length ys) × (slice_get ys k ≡ Some x) = place_of ys x r in (suc t.0, omega (arith, t.1), t.2)
]

all_alive : (es : List Entry) → IsConsistent es → (j : ℕ) (met : List ℕ) → length met ≤ j → IsMet es j met → (d : ℕ) → is_garbage (kind_in es d) ≡ false → Member d met
all_alive es c j met short s =
    let closed : (d p : ℕ) → Member p met → place_in es d ≡ Some p → Member d met = λ d p m h.
    let t : (k : ℕ) × (k < length met) × (slice_get met k ≡ Some p) = place_of met p m in
    s.walked t.0 p d (omega (arith, t.1)) t.2 h in
    climb_up es c met s.top closed

pub tree_persist : (es : List Entry) → IsConsistent es → is_tree (persist es) ≡ true
unfolding is_tree
tree_persist es c =
    let same = length_persist es in
    let w : (last : List ℕ) × (j : ℕ) × (all_met (length (persist es)) (persist es) 0 (0 ∷ []) ≡ Some last) × (length last ≤ j) × IsMet es j last =
    all_walked (length (persist es)) es c.ordered 0 (0 ∷ []) (omega (arith, same)) (met_start es c.ordered) in
    let count = alive_count es w.0 w.4.apart w.4.alive (all_alive es c w.1 w.0 w.3 w.4) in
    rw w.2 (eq-eqb (length w.0) (count_by (λ (s : Stored). not (is_garbage s.kind)) (persist es)) count)
