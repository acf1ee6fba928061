-- What is met along a chain, in the lists of an object, and in all lists.
use Rattle.std.proofs.Common.{◌≡◌, ℕ, ◌+◌, ◌<◌, ◌≤◌, zero, suc, List, [], ◌∷◌, ◌++◌, Option, Some, None, ◌⊎◌, inl, inr, refl, sym, ◌∙◌, ap, subst, length, arith, Bool, true, false, cond, not, ◌&&◌}
use Rattle.std.proofs.lemmas.Bool.{and_parts, not-true, cases_lt, false≢true}
use Rattle.std.proofs.lemmas.List.{append-nil, append_assoc, length-append}
use Rattle.std.proofs.lemmas.Map.Steps.{length-le_from_distinct_below}
use Rattle.std.proofs.lemmas.Option.{same_Some, none-some, slice_get_within, option_and_then_some}
use Rattle.std.specs.List.{slice_get}
use Rattle.std.specs.Option.{option_and_then, option_map_or}
use Rattle.muck_laws.proofs.Places.{get_left, get_none}
use Rattle.muck_laws.proofs.Truths.{exit_or_not}
use Rattle.muck_model.proofs.Dbrefs.{eq_same}
use Rattle.muck_codec.specs.declared.stored.Stored.{Stored}
use Rattle.spec_live.specs.Chain.{walk, IsChain, Member, IsApart, has}
use Rattle.spec_live.specs.Objects.{dbref_of, index_of, same, is_exit}
use Rattle.spec_live.proofs.Chains.{chain_below, walk_is, member_any, apart_distinct}
use Rattle.spec_live.proofs.Lists.{has_not}
use Rattle.muck_store.specs.Forms.{next_of_stored}
use Rattle.muck_store.specs.Whole.{record_stands_in, chain_met, first_at, list_met, held_met, all_met}

-- Members of lists.

member_append : (x : ℕ) (xs ys : List ℕ) → Member x (xs ++ ys) → Member x xs ⊎ Member x ys
unfolding Member
member_append x [] ys m = inr m
member_append x (y ∷ xs) ys m = elim m [ inl e ↦ inl (inl e) | inr r ↦ elim (member_append x xs ys r) [ inl q ↦ inl (inr q) | inr q ↦ inr q ] ]

member_left : (x : ℕ) (xs ys : List ℕ) → Member x xs → Member x (xs ++ ys)
unfolding Member
member_left x [] ys m = elim m [ ]
member_left x (y ∷ xs) ys m = elim m [ inl e ↦ inl e | inr r ↦ inr (member_left x xs ys r) ]

apart_more : (d : ℕ) (xs : List ℕ) → IsApart xs → (Member d xs → ⊥) → IsApart (xs ++ d ∷ [])
unfolding Member IsApart
apart_more d [] a free = ((λ m. m), tt)
apart_more d (x ∷ xs) a free = (
  (λ m. elim (member_append x xs (d ∷ []) m) [ inl q ↦ a.0 q | inr q ↦ elim q [ inl e ↦ free (inl (sym e)) | inr z ↦ z ] ]),
  apart_more d xs a.1 (λ m. free (inr m)),
)

pub get_member : (p k : ℕ) (xs : List ℕ) → slice_get xs k ≡ Some p → Member p xs
unfolding Member
get_member p k [] h = absurd (none-some p h)
get_member p zero (x ∷ xs) h = inl (sym (same_Some x p h))
get_member p (suc k) (x ∷ xs) h = inr (get_member p k xs h)

member_at : (p : ℕ) (xs : List ℕ) → Member p xs → (k : ℕ) × (slice_get xs k ≡ Some p)
unfolding Member
member_at p [] m = elim m [ ]
member_at p (x ∷ xs) m = elim m [ inl e ↦ (zero, ap (λ z. Some z) (sym e)) | inr r ↦ let k : (k : ℕ) × (slice_get xs k ≡ Some p) = member_at p xs r in (suc k.0, k.1) ]

-- Along a chain.

-- an object has its place in p, and is an exit or not
pub record StandsAt (os : List Stored) (v : Bool) (p d : ℕ) : Type 0 where
  pub stored : Stored
  pub is : slice_get os d ≡ Some stored
  pub place : stored.place ≡ dbref_of p
  pub kind : is_exit stored.kind ≡ v

stands_by : (os : List Stored) (v : Bool) (p d : ℕ) (o : Option Stored) → slice_get os d ≡ o → option_map_or (λ s. same s.place (dbref_of p) && cond (is_exit s.kind) v (not v)) o false ≡ true → StandsAt os v p d
stands_by os v p d None e h = absurd (false≢true h)
stands_by os v p d (Some s) e h =
    let k = and_parts (same s.place (dbref_of p)) (cond (is_exit s.kind) v (not v)) h in
    record { stored = s; is = e; place = eq_same s.place (dbref_of p) k.0; kind = exit_or_not (is_exit s.kind) v k.1 }

pub stands_at : (os : List Stored) (v : Bool) (p d : ℕ) → record_stands_in os v p d ≡ true → StandsAt os v p d
stands_at os v p d h = stands_by os v p d (slice_get os d) refl h

-- what was met before, with a chain behind it
pub record Grown (os : List Stored) (v : Bool) (p : ℕ) (start : Option ℕ) (met out : List ℕ) : Type 0 where
  pub new : List ℕ
  pub is : out ≡ met ++ new
  pub chain : IsChain (length os) (next_of_stored os) start new
  pub stands : (x : ℕ) → Member x new → StandsAt os v p x
  pub apart : IsApart met → IsApart out

with_first : (os : List Stored) (v : Bool) (p d : ℕ) (met out : List ℕ) → StandsAt os v p d → has d met ≡ false → Grown os v p (next_of_stored os d) (met ++ d ∷ []) out → Grown os v p (Some d) met out
unfolding IsChain Member
with_first os v p d met out s fresh g = record {
  new = d ∷ g.new;
  is = g.is ∙ append_assoc met (d ∷ []) g.new;
  chain = (refl, slice_get_within os d s.stored s.is, g.chain);
  stands = λ x m. elim m [ inl e ↦ let P : ℕ → Type 0 = λ z. StandsAt os v p z in subst P (sym e) s | inr r ↦ g.stands x r ];
  apart = λ a. g.apart (apart_more d met a (has_not d met fresh));
}

first_met : (os : List Stored) (v : Bool) (p d : ℕ) (met out : List ℕ) (b : Bool) → (record_stands_in os v p d && not (has d met)) ≡ b → (rest : Option (List ℕ)) → (rest ≡ Some out → Grown os v p (next_of_stored os d) (met ++ d ∷ []) out)
    → cond b rest None ≡ Some out → Grown os v p (Some d) met out
first_met os v p d met out false e rest more h = absurd (none-some out h)
first_met os v p d met out true e rest more h =
    let k = and_parts (record_stands_in os v p d) (not (has d met)) e in
    with_first os v p d met out (stands_at os v p d k.0) (not-true (has d met) k.1) (more h)

pub chain_grown : (n : ℕ) (os : List Stored) (v : Bool) (p : ℕ) (start : Option ℕ) (met out : List ℕ) → chain_met n os v p start met ≡ Some out → Grown os v p start met out
unfolding chain_met IsChain Member
chain_grown zero os v p start met out h = absurd (none-some out h)
chain_grown (suc n) os v p None met out h =
    let P : List ℕ → Type 0 = λ l. Grown os v p None met l in
    subst P (same_Some met out h) (record { new = []; is = sym (append-nil met); chain = refl; stands = λ x m. absurd m; apart = λ a. a })
chain_grown (suc n) os v p (Some d) met out h =
    first_met os v p d met out (record_stands_in os v p d && not (has d met)) refl (chain_met n os v p (next_of_stored os d) (met ++ d ∷ [])) (λ q. chain_grown n os v p (next_of_stored os d) (met ++ d ∷ []) out q) h

-- In the lists of an object.

-- an object stands in the list of its place
pub record Listed (os : List Stored) (d : ℕ) : Type 0 where
  pub at : ℕ
  pub exits : Bool
  pub stands : StandsAt os exits at d
  pub member : Member d (walk (length os) (next_of_stored os) (first_at exits os at))

-- a list is a chain, of what stands there
pub record Held (os : List Stored) (v : Bool) (p : ℕ) : Type 0 where
  pub items : List ℕ
  pub chain : IsChain (length os) (next_of_stored os) (first_at v os p) items
  pub stands : (x : ℕ) → Member x items → StandsAt os v p x

unfoldable pub place_at : List Stored → ℕ → Option ℕ
place_at os k = option_and_then (λ s. index_of s.place) (slice_get os k)

-- a chain of places
pub record Up (os : List Stored) (d : ℕ) : Type 0 where
  pub path : List ℕ
  pub chain : IsChain (length os) (place_at os) (Some d) path

-- what holds of the numbers that were met
pub record Reached (os : List Stored) (met : List ℕ) : Type 0 where
  pub below : (d : ℕ) → Member d met → d < length os
  pub apart : IsApart met
  pub ups : (d : ℕ) → Member d met → Up os d
  pub listed : (d : ℕ) → Member d met → (d ≡ 0) ⊎ Listed os d

pub place_stands : (os : List Stored) (v : Bool) (p d : ℕ) → StandsAt os v p d → place_at os d ≡ Some p
unfolding place_at
place_stands os v p d s = rw s.is (ap (λ z. index_of z) s.place)

up_more : (os : List Stored) (v : Bool) (p d : ℕ) → StandsAt os v p d → Up os p → Up os d
unfolding IsChain
up_more os v p d s up =
    let P : Option ℕ → Type 0 = λ t. IsChain (length os) (place_at os) t up.path in
    record { path = d ∷ up.path; chain = (refl, slice_get_within os d s.stored s.is, subst P (sym (place_stands os v p d s)) up.chain) }

listed_more : (os : List Stored) (v : Bool) (p d : ℕ) (met out : List ℕ) (g : Grown os v p (first_at v os p) met out) → Member d g.new → Listed os d
listed_more os v p d met out g m =
    let M : List ℕ → Type 0 = λ l. Member d l in
    record { at = p; exits = v; stands = g.stands d m; member = subst M (sym (walk_is (length os) (next_of_stored os) (first_at v os p) g.new g.chain)) m }

still_met : (os : List Stored) (v : Bool) (p d : ℕ) (start : Option ℕ) (met out : List ℕ) → Grown os v p start met out → Member d met → Member d out
still_met os v p d start met out g m = let M : List ℕ → Type 0 = λ l. Member d l in subst M (sym g.is) (member_left d met g.new m)

reached_more : (os : List Stored) (v : Bool) (p : ℕ) (met out : List ℕ) → Reached os met → Member p met → Grown os v p (first_at v os p) met out → Reached os out
reached_more os v p met out r here g =
    let split : (x : ℕ) → Member x out → Member x met ⊎ Member x g.new = λ x m. let M : List ℕ → Type 0 = λ l. Member x l in member_append x met g.new (subst M g.is m) in
    record {
      below = λ d m. elim (split d m) [ inl q ↦ r.below d q | inr q ↦ chain_below (length os) (next_of_stored os) (first_at v os p) g.new d g.chain q ];
      apart = g.apart r.apart;
      ups = λ d m. elim (split d m) [ inl q ↦ r.ups d q | inr q ↦ up_more os v p d (g.stands d q) (r.ups p here) ];
      listed = λ d m. elim (split d m) [ inl q ↦ r.listed d q | inr q ↦ inr (listed_more os v p d met out g q) ];
    }

pub record BothGrown (os : List Stored) (p : ℕ) (met out : List ℕ) : Type 0 where
  pub middle : List ℕ
  pub contents : Grown os false p (first_at false os p) met middle
  pub exits : Grown os true p (first_at true os p) middle out

both_grown : (os : List Stored) (p : ℕ) (met out : List ℕ) → held_met os p met ≡ Some out → BothGrown os p met out
both_grown os p met out h = option_and_then_some (list_met os true p) (list_met os false p met) out h (λ middle a b. record {
  middle = middle;
  contents = chain_grown (suc (length os)) os false p (first_at false os p) met middle a;
  exits = chain_grown (suc (length os)) os true p (first_at true os p) middle out b;
})

held_both : (os : List Stored) (v : Bool) (p : ℕ) (met out : List ℕ) → BothGrown os p met out → Held os v p
held_both os true p met out g = record { items = g.exits.new; chain = g.exits.chain; stands = g.exits.stands }
held_both os false p met out g = record { items = g.contents.new; chain = g.contents.chain; stands = g.contents.stands }

both_reached : (os : List Stored) (p : ℕ) (met out : List ℕ) → Reached os met → Member p met → BothGrown os p met out → Reached os out
both_reached os p met out r here g =
    reached_more os true p g.middle out (reached_more os false p met g.middle r here g.contents) (still_met os false p p (first_at false os p) met g.middle g.contents here) g.exits

grown_get : (os : List Stored) (v : Bool) (p k : ℕ) (start : Option ℕ) (met out : List ℕ) → Grown os v p start met out → k < length met → slice_get out k ≡ slice_get met k
grown_get os v p k start met out g lt = ap (λ (l : List ℕ). slice_get l k) g.is ∙ get_left k met g.new lt

both_get : (os : List Stored) (p k : ℕ) (met out : List ℕ) → BothGrown os p met out → k < length met → slice_get out k ≡ slice_get met k
both_get os p k met out g lt =
    let longer : length g.middle ≡ length met + length g.contents.new = ap length g.contents.is ∙ length-append met g.contents.new in
    grown_get os true p k (first_at true os p) g.middle out g.exits (omega arith) ∙ grown_get os false p k (first_at false os p) met g.middle g.contents lt

-- In all lists.

-- the lists of the first i that were met
pub record Done (os : List Stored) (i : ℕ) (met : List ℕ) : Type 0 where
  pub held : (k p : ℕ) → k < i → slice_get met k ≡ Some p → (v : Bool) → Held os v p

done_more : (os : List Stored) (i p : ℕ) (met out : List ℕ) → slice_get met i ≡ Some p → BothGrown os p met out → Done os i met → Done os (suc i) out
done_more os i p met out here g done = record {
  held = λ k q lt h v.
      let within : i < length met = slice_get_within met i p here in
      let was : slice_get met k ≡ Some q = sym (both_get os p k met out g (omega arith)) ∙ h in
      elim (cases_lt k i) [
        | inl l ↦ done.held k q l was v
        | inr le ↦
            let at_i : k ≡ i = omega arith in
            let one : p ≡ q = same_Some p q (sym here ∙ ap (λ z. slice_get met z) (sym at_i) ∙ was) in
            let P : ℕ → Type 0 = λ z. Held os v z in
            subst P one (held_both os v p met out g)
      ];
}

pub record AllHeld (os : List Stored) (met : List ℕ) : Type 0 where
  pub reached : Reached os met
  pub held : (p : ℕ) → Member p met → (v : Bool) → Held os v p

finished : (os : List Stored) (i : ℕ) (met out : List ℕ) → Reached os met → Done os i met → length met ≤ i → met ≡ out → AllHeld os out
finished os i met out r done le e =
    let P : List ℕ → Type 0 = λ l. AllHeld os l in
    subst P e (record {
      reached = r;
      held = λ p m v. let k : (k : ℕ) × (slice_get met k ≡ Some p) = member_at p met m in done.held k.0 p (omega (arith, slice_get_within met k.0 p k.1)) k.1 v;
    })

few_met : (os : List Stored) (met : List ℕ) → Reached os met → length met ≤ length os
few_met os met r = length-le_from_distinct_below met (length os) (apart_distinct met r.apart) (λ q e. r.below q (member_any q met e))

next_met : (os : List Stored) (i : ℕ) (met out : List ℕ) (o : Option ℕ) (later : List ℕ → Option (List ℕ)) → slice_get met i ≡ o → Reached os met → Done os i met
    → ((mid : List ℕ) → Reached os mid → Done os (suc i) mid → later mid ≡ Some out → AllHeld os out)
    → option_map_or (λ p. option_and_then later (held_met os p met)) o (Some met) ≡ Some out → AllHeld os out
next_met os i met out None later e r done more h = finished os i met out r done (get_none i met e) (same_Some met out h)
next_met os i met out (Some p) later e r done more h = option_and_then_some later (held_met os p met) out h
    (λ mid a b. let g : BothGrown os p met mid = both_grown os p met mid a in more mid (both_reached os p met mid r (get_member p i met e) g) (done_more os i p met mid e g done) b)

pub all_held : (n : ℕ) (os : List Stored) (i : ℕ) (met out : List ℕ) → Reached os met → Done os i met → length os ≤ i + n → all_met n os i met ≡ Some out → AllHeld os out
unfolding all_met
all_held zero os i met out r done le h = finished os i met out r done (omega (arith, few_met os met r)) (same_Some met out h)
all_held (suc n) os i met out r done le h =
    next_met os i met out (slice_get met i) (all_met n os (suc i)) refl r done (λ mid s d q. all_held n os (suc i) mid out s d (omega arith) q) h
