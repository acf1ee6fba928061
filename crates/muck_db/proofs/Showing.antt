-- The chains as matching and locks see them.
use Rattle.std.proofs.Common.{◌≡◌, ℕ, ◌<◌, ◌≤◌, List, [], ◌∷◌, Option, Some, None, inl, inr, refl, sym, ◌∙◌, ap, subst, length, arith, Bool, false, map}
use Rattle.std.proofs.lemmas.Bool.{cases_eq, ne_eqb, eq-eqb}
use Rattle.std.specs.Prelude.{IfSome}
use Rattle.std.specs.Option.{option_map}
use Rattle.muck_model.specs.declared.dbref.Dbref.{Dbref}
use Rattle.muck_match.specs.Scenery.{chain, upward, is_in_scenery}
use Rattle.muck_lock.specs.inner.Chain as lock
use Rattle.spec_live.specs.Chain.{walk, IsChain, Ends, Member}
use Rattle.spec_live.specs.Objects.{Entry, dbref_of, index_of, nothing, is_exit, is_garbage, object_in, kind_in, place_in, list_in, number_in, object_at, fits_in, is_vehicle_in}
use Rattle.spec_live.specs.declared.object.Object.{Object}
use Rattle.spec_live.specs.Seen.{listed_in, places_of, scenery_of}
use Rattle.spec_live.specs.Consistent.{IsOrdered}
use Rattle.spec_live.proofs.Chains.{walk_is, walk_none, walk_next, chain_from, ends_from, ends_within, member_here}
use Rattle.spec_live.proofs.KindLaws.{standing_alive, place_alive}
use Rattle.spec_live.proofs.Readers.{place_is, object_there}
use Rattle.spec_live.proofs.Checks.{alive_known, index_only, number_there}
use Rattle.muck_db.specs.declared.slot.Slot.{Slot}
use Rattle.muck_db.specs.inner.Slots.{next_at, first_at, place_at, list_at, entries_of, Stands, HasChains, HasOrder}
use Rattle.muck_db.specs.inner.Shown.{behind, listing, after_in, head_of, first_in, next_in, dbref_at}
use Rattle.muck_db.proofs.Readers.{list_in-entries_of, place_in-entries_of, is_exit-entries_of}
use Rattle.muck_db.proofs.Linked.{chain_at}
use Rattle.muck_db.proofs.Bridge.{order_chains, listed_none, listed_some, seen_none, seen_some}

-- behind a number of a chain stands what it leads to
behind_is : (n : ℕ) (f : ℕ → Option ℕ) (s : Option ℕ) (xs : List ℕ) (d : ℕ) → IsChain n f s xs → Member d xs → behind d xs ≡ walk n f (f d)
unfolding IsChain Member behind
behind_is n f s [] d h m = elim m [ ]
behind_is n f s (x ∷ xs) d h m = elim (cases_eq x d) [
  | inl e ↦ rw (eq-eqb x d e) (sym (walk_is n f (f x) xs h.2) ∙ ap (λ z. walk n f (f z)) e)
  | inr ne ↦ rw (ne_eqb x d ne) (behind_is n f (f x) xs d h.2 (elim m [ inl q ↦ absurd (ne (sym q)) | inr q ↦ q ]))
]

-- what stands in a list
record Standing (slots : List Slot) (x : ℕ) : Type 0 where
  there : number_in (entries_of slots) (dbref_of x) ≡ Some x
  rest : behind x (listing (entries_of slots) x) ≡ walk (length slots) (next_at slots) (next_at slots x)

pub alive_number : (es : List Entry) (x : ℕ) → is_garbage (kind_in es x) ≡ false → number_in es (dbref_of x) ≡ Some x
unfolding number_in
alive_number es x h = rw h refl

listing_is : (es : List Entry) (x p : ℕ) → place_in es x ≡ Some p → listing es x ≡ list_in (is_exit (kind_in es x)) es p
unfolding listing
listing_is es x p h = rw h refl

member_standing : (slots : List Slot) → HasOrder slots → (v : Bool) (p x : ℕ) → Member x (list_at v slots p) → Standing slots x
unfolding fits_in
member_standing slots s v p x m =
    let es : List Entry = entries_of slots in
    let h : HasChains slots = order_chains slots s in
    let t : Stands slots v p x = h.stands v p x m in
    let place : place_in es x ≡ Some p = place_in-entries_of slots x ∙ t.place in
    let kind : is_exit (kind_in es x) ≡ v = is_exit-entries_of slots x ∙ t.kind in
    let alive : is_garbage (kind_in es x) ≡ false = standing_alive (kind_in es x) (kind_in es p) (is_vehicle_in es p) (s.ordered.kinds x p place) in
    let list : listing es x ≡ list_at v slots p = listing_is es x p place ∙ ap (λ b. list_in b es p) kind ∙ list_in-entries_of v slots p in
    record {
      there = alive_number es x alive;
      rest = ap (λ l. behind x l) list ∙ behind_is (length slots) (next_at slots) (first_at v slots p) (list_at v slots p) x (chain_at slots h v p) m;
    }

-- a number that has a place stands in a list
pub place_standing : (slots : List Slot) → HasOrder slots → (p x : ℕ) → place_at slots x ≡ Some p → Member x (list_at (is_exit (kind_in (entries_of slots) x)) slots p)
place_standing slots s p x h = (order_chains slots s).listed (is_exit (kind_in (entries_of slots) x)) p x (record { place = h; kind = sym (is_exit-entries_of slots x) })

after_is : (slots : List Slot) (d : Dbref) (x : ℕ) → number_in (entries_of slots) d ≡ Some x → behind x (listing (entries_of slots) x) ≡ walk (length slots) (next_at slots) (next_at slots x)
    → after_in (entries_of slots) d ≡ map dbref_of (walk (length slots) (next_at slots) (next_at slots x))
unfolding after_in
after_is slots d x n r = rw n (ap (λ (l : List ℕ). map dbref_of l) r)

chain_nothing : (after : Dbref → List Dbref) → chain after nothing ≡ []
unfolding chain
chain_nothing after = refl

chain_something : (after : Dbref → List Dbref) (x : ℕ) → chain after (dbref_of x) ≡ dbref_of x ∷ after (dbref_of x)
unfolding chain
chain_something after x = refl

chain_of_ends : (n : ℕ) (f : ℕ → Option ℕ) (s : Option ℕ) → Ends n f s → IsChain n f s (walk n f s)
unfolding Ends
chain_of_ends n f s h = h

-- a walk is a chain of matching, where each number of it stands in a list
walk_chain : (slots : List Slot) → HasOrder slots → (at : Option ℕ) → Ends (length slots) (next_at slots) at → ((x : ℕ) → at ≡ Some x → Standing slots x)
    → map dbref_of (walk (length slots) (next_at slots) at) ≡ chain (after_in (entries_of slots)) (dbref_at at)
walk_chain slots s None h stands = ap (λ (l : List ℕ). map dbref_of l) (walk_none (length slots) (next_at slots)) ∙ sym (chain_nothing (after_in (entries_of slots)))
walk_chain slots s (Some x) h stands =
    let t : Standing slots x = stands x refl in
    ap (λ (l : List ℕ). map dbref_of l) (walk_next (length slots) (next_at slots) (Some x) (next_at slots x) x refl refl h)
    ∙ ap (λ (l : List Dbref). dbref_of x ∷ l) (sym (after_is slots (dbref_of x) x t.there t.rest))
    ∙ sym (chain_something (after_in (entries_of slots)) x)

-- a list as matching sees it
pub listed_chain : (slots : List Slot) → HasOrder slots → (v : Bool) (d : Dbref) (k : ℕ) → number_in (entries_of slots) d ≡ Some k → listed_in v d (entries_of slots) ≡ chain (after_in (entries_of slots)) (dbref_at (first_at v slots k))
unfolding listed_in list_at
listed_chain slots s v d k n =
    rw n (ap (λ (l : List ℕ). map dbref_of l) (list_in-entries_of v slots k)
    ∙ walk_chain slots s (first_at v slots k) (s.ends v k) (λ x e. member_standing slots s v k x (member_here (length slots) (next_at slots) (first_at v slots k) x e (s.ends v k))))

pub listed_nothing : (es : List Entry) (v : Bool) (d : Dbref) → number_in es d ≡ None → listed_in v d es ≡ chain (after_in es) nothing
unfolding listed_in
listed_nothing es v d n = rw n (sym (chain_nothing (after_in es)))

-- the rest of the list of what has a place
rest_ends : (slots : List Slot) → HasOrder slots → (v : Bool) (p x : ℕ) → Member x (list_at v slots p) → Ends (length slots) (next_at slots) (next_at slots x)
unfolding list_at
rest_ends slots s v p x m =
    let k : (ys : List ℕ) × IsChain (length slots) (next_at slots) (next_at slots x) ys × (length ys < length (walk (length slots) (next_at slots) (first_at v slots p))) =
    chain_from (length slots) (next_at slots) (first_at v slots p) (walk (length slots) (next_at slots) (first_at v slots p)) x (chain_of_ends (length slots) (next_at slots) (first_at v slots p) (s.ends v p)) m in
    ends_from (length slots) (next_at slots) (next_at slots x) k.0 k.1

chain_follows : (n : ℕ) (f : ℕ → Option ℕ) (s : Option ℕ) (xs : List ℕ) (x y : ℕ) → IsChain n f s xs → Member x xs → f x ≡ Some y → Member y xs
unfolding IsChain Member
chain_follows n f s [] x y h m e = elim m [ ]
chain_follows n f s (z ∷ []) x y h m e = elim m [ inl q ↦ absurd (cc (ap f q, e, h.2)) | inr r ↦ elim r [ ] ]
chain_follows n f s (z ∷ w ∷ xs) x y h m e = elim m [
  | inl q ↦ let same : y ≡ w = cc (ap f q, e, h.2.0) in inr (inl same)
  | inr r ↦ inr (chain_follows n f (f z) (w ∷ xs) x y h.2 r e)
]

next_standing : (slots : List Slot) → HasOrder slots → (v : Bool) (p x y : ℕ) → Member x (list_at v slots p) → next_at slots x ≡ Some y → Standing slots y
next_standing slots s v p x y m e = member_standing slots s v p y (chain_follows (length slots) (next_at slots) (first_at v slots p) (list_at v slots p) x y (chain_at slots (order_chains slots s) v p) m e)

pub after_chain : (slots : List Slot) → HasOrder slots → (d : Dbref) (k p : ℕ) → number_in (entries_of slots) d ≡ Some k → place_at slots k ≡ Some p → after_in (entries_of slots) d ≡ chain (after_in (entries_of slots)) (dbref_at (next_at slots k))
after_chain slots s d k p n place =
    let v : Bool = is_exit (kind_in (entries_of slots) k) in
    let m : Member k (list_at v slots p) = place_standing slots s p k place in
    let t : Standing slots k = member_standing slots s v p k m in
    after_is slots d k n t.rest ∙ walk_chain slots s (next_at slots k) (rest_ends slots s v p k m) (λ y e. next_standing slots s v p k y m e)

pub after_nothing : (es : List Entry) (d : Dbref) → number_in es d ≡ None → after_in es d ≡ chain (after_in es) nothing
unfolding after_in
after_nothing es d n = rw n (sym (chain_nothing (after_in es)))

-- what has no place stands in no list
listing_none : (es : List Entry) (k : ℕ) → place_in es k ≡ None → listing es k ≡ []
unfolding listing
listing_none es k h = rw h refl

behind_none : (d : ℕ) → behind d [] ≡ []
unfolding behind
behind_none d = refl

behind_placeless : (slots : List Slot) (k : ℕ) → place_at slots k ≡ None → behind k (listing (entries_of slots) k) ≡ []
behind_placeless slots k h = ap (λ l. behind k l) (listing_none (entries_of slots) k (place_in-entries_of slots k ∙ h)) ∙ behind_none k

pub after_placeless : (slots : List Slot) (d : Dbref) (k : ℕ) → number_in (entries_of slots) d ≡ Some k → place_at slots k ≡ None → after_in (entries_of slots) d ≡ chain (after_in (entries_of slots)) nothing
unfolding after_in
after_placeless slots d k n h = rw n (ap (λ (l : List ℕ). map dbref_of l) (behind_placeless slots k h) ∙ sym (chain_nothing (after_in (entries_of slots))))

-- The same for locks.

head_walk : (n : ℕ) (f : ℕ → Option ℕ) (s : Option ℕ) → Ends n f s → head_of (walk n f s) ≡ dbref_at s
head_walk n f None h = ap (λ (l : List ℕ). head_of l) (walk_none n f)
head_walk n f (Some x) h = ap (λ (l : List ℕ). head_of l) (walk_next n f (Some x) (f x) x refl refl h)

pub first_is : (slots : List Slot) → HasOrder slots → (d : Dbref) (k : ℕ) → number_in (entries_of slots) d ≡ Some k → first_in (entries_of slots) d ≡ dbref_at (first_at false slots k)
unfolding first_in list_at
first_is slots s d k n = rw n (ap (λ (l : List ℕ). head_of l) (list_in-entries_of false slots k) ∙ head_walk (length slots) (next_at slots) (first_at false slots k) (s.ends false k))

pub first_nothing : (es : List Entry) (d : Dbref) → number_in es d ≡ None → first_in es d ≡ nothing
unfolding first_in
first_nothing es d n = rw n refl

next_some : (es : List Entry) (d : Dbref) (k : ℕ) (xs : List ℕ) → number_in es d ≡ Some k → behind k (listing es k) ≡ xs → next_in es d ≡ head_of xs
unfolding next_in
next_some es d k xs n r = rw n (ap (λ (l : List ℕ). head_of l) r)

pub next_is : (slots : List Slot) → HasOrder slots → (d : Dbref) (k p : ℕ) → number_in (entries_of slots) d ≡ Some k → place_at slots k ≡ Some p → next_in (entries_of slots) d ≡ dbref_at (next_at slots k)
next_is slots s d k p n place =
    let v : Bool = is_exit (kind_in (entries_of slots) k) in
    let m : Member k (list_at v slots p) = place_standing slots s p k place in
    next_some (entries_of slots) d k _ n (member_standing slots s v p k m).rest ∙ head_walk (length slots) (next_at slots) (next_at slots k) (rest_ends slots s v p k m)

pub next_nothing : (es : List Entry) (d : Dbref) → number_in es d ≡ None → next_in es d ≡ nothing
unfolding next_in
next_nothing es d n = rw n refl

pub next_placeless : (slots : List Slot) (d : Dbref) (k : ℕ) → number_in (entries_of slots) d ≡ Some k → place_at slots k ≡ None → next_in (entries_of slots) d ≡ nothing
next_placeless slots d k n h = next_some (entries_of slots) d k [] n (behind_placeless slots k h)

lock_chain : (n : ℕ) (f : ℕ → Option ℕ) (next : Dbref → Dbref) (s : Option ℕ) (xs : List ℕ) → IsChain n f s xs → ((x : ℕ) → Member x xs → next (dbref_of x) ≡ dbref_at (f x)) → lock.IsChain next (dbref_at s) (map dbref_of xs)
unfolding IsChain Member lock.IsChain
lock_chain n f next s [] h step = rw h refl
lock_chain n f next s (x ∷ xs) h step =
    let P : Dbref → Type 0 = λ z. lock.IsChain next z (map dbref_of xs) in
    rw h.0 (refl, refl, subst P (sym (step x (inl refl))) (lock_chain n f next (f x) xs h.2 (λ y m. step y (inr m))))

chain_of_none : (es : List Entry) → lock.IsChain (next_in es) nothing []
unfolding lock.IsChain
chain_of_none es = refl

member_next_is : (slots : List Slot) → HasOrder slots → (v : Bool) (p x : ℕ) → Member x (list_at v slots p) → next_in (entries_of slots) (dbref_of x) ≡ dbref_at (next_at slots x)
member_next_is slots s v p x m = next_is slots s (dbref_of x) x p (member_standing slots s v p x m).there ((order_chains slots s).stands v p x m).place

pub locks_chain : (slots : List Slot) → HasOrder slots → (d : Dbref) → lock.IsChain (next_in (entries_of slots)) (first_in (entries_of slots) d) (listed_in false d (entries_of slots))
locks_chain slots s d = by_cases (number_in (entries_of slots) d) refl
  where
    by_cases : (o : Option ℕ) → number_in (entries_of slots) d ≡ o → lock.IsChain (next_in (entries_of slots)) (first_in (entries_of slots) d) (listed_in false d (entries_of slots))
    by_cases None e =
        let P : Dbref → Type 0 = λ z. lock.IsChain (next_in (entries_of slots)) z (listed_in false d (entries_of slots)) in
        let Q : List Dbref → Type 0 = λ l. lock.IsChain (next_in (entries_of slots)) nothing l in
        subst P (sym (first_nothing (entries_of slots) d e)) (subst Q (sym (listed_none false (entries_of slots) d e)) (chain_of_none (entries_of slots)))
    by_cases (Some k) e =
        let P : Dbref → Type 0 = λ z. lock.IsChain (next_in (entries_of slots)) z (listed_in false d (entries_of slots)) in
        let Q : List Dbref → Type 0 = λ l. lock.IsChain (next_in (entries_of slots)) (dbref_at (first_at false slots k)) l in
        let list : listed_in false d (entries_of slots) ≡ map dbref_of (list_at false slots k) = listed_some false (entries_of slots) d k e ∙ ap (λ (l : List ℕ). map dbref_of l) (list_in-entries_of false slots k) in
        subst P (sym (first_is slots s d k e)) (subst Q (sym list) (lock_chain (length slots) (next_at slots) (next_in (entries_of slots)) (first_at false slots k) (list_at false slots k) (chain_at slots (order_chains slots s) false k) (λ x m. member_next_is slots s false k x m)))

-- places upward

places_some : (es : List Entry) (d : Dbref) (n : ℕ) → number_in es d ≡ Some n → places_of es d ≡ map dbref_of (walk (length es) (place_in es) (place_in es n))
unfolding places_of
places_some es d n h = rw h refl

places_none : (es : List Entry) (d : Dbref) → number_in es d ≡ None → places_of es d ≡ []
unfolding places_of
places_none es d h = rw h refl

upward_gone : (es : List Entry) (place : Dbref) → object_at place es ≡ None → upward (scenery_of es) (Some place) ≡ []
unfolding upward is_in_scenery scenery_of
upward_gone es place h = rw h refl

upward_there : (es : List Entry) (place : Dbref) (o : Object) → object_at place es ≡ Some o → upward (scenery_of es) (Some place) ≡ place ∷ places_of es place
unfolding upward is_in_scenery scenery_of
upward_there es place o h = rw h refl

nowhere : (es : List Entry) (place : Dbref) → index_of place ≡ None → object_at place es ≡ None
unfolding object_at number_in
nowhere es place h = rw h refl

places_at : (es : List Entry) → IsOrdered es → (n : ℕ) (o : Object) → object_in es n ≡ Some o → (i : Option ℕ) → index_of o.place ≡ i → map dbref_of (walk (length es) (place_in es) (place_in es n)) ≡ upward (scenery_of es) (Some o.place)
unfolding fits_in
places_at es c n o h None e =
    ap (λ (s : Option ℕ). map dbref_of (walk (length es) (place_in es) s)) (place_is es n o h ∙ e) ∙ ap (λ (l : List ℕ). map dbref_of l) (walk_none (length es) (place_in es)) ∙ sym (upward_gone es o.place (nowhere es o.place e))
places_at es c n o h (Some p) e =
    let place : place_in es n ≡ Some p = place_is es n o h ∙ e in
    let alive : is_garbage (kind_in es p) ≡ false = place_alive (kind_in es n) (kind_in es p) (is_vehicle_in es p) (c.kinds n p place) in
    let known : p < length es = alive_known es p alive in
    let q : (x : Object) × (object_in es p ≡ Some x) = object_there es p known in
    let is : o.place ≡ dbref_of p = index_only o.place p e in
    let number : number_in es (dbref_of p) ≡ Some p = alive_number es p alive in
    let P : Dbref → Type 0 = λ z. map dbref_of (walk (length es) (place_in es) (place_in es n)) ≡ upward (scenery_of es) (Some z) in
    subst P (sym is) (
    ap (λ (s : Option ℕ). map dbref_of (walk (length es) (place_in es) s)) place
    ∙ ap (λ (l : List ℕ). map dbref_of l) (walk_next (length es) (place_in es) (Some p) (place_in es p) p refl refl (c.up p known))
    ∙ ap (λ (l : List Dbref). dbref_of p ∷ l) (sym (places_some es (dbref_of p) p number))
    ∙ sym (upward_there es (dbref_of p) q.0 (seen_some es (dbref_of p) p number ∙ q.1))
    )

pub places_chain : (es : List Entry) → IsOrdered es → (d : Dbref) → places_of es d ≡ upward (scenery_of es) (option_map (λ (x : Object). x.place) (object_at d es))
unfolding upward
places_chain es c d = by_number (number_in es d) refl
  where
    by_object : (n : ℕ) (q : Option Object) → number_in es d ≡ Some n → object_in es n ≡ q → places_of es d ≡ upward (scenery_of es) (option_map (λ (x : Object). x.place) (object_at d es))
    by_object n None e h = absurd (cc (h, (object_there es n (number_there es d n e).known).1))
    by_object n (Some o) e h =
        places_some es d n e ∙ places_at es c n o h (index_of o.place) refl ∙ ap (λ (q : Option Object). upward (scenery_of es) (option_map (λ (x : Object). x.place) q)) (sym (seen_some es d n e ∙ h))

    by_number : (k : Option ℕ) → number_in es d ≡ k → places_of es d ≡ upward (scenery_of es) (option_map (λ (x : Object). x.place) (object_at d es))
    by_number None e = places_none es d e ∙ ap (λ (q : Option Object). upward (scenery_of es) (option_map (λ (x : Object). x.place) q)) (sym (seen_none es d e))
    by_number (Some n) e = by_object n (object_in es n) e refl

pub place_upward : (es : List Entry) → IsOrdered es → (d : Dbref) (place : Option Dbref) → place ≡ option_map (λ (x : Object). x.place) (object_at d es) → places_of es d ≡ upward (scenery_of es) place
place_upward es c d place h = places_chain es c d ∙ ap (λ p. upward (scenery_of es) p) (sym h)

-- numbers of a table are small
pub small : (n : ℕ) (f : ℕ → Option ℕ) (s : Option ℕ) → n ≤ 100000 → Ends n f s → IfSome s (λ k. k < 2147483648)
small n f None le h = tt
small n f (Some k) le h = omega (arith, ends_within n f (Some k) k refl h)

pub next_small : (slots : List Slot) → HasOrder slots → (k p : ℕ) → place_at slots k ≡ Some p → length slots ≤ 100000 → IfSome (next_at slots k) (λ x. x < 2147483648)
next_small slots s k p place le = small (length slots) (next_at slots) (next_at slots k) le (rest_ends slots s (is_exit (kind_in (entries_of slots) k)) p k (place_standing slots s p k place))
