-- Taking out and putting in front, as wholes.
use Rattle.std.proofs.Common.{◌≡◌, ◌⊎◌, ℕ, ◌<◌, List, [], ◌∷◌, Option, Some, None, inl, inr, refl, sym, ◌∙◌, ap, subst, length, arith, Bool, true, false}
use Rattle.std.proofs.lemmas.Bool.{cases_eq, ne_eqb, eq-eqb}
use Rattle.std.specs.Option.{option_and_then}
use Rattle.muck_laws.proofs.Numbers.{same_place}
use Rattle.spec_live.specs.declared.saving.Saving.TheVariants.{Due}
use Rattle.spec_live.specs.Chain.{IsChain, Ends, Member, IsApart, follower, without_number, put_at}
use Rattle.spec_live.specs.Objects.{Entry, changed_at, is_exit, kind_in, place_in, list_in}
use Rattle.spec_live.specs.Saving.{first_of_list, next_in, links_in}
use Rattle.spec_live.proofs.Chains.{chain_frame, chain_below, chain_apart, chain_without_first, chain_without, without_same}
use Rattle.spec_live.proofs.Lists.{put_same, put_other, length_changed}
use Rattle.muck_db.specs.declared.slot.Slot.{Slot}
use Rattle.muck_db.specs.inner.Slots.{next_at, first_at, place_at, list_at, saving_at, with_next, with_first, entries_of, LeadsTo, Stands, HasChains, IsUnlinked, IsLinked}
use Rattle.muck_db.proofs.Tables.{object-with_next, object-with_first, mark-with_next, mark-with_first, stood-with_next, stood-with_first, first-with_next, next-with_first, next-with_next_same, next-with_next_other, first-with_first_same, first-with_first_other, saving_due, saving_other, with_first_due}
use Rattle.muck_db.proofs.Readers.{list_in-entries_of, place_in-entries_of, is_exit-entries_of}
use Rattle.muck_db.proofs.Leads.{front_member, follower_member, first_behind_none, one_before}

-- the chain of one list
pub chain_at : (slots : List Slot) → HasChains slots → (v : Bool) (q : ℕ) → IsChain (length slots) (next_at slots) (first_at v slots q) (list_at v slots q)
unfolding Ends list_at
chain_at slots h v q = h.ends v q

chain_ends : (slots : List Slot) (v : Bool) (q : ℕ) → Ends (length slots) (next_at slots) (first_at v slots q) → IsChain (length slots) (next_at slots) (first_at v slots q) (list_at v slots q)
unfolding Ends list_at
chain_ends slots v q h = h

pub member_below : (slots : List Slot) → HasChains slots → (v : Bool) (q x : ℕ) → Member x (list_at v slots q) → x < length slots
member_below slots h v q x m = chain_below _ _ _ _ x (chain_at slots h v q) m

-- a number stands in one list only
pub one_list : (slots : List Slot) → HasChains slots → (v w : Bool) (q p x : ℕ) → Member x (list_at w slots p) → (v ≡ w → q ≡ p → ⊥) → Member x (list_at v slots q) → ⊥
one_list slots h v w q p x here other there =
    let a : Stands slots w p x = h.stands w p x here in
    let b : Stands slots v q x = h.stands v q x there in
    other (sym b.kind ∙ a.kind) (cc (a.place, b.place))

-- the same chain, seen with another table
pub chain_over : (n m : ℕ) (f g : ℕ → Option ℕ) (s t : Option ℕ) (xs ys : List ℕ) → m ≡ n → t ≡ s → ys ≡ xs → ((x : ℕ) → Member x xs → g x ≡ f x) → IsChain n f s xs → IsChain m g t ys
chain_over n m f g s t xs ys e k l same h =
    let P : ℕ → Type 0 = λ z. IsChain z g t ys in
    let Q : Option ℕ → Type 0 = λ z. IsChain n g z ys in
    let R : List ℕ → Type 0 = λ z. IsChain n g s z in
    subst P (sym e) (subst Q (sym k) (subst R (sym l) (chain_frame n f g s xs same h)))

-- What leads to a number that stands in a list: the first link of that list, or what stands before it.

-- the list that leads to a number is the one that it stands in
pub record IsIn (slots : List Slot) (v w : Bool) (q p : ℕ) : Type 0 where
  pub which : v ≡ w
  pub place : q ≡ p

same_list : (slots : List Slot) → HasChains slots → (v w : Bool) (q p d : ℕ) → Member d (list_at w slots p) → Member d (list_at v slots q) → IsIn slots v w q p
same_list slots h v w q p d here there =
    let a : Stands slots w p d = h.stands w p d here in
    let b : Stands slots v q d = h.stands v q d there in
    record { which = sym b.kind ∙ a.kind; place = cc (a.place, b.place) }

list_apart : (slots : List Slot) → HasChains slots → (v : Bool) (q : ℕ) → IsApart (list_at v slots q)
list_apart slots h v q = chain_apart (length slots) (next_at slots) (first_at v slots q) (list_at v slots q) (chain_at slots h v q)

-- behind a number of a chain stands what it leads to
pub follower_is : (n : ℕ) (f : ℕ → Option ℕ) (s : Option ℕ) (xs : List ℕ) (d : ℕ) → IsChain n f s xs → Member d xs → follower d xs ≡ f d
unfolding IsChain Member follower
follower_is n f s [] d h m = elim m [ ]
follower_is n f s (x ∷ []) d h m = elim (cases_eq x d) [
  | inl e ↦ rw (eq-eqb x d e) (sym h.2 ∙ ap f e)
  | inr ne ↦ elim m [ inl q ↦ absurd (ne (sym q)) | inr q ↦ elim q [ ] ]
]
follower_is n f s (x ∷ y ∷ ys) d h m = elim (cases_eq x d) [
  | inl e ↦ rw (eq-eqb x d e) (sym h.2.0 ∙ ap f e)
  | inr ne ↦ rw (ne_eqb x d ne) (follower_is n f (f x) (y ∷ ys) d h.2 (elim m [ inl q ↦ absurd (ne (sym q)) | inr q ↦ q ]))
]

next_of : (slots : List Slot) (k p : ℕ) → place_at slots k ≡ Some p → next_in (entries_of slots) k ≡ follower k (list_in (is_exit (kind_in (entries_of slots) k)) (entries_of slots) p)
unfolding next_in
next_of slots k p h = rw (place_in-entries_of slots k ∙ h) refl

-- behind what stands in a list stands what it leads to
pub next_standing : (slots : List Slot) → HasChains slots → (w : Bool) (p i : ℕ) → Member i (list_at w slots p) → next_in (entries_of slots) i ≡ next_at slots i
next_standing slots h w p i m =
    let t : Stands slots w p i = h.stands w p i m in
    next_of slots i p t.place
    ∙ ap (λ b. follower i (list_in b (entries_of slots) p)) (is_exit-entries_of slots i ∙ t.kind)
    ∙ ap (λ l. follower i l) (list_in-entries_of w slots p)
    ∙ follower_is (length slots) (next_at slots) (first_at w slots p) (list_at w slots p) i (chain_at slots h w p) m

-- a list of k begins with d
record Begins (slots : List Slot) (d k : ℕ) : Type 0 where
  which : Bool
  leads : first_of_list (list_at which slots k) ≡ Some d

-- k stands before d
record Precedes (slots : List Slot) (d k : ℕ) : Type 0 where
  which : Bool
  place : ℕ
  leads : follower k (list_at which slots place) ≡ Some d

front_by : (v : Bool) (slots : List Slot) (k d : ℕ) → first_of_list (list_in v (entries_of slots) k) ≡ Some d → first_of_list (list_at v slots k) ≡ Some d
front_by v slots k d h = ap first_of_list (sym (list_in-entries_of v slots k)) ∙ h

next_by : (slots : List Slot) (k d : ℕ) → next_in (entries_of slots) k ≡ Some d → Precedes slots d k
unfolding next_in
next_by slots k d h = by_cases (place_in (entries_of slots) k) h
  where
    by_cases : (o : Option ℕ) → option_and_then (λ p. follower k (list_in (is_exit (kind_in (entries_of slots) k)) (entries_of slots) p)) o ≡ Some d → Precedes slots d k
    by_cases None q = absurd (cc q)
    by_cases (Some p) q =
        let v : Bool = is_exit (kind_in (entries_of slots) k) in
        record { which = v; place = p; leads = ap (λ l. follower k l) (sym (list_in-entries_of v slots p)) ∙ q }

led_by : (slots : List Slot) (d k : ℕ) → LeadsTo d (links_in (entries_of slots) k) → Begins slots d k ⊎ Precedes slots d k
unfolding links_in
led_by slots d k h = elim h [
  | inl q ↦ inl (record { which = false; leads = front_by false slots k d q })
  | inr q ↦ elim q [
    | inl r ↦ inl (record { which = true; leads = front_by true slots k d r })
    | inr r ↦ inr (next_by slots k d r)
  ]
]

-- what leads to d has it in a list
pub led_from : (slots : List Slot) (d k : ℕ) → LeadsTo d (links_in (entries_of slots) k) → (v : Bool) × (q : ℕ) × Member d (list_at v slots q)
led_from slots d k h = elim (led_by slots d k h) [
  | inl b ↦ (b.which, k, front_member d (list_at b.which slots k) b.leads)
  | inr b ↦ (b.which, b.place, follower_member k d (list_at b.which slots b.place) b.leads)
]

chain_begins : (n : ℕ) (f : ℕ → Option ℕ) (s : Option ℕ) (xs : List ℕ) → IsChain n f s xs → first_of_list xs ≡ s
unfolding IsChain
chain_begins n f s [] h = sym h
chain_begins n f s (x ∷ xs) h = sym h.0

list_begins : (slots : List Slot) → HasChains slots → (w : Bool) (p : ℕ) → first_of_list (list_at w slots p) ≡ first_at w slots p
list_begins slots h w p = chain_begins (length slots) (next_at slots) (first_at w slots p) (list_at w slots p) (chain_at slots h w p)

leads_first : (slots : List Slot) (w : Bool) (p d : ℕ) → first_of_list (list_at w slots p) ≡ Some d → LeadsTo d (links_in (entries_of slots) p)
unfolding links_in
leads_first slots true p d h = inr (inl (ap first_of_list (list_in-entries_of true slots p) ∙ h))
leads_first slots false p d h = inl (ap first_of_list (list_in-entries_of false slots p) ∙ h)

leads_next : (slots : List Slot) (i d : ℕ) → next_in (entries_of slots) i ≡ Some d → LeadsTo d (links_in (entries_of slots) i)
unfolding links_in
leads_next slots i d h = inr (inr h)

-- where d is the first, only its place leads to it
first_leads : (slots : List Slot) → HasChains slots → (w : Bool) (p d k : ℕ) → Member d (list_at w slots p) → first_of_list (list_at w slots p) ≡ Some d → LeadsTo d (links_in (entries_of slots) k) → k ≡ p
first_leads slots h w p d k here first leads = elim (led_by slots d k leads) [
  | inl b ↦ (same_list slots h b.which w k p d here (front_member d (list_at b.which slots k) b.leads)).place
  | inr b ↦
      let e : IsIn slots b.which w b.place p = same_list slots h b.which w b.place p d here (follower_member k d (list_at b.which slots b.place) b.leads) in
      absurd (first_behind_none k d (list_at w slots p) (list_apart slots h w p) first (rw (← e.which, ← e.place) b.leads))
]

-- where it isn't, only the one before it does
later_leads : (slots : List Slot) → HasChains slots → (w : Bool) (p d i k : ℕ) → Member d (list_at w slots p) → (first_of_list (list_at w slots p) ≡ Some d → ⊥) → follower i (list_at w slots p) ≡ Some d → LeadsTo d (links_in (entries_of slots) k) → k ≡ i
later_leads slots h w p d i k here later before leads = elim (led_by slots d k leads) [
  | inl b ↦
      let e : IsIn slots b.which w k p = same_list slots h b.which w k p d here (front_member d (list_at b.which slots k) b.leads) in
      absurd (later (rw (← e.which, ← e.place) b.leads))
  | inr b ↦
      let e : IsIn slots b.which w b.place p = same_list slots h b.which w b.place p d here (follower_member k d (list_at b.which slots b.place) b.leads) in
      one_before k i d (list_at w slots p) (list_apart slots h w p) (rw (← e.which, ← e.place) b.leads) before
]

-- what alone leads to d, and alone is written
led_due : (d n k : ℕ) (old new : List Slot) → (LeadsTo d (links_in (entries_of old) k) → k ≡ n) → saving_at new n ≡ Due → LeadsTo d (links_in (entries_of old) k) → saving_at new k ≡ Due
led_due d n k old new only is_due leads = ap (λ z. saving_at new z) (only leads) ∙ is_due

led_same : (d n k : ℕ) (old new : List Slot) → LeadsTo d (links_in (entries_of old) n) → ((k ≡ n → ⊥) → saving_at new k ≡ saving_at old k) → (LeadsTo d (links_in (entries_of old) k) → ⊥) → saving_at new k ≡ saving_at old k
led_same d n k old new here other leads = elim (cases_eq k n) [
  | inl e ↦ let P : ℕ → Type 0 = λ z. LeadsTo d (links_in (entries_of old) z) in absurd (leads (subst P (sym e) here))
  | inr ne ↦ other ne
]

pub unlinked_first : (w : Bool) (p d : ℕ) (old : List Slot) → HasChains old → Member d (list_at w old p) → p < length old → first_at w old p ≡ Some d
    → IsUnlinked d old (changed_at p (with_first w (next_at old d)) old)
unlinked_first w p d old h here lt first = record {
  same_length = length_changed old p (with_first w (next_at old d));
  same_objects = λ k. object-with_first w old p k (next_at old d);
  same_marks = λ k. mark-with_first w old p k (next_at old d);
  same_stood = λ k. stood-with_first w old p k (next_at old d);
  due = λ k. led_due d p k old (changed_at p (with_first w (next_at old d)) old) (first_leads old h w p d k here (list_begins old h w p ∙ first)) (saving_due old p (with_first w (next_at old d)) (with_first_due w (next_at old d)));
  same_savings = λ k. led_same d p k old (changed_at p (with_first w (next_at old d)) old) (leads_first old w p d (list_begins old h w p ∙ first)) (saving_other old p k (with_first w (next_at old d)));
  chains = λ v q. elim (same_place v w q p) [
    | inl e ↦
        let P : Option ℕ → Type 0 = λ z. IsChain (length old) (next_at old) z (list_at w old p) in
        let V : Bool → ℕ → Type 0 = λ y z. IsChain (length (changed_at p (with_first w (next_at old d)) old)) (next_at (changed_at p (with_first w (next_at old d)) old)) (first_at y (changed_at p (with_first w (next_at old d)) old) z) (without_number d (list_at y old z)) in
        let at_place : V w p = chain_over _ _ _ _ _ _ _ _ (length_changed old p (with_first w (next_at old d))) (first-with_first_same w old p (next_at old d) lt) refl (λ x m. next-with_first w old p x (next_at old d))
        (chain_without_first (length old) (next_at old) d (list_at w old p) (subst P first (chain_at old h w p))) in
        let A : Bool → Type 0 = λ y. V y q in
        let B : ℕ → Type 0 = λ z. V w z in
        subst A (sym e.0) (subst B (sym e.1) at_place)
    | inr e ↦ chain_over _ _ _ _ _ _ _ _ (length_changed old p (with_first w (next_at old d))) (first-with_first_other w v old p q (next_at old d) e) (without_same d (list_at v old q) (one_list old h v w q p d here e)) (λ x m. next-with_first w old p x (next_at old d)) (chain_at old h v q)
  ];
}

pub unlinked_later : (w : Bool) (p d i : ℕ) (old : List Slot) → HasChains old → Member d (list_at w old p) → Member i (list_at w old p) → next_at old i ≡ Some d → (first_at w old p ≡ Some d → ⊥)
    → IsUnlinked d old (changed_at i (with_next (next_at old d)) old)
unlinked_later w p d i old h here before leads first = record {
  same_length = length_changed old i (with_next (next_at old d));
  same_objects = λ k. object-with_next old i k (next_at old d);
  same_marks = λ k. mark-with_next old i k (next_at old d);
  same_stood = λ k. stood-with_next old i k (next_at old d);
  due = λ k. led_due d i k old (changed_at i (with_next (next_at old d)) old)
      (later_leads old h w p d i k here (λ e. first (sym (list_begins old h w p) ∙ e)) (follower_is (length old) (next_at old) (first_at w old p) (list_at w old p) i (chain_at old h w p) before ∙ leads))
      (saving_due old i (with_next (next_at old d)) (λ s. refl));
  same_savings = λ k. led_same d i k old (changed_at i (with_next (next_at old d)) old) (leads_next old i d (next_standing old h w p i before ∙ leads)) (saving_other old i k (with_next (next_at old d)));
  chains = λ v q. elim (same_place v w q p) [
    | inl e ↦
        let V : Bool → ℕ → Type 0 = λ y z. IsChain (length (changed_at i (with_next (next_at old d)) old)) (next_at (changed_at i (with_next (next_at old d)) old)) (first_at y (changed_at i (with_next (next_at old d)) old) z) (without_number d (list_at y old z)) in
        let at_place : V w p = chain_over _ _ _ _ _ _ _ _ (length_changed old i (with_next (next_at old d))) (first-with_next w old i p (next_at old d)) refl (λ x m. refl)
        (chain_without (length old) (next_at old) (next_at (changed_at i (with_next (next_at old d)) old)) i d (first_at w old p) (list_at w old p) leads
        (next-with_next_same old i (next_at old d) (member_below old h w p i before)) (λ x ne. next-with_next_other old i x (next_at old d) ne) before first (chain_at old h w p)) in
        let A : Bool → Type 0 = λ y. V y q in
        let B : ℕ → Type 0 = λ z. V w z in
        subst A (sym e.0) (subst B (sym e.1) at_place)
    | inr e ↦ chain_over _ _ _ _ _ _ _ _ (length_changed old i (with_next (next_at old d))) (first-with_next v old i q (next_at old d)) (without_same d (list_at v old q) (one_list old h v w q p d here e))
        (λ x m. next-with_next_other old i x (next_at old d) (λ s. one_list old h v w q p i before e (let M : ℕ → Type 0 = λ z. Member z (list_at v old q) in subst M s m))) (chain_at old h v q)
  ];
}

chain_front : (n : ℕ) (f : ℕ → Option ℕ) (d : ℕ) (xs : List ℕ) → d < n → IsChain n f (f d) xs → IsChain n f (Some d) (d ∷ xs)
unfolding IsChain
chain_front n f d xs lt h = (refl, lt, h)

-- the state between the two writes, and behind both
pub linked : (w : Bool) (to d : ℕ) (old mid new : List Slot) → ((v : Bool) (q : ℕ) → Ends (length old) (next_at old) (first_at v old q)) → ((v : Bool) (q : ℕ) → Member d (list_at v old q) → ⊥)
    → d < length old → to < length old → mid ≡ changed_at d (with_next (first_at w old to)) old → new ≡ changed_at to (with_first w (Some d)) mid
    → IsLinked w to d old new
linked w to d old mid new ends nowhere known place is_mid is_new =
    let mid_length : length mid ≡ length old = rw is_mid (length_changed old d (with_next (first_at w old to))) in
    let new_length : length new ≡ length old = rw (is_new, length_changed mid to (with_first w (Some d))) mid_length in
    let next_other : (x : ℕ) → (x ≡ d → ⊥) → next_at new x ≡ next_at old x =
    λ x ne. rw (is_new, next-with_first w mid to x (Some d), is_mid) (next-with_next_other old d x (first_at w old to) ne) in
    let next_here : next_at new d ≡ first_at w old to =
    rw (is_new, next-with_first w mid to d (Some d), is_mid) (next-with_next_same old d (first_at w old to) known) in
    let first_here : first_at w new to ≡ Some d = rw is_new (first-with_first_same w mid to (Some d) (omega arith)) in
    let first_other : (v : Bool) (q : ℕ) → (v ≡ w → q ≡ to → ⊥) → first_at v new q ≡ first_at v old q =
    λ v q e. rw (is_new, first-with_first_other w v mid to q (Some d) e, is_mid) (first-with_next v old d q (first_at w old to)) in
    let kept : (v : Bool) (q x : ℕ) → Member x (list_at v old q) → next_at new x ≡ next_at old x =
    λ v q x m. next_other x (λ s. nowhere v q (let M : ℕ → Type 0 = λ z. Member z (list_at v old q) in subst M s m)) in
    record {
      same_length = new_length;
      same_objects = λ k. rw (is_new, object-with_first w mid to k (Some d), is_mid) (object-with_next old d k (first_at w old to));
      same_marks = λ k. rw (is_new, mark-with_first w mid to k (Some d), is_mid) (mark-with_next old d k (first_at w old to));
      same_stood = λ k. rw (is_new, stood-with_first w mid to k (Some d), is_mid) (stood-with_next old d k (first_at w old to));
      due = ap (λ (z : List Slot). saving_at z d) is_new ∙ linked_due (cases_eq d to) (ap (λ (z : List Slot). saving_at z d) is_mid ∙ saving_due old d (with_next (first_at w old to)) (λ s. refl));
      place_due = ap (λ (z : List Slot). saving_at z to) is_new ∙ saving_due mid to (with_first w (Some d)) (with_first_due w (Some d));
      same_savings = λ k other elsewhere. ap (λ (z : List Slot). saving_at z k) is_new ∙ saving_other mid to k (with_first w (Some d)) elsewhere ∙ ap (λ (z : List Slot). saving_at z k) is_mid ∙ saving_other old d k (with_next (first_at w old to)) other;
      chains = λ v q. elim (same_place v w q to) [
        | inl e ↦
            let V : Bool → ℕ → Type 0 = λ y z. IsChain (length new) (next_at new) (first_at y new z) (put_at w to d y z (list_at y old z)) in
            let at_place : V w to = chain_over (length new) (length new) (next_at new) (next_at new) (Some d) (first_at w new to) (d ∷ list_at w old to) (put_at w to d w to (list_at w old to)) refl first_here (put_same w to d w to (list_at w old to) refl refl) (λ x m. refl)
            (chain_front (length new) (next_at new) d (list_at w old to) (omega arith)
            (chain_over (length old) (length new) (next_at old) (next_at new) (first_at w old to) (next_at new d) (list_at w old to) (list_at w old to) new_length next_here refl (kept w to) (chain_ends old w to (ends w to)))) in
            let A : Bool → Type 0 = λ y. V y q in
            let B : ℕ → Type 0 = λ z. V w z in
            subst A (sym e.0) (subst B (sym e.1) at_place)
        | inr e ↦ chain_over (length old) (length new) (next_at old) (next_at new) (first_at v old q) (first_at v new q) (list_at v old q) (put_at w to d v q (list_at v old q)) new_length (first_other v q e) (put_other w to d v q (list_at v old q) e) (kept v q) (chain_ends old v q (ends v q))
      ];
    }
  where
    linked_due : (d ≡ to) ⊎ (d ≡ to → ⊥) → saving_at mid d ≡ Due → saving_at (changed_at to (with_first w (Some d)) mid) d ≡ Due
    linked_due (inl e) h = ap (λ z. saving_at (changed_at to (with_first w (Some d)) mid) z) e ∙ saving_due mid to (with_first w (Some d)) (with_first_due w (Some d))
    linked_due (inr ne) h = saving_other mid to d (with_first w (Some d)) ne ∙ h
