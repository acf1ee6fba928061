-- What keeps the lists and the places in order: changes that the readers don't see, and moving.
use Rattle.std.proofs.Common.{◌≡◌, ℕ, ◌<◌, ◌≤◌, List, [], ◌∷◌, Option, Some, None, ◌⊎◌, inl, inr, refl, sym, ◌∙◌, ap, subst, length, arith, Bool, true}
use Rattle.std.proofs.lemmas.Bool.{cases_eq, cases_lt}
use Rattle.std.proofs.lemmas.Map.Steps.{length-le_from_distinct_below}
use Rattle.muck_model.specs.declared.dbref.Kind.{Kind}
use Rattle.muck_model.specs.declared.dbref.Kind.TheVariants.{Garbage}
use Rattle.spec_live.specs.declared.object.Object.{Object}
use Rattle.spec_live.specs.Chain.{walk, IsChain, Ends, Member, IsApart, without_number}
use Rattle.spec_live.specs.Objects.{Entry, is_exit, may_stand, list_in, place_in, kind_in, is_vehicle_in, fits_in, places_from, changed_at, on_object}
use Rattle.spec_live.specs.Moving.{moved}
use Rattle.spec_live.specs.Consistent.{StandsIn, IsOrdered, IsPlaced, MayMove}
use Rattle.spec_live.proofs.Chains.{chain_frame, ends_from, member_any, apart_distinct, without_gone, without_member, member_without}
use Rattle.spec_live.proofs.Lists.{length_changed, put_member, front_member, member_put, apart_put, apart_without}
use Rattle.spec_live.proofs.KindLaws.{none_in_garbage, garbage_in_none}
use Rattle.spec_live.proofs.Readers.{place_past, place_known, list_changed, kind_changed, flags_changed, place_changed, vehicle_alike, fits_alike, length_moved, list_moved, place_moved, place_unmoved, kind_moved, fits_moved}

-- a longer table has the same chains
pub chain_wider : (n m : ℕ) (f : ℕ → Option ℕ) (s : Option ℕ) (xs : List ℕ) → n ≤ m → IsChain n f s xs → IsChain m f s xs
unfolding IsChain
chain_wider n m f s [] le h = h
chain_wider n m f s (x ∷ xs) le h = (h.0, omega (arith, h.1), chain_wider n m f (f x) xs le h.2)

up_alike : (es fs : List Entry) → length es ≤ length fs → ((x : ℕ) → place_in fs x ≡ place_in es x) → IsOrdered es → (d : ℕ) → d < length es → Ends (length fs) (place_in fs) (Some d)
unfolding Ends
up_alike es fs longer places c d k = ends_from (length fs) (place_in fs) (Some d) (walk (length es) (place_in es) (Some d))
    (chain_frame (length fs) (place_in es) (place_in fs) (Some d) (walk (length es) (place_in es) (Some d)) (λ x m. places x)
    (chain_wider (length es) (length fs) (place_in es) (Some d) (walk (length es) (place_in es) (Some d)) longer (c.up d k)))

pub up_alone : (fs : List Entry) (d : ℕ) → d < length fs → place_in fs d ≡ None → Ends (length fs) (place_in fs) (Some d)
unfolding IsChain
up_alone fs d lt e = ends_from (length fs) (place_in fs) (Some d) (d ∷ []) (refl, lt, e)

-- Two worlds with the same places and lists, where kinds changed only of what has no place and holds nothing.
pub ordered_alike : (es fs : List Entry) → length fs ≤ 100000 → length es ≤ length fs → ((x : ℕ) → place_in fs x ≡ place_in es x) → ((v : Bool) (p : ℕ) → list_in v fs p ≡ list_in v es p)
    → ((x : ℕ) → (place_in es x ≡ None) ⊎ (kind_in fs x ≡ kind_in es x)) → ((d p : ℕ) → place_in es d ≡ Some p → fits_in fs d p ≡ true) → kind_in fs 0 ≡ kind_in es 0
    → IsOrdered es → IsOrdered fs
ordered_alike es fs few longer places lists kinds fits zeroth c = record {
  stands = λ v p d m.
      let M : List ℕ → Type 0 = λ l. Member d l in
      let s : StandsIn es v p d = c.stands v p d (subst M (lists v p) m) in
      record { place = places d ∙ s.place; kind = elim (kinds d) [ inl e ↦ absurd (cc (e, s.place)) | inr e ↦ ap is_exit e ∙ s.kind ] };
  listed = λ v p d s.
      let M : List ℕ → Type 0 = λ l. Member d l in
      subst M (sym (lists v p)) (c.listed v p d (record { place = sym (places d) ∙ s.place; kind = elim (kinds d) [ inl e ↦ absurd (cc (e, places d, s.place)) | inr e ↦ ap is_exit (sym e) ∙ s.kind ] }));
  once = λ v p. let M : List ℕ → Type 0 = λ l. IsApart l in subst M (sym (lists v p)) (c.once v p);
  up = λ d lt. elim (cases_lt d (length es)) [ inl k ↦ up_alike es fs longer places c d k | inr k ↦ up_alone fs d lt (places d ∙ place_past es d k) ];
  kinds = λ d p h. fits d p (sym (places d) ∙ h);
  top = places 0 ∙ c.top;
  room = zeroth ∙ c.room;
  few = few;
}

-- a change of one object that keeps its kind and its place, and of flag V what wants it
pub ordered_kept : (es : List Entry) (n : ℕ) (f : Object → Object) → ((o : Object) → (f o).kind ≡ o.kind) → ((o : Object) → (f o).place ≡ o.place)
    → ((d p : ℕ) → place_in es d ≡ Some p → fits_in (changed_at n (on_object f) es) d p ≡ true) → IsOrdered es → IsOrdered (changed_at n (on_object f) es)
ordered_kept es n f kind place fits c =
    let same : length (changed_at n (on_object f) es) ≡ length es = length_changed es n (on_object f) in
    ordered_alike es (changed_at n (on_object f) es) (omega (arith, same, c.few)) (omega (arith, same)) (λ x. place_changed n x f es place) (λ v p. list_changed v n p f es)
    (λ x. inr (kind_changed n x f es kind)) fits (kind_changed n 0 f es kind) c

-- a change of one object that keeps its kind, its place and its flags
pub ordered_same : (es : List Entry) (n : ℕ) (f : Object → Object) → ((o : Object) → (f o).kind ≡ o.kind) → ((o : Object) → (f o).place ≡ o.place) → ((o : Object) → (f o).flags ≡ o.flags)
    → IsOrdered es → IsOrdered (changed_at n (on_object f) es)
ordered_same es n f kind place flags c = ordered_kept es n f kind place
    (λ d p h. fits_alike es (changed_at n (on_object f) es) d p (kind_changed n d f es kind) (kind_changed n p f es kind) (vehicle_alike es (changed_at n (on_object f) es) p (flags_changed n p f es flags)) ∙ c.kinds d p h) c

pub placed_same : (es : List Entry) (n : ℕ) (f : Object → Object) → ((o : Object) → (f o).kind ≡ o.kind) → ((o : Object) → (f o).place ≡ o.place)
    → IsPlaced es → IsPlaced (changed_at n (on_object f) es)
placed_same es n f kind place h = λ d none. elim (h d (sym (place_changed n d f es place) ∙ none)) [ inl q ↦ inl q | inr q ↦ inr (kind_changed n d f es kind ∙ q) ]

-- Garbage has no place, and is nobody's.

pub nobodys_place : (es : List Entry) → IsOrdered es → (n d : ℕ) → kind_in es n ≡ Garbage → place_in es d ≡ Some n → ⊥
unfolding fits_in
nobodys_place es c n d g h = none_in_garbage (kind_in es d) (is_vehicle_in es n) (let P : Kind → Type 0 = λ k. may_stand (kind_in es d) k (is_vehicle_in es n) ≡ true in subst P g (c.kinds d n h))

pub no_place : (es : List Entry) → IsOrdered es → (n : ℕ) → kind_in es n ≡ Garbage → place_in es n ≡ None
unfolding fits_in
no_place es c n g = by_cases (place_in es n) refl
  where
    by_cases : (o : Option ℕ) → place_in es n ≡ o → place_in es n ≡ None
    by_cases None e = e
    by_cases (Some p) e = absurd (garbage_in_none (kind_in es p) (is_vehicle_in es p) (let P : Kind → Type 0 = λ k. may_stand k (kind_in es p) (is_vehicle_in es p) ≡ true in subst P g (c.kinds n p e)))

-- a list has at most as many items as there are objects
pub list_short : (es : List Entry) (v : Bool) (k : ℕ) → IsOrdered es → length (list_in v es k) ≤ length es
list_short es v k c =
    length-le_from_distinct_below (list_in v es k) (length es) (apart_distinct (list_in v es k) (c.once v k))
    (λ q e. place_known es q k (c.stands v k q (member_any q (list_in v es k) e)).place)

-- Moving.

-- a chain in which d leads elsewhere, to a chain without d
pub chain_redirect : (n : ℕ) (f g : ℕ → Option ℕ) (d t : ℕ) (ts : List ℕ) → IsChain n f (Some t) ts → (Member d ts → ⊥) → g d ≡ Some t → ((x : ℕ) → (x ≡ d → ⊥) → g x ≡ f x)
    → (s : Option ℕ) (xs : List ℕ) → IsChain n f s xs → (ys : List ℕ) × IsChain n g s ys
unfolding IsChain
chain_redirect n f g d t ts above free here others s [] h = ([], h)
chain_redirect n f g d t ts above free here others s (x ∷ xs) h = elim (cases_eq x d) [
  | inl e ↦
      let P : Option ℕ → Type 0 = λ z. IsChain n g z ts in
      let rest : IsChain n g (g x) ts = subst P (sym (ap g e ∙ here)) (chain_frame n f g (Some t) ts (λ y m. others y (λ q. free (let M : ℕ → Type 0 = λ z. Member z ts in subst M q m))) above) in
      (x ∷ ts, (h.0, h.1, rest))
  | inr e ↦
      let k : (ys : List ℕ) × IsChain n g (f x) ys = chain_redirect n f g d t ts above free here others (f x) xs h.2 in
      let P : Option ℕ → Type 0 = λ z. IsChain n g z k.0 in
      (x ∷ k.0, (h.0, h.1, subst P (sym (others x e)) k.1))
]

up_moved : (es : List Entry) (d to : ℕ) → MayMove es d to → IsOrdered es → (x : ℕ) → x < length (moved d to es) → Ends (length (moved d to es)) (place_in (moved d to es)) (Some x)
unfolding Ends places_from
up_moved es d to may c x lt =
    let n : ℕ = length es in
    let k : (ys : List ℕ) × IsChain n (place_in (moved d to es)) (Some x) ys =
    chain_redirect n (place_in es) (place_in (moved d to es)) d to (walk n (place_in es) (Some to)) (c.up to may.place) may.free (place_moved es d to may.known) (λ y ne. place_unmoved es d to y ne)
    (Some x) (walk n (place_in es) (Some x)) (c.up x (omega (arith, length_moved es d to))) in
    let P : ℕ → Type 0 = λ m. Ends m (place_in (moved d to es)) (Some x) in
    subst P (sym (length_moved es d to)) (ends_from n (place_in (moved d to es)) (Some x) k.0 k.1)

pub ordered_moved : (es : List Entry) (d to : ℕ) → MayMove es d to → IsOrdered es → IsOrdered (moved d to es)
ordered_moved es d to may c =
    let w : Bool = is_exit (kind_in es d) in
    let new : List Entry = moved d to es in
    record {
      stands = λ v p x m.
          elim (put_member w to d v p x (without_number d (list_in v es p)) (rw (list_moved v es d to p may.place) at m)) [
            | inl q ↦ record {
              place = ap (λ z. place_in new z) q.0 ∙ place_moved es d to may.known ∙ ap (λ z. Some z) (sym q.2);
              kind = ap (λ z. is_exit z) (kind_moved es d to x) ∙ ap (λ z. is_exit (kind_in es z)) q.0 ∙ sym q.1;
            }
            | inr q ↦
                let other : x ≡ d → ⊥ = λ e. without_gone d (list_in v es p) (let M : ℕ → Type 0 = λ z. Member z (without_number d (list_in v es p)) in subst M e q) in
                let s : StandsIn es v p x = c.stands v p x (without_member d x (list_in v es p) q) in
                record { place = place_unmoved es d to x other ∙ s.place; kind = ap (λ z. is_exit z) (kind_moved es d to x) ∙ s.kind }
          ];
      listed = λ v p x s. rw (list_moved v es d to p may.place) (elim (cases_eq x d) [
        | inl e ↦
            let at_to : p ≡ to = cc (s.place, ap (λ z. place_in new z) e, place_moved es d to may.known) in
            let kind : v ≡ w = sym s.kind ∙ ap (λ z. is_exit z) (kind_moved es d to x) ∙ ap (λ z. is_exit (kind_in es z)) e in
            rw e (front_member w to d v p (without_number d (list_in v es p)) kind at_to)
        | inr e ↦
            member_put w to d v p x (without_number d (list_in v es p)) (member_without d x (list_in v es p) e
            (c.listed v p x (record { place = sym (place_unmoved es d to x e) ∙ s.place; kind = ap (λ z. is_exit z) (sym (kind_moved es d to x)) ∙ s.kind })))
      ]);
      once = λ v p. rw (list_moved v es d to p may.place) (apart_put w to d v p (without_number d (list_in v es p)) (without_gone d (list_in v es p)) (apart_without d (list_in v es p) (c.once v p)));
      up = up_moved es d to may c;
      kinds = λ x p h. rw (fits_moved es d to x p) (elim (cases_eq x d) [
        | inl e ↦
            let at_to : p ≡ to = cc (h, ap (λ z. place_in new z) e, place_moved es d to may.known) in
            rw (e, at_to) may.fits
        | inr e ↦ c.kinds x p (sym (place_unmoved es d to x e) ∙ h)
      ]);
      top = place_unmoved es d to 0 (λ e. may.lower (sym e)) ∙ c.top;
      room = kind_moved es d to 0 ∙ c.room;
      few = omega (arith, length_moved es d to, c.few);
    }

-- all is placed behind a move where only what moves had no place
pub placed_moved : (es : List Entry) (d to : ℕ) → d < length es → ((x : ℕ) → (x ≡ d → ⊥) → place_in es x ≡ None → (x ≡ 0) ⊎ (kind_in es x ≡ Garbage)) → IsPlaced (moved d to es)
placed_moved es d to known h = λ x none. elim (cases_eq x d) [
  | inl e ↦ absurd (cc (none, ap (λ z. place_in (moved d to es) z) e, place_moved es d to known))
  | inr e ↦ elim (h x e (sym (place_unmoved es d to x e) ∙ none)) [ inl q ↦ inl q | inr q ↦ inr (kind_moved es d to x ∙ q) ]
]
