-- Owners, links and homes after a change.
use Rattle.std.proofs.Common.{◌≡◌, ℕ, List, Option, Some, None, inl, inr, refl, sym, ◌∙◌, ap, subst, length, arith, Bool, true, false}
use Rattle.std.proofs.lemmas.Bool.{cases_eq, false≢true}
use Rattle.std.specs.Option.{option_map}
use Rattle.muck_model.specs.declared.dbref.Kind.{Kind}
use Rattle.muck_model.specs.declared.dbref.Kind.TheVariants.{Thing, Player}
use Rattle.spec_live.specs.declared.object.Object.{Object}
use Rattle.spec_live.specs.Objects.{Entry, dbref_of, is_player, is_garbage, garbage, object_in, kind_in, list_in, fits_in, changed_at, on_object}
use Rattle.spec_live.specs.Moving.{with_place, moved}
use Rattle.spec_live.specs.Setting.{may_link, may_live}
use Rattle.spec_live.specs.Consistent.{HasOwner, HasLink, HasHome, IsTied, IsOrdered, IsPlaced, IsConsistent, MayMove}
use Rattle.spec_live.proofs.KindLaws.{standing_alive}
use Rattle.spec_live.proofs.Orders.{ordered_alike, ordered_same, placed_same, ordered_moved, placed_moved}
use Rattle.spec_live.proofs.Readers.{kind_alike, place_alike, flags_alike, vehicle_alike, fits_alike, kind_is, kind_changed, kind_moved, object_changed, object_unchanged, object_moved, object_unmoved}

-- the fields that ties speak of
pub record SameTies (o p : Object) : Type 0 where
  pub kind : p.kind ≡ o.kind
  pub owner : p.owner ≡ o.owner
  pub link : p.link ≡ o.link
  pub home : p.home ≡ o.home

pub owner_alike : (es fs : List Entry) (o p : Object) → p.owner ≡ o.owner → ((n : ℕ) → o.owner ≡ dbref_of n → is_player (kind_in es n) ≡ true → is_player (kind_in fs n) ≡ true) → HasOwner es o → HasOwner fs p
owner_alike es fs o p e keep h = (h.0, e ∙ h.1, keep h.0 h.1 h.2)

pub link_alike : (es fs : List Entry) (o p : Object) → p.kind ≡ o.kind → p.link ≡ o.link → ((n : ℕ) → o.link ≡ dbref_of n → may_link o.kind (kind_in es n) ≡ true → may_link o.kind (kind_in fs n) ≡ true) → HasLink es o → HasLink fs p
link_alike es fs o p k e keep h = elim h [
  | inl a ↦ inl (e ∙ a)
  | inr b ↦ elim b [
    | inl a ↦ inr (inl (k ∙ a.0, e ∙ a.1))
    | inr a ↦ inr (inr (a.0, e ∙ a.1, ap (λ z. may_link z (kind_in fs a.0)) k ∙ keep a.0 a.1 a.2))
  ]
]

home_by : (es fs : List Entry) (o p : Object) (k : Kind) → p.home ≡ o.home → ((n : ℕ) → o.home ≡ dbref_of n → may_live k (kind_in es n) ≡ true → may_live k (kind_in fs n) ≡ true)
    → HasHome es (record o { kind = k }) → HasHome fs (record p { kind = k })
home_by es fs o p Thing e keep h = (h.0, e ∙ h.1, keep h.0 h.1 h.2)
home_by es fs o p Player e keep h = (h.0, e ∙ h.1, keep h.0 h.1 h.2)
home_by es fs o p k e keep h = e ∙ h

pub home_alike : (es fs : List Entry) (o p : Object) → p.kind ≡ o.kind → p.home ≡ o.home → ((n : ℕ) → o.home ≡ dbref_of n → may_live o.kind (kind_in es n) ≡ true → may_live o.kind (kind_in fs n) ≡ true) → HasHome es o → HasHome fs p
home_alike es fs o p k e keep h = let P : Kind → Type 0 = λ z. HasHome fs (record p { kind = z }) in subst P (sym k) (home_by es fs o p o.kind e keep h)

pub tied_alike : (es fs : List Entry) (o p : Object) → SameTies o p → ((n : ℕ) → o.owner ≡ dbref_of n → is_player (kind_in es n) ≡ true → is_player (kind_in fs n) ≡ true)
    → ((n : ℕ) → o.link ≡ dbref_of n → may_link o.kind (kind_in es n) ≡ true → may_link o.kind (kind_in fs n) ≡ true)
    → ((n : ℕ) → o.home ≡ dbref_of n → may_live o.kind (kind_in es n) ≡ true → may_live o.kind (kind_in fs n) ≡ true)
    → IsTied es o → IsTied fs p
tied_alike es fs o p s owners links homes t = record {
  owner = owner_alike es fs o p s.owner owners t.owner;
  link = link_alike es fs o p s.kind s.link links t.link;
  home = home_alike es fs o p s.kind s.home homes t.home;
}

-- where kinds are as they were
pub tied_same : (es fs : List Entry) (o p : Object) → SameTies o p → ((n : ℕ) → kind_in fs n ≡ kind_in es n) → IsTied es o → IsTied fs p
tied_same es fs o p s kinds t =
    tied_alike es fs o p s (λ n e h. ap (λ k. is_player k) (kinds n) ∙ h) (λ n e h. ap (λ k. may_link o.kind k) (kinds n) ∙ h) (λ n e h. ap (λ k. may_live o.kind k) (kinds n) ∙ h) t

-- What an object was before it was changed.

pub mapped : (f : Object → Object) (a : Option Object) (p : Object) → option_map f a ≡ Some p → (o : Object) × (a ≡ Some o) × (p ≡ f o)
mapped f None p h = absurd (cc (h))
mapped f (Some o) p h = (o, refl, cc (h))

pub changed_from : (es : List Entry) (n : ℕ) (f : Object → Object) (p : Object) → object_in (changed_at n (on_object f) es) n ≡ Some p → (o : Object) × (object_in es n ≡ Some o) × (p ≡ f o)
changed_from es n f p h = mapped f (object_in es n) p (sym (object_changed n f es) ∙ h)

-- One object changes, keeping its kind and its place, and with flags and ties that may be.
pub consistent_kept : (es : List Entry) (n : ℕ) (f : Object → Object) → ((o : Object) → (f o).kind ≡ o.kind) → ((o : Object) → (f o).place ≡ o.place) → is_garbage (kind_in es n) ≡ false
    → IsOrdered (changed_at n (on_object f) es) → ((o : Object) → object_in es n ≡ Some o → IsTied es o → IsTied es (f o)) → IsConsistent es → IsConsistent (changed_at n (on_object f) es)
consistent_kept es n f kind place alive ordered ties c =
    let new : List Entry = changed_at n (on_object f) es in
    let kinds : (k : ℕ) → kind_in new k ≡ kind_in es k = λ k. kind_changed n k f es kind in
    record {
      ordered = ordered;
      placed = placed_same es n f kind place c.placed;
      tied = λ k p h. elim (cases_eq k n) [
        | inl e ↦
            let was : (o : Object) × (object_in es n ≡ Some o) × (p ≡ f o) = changed_from es n f p (sym (ap (λ z. object_in new z) e) ∙ h) in
            let T : Object → Type 0 = λ z. IsTied new z in
            subst T (sym was.2) (tied_same es new (f was.0) (f was.0) (record { kind = refl; owner = refl; link = refl; home = refl }) kinds (ties was.0 was.1 (c.tied n was.0 was.1)))
        | inr e ↦ tied_same es new p p (record { kind = refl; owner = refl; link = refl; home = refl }) kinds (c.tied k p (sym (object_unchanged n k f es e) ∙ h))
      ];
      blank = λ k p h g. elim (cases_eq k n) [
        | inl e ↦
            let was : (o : Object) × (object_in es n ≡ Some o) × (p ≡ f o) = changed_from es n f p (sym (ap (λ z. object_in new z) e) ∙ h) in
            absurd (false≢true (sym alive ∙ ap (λ z. is_garbage z) (kind_is es n was.0 was.1 ∙ sym (kind was.0) ∙ ap (λ z. z.kind) (sym was.2)) ∙ g))
        | inr e ↦ c.blank k p (sym (object_unchanged n k f es e) ∙ h) g
      ];
      first = kinds 1 ∙ c.first;
    }

-- the same where its flags and its ties stay too
pub consistent_same : (es : List Entry) (n : ℕ) (f : Object → Object) → ((o : Object) → SameTies o (f o)) → ((o : Object) → (f o).place ≡ o.place) → ((o : Object) → (f o).flags ≡ o.flags) → is_garbage (kind_in es n) ≡ false
    → IsConsistent es → IsConsistent (changed_at n (on_object f) es)
consistent_same es n f ties place flags alive c =
    consistent_kept es n f (λ o. (ties o).kind) place alive (ordered_same es n f (λ o. (ties o).kind) place flags c.ordered) (λ o h t. tied_same es es o (f o) (ties o) (λ k. refl) t) c

-- Moving keeps a world consistent.

pub moved_from : (es : List Entry) (d to k : ℕ) (p : Object) → object_in (moved d to es) k ≡ Some p → (o : Object) × (object_in es k ≡ Some o) × SameTies o p
moved_from es d to k p h = elim (cases_eq k d) [
  | inl e ↦
      let was : (o : Object) × (object_in es d ≡ Some o) × (p ≡ with_place to o) = mapped (with_place to) (object_in es d) p (sym (object_moved es d to) ∙ sym (ap (λ z. object_in (moved d to es) z) e) ∙ h) in
      (was.0, ap (λ z. object_in es z) e ∙ was.1, record { kind = ap (λ z. z.kind) was.2; owner = ap (λ z. z.owner) was.2; link = ap (λ z. z.link) was.2; home = ap (λ z. z.home) was.2 })
  | inr e ↦ (p, sym (object_unmoved es d to k e) ∙ h, record { kind = refl; owner = refl; link = refl; home = refl })
]

pub mover_alive : (es : List Entry) (d to : ℕ) → MayMove es d to → is_garbage (kind_in es d) ≡ false
unfolding fits_in
mover_alive es d to may = standing_alive (kind_in es d) (kind_in es to) _ may.fits

-- what holds of the objects beside their lists and places
pub record IsTidy (es : List Entry) : Type 0 where
  pub tied : (k : ℕ) (o : Object) → object_in es k ≡ Some o → IsTied es o
  pub blank : (k : ℕ) (o : Object) → object_in es k ≡ Some o → is_garbage o.kind ≡ true → o ≡ garbage
  pub first : kind_in es 1 ≡ Player

pub consistent_tidy : (es : List Entry) → IsConsistent es → IsTidy es
consistent_tidy es c = record { tied = c.tied; blank = c.blank; first = c.first }

pub consistent_from : (es : List Entry) → IsOrdered es → IsPlaced es → IsTidy es → IsConsistent es
consistent_from es c p t = record { ordered = c; placed = p; tied = t.tied; blank = t.blank; first = t.first }

pub tidy_moved : (es : List Entry) (d to : ℕ) → MayMove es d to → IsTidy es → IsTidy (moved d to es)
tidy_moved es d to may c = record {
  tied = λ k p h.
      let was : (o : Object) × (object_in es k ≡ Some o) × SameTies o p = moved_from es d to k p h in
      tied_same es (moved d to es) was.0 p was.2 (λ n. kind_moved es d to n) (c.tied k was.0 was.1);
  blank = λ k p h g. elim (cases_eq k d) [
    | inl e ↦ absurd (false≢true (sym (mover_alive es d to may) ∙ ap (λ z. is_garbage (kind_in es z)) (sym e) ∙ ap (λ z. is_garbage z) (sym (kind_moved es d to k) ∙ kind_is (moved d to es) k p h) ∙ g))
    | inr e ↦ c.blank k p (sym (object_unmoved es d to k e) ∙ h) g
  ];
  first = kind_moved es d to 1 ∙ c.first;
}

pub consistent_moved : (es : List Entry) (d to : ℕ) → MayMove es d to → IsConsistent es → IsConsistent (moved d to es)
consistent_moved es d to may c =
    consistent_from (moved d to es) (ordered_moved es d to may c.ordered) (placed_moved es d to may.known (λ x ne none. c.placed x none)) (tidy_moved es d to may (consistent_tidy es c))

pub garbage_tied : (es : List Entry) → kind_in es 1 ≡ Player → IsTied es garbage
unfolding garbage
garbage_tied es first = record { owner = (1, refl, ap (λ k. is_player k) first); link = inl refl; home = refl }

-- Two lists of entries with the same objects and lists, whose marks may differ.

seen_ordered : (es fs : List Entry) → length fs ≡ length es → ((k : ℕ) → object_in fs k ≡ object_in es k) → ((v : Bool) (k : ℕ) → list_in v fs k ≡ list_in v es k) → IsOrdered es → IsOrdered fs
seen_ordered es fs same objects lists c =
    ordered_alike es fs (omega (arith, same, c.few)) (omega (arith, same)) (λ x. place_alike es fs x (objects x)) lists (λ x. inr (kind_alike es fs x (objects x)))
    (λ d p h. fits_alike es fs d p (kind_alike es fs d (objects d)) (kind_alike es fs p (objects p)) (vehicle_alike es fs p (flags_alike es fs p (objects p))) ∙ c.kinds d p h) (kind_alike es fs 0 (objects 0)) c

pub consistent_seen : (es fs : List Entry) → length fs ≡ length es → ((k : ℕ) → object_in fs k ≡ object_in es k) → ((v : Bool) (k : ℕ) → list_in v fs k ≡ list_in v es k) → IsConsistent es → IsConsistent fs
consistent_seen es fs same objects lists c = record {
  ordered = seen_ordered es fs same objects lists c.ordered;
  placed = λ d none. elim (c.placed d (sym (place_alike es fs d (objects d)) ∙ none)) [ inl q ↦ inl q | inr q ↦ inr (kind_alike es fs d (objects d) ∙ q) ];
  tied = λ k o h. tied_same es fs o o (record { kind = refl; owner = refl; link = refl; home = refl }) (λ n. kind_alike es fs n (objects n)) (c.tied k o (sym (objects k) ∙ h));
  blank = λ k o h g. c.blank k o (sym (objects k) ∙ h) g;
  first = kind_alike es fs 1 (objects 1) ∙ c.first;
}
