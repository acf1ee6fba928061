-- The records of a consistent world agree with the kinds of what they name.
use Rattle.std.proofs.Common.{◌≡◌, ℕ, ◌<◌, ◌+◌, zero, suc, List, [], ◌∷◌, Option, Some, None, inl, inr, refl, sym, ◌∙◌, ap, subst, length, arith, Bool, true, false, map}
use Rattle.std.specs.Prelude.{not, ◌&&◌, nat_lt}
use Rattle.std.proofs.lemmas.Bool.{cases_eq, ne_eqb, eq-eqb, lt-ltb, or_right, false≢true}
use Rattle.std.specs.List.{slice_get}
use Rattle.std.specs.List.Sorted.{IsStrictlySortedBy}
use Rattle.muck_laws.proofs.Options.{or_none}
use Rattle.muck_laws.proofs.Truths.{all_five, all_three, either_way, one_of_three}
use Rattle.muck_model.specs.declared.dbref.Dbref.{Dbref}
use Rattle.muck_model.specs.declared.dbref.Kind.{Kind}
use Rattle.muck_model.specs.declared.dbref.Kind.TheVariants.{Thing, Player}
use Rattle.muck_model.proofs.Dbrefs.{same_eq}
use Rattle.muck_prop.proofs.Maps.{entries_are}
use Rattle.spec_live.specs.declared.object.Object.{Object}
use Rattle.spec_live.specs.declared.saving.Saving.TheVariants.{Due}
use Rattle.spec_live.specs.Chain.{Member, follower}
use Rattle.spec_live.specs.Objects.{Entry, dbref_of, index_of, nothing, home, same, is_room, is_exit, is_player, is_garbage, garbage, may_stand, entry_list, list_in, kind_in, place_in, is_vehicle_in, fits_in}
use Rattle.spec_live.specs.Setting.{may_link, may_live}
use Rattle.spec_live.specs.Consistent.{HasOwner, HasLink, HasHome, IsTied, IsOrdered, IsConsistent}
use Rattle.spec_live.proofs.Readers.{place_known}
use Rattle.muck_codec.specs.declared.stored.Stored.{Stored}
use Rattle.muck_codec.specs.declared.stored.Property.{Property}
use Rattle.muck_store.specs.Forms.{property_of, properties_of, link_to_number, first_in_list, next_in, stored_of, stored_from, persist}
use Rattle.muck_store.specs.Whole.{stored_kind, seats_in, leads_to, may_name, has_chains, has_owner, has_place, record_has_link, home_for, is_blank_record, agrees_with_records, all_tied}
use Rattle.muck_store.proofs.MetLists.{none_member}
use Rattle.muck_store.proofs.StoredForms.{length_persist, object_at_entry, kind_there, place_there, list_there, kind_persist, seats_persist, no_next, next_listed, number_is}
use Rattle.muck_store.proofs.StoredTree.{holder_alive}

-- Tests that hold together.

-- What leads to the number of an object.

leads : (test : ℕ → Bool) (d : Dbref) (n : ℕ) → d ≡ dbref_of n → test n ≡ true → leads_to test d ≡ true
leads test d n e h = ap (λ (z : Dbref). leads_to test z) e ∙ h

leads_nowhere : (d : Dbref) → index_of d ≡ None → not (leads_to (λ n. true) d) ≡ true
leads_nowhere d h = rw h refl

name_first : (os : List Stored) (xs : List ℕ) → ((d : ℕ) → Member d xs → d < length os) → may_name os (first_in_list xs) ≡ true
unfolding Member
name_first os [] below = refl
name_first os (x ∷ xs) below = or_right (same (dbref_of x) nothing) (nat_lt x (length os)) (lt-ltb x (length os) (below x (inl refl)))

name_link : (os : List Stored) (o : Option ℕ) → ((n : ℕ) → o ≡ Some n → n < length os) → may_name os (link_to_number o) ≡ true
name_link os None below = refl
name_link os (Some n) below = or_right (same (dbref_of n) nothing) (nat_lt n (length os)) (lt-ltb n (length os) (below n refl))

-- Owner, link and home.

owner_persist : (es : List Entry) (k : ℕ) (e : Entry) → HasOwner es e.object → has_owner (persist es) (stored_of es k e) ≡ true
unfolding stored_of
owner_persist es k e h = leads (λ n. is_player (stored_kind (persist es) n)) e.object.owner h.0 h.1 (ap (λ z. is_player z) (kind_persist es h.0) ∙ h.2)

link_persist : (es : List Entry) (k : ℕ) (e : Entry) → HasLink es e.object → record_has_link (persist es) (stored_of es k e) ≡ true
unfolding stored_of
link_persist es k e h =
    let o : Object = e.object in
    one_of_three (same o.link nothing) (is_exit o.kind && same o.link home) (leads_to (λ n. may_link o.kind (stored_kind (persist es) n)) o.link) (elim h [
      | inl a ↦ inl (same_eq o.link nothing a)
      | inr b ↦ inr (elim b [
        | inl a ↦ inl (rw (ap (λ z. is_exit z) a.0) (same_eq o.link home a.1))
        | inr a ↦ inr (leads (λ n. may_link o.kind (stored_kind (persist es) n)) o.link a.0 a.1 (ap (λ z. may_link o.kind z) (kind_persist es a.0) ∙ a.2))
      ])
    ])

home_by : (es : List Entry) (k : Kind) (o : Object) (s : Stored) → s.kind ≡ k → s.home ≡ o.home → HasHome es (record o { kind = k }) → home_for k (persist es) s ≡ true
home_by es Thing o s a b h = leads (λ n. may_live s.kind (stored_kind (persist es) n)) s.home h.0 (b ∙ h.1) (ap (λ z. may_live z (stored_kind (persist es) h.0)) a ∙ ap (λ z. may_live Thing z) (kind_persist es h.0) ∙ h.2)
home_by es Player o s a b h = leads (λ n. may_live s.kind (stored_kind (persist es) n)) s.home h.0 (b ∙ h.1) (ap (λ z. may_live z (stored_kind (persist es) h.0)) a ∙ ap (λ z. may_live Player z) (kind_persist es h.0) ∙ h.2)
home_by es k o s a b h = same_eq s.home nothing (b ∙ h)

home_persist : (es : List Entry) (k : ℕ) (e : Entry) → HasHome es e.object → home_for e.object.kind (persist es) (stored_of es k e) ≡ true
unfolding stored_of
home_persist es k e h = home_by es e.object.kind e.object (stored_of es k e) refl refl h

-- Place.

place_persist : (es : List Entry) → IsConsistent es → (k : ℕ) (e : Entry) → slice_get es k ≡ Some e → is_garbage e.object.kind ≡ false → has_place (persist es) k (stored_of es k e) ≡ true
unfolding stored_of fits_in
place_persist es c zero e at alive =
    all_three (is_room e.object.kind) (not (leads_to (λ n. true) e.object.place)) (same (link_to_number (next_in es 0)) nothing) (ap (λ z. is_room z) (sym (kind_there es 0 e at) ∙ c.ordered.room))
    (leads_nowhere e.object.place (sym (place_there es 0 e at) ∙ c.ordered.top)) (ap (λ (z : Option ℕ). same (link_to_number z) nothing) (no_next es 0 c.ordered.top))
place_persist es c (suc k) e at alive = elim (or_none (place_in es (suc k))) [
  | inl none ↦ absurd (elim (c.placed (suc k) none) [
    | inl z ↦ omega (arith, z)
    | inr g ↦ false≢true (sym alive ∙ ap (λ z. is_garbage z) (sym (kind_there es (suc k) e at) ∙ g))
  ])
  | inr s ↦
      let kind : Kind = e.object.kind in
      let os : List Stored = persist es in
      leads (λ p. may_stand kind (stored_kind os p) (seats_in os p)) e.object.place s.0 (number_is e.object.place s.0 (sym (place_there es (suc k) e at) ∙ s.1))
      (ap (λ z. may_stand kind z (seats_in os s.0)) (kind_persist es s.0) ∙ ap (λ z. may_stand kind (kind_in es s.0) z) (seats_persist es s.0)
      ∙ ap (λ z. may_stand z (kind_in es s.0) (is_vehicle_in es s.0)) (sym (kind_there es (suc k) e at)) ∙ c.ordered.kinds (suc k) s.0 s.1)
]

-- Where lists begin and go on.

follower_member : (d : ℕ) (xs : List ℕ) (n : ℕ) → follower d xs ≡ Some n → Member n xs
unfolding follower Member
follower_member d [] n h = absurd (cc (h))
follower_member d (x ∷ []) n h = elim (cases_eq x d) [
  | inl e ↦ let none = rw (eq-eqb x d e) at h in absurd (cc (none))
  | inr e ↦ let none = rw (ne_eqb x d e) at h in absurd (cc (none))
]
follower_member d (x ∷ y ∷ ys) n h = elim (cases_eq x d) [
  | inl e ↦ let some : Some y ≡ Some n = rw (eq-eqb x d e) at h in let same : n ≡ y = cc (some) in inr (inl same)
  | inr e ↦ let rest : follower d (y ∷ ys) ≡ Some n = rw (ne_eqb x d e) at h in inr (follower_member d (y ∷ ys) n rest)
]

next_known : (es : List Entry) → IsOrdered es → (k n : ℕ) → next_in es k ≡ Some n → n < length es
next_known es c k n h = elim (or_none (place_in es k)) [
  | inl none ↦ let gone = no_next es k none in absurd (cc (h, gone))
  | inr s ↦
      let v : Bool = is_exit (kind_in es k) in
      let to = next_listed es v s.0 k (record { place = s.1; kind = refl }) in
      place_known es n s.0 (c.stands v s.0 n (follower_member k (list_in v es s.0) n (sym to ∙ h))).place
]

list_known : (es : List Entry) → IsOrdered es → (v : Bool) (k : ℕ) (e : Entry) → slice_get es k ≡ Some e → (d : ℕ) → Member d (entry_list v e) → d < length (persist es)
list_known es c v k e at d m =
    let P : List ℕ → Type 0 = λ l. Member d l in
    let known = place_known es d k (c.stands v k d (subst P (sym (list_there es v k e at)) m)).place in
    let same = length_persist es in
    omega (arith, known, same)

chains_persist : (es : List Entry) → IsOrdered es → (k : ℕ) (e : Entry) → slice_get es k ≡ Some e → has_chains (persist es) (stored_of es k e) ≡ true
unfolding stored_of
chains_persist es c k e at =
    all_three (may_name (persist es) (first_in_list e.contents)) (may_name (persist es) (first_in_list e.exits)) (may_name (persist es) (link_to_number (next_in es k))) (name_first (persist es) e.contents (list_known es c false k e at))
    (name_first (persist es) e.exits (list_known es c true k e at))
    (name_link (persist es) (next_in es k) (λ n h. let known = next_known es c k n h in let same = length_persist es in omega (arith, known, same)))

-- Garbage.

-- what is stored of an object with these lists, behind which this one stands
abbrev form : ℕ → Object → List ℕ → List ℕ → Option ℕ → Stored
form k o contents exits next = record (stored_of [] k (record { object = o; contents = contents; exits = exits; mark = None; saving = Due; stood = None })) { next = link_to_number next }

no_properties : properties_of garbage.props ≡ []
unfolding garbage IsStrictlySortedBy
no_properties = ap (map property_of) (entries_are [] tt)

blank_form : (k : ℕ) (o : Object) (xs ys : List ℕ) (next : Option ℕ) → o ≡ garbage → xs ≡ [] → ys ≡ [] → next ≡ None → is_blank_record (form k o xs ys next) ≡ true
unfolding garbage stored_of
blank_form k o xs ys next a b c d =
    ap (λ (z : Object). is_blank_record (form k z xs ys next)) a ∙ ap (λ (z : List ℕ). is_blank_record (form k garbage z ys next)) b ∙ ap (λ (z : List ℕ). is_blank_record (form k garbage [] z next)) c
    ∙ ap (λ (z : Option ℕ). is_blank_record (form k garbage [] [] z)) d ∙ ap (λ (z : List Property). is_blank_record (record (form k garbage [] [] None) { props = z })) no_properties

no_list : (es : List Entry) → IsOrdered es → (v : Bool) (k : ℕ) (e : Entry) → slice_get es k ≡ Some e → is_garbage e.object.kind ≡ true → entry_list v e ≡ []
no_list es c v k e at g =
    sym (list_there es v k e at) ∙ none_member (list_in v es k) (λ d m. false≢true (sym (holder_alive es c d k (c.stands v k d m).place) ∙ ap (λ z. is_garbage z) (kind_there es k e at) ∙ g))

blank_persist : (es : List Entry) → IsConsistent es → (k : ℕ) (e : Entry) → slice_get es k ≡ Some e → is_garbage e.object.kind ≡ true → is_blank_record (stored_of es k e) ≡ true
unfolding stored_of garbage
blank_persist es c k e at g =
    let blank : e.object ≡ garbage = c.blank k e.object (object_at_entry es k e at) g in
    let nowhere : place_in es k ≡ None = place_there es k e at ∙ ap (λ (z : Object). index_of z.place) blank in
    blank_form k e.object e.contents e.exits (next_in es k) blank (no_list es c.ordered false k e at g) (no_list es c.ordered true k e at g) (no_next es k nowhere)

-- All records.

kind_of_form : (es : List Entry) (k : ℕ) (e : Entry) → (stored_of es k e).kind ≡ e.object.kind
unfolding stored_of
kind_of_form es k e = refl

tied_at : (es : List Entry) → IsConsistent es → (k : ℕ) (e : Entry) → slice_get es k ≡ Some e → agrees_with_records (persist es) k (stored_of es k e) ≡ true
tied_at es c k e at =
    let s : Stored = stored_of es k e in
    let os : List Stored = persist es in
    let tied : IsTied es e.object = c.tied k e.object (object_at_entry es k e at) in
    let kind : s.kind ≡ e.object.kind = kind_of_form es k e in
    either_way (is_garbage s.kind) (is_blank_record s) (has_owner os s && has_place os k s && record_has_link os s && home_for s.kind os s && has_chains os s)
    (λ g. blank_persist es c k e at (ap (λ z. is_garbage z) (sym kind) ∙ g))
    (λ g. all_five (has_owner os s) (has_place os k s) (record_has_link os s) (home_for s.kind os s) (has_chains os s) (owner_persist es k e tied.owner)
    (place_persist es c k e at (ap (λ z. is_garbage z) (sym kind) ∙ g)) (link_persist es k e tied.link)
    (ap (λ z. home_for z os s) kind ∙ home_persist es k e tied.home) (chains_persist es c.ordered k e at))

numbered : (es : List Entry) (k : ℕ) (e : Entry) → (stored_of es k e).dbref ≡ dbref_of k
unfolding stored_of
numbered es k e = refl

tied_from : (es : List Entry) → IsConsistent es → (k : ℕ) (rest : List Entry) → ((i j : ℕ) (e : Entry) → k + i ≡ j → slice_get rest i ≡ Some e → slice_get es j ≡ Some e) → all_tied (persist es) k (stored_from es k rest) ≡ true
unfolding all_tied stored_from
tied_from es c k [] there = refl
tied_from es c k (e ∷ rest) there =
    all_three (same (stored_of es k e).dbref (dbref_of k)) (agrees_with_records (persist es) k (stored_of es k e)) (all_tied (persist es) (suc k) (stored_from es (suc k) rest)) (same_eq (stored_of es k e).dbref (dbref_of k) (numbered es k e))
    (tied_at es c k e (there 0 k e (omega arith) refl)) (tied_from es c (suc k) rest (λ i j x h g. there (suc i) j x (omega arith) g))

-- what is at a number of the list
itself : (es : List Entry) (i j : ℕ) (e : Entry) → 0 + i ≡ j → slice_get es i ≡ Some e → slice_get es j ≡ Some e
itself es i j e h g = let same : j ≡ i = omega arith in ap (λ (z : ℕ). slice_get es z) same ∙ g

persist_from : (es : List Entry) → persist es ≡ stored_from es 0 es
unfolding persist
persist_from es = refl

pub tied_persist : (es : List Entry) → IsConsistent es → all_tied (persist es) 0 (persist es) ≡ true
tied_persist es c = ap (λ (l : List Stored). all_tied (persist es) 0 l) (persist_from es) ∙ tied_from es c 0 es (itself es)
