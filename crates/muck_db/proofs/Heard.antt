-- The places of what listens are noted.
use Rattle.std.proofs.Common.{◌≡◌, ◌⊎◌, ℕ, ◌++◌, ◌||◌, List, [], ◌∷◌, Option, Some, None, inl, inr, refl, sym, ◌∙◌, ap, subst, length, map, Bool, true, false, cond}
use Rattle.std.proofs.lemmas.Bool.{cases_eq, false≢true}
use Rattle.std.proofs.lemmas.Option.{same_Some}
use Rattle.std.specs.List.{slice_get, slice_set, list_any}
use Rattle.std.specs.Option.{option_map, option_map_or, option_and_then}
use Rattle.muck_laws.proofs.Places.{get_elsewhere, get_more}
use Rattle.muck_laws.proofs.Truths.{whether}
use Rattle.muck_model.specs.declared.dbref.Dbref.{Dbref}
use Rattle.muck_prop.specs.Store.{is_dir}
use Rattle.spec_live.specs.declared.object.Object.{Object}
use Rattle.spec_live.specs.Chain.{Member}
use Rattle.spec_live.specs.Consistent.{IsOrdered, StandsIn}
use Rattle.spec_live.specs.Objects.{Entry, dbref_of, index_of, is_garbage, kind_in, number_in, object_in, list_in, object_at as seen_at}
use Rattle.spec_live.specs.Seen.{listed_in}
use Rattle.muck_db.specs.declared.slot.Slot.{Slot}
use Rattle.muck_db.specs.declared.hearing.Hearers.{Hearers}
use Rattle.muck_db.specs.declared.ties.Tied.{Tied}
use Rattle.muck_db.specs.inner.Slots.{shown, object_at, place_at, entries_of}
use Rattle.muck_db.specs.inner.Ties.{Notes}
use Rattle.muck_db.specs.inner.Hearing.{listen_path, has_listeners, listens, IsPlaceNoted, AreHeard, IsUnheard}
use Rattle.muck_db.proofs.Bridge.{listed_some}
use Rattle.muck_db.proofs.Readers.{object_in-entries_of, place_in-entries_of}

pub heard_nothing : (h : Hearers) → h.listen ≡ listen_path → AreHeard h []
heard_nothing h is = record { path = is; noted = λ k s at heard. absurd (cc at) }

-- what was written last is looked at, and another one is written
pub heard_looked : (old new : Hearers) (slots : List Slot) (k : ℕ) → new.listen ≡ old.listen → new.last ≡ Some k → ((p : ℕ) → Notes old.places p → Notes new.places p)
    → ((j : ℕ) (s : Slot) → old.last ≡ Some j → (j ≡ k → ⊥) → slice_get slots j ≡ Some s → is_dir old.listen (shown s).props ≡ true → IsPlaceNoted new.places s) → AreHeard old slots → AreHeard new slots
heard_looked old new slots k path last others looked h = record {
  path = path ∙ h.path;
  noted = λ j s at heard. elim (cases_eq j k) [
    | inl e ↦ inl (last ∙ ap Some (sym e))
    | inr ne ↦ inr (elim (h.noted j s at heard) [
      | inl q ↦ looked j s q ne at (ap (λ (l : List (List ℕ)). is_dir l (shown s).props) h.path ∙ heard)
      | inr q ↦ λ p is. others p (q p is)
    ])
  ];
}

pub heard_written : (h : Hearers) (slots : List Slot) (k : ℕ) (w : Slot) → h.last ≡ Some k → AreHeard h slots → AreHeard h (slice_set slots k w)
heard_written h slots k w last known = record {
  path = known.path;
  noted = λ j s at heard. elim (cases_eq j k) [
    | inl e ↦ inl (last ∙ ap Some (sym e))
    | inr ne ↦ known.noted j s (sym (get_elsewhere slots k j w ne) ∙ at) heard
  ];
}

pub heard_pushed : (h : Hearers) (slots : List Slot) (k : ℕ) (w : Slot) → h.last ≡ Some k → k ≡ length slots → AreHeard h slots → AreHeard h (slots ++ w ∷ [])
heard_pushed h slots k w last many known = record {
  path = known.path;
  noted = λ j s at heard. elim (cases_eq j (length slots)) [
    | inl e ↦ inl (last ∙ ap Some (many ∙ sym e))
    | inr ne ↦ known.noted j s (sym (get_more slots w j ne) ∙ at) heard
  ];
}

pub heard_grown : (h : Hearers) (old new : List Slot) (k : ℕ) (w : Slot) → new ≡ old ++ w ∷ [] → h.last ≡ Some k → k ≡ length old → AreHeard h old → AreHeard h new
heard_grown h old new k w is last many known = subst (AreHeard h) (sym is) (heard_pushed h old k w last many known)

pub heard_same : (h : Hearers) (old new : List Slot) → new ≡ old → AreHeard h old → AreHeard h new
heard_same h old new is known = subst (AreHeard h) (sym is) known

pub heard_elsewhere : (h : Hearers) (slots : List Slot) (p : ℕ) → (Notes h.places p → ⊥)
    → ((j : ℕ) (s : Slot) → h.last ≡ Some j → slice_get slots j ≡ Some s → is_dir h.listen (shown s).props ≡ true → index_of (shown s).place ≡ Some p → ⊥) → AreHeard h slots → IsUnheard p slots
heard_elsewhere h slots p lacks last known k s at heard is = elim (known.noted k s at heard) [
  | inl q ↦ last k s q at (ap (λ (l : List (List ℕ)). is_dir l (shown s).props) known.path ∙ heard) is
  | inr q ↦ lacks (q p is)
]

-- Nothing that is listed in such a place listens.

none_heard : (f : Dbref → Bool) (xs : List ℕ) → ((n : ℕ) → Member n xs → f (dbref_of n) ≡ false) → list_any f (map dbref_of xs) ≡ false
unfolding Member
none_heard f [] h = refl
none_heard f (x ∷ xs) h = ap (λ b. b || list_any f (map dbref_of xs)) (h x (inl refl)) ∙ none_heard f xs (λ n m. h n (inr m))

-- an object behind a number
seen_slot : (slots : List Slot) (n : ℕ) (o : Object) → seen_at (dbref_of n) (entries_of slots) ≡ Some o → (s : Slot) × (slice_get slots n ≡ Some s) × (shown s ≡ o)
unfolding seen_at number_in object_at
seen_slot slots n o h = by_life (is_garbage (kind_in (entries_of slots) n)) h
  where
    by_slot : (q : Option Slot) → slice_get slots n ≡ q → option_map shown q ≡ Some o → (s : Slot) × (slice_get slots n ≡ Some s) × (shown s ≡ o)
    by_slot None e is = absurd (cc is)
    by_slot (Some s) e is = (s, e, same_Some (shown s) o is)

    by_life : (b : Bool) → option_and_then (object_in (entries_of slots)) (cond b None (Some n)) ≡ Some o → (s : Slot) × (slice_get slots n ≡ Some s) × (shown s ≡ o)
    by_life true is = absurd (cc is)
    by_life false is = by_slot (slice_get slots n) refl (sym (object_in-entries_of slots n) ∙ is)

unheard_at : (slots : List Slot) (p n : ℕ) → place_at slots n ≡ Some p → IsUnheard p slots → listens (entries_of slots) (dbref_of n) ≡ false
unfolding listens place_at object_at
unheard_at slots p n stands none = by_object (seen_at (dbref_of n) (entries_of slots)) refl
  where
    heard_none : (o : Object) (s : Slot) → slice_get slots n ≡ Some s → shown s ≡ o → has_listeners o ≡ true → ⊥
    heard_none o s at is heard =
        none n s at (ap (λ (x : Object). has_listeners x) is ∙ heard)
        (sym (ap (λ (q : Option Slot). option_and_then (λ (x : Object). index_of x.place) (option_map shown q)) at) ∙ stands)

    by_object : (q : Option Object) → seen_at (dbref_of n) (entries_of slots) ≡ q → option_map_or has_listeners q false ≡ false
    by_object None e = refl
    by_object (Some o) e =
        let found : (s : Slot) × (slice_get slots n ≡ Some s) × (shown s ≡ o) = seen_slot slots n o e in
        whether (has_listeners o) (has_listeners o ≡ false) (λ heard. absurd (heard_none o found.0 found.1 found.2 heard)) (λ not. not)

pub unheard_in : (slots : List Slot) (es : List Entry) (place : Dbref) (p : ℕ) → entries_of slots ≡ es → IsOrdered (entries_of slots) → number_in (entries_of slots) place ≡ Some p → IsUnheard p slots → list_any (listens es) (listed_in false place es) ≡ false
unheard_in slots es place p is order number none =
    subst (λ (z : List Entry). list_any (listens z) (listed_in false place z) ≡ false) is
    (ap (λ (l : List Dbref). list_any (listens (entries_of slots)) l) (listed_some false (entries_of slots) place p number)
    ∙ none_heard (listens (entries_of slots)) (list_in false (entries_of slots) p) (λ n m.
    let stands : StandsIn (entries_of slots) false p n = order.stands false p n m in
    unheard_at slots p n (sym (place_in-entries_of slots n) ∙ stands.place) none))
