-- Fronts of a history that goes on.
use Rattle.std.proofs.Common.{◌≡◌, ◌⊎◌, inl, inr, ℕ, ◌<◌, ◌≤◌, Bool, true, false, zero, suc, List, [], ◌∷◌, ◌++◌, length, take, refl, ap, sym, ◌∙◌, subst, arith, Option, Some, None}
use Rattle.std.specs.Prelude.{slice_get, ◌||◌, if◌then◌else◌}
use Rattle.std.specs.List.{list_any}
use Rattle.std.specs.Option.{option_map, option_map_or}
use Rattle.std.proofs.lemmas.List.{length-append, take-append-le}
use Rattle.std.proofs.lemmas.Option.{slice_get_within}
use Rattle.std.proofs.lemmas.Bool.{cases_lt}
use Rattle.muck_laws.proofs.Numbers.{one_short}
use Rattle.muck_laws.proofs.Places.{got_on}
use Rattle.muck_model.specs.declared.event.Entry.{Entry}
use Rattle.muck_model.specs.declared.event.Event.{Event}
use Rattle.muck_model.specs.declared.note.Note.{Note}
use Rattle.spec_live.specs.Consistent.{IsConsistent}
use Rattle.muck_log.specs.Store.{Chosen, Damage}
use Rattle.std.specs.Prelude.{Result}
use Rattle.spec_events.specs.World.{World}
use Rattle.spec_events.specs.Histories.{after}
use Rattle.spec_events.specs.Logged.{is_cut, is_dump, is_stored, is_failed}
use Rattle.spec_dumps.specs.Fronts.{persisted, entry_stands_at, event_at, at_cut, front_behind_cut, last_cut, number_of_cut, batch_number_at, place_of_note, IsNotedBy, IsFront, Loads}

-- each note stands before an entry, or at the start
abbrev pub ArePlaced : List Entry → List Note → Type 0
ArePlaced h notes = (i place : ℕ) → place_of_note notes i ≡ Some place → ((i ≡ 0) × (place ≡ 0)) ⊎ (place < length h)

pub stands_on : (test : Event → Bool) (h more : List Entry) (place : ℕ) → place < length h → entry_stands_at test (h ++ more) place ≡ entry_stands_at test h place
stands_on test h more place less = ap (λ o. option_map_or (λ (e : Entry). test e.event) o false) (got_on h more place less)

last_cut_none : last_cut [] ≡ 0
unfolding last_cut
last_cut_none = refl

-- an entry that is there stands there still
pub event_on : (h more : List Entry) (place : ℕ) (event : Event) → event_at h place ≡ Some event → event_at (h ++ more) place ≡ Some event
event_on h more place event is = at (slice_get h place) refl is where
  at : (o : Option Entry) → slice_get h place ≡ o → option_map (λ (e : Entry). e.event) o ≡ Some event → event_at (h ++ more) place ≡ Some event
  at None there e = cc
  at (Some x) there e = ap (option_map (λ (y : Entry). y.event)) (got_on h more place (slice_get_within h place x there) ∙ there) ∙ e

-- and it was there, where it is one of the first
pub event_off : (h more : List Entry) (place : ℕ) → place < length h → event_at (h ++ more) place ≡ event_at h place
event_off h more place less = ap (option_map (λ (e : Entry). e.event)) (got_on h more place less)

-- no Cut stands before the first entry
pub last_cut_first : (h : List Entry) (place : ℕ) → place ≡ 0 → last_cut (take place h) ≡ 0
last_cut_first h place z = ap (λ p. last_cut (take p h)) z ∙ last_cut_none

-- The last Cut is one of the entries.

pub last_cut_short : (h : List Entry) → last_cut h ≤ length h
unfolding last_cut
last_cut_short [] = omega arith
last_cut_short (e ∷ h) = at (last_cut h) (last_cut_short h) where
  at : (n : ℕ) → n ≤ length h → front_behind_cut n (is_cut e.event) ≤ suc (length h)
  at zero le = omega (arith, one_short (is_cut e.event))
  at (suc n) le = omega (arith, le)

-- what is behind it leaves it
pub last_cut_taken : (h : List Entry) → last_cut (take (last_cut h) h) ≡ last_cut h
unfolding last_cut
last_cut_taken [] = refl
last_cut_taken (e ∷ h) = at (last_cut h) refl (last_cut_taken h) where
  one : (b : Bool) → is_cut e.event ≡ b → last_cut (take (if b then 1 else 0) (e ∷ h)) ≡ (if b then 1 else 0)
  one true is = ap (λ b. if b then 1 else 0) is
  one false is = refl

  at : (n : ℕ) → last_cut h ≡ n → last_cut (take (last_cut h) h) ≡ last_cut h → last_cut (take (front_behind_cut n (is_cut e.event)) (e ∷ h)) ≡ front_behind_cut n (is_cut e.event)
  at zero is taken = one (is_cut e.event) refl
  at (suc n) is taken = ap (λ k. front_behind_cut k (is_cut e.event)) (ap (λ k. last_cut (take k h)) (sym is) ∙ taken ∙ is)

-- and no front has a later one
pub last_cut_front : (h : List Entry) (n : ℕ) → last_cut (take n h) ≤ last_cut h
unfolding last_cut
last_cut_front h zero = omega arith
last_cut_front [] (suc n) = omega arith
last_cut_front (e ∷ h) (suc n) = at (last_cut (take n h)) (last_cut h) (is_cut e.event) (last_cut_front h n) where
  at : (a b : ℕ) (cut : Bool) → a ≤ b → front_behind_cut a cut ≤ front_behind_cut b cut
  at zero zero cut le = omega arith
  at zero (suc b) cut le = omega (arith, one_short cut)
  at (suc a) zero cut le = absurd (omega (arith, le))
  at (suc a) (suc b) cut le = omega (arith, le)

-- a Cut stands there
pub last_cut_stands : (h : List Entry) (n : ℕ) → last_cut h ≡ suc n → entry_stands_at is_cut h n ≡ true
unfolding last_cut
last_cut_stands [] n is = absurd (omega (arith, is))
last_cut_stands (e ∷ h) n is = at (last_cut h) refl n is (last_cut_stands h) where
  one : (b : Bool) (i : ℕ) → is_cut e.event ≡ b → (if b then 1 else 0) ≡ suc i → entry_stands_at is_cut (e ∷ h) i ≡ true
  one true zero is same = is
  one true (suc i) is same = absurd (omega (arith, same))
  one false i is same = absurd (omega (arith, same))

  at : (k : ℕ) → last_cut h ≡ k → (i : ℕ) → front_behind_cut k (is_cut e.event) ≡ suc i → ((j : ℕ) → last_cut h ≡ suc j → entry_stands_at is_cut h j ≡ true) → entry_stands_at is_cut (e ∷ h) i ≡ true
  at zero is i same stands = one (is_cut e.event) i refl same
  at (suc k) is zero same stands = absurd (omega (arith, same))
  at (suc k) is (suc i) same stands = stands i (is ∙ (let it : suc k ≡ suc i = omega (arith, same) in it))

-- entries that are none of a dump leave it
none_cut : (event : Event) → is_dump event ≡ false → is_cut event ≡ false
none_cut event none = at (is_cut event) (is_stored event || is_failed event) none where
  at : (a b : Bool) → (a || b) ≡ false → a ≡ false
  at true b e = cc
  at false b e = refl

pub last_cut_quiet : (h es : List Entry) → list_any (λ (e : Entry). is_dump e.event) es ≡ false → last_cut (h ++ es) ≡ last_cut h
unfolding last_cut
last_cut_quiet [] [] none = refl
last_cut_quiet [] (e ∷ es) none = at (is_dump e.event) refl none (last_cut_quiet [] es) where
  at : (b : Bool) → is_dump e.event ≡ b → (b || list_any (λ (x : Entry). is_dump x.event) es) ≡ false → (list_any (λ (x : Entry). is_dump x.event) es ≡ false → last_cut es ≡ 0) → last_cut (e ∷ es) ≡ 0
  at true is p rest = cc
  at false is p rest = ap (λ k. front_behind_cut k (is_cut e.event)) (rest p) ∙ ap (λ b. if b then 1 else 0) (none_cut e.event is)
last_cut_quiet (e ∷ h) es none = ap (λ k. front_behind_cut k (is_cut e.event)) (last_cut_quiet h es none)

-- nor the world behind it
pub at_cut_quiet : (w : World) (h es : List Entry) → list_any (λ (e : Entry). is_dump e.event) es ≡ false → at_cut w (h ++ es) ≡ at_cut w h
at_cut_quiet w h es none = ap (λ n. after w (take n (h ++ es))) (last_cut_quiet h es none) ∙ ap (after w) (take-append-le (last_cut h) h es (last_cut_short h))

pub number_on : (mounted : ℕ) (h more : List Entry) (count : ℕ) → count ≤ length h → batch_number_at mounted (h ++ more) count ≡ batch_number_at mounted h count
number_on mounted h more zero less = refl
number_on mounted h more (suc count) less = ap (λ o. option_map_or (λ (e : Entry). number_of_cut e.event) o mounted) (got_on h more count (omega (arith, less)))

pub place_on : (notes more : List Note) (i : ℕ) → i < length notes → place_of_note (notes ++ more) i ≡ place_of_note notes i
place_on notes more i less = ap (λ o. option_map (λ (note : Note). note.entries) o) (got_on notes more i less)

place_within : (notes : List Note) (i : ℕ) (o : Option Note) (place : ℕ) → slice_get notes i ≡ o → option_map (λ (note : Note). note.entries) o ≡ Some place → i < length notes
place_within notes i None place is e = cc
place_within notes i (Some note) place is e = slice_get_within notes i note is

pub note_within : (notes : List Note) (i place : ℕ) → place_of_note notes i ≡ Some place → i < length notes
note_within notes i place e = place_within notes i (slice_get notes i) place refl e

pub noted_on : (notes more : List Note) (n m count : ℕ) → n ≤ m → IsNotedBy notes n count → IsNotedBy (notes ++ more) m count
noted_on notes more n m zero le p = tt
noted_on notes more n m (suc count) le p = (p.0, p.1, omega (arith, p.2, le), place_on notes more p.0 (note_within notes p.0 count p.3) ∙ p.3)

-- more entries
pub front_on : (w : World) (mounted : ℕ) (h more : List Entry) (notes : List Note) (n : ℕ) (s : Chosen) → ArePlaced h notes → IsFront w mounted h notes n s → IsFront w mounted (h ++ more) notes n s
front_on w mounted h more notes n s placed f = record {
  count = f.count;
  short = omega (arith, f.short, length-append h more);
  world = f.world ∙ ap (λ es. persisted (after w es)) (sym same);
  consistent = subst (λ es. IsConsistent (after w es).live.objects) (sym same) f.consistent;
  cut = ap last_cut same ∙ f.cut;
  number = f.number ∙ sym (number_on mounted h more f.count f.short);
  noted = f.noted;
  acknowledged = λ i place low at stored. elim (placed i place at) [
    | inl z ↦ (let none = last_cut_first (h ++ more) place z.1 in omega (arith, none))
    | inr less ↦ (
        let known = f.acknowledged i place low at (sym (stands_on is_stored h more place less) ∙ stored) in
        let front : last_cut (take place (h ++ more)) ≡ last_cut (take place h) = ap last_cut (take-append-le place h more (omega (arith, less))) in
        omega (arith, known, front)
        )
  ];
}
  where
    same : take f.count (h ++ more) ≡ take f.count h
    same = take-append-le f.count h more f.short

-- more notes, of which those that count now are of no dump that is stored, or of one that the front holds
pub front_later : (w : World) (mounted : ℕ) (h : List Entry) (notes more : List Note) (n m : ℕ) (s : Chosen) (f : IsFront w mounted h notes n s) → n ≤ m → n < length notes →
    ((i place : ℕ) → n < i → i ≤ m → place_of_note (notes ++ more) i ≡ Some place → entry_stands_at is_stored h place ≡ true → last_cut (take place h) ≤ f.count) → IsFront w mounted h (notes ++ more) m s
front_later w mounted h notes more n m s f le some comes = record {
  count = f.count;
  short = f.short;
  world = f.world;
  consistent = f.consistent;
  cut = f.cut;
  number = f.number;
  noted = noted_on notes more n m f.count le f.noted;
  acknowledged = λ i place low at stored. elim (cases_lt n i) [
    | inl new ↦ comes i place new low at stored
    | inr old ↦ f.acknowledged i place old (sym (place_on notes more i (omega (arith, old, some))) ∙ at) stored
  ];
}

-- and with them the same notes count
pub front_beside : (w : World) (mounted : ℕ) (h : List Entry) (notes more : List Note) (n : ℕ) (s : Chosen) → n < length notes → IsFront w mounted h notes n s → IsFront w mounted h (notes ++ more) n s
front_beside w mounted h notes more n s some f = front_later w mounted h notes more n n s f (omega arith) some (λ i place low high at stored. absurd (omega (arith, low, high)))

pub loads_by : (w v : World) (mounted : ℕ) (h g : List Entry) (notes notes' : List Note) (n m : ℕ) (r : Result Chosen Damage) → ((s : Chosen) → IsFront w mounted h notes n s → IsFront v mounted g notes' m s) → Loads w mounted h notes n r → Loads v mounted g notes' m r
loads_by w v mounted h g notes notes' n m r f p = (p.0, p.1, f p.0 p.2)
