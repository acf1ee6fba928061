-- The note of the links behind a last dump, and where nobody was let in.
use Rattle.std.proofs.Common.{◌≡◌, ℕ, zero, suc, ◌<◌, Bool, true, false, List, [], ◌∷◌, ◌++◌, refl, ap, ◌∙◌, subst, arith, eqb-true, Option, Some}
use Rattle.std.specs.Prelude.{◌==◌, map, slice_get, is_some}
use Rattle.std.proofs.lemmas.Option.{none-some, same_Some}
use Rattle.muck_laws.proofs.Truths.{opposed}
use Rattle.turn_lock.specs.Histories.{entry_kept, own_of}
use Rattle.muck_model.specs.declared.event.Entry.{Entry}
use Rattle.muck_model.specs.declared.event.Event.{Event}
use Rattle.muck_model.specs.declared.event.Event.TheVariants.{Halt, StopSeen, Died}
use Rattle.muck_model.specs.declared.note.Count.{Count}
use Rattle.muck_model.specs.declared.note.Counted.{Counted}
use Rattle.spec_events.specs.World.{World}
use Rattle.spec_events.specs.Steps.{effect}
use Rattle.spec_events.specs.Histories.{by_porter, AllLawful}
use Rattle.spec_talks.specs.Parties.{party_of}
use Rattle.spec_serve.specs.Marks.{ActsStopping, IsLinksNote}
use Rattle.spec_serve.proofs.Longer.{links_note_longer, stop_noted}
use Rattle.muck_crew.specs.inner.Dumps.{by}
use Rattle.muck_crew.specs.Shared.{events_done_by, EndsStopped}

-- What a party did last stands in the tale.

none_last : (own : List Event) (event : Event) → ◌≡◌ {A = List Event} [] (own ++ event ∷ []) → ⊥
none_last [] event is = cc
none_last (x ∷ xs) event is = cc

first_event : {x y : Event} {xs ys : List Event} → x ∷ xs ≡ y ∷ ys → x ≡ y
first_event e = cc

later_events : {x y : Event} {xs ys : List Event} → x ∷ xs ≡ y ∷ ys → xs ≡ ys
later_events e = cc

abbrev StandsBy : ℕ → Event → List Entry → Type 0
StandsBy p event tale = (front : List Entry) × (rest : List Entry) × (tale ≡ front ++ by p event ∷ rest)

behind_one : (p : ℕ) (event : Event) (e : Entry) (es : List Entry) → StandsBy p event es → StandsBy p event (e ∷ es)
behind_one p event e es (front, rest, is) = (e ∷ front, rest, ap (λ (l : List Entry). e ∷ l) is)

stands_by : (p : ℕ) (tale : List Entry) (own : List Event) (event : Event) → events_done_by p tale ≡ own ++ event ∷ [] → StandsBy p event tale
stands_by p [] own event is = absurd (none_last own event is)
stands_by p (e ∷ es) own event is = from (λ (o : List Event) (i : events_done_by p es ≡ o ++ event ∷ []). stands_by p es o event i) (e.party == p) refl is
  where
    here : ((o : List Event) → events_done_by p es ≡ o ++ event ∷ [] → StandsBy p event es) → e.party ≡ p → (o : List Event) → e.event ∷ events_done_by p es ≡ o ++ event ∷ [] → StandsBy p event (e ∷ es)
    here ih mine [] is = ([], es, ap (λ (x : Entry). x ∷ es) (ap (λ (n : ℕ). by n e.event) mine ∙ ap (λ (v : Event). by p v) (first_event is)))
    here ih mine (x ∷ xs) is = behind_one p event e es (ih xs (later_events is))

    from : ((o : List Event) → events_done_by p es ≡ o ++ event ∷ [] → StandsBy p event es) → (b : Bool) → (e.party == p) ≡ b → map (λ (x : Entry). x.event) (entry_kept b e (own_of party_of p es)) ≡ own ++ event ∷ [] → StandsBy p event (e ∷ es)
    from ih true q is = here ih (eqb-true e.party p q) own is
    from ih false q is = behind_one p event e es (ih own is)

-- where the first party has seen the stop the links were noted
pub noted_there : (counted : Option Counted) (w : World) (tale : List Entry) → AllLawful w tale → EndsStopped 0 tale → IsLinksNote counted w tale → is_some counted ≡ true
noted_there counted w tale lawful (own, ends) note =
    let s = stands_by 0 tale own StopSeen ends in
    stop_noted counted w s.0 s.1 (subst (AllLawful w) s.2 lawful) (subst (IsLinksNote counted w) s.2 note)

-- and they are so behind whatever comes then
pub noted_behind : (counted : Option Counted) (w : World) (tale es : List Entry) → is_some counted ≡ true → IsLinksNote counted w tale → IsLinksNote counted w (tale ++ es)
noted_behind counted w tale es there note = links_note_longer w tale es counted (λ none. absurd (opposed (is_some counted) there none)) note

-- or behind want of memory of another party
pub noted_died : (counted : Option Counted) (w : World) (tale : List Entry) → IsLinksNote counted w tale → IsLinksNote counted w (tale ++ by 9 Died ∷ [])
noted_died counted w tale note = links_note_longer w tale (by 9 Died ∷ []) counted (λ none. others) note
  where
    others : (j : ℕ) (e : Entry) → slice_get (by 9 Died ∷ []) j ≡ Some e → ¬ (e.party ≡ 0)
    others zero e at mine = let n = ap (λ (x : Entry). x.party) (same_Some (by 9 Died) e at) in omega (arith, n, mine)
    others (suc j) e at mine = none-some e at

-- Where nobody was let in, it is made at once before the first party sees the stop.
pub noted_halted : (counts : List Count) (w : World) → w.stopping ≡ false → w.dead ≡ false → IsLinksNote (Some (record { entries = 1; counts = counts })) w (by_porter Halt ∷ by_porter StopSeen ∷ [])
unfolding effect
noted_halted counts w going alive = (
  record { entry = by_porter StopSeen; here = refl; porter = refl; stopping = refl; alive = alive },
  λ place less a. opposed w.stopping (none_before place less a) going,
)
  where
    none_before : (place : ℕ) → place < 1 → ActsStopping w (by_porter Halt ∷ by_porter StopSeen ∷ []) place → w.stopping ≡ true
    none_before zero less a = a.stopping
    none_before (suc place) less a = absurd (omega (arith, less))
