-- Time goes on by the first party alone.
use Rattle.std.proofs.Common.{◌≡◌, ℕ, Bool, true, false, List, [], ◌∷◌, refl, sym, ap, ◌∙◌, subst}
use Rattle.std.specs.Prelude.{◌==◌}
use Rattle.std.proofs.lemmas.Bool.{and_parts}
use Rattle.muck_laws.proofs.Truths.{allowed_one, opposed}
use Rattle.turn_lock.specs.Histories.{entry_kept, own_of, StartsWith}
use Rattle.muck_model.specs.declared.event.Entry.{Entry}
use Rattle.muck_model.specs.declared.event.Event.{Event}
use Rattle.muck_model.specs.declared.event.Event.TheVariants.{Moment, Exec, Slice}
use Rattle.spec_events.specs.World.{World, connection}
use Rattle.spec_events.specs.Steps.{is_lawful, happened, effect}
use Rattle.spec_events.specs.Histories.{after, AllLawful}
use Rattle.spec_events.proofs.Runs.{after-append}
use Rattle.spec_events.proofs.Done.{done_going}
use Rattle.spec_events.proofs.Happening.{effect-moment}
use Rattle.spec_events.proofs.Taken.{sliced_going}
use Rattle.spec_talks.specs.inner.Moments.{second_behind, second_on}
use Rattle.spec_talks.specs.Parties.{party_of}
use Rattle.spec_talks.proofs.Histories.{lawful_back, not_first, others_own}

-- an event leaves the second, but for a moment
second_happened : (event : Event) (w : World) (party : ℕ) → (happened w party event).moment ≡ second_behind w.moment event
second_happened (Moment t) w party = refl
second_happened (Exec d) w party = (done_going d w (connection d w) refl).moment
second_happened (Slice pid) w party = (sliced_going pid w).moment
second_happened event w party = refl

second_effect : (w : World) (e : Entry) → (effect w e).moment ≡ second_behind w.moment e.event
second_effect w e = effect-moment w e ∙ second_happened e.event w e.party

-- the second of a history is that of its moments
pub second_after : (w : World) (h : List Entry) → (after w h).moment ≡ second_on w.moment h
second_after w [] = refl
second_after w (e ∷ es) = second_after (effect w e) es ∙ ap (λ (n : ℕ). second_on n es) (second_effect w e)

-- which others don't enter
second_other : (w : World) (p : ℕ) (event : Event) (second : ℕ) → is_lawful w (record { party = p; event = event }) ≡ true → (p == 0) ≡ false → second_behind second event ≡ second
unfolding is_lawful
second_other w p (Moment t) second l other = absurd (opposed (p == 0) (and_parts (p == 0) _ (allowed_one w.dead false _ l refl)).0 other)
second_other w p event second l other = refl

second_others : (w : World) (rest : List Entry) (second : ℕ) → AllLawful w rest → own_of party_of 0 rest ≡ [] → second_on second rest ≡ second
second_others w [] second l none_own = refl
second_others w (e ∷ es) second l none_own =
    let two = not_first e es none_own in
    ap (λ (n : ℕ). second_on n es) (second_other w e.party e.event second l.0 two.0) ∙ second_others (effect w e) es second l.1 two.1

-- in a lawful history it is that of the first party's own
second_own : (w : World) (h : List Entry) (second : ℕ) → AllLawful w h → second_on second h ≡ second_on second (own_of party_of 0 h)
second_own w [] second l = refl
second_own w (e ∷ es) second l = from (e.party == 0) refl (λ (n : ℕ). second_own (effect w e) es n l.1)
  where
    from : (t : Bool) → (e.party == 0) ≡ t → ((n : ℕ) → second_on n es ≡ second_on n (own_of party_of 0 es))
        → second_on (second_behind second e.event) es ≡ second_on second (entry_kept t e (own_of party_of 0 es))
    from true is ih = ih (second_behind second e.event)
    from false is ih = ap (λ (n : ℕ). second_on n es) (second_other w e.party e.event second l.0 is) ∙ ih second

pub moment_own : (w : World) (h : List Entry) → AllLawful w h → (after w h).moment ≡ second_on w.moment (own_of party_of 0 h)
moment_own w h l = second_after w h ∙ second_own w h w.moment l

-- the second of a history is that of its front, where the first party did nothing after it
pub moment_same : (w : World) (h h' : List Entry) → AllLawful w h' → StartsWith h' h → own_of party_of 0 h' ≡ own_of party_of 0 h → (after w h').moment ≡ (after w h).moment
moment_same w h h' l (rest, is) own =
    ap (λ (es : List Entry). (after w es).moment) is
    ∙ ap (λ (v : World). v.moment) (after-append h rest w)
    ∙ second_after (after w h) rest
    ∙ second_others (after w h) rest (after w h).moment (lawful_back w h rest (subst (AllLawful w) is l)) (others_own h rest (sym (ap (own_of party_of 0) is) ∙ own))
