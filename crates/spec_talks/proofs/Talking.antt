-- What a history says of its connections, from entry to entry.
use Rattle.std.proofs.Common.{◌≡◌, ℕ, Bool, true, false, List, [], ◌∷◌, ◌++◌, refl, sym, ap, ◌∙◌, subst}
use Rattle.std.specs.Prelude.{◌==◌}
use Rattle.std.proofs.lemmas.Bool.{and_parts}
use Rattle.muck_laws.proofs.Truths.{allowed_one, opposed}
use Rattle.turn_lock.specs.Histories.{own_of, StartsWith}
use Rattle.muck_model.specs.declared.event.Entry.{Entry}
use Rattle.muck_model.specs.declared.event.Event.{Event}
use Rattle.muck_model.specs.declared.event.Event.TheVariants.{Opened, Input, Closed, Take}
use Rattle.spec_events.specs.World.{World}
use Rattle.spec_events.specs.Steps.{is_allowed, is_lawful, effect}
use Rattle.spec_events.specs.Histories.{after, AllLawful}
use Rattle.spec_talks.specs.Parties.{party_of}
use Rattle.spec_talks.specs.Talks.{Talk, talked, talks_on, talks}
use Rattle.spec_talks.proofs.Histories.{lawful_back, not_first, others_own}

-- events that change a talk
abbrev is_talk : Event → Bool
is_talk (Opened d) = true
is_talk (Input d line) = true
is_talk (Closed d) = true
is_talk (Take d n) = true
is_talk event = false

talks_on_append : (w : World) (ts : List Talk) (a b : List Entry) → talks_on w ts (a ++ b) ≡ talks_on (after w a) (talks_on w ts a) b
talks_on_append w ts [] b = refl
talks_on_append w ts (e ∷ es) b = talks_on_append (effect w e) (talked w e.event ts) es b

-- one entry more
pub talks_one : (w : World) (h : List Entry) (e : Entry) → talks w (h ++ e ∷ []) ≡ talked (after w h) e.event (talks w h)
unfolding talks
talks_one w h e = talks_on_append w [] h (e ∷ [])

-- connections come, hear, are given bytes and go by the first party alone
first_alone : (w : World) (p : ℕ) (event : Event) → is_allowed w p event ≡ true → is_talk event ≡ true → (p == 0) ≡ true
first_alone w p (Opened d) l is = (and_parts (p == 0) _ (and_parts _ _ (and_parts _ _ l).0).0).0
first_alone w p (Input d line) l is = (and_parts (p == 0) _ (and_parts _ _ l).0).0
first_alone w p (Closed d) l is = (and_parts (p == 0) _ l).0
first_alone w p (Take d n) l is = (and_parts (p == 0) _ (and_parts _ _ l).0).0
first_alone w p event l is = absurd (opposed false is refl)

-- the talks don't change where another party does something
pub talked_other : (w : World) (p : ℕ) (event : Event) (ts : List Talk) → is_lawful w (record { party = p; event = event }) ≡ true → (p == 0) ≡ false → talked w event ts ≡ ts
unfolding is_lawful
talked_other w p (Opened d) ts l other = absurd (opposed (p == 0) (first_alone w p (Opened d) (allowed_one w.dead false _ l refl) refl) other)
talked_other w p (Input d line) ts l other = absurd (opposed (p == 0) (first_alone w p (Input d line) (allowed_one w.dead false _ l refl) refl) other)
talked_other w p (Closed d) ts l other = absurd (opposed (p == 0) (first_alone w p (Closed d) (allowed_one w.dead false _ l refl) refl) other)
talked_other w p (Take d n) ts l other = absurd (opposed (p == 0) (first_alone w p (Take d n) (allowed_one w.dead false _ l refl) refl) other)
talked_other w p event ts l other = refl

talks_on_others : (w : World) (ts : List Talk) (rest : List Entry) → AllLawful w rest → own_of party_of 0 rest ≡ [] → talks_on w ts rest ≡ ts
talks_on_others w ts [] l none_own = refl
talks_on_others w ts (e ∷ es) l none_own =
    let two = not_first e es none_own in
    ap (λ (x : List Talk). talks_on (effect w e) x es) (talked_other w e.party e.event ts l.0 two.0) ∙ talks_on_others (effect w e) ts es l.1 two.1

-- entries of others change no talk
pub talks_others : (w : World) (h rest : List Entry) → AllLawful w (h ++ rest) → own_of party_of 0 rest ≡ [] → talks w (h ++ rest) ≡ talks w h
unfolding talks
talks_others w h rest l none_own = talks_on_append w [] h rest ∙ talks_on_others (after w h) (talks_on w [] h) rest (lawful_back w h rest l) none_own

-- the talks of a history are those of its front, where the first party did nothing after it
pub talks_same : (w : World) (h h' : List Entry) → AllLawful w h' → StartsWith h' h → own_of party_of 0 h' ≡ own_of party_of 0 h → talks w h' ≡ talks w h
talks_same w h h' l (rest, is) own =
    ap (talks w) is ∙ talks_others w h rest (subst (AllLawful w) is l) (others_own h rest (sym (ap (own_of party_of 0) is) ∙ own))

-- a turn of the first party: entries of others, and then this one
pub talks_turned : (w : World) (h h' : List Entry) (e : Entry) → AllLawful w h' → StartsWith h' h → own_of party_of 0 h' ≡ own_of party_of 0 h
    → talks w (h' ++ e ∷ []) ≡ talked (after w h') e.event (talks w h)
talks_turned w h h' e l more own = talks_one w h' e ∙ ap (talked (after w h') e.event) (talks_same w h h' l more own)
