-- The worlds in which a run is stopped.
use Rattle.std.proofs.Common.{◌≡◌, ℕ, Bool, true, false, cond, List, [], ◌∷◌, ◌++◌, refl, sym, ap, ◌∙◌, subst}
use Rattle.std.specs.Prelude.{◌==◌, if◌then◌else◌}
use Rattle.std.proofs.lemmas.List.{append-nil}
use Rattle.muck_laws.proofs.Truths.{opposed}
use Rattle.turn_lock.specs.Histories.{own_of, StartsWith}
use Rattle.muck_model.specs.declared.event.Entry.{Entry}
use Rattle.muck_model.specs.declared.event.Event.{Event}
use Rattle.muck_model.specs.declared.event.Event.TheVariants.{Halt}
use Rattle.spec_events.specs.World.{World}
use Rattle.spec_events.specs.Steps.{is_lawful, effect}
use Rattle.spec_events.specs.Histories.{after, AllLawful}
use Rattle.spec_talks.specs.Parties.{party_of, worlds_at, halts, is_halt}
use Rattle.spec_talks.proofs.Histories.{lawful_back, worlds_append, worlds_one, not_first, others_own}

-- where another party does something, the run isn't stopped
halts_other : (w : World) (p : ℕ) (event : Event) → is_lawful w (record { party = p; event = event }) ≡ true → (p == 0) ≡ false → halts event ≡ false
unfolding is_lawful
halts_other w p Halt l other = absurd (opposed (p == 0) (from w.dead l) other)
  where
    from : (dead : Bool) → cond dead false (p == 0) ≡ true → (p == 0) ≡ true
    from true e = absurd (opposed false e refl)
    from false e = e
halts_other w p event l other = refl

halts_none : (w : World) (rest : List Entry) → AllLawful w rest → own_of party_of 0 rest ≡ [] → worlds_at is_halt w rest ≡ []
halts_none w [] l none_own = refl
halts_none w (e ∷ es) l none_own =
    let two = not_first e es none_own in
    ap (λ (t : Bool). if t then w ∷ worlds_at is_halt (effect w e) es else worlds_at is_halt (effect w e) es) (halts_other w e.party e.event l.0 two.0) ∙ halts_none (effect w e) es l.1 two.1

-- entries of others stop no run
pub halts_same : (w : World) (h h' : List Entry) → AllLawful w h' → StartsWith h' h → own_of party_of 0 h' ≡ own_of party_of 0 h → worlds_at is_halt w h' ≡ worlds_at is_halt w h
halts_same w h h' l (rest, is) own =
    ap (worlds_at is_halt w) is ∙ worlds_append is_halt w h rest
    ∙ ap (λ (x : List World). worlds_at is_halt w h ++ x) (halts_none (after w h) rest (lawful_back w h rest (subst (AllLawful w) is l)) (others_own h rest (sym (ap (own_of party_of 0) is) ∙ own)))
    ∙ append-nil (worlds_at is_halt w h)

-- a turn of the first party: entries of others, and then this one
pub halts_turned : (w : World) (h h' : List Entry) (e : Entry) → AllLawful w h' → StartsWith h' h → own_of party_of 0 h' ≡ own_of party_of 0 h
    → worlds_at is_halt w (h' ++ e ∷ []) ≡ worlds_at is_halt w h ++ (if is_halt e then after w h' ∷ [] else [])
halts_turned w h h' e l more own =
    worlds_one is_halt w h' e ∙ ap (λ (x : List World). x ++ (if is_halt e then after w h' ∷ [] else [])) (halts_same w h h' l more own)
