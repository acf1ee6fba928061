-- Histories that go on.
use Rattle.std.proofs.Common.{◌≡◌, Bool, true, false, List, [], ◌∷◌, ◌++◌, refl, sym, ap, ◌∙◌}
use Rattle.std.specs.Prelude.{◌==◌, if◌then◌else◌}
use Rattle.turn_lock.specs.Histories.{entry_kept, own_of}
use Rattle.turn_lock.proofs.Parts.{own_append}
use Rattle.muck_model.specs.declared.event.Entry.{Entry}
use Rattle.spec_events.specs.World.{World}
use Rattle.spec_events.specs.Steps.{effect}
use Rattle.spec_events.specs.Histories.{after, AllLawful}
use Rattle.spec_talks.specs.Parties.{party_of, worlds_at}

-- the front of a lawful history is lawful
pub lawful_front : (w : World) (a b : List Entry) → AllLawful w (a ++ b) → AllLawful w a
lawful_front w [] b l = tt
lawful_front w (e ∷ es) b l = (l.0, lawful_front (effect w e) es b l.1)

-- and so is what comes after it
pub lawful_back : (w : World) (a b : List Entry) → AllLawful w (a ++ b) → AllLawful (after w a) b
lawful_back w [] b l = l
lawful_back w (e ∷ es) b l = lawful_back (effect w e) es b l.1

pub worlds_append : (test : Entry → Bool) (w : World) (a b : List Entry) → worlds_at test w (a ++ b) ≡ worlds_at test w a ++ worlds_at test (after w a) b
worlds_append test w [] b = refl
worlds_append test w (e ∷ es) b = from (worlds_append test (effect w e) es b) (test e)
  where
    from : worlds_at test (effect w e) (es ++ b) ≡ worlds_at test (effect w e) es ++ worlds_at test (after (effect w e) es) b
        → (t : Bool) → (if t then w ∷ worlds_at test (effect w e) (es ++ b) else worlds_at test (effect w e) (es ++ b))
        ≡ (if t then w ∷ worlds_at test (effect w e) es else worlds_at test (effect w e) es) ++ worlds_at test (after (effect w e) es) b
    from ih true = ap (λ (l : List World). w ∷ l) ih
    from ih false = ih

-- one entry more
pub worlds_one : (test : Entry → Bool) (w : World) (h : List Entry) (e : Entry) → worlds_at test w (h ++ e ∷ []) ≡ worlds_at test w h ++ (if test e then after w h ∷ [] else [])
worlds_one test w h e = worlds_append test w h (e ∷ [])

-- Whose an entry is.

-- who has no entry in a list
pub not_first : (e : Entry) (es : List Entry) → own_of party_of 0 (e ∷ es) ≡ [] → ((e.party == 0) ≡ false) × (own_of party_of 0 es ≡ [])
not_first e es is = from (e.party == 0) refl is
  where
    some_none : Entry → List Entry → ◌≡◌ {A = List Entry} (e ∷ own_of party_of 0 es) [] → ⊥
    some_none x xs h = cc

    from : (t : Bool) → (e.party == 0) ≡ t → entry_kept t e (own_of party_of 0 es) ≡ [] → ((e.party == 0) ≡ false) × (own_of party_of 0 es ≡ [])
    from true t_is h = absurd (some_none e es h)
    from false t_is h = (t_is, h)

-- what is longer by others' entries alone
pub others_own : (h rest : List Entry) → own_of party_of 0 (h ++ rest) ≡ own_of party_of 0 h → own_of party_of 0 rest ≡ []
others_own h rest e = no_more (own_of party_of 0 h) (own_of party_of 0 rest) (sym (own_append party_of 0 h rest) ∙ e)
  where
    tail : List Entry → List Entry
    tail [] = []
    tail (z ∷ zs) = zs

    no_more : (a b : List Entry) → a ++ b ≡ a → b ≡ []
    no_more [] b e = e
    no_more (x ∷ xs) b e = no_more xs b (ap tail e)
