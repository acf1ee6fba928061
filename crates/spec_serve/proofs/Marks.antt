-- Counts of refused writes that are remembered.
use Rattle.std.proofs.Common.{◌∙◌, sym, true≢false, ◌≡◌, ℕ, ◌+◌, ◌<◌, Bool, true, false, List, [], ◌∷◌, refl, ap, arith, Option, Some}
use Rattle.std.specs.Prelude.{◌==◌, if◌then◌else◌}
use Rattle.std.specs.Option.{option_map}
use Rattle.muck_links.specs.Keyed.{latest}
use Rattle.muck_links.specs.Sessions.{Session, session_number, first_count}
use Rattle.spec_talks.specs.Counts.{count_of, counts}
use Rattle.spec_serve.specs.Marks.{noted}
use Rattle.spec_serve.specs.inner.Keeping.{Passed}

-- what is marked has a mark
pub marked : (m a : Bool) (mark : Option ℕ) (count : ℕ) → m ≡ true → Passed m a mark count → (n : ℕ) × (mark ≡ Some n)
marked false a mark count is h = absurd (true≢false (sym is))
marked true false mark count is h = (h.0, h.1)
marked true true mark count is h = (h.0, h.1)

-- what has passed it is above it
pub passed : (m a : Bool) (mark : Option ℕ) (count : ℕ) → a ≡ true → Passed m a mark count → (n : ℕ) × (mark ≡ Some n) × (n < count)
passed false a mark count is h = absurd (true≢false (sym is ∙ h.1))
passed true false mark count is h = absurd (true≢false (sym is))
passed true true mark count is h = h

-- one more passes each mark
pub passed_more : (m a : Bool) (mark : Option ℕ) (count : ℕ) → Passed m a mark count → Passed m m mark (count + 1)
passed_more false a mark count h = (h.0, refl)
passed_more true false mark count h = (h.0, h.1, (let e = h.2 in omega arith))
passed_more true true mark count h = (h.0, h.1, (let e = h.2 in omega arith))

-- the first end marks the count, and a later one leaves the mark
pub passed_first : (m a : Bool) (mark : Option ℕ) (count : ℕ) → Passed m a mark count → Passed true a (first_count mark count) count
passed_first false false mark count h = (count, ap (λ (o : Option ℕ). first_count o count) h.0, omega arith)
passed_first false true mark count h = absurd (true≢false h.1)
passed_first true false mark count h = (h.0, ap (λ (o : Option ℕ). first_count o count) h.1, h.2)
passed_first true true mark count h = (h.0, ap (λ (o : Option ℕ). first_count o count) h.1, h.2)

-- the note says of the latest link of a number what that link had refused
pub noted_latest : (d : ℕ) (ss : List Session) → noted d (Some (counts ss)) ≡ option_map (λ s. s.refused) (latest session_number d ss)
noted_latest d [] = refl
noted_latest d (s ∷ ss) = from (s.number == d) (noted_latest d ss)
  where
    from : (t : Bool) → noted d (Some (counts ss)) ≡ option_map (λ s. s.refused) (latest session_number d ss)
        → option_map (λ c. c.refused) (if t then Some (record { number = s.number; refused = s.refused }) else latest count_of d (counts ss))
        ≡ option_map (λ s. s.refused) (if t then Some s else latest session_number d ss)
    from true e = refl
    from false e = e
