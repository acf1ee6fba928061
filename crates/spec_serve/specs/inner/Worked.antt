-- Worked accounts, which the checker computes.
use Rattle.std.proofs.Common.{lit≤, arith, subst, sym}
use Rattle.std.specs.Prelude.{◌≡◌, ℕ, ◌+◌, ◌≤◌, Bool, true, false, List, [], ◌∷◌, ◌++◌, codes, refl, Some, None}
use Rattle.muck_links.specs.Lines.{lines, line_most}
use Rattle.muck_links.specs.Sessions.{Session, accepted}
use Rattle.spec_talks.specs.Talks.{Talk, talk_begun}
use Rattle.spec_talks.specs.Counts.{counts}
use Rattle.spec_serve.specs.Pairs.{All2}
use Rattle.spec_serve.specs.Marks.{noted, IsCountOf, AreCountsOf}
use Rattle.spec_serve.specs.Accounts.{Agrees}

-- two lines and a half were read and the first one was entered; ten bytes were taken, the last six at once, and seven written
abbrev pub talk : Talk
talk = record (talk_begun 1) { entered = codes "WHO" ∷ []; sent = codes "Use: conne"; last = 6 }

abbrev pub link : Session
link = record (accepted 1) { read = codes "WHO" ++ 13 ∷ 10 ∷ codes "say hi" ++ 10 ∷ codes "qu"; written = codes "Use: co"; refused = 2 }

unfoldable pub WorkedRows : Type 0
WorkedRows =
    -- the two agree
    Agrees None talk link
    -- but no more than was taken may be written, and no less than all but the last taking
    × (Agrees None talk (record link { written = codes "Use: connect" }) → ⊥)
    × (Agrees None talk (record link { written = codes "Use" }) → ⊥)
    -- and a line may not be entered before it is whole
    × (Agrees None (record talk { entered = codes "WHO" ∷ codes "say hi" ∷ codes "qu" ∷ [] }) link → ⊥)
    -- and the link of one that isn't closed is in use
    × (Agrees None talk (record link { in_use = false }) → ⊥)
    -- the note's counts are below what the links have refused now, number by number
    × AreCountsOf (Some (counts (link ∷ []))) (accepted 2 ∷ record link { refused = 3 } ∷ [])
    × (AreCountsOf (Some (counts (link ∷ []))) (record link { refused = 1 } ∷ []) → ⊥)
    × (AreCountsOf (Some (counts (link ∷ []))) (record link { number = 2 } ∷ []) → ⊥)
    -- what the note says of the latest link of a number
    × (noted 1 (Some (counts (accepted 2 ∷ link ∷ []))) ≡ Some 2)
    × (noted 1 (Some (counts (accepted 1 ∷ link ∷ []))) ≡ Some 0)
    × (noted 3 (Some (counts (link ∷ []))) ≡ None)
    × (noted 1 None ≡ None)

too_many : (rest : List ℕ) → codes "Use: conne" ≡ codes "Use: connect" ++ rest → ⊥
too_many rest e = cc

too_few : 10 ≤ 3 + 6 → ⊥
too_few h = omega arith

not_whole : (rest : List (List ℕ)) → codes "WHO" ∷ codes "say hi" ∷ [] ≡ codes "WHO" ∷ codes "say hi" ∷ codes "qu" ∷ rest → ⊥
not_whole rest e = cc

false_true : ◌≡◌ {A = Bool} false true → ⊥
false_true e = cc

-- whose count the note of that link alone may be
only : (s : Session) (later first : List Session) → s ∷ [] ≡ later ++ first → All2 IsCountOf (counts (link ∷ [])) first → (1 ≡ s.number) × (2 ≤ s.refused)
only s [] [] e all = absurd all
only s [] (x ∷ xs) e all = subst (λ (y : Session). (1 ≡ y.number) × (2 ≤ y.refused)) (sym (head e)) all.0
  where
    head : s ∷ [] ≡ x ∷ xs → s ≡ x
    head e = cc
only s (l ∷ ls) first e all = absurd (nothing ls first (tail e) all)
  where
    tail : s ∷ [] ≡ l ∷ (ls ++ first) → [] ≡ ls ++ first
    tail e = cc

    nothing : (ls first : List Session) → [] ≡ ls ++ first → All2 IsCountOf (counts (link ∷ [])) first → ⊥
    nothing [] [] e all = all
    nothing [] (x ∷ xs) e all = cc
    nothing (x ∷ xs) first e all = cc

fewer : 2 ≤ 1 → ⊥
fewer h = omega arith

other : ◌≡◌ {A = ℕ} 1 2 → ⊥
other e = omega arith

pub worked_rows : WorkedRows
unfolding WorkedRows lines line_most
worked_rows = (
  record { number = refl; lines = (codes "say hi" ∷ [], refl); bytes = (codes "nne", refl); lack = lit≤ tt; closing = tt; in_use = refl },
  λ a. too_many a.bytes.0 a.bytes.1,
  λ a. too_few a.lack,
  λ a. not_whole a.lines.0 a.lines.1,
  λ a. false_true a.in_use,
  (accepted 2 ∷ [], record link { refused = 3 } ∷ [], refl, ((refl, lit≤ tt), tt)),
  λ a. fewer (only (record link { refused = 1 }) a.0 a.1 a.2 a.3).1,
  λ a. other (only (record link { number = 2 }) a.0 a.1 a.2 a.3).0,
  refl,
  refl,
  refl,
  refl,
)
