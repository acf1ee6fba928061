-- The counts of the note of the links, as links go on.
use Rattle.std.proofs.Common.{◌≡◌, ℕ, ◌≤◌, Bool, true, false, List, [], ◌∷◌, ◌++◌, refl, sym, ap, ◌∙◌, subst, arith, Some, None}
use Rattle.std.specs.Prelude.{◌==◌, if◌then◌else◌}
use Rattle.muck_links.specs.Keyed.{altered}
use Rattle.muck_links.specs.Sessions.{Session, session_number}
use Rattle.muck_model.specs.declared.note.Count.{Count}
use Rattle.spec_talks.specs.Counts.{counts}
use Rattle.spec_serve.specs.Pairs.{All2}
use Rattle.spec_serve.specs.Marks.{LinksNote, IsCountOf, AreCountsOf}

same_counts : (ss : List Session) → All2 IsCountOf (counts ss) ss
same_counts [] = tt
same_counts (s ∷ ss) = ((refl, omega arith), same_counts ss)

-- the note is made
pub counts_made : (ss : List Session) → AreCountsOf (Some (counts ss)) ss
counts_made ss = ([], ss, refl, same_counts ss)

-- a link comes
pub counts_came : (counted : LinksNote) (s : Session) (ss : List Session) → AreCountsOf counted ss → AreCountsOf counted (s ∷ ss)
counts_came None s ss c = tt
counts_came (Some cs) s ss c = (s ∷ c.0, c.1, ap (λ (l : List Session). s ∷ l) c.2, c.3)

-- one of a number changes, and has refused no less then
module _ (d : ℕ) (g : Session → Session) (links : (s : Session) → session_number (g s) ≡ session_number s) (refuses : (s : Session) → s.refused ≤ (g s).refused) where
  count_later : (c : Count) (s : Session) → IsCountOf c s → IsCountOf c (g s)
  count_later c s is = let more = refuses s in let few = is.1 in (is.0 ∙ sym (links s), omega arith)

  all_later : (cs : List Count) (ss : List Session) → All2 IsCountOf cs ss → All2 IsCountOf cs (altered session_number d g ss)
  all_later [] [] all = tt
  all_later [] (s ∷ ss) all = absurd all
  all_later (c ∷ cs) [] all = absurd all
  all_later (c ∷ cs) (s ∷ ss) all = from (s.number == d) (all_later cs ss all.1)
    where
      from : (t : Bool) → All2 IsCountOf cs (altered session_number d g ss) → All2 IsCountOf (c ∷ cs) (if t then g s ∷ ss else s ∷ altered session_number d g ss)
      from true ih = (count_later c s all.0, all.1)
      from false ih = (all.0, ih)

  behind : (cs : List Count) (later first : List Session) → All2 IsCountOf cs first → AreCountsOf (Some cs) (altered session_number d g (later ++ first))
  behind cs [] first all = ([], altered session_number d g first, refl, all_later cs first all)
  behind cs (s ∷ rest) first all = from (s.number == d) (behind cs rest first all)
    where
      from : (t : Bool) → AreCountsOf (Some cs) (altered session_number d g (rest ++ first)) → AreCountsOf (Some cs) (if t then g s ∷ (rest ++ first) else s ∷ altered session_number d g (rest ++ first))
      from true ih = (g s ∷ rest, first, refl, all)
      from false ih = (s ∷ ih.0, ih.1, ap (λ (l : List Session). s ∷ l) ih.2, ih.3)

  pub counts_altered : (counted : LinksNote) (ss : List Session) → AreCountsOf counted ss → AreCountsOf counted (altered session_number d g ss)
  counts_altered None ss c = tt
  counts_altered (Some cs) ss c = subst (λ (l : List Session). AreCountsOf (Some cs) (altered session_number d g l)) (sym c.2) (behind cs c.0 c.1 c.3)
