-- Items of a history that is shared, and its entries.
use Rattle.std.proofs.Common.{◌≡◌, ℕ, Bool, true, false, List, [], ◌∷◌, refl, ap, ◌∙◌}
use Rattle.std.specs.Prelude.{◌==◌}
use Rattle.turn_lock.specs.Histories.{entry_kept, own_of}
use Rattle.spec_events.specs.declared.logged.Logged.{Logged}
use Rattle.spec_events.specs.Logged.{logged_by, entries_of}
use Rattle.spec_talks.specs.Parties.{party_of}

-- the entries of a party's own items are its own entries
pub own_entries_of : (p : ℕ) (ls : List Logged) → entries_of (own_of logged_by p ls) ≡ own_of party_of p (entries_of ls)
own_entries_of p [] = refl
own_entries_of p (l ∷ ls) = from (l.entry.party == p) ∙ ap (entry_kept (l.entry.party == p) l.entry) (own_entries_of p ls)
  where
    from : (t : Bool) → entries_of (entry_kept t l (own_of logged_by p ls)) ≡ entry_kept t l.entry (entries_of (own_of logged_by p ls))
    from true = refl
    from false = refl
