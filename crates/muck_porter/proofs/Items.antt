-- Items of a history.
use Rattle.std.proofs.Common.{◌≡◌, ℕ, suc, false, List, [], ◌∷◌, ◌++◌, refl, ap, Some, None}
use Rattle.std.specs.Prelude.{is_some}
use Rattle.muck_model.specs.declared.note.Note.{Note}
use Rattle.muck_model.specs.declared.note.Count.{Count}
use Rattle.spec_events.specs.declared.logged.Logged.{Logged}
use Rattle.spec_events.specs.World.{World}
use Rattle.spec_events.specs.Logged.{NoCounts, placed_count, count_from}
use Rattle.spec_serve.specs.Marks.{LinksNote, counts_in}
use Rattle.muck_work.specs.declared.Beginning.{Beginning}
use Rattle.muck_work.specs.inner.Beginnings.{begun}
use Rattle.muck_porter.specs.inner.Notes.{first_note, note_in}

-- the world of the beginning
pub same_world : (u w : World) (m m' : Note) → ◌≡◌ {A = List Beginning} (begun u m ∷ []) (begun w m' ∷ []) → u ≡ w
same_world u w m m' e = ap head_world e
  where
    head_world : List Beginning → World
    head_world [] = u
    head_world (b ∷ bs) = b.world

-- The note of the links.

pub note_append : (a b : List Logged) → note_in (a ++ b) ≡ first_note (note_in a) (note_in b)
note_append [] b = refl
note_append (l ∷ ls) b = from l.counted (note_append ls b)
  where
    from : (o : LinksNote) → note_in (ls ++ b) ≡ first_note (note_in ls) (note_in b) → first_note o (note_in (ls ++ b)) ≡ first_note (first_note o (note_in ls)) (note_in b)
    from None e = e
    from (Some cs) e = refl

-- where there is none, no item has one
pub note_none : (ls : List Logged) → note_in ls ≡ None → NoCounts ls
note_none [] e = tt
note_none (l ∷ ls) e = from l.counted refl e (note_none ls)
  where
    some_none : (cs : List Count) → ◌≡◌ {A = LinksNote} (Some cs) None → ⊥
    some_none cs e = cc

    from : (o : LinksNote) → l.counted ≡ o → first_note o (note_in ls) ≡ None → (note_in ls ≡ None → NoCounts ls) → (l.counted ≡ None) × NoCounts ls
    from None is e ih = (is, ih e)
    from (Some cs) is e ih = absurd (some_none cs e)

pub some_is : (o : LinksNote) → false ≡ is_some o → o ≡ None
some_is None e = refl
some_is (Some cs) e = cc

-- the note of a history, by its items
pub note_count : (n : ℕ) (ls : List Logged) → counts_in (count_from n ls) ≡ note_in ls
note_count n [] = refl
note_count n (l ∷ ls) = from l.counted (note_count (suc n) ls)
  where
    from : (o : LinksNote) → counts_in (count_from (suc n) ls) ≡ note_in ls → counts_in (placed_count n o (count_from (suc n) ls)) ≡ first_note o (note_in ls)
    from None e = e
    from (Some cs) e = refl

-- Items of a list.
