-- From what the porter leaves to the whole history, once the lock is closed.
use Rattle.std.proofs.Common.{◌≡◌, ℕ, true, List, [], ◌∷◌, ◌++◌, sym, ap, ◌∙◌, subst, append_assoc, Option}
use Rattle.turn_lock.specs.Histories.{StartsWith, own_of}
use Rattle.muck_model.specs.declared.note.Note.{Note}
use Rattle.spec_events.specs.declared.logged.Logged.{Logged}
use Rattle.spec_events.specs.World.{World}
use Rattle.spec_events.specs.Histories.{after, AllLawful}
use Rattle.spec_events.specs.Logged.{logged_by, entries_of, count_from}
use Rattle.spec_events.proofs.Logging.{entries_append}
use Rattle.spec_talks.specs.Parties.{party_of}
use Rattle.spec_talks.specs.Talks.{Talk, talks}
use Rattle.spec_talks.proofs.Talking.{talks_same}
use Rattle.spec_talks.proofs.Items.{own_entries_of}
use Rattle.spec_serve.specs.Marks.{counts_in, IsLinksNote}
use Rattle.spec_serve.specs.Promises.{Tally, PromisedOf, OpenWorkedOff}
use Rattle.spec_serve.proofs.Promising.{promised_whole}
use Rattle.muck_work.specs.inner.Beginnings.{begun}
use Rattle.muck_work.specs.inner.Seats.{Sight, AllOrderly}
use Rattle.muck_porter.specs.inner.Notes.{note_in}
use Rattle.muck_porter.specs.inner.Kept.{KeptBy, Stopped}
use Rattle.muck_porter.specs.Times.{Timely, TimedBy}
use Rattle.muck_porter.proofs.Timing.{timely_same}
use Rattle.muck_porter.proofs.Items.{note_count}
use Rattle.muck_porter.proofs.Noted.{note_own, noted_same, links_note}

-- the note of the links of a history in order is that of the porter's own items
pub note_whole : (ls : List Logged) → AllOrderly ls → counts_in (count_from 0 ls) ≡ note_in (own_of logged_by 0 ls)
note_whole ls all = note_count 0 ls ∙ note_own ls all

entries_start : (ls seen : List Logged) → StartsWith ls seen → StartsWith (entries_of ls) (entries_of seen)
entries_start ls seen more = (entries_of more.0, ap entries_of more.1 ∙ entries_append seen more.0)

same_own : (ls front : List Logged) → own_of logged_by 0 ls ≡ own_of logged_by 0 front → own_of party_of 0 (entries_of ls) ≡ own_of party_of 0 (entries_of front)
same_own ls front is = sym (own_entries_of 0 ls) ∙ ap entries_of is ∙ own_entries_of 0 front

-- The front that the porter vouches for, as a front of the whole, in which it did nothing more.
record Fronted (front ls : List Logged) : Type 0 where
  pub begins_so : StartsWith (entries_of ls) (entries_of front)
  pub no_more : own_of party_of 0 (entries_of ls) ≡ own_of party_of 0 (entries_of front)

fronted : (v : Sight) (front ls : List Logged) → StartsWith v.seen front → v.own ≡ own_of logged_by 0 front → StartsWith ls v.seen → v.own ≡ own_of logged_by 0 ls → Fronted front ls
fronted v front ls seen mine more own = record {
  begins_so = entries_start ls front (seen.0 ++ more.0, more.1 ∙ ap (λ (x : List Logged). x ++ more.0) seen.1 ∙ append_assoc front seen.0 more.0);
  no_more = same_own ls front (sym own ∙ mine);
}

-- What is promised of all links, of the whole history.
pub kept_whole : (b : Tally) (v : Sight) (k : Tally) (w : World) (m : Note) (ls : List Logged) → v.root ≡ begun w m ∷ [] → StartsWith ls v.seen → v.own ≡ own_of logged_by 0 ls → AllLawful w (entries_of ls)
    → KeptBy b v k → PromisedOf (note_in v.own) b w (entries_of ls) k
kept_whole b v k w m ls root more own lawful kept_by =
    let f = fronted v kept_by.front ls kept_by.seen kept_by.own more own in
    promised_whole (note_in v.own) b w (entries_of kept_by.front) (entries_of ls) k lawful f.begins_so f.no_more (kept_by.promised w m root)

-- Each moment of the whole history is the clock's.
pub timed_whole : (before now : Option (List ℕ)) (v : Sight) (w : World) (m : Note) (ls : List Logged) → v.root ≡ begun w m ∷ [] → StartsWith ls v.seen → v.own ≡ own_of logged_by 0 ls → AllLawful w (entries_of ls)
    → TimedBy before now v → Timely before now w (entries_of ls)
timed_whole before now v w m ls root more own lawful timed_by =
    let f = fronted v timed_by.front ls timed_by.seen timed_by.own more own in
    timely_same before now w (entries_of timed_by.front) (entries_of ls) lawful f.begins_so f.no_more (timed_by.timely w m root)

-- The note of the links of the whole history stands where it has to.
pub noted_whole : (before now : Option (List ℕ)) (v : Sight) (w : World) (m : Note) (ls : List Logged) → v.root ≡ begun w m ∷ [] → StartsWith ls v.seen → v.own ≡ own_of logged_by 0 ls → AllOrderly ls
    → TimedBy before now v → IsLinksNote (count_from 0 ls) w (entries_of ls)
noted_whole before now v w m ls root more own orderly t =
    let front : StartsWith ls t.front = (t.seen.0 ++ more.0, more.1 ∙ ap (λ (x : List Logged). x ++ more.0) t.seen.1 ∙ append_assoc t.front t.seen.0 more.0) in
    links_note w ls (noted_same w t.front ls orderly front (sym own ∙ t.own) (t.noted w m root))

-- Where the porter has seen the stop, each connection that is open is worked off in the world in which it entered that.
pub stopped_whole : (v : Sight) (k : Tally) (w : World) (m : Note) (ls : List Logged) → v.root ≡ begun w m ∷ [] → StartsWith ls v.seen → v.own ≡ own_of logged_by 0 ls → AllLawful w (entries_of ls)
    → (s : Stopped v k) → ((after w (entries_of s.before)).stopping ≡ true) × OpenWorkedOff (note_in v.own) (after w (entries_of s.before)) (talks w (entries_of ls)) k
stopped_whole v k w m ls root more own lawful s = (
  s.stopping w m root,
  subst (λ (ts : List Talk). OpenWorkedOff (note_in v.own) (after w (entries_of s.before)) ts k)
      (sym (talks_same w (entries_of v.seen) (entries_of ls) lawful (entries_start ls v.seen more) (same_own ls v.seen (sym own ∙ s.own)))) (s.worked w m root),
)
