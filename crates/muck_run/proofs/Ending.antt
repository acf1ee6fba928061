-- What a run comes to, from how it was played and how its last dump came out.
use Rattle.std.proofs.Common.{◌≡◌, ℕ, Bool, List, sym, ap, subst, ◌∙◌, Option}
use Rattle.muck_model.specs.declared.event.Entry.{Entry}
use Rattle.muck_model.specs.declared.note.Note.{Note}
use Rattle.spec_dumps.specs.Survival.{IsSafe, StandsWhole, RoseInLast}
use Rattle.spec_events.specs.World.{World}
use Rattle.spec_events.specs.Histories.{History, Longer, AllLawful}
use Rattle.muck_script.specs.declared.act.Act.{Act}
use Rattle.muck_script.specs.Story.{stored, failed, dump_entries, lines_story}
use Rattle.muck_run.specs.Outcome.{RunsTo, HasRun, EndsStored, EndsFailed, IsTooLarge}
use Rattle.muck_run.specs.inner.Plays.{Plays}
use Rattle.muck_run.specs.inner.Dumps.{IsFull}
use Rattle.muck_run.specs.inner.Ends.{PlaysTo, ComesOutTo, EndsPlay, ComesOutAs, MayEndDump}
use Rattle.muck_why.specs.declared.why.Why.{Why}
use Rattle.muck_why.specs.declared.why.Why.TheVariants.{Damaged}
use Rattle.muck_why.specs.Causes.{Ending, end_of}
use Rattle.muck_why.specs.inner.Endings.{EndsDump}
use Rattle.muck_run.proofs.Whole.{begun, played_whole, died_dumping}

pub ends_stored : (k m : History) (tale : List Entry) → tale ≡ m.entries → ((n : ℕ) × Longer k m (dump_entries (stored n))) → EndsStored tale
ends_stored k m tale end came = (k.entries, came.0, end ∙ came.1.entries)

pub ends_failed : (k m : History) (tale : List Entry) → tale ≡ m.entries → ((n : ℕ) × Longer k m (dump_entries (failed n))) → EndsFailed tale
ends_failed k m tale end came = (k.entries, came.0, end ∙ came.1.entries)

-- a run that was played whole, by the ending to which its last dump led
runs_to : {K : Type 0} (written : K → Option (List ℕ)) (breaks : K → ℕ) (w : World) (note : Note) (end : Ending) (acts : List Act) (h k m : History) (before after : K) (tale : List Entry) → h ≡ begun w note → EndsDump end →
    Plays (lines_story acts) h k (written before) (written after) → ((o : Option (List ℕ)) → PlaysTo k m o end) → ComesOutTo k m end → tale ≡ m.entries → breaks after ≡ breaks before → RunsTo written breaks w end acts before after tale
runs_to written breaks w note Ending.stored acts h k m before after tale is may p d came entries same = (played_whole w note acts h is k m _ _ tale p (d (written after)) entries, ends_stored k m tale entries came, same)
runs_to written breaks w note Ending.failed acts h k m before after tale is may p d came entries same = (played_whole w note acts h is k m _ _ tale p (d (written after)) entries, ends_failed k m tale entries came, same)
runs_to written breaks w note Ending.died acts h k m before after tale is may p d came entries same = (died_dumping w note acts h is k m _ _ tale p (d (written after)) entries, same)
runs_to written breaks w note end acts h k m before after tale is may p d came entries same = absurd may

-- whichever cause it is, it is one of a last dump
pub dump_ends : (tells : Bool) (why : Why) → MayEndDump tells why → EndsDump (end_of why)
dump_ends tells (Damaged second at) may = tt
dump_ends tells why may = may

pub has_run : {K : Type 0} (written : K → Option (List ℕ)) (breaks : K → ℕ) (tells : Bool) (w : World) (note : Note) (why : Why) (acts : List Act) (h k m : History) (before after : K) (tale : List Entry) → h ≡ begun w note → MayEndDump tells why →
    Plays (lines_story acts) h k (written before) (written after) → ((o : Option (List ℕ)) → EndsPlay k m o why) → ComesOutAs k m why → tale ≡ m.entries → breaks after ≡ breaks before → HasRun written breaks w why acts before after tale
has_run written breaks tells w note why acts h k m before after tale is may p d came entries same =
    runs_to written breaks w note (end_of why) acts h k m before after tale is (dump_ends tells why may) p d came entries same

-- a batch that is too large for the history so far
too_large : {D : Type 0} (seen : D → List ℕ) (f s : D) (mounted : ℕ) (m : History) (end more : ℕ) → IsFull seen f s mounted m end more → IsTooLarge seen f s m.start mounted m.entries m.notes end more
too_large seen f s mounted m end more v = record { n = v.n; store = v.store; held = v.shown; front = v.front; place = v.place; size = v.size; over = v.over }

-- a run began in w, and its tale is the entries of the history m
pub start_is : (w : World) (note : Note) (h : History) → h ≡ begun w note → h.start ≡ w
start_is w note h e = ap (λ (x : History). x.start) e

pub lawful_from : (w v : World) (tale : List Entry) → v ≡ w → AllLawful v tale → AllLawful w tale
lawful_from w v tale e l = subst (λ (x : World). AllLawful x tale) e l

module _ {D : Type 0} (seen : D → List ℕ) (moment : D → ℕ) (images : D → ℕ → List ℕ → Type 0) (faults : D → ℕ) (f s : D) (mounted : ℕ) (w : World) (m : History) (tale : List Entry) (notes : List Note) (starts : m.start ≡ w) (ends : tale ≡ m.entries) (noted : notes ≡ m.notes) where
  pub safe_from : IsSafe moment images faults f s m.start mounted m.entries m.notes → IsSafe moment images faults f s w mounted tale notes
  safe_from v =
      subst (λ (x : World). IsSafe moment images faults f s x mounted tale notes) starts
      (subst (λ (es : List Entry). IsSafe moment images faults f s m.start mounted es notes) (sym ends)
      (subst (λ (ns : List Note). IsSafe moment images faults f s m.start mounted m.entries ns) (sym noted) v))

  pub whole_from : StandsWhole moment images f s m.start m.entries → StandsWhole moment images f s w tale
  whole_from v =
      subst (λ (x : World). StandsWhole moment images f s x tale) starts
      (subst (λ (es : List Entry). StandsWhole moment images f s m.start es) (sym ends) v)

  pub full_from : (end more : ℕ) → IsFull seen f s mounted m end more → IsTooLarge seen f s w mounted tale notes end more
  full_from end more v =
      subst (λ (x : World). IsTooLarge seen f s x mounted tale notes end more) starts
      (subst (λ (es : List Entry). IsTooLarge seen f s m.start mounted es notes end more) (sym ends)
      (subst (λ (ns : List Note). IsTooLarge seen f s m.start mounted m.entries ns end more) (sym noted) (too_large seen f s mounted m end more v)))

  pub failed_from : RoseInLast m.notes → RoseInLast notes
  failed_from v = subst (λ (ns : List Note). RoseInLast ns) (sym noted) v
