-- A run on a log that was mounted: it was played whole, memory was wanted, or the sink failed.
use Rattle.std.proofs.Common.{◌≡◌, ℕ, Bool, true, List, [], ◌∷◌, ◌++◌, ap, ◌∙◌, Option}
use Rattle.muck_io.specs.Faults.{Rose}
use Rattle.muck_model.specs.declared.event.Entry.{Entry}
use Rattle.muck_model.specs.declared.event.Event.TheVariants.{Died}
use Rattle.muck_model.specs.declared.note.Note.{Note}
use Rattle.muck_log.specs.Store.{LogState}
use Rattle.spec_dumps.specs.Survival.{IsSafe}
use Rattle.spec_events.specs.World.{World}
use Rattle.spec_events.specs.Histories.{History, now, Longer, by_porter, AllLawful}
use Rattle.muck_script.specs.declared.act.Act.{Act}
use Rattle.muck_script.specs.Story.{lines_story}
use Rattle.muck_run.specs.Outcome.{halted}
use Rattle.muck_run.specs.inner.Dumps.{DumpsLast, IsNotedOn}
use Rattle.muck_run.specs.inner.Ends.{HasPlayed, IsNoteOf, IsNotedAt, EndsPlay, ComesOutAs, LastKept, MayEndDump, booted_from, begun_at}
use Rattle.muck_run.specs.inner.Plays.{Plays, Breaks}
use Rattle.muck_why.specs.declared.why.Why.{Why}
use Rattle.muck_why.specs.declared.why.Why.TheVariants.{NoMemory, WriteFault}
use Rattle.muck_run.proofs.Ending.{has_run, start_is, lawful_from, safe_from, whole_from, full_from, failed_from}
use Rattle.muck_run.proofs.Whole.{died_playing, halted_off}

module _ {K D : Type 0} (written : K → Option (List ℕ)) (breaks : K → ℕ) (tells : Bool) (seen : D → List ℕ) (moment : D → ℕ) (images : D → ℕ → List ℕ → Type 0) (faults : D → ℕ) (log : LogState) (note : Note) (acts : List Act) (h : History) (begins : h ≡ begun_at 0 log note) (before after : K)
    (first second first' second' : D) (at : IsNoteOf moment faults first second note) (tale : List Entry) (notes : List Note) where
  abbrev start : World
  start = booted_from log.chosen.held.world

  abbrev mounted : ℕ
  mounted = log.chosen.held.number

  abbrev Comes : Why → Type 0
  Comes why = HasPlayed written breaks tells seen moment images faults log why acts before after first second first' second' tale notes

  starts : h.start ≡ start
  starts = start_is start note h begins

  -- the notes of the run begin with that of the mounting
  noted_at : (m : History) → IsNotedOn h m → notes ≡ m.notes → IsNotedAt moment faults first second notes
  noted_at m on is = record {
    note = note;
    others = on.since;
    noted = is ∙ on.notes ∙ ap (λ (x : History). x.notes ++ on.since) begins;
    is = at;
  }

  pub played : (why : Why) (k m : History) → Plays (lines_story acts) h k (written before) (written after) → breaks after ≡ breaks before → MayEndDump tells why → ((o : Option (List ℕ)) → EndsPlay k m o why) → ComesOutAs k m why → DumpsLast k m → IsNotedOn h m
      → (tells ≡ true → LastKept seen moment images faults first' second' mounted m why) → tale ≡ m.entries → notes ≡ m.notes → AllLawful m.start tale → Comes why
  played why k m p fine may dumps came last on kept ends noted lawful =
      let same : m.start ≡ start = last.1.start ∙ p.history.start ∙ starts in
      record {
        lawful = lawful_from start m.start tale same lawful;
        run = has_run written breaks tells start note why acts h k m before after tale begins may p dumps came ends fine;
        noted = noted_at m on noted;
        safe = λ t. safe_from seen moment images faults first' second' mounted start m tale notes same ends noted (kept t).safe;
        whole = λ t e. whole_from seen moment images faults first' second' mounted start m tale notes same ends noted ((kept t).whole e);
        full = λ end more t e. full_from seen moment images faults first' second' mounted start m tale notes same ends noted end more ((kept t).full end more e);
        failed = λ t e. failed_from seen moment images faults first' second' mounted start m tale notes same ends noted ((kept t).failed e);
      }

  pub died : (k : History) → Breaks (lines_story acts) (by_porter Died ∷ []) h k (written before) (written after) → breaks after ≡ breaks before → IsNotedOn h k → (tells ≡ true → IsSafe moment images faults first' second' k.start mounted k.entries k.notes)
      → tale ≡ k.entries → notes ≡ k.notes → AllLawful k.start tale → Comes NoMemory
  died k p fine on safe ends noted lawful =
      let same : k.start ≡ start = p.history.start ∙ starts in
      record {
        lawful = lawful_from start k.start tale same lawful;
        run = (died_playing start note acts h begins k _ _ tale p ends, fine);
        noted = noted_at k on noted;
        safe = λ t. safe_from seen moment images faults first' second' mounted start k tale notes same ends noted (safe t);
        whole = λ t e. cc;
        full = λ end more t e. cc;
        failed = λ t e. cc;
      }

  pub broke : (k l m : History) → Breaks (lines_story acts) [] h k (written before) (written after) → Rose (breaks before) (breaks after) → Longer k l (halted (now k)) → DumpsLast l m → IsNotedOn h m → (tells ≡ true → IsSafe moment images faults first' second' m.start mounted m.entries m.notes)
      → tale ≡ m.entries → notes ≡ m.notes → AllLawful m.start tale → Comes WriteFault
  broke k l m p rose stops last on safe ends noted lawful =
      let same : m.start ≡ start = last.1.start ∙ stops.start ∙ p.history.start ∙ starts in
      record {
        lawful = lawful_from start m.start tale same lawful;
        run = (halted_off start note acts h begins k l m _ _ tale p stops last ends, rose);
        noted = noted_at m on noted;
        safe = λ t. safe_from seen moment images faults first' second' mounted start m tale notes same ends noted (safe t);
        whole = λ t e. cc;
        full = λ end more t e. cc;
        failed = λ t e. cc;
      }
