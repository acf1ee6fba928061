-- What a run of `debug` comes to, from how it was played.
use Rattle.std.proofs.Common.{◌≡◌, ◌⊎◌, inl, inr, ℕ, ◌≤◌, Bool, true, List, [], ◌∷◌, ◌++◌, length, take, drop, refl, sym, ◌∙◌, ap, subst, arith, append_assoc, append-nil, length-append, Option, Some, None, Ok, Err}
use Rattle.std.proofs.lemmas.Grind.{flat_map-append}
use Rattle.std.proofs.lemmas.List.{take_all}
use Rattle.std.specs.Prelude.{codes}
use Rattle.muck_io.specs.Faults.{Rose}
use Rattle.muck_model.specs.declared.event.Entry.{Entry}
use Rattle.muck_model.specs.declared.event.Event.TheVariants.{Died}
use Rattle.muck_model.specs.declared.note.Note.{Note}
use Rattle.muck_log.specs.Store.{Chosen, LogState, store_of}
use Rattle.muck_log.specs.World.{IsFine}
use Rattle.muck_log.specs.inner.Mount.{IsMountedAs}
use Rattle.spec_dumps.specs.Fronts.{file_most}
use Rattle.spec_events.specs.World.{World}
use Rattle.spec_events.specs.Histories.{History, now, after, Longer, by_porter}
use Rattle.spec_events.proofs.Runs.{now-longer}
use Rattle.muck_script.specs.Story.{Dumped, outcome, outcomes_of, transcript_of, lines_story, dump_part, story}
use Rattle.muf_debug.specs.Shown.{Tracer, new_tracer}
use Rattle.muck_debugging.specs.declared.act.DebugAct.{DebugAct}
use Rattle.muck_debugging.specs.Seen.{SeenPiece, text_of_all, units_of_all, plain_acts, debug_pieces}
use Rattle.muck_debugging.specs.Laws.{are_texts}
use Rattle.muck_debugging.proofs.Apart.{shows_apart}
use Rattle.muck_run.specs.Outcome.{halted, IsUnbegun, IsUntouched, EndsAs, EndsFull}
use Rattle.muck_watching.specs.Debugged.{IsFirstOutsideDebug, IsDebugScriptLeft, WroteWhole, WroteFront, HasReadDebugScript, WritesTo, HasWrittenSeen, HasDebugged, DebugDone}
use Rattle.muck_run.specs.declared.playing.RunFault.{RunFault}
use Rattle.muck_why.specs.declared.why.Why.{Why}
use Rattle.muck_why.specs.declared.why.Why.TheVariants.{Usage, BadScript, NoMemory, ReadFault, WriteFault, DiskFault, Damaged, StoreFull}
use Rattle.muck_why.specs.Causes.{Ending, end_of}
use Rattle.muck_why.specs.inner.Endings.{EndsDump}
use Rattle.muck_run.specs.inner.Dumps.{DumpsLast}
use Rattle.muck_run.specs.inner.Ends.{PlaysTo, EndsPlay, MayEndDump, HasPlayed, booted_from}
use Rattle.muck_run.specs.inner.Plays.{Plays, Breaks, ending_of}
use Rattle.muck_watching.specs.inner.Seen.{PlaysLines, BreaksLines, IsDebugWhy}
use Rattle.muck_run.proofs.Parts.{appends_as, outcomes-append, goes_second, pending_behind}
use Rattle.muck_run.proofs.Called.{completes, has_begun}
use Rattle.muck_run.proofs.Ending.{dump_ends}
use Rattle.muck_watching.proofs.Onward.{length-debug}
use Rattle.muck_run.proofs.Whole.{begun, begun_now, played_whole}

-- what happened, apart from what was written of it
pub plain_plays : (acts : List DebugAct) (t : Tracer) (h k : History) (a b : Option (List ℕ)) → PlaysLines acts t h k a b → Plays (lines_story (plain_acts acts)) h k None None
plain_plays acts t h k a b p = record { entries = p.entries; said = p.said; history = p.history; text = tt; alive = p.alive }

pub plain_breaks : (acts : List DebugAct) (ending : List Entry) (t : Tracer) (h k : History) (a b : Option (List ℕ)) → BreaksLines acts ending t h k a b → Breaks (lines_story (plain_acts acts)) ending h k None None
plain_breaks acts ending t h k a b p = record {
  front = p.front;
  pending = p.pending;
  began = p.began;
  whole = p.whole;
  history = p.history;
  told = [];
  untold = transcript_of (now h) p.front;
  text = refl;
  appended = tt;
  alive = p.alive;
}

-- the ending of a run by its fault
pub broke_lines : (acts : List DebugAct) (t : Tracer) (h k : History) (a b : Option (List ℕ)) (fault is : RunFault) → fault ≡ is → BreaksLines acts (ending_of fault) t h k a b → BreaksLines acts (ending_of is) t h k a b
broke_lines acts t h k a b fault is e p = let P : RunFault → Type 0 = λ x. BreaksLines acts (ending_of x) t h k a b in subst P e p

module _ (w : World) (note : Note) (acts : List DebugAct) (t : Tracer) (fresh : t ≡ new_tracer) (h : History) (is : h ≡ begun w note) where
  here : now h ≡ w
  here = begun_now h w note is

  -- what happened behind the beginning is all that happened
  all_entries : (k : History) (es : List Entry) → Longer h k es → k.entries ≡ es
  all_entries k es l = l.entries ∙ ap (λ (x : History). x.entries ++ es) is

  -- the pieces from the world and the tracer of the beginning
  pieces_here : (os : List Dumped) → debug_pieces acts os (now h) t ≡ debug_pieces acts os w new_tracer
  pieces_here os = ap (λ (x : World). debug_pieces acts os x t) here ∙ ap (λ (x : Tracer). debug_pieces acts os w x) fresh

  story_here : (os : List Dumped) → story (plain_acts acts) os (now h) ≡ story (plain_acts acts) os w
  story_here os = ap (story (plain_acts acts) os) here

  pub wrote_whole : (k m : History) (a b : Option (List ℕ)) (tale : List Entry) → PlaysLines acts t h k a b → Plays dump_part k m None None → tale ≡ m.entries → WroteWhole w acts a b tale
  wrote_whole k m a b tale p d end =
      let all : tale ≡ p.entries ++ d.entries = end ∙ d.history.entries ∙ ap (λ (es : List Entry). es ++ d.entries) (all_entries k p.entries p.history) in
      let os : outcomes_of tale ≡ outcomes_of p.entries ++ outcomes_of d.entries = ap outcomes_of all ∙ flat_map-append (λ (e : Entry). outcome e.event) p.entries d.entries in
      let pieces : p.pieces ≡ debug_pieces acts (outcomes_of tale) w new_tracer =
      sym (p.made (outcomes_of d.entries)) ∙ ap (λ xs. debug_pieces acts xs (now h) t) (sym os) ∙ pieces_here (outcomes_of tale) in
      record {
        history = (played_whole w note (plain_acts acts) h is k m None None tale (plain_plays acts t h k a b p) d end).history;
        text = appends_as a b _ _ (ap text_of_all pieces) p.text;
        apart = shows_apart acts (outcomes_of tale) w new_tracer (sym (ap (λ (ps : List SeenPiece). are_texts (units_of_all ps)) pieces) ∙ p.texts);
      }

  -- what the story of the lines begins with, that of the script with its last dump begins with
  story_whole : (front rest : List Entry) (os : List Dumped) → front ++ rest ≡ lines_story (plain_acts acts) os (now h) → (more : List Entry) × (front ++ more ≡ story (plain_acts acts) os w)
  story_whole front rest os e =
      let es = lines_story (plain_acts acts) os (now h) in
      let others = dump_part (drop (length (outcomes_of es)) os) (after (now h) es) in
      (rest ++ others, sym (append_assoc front rest others) ∙ ap (λ (xs : List Entry). xs ++ others) e ∙ story_here os)

  -- memory was wanted
  pub wrote_died : (k : History) (a b : Option (List ℕ)) (tale : List Entry) → BreaksLines acts (by_porter Died ∷ []) t h k a b → tale ≡ k.entries → WroteFront w NoMemory acts a b tale
  wrote_died k a b tale p end = record {
    front = p.front;
    pending = p.pending;
    began = p.began;
    whole = λ later. let part = p.whole later in story_whole p.front part.0 (outcomes_of p.front ++ (p.pending ++ later)) part.1;
    ending = by_porter Died ∷ [];
    ends = refl;
    history = end ∙ all_entries k _ p.history;
    told = p.told;
    untold = p.untold;
    text = λ later. let os : List Dumped = outcomes_of p.front ++ (p.pending ++ later) in p.text later ∙ ap (λ (ps : List SeenPiece). text_of_all (take (length p.front) ps)) (pieces_here os);
    appended = p.appended;
  }

  -- it was wanted for the last dump
  pub wrote_dying : (k m : History) (a b : Option (List ℕ)) (tale : List Entry) → PlaysLines acts t h k a b → Breaks dump_part (by_porter Died ∷ []) k m None None → tale ≡ m.entries → WroteFront w NoMemory acts a b tale
  wrote_dying k m a b tale p d end =
      let next : now k ≡ after (now h) p.entries = now-longer h k _ p.history in
      record {
        front = p.entries ++ d.front;
        pending = d.pending;
        began = pending_behind p.entries d.front d.pending d.began;
        whole = λ later.
            let part = d.whole later in (
              part.0,
              append_assoc p.entries d.front part.0 ∙ ap (λ es. p.entries ++ es) part.1
                  ∙ sym (goes_second (lines_story (plain_acts acts)) dump_part (now h) (now k) p.entries d.front (d.pending ++ later) next p.said)
                  ∙ story_here (outcomes_of (p.entries ++ d.front) ++ (d.pending ++ later)),
            );
        ending = by_porter Died ∷ [];
        ends = refl;
        history =
            end ∙ d.history.entries ∙ ap (λ (es : List Entry). es ++ (d.front ++ by_porter Died ∷ [])) (all_entries k p.entries p.history)
            ∙ sym (append_assoc p.entries d.front (by_porter Died ∷ []));
        told = text_of_all p.pieces;
        untold = [];
        text = λ later.
            let left : List Dumped = outcomes_of d.front ++ (d.pending ++ later) in
            let os : outcomes_of (p.entries ++ d.front) ++ (d.pending ++ later) ≡ outcomes_of p.entries ++ left = outcomes-append p.entries d.front (d.pending ++ later) in
            let made : debug_pieces acts (outcomes_of (p.entries ++ d.front) ++ (d.pending ++ later)) w new_tracer ≡ p.pieces =
            sym (pieces_here (outcomes_of (p.entries ++ d.front) ++ (d.pending ++ later))) ∙ ap (λ xs. debug_pieces acts xs (now h) t) os ∙ p.made left in
            let count : length p.pieces ≡ length p.entries =
            sym (ap (λ (ps : List SeenPiece). length ps) (p.made left)) ∙ length-debug acts (outcomes_of p.entries ++ left) (now h) t ∙ ap (λ (es : List Entry). length es) (p.said left) in
            let few : length p.pieces ≤ length (p.entries ++ d.front) = omega (arith, count, length-append p.entries d.front) in
            append-nil (text_of_all p.pieces)
            ∙ sym (ap text_of_all (ap (take (length (p.entries ++ d.front))) made ∙ take_all (length (p.entries ++ d.front)) p.pieces few));
        appended = p.text;
      }

  -- the sink failed: the world was halted, and dumped all the same
  pub wrote_front : (k l m : History) (a b : Option (List ℕ)) (tale : List Entry) → BreaksLines acts [] t h k a b → Longer k l (halted (now k)) → DumpsLast l m → tale ≡ m.entries → WroteFront w WriteFault acts a b tale
  wrote_front k l m a b tale p stops dump end =
      let same : k.entries ≡ p.front = all_entries k _ p.history ∙ append-nil p.front in
      let there : now k ≡ after w p.front = now-longer h k (p.front ++ []) p.history ∙ ap (after (now h)) (append-nil p.front) ∙ ap (λ (x : World). after x p.front) here in
      record {
        front = p.front;
        pending = p.pending;
        began = p.began;
        whole = λ later. let part = p.whole later in story_whole p.front part.0 (outcomes_of p.front ++ (p.pending ++ later)) part.1;
        ending = halted (after w p.front) ++ dump.0;
        ends = (dump.0, refl, dump.2);
        history =
            end ∙ dump.1.entries ∙ ap (λ es. es ++ dump.0) (stops.entries ∙ ap (λ es. es ++ halted (now k)) same ∙ ap (λ (x : World). p.front ++ halted x) there)
            ∙ append_assoc p.front (halted (after w p.front)) dump.0;
        told = p.told;
        untold = p.untold;
        text = λ later. let os : List Dumped = outcomes_of p.front ++ (p.pending ++ later) in p.text later ∙ ap (λ (ps : List SeenPiece). text_of_all (take (length p.front) ps)) (pieces_here os);
        appended = p.appended;
      }

  -- a script that was played whole, by the ending to which its last dump led
  writes_to : (end : Ending) (k m : History) (a b : Option (List ℕ)) (tale : List Entry) → EndsDump end → PlaysLines acts t h k a b → ((o : Option (List ℕ)) → PlaysTo k m o end) → tale ≡ m.entries → WritesTo w end acts a b tale
  writes_to Ending.stored k m a b tale may p d entries = wrote_whole k m a b tale p (d None) entries
  writes_to Ending.failed k m a b tale may p d entries = wrote_whole k m a b tale p (d None) entries
  writes_to Ending.died k m a b tale may p d entries = wrote_dying k m a b tale p (d None) entries
  writes_to end k m a b tale may p d entries = absurd may

  pub wrote_by : (tells : Bool) (why : Why) (k m : History) (a b : Option (List ℕ)) (tale : List Entry) → MayEndDump tells why → PlaysLines acts t h k a b → ((o : Option (List ℕ)) → EndsPlay k m o why) → tale ≡ m.entries → HasWrittenSeen w why acts a b tale
  wrote_by tells why k m a b tale may p d entries = writes_to (end_of why) k m a b tale (dump_ends tells why may) p d entries

-- What a call answers.

-- where no script was read, it wasn't begun
pub unread_ends : (left : Option (List ℕ)) (why : Why) (U B : Type 0) → IsDebugWhy left why → U → EndsAs why U B
unread_ends left (BadScript line) U B is u = u
unread_ends left NoMemory U B is u = inl u
unread_ends left ReadFault U B is u = u
unread_ends left why U B is u = absurd is

grammar_stands : (left : Option (List ℕ)) (line : ℕ) → IsDebugScriptLeft left → IsFirstOutsideDebug left line → ⊥
grammar_stands None line is outside = is
grammar_stands (Some bytes) line is outside = let both = sym is.1 ∙ outside in cc

-- A run of `debug` that was played has begun, on the log that the files held: all is so as after one of `run` that reads and writes nothing.
module _ {S K D : Type 0} (left : S → Option (List ℕ)) (faults : S → ℕ) (written : K → Option (List ℕ)) (breaks : K → ℕ) (tells : Bool) (attached : D → Option (List ℕ)) (seen : D → List ℕ) (moment : D → ℕ) (images : D → ℕ → List ℕ → Type 0) (fails : D → ℕ) (store : List ℕ)
    (log : LogState) (why : Why) (acts : List DebugAct) (s t : S) (k l : K) (first second first' second' first'' second'' : D) (tale : List Entry) (notes : List Note) where
  pub has_debugged : (tells ≡ true → IsMountedAs seen moment images file_most log first' second') → IsFine log.chosen.held.world
      → (tells ≡ true → attached first' ≡ Some (store ++ codes ".a")) → (tells ≡ true → attached second' ≡ Some (store ++ codes ".b"))
      → attached first'' ≡ attached first' → attached second'' ≡ attached second'
      → (tells ≡ true → IsUntouched seen moment images first first') → (tells ≡ true → IsUntouched seen moment images second second') → fails first ≤ fails first' → fails second ≤ fails second' → HasReadDebugScript left faults s t acts
      → HasPlayed (λ _. None) breaks tells seen moment images fails log why (plain_acts acts) k l first' second' first'' second'' tale notes
      → HasWrittenSeen (booted_from log.chosen.held.world) why acts (written k) (written l) tale
      → HasDebugged left faults written breaks tells attached seen moment images fails store why s t k l first second first'' second'' tale notes
  unfolding has_begun
  has_debugged mounted fine name_a name_b still_a still_b a b later_a later_b read p wrote = record {
    run = has_begun (λ _. None) faults (λ _. None) breaks tells attached seen moment images fails store log why (plain_acts acts) s t k l first second first' second' first'' second'' tale notes mounted fine name_a name_b
        still_a still_b a b later_a later_b (record { script = tt; read = tt; fine = read.fine }) p;
    acts = acts;
    read = read;
    plain = refl;
    wrote = wrote;
  }

-- What a call for `debug` comes to: where nothing stood in its way follows from the causes of its answers.
module _ {S K D : Type 0} (left : S → Option (List ℕ)) (faults : S → ℕ) (written : K → Option (List ℕ)) (breaks : K → ℕ) (tells : Bool) (attached : D → Option (List ℕ)) (seen : D → List ℕ) (moment : D → ℕ) (images : D → ℕ → List ℕ → Type 0) (fails : D → ℕ) (store : List ℕ)
    (why : Why) (s t : S) (k l : K) (first second first' second' : D) (tale : List Entry) (notes : List Note) where
  abbrev Debugged : Type 0
  Debugged = HasDebugged left faults written breaks tells attached seen moment images fails store why s t k l first second first' second' tale notes

  -- its last dump was too large
  ends_full : tells ≡ true → (end more : ℕ) → why ≡ StoreFull end more → Debugged → EndsFull tells seen 0 first second first' second' tale notes end more
  ends_full on end more is b = record { start = b.run.start; mounted = b.run.mounted; begins = b.run.begins; full = b.run.full end more on is }

  pub debug_done : EndsAs why (IsUnbegun tells seen moment images k l first second first' second' tale) Debugged
      → (why ≡ Usage → ⊥)
      → ((line : ℕ) → why ≡ BadScript line → IsFirstOutsideDebug (left s) line)
      → (why ≡ ReadFault → Rose (faults s) (faults t))
      → (why ≡ WriteFault → Rose (breaks k) (breaks l))
      → (why ≡ DiskFault → Rose (fails first) (fails first') ⊎ Rose (fails second) (fails second'))
      → ((file : Bool) (at : ℕ) → tells ≡ true → why ≡ Damaged file at → store_of (seen first) (seen second) ≡ Err (record { second = file; at = at }))
      → ((why ≡ ReadFault → ⊥) → faults t ≡ faults s)
      → ((why ≡ WriteFault → ⊥) → breaks l ≡ breaks k)
      → ((file : Bool) (at : ℕ) → tells ≡ true → why ≡ Damaged file at → t ≡ s)
      → (tells ≡ true → (why ≡ ReadFault) ⊎ ((line : ℕ) × (why ≡ BadScript line)) → (chosen : Chosen) × (store_of (seen first) (seen second) ≡ Ok chosen))
      → DebugDone left faults written breaks tells attached seen moment images fails store why s t k l first second first' second' tale notes
  debug_done ends usage bad_script read_fault write_fault disk_fault damaged source_stands sink_stands unread loads = record {
    ends = ends;
    usage = usage;
    bad_script = bad_script;
    read_fault = read_fault;
    write_fault = write_fault;
    disk_fault = disk_fault;
    damaged = damaged;
    source_stands = source_stands;
    sink_stands = sink_stands;
    unread = unread;
    loads = loads;
    complete = λ chosen on ok grammar source sink a b.
        completes _ chosen _ _ why ends usage (λ line e. grammar_stands (left s) line grammar (bad_script line e)) (λ e. source (read_fault e)) (λ e. sink (write_fault e))
        (λ e. elim (disk_fault e) [
          | inl rose ↦ a rose
          | inr rose ↦ b rose
        ])
        (λ file at e. damaged file at on e) ok _ (ends_full on);
  }
