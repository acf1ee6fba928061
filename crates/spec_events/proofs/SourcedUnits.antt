-- What runs is of its source behind each unit, where it was before.
use Rattle.std.proofs.Common.{◌≡◌, ℕ, ℤ, pos, Bool, true, false, cond, List, [], ◌∷◌, refl, sym, ◌∙◌, ap, subst, Option, Some, None, inl, inr}
use Rattle.std.specs.Prelude.{find, nat_lt, Result, Ok, Err}
use Rattle.std.specs.Option.{option_and_then, option_map, option_map_or}
use Rattle.std.proofs.lemmas.Bool.{cond_both}
use Rattle.muck_model.specs.declared.dbref.Dbref.{Dbref}
use Rattle.muck_model.specs.declared.tune.Tune.{Tune}
use Rattle.spec_live.specs.Objects.{Entry, nothing}
use Rattle.spec_live.specs.Lives.{Live}
use Rattle.spec_rights.specs.declared.act.Actor.{Actor}
use Rattle.spec_rights.proofs.Shown.{quiet_tell_player}
use Rattle.muf_model.specs.declared.fault.MufFault.{MufFault}
use Rattle.muf_model.specs.declared.fault.MufFault.TheVariants.{CallsFull, NotCompiled}
use Rattle.muf_model.specs.declared.prims.Primitive.{Primitive as Name}
use Rattle.muf_model.specs.Datum.{Datum, int}
use Rattle.muf_model.specs.Tree.{Block, Definition, Tree, word}
use Rattle.muf_model.specs.Source.{Program, Source, locked_of, calls_running, handed, passed_at, last_word, program_entered}
use Rattle.muf_model.specs.Unit.{calls_most, Outcome, goes, faulted, asks, unit, fault_met}
use Rattle.muf_model.specs.Chains.{programs_of, Keeps as Keep}
use Rattle.muf_model.proofs.Chains.{unit_keeps, fault_keeps}
use Rattle.spec_rights.proofs.Telling.{told_along}
use Rattle.spec_prims.specs.Asking.{object_numbered}
use Rattle.spec_prims.specs.Row.{WorldAnswer, gives, refuses, breaks}
use Rattle.spec_prims.specs.Shared.{shared}
use Rattle.spec_prims.specs.Formulas.{answers_for}
use Rattle.spec_prims.proofs.Opens.{RowOpen, shared_open}
use Rattle.muck_library.specs.declared.flaw.Flaw.{Flaw}
use Rattle.muck_library.specs.Library.{Library, form_at, form_kept, form_or_made, formed}
use Rattle.muck_library.specs.Programs.{source_in, built_tree}
use Rattle.muck_queue.specs.declared.process.Process.{Process}
use Rattle.muck_queue.specs.Queues.{Queue, has_pid, process, on_process, without_process, process_added, at_state, units_counted, is_queue_full, woken, given_event}
use Rattle.muck_queue.specs.declared.mode.Wait.{Wait}
use Rattle.muck_queue.specs.declared.mode.Wait.TheVariants.{Nothing, ForLine, ForEvent}
use Rattle.spec_processes.specs.ProcessRows.{Effect, gives as effect_gives, waits, forks, enters, starts, refuses as effect_refuses, processed, is_process, seconds_later}
use Rattle.spec_processes.proofs.Leaves.{Leaves, leaves}
use Rattle.spec_events.specs.declared.starting.Agent.{Agent}
use Rattle.spec_events.specs.declared.starting.Call.{Call as Started}
use Rattle.spec_events.specs.declared.starting.Manner.{Manner}
use Rattle.spec_events.specs.World.{World, with_library}
use Rattle.spec_events.specs.Following.{settled}
use Rattle.spec_events.specs.Starting.{program_beginning, new_process, process_joined, word_started, form_started, program_begun}
use Rattle.spec_events.specs.Slices.{acting, SharedEffect, does, rests, fails, state_behind, lifted, row_done, called_word, word_entered, form_entered, program_called, child_of, with_number, child_joined, forked, queued_command, with_process, queued, place_of_use, effected, process_done, deed, program_error, process_stands_at, ended_one, broken, out, one_counted, unit_went, after_deed, unit_done, limit_fault, within_limit, unit_taken, world_of, agent_of, seat_of, Taken, units_run, last_world, slice_most, units_of, process_awake, sliced}
use Rattle.spec_events.specs.Sourced.{Each, OfSource, Standing, AreSourced, Sourced, RunsSourced}
use Rattle.spec_events.proofs.Sources.{SameSources, same_objects, source_as, IsLined, lined_same, lined_told, notes_sources}
use Rattle.spec_events.proofs.Sourcing.{each_drop, each_append, each_without, each_changed, form_placed, settled_sourced}
use Rattle.spec_events.proofs.Slicing.{run_holds}
use Rattle.spec_events.proofs.Quietly.{quietly_joined, quietly_begun}
use Rattle.spec_events.proofs.Lapses.{objects_settled}
use Rattle.spec_events.proofs.SourcedRows.{Leaves as Leaving, processed_stands}
use Rattle.spec_processes.specs.declared.place.Place.{Place}
use Rattle.muck_queue.specs.declared.mode.Mode.TheVariants.{Background}

module _ (B : Dbref → List (List ℕ) → Tree → Type 0) where
  -- what is built of these objects now counts as built of their sources
  abbrev pub Moment : List Entry → Type 0
  Moment es = (d : Dbref) (tree : Tree) → built_tree es d ≡ Ok tree → B d (source_in es d) tree

  abbrev Forms : List Entry → Library → Type 0
  Forms es library = (d : Dbref) (tree : Tree) → form_at d library ≡ Some tree → B d (source_in es d) tree

  abbrev Stand : List Entry → List Process → Type 0
  Stand es ps = Each (λ p. Standing (OfSource B es) p.running) ps

  -- Building.

  abbrev Made : List Entry → Dbref → Option Tree × Library → Type 0
  Made es d r = ((tree : Tree) → r.0 ≡ Some tree → B d (source_in es d) tree) × Forms es r.1

  pub kept_forms : (es : List Entry) (d : Dbref) (new : Tree) (library : Library) → B d (source_in es d) new → Forms es library → Forms es (form_kept d new library)
  kept_forms es d new library b h e tree at = elim (form_placed e d new tree library at) [
    | inl k ↦ subst (λ t. B e (source_in es e) t) k.1 (subst (λ x. B x (source_in es x) new) (sym k.0) b)
    | inr k ↦ h e tree k
  ]

  made_by : (es : List Entry) (d : Dbref) (library : Library) → Moment es → Forms es library → (o : Option Tree) (r : Result Tree Flaw) → form_at d library ≡ o → built_tree es d ≡ r → Made es d (form_or_made d r o library)
  made_by es d library m h (Some tree) r e f = ((λ t k. h d t (e ∙ k)), h)
  made_by es d library m h None (Ok tree) e f = ((λ t k. m d t (f ∙ ap Ok (let q : ◌≡◌ {A = Option Tree} (Some tree) (Some t) = k in cc))), kept_forms es d tree library (m d tree f) h)
  made_by es d library m h None (Err flaw) e f = ((λ t k. absurd (none t k)), h)
    where
      none : (t : Tree) → ◌≡◌ {A = Option Tree} None (Some t) → ⊥
      none t k = cc

  pub formed_sourced : (es : List Entry) (d : Dbref) (library : Library) → Moment es → Forms es library → Made es d (formed es d library)
  unfolding formed
  formed_sourced es d library m h = made_by es d library m h (form_at d library) (built_tree es d) refl refl

  -- Starting.

  abbrev BegunSourced : List Entry → World × Result ℤ MufFault → Type 0
  BegunSourced es r = AreSourced B es r.0.library r.0.queue.processes

  stand_added : (es : List Entry) (p : Process) (q : Queue) → Standing (OfSource B es) p.running → Stand es q.processes → Stand es (process_added p q).processes
  unfolding process_added
  stand_added es p q h k = each_append (λ p. Standing (OfSource B es) p.running) q.processes _ k h

  joined_sourced : (es : List Entry) (p : Process) (w : World) → Standing (OfSource B es) p.running → AreSourced B es w.library w.queue.processes → BegunSourced es (process_joined p w)
  joined_sourced es p w h k =
      cond_both (is_queue_full p.player w.live.board.tune w.queue) _ _ (λ (r : World × Result ℤ MufFault). BegunSourced es r) (λ e. k) (λ e. record { forms = k.forms; processes = stand_added es p w.queue h k.processes })

  word_sourced : (es : List Entry) (m : Manner) (c : Started) (tree : Tree) (o : Option Definition) (w : World) → B c.program (source_in es c.program) tree → AreSourced B es w.library w.queue.processes → BegunSourced es (word_started m c tree o w)
  unfolding new_process
  word_sourced es m c tree None w b k = k
  word_sourced es m c tree (Some x) w b k = joined_sourced es (new_process m c (program_beginning c tree x w)) w (b, tt) k

  form_sourced : (es : List Entry) (m : Manner) (c : Started) (o : Option Tree) (w : World) → ((tree : Tree) → o ≡ Some tree → B c.program (source_in es c.program) tree) → AreSourced B es w.library w.queue.processes → BegunSourced es (form_started m c o w)
  form_sourced es m c None w b k = k
  form_sourced es m c (Some tree) w b k = word_sourced es m c tree (last_word tree.words) w (b tree refl) k

  pub begun_sourced : (m : Manner) (c : Started) (w : World) → Moment w.live.objects → Sourced B w → BegunSourced w.live.objects (program_begun m c w)
  unfolding program_begun
  begun_sourced m c w now h =
      let r = formed w.live.objects c.program w.library in
      let f = formed_sourced w.live.objects c.program w.library now h.forms in
      form_sourced w.live.objects m c r.0 (with_library r.1 w) f.0 (record { forms = f.1; processes = h.processes })

  -- Deeds.

  abbrev pub EffectStandsIn : World → Effect → Type 0
  EffectStandsIn w (effect_gives stack live queue) = Stand w.live.objects queue.processes
  EffectStandsIn w (waits n stack queue) = Stand w.live.objects queue.processes
  EffectStandsIn w e = Unit {0}

  abbrev pub DeedSourced : List Entry → SharedEffect World → Type 0
  DeedSourced es (does t v) = AreSourced B es v.library v.queue.processes × Each (OfSource B es) (programs_of t) × IsLined es v.live.objects
  DeedSourced es (rests t v) = AreSourced B es v.library v.queue.processes × Each (OfSource B es) (programs_of t) × IsLined es v.live.objects
  DeedSourced es (fails f v) = AreSourced B v.live.objects v.library v.queue.processes × SameSources es v.live.objects

  lined_kept : (es fs : List Entry) → fs ≡ es → IsLined es fs
  lined_kept es fs e = lined_same es fs (same_objects es fs e)

  programs_passed : (b : Block) (s : Source) → programs_of (passed_at b s) ≡ programs_of s
  programs_passed (word line w next) s = refl
  programs_passed _ s = refl

  run_behind : (es : List Entry) (stack : List Datum) (s : Source) → Each (OfSource B es) (programs_of s) → Each (OfSource B es) (programs_of (state_behind stack s))
  run_behind es stack s h = subst (Each (OfSource B es)) (sym (programs_passed s.now (record s { stack = stack }))) h

  module _ (w : World) (now : Moment w.live.objects) (h : Sourced B w) where
    abbrev Run : Source → Type 0
    Run s = Each (OfSource B w.live.objects) (programs_of s)

    refused : (f : MufFault) → DeedSourced w.live.objects (fails f w)
    refused f = (h, λ d. refl)

    numbered_deed : (stack : List Datum) (s : Source) (r : World × Result ℤ MufFault) → Run s → BegunSourced w.live.objects r → r.0.live.objects ≡ w.live.objects → DeedSourced w.live.objects (with_number stack s r)
    numbered_deed stack s (v, Ok n) run k e = (k, run_behind w.live.objects _ s run, lined_kept w.live.objects v.live.objects e)
    numbered_deed stack s (v, Err f) run k e = (k, run_behind w.live.objects _ s run, lined_kept w.live.objects v.live.objects e)

    -- FORK
    child_deed : (o : Option Process) (stack : List Datum) (s : Source) → Run s → DeedSourced w.live.objects (child_joined o stack s w)
    child_deed None stack s run = refused NotCompiled
    child_deed (Some p) stack s run =
        let child : Process = child_of w.moment (handed (int (pos 0)) (state_behind stack s)) p in
        numbered_deed stack s (process_joined child w) run (joined_sourced w.live.objects child w (run_behind w.live.objects stack s run) h) (quietly_joined child w).objects

    forked_deed : (pid : ℤ) (stack : List Datum) (s : Source) → Run s → DeedSourced w.live.objects (forked pid stack s w)
    unfolding forked
    forked_deed pid stack s run = child_deed (process pid w.queue) stack s run

    -- QUEUE
    process_deed : (stack : List Datum) (s : Source) (r : World × Result ℤ MufFault) → Run s → BegunSourced w.live.objects r → r.0.live.objects ≡ w.live.objects → DeedSourced w.live.objects (with_process stack s r)
    process_deed stack s (v, Ok n) run k e = (k, run_behind w.live.objects _ s run, lined_kept w.live.objects v.live.objects e)
    process_deed stack s (v, Err f) run k e =
        (subst (λ es. AreSourced B es v.library v.queue.processes) (sym e) k, λ d. ap (λ os. source_in os d) e)

    queued_deed : (x : Agent) (stack : List Datum) (d : ℤ) (seconds : ℕ) (argument : List ℕ) (s : Source) → Run s → DeedSourced w.live.objects (queued x stack d seconds argument s w)
    unfolding queued
    queued_deed x stack d seconds argument s run =
        let m : Manner = record { descr = None; mode = Background; due = seconds_later w.moment seconds } in
        let c : Started = record { player = x.player; program = object_numbered d; trigger = nothing; command = queued_command; argument = argument } in
        process_deed stack s (program_begun m c w) run (begun_sourced m c w now h) (quietly_begun m c w).objects

    -- CALL
    word_deed : (s : Source) (program : Program) (o : Option Definition) (library : Library) → Run s → OfSource B w.live.objects program → Forms w.live.objects library → DeedSourced w.live.objects (word_entered s program o (with_library library w))
    word_deed s program None library run b k = (record { forms = k; processes = h.processes }, λ d. refl)
    word_deed s program (Some x) library run b k =
        cond_both (nat_lt (calls_running s.marks) calls_most) (does (program_entered program x s) (with_library library w)) (fails CallsFull (with_library library w)) (DeedSourced w.live.objects)
        (λ e. (record { forms = k; processes = h.processes }, (b, run), lined_kept w.live.objects w.live.objects refl))
        (λ e. (record { forms = k; processes = h.processes }, λ d. refl))

    form_deed : (a : Actor) (s : Source) (d : ℤ) (name : Option (List ℕ)) (o : Option Tree) (library : Library) → Run s → ((tree : Tree) → o ≡ Some tree → B (object_numbered d) (source_in w.live.objects (object_numbered d)) tree) → Forms w.live.objects library →
        DeedSourced w.live.objects (form_entered a s d name o (with_library library w))
    form_deed a s d name None library run b k = (record { forms = k; processes = h.processes }, λ d. refl)
    form_deed a s d name (Some tree) library run b k = word_deed s (record { number = d; tree = tree }) (called_word a name tree) library run (b tree refl) k

    called_deed : (a : Actor) (s : Source) (d : ℤ) (name : Option (List ℕ)) → Run s → DeedSourced w.live.objects (program_called a s d name w)
    unfolding program_called
    called_deed a s d name run =
        let r = formed w.live.objects (object_numbered d) w.library in
        let f = formed_sourced w.live.objects (object_numbered d) w.library now h.forms in
        form_deed a s d name r.0 r.1 run f.0 f.1

    -- the others: the processes that are left stand where they stood
    effect_deed : (pid : ℤ) (x : Agent) (s : Source) → Run s → (e : Effect) → EffectStandsIn w e → Leaves (acting x s w.live.objects) w.live w.queue e → DeedSourced w.live.objects (effected pid x s w e)
    effect_deed pid x s run (effect_gives stack live queue) k l =
        (record { forms = h.forms; processes = k }, run_behind w.live.objects stack s run, lined_kept w.live.objects live.objects l.shows.objects)
    effect_deed pid x s run (waits n stack queue) k l = (record { forms = h.forms; processes = k }, run_behind w.live.objects stack s run, lined_kept w.live.objects w.live.objects refl)
    effect_deed pid x s run (forks stack) k l = forked_deed pid stack s run
    effect_deed pid x s run (enters stack d name) k l = called_deed (acting x s w.live.objects) (state_behind stack s) d name (run_behind w.live.objects stack s run)
    effect_deed pid x s run (starts stack d seconds argument) k l = queued_deed x stack d seconds argument s run
    effect_deed pid x s run (effect_refuses f) k l = refused f

  -- A shared primitive of objects.

  abbrev RowLined : Live → WorldAnswer → Type 0
  RowLined w (gives items v) = IsLined w.objects v.objects
  RowLined w (refuses f) = Unit {0}
  RowLined w (breaks f v) = SameSources w.objects v.objects

  row_lined : (a : Actor) (w : Live) (row : WorldAnswer) → RowOpen a w row → RowLined w row
  row_lined a w (gives items v) h = lined_told w.objects v.objects (told_along w v h.goes)
  row_lined a w (refuses f) h = tt
  row_lined a w (breaks f v) h = notes_sources w.objects v.objects h.1.objects

  stands_as : (w : World) (e : Effect) → Leaving (Standing (OfSource B w.live.objects)) e → EffectStandsIn w e
  stands_as w (effect_gives stack live queue) h = h
  stands_as w (waits n stack queue) h = h
  stands_as w _ h = tt

  stands : (w : World) (p : Name) (x : Place) (a : Actor) (locked : ℕ) (stack : List Datum) → Sourced B w → EffectStandsIn w (processed p x a locked stack w.live w.queue)
  stands w p x a locked stack h = stands_as w (processed p x a locked stack w.live w.queue) (processed_stands (Standing (OfSource B w.live.objects)) p x a locked stack w.live w.queue h.processes)

  each_as : (es fs : List Entry) (ps : List Program) → SameSources es fs → Each (OfSource B es) ps → Each (OfSource B fs) ps
  each_as es fs [] same h = tt
  each_as es fs (p ∷ ps) same h = (subst (λ lines. B (object_numbered p.number) lines p.tree) (sym (same (object_numbered p.number))) h.0, each_as es fs ps same h.1)

  stand_as : (es fs : List Entry) (ps : List Process) → SameSources es fs → Stand es ps → Stand fs ps
  stand_as es fs [] same h = tt
  stand_as es fs (p ∷ ps) same h = (one p.running h.0, stand_as es fs ps same h.1)
    where
      one : (o : Option Source) → Standing (OfSource B es) o → Standing (OfSource B fs) o
      one None k = tt
      one (Some s) k = each_as es fs (programs_of s) same k

  pub sourced_as : (es fs : List Entry) (library : Library) (ps : List Process) → SameSources es fs → AreSourced B es library ps → AreSourced B fs library ps
  sourced_as es fs library ps same h = record {
    forms = λ d tree e. subst (λ lines. B d lines tree) (sym (same d)) (h.forms d tree e);
    processes = stand_as es fs ps same h.processes;
  }

  row_deed : (s : Source) (w : World) (row : WorldAnswer) → Sourced B w → Each (OfSource B w.live.objects) (programs_of s) → RowLined w.live row → DeedSourced w.live.objects (lifted s w row)
  row_deed s w (gives stack live) h run k = (h, run_behind w.live.objects stack s run, k)
  row_deed s w (refuses f) h run k = (h, λ d. refl)
  row_deed s w (breaks f live) h run k = (sourced_as w.live.objects live.objects w.library w.queue.processes k h, k)

  deed_sourced : (pid : ℤ) (x : Agent) (p : Name) (s : Source) (w : World) → Moment w.live.objects → Sourced B w → Each (OfSource B w.live.objects) (programs_of s) → DeedSourced w.live.objects (deed pid x p s w)
  unfolding deed row_done process_done
  deed_sourced pid x p s w now h run =
      let a : Actor = acting x s w.live.objects in
      cond_both (is_process p) (process_done pid x p s w) (row_done x p s w) (DeedSourced w.live.objects)
      (λ e. effect_deed w now h pid x s run (processed p (place_of_use pid s w) a (locked_of s.marks) s.stack w.live w.queue) (stands w p (place_of_use pid s w) a (locked_of s.marks) s.stack h) (leaves p (place_of_use pid s w) a (locked_of s.marks) s.stack w.live w.queue))
      (λ e. row_deed s w (shared p a x.descr (locked_of s.marks) s.stack w.live) h run (row_lined (answers_for p a w.live.objects) w.live (shared p a x.descr (locked_of s.marks) s.stack w.live) (shared_open p a x.descr (locked_of s.marks) s.stack w.live)))

  -- Units.

  stand_own : (es : List Entry) (pid : ℤ) (o : Option Source) (q : Queue) → Standing (OfSource B es) o → Stand es q.processes → Stand es (on_process pid (at_state o) q).processes
  unfolding on_process
  stand_own es pid o q h k = each_changed (λ p. Standing (OfSource B es) p.running) (has_pid pid) (at_state o) (λ p j. h) q.processes k

  stand_without : (es : List Entry) (pid : ℤ) (q : Queue) → Stand es q.processes → Stand es (without_process pid q).processes
  unfolding without_process
  stand_without es pid q k = each_without (λ (p : Process). Unit {0}) pid (λ p. Standing (OfSource B es) p.running) q.processes k

  ended_sourced : (pid : ℤ) (w : World) → Sourced B w → Sourced B (ended_one pid w)
  ended_sourced pid w h = record { forms = h.forms; processes = stand_without w.live.objects pid w.queue h.processes }

  broken_sourced : (pid : ℤ) (player : Dbref) (program : ℤ) (f : MufFault) (w : World) → Sourced B w → Sourced B (broken pid player program f w)
  broken_sourced pid player program f w h =
      let shown = (quiet_tell_player player (program_error program f)).law w.live in
      let u : World = ended_one pid w in
      sourced_as w.live.objects _ u.library u.queue.processes (λ d. ap (λ os. source_in os d) shown.objects) (ended_sourced pid w h)

  went_sourced : (pid : ℤ) (player : Dbref) (program : ℤ) (ps : List Program) (o : Outcome) (w : World) → Sourced B w → Each (OfSource B w.live.objects) ps → Keep ps o → Sourced B (world_of (unit_went pid player program o w))
  went_sourced pid player program ps (goes k t) w h run keep = record {
    forms = h.forms;
    processes = stand_own w.live.objects pid (Some t) w.queue (subst (Each (OfSource B w.live.objects)) (sym keep) (each_drop (OfSource B w.live.objects) k ps run)) h.processes;
  }
  went_sourced pid player program ps (faulted f) w h run keep = broken_sourced pid player program f w h
  went_sourced pid player program ps _ w h run keep = ended_sourced pid w h

  behind_sourced : (pid : ℤ) (es : List Entry) (t : Source) (v : World) → AreSourced B es v.library v.queue.processes → Each (OfSource B es) (programs_of t) → IsLined es v.live.objects → Sourced B (settled (process_stands_at pid t v))
  behind_sourced pid es t v h run lined =
      let u : World = process_stands_at pid t v in
      let k : AreSourced B es u.library u.queue.processes = record { forms = h.forms; processes = stand_own es pid (Some t) v.queue run h.processes } in
      let told : Sourced B (settled u) = sourced_as u.live.objects (settled u).live.objects (settled u).library (settled u).queue.processes (λ d. source_as d u.live.objects (settled u).live.objects (objects_settled d u)) (settled_sourced B es u lined k) in
      told

  after_sourced : (pid : ℤ) (player : Dbref) (s : Source) (es : List Entry) (d : SharedEffect World) → Each (OfSource B es) (programs_of s) → DeedSourced es d → Sourced B (world_of (after_deed pid player s d))
  after_sourced pid player s es (does t v) run h = behind_sourced pid es t v h.0 h.1 h.2
  after_sourced pid player s es (rests t v) run h = behind_sourced pid es t v h.0 h.1 h.2
  after_sourced pid player s es (fails f v) run h = went_sourced pid player s.program.number (programs_of s) (fault_met f s) v h.0 (each_as es v.live.objects (programs_of s) h.1 run) (fault_keeps f s)

  unit_sourced : (pid : ℤ) (x : Agent) (s : Source) (w : World) (o : Outcome) → unit s ≡ o → Moment w.live.objects → Sourced B w → Each (OfSource B w.live.objects) (programs_of s) → Sourced B (world_of (unit_done pid x s.program.number o w))
  unit_sourced pid x s w (asks p t) e now h run =
      let kept : Keep (programs_of s) (asks p t) = subst (Keep (programs_of s)) e (unit_keeps s) in
      let at : Each (OfSource B w.live.objects) (programs_of t) = subst (Each (OfSource B w.live.objects)) (sym kept.0) run in
      let u : World = out pid w in
      let k : Sourced B u = record { forms = h.forms; processes = stand_own w.live.objects pid None w.queue tt h.processes } in
      after_sourced pid x.player t w.live.objects (deed pid x p t u) at (deed_sourced pid x p t u now k at)
  unit_sourced pid x s w o e now h run = went_sourced pid x.player s.program.number (programs_of s) o w h run (subst (Keep (programs_of s)) e (unit_keeps s))

  within_sourced : (pid : ℤ) (x : Agent) (s : Source) (w : World) (o : Option MufFault) → Moment w.live.objects → Sourced B w → Each (OfSource B w.live.objects) (programs_of s) → Sourced B (world_of (within_limit o pid x s w))
  unfolding on_process
  within_sourced pid x s w (Some f) now h run = broken_sourced pid x.player s.program.number f w h
  within_sourced pid x s w None now h run =
      unit_sourced pid x s (one_counted pid w) (unit s) refl now
      (record { forms = h.forms; processes = each_changed (λ p. Standing (OfSource B w.live.objects) p.running) (has_pid pid) (units_counted 1) (λ p k. k) w.queue.processes h.processes }) run

  pub turn_sourced : (tune : Tune) (pid : ℤ) (x : Agent) (s : Source) (w : World) → Moment w.live.objects → Sourced B w → Each (OfSource B w.live.objects) (programs_of s) → Sourced B (world_of (unit_taken tune pid x s w))
  unfolding unit_taken
  turn_sourced tune pid x s w now h run = within_sourced pid x s w (limit_fault tune (acting x s w.live.objects).level x) now h run

  -- A slice.

  each_found : (Q : Process → Type 0) (test : Process → Bool) (ps : List Process) (p : Process) → Each Q ps → find test ps ≡ Some p → Q p
  each_found Q test [] p h = λ e. absurd cc
  each_found Q test (q ∷ ps) p h =
      (elim (test q) as (λ b. cond b (Some q) (find test ps) ≡ Some p → Q p) [
        | true ↦ λ e. subst Q (let k : q ≡ p = cc in k) h.0
        | false ↦ λ e. each_found Q test ps p h.1 e
      ])

  seated_one : (P : Program → Type 0) (a x : Agent) (s : Source) (o : Option Source) → option_map {U = Agent × Source} (λ s. (a, s)) o ≡ Some (x, s) → Standing P o → Each P (programs_of s)
  seated_one P a x s None e h = absurd cc
  seated_one P a x s (Some t) e h = subst (λ (u : Source). Each P (programs_of u)) (ap (λ (o : Option (Agent × Source)). option_map_or (λ r. r.1) o t) e) h

  seat_by : (es : List Entry) (pid : ℤ) (ps : List Process) (x : Agent) (s : Source) (o : Option Process) → Stand es ps → find (has_pid pid) ps ≡ o → option_and_then seat_of o ≡ Some (x, s) → Each (OfSource B es) (programs_of s)
  seat_by es pid ps x s None h e f = absurd cc
  seat_by es pid ps x s (Some p) h e f = seated_one (OfSource B es) (agent_of p) x s p.running f (each_found (λ p. Standing (OfSource B es) p.running) (has_pid pid) ps p h e)

  abbrev Slices : World → List Taken → Type 0
  Slices w ts = Each (λ (t : Taken). Moment t.before.live.objects) ts → Sourced B w → Each (RunsSourced B) ts × Sourced B (last_world w ts)

  run_sourced : (tune : Tune) (pid : ℤ) (n : ℕ) (w : World) → Slices w (units_run tune n pid w)
  run_sourced tune pid n w =
      run_holds tune pid Slices (λ v m h. (tt, h))
      (λ v x s ts e next m h.
      let run : Each (OfSource B v.live.objects) (programs_of s) = seat_by v.live.objects pid v.queue.processes x s (process pid v.queue) h.processes refl e in
      let rest = next m.1 (turn_sourced tune pid x s v m.0 h run) in
      ((run, rest.0), rest.1)) n w

  pub stand_item : (P : Program → Type 0) (x : Datum) (o : Option Source) → Standing P o → Standing P (option_map (handed x) o)
  stand_item P x None h = tt
  stand_item P x (Some s) h = h

  stand_event : (P : Program → Type 0) (wait : Wait) (events : List (List ℕ × Datum)) (p : Process) → Standing P p.running → Standing P (given_event wait events p).running
  stand_event P ForEvent (e ∷ events) p h = stand_item P _ _ (stand_item P _ p.running h)
  stand_event P ForEvent [] p h = h
  stand_event P Nothing events p h = h
  stand_event P ForLine events p h = h

  awake_sourced : (pid : ℤ) (w : World) → Sourced B w → Sourced B (process_awake pid w)
  unfolding on_process
  awake_sourced pid w h = record {
    forms = h.forms;
    processes = each_changed (λ p. Standing (OfSource B w.live.objects) p.running) (has_pid pid) (woken w.moment)
        (λ p k. stand_event (OfSource B w.live.objects) p.wait p.events _ k) w.queue.processes h.processes;
  }

  pub slice_sourced : (pid : ℤ) (w : World) → Each (λ (t : Taken). Moment t.before.live.objects) (units_of pid w) → Sourced B w → Each (RunsSourced B) (units_of pid w) × Sourced B (sliced pid w)
  unfolding sliced
  slice_sourced pid w m h = run_sourced w.live.board.tune pid (slice_most w.live.board.tune) (process_awake pid w) m (awake_sourced pid w h)
