-- Each process stands at a state, at the bottom of whose call stack is the program for which it was started.
use Rattle.std.proofs.Common.{◌≡◌, ◌⊎◌, ℕ, ℤ, zero, suc, pos, ◌+ℤ◌, ◌<ℤ◌, ◌≤ℤ◌, Bool, true, false, not, cond, List, [], ◌∷◌, find, drop, refl, sym, ◌∙◌, ap, subst, arith, Option, Some, None, inl, inr}
use Rattle.std.specs.Prelude.{nat_lt, Result, Ok, Err}
use Rattle.std.specs.Option.{option_map, option_and_then}
use Rattle.std.proofs.lemmas.Bool.{cond_both}
use Rattle.std.proofs.lemmas.Bool.Decides.{Decides-int_eq}
use Rattle.std.proofs.lemmas.Int.{ints}
use Rattle.muck_model.specs.declared.dbref.Dbref.{Dbref}
use Rattle.muck_model.specs.declared.dbref.Denial.{Denial}
use Rattle.muck_model.specs.declared.edit.EditState.{EditState}
use Rattle.muck_model.specs.declared.event.Entry.{Entry}
use Rattle.muck_model.specs.declared.event.Event.{Event}
use Rattle.muck_model.specs.declared.event.Event.TheVariants.{Closed, Exec, Claim, Slice, Lost}
use Rattle.muck_model.specs.declared.tune.Tune.{Tune}
use Rattle.spec_live.specs.Connections.{Connection}
use Rattle.spec_live.specs.Lives.{tell}
use Rattle.spec_live.specs.Objects.{nothing}
use Rattle.spec_rights.specs.declared.act.Actor.{Actor}
use Rattle.spec_rights.specs.declared.act.Act.TheVariants.{Start}
use Rattle.spec_rights.specs.Verdict.{verdict}
use Rattle.muf_model.specs.declared.fault.MufFault.{MufFault}
use Rattle.muf_model.specs.declared.fault.MufFault.TheVariants.{CallsFull}
use Rattle.muf_model.specs.declared.prims.Primitive.{Primitive as Name}
use Rattle.muf_model.specs.Datum.{Datum, int, text as words_of}
use Rattle.muf_model.specs.Tree.{Block, word, Definition, Tree}
use Rattle.muf_model.specs.Source.{Program, Source, locked_of, calls_running, handed, passed_at, last_word, program_entered}
use Rattle.muf_model.specs.Unit.{calls_most, Outcome, goes, faulted, asks, unit, fault_met}
use Rattle.muf_model.specs.Chains.{callers_of, programs_of, Keeps as Keep}
use Rattle.muf_model.proofs.Chains.{unit_keeps, fault_keeps}
use Rattle.spec_prims.specs.Asking.{object_numbered}
use Rattle.spec_prims.specs.Row.{WorldAnswer, gives, refuses, breaks}
use Rattle.spec_prims.specs.Shared.{shared}
use Rattle.muck_library.specs.Library.{Library, formed}
use Rattle.muck_queue.specs.declared.mode.Mode.TheVariants.{Background}
use Rattle.muck_queue.specs.declared.mode.Wait.{Wait}
use Rattle.muck_queue.specs.declared.mode.Wait.TheVariants.{Nothing, ForLine, ForEvent}
use Rattle.muck_queue.specs.declared.process.Process.{Process}
use Rattle.muck_queue.specs.Queues as queues
use Rattle.muck_queue.specs.Queues.{Queue, has_pid, process, on_process, changed_first, without_process, process_added, at_state, units_counted, told_event, told_line, process_with_item, going_on, given_event, woken, reader, is_tied_to, ended_tied, claimed, released}
use Rattle.muck_queue.specs.inner.Numbered.{Rises, IsNumbered}
use Rattle.muck_queue.proofs.Woken.{woken_number}
use Rattle.spec_processes.specs.ProcessRows.{Effect, gives as effect_gives, waits, forks, enters, starts, refuses as effect_refuses, processed, is_process, seconds_later}
use Rattle.spec_commands.specs.declared.outcome.Outcome.{Outcome as LineOutcome}
use Rattle.spec_commands.specs.declared.outcome.Outcome.TheVariants.{Start as StartOutcome}
use Rattle.spec_commands.specs.Editing.{editor_exited, is_editor_open, edited_by_line}
use Rattle.spec_commands.specs.Finding.{actor_of}
use Rattle.spec_commands.specs.Talk.{waits as line_waits}
use Rattle.spec_events.specs.declared.starting.Agent.{Agent}
use Rattle.spec_events.specs.declared.starting.Call.{Call as Started}
use Rattle.spec_events.specs.declared.starting.Manner.{Manner}
use Rattle.spec_events.specs.World.{World, on_live, on_queue, with_library}
use Rattle.spec_events.specs.Following.{settled}
use Rattle.spec_events.specs.Starting.{program_beginning, new_process, by_command, by_hook, process_joined, word_started, form_started, program_begun, start_told, start_judged, launched}
use Rattle.spec_events.specs.Lines.{with_editor, next_editor, edited_line, in_editor, typed, processes_after_line, followed_up, in_world, program_aborted, is_abort, given_line, line_for, line_done, first_line_done}
use Rattle.spec_events.specs.Slices.{acting, SharedEffect, does, rests, fails, state_behind, lifted, row_done, called_word, word_entered, form_entered, program_called, child_of, with_number, child_joined, forked, queued_command, with_process, queued, place_of_use, effected, process_done, deed, process_stands_at, out, one_counted, unit_went, after_deed, unit_done, limit_fault, within_limit, unit_taken, world_of, seat, last_world, slice_most, process_awake, sliced}
use Rattle.spec_events.specs.Sourced.{Each}
use Rattle.spec_events.specs.Steps.{effect, happened}
use Rattle.spec_events.proofs.Begun.{joined_keeps}
use Rattle.spec_events.proofs.Endings.{process_number}
use Rattle.spec_events.proofs.Happening.{effect-keeps}
use Rattle.spec_events.proofs.Modes.{numbered_changed, numbered_without, numbered_added, settled_numbered}
use Rattle.spec_events.proofs.Slicing.{run_holds}
use Rattle.spec_events.proofs.Sourcing.{each_more, each_filter, each_append, each_without, each_changed}
use Rattle.spec_events.proofs.Units.{sits}
use Rattle.spec_origins.specs.Origins.{GoesOn, From, was_there, is_new, Comes, no_own_process, lowest_program, RunsOwn, AreOwn}
use Rattle.spec_origins.proofs.Going.{each_among, each_first, from_itself, holds_settled}
use Rattle.spec_origins.proofs.Lines.{kept_left, queue_after}
use Rattle.spec_origins.proofs.Rows as rows
use Rattle.spec_origins.proofs.Units.{found_among}

-- The lowest program.

abbrev bottom : Source → Option Dbref
bottom s = lowest_program (programs_of s)

none_left : (k : ℕ) (p : Program) (qs : List Program) → p ∷ qs ≡ drop k [] → ⊥
none_left zero p qs e = cc
none_left (suc k) p qs e = cc

lowest_drop : (k : ℕ) (ps : List Program) (p : Program) (qs : List Program) → p ∷ qs ≡ drop k ps → lowest_program (p ∷ qs) ≡ lowest_program ps
lowest_drop zero [] p qs e = absurd cc
lowest_drop zero (x ∷ ps) p qs e = ap lowest_program e
lowest_drop (suc k) [] p qs e = absurd cc
lowest_drop (suc k) (x ∷ []) p qs e = absurd (none_left k p qs e)
lowest_drop (suc k) (x ∷ y ∷ ps) p qs e = lowest_drop k (y ∷ ps) p qs e

-- that stays where some programs above it are left
bottom_left : (k : ℕ) (s t : Source) → programs_of t ≡ drop k (programs_of s) → bottom t ≡ bottom s
bottom_left k s t e = lowest_drop k (programs_of s) t.program (callers_of t.marks) e

programs_passed : (b : Block) (s : Source) → programs_of (passed_at b s) ≡ programs_of s
programs_passed (word line w next) s = refl
programs_passed _ s = refl

bottom_behind : (stack : List Datum) (s : Source) → bottom (state_behind stack s) ≡ bottom s
bottom_behind stack s = ap lowest_program (programs_passed s.now (record s { stack = stack }))

-- it holds of each program on a call stack, and so of the lowest
pub lowest_each : (P : Dbref → Type 0) (ps : List Program) (d : Dbref) → Each (λ (q : Program). P (object_numbered q.number)) ps → lowest_program ps ≡ Some d → P d
lowest_each P [] d h e = absurd cc
lowest_each P (p ∷ []) d h e = subst P (let k : object_numbered p.number ≡ d = cc in k) h.0
lowest_each P (p ∷ q ∷ ps) d h e = lowest_each P (q ∷ ps) d h.1 e

-- Processes that are started.

-- the last word of the program's form is begun, whatever form that is
module _ (P : World → Type 0) (m : Manner) (c : Started) (joins : (tree : Tree) (d : Definition) (w : World) → P w → P (on_queue (process_added (new_process m c (program_beginning c tree d w))) w)) where
  word_starts : (tree : Tree) (o : Option Definition) (w : World) → P w → P (word_started m c tree o w).0
  word_starts tree None w h = h
  word_starts tree (Some d) w h = joined_keeps P (new_process m c (program_beginning c tree d w)) w (joins tree d w h) h

  form_starts : (o : Option Tree) (w : World) → P w → P (form_started m c o w).0
  form_starts None w h = h
  form_starts (Some tree) w h = word_starts tree (last_word tree.words) w h

  begun_starts : (w : World) → P (with_library (formed w.live.objects c.program w.library).1 w) → P (program_begun m c w).0
  unfolding program_begun
  begun_starts w h = let r = formed w.live.objects c.program w.library in form_starts r.0 (with_library r.1 w) h

begins_own : (m : Manner) (c : Started) (tree : Tree) (d : Definition) (w : World) → RunsOwn (new_process m c (program_beginning c tree d w))
unfolding new_process
begins_own m c tree d w = refl

abbrev Whole : Queue → Type 0
Whole q = Each RunsOwn q.processes

own_added : (p : Process) (q : Queue) → RunsOwn p → Whole q → Whole (process_added p q)
unfolding process_added
own_added p q r h = each_append RunsOwn q.processes (queues.process_numbered (q.last +ℤ pos 1) p) h r

begun_own : (m : Manner) (c : Started) (w : World) → AreOwn w → AreOwn (program_begun m c w).0
begun_own m c w h = begun_starts AreOwn m c (λ tree d u k. own_added (new_process m c (program_beginning c tree d u)) u.queue (begins_own m c tree d u) k) w h

-- where each comes from one of those, and stands still
own_comes : (Gone : Dbref → Type 0) (q r : Queue) → Comes no_own_process false Gone (λ p. ⊥) q r → Whole q → Whole r
own_comes Gone q r c h = each_more (From no_own_process false Gone (λ p. ⊥) q.processes) RunsOwn one r.processes c.processes
  where
    one : (p : Process) → From no_own_process false Gone (λ p. ⊥) q.processes p → RunsOwn p
    one p (was_there o a g s) =
        ap (λ (u : Option Source). option_and_then bottom u) (s refl).running ∙ each_among RunsOwn o q.processes a h ∙ ap (λ (d : Dbref). Some d) (sym g.origin.program)
    one p (is_new n) = absurd n

settled_own : (w : World) → AreOwn w → AreOwn (settled w)
settled_own w h =
    own_comes (λ x. Unit {0}) w.queue (settled w).queue
    (holds_settled no_own_process false (λ x. Unit {0}) (λ p. ⊥) (λ q r n g. n) w.queue w (λ k m e. tt) (from_itself no_own_process false (λ x. Unit {0}) (λ p. ⊥) w.queue)) h

-- A unit of the process of this number, which was started for the program d.

module _ (pid : ℤ) (d : Dbref) where
  -- its state may be out
  abbrev Half : Process → Type 0
  Half p = (p.number ≡ pid → p.program ≡ d) × ((p.number ≡ pid) ⊎ RunsOwn p)

  record Mid (q : Queue) : Type 0 where
    halves : Each Half q.processes
    numbered : IsNumbered q
    last : pid ≤ℤ q.last

  abbrev At : Source → Type 0
  At s = bottom s ≡ Some d

  at_behind : (stack : List Datum) (s : Source) → At s → At (state_behind stack s)
  at_behind stack s h = bottom_behind stack s ∙ h

  -- What a primitive of processes makes of them.

  mid_own : (f : Process → Process) → ((p : Process) → GoesOn (λ x. ⊥) p (f p)) → (q : Queue) → Mid q → Mid (on_process pid f q)
  unfolding on_process
  mid_own f g q h = record {
    halves = each_first Half (has_pid pid) f (λ p e k. let n = (Decides-int_eq p.number pid).0 e in (λ m. (g p).origin.program ∙ k.0 n, inl ((g p).number ∙ n))) q.processes h.halves;
    numbered = numbered_changed pid f (λ p. (g p).number) q h.numbered;
    last = h.last;
  }

  mid_told : (at : ℤ) (second : ℕ) (event : List ℕ × Datum) (q : Queue) → Mid q → Mid (on_process at (told_event second event) q)
  unfolding on_process
  mid_told at second event q h = record {
    halves = each_changed Half (has_pid at) (told_event second event) (λ p k. k) q.processes h.halves;
    numbered = numbered_changed at (told_event second event) (λ p. refl) q h.numbered;
    last = h.last;
  }

  mid_gone : (at : ℤ) (q : Queue) → Mid q → Mid (without_process at q)
  unfolding without_process
  mid_gone at q h = record {
    halves = each_without (λ (p : Process). Unit {0}) at Half q.processes h.halves;
    numbered = numbered_without at q h.numbered;
    last = h.last;
  }

  mid_added : (p : Process) (q : Queue) → RunsOwn p → Mid q → Mid (process_added p q)
  unfolding process_added
  mid_added p q r h = record {
    halves = each_append Half q.processes (queues.process_numbered (q.last +ℤ pos 1) p) h.halves (λ e. absurd (above q.last h.last e), inr r);
    numbered = numbered_added p q h.numbered;
    last = up q.last h.last;
  }
    where
      above : (n : ℤ) → pid ≤ℤ n → n +ℤ pos 1 ≡ pid → ⊥
      above n l e = omega (arith, ints)

      up : (n : ℤ) → pid ≤ℤ n → pid ≤ℤ (n +ℤ pos 1)
      up n l = omega (arith, ints)

  -- Deeds.

  abbrev DeedMid : SharedEffect World → Type 0
  DeedMid (does t v) = Mid v.queue × At t
  DeedMid (rests t v) = Mid v.queue × At t
  DeedMid (fails f v) = Mid v.queue

  module _ (x : Agent) (s : Source) (w : World) (h : Mid w.queue) (at : At s) where
    -- FORK

    number_deed : (stack : List Datum) (r : World × Result ℤ MufFault) → Mid r.0.queue → DeedMid (with_number stack s r)
    number_deed stack (v, Ok n) k = (k, at_behind (int n ∷ stack) s at)
    number_deed stack (v, Err f) k = (k, at_behind _ s at)

    child_deed : (o : Option Process) → process pid w.queue ≡ o → (stack : List Datum) → DeedMid (child_joined o stack s w)
    child_deed None e stack = h
    child_deed (Some it) e stack =
        let child : Process = child_of w.moment (handed (int (pos 0)) (state_behind stack s)) it in
        let own : it.program ≡ d = (found_among Half (has_pid pid) w.queue.processes it h.halves e).0 ((Decides-int_eq it.number pid).0 (process_number pid w.queue it e)) in
        let runs : RunsOwn child = at_behind stack s at ∙ ap (λ (y : Dbref). Some y) (sym own) in
        number_deed stack (process_joined child w) (joined_keeps (λ u. Mid u.queue) child w (mid_added child w.queue runs h) h)

    forked_deed : (stack : List Datum) → DeedMid (forked pid stack s w)
    unfolding forked
    forked_deed stack = child_deed (process pid w.queue) refl stack

    -- QUEUE

    process_deed : (stack : List Datum) (r : World × Result ℤ MufFault) → Mid r.0.queue → DeedMid (with_process stack s r)
    process_deed stack (v, Ok n) k = (k, at_behind (int n ∷ stack) s at)
    process_deed stack (v, Err f) k = k

    queued_deed : (stack : List Datum) (n : ℤ) (seconds : ℕ) (argument : List ℕ) → DeedMid (queued x stack n seconds argument s w)
    unfolding queued
    queued_deed stack n seconds argument =
        let m : Manner = record { descr = None; mode = Background; due = seconds_later w.moment seconds } in
        let c : Started = record { player = x.player; program = object_numbered n; trigger = nothing; command = queued_command; argument = argument } in
        process_deed stack (program_begun m c w) (begun_starts (λ u. Mid u.queue) m c (λ tree y u k. mid_added (new_process m c (program_beginning c tree y u)) u.queue (begins_own m c tree y u) k) w h)

    -- CALL

    word_deed : (t : Source) (program : Program) (o : Option Definition) (library : Library) → At t → DeedMid (word_entered t program o (with_library library w))
    word_deed t program None library k = h
    word_deed t program (Some y) library k =
        cond_both (nat_lt (calls_running t.marks) calls_most) (does (program_entered program y t) (with_library library w)) (fails CallsFull (with_library library w)) DeedMid (λ e. (h, k)) (λ e. h)

    form_deed : (a : Actor) (t : Source) (n : ℤ) (name : Option (List ℕ)) (o : Option Tree) (library : Library) → At t → DeedMid (form_entered a t n name o (with_library library w))
    form_deed a t n name None library k = h
    form_deed a t n name (Some tree) library k = word_deed t (record { number = n; tree = tree }) (called_word a name tree) library k

    called_deed : (a : Actor) (t : Source) (n : ℤ) (name : Option (List ℕ)) → At t → DeedMid (program_called a t n name w)
    unfolding program_called
    called_deed a t n name k = let r = formed w.live.objects (object_numbered n) w.library in form_deed a t n name r.0 r.1 k

    -- any of them

    abbrev RowLeaves : Effect → Type 0
    RowLeaves e = rows.Leaves Mid (λ x. ⊥) (place_of_use pid s w) mid_own mid_told mid_gone (acting x s w.live.objects) w.live e

    effect_deed : (e : Effect) → RowLeaves e → DeedMid (effected pid x s w e)
    effect_deed (effect_gives stack live queue) k = (k.0, at_behind stack s at)
    effect_deed (waits n stack queue) k = (k, at_behind stack s at)
    effect_deed (forks stack) k = forked_deed stack
    effect_deed (enters stack n name) k = called_deed (acting x s w.live.objects) (state_behind stack s) n name (at_behind stack s at)
    effect_deed (starts stack n seconds argument) k = queued_deed stack n seconds argument
    effect_deed (effect_refuses f) k = h

    row_deed : (row : WorldAnswer) → DeedMid (lifted s w row)
    row_deed (gives stack live) = (h, at_behind stack s at)
    row_deed (refuses f) = h
    row_deed (breaks f live) = h

    deed_mid : (p : Name) → DeedMid (deed pid x p s w)
    unfolding deed row_done process_done
    deed_mid p =
        let a : Actor = acting x s w.live.objects in
        cond_both (is_process p) (process_done pid x p s w) (row_done x p s w) DeedMid
        (λ e. effect_deed (processed p (place_of_use pid s w) a (locked_of s.marks) s.stack w.live w.queue)
        (rows.processed_leaves Mid (λ x. ⊥) (place_of_use pid s w) mid_own mid_told mid_gone p a (locked_of s.marks) s.stack w.live w.queue h))
        (λ e. row_deed (shared p a x.descr (locked_of s.marks) s.stack w.live))

  -- It stands at its state again, or is gone.

  rise_past : (n last : ℤ) (ps : List Process) → pid ≤ℤ n → Rises n last ps → Each Half ps → Each RunsOwn ps
  rise_past n last [] l r h = tt
  rise_past n last (p ∷ ps) l r h = (elim h.0.1 [ inl e ↦ absurd (never p.number e r.0) | inr k ↦ k ], rise_past p.number last ps (up p.number r.0) r.1 h.1)
    where
      never : (m : ℤ) → m ≡ pid → n <ℤ m → ⊥
      never m e k = omega (arith, ints)

      up : (m : ℤ) → n <ℤ m → pid ≤ℤ m
      up m k = omega (arith, ints)

  apart : (p : Process) → has_pid pid p ≡ false → Half p → RunsOwn p
  apart p e (k, inl n) = absurd (never ((Decides-int_eq p.number pid).1 n))
    where
      never : has_pid pid p ≡ true → ⊥
      never f = cc
  apart p e (k, inr r) = r

  put_back : (f : Process → Process) → ((p : Process) → p.program ≡ d → RunsOwn (f p)) → (n last : ℤ) (ps : List Process) → Rises n last ps → Each Half ps → Each RunsOwn (changed_first (has_pid pid) f ps)
  put_back f k n last [] r h = tt
  put_back f k n last (p ∷ ps) r h =
      cond_both (has_pid pid p) (f p ∷ ps) (p ∷ changed_first (has_pid pid) f ps) (Each RunsOwn)
      (λ e. let m = (Decides-int_eq p.number pid).0 e in (k p (h.0.0 m), rise_past p.number last ps (same p.number m) r.1 h.1))
      (λ e. (apart p e h.0, put_back f k p.number last ps r.1 h.1))
    where
      same : (m : ℤ) → m ≡ pid → pid ≤ℤ m
      same m e = omega (arith, ints)

  stands_own : (t : Source) (v : World) → At t → Mid v.queue → AreOwn (process_stands_at pid t v)
  unfolding on_process IsNumbered
  stands_own t v at h = put_back (at_state (Some t)) (λ p e. at ∙ ap (λ (y : Dbref). Some y) (sym e)) (pos 0) v.queue.last v.queue.processes h.numbered h.halves

  gone_own : (n last : ℤ) (ps : List Process) → Rises n last ps → Each Half ps → Each RunsOwn (queues.without_first (has_pid pid) ps)
  gone_own n last [] r h = tt
  gone_own n last (p ∷ ps) r h =
      cond_both (has_pid pid p) ps (p ∷ queues.without_first (has_pid pid) ps) (Each RunsOwn)
      (λ e. rise_past p.number last ps (same p.number ((Decides-int_eq p.number pid).0 e)) r.1 h.1)
      (λ e. (apart p e h.0, gone_own p.number last ps r.1 h.1))
    where
      same : (m : ℤ) → m ≡ pid → pid ≤ℤ m
      same m e = omega (arith, ints)

  over_own : (q : Queue) → Mid q → Whole (without_process pid q)
  unfolding without_process IsNumbered
  over_own q h = gone_own (pos 0) q.last q.processes h.numbered h.halves

  -- Units.

  abbrev Good : World → Type 0
  Good w = AreOwn w × IsNumbered w.queue

  stands_good : (t : Source) (v : World) → At t → Mid v.queue → Good (process_stands_at pid t v)
  stands_good t v at h = (stands_own t v at h, numbered_changed pid (at_state (Some t)) (λ p. refl) v.queue h.numbered)

  settled_good : (w : World) → Good w → Good (settled w)
  settled_good w h = (settled_own w h.0, settled_numbered w h.1)

  went_good : (player : Dbref) (program : ℤ) (s : Source) (o : Outcome) (w : World) → Keep (programs_of s) o → At s → Mid w.queue → Good (world_of (unit_went pid player program o w))
  went_good player program s (goes k t) w keep at h = stands_good t w (bottom_left k s t keep ∙ at) h
  went_good player program s (faulted f) w keep at h = (over_own w.queue h, numbered_without pid w.queue h.numbered)
  went_good player program s _ w keep at h = (over_own w.queue h, numbered_without pid w.queue h.numbered)

  after_good : (player : Dbref) (s : Source) (e : SharedEffect World) → At s → DeedMid e → Good (world_of (after_deed pid player s e))
  after_good player s (does t v) at h = settled_good (process_stands_at pid t v) (stands_good t v h.1 h.0)
  after_good player s (rests t v) at h = settled_good (process_stands_at pid t v) (stands_good t v h.1 h.0)
  after_good player s (fails f v) at h = went_good player s.program.number s (fault_met f s) v (fault_keeps f s) at h

  unit_good : (x : Agent) (s : Source) (w : World) (o : Outcome) → unit s ≡ o → At s → Mid w.queue → Good (world_of (unit_done pid x s.program.number o w))
  unit_good x s w (asks p t) e at h =
      let kept : Keep (programs_of s) (asks p t) = subst (Keep (programs_of s)) e (unit_keeps s) in
      let now : At t = ap lowest_program kept.0 ∙ at in
      let u : World = out pid w in
      after_good x.player t (deed pid x p t u) now
      (deed_mid x t u (mid_own (at_state None) (λ p. record { number = refl; origin = record { player = refl; program = refl; command = refl; trigger = inl refl }; tied = inl refl }) w.queue h) now p)
  unit_good x s w o e at h = went_good x.player s.program.number s o w (subst (Keep (programs_of s)) e (unit_keeps s)) at h

  within_good : (x : Agent) (s : Source) (w : World) (o : Option MufFault) → At s → Mid w.queue → Good (world_of (within_limit o pid x s w))
  within_good x s w (Some f) at h = (over_own w.queue h, numbered_without pid w.queue h.numbered)
  within_good x s w None at h =
      unit_good x s (one_counted pid w) (unit s) refl at
      (mid_own (units_counted 1) (λ p. record { number = refl; origin = record { player = refl; program = refl; command = refl; trigger = inl refl }; tied = inl refl }) w.queue h)

  -- As it begins.

  past_last : (n last : ℤ) (ps : List Process) → Rises n last ps → n ≤ℤ last
  past_last n last [] r = r
  past_last n last (p ∷ ps) r = up p.number r.0 (past_last p.number last ps r.1)
    where
      up : (m : ℤ) → n <ℤ m → m ≤ℤ last → n ≤ℤ last
      up m k l = omega (arith, ints)

  all_past : (n last : ℤ) (ps : List Process) → pid ≤ℤ n → Rises n last ps → Each RunsOwn ps → Each Half ps
  all_past n last [] l r h = tt
  all_past n last (p ∷ ps) l r h = ((λ e. absurd (never p.number e r.0), inr h.0), all_past p.number last ps (up p.number r.0) r.1 h.1)
    where
      never : (m : ℤ) → m ≡ pid → n <ℤ m → ⊥
      never m e k = omega (arith, ints)

      up : (m : ℤ) → n <ℤ m → pid ≤ℤ m
      up m k = omega (arith, ints)

  found_mid : (it : Process) → it.program ≡ d → (n last : ℤ) (ps : List Process) → find (has_pid pid) ps ≡ Some it → Rises n last ps → Each RunsOwn ps → Each Half ps × (pid ≤ℤ last)
  found_mid it own n last [] e r h = absurd cc
  found_mid it own n last (p ∷ ps) e r h = at (has_pid pid p) refl e (λ k. found_mid it own p.number last ps k r.1 h.1)
    where
      same : (m : ℤ) → m ≡ pid → pid ≤ℤ m
      same m f = omega (arith, ints)

      least : (m : ℤ) → m ≡ pid → m ≤ℤ last → pid ≤ℤ last
      least m f l = omega (arith, ints)

      never : has_pid pid p ≡ false → has_pid pid p ≡ true → ⊥
      never f g = cc

      at : (b : Bool) → has_pid pid p ≡ b → cond b (Some p) (find (has_pid pid) ps) ≡ Some it → (find (has_pid pid) ps ≡ Some it → Each Half ps × (pid ≤ℤ last)) → Each Half (p ∷ ps) × (pid ≤ℤ last)
      at true f k more =
          let m : p.number ≡ pid = (Decides-int_eq p.number pid).0 f in
          let is : p ≡ it = cc in
          (((λ g. ap (λ (y : Process). y.program) is ∙ own, inr h.0), all_past p.number last ps (same p.number m) r.1 h.1), least p.number m (past_last p.number last ps r.1))
      at false f k more =
          let rest = more k in
          (((λ g. absurd (never f ((Decides-int_eq p.number pid).1 g)), inr h.0), rest.0), rest.1)

-- behind a unit each process runs its own, where each did before
pub turn_own : (tune : Tune) (pid : ℤ) (x : Agent) (s : Source) (w : World) → seat pid w ≡ Some (x, s) → AreOwn w × IsNumbered w.queue → AreOwn (world_of (unit_taken tune pid x s w)) × IsNumbered (world_of (unit_taken tune pid x s w)).queue
unfolding unit_taken IsNumbered
turn_own tune pid x s w e h =
    let it = sits pid x s w e in
    let d : Dbref = it.it.program in
    let at : At pid d s = ap (λ (o : Option Source). option_and_then bottom o) (sym it.state) ∙ found_among RunsOwn (has_pid pid) w.queue.processes it.it h.0 it.found in
    let mid = found_mid pid d it.it refl (pos 0) w.queue.last w.queue.processes it.found h.1 h.0 in
    within_good pid d x s w (limit_fault tune (acting x s w.live.objects).level x) at (record { halves = mid.0; numbered = h.1; last = mid.1 })

-- Slices.

own_item : (x : Datum) (p : Process) → RunsOwn p → RunsOwn (process_with_item x p)
own_item x p h = at p.running h
  where
    at : (o : Option Source) → option_and_then bottom o ≡ Some p.program → option_and_then bottom (option_map (handed x) o) ≡ Some p.program
    at None e = e
    at (Some s) e = e

own_given : (wait : Wait) (events : List (List ℕ × Datum)) (p : Process) → RunsOwn p → RunsOwn (given_event wait events p)
own_given ForEvent (e ∷ events) p h =
    let q : Process = record p { wait = Nothing; events = events } in
    own_item (words_of e.0) (process_with_item e.1 q) (own_item e.1 q h)
own_given ForEvent [] p h = h
own_given Nothing events p h = h
own_given ForLine events p h = h

awake_own : (pid : ℤ) (w : World) → AreOwn w → AreOwn (process_awake pid w)
unfolding on_process
awake_own pid w h = each_changed RunsOwn (has_pid pid) (woken w.moment) (λ p k. own_given p.wait p.events (record p { due = w.moment; section = 0 }) k) w.queue.processes h

sliced_own : (pid : ℤ) (w : World) → IsNumbered w.queue → AreOwn w → AreOwn (sliced pid w)
unfolding sliced
sliced_own pid w n h =
    (run_holds w.live.board.tune pid (λ v us. AreOwn v × IsNumbered v.queue → AreOwn (last_world v us)) (λ v k. k.0)
    (λ v x s us e rest k. rest (turn_own w.live.board.tune pid x s v e k)) (slice_most w.live.board.tune) (process_awake pid w))
    (awake_own pid w h, numbered_changed pid (woken w.moment) (woken_number w.moment) w.queue n)

-- Lines.

told_own : (d : ℕ) (r : World × Result ℤ MufFault) → AreOwn r.0 → AreOwn (start_told d r)
told_own d (v, Ok n) h = h
told_own d (v, Err f) h = h

judged_own : (d : ℕ) (c : Started) (o : Option Denial) (w : World) → AreOwn w → AreOwn (start_judged d c o w)
judged_own d c (Some denial) w h = h
judged_own d c None w h = let m = by_command d c.program w in told_own d (program_begun m c w) (begun_own m c w h)

launched_own : (d : ℕ) (a : Actor) (c : Started) (w : World) → AreOwn w → AreOwn (launched d a c w)
unfolding launched
launched_own d a c w h = judged_own d c (verdict w.live.objects a (Start c.program)) w h

up_own : (d : ℕ) (player : Dbref) (outcome : LineOutcome) (w : World) → AreOwn w → AreOwn (followed_up d player outcome w)
up_own d player (StartOutcome program trigger line arg) w h = launched_own d (actor_of w.live.objects player) (record { player = player; program = program; trigger = trigger; command = line; argument = arg }) w h
up_own d player _ w h = h

world_own : (d : ℕ) (player : Dbref) (line : List ℕ) (w : World) → AreOwn w → AreOwn (in_world d player line w)
unfolding in_world
world_own d player line w h =
    let a : Actor = actor_of w.live.objects player in
    let r = typed w.queue d a line w.live in
    let x : World = record w { live = r.0; queue = processes_after_line d a line w.live w.queue } in
    up_own d player r.1 (settled x) (settled_own x (own_comes (λ y. ⊥) w.queue x.queue (kept_left (λ y. ⊥) d a line w.live w.queue) h))

edited_own : (d : ℕ) (player : Dbref) (s : EditState) (line : List ℕ) (w : World) → AreOwn w → AreOwn (edited_line d player s line w)
unfolding edited_line
edited_own d player s line w h =
    let r = edited_by_line d (actor_of w.live.objects player) s line w.live in
    let x : World = record w { live = with_editor d (next_editor r.2 r.1) r.0 } in
    subst Whole (sym (queue_after d s.program r.2 (settled x))) (settled_own x h)

editor_own : (d : ℕ) (player : Dbref) (s : EditState) (line : List ℕ) (w : World) → AreOwn w → AreOwn (in_editor d player s line w)
unfolding in_editor
editor_own d player s line w h = cond_both (is_editor_open s w.live) (edited_line d player s line w) (on_live (tell d editor_exited) w) AreOwn (λ e. edited_own d player s line w h) (λ e. h)

given_own : (d : ℕ) (pid : ℤ) (line : List ℕ) (w : World) → AreOwn w → AreOwn (given_line d pid line w)
unfolding given_line without_process on_process
given_own d pid line w h =
    cond_both (is_abort line) (on_live (tell d program_aborted) (on_queue (without_process pid) w)) (on_queue (on_process pid (told_line w.moment line)) w) AreOwn
    (λ e. each_without (λ (p : Process). Unit {0}) pid RunsOwn w.queue.processes h)
    (λ e. each_changed RunsOwn (has_pid pid) (told_line w.moment line) (λ p k. own_item (words_of line) (going_on w.moment p) k) w.queue.processes h)

for_own : (taker : Option ℤ) (player : Option Dbref) (editor : Option EditState) (d : ℕ) (line : List ℕ) (w : World) → AreOwn w → AreOwn (line_for taker player editor d line w)
for_own (Some pid) player editor d line w h = given_own d pid line w h
for_own None None editor d line w h = h
for_own None (Some player) None d line w h = world_own d player line w h
for_own None (Some player) (Some s) d line w h = editor_own d player s line (on_live (with_editor d None) w) h

lines_own : (d : ℕ) (player : Option Dbref) (editor : Option EditState) (lines : List (List ℕ)) (w : World) → AreOwn w → AreOwn (line_done d player editor lines w)
lines_own d player editor [] w h = h
lines_own d player editor (line ∷ lines) w h = for_own (reader d w.queue) player editor d line (on_live (line_waits d lines) w) h

done_own : (d : ℕ) (o : Option Connection) (w : World) → AreOwn w → AreOwn (first_line_done d o w)
unfolding first_line_done
done_own d None w h = h
done_own d (Some c) w h = lines_own d c.player c.editor c.waiting w h

-- Any entry.

happened_own : (event : Event) (w : World) (party : ℕ) → IsNumbered w.queue → AreOwn w → AreOwn (happened w party event)
unfolding ended_tied claimed released
happened_own (Exec d) w party n h = done_own d _ w h
happened_own (Slice pid) w party n h = sliced_own pid w n h
happened_own (Closed d) w party n h = each_filter RunsOwn (λ p. not (is_tied_to d p)) w.queue.processes h
happened_own (Claim pid) w party n h = h
happened_own (Lost pid) w party n h = h
happened_own event w party n h = h

pub effect_own : (w : World) (e : Entry) → IsNumbered w.queue → AreOwn w → AreOwn (effect w e)
effect_own w e n h = effect-keeps AreOwn (λ c u there k. begun_own (by_hook u) c u k) (λ u k. k) w e (happened_own e.event w e.party n h)
