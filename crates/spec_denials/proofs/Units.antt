-- What each unit of a slice asks for.
use Rattle.std.proofs.Common.{◌≡◌, ℕ, ℤ, pos, Bool, true, false, cond, List, refl, sym, subst, Option, Some, None, inl, inr}
use Rattle.std.specs.Prelude.{nat_lt, ◌+ℤ◌, Result, Ok, Err}
use Rattle.muck_model.specs.declared.tune.Tune.{Tune}
use Rattle.spec_live.specs.Objects.{Entry}
use Rattle.spec_live.specs.Lives.{Live}
use Rattle.spec_rights.specs.declared.act.Actor.{Actor}
use Rattle.muf_model.specs.declared.fault.MufFault.{MufFault}
use Rattle.muf_model.specs.declared.fault.MufFault.TheVariants.{CallsFull, Denied, ProcessLimit}
use Rattle.muf_model.specs.declared.prims.Primitive.{Primitive}
use Rattle.muf_model.specs.declared.prims.Primitive.TheVariants.{NextProp}
use Rattle.muf_model.specs.Datum.{Datum, int}
use Rattle.muf_model.specs.Tree.{Block, stop, word, when, fork, ring, Definition, Tree}
use Rattle.muf_model.specs.Source.{Program, Source, locked_of, calls_running, handed, program_entered, passed_at, last_word}
use Rattle.muf_model.specs.Unit.{calls_most, Outcome, asks, faulted, unit}
use Rattle.muf_model.specs.Chains.{programs_of, Keeps as Keep}
use Rattle.muf_model.proofs.Chains.{unit_keeps}
use Rattle.muck_library.specs.Library.{Library, formed}
use Rattle.muck_queue.specs.declared.process.Process.{Process}
use Rattle.muck_queue.specs.Queues.{process, is_queue_full, process_added}
use Rattle.spec_prims.specs.Asking.{object_numbered}
use Rattle.spec_prims.specs.Row.{WorldAnswer, gives, refuses, breaks}
use Rattle.spec_prims.specs.Formulas.{answers_for, is_formula}
use Rattle.spec_prims.specs.Shared.{shared}
use Rattle.spec_processes.specs.ProcessRows.{Effect, gives as effect_gives, waits, forks, enters, starts, refuses as effect_refuses, processed, is_process}
use Rattle.spec_events.specs.declared.starting.Agent.{Agent}
use Rattle.spec_events.specs.declared.starting.Call.{Call}
use Rattle.spec_events.specs.declared.starting.Manner.{Manner}
use Rattle.spec_events.specs.World.{World, on_queue, with_library}
use Rattle.spec_events.specs.Starting.{program_begun, program_beginning, new_process, process_joined, word_started, form_started, built_started}
use Rattle.spec_events.specs.Slices.{acting, SharedEffect, does, rests, fails, state_behind, lifted, row_done, called_word, word_entered, form_entered, form_called, program_called, child_of, with_number, child_joined, forked, with_process, queued, place_of_use, effected, process_done, deed, out, one_counted, unit_taken, unit_of, units_run}
use Rattle.spec_events.specs.Sourced.{Each}
use Rattle.spec_events.proofs.Slicing.{run_holds}
use Rattle.spec_events.proofs.Taken.{same_actor}
use Rattle.spec_denials.specs.Plain.{EndsPlain}
use Rattle.spec_denials.specs.Acts.{primitive_acts}
use Rattle.spec_denials.specs.Asked.{first_denied, FaultNames, RowNames, NameListed, RowLists}
use Rattle.spec_denials.specs.Notes.{BrokeNames, Breaks}
use Rattle.spec_denials.specs.Processes.{process_acts, EffectNames}
use Rattle.spec_denials.specs.Denials.{acts_at, BegunNames, DeedNames, DeedLists, AskNames, OutcomeNames, UnitNames}
use Rattle.spec_denials.proofs.Local.{unit_plain}
use Rattle.spec_denials.proofs.Naming.{fault_plain}
use Rattle.spec_denials.proofs.Shared.{shared_names, next_lists}
use Rattle.spec_denials.proofs.Processes.{processed_names}

module _ (by : Actor) (rule : Option ℕ) (stack : List Datum) (live : Live) where
  begun_names : (f : MufFault) → FaultNames rule f → BegunNames by rule stack live f
  begun_names (Denied n) h = inl h
  begun_names _ h = tt

  begun_broke : (f : MufFault) → rule ≡ None → BrokeNames by stack live f → BegunNames by rule stack live f
  begun_broke (Denied n) h k = inr (h, k)
  begun_broke _ h k = tt

  deed_fails : (b : Bool) (f : MufFault) (w : World) → FaultNames rule f → DeedNames b by rule stack live (fails f w)
  deed_fails true f w h = begun_names f h
  deed_fails false f w h = h

-- What follows where a program is called, started or forked is no denial.

abbrev Fine : SharedEffect World → Type 0
Fine (does s w) = Unit {0}
Fine (rests s w) = Unit {0}
Fine (fails f w) = FaultNames None f

deed_fine : (b : Bool) (by : Actor) (rule : Option ℕ) (stack : List Datum) (live : Live) (d : SharedEffect World) → rule ≡ None → Fine d → DeedNames b by rule stack live d
deed_fine b by rule stack live (does s w) h k = h
deed_fine b by rule stack live (rests s w) h k = h
deed_fine b by rule stack live (fails f w) h k = deed_fails by rule stack live b f w (fault_plain f rule k)

-- a process is started, or there is none, and not for want of leave
abbrev IsBegun : World × Result ℤ MufFault → Type 0
IsBegun (w, Ok n) = Unit {0}
IsBegun (w, Err f) = FaultNames None f

joined_fine : (p : Process) (w : World) → IsBegun (process_joined p w)
joined_fine p w = either (is_queue_full p.player w.live.board.tune w.queue) (on_queue (process_added p) w, Ok (w.queue.last +ℤ pos 1)) tt
  where
    either : (b : Bool) (x : World × Result ℤ MufFault) → IsBegun x → IsBegun (cond b (w, Err ProcessLimit) x)
    either true x h = tt
    either false x h = h

word_fine : (m : Manner) (c : Call) (tree : Tree) (o : Option Definition) (w : World) → IsBegun (word_started m c tree o w)
word_fine m c tree None w = tt
word_fine m c tree (Some first) w = joined_fine (new_process m c (program_beginning c tree first w)) w

form_fine : (m : Manner) (c : Call) (o : Option Tree) (w : World) → IsBegun (form_started m c o w)
form_fine m c None w = tt
form_fine m c (Some tree) w = word_fine m c tree (last_word tree.words) w

built_fine : (m : Manner) (c : Call) (made : Option Tree × Library) (w : World) → IsBegun (built_started m c made w)
built_fine m c (form, library) w = form_fine m c form (with_library library w)

begun_fine : (m : Manner) (c : Call) (w : World) → IsBegun (program_begun m c w)
unfolding program_begun
begun_fine m c w = built_fine m c (formed w.live.objects c.program w.library) w

with_fine : (stack : List Datum) (s : Source) (r : World × Result ℤ MufFault) → IsBegun r → Fine (with_process stack s r)
with_fine stack s (w, Ok n) h = tt
with_fine stack s (w, Err f) h = h

queued_fine : (x : Agent) (stack : List Datum) (d : ℤ) (seconds : ℕ) (argument : List ℕ) (s : Source) (w : World) → Fine (queued x stack d seconds argument s w)
unfolding queued
queued_fine x stack d seconds argument s w = with_fine stack s _ (begun_fine _ _ w)

number_fine : (stack : List Datum) (s : Source) (r : World × Result ℤ MufFault) → Fine (with_number stack s r)
number_fine stack s (w, Ok n) = tt
number_fine stack s (w, Err f) = tt

child_fine : (o : Option Process) (stack : List Datum) (s : Source) (w : World) → Fine (child_joined o stack s w)
child_fine None stack s w = tt
child_fine (Some p) stack s w = number_fine stack s (process_joined (child_of w.moment (handed (int (pos 0)) (state_behind stack s)) p) w)

forked_fine : (pid : ℤ) (stack : List Datum) (s : Source) (w : World) → Fine (forked pid stack s w)
unfolding forked
forked_fine pid stack s w = child_fine (process pid w.queue) stack s w

entered_fine : (s : Source) (program : Program) (o : Option Definition) (w : World) → Fine (word_entered s program o w)
entered_fine s program None w = tt
entered_fine s program (Some d) w = either (nat_lt (calls_running s.marks) calls_most)
  where
    either : (b : Bool) → Fine (cond b (does (program_entered program d s) w) (fails CallsFull w))
    either true = tt
    either false = tt

tree_fine : (a : Actor) (after : Source) (d : ℤ) (name : Option (List ℕ)) (form : Option Tree) (w : World) → Fine (form_entered a after d name form w)
tree_fine a after d name None w = tt
tree_fine a after d name (Some tree) w = entered_fine after (record { number = d; tree = tree }) (called_word a name tree) w

made_fine : (a : Actor) (after : Source) (d : ℤ) (name : Option (List ℕ)) (made : Option Tree × Library) (w : World) → Fine (form_called a after d name made w)
made_fine a after d name (form, library) w = tree_fine a after d name form (with_library library w)

called_fine : (a : Actor) (after : Source) (d : ℤ) (name : Option (List ℕ)) (w : World) → Fine (program_called a after d name w)
unfolding program_called
called_fine a after d name w = made_fine a after d name (formed w.live.objects (object_numbered d) w.library) w

-- A deed by its row.

effect_deed : (b : Bool) (by : Actor) (rule : Option ℕ) (pid : ℤ) (x : Agent) (s : Source) (w : World) (e : Effect) → EffectNames rule e → DeedNames b by rule s.stack w.live (effected pid x s w e)
effect_deed b by rule pid x s w (effect_gives stack live queue) h = h
effect_deed b by rule pid x s w (waits n stack queue) h = h
effect_deed b by rule pid x s w (forks stack) h = deed_fine b by rule s.stack w.live (forked pid stack s w) h (forked_fine pid stack s w)
effect_deed b by rule pid x s w (enters stack d name) h = deed_fine b by rule s.stack w.live (program_called (acting x s w.live.objects) (state_behind stack s) d name w) h (called_fine (acting x s w.live.objects) (state_behind stack s) d name w)
effect_deed b by rule pid x s w (starts stack d seconds argument) h = deed_fine b by rule s.stack w.live (queued x stack d seconds argument s w) h (queued_fine x stack d seconds argument s w)
effect_deed b by rule pid x s w (effect_refuses f) h = deed_fails by rule s.stack w.live b f w h

row_deed : (b : Bool) (by : Actor) (rule : Option ℕ) (s : Source) (w : World) (row : WorldAnswer) → RowNames (Breaks b by s.stack w.live) rule row → DeedNames b by rule s.stack w.live (lifted s w row)
row_deed b by rule s w (gives stack live) h = h
row_deed b by rule s w (refuses f) h = deed_fails by rule s.stack w.live b f w h
row_deed true by rule s w (breaks f live) h = begun_broke by rule s.stack w.live f h.0 h.1
row_deed false by rule s w (breaks f live) h = absurd h.1

behind_stack : (b : Block) (s : Source) → (passed_at b s).stack ≡ s.stack
behind_stack stop s = refl
behind_stack (word line w next) s = refl
behind_stack (when line a next) s = refl
behind_stack (fork k line a mid b next) s = refl
behind_stack (ring k line body c last next) s = refl

lists_row : (a : Actor) (es : List Entry) (s : Source) (w : World) (row : WorldAnswer) → RowLists a es s.stack row → DeedLists NextProp a es s.stack (lifted s w row)
lists_row a es s w (gives stack live) h = subst (NameListed a es s.stack) (sym (behind_stack s.now (record s { stack = stack }))) h
lists_row a es s w (refuses f) h = tt
lists_row a es s w (breaks f live) h = tt

module _ (pid : ℤ) (x : Agent) (s : Source) (w : World) where
  abbrev who : Actor
  who = acting x s w.live.objects

  deed_names : (p : Primitive) → DeedNames (is_formula p) (answers_for p (acting x s w.live.objects) w.live.objects) (first_denied w.live.objects (acting x s w.live.objects) (acts_at p s.stack w)) s.stack w.live (deed pid x p s w)
  unfolding deed process_done row_done
  deed_names p = either (is_process p)
    where
      by : Actor
      by = answers_for p (acting x s w.live.objects) w.live.objects

      either : (b : Bool) → DeedNames (is_formula p) by (first_denied w.live.objects (acting x s w.live.objects) (cond b (process_acts p s.stack w.queue) (primitive_acts p s.stack w.live.objects))) s.stack w.live (cond b (process_done pid x p s w) (row_done x p s w))
      either true =
          effect_deed (is_formula p) by _ pid x s w (processed p (place_of_use pid s w) who (locked_of s.marks) s.stack w.live w.queue) (processed_names p (place_of_use pid s w) who (locked_of s.marks) s.stack w.live w.queue)
      either false = row_deed (is_formula p) by _ s w (shared p who x.descr (locked_of s.marks) s.stack w.live) (shared_names p who x.descr (locked_of s.marks) s.stack w.live)

  deed_lists : (p : Primitive) → DeedLists p (acting x s w.live.objects) w.live.objects s.stack (deed pid x p s w)
  unfolding deed row_done
  deed_lists NextProp = lists_row who w.live.objects s w (shared NextProp who x.descr (locked_of s.marks) s.stack w.live) (next_lists who x.descr (locked_of s.marks) s.stack w.live)
  deed_lists _ = tt

-- A unit.

outcome_names : (pid : ℤ) (x : Agent) (s : Source) (w : World) (o : Outcome) → unit s ≡ o → OutcomeNames pid x (acting x s w.live.objects) o w
outcome_names pid x s w (asks p t) e =
    let kept : Keep (programs_of s) (asks p t) = subst (Keep (programs_of s)) e (unit_keeps s) in
    subst (λ a. AskNames a p t.stack w (deed pid x p t w)) (same_actor x s t w.live.objects kept.0) (deed_names pid x t w p, deed_lists pid x t w p)
outcome_names pid x s w (faulted f) e = subst EndsPlain e (unit_plain s)
outcome_names pid x s w o e = tt

unit_names : (tune : Tune) (pid : ℤ) (x : Agent) (s : Source) (w : World) → UnitNames tune pid (unit_of x s w (unit_taken tune pid x s w))
unit_names tune pid x s w = record { agent = x; acts = refl; went = refl; names = outcome_names pid x s (out pid (one_counted pid w)) (unit s) refl }

-- and each of them
pub units_named : (tune : Tune) (pid : ℤ) (n : ℕ) (w : World) → Each (UnitNames tune pid) (units_run tune n pid w)
units_named tune pid n w = run_holds tune pid (λ v ts. Each (UnitNames tune pid) ts) (λ v. tt) (λ v x s ts e rest. (unit_names tune pid x s v, rest)) n w
