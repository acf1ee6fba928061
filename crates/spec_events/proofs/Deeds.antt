-- What the primitives of processes lead to.
use Rattle.std.proofs.Common.{◌≡◌, ℕ, ℤ, pos, Bool, true, false, cond, List, refl, Option, Some, None}
use Rattle.std.specs.Prelude.{nat_lt, Result, Ok, Err}
use Rattle.spec_live.specs.Objects.{Entry, nothing}
use Rattle.spec_live.proofs.Lives.{readies}
use Rattle.spec_rights.specs.declared.act.Actor.{Actor}
use Rattle.muf_model.specs.declared.fault.MufFault.{MufFault}
use Rattle.muf_model.specs.declared.fault.MufFault.TheVariants.{CallsFull}
use Rattle.muf_model.specs.declared.prims.Primitive.{Primitive as Name}
use Rattle.muf_model.specs.Datum.{Datum, int}
use Rattle.muf_model.specs.Tree.{Definition, Tree}
use Rattle.muf_model.specs.Source.{Program, Source, locked_of, calls_running, handed, program_entered}
use Rattle.muf_model.specs.Unit.{calls_most}
use Rattle.spec_prims.specs.Asking.{object_numbered}
use Rattle.muck_library.specs.Library.{Library, formed}
use Rattle.muck_queue.specs.declared.mode.Mode.TheVariants.{Background}
use Rattle.muck_queue.specs.declared.process.Process.{Process}
use Rattle.muck_queue.specs.Queues.{process}
use Rattle.spec_processes.specs.ProcessRows.{Effect, gives, waits, forks, enters, starts, refuses, processed, seconds_later}
use Rattle.spec_processes.proofs.Leaves.{EndedBy, Leaves, leaves, ended_by}
use Rattle.spec_events.specs.declared.starting.Agent.{Agent}
use Rattle.spec_events.specs.declared.starting.Call.{Call as Started}
use Rattle.spec_events.specs.declared.starting.Manner.{Manner}
use Rattle.spec_events.specs.World.{World, with_library}
use Rattle.spec_events.specs.Starting.{process_joined, program_begun}
use Rattle.spec_events.specs.Slices.{acting, SharedEffect, does, rests, fails, state_behind, called_word, word_entered, form_entered, form_called, program_called, child_of, with_number, child_joined, forked, queued_command, with_process, queued, place_of_use, effected, process_done}
use Rattle.spec_events.specs.Endings.{end_open}
use Rattle.spec_events.proofs.Quietly.{Quietly, quietly_same, quietly_library, quietly_joined, quietly_begun}
use Rattle.spec_events.proofs.Endings.{IsSteady, Lasting, lasting_same, lasting_stays, lasting_joined, lasting_begun}

-- A deed leads to a world of which that is so.
abbrev pub Leads : (World → Type 0) → SharedEffect World → Type 0
Leads P (does t v) = P v
Leads P (rests t v) = P v
Leads P (fails f v) = P v

pub leads_more : (P Q : World → Type 0) → ((v : World) → P v → Q v) → (d : SharedEffect World) → Leads P d → Leads Q d
leads_more P Q h (does t v) p = h v p
leads_more P Q h (rests t v) p = h v p
leads_more P Q h (fails f v) p = h v p

-- Nothing but processes, built forms and random numbers differ, and of the processes only such are gone as might end.
pub record Left (may : Process → Type 0) (w v : World) : Type 0 where
  pub quietly : Quietly w v
  pub lasting : Lasting may w.queue v.queue

module _ (may : Process → Type 0) (w : World) where
  left_same : Left may w w
  left_same = record { quietly = quietly_same w; lasting = lasting_same may w.queue }

  left_library : (library : Library) → Left may w (with_library library w)
  left_library library = record { quietly = quietly_library library w; lasting = lasting_same may w.queue }

  -- FORK
  leads_number : (stack : List Datum) (s : Source) (r : World × Result ℤ MufFault) → Left may w r.0 → Leads (Left may w) (with_number stack s r)
  leads_number stack s (v, Ok n) h = h
  leads_number stack s (v, Err f) h = h

  leads_joined : (p : Process) (stack : List Datum) (s : Source) → Leads (Left may w) (with_number stack s (process_joined p w))
  leads_joined p stack s = leads_number stack s (process_joined p w) (record { quietly = quietly_joined p w; lasting = lasting_joined may p w })

  leads_child : (o : Option Process) (stack : List Datum) (s : Source) → Leads (Left may w) (child_joined o stack s w)
  leads_child None stack s = left_same
  leads_child (Some p) stack s = leads_joined (child_of w.moment (handed (int (pos 0)) (state_behind stack s)) p) stack s

  leads_forked : (pid : ℤ) (stack : List Datum) (s : Source) → Leads (Left may w) (forked pid stack s w)
  unfolding forked
  leads_forked pid stack s = leads_child (process pid w.queue) stack s

  -- QUEUE
  leads_process : (stack : List Datum) (s : Source) (r : World × Result ℤ MufFault) → Left may w r.0 → Leads (Left may w) (with_process stack s r)
  leads_process stack s (v, Ok n) h = h
  leads_process stack s (v, Err f) h = h

  leads_begun : (m : Manner) (c : Started) (stack : List Datum) (s : Source) → Leads (Left may w) (with_process stack s (program_begun m c w))
  leads_begun m c stack s = leads_process stack s (program_begun m c w) (record { quietly = quietly_begun m c w; lasting = lasting_begun may m c w })

  leads_queued : (x : Agent) (stack : List Datum) (d : ℤ) (seconds : ℕ) (argument : List ℕ) (s : Source) → Leads (Left may w) (queued x stack d seconds argument s w)
  unfolding queued
  leads_queued x stack d seconds argument s =
      leads_begun (record { descr = None; mode = Background; due = seconds_later w.moment seconds })
      (record { player = x.player; program = object_numbered d; trigger = nothing; command = queued_command; argument = argument })
      stack s

  -- CALL
  leads_word : (s : Source) (program : Program) (o : Option Definition) (v : World) → Left may w v → Leads (Left may w) (word_entered s program o v)
  leads_word s program None v h = h
  leads_word s program (Some d) v h = either (nat_lt (calls_running s.marks) calls_most)
    where
      either : (b : Bool) → Leads (Left may w) (cond b (does (program_entered program d s) v) (fails CallsFull v))
      either true = h
      either false = h

  leads_form : (a : Actor) (after : Source) (d : ℤ) (name : Option (List ℕ)) (form : Option Tree) (v : World) → Left may w v → Leads (Left may w) (form_entered a after d name form v)
  leads_form a after d name None v h = h
  leads_form a after d name (Some tree) v h = leads_word after (record { number = d; tree = tree }) (called_word a name tree) v h

  leads_made : (a : Actor) (after : Source) (d : ℤ) (name : Option (List ℕ)) (made : Option Tree × Library) → Leads (Left may w) (form_called a after d name made w)
  leads_made a after d name (form, library) = leads_form a after d name form (with_library library w) (left_library library)

  leads_called : (a : Actor) (after : Source) (d : ℤ) (name : Option (List ℕ)) → Leads (Left may w) (program_called a after d name w)
  unfolding program_called
  leads_called a after d name = leads_made a after d name (formed w.live.objects (object_numbered d) w.library)

  -- any of them
  leads_effect : IsSteady may → (pid : ℤ) (x : Agent) (s : Source) → ((q : Process) → EndedBy (acting x s w.live.objects) w.live.objects q → may q) →
      (e : Effect) → Leaves (acting x s w.live.objects) w.live w.queue e → Leads (Left may w) (effected pid x s w e)
  leads_effect steady pid x s ends (gives stack live queue) h = record {
    quietly = record { objects = h.shows.objects; ties = (readies w.live live h.shows).ties; tune = h.shows.tune; dead = refl; still = refl };
    lasting = lasting_stays may (EndedBy (acting x s w.live.objects) w.live.objects) steady ends w.queue queue h.stays;
  }
  leads_effect steady pid x s ends (waits n stack queue) h = record {
    quietly = record { objects = refl; ties = refl; tune = refl; dead = refl; still = refl };
    lasting = lasting_stays may (EndedBy (acting x s w.live.objects) w.live.objects) steady ends w.queue queue h.stays;
  }
  leads_effect steady pid x s ends (forks stack) h = leads_forked pid stack s
  leads_effect steady pid x s ends (enters stack d name) h = leads_called (acting x s w.live.objects) (state_behind stack s) d name
  leads_effect steady pid x s ends (starts stack d seconds argument) h = leads_queued x stack d seconds argument s
  leads_effect steady pid x s ends (refuses f) h = left_same

  pub leads_done : IsSteady may → (pid : ℤ) (x : Agent) (p : Name) (s : Source) → ((q : Process) → EndedBy (acting x s w.live.objects) w.live.objects q → may q) → Leads (Left may w) (process_done pid x p s w)
  unfolding process_done
  leads_done steady pid x p s ends =
      let a : Actor = acting x s w.live.objects in
      leads_effect steady pid x s ends (processed p (place_of_use pid s w) a (locked_of s.marks) s.stack w.live w.queue) (leaves p (place_of_use pid s w) a (locked_of s.marks) s.stack w.live w.queue)

-- what holds where any may end
pub leads_quietly : (pid : ℤ) (x : Agent) (p : Name) (s : Source) (w : World) → Leads (Quietly w) (process_done pid x p s w)
leads_quietly pid x p s w =
    leads_more (Left (λ q. Unit {0}) w) (Quietly w) (λ v h. h.quietly) (process_done pid x p s w) (leads_done (λ q. Unit {0}) w (λ q r same m. tt) pid x p s (λ q e. tt))

-- one that the rule of KILL lets end is open to the actor
pub ended_open : (a : Actor) (es : List Entry) (p : Process) → EndedBy a es p → end_open a es p ≡ true
ended_open a es p e = ended_by a es p.player p.program e
