-- What stays so where a program is started: its form is built where it isn't yet, and then a process joins.
use Rattle.std.proofs.Common.{◌≡◌, ℤ, refl, Option, Some, None}
use Rattle.std.specs.Prelude.{Result}
use Rattle.std.proofs.lemmas.Bool.{cond_both}
use Rattle.muf_model.specs.declared.fault.MufFault.{MufFault}
use Rattle.muf_model.specs.Tree.{Definition, Tree}
use Rattle.muf_model.specs.Source.{Source, last_word}
use Rattle.muck_library.specs.Library.{formed}
use Rattle.muck_queue.specs.declared.process.Process.{Process}
use Rattle.muck_queue.specs.Queues.{is_queue_full, process_added}
use Rattle.spec_events.specs.declared.starting.Call.{Call}
use Rattle.spec_events.specs.declared.starting.Manner.{Manner}
use Rattle.spec_events.specs.World.{World, on_queue, with_library}
use Rattle.spec_events.specs.Starting.{program_beginning, new_process, process_joined, word_started, form_started, program_begun}

pub joined_keeps : (P : World → Type 0) (p : Process) (w : World) → P (on_queue (process_added p) w) → P w → P (process_joined p w).0
joined_keeps P p w j h = cond_both (is_queue_full p.player w.live.board.tune w.queue) _ _ (λ (r : World × Result ℤ MufFault). P r.0) (λ e. h) (λ e. j)

module _ (P : World → Type 0) (m : Manner) (c : Call) (joins : (s : Source) (w : World) → P w → P (on_queue (process_added (new_process m c s)) w)) where
  word_keeps : (tree : Tree) (o : Option Definition) (w : World) → P w → P (word_started m c tree o w).0
  word_keeps tree None w h = h
  word_keeps tree (Some word) w h = joined_keeps P (new_process m c (program_beginning c tree word w)) w (joins (program_beginning c tree word w) w h) h

  form_keeps : (o : Option Tree) (w : World) → P w → P (form_started m c o w).0
  form_keeps None w h = h
  form_keeps (Some tree) w h = word_keeps tree (last_word tree.words) w h

  pub begun_keeps : (w : World) → P (with_library (formed w.live.objects c.program w.library).1 w) → P (program_begun m c w).0
  unfolding program_begun
  begun_keeps w h = let r = formed w.live.objects c.program w.library in form_keeps r.0 (with_library r.1 w) h

-- Nothing changes of what commands change.

pub live_joined : (p : Process) (w : World) → (process_joined p w).0.live ≡ w.live
live_joined p w = joined_keeps (λ u. u.live ≡ w.live) p w refl refl

pub live_begun : (m : Manner) (c : Call) (w : World) → (program_begun m c w).0.live ≡ w.live
live_begun m c w = begun_keeps (λ u. u.live ≡ w.live) m c (λ s u k. k) w refl
