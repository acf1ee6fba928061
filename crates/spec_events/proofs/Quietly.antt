-- Changes of the world that leave alone what a licence speaks of.
use Rattle.std.proofs.Common.{◌≡◌, ℕ, ℤ, pos, ◌+ℤ◌, Bool, true, false, cond, suc, List, [], ◌∷◌, refl, ◌∙◌, Option, Some, None}
use Rattle.std.specs.Prelude.{Result, Ok, Err}
use Rattle.std.specs.Option.{option_map_or}
use Rattle.muck_model.specs.declared.dbref.Dbref.{Dbref}
use Rattle.muck_model.specs.declared.dbref.Denial.{Denial}
use Rattle.spec_live.specs.declared.mark.Mark.{Mark}
use Rattle.spec_live.specs.declared.mark.Mark.TheVariants.{Lines, Gone}
use Rattle.spec_live.specs.Objects.{Entry, dbref_of}
use Rattle.spec_live.specs.Boards.{Board, editors_closed}
use Rattle.spec_live.specs.Lives.{Live, Change, tell}
use Rattle.spec_live.proofs.EditorLaws.{editors_closed_kept}
use Rattle.spec_rights.specs.declared.act.Actor.{Actor}
use Rattle.spec_rights.specs.declared.act.Act.TheVariants.{Start}
use Rattle.spec_rights.specs.Verdict.{verdict}
use Rattle.spec_rights.specs.Asking.{refused}
use Rattle.spec_live.proofs.Steps.{Name, Begun, Stilled, May}
use Rattle.spec_live.proofs.Lives.{Shows, Readies, Loose, loose_quiet, Goes, wider}
use Rattle.spec_rights.proofs.Walking.{acts}
use Rattle.spec_rights.proofs.Licences.{Quiet, quiet_order, tie, ties}
use Rattle.spec_rights.proofs.Shown.{quiet_tell, quiet_refused}
use Rattle.muf_model.specs.declared.fault.MufFault.{MufFault}
use Rattle.muf_model.specs.declared.fault.MufFault.TheVariants.{ProcessLimit}
use Rattle.muf_model.specs.Faults.{fault_text}
use Rattle.muf_model.specs.Tree.{Definition, Tree}
use Rattle.muf_model.specs.Source.{last_word}
use Rattle.muck_library.specs.declared.flaw.Flaw.{Flaw}
use Rattle.muck_library.specs.Programs.{built_tree}
use Rattle.muck_library.specs.Library.{Library, formed}
use Rattle.muck_queue.specs.declared.process.Process.{Process}
use Rattle.muck_queue.specs.Queues.{Queue, process_added, is_queue_full}
use Rattle.spec_events.specs.declared.starting.Call.{Call as Started}
use Rattle.spec_events.specs.declared.starting.Manner.{Manner}
use Rattle.spec_events.specs.World.{World, on_live, on_queue, with_library}
use Rattle.spec_events.specs.Following.{mark_followed, swept}
use Rattle.spec_events.specs.Starting.{program_beginning, by_command, new_process, process_joined, word_started, form_started, built_started, program_begun, start_told, start_judged, launched}
use Rattle.spec_events.specs.Lines.{compiled_so, compiled}
use Rattle.spec_events.specs.Dumping.{told_each}

-- the dump that runs, and the second: neither changes as lines are done and processes run
abbrev pub Still : Type 0
Still = Option (ℕ × List ℕ) × ℕ

abbrev pub still_of : World → Still
still_of w = (w.dumps.running, w.moment)

-- no object differs, nor who the connections are, nor what is tuned, the world is as dead as before, the same dump runs, and it is the
-- same second
pub record Quietly (w v : World) : Type 0 where
  pub objects : v.live.objects ≡ w.live.objects
  pub ties : ties v.live.board.connections ≡ ties w.live.board.connections
  pub tune : v.live.board.tune ≡ w.live.board.tune
  pub dead : v.dead ≡ w.dead
  pub still : still_of v ≡ still_of w

pub quietly_same : (w : World) → Quietly w w
quietly_same w = record { objects = refl; ties = refl; tune = refl; dead = refl; still = refl }

pub quietly_both : (u v w : World) → Quietly u v → Quietly v w → Quietly u w
quietly_both u v w p q = record { objects = q.objects ∙ p.objects; ties = q.ties ∙ p.ties; tune = q.tune ∙ p.tune; dead = q.dead ∙ p.dead; still = q.still ∙ p.still }

-- What events may touch by which no dump begins.
abbrev pub lively : May
lively Begun = false
lively Stilled = false
lively _ = true

pub lively_acts : (w v : Live) → Goes acts w v → Goes lively w v
lively_acts w v p = wider acts lively up w v p
  where
    up : (name : Name) → acts name ≡ true → lively name ≡ true
    up Begun h = h
    up Stilled h = h
    up _ h = refl

pub quietly_readies : (w v : World) → Quietly w v → Readies w.live v.live
quietly_readies w v q = record { objects = q.objects; ties = q.ties; tune = q.tune }

pub quietly_loose : (f : Change) → Loose f → (w : World) → Quietly w (on_live f w)
quietly_loose f q w = let s = q.law w.live in record { objects = s.objects; ties = s.ties; tune = s.tune; dead = refl; still = refl }

pub quietly_live : (f : Change) → Quiet f → (w : World) → Quietly w (on_live f w)
quietly_live f q w = quietly_loose f (loose_quiet f q) w

pub quietly_queue : (f : Queue → Queue) (w : World) → Quietly w (on_queue f w)
quietly_queue f w = record { objects = refl; ties = refl; tune = refl; dead = refl; still = refl }

pub quietly_library : (library : Library) (w : World) → Quietly w (with_library library w)
quietly_library library w = record { objects = refl; ties = refl; tune = refl; dead = refl; still = refl }

-- What follows from a change of objects.

closed_tune : (d : Dbref) (b : Board) → (editors_closed d b).tune ≡ b.tune
unfolding editors_closed
closed_tune d b = refl

quietly_followed : (m : Mark) (d : Dbref) (w : World) → Quietly w (mark_followed m d w)
quietly_followed Lines d w = record { objects = refl; ties = refl; tune = refl; dead = refl; still = refl }
quietly_followed Gone d w = record { objects = refl; ties = editors_closed_kept tie (λ c. refl) d w.live.board; tune = closed_tune d w.live.board; dead = refl; still = refl }

quietly_marked : (o : Option Mark) (d : Dbref) (w : World) → Quietly w (option_map_or (λ m. mark_followed m d w) o w)
quietly_marked None d w = quietly_same w
quietly_marked (Some m) d w = quietly_followed m d w

pub quietly_swept : (n : ℕ) (es : List Entry) (w : World) → Quietly w (swept n es w)
unfolding swept
quietly_swept n [] w = quietly_same w
quietly_swept n (e ∷ es) w = quietly_both w _ _ (quietly_marked e.mark (dbref_of n) w) (quietly_swept (suc n) es _)

-- A program that is started.

abbrev pub BegunQuietly : World → World × Result ℤ MufFault → Type 0
BegunQuietly w r = Quietly w r.0

pub quietly_joined : (p : Process) (w : World) → BegunQuietly w (process_joined p w)
quietly_joined p w = either (is_queue_full p.player w.live.board.tune w.queue)
  where
    either : (b : Bool) → BegunQuietly w (cond b (w, Err ProcessLimit) (on_queue (process_added p) w, Ok (w.queue.last +ℤ pos 1)))
    either true = quietly_same w
    either false = quietly_queue (process_added p) w

quietly_word : (m : Manner) (c : Started) (tree : Tree) (word : Option Definition) (w : World) → BegunQuietly w (word_started m c tree word w)
quietly_word m c tree None w = quietly_same w
quietly_word m c tree (Some word) w = quietly_joined (new_process m c (program_beginning c tree word w)) w

quietly_form : (m : Manner) (c : Started) (form : Option Tree) (w : World) → BegunQuietly w (form_started m c form w)
quietly_form m c None w = quietly_same w
quietly_form m c (Some tree) w = quietly_word m c tree (last_word tree.words) w

quietly_built : (m : Manner) (c : Started) (made : Option Tree × Library) (w : World) → BegunQuietly w (built_started m c made w)
quietly_built m c (form, library) w = quietly_both w (with_library library w) _ (quietly_library library w) (quietly_form m c form (with_library library w))

pub quietly_begun : (m : Manner) (c : Started) (w : World) → BegunQuietly w (program_begun m c w)
unfolding program_begun
quietly_begun m c w = quietly_built m c (formed w.live.objects c.program w.library) w

quietly_told : (d : ℕ) (w : World) (r : World × Result ℤ MufFault) → BegunQuietly w r → Quietly w (start_told d r)
quietly_told d w (v, Ok pid) q = q
quietly_told d w (v, Err fault) q = quietly_both w v _ q (quietly_live (tell d (fault_text fault)) (quiet_tell d (fault_text fault)) v)

quietly_judged : (d : ℕ) (c : Started) (o : Option Denial) (w : World) → Quietly w (start_judged d c o w)
quietly_judged d c (Some denial) w = quietly_live (refused d denial) (quiet_refused d denial) w
quietly_judged d c None w = quietly_told d w _ (quietly_begun (by_command d c.program w) c w)

pub quietly_launched : (d : ℕ) (a : Actor) (c : Started) (w : World) → Quietly w (launched d a c w)
unfolding launched
quietly_launched d a c w = quietly_judged d c (verdict w.live.objects a (Start c.program)) w

-- A program that is built by its editor.

quietly_so : (d : ℕ) (program : Dbref) (r : Result Tree Flaw) (w : World) → Quietly w (compiled_so d program r w)
quietly_so d program (Ok tree) w = quietly_both w (with_library _ w) _ (quietly_library _ w) (quietly_live _ (quiet_tell d _) (with_library _ w))
quietly_so d program (Err flaw) w = quietly_both w (with_library _ w) _ (quietly_library _ w) (quietly_live _ (quiet_tell d _) (with_library _ w))

pub quietly_compiled : (d : ℕ) (program : Dbref) (w : World) → Quietly w (compiled d program w)
unfolding compiled
quietly_compiled d program w = quietly_so d program (built_tree w.live.objects program) w

-- What is told of a dump.

shows_told_each : (ds : List ℕ) (text : List ℕ) (w : Live) → Shows w (told_each ds text w)
unfolding told_each
shows_told_each [] text w = quiet_order.itself w
shows_told_each (d ∷ ds) text w = quiet_order.both w (tell d text w) _ ((quiet_tell d text).law w) (shows_told_each ds text (tell d text w))

pub quiet_told_each : (ds : List ℕ) (text : List ℕ) → Quiet (told_each ds text)
quiet_told_each ds text = record { law = λ w. shows_told_each ds text w }
