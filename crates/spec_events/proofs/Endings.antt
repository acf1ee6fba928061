-- Which processes are there still, and which end: by a change those in a program that is gone, or whose source is another.
use Rattle.std.proofs.Common.{◌≡◌, ℕ, ℤ, pos, ◌+ℤ◌, suc, Bool, true, false, cond, List, [], ◌∷◌, ◌++◌, refl, sym, ◌∙◌, ap, subst, Option, Some, None, inl, inr, arith}
use Rattle.std.specs.Prelude.{◌+◌, map, find, not, slice_get}
use Rattle.std.specs.Option.{option_map, option_map_or, option_and_then}
use Rattle.std.specs.Ordering.{int_eq}
use Rattle.std.proofs.lemmas.Option.{none-some, slice_get-map}
use Rattle.muck_model.specs.declared.dbref.Dbref.{Dbref}
use Rattle.muck_model.specs.declared.dbref.Denial.{Denial}
use Rattle.spec_live.specs.declared.mark.Mark.{Mark}
use Rattle.spec_live.specs.declared.mark.Mark.TheVariants.{Lines, Gone}
use Rattle.spec_live.specs.Objects.{Entry, dbref_of, mark_in}
use Rattle.spec_live.specs.Marks.{entry_unmarked}
use Rattle.spec_live.specs.Lives.{Live}
use Rattle.spec_rights.specs.declared.act.Actor.{Actor}
use Rattle.spec_rights.specs.declared.act.Act.TheVariants.{Start}
use Rattle.spec_rights.specs.Verdict.{verdict}
use Rattle.muf_model.specs.Tree.{Definition, Tree}
use Rattle.muf_model.specs.Source.{last_word}
use Rattle.muck_library.specs.declared.flaw.Flaw.{Flaw}
use Rattle.muck_library.specs.Library.{Library, formed}
use Rattle.muck_library.specs.Programs.{built_tree}
use Rattle.std.specs.Prelude.{Result, Ok, Err}
use Rattle.muck_queue.specs.declared.process.Process.{Process}
use Rattle.muck_queue.specs.Queues.{Queue, has_pid, has_trigger, runs_in, is_tied_to, without_trigger, without_all, without_first, changed_first, process, on_process, without_process, process_added, ended_tied, ended_running, trigger_cleared}
use Rattle.muck_queue.specs.Queues as queues
use Rattle.spec_processes.proofs.Ends.{IsSame, Stays}
use Rattle.spec_commands.specs.declared.outcome.Outcome.{Outcome}
use Rattle.spec_commands.specs.declared.outcome.Outcome.TheVariants.{Done, Said, NotMine, Start as StartOutcome, Edit, Leave, Dump, Stop, Retune}
use Rattle.spec_commands.specs.declared.edit.EditStep.{EditStep}
use Rattle.spec_commands.specs.declared.edit.EditStep.TheVariants.{Stay, Compile, Left}
use Rattle.spec_commands.specs.Finding.{actor_of}
use Rattle.spec_events.specs.declared.starting.Call.{Call as Started}
use Rattle.spec_events.specs.World.{World, on_queue, with_library}
use Rattle.spec_events.specs.Following.{unbuilt, mark_followed, swept, settled}
use Rattle.spec_events.specs.Starting.{by_command, new_process, program_beginning, process_joined, word_started, form_started, built_started, program_begun, start_told, start_judged, launched}
use Rattle.spec_events.specs.declared.starting.Manner.{Manner}
use Rattle.muf_model.specs.declared.fault.MufFault.{MufFault}
use Rattle.muf_model.specs.declared.fault.MufFault.TheVariants.{ProcessLimit}
use Rattle.spec_events.specs.Lines.{compiled_so, compiled, after_edit, followed_up}
use Rattle.spec_events.specs.Endings.{Remains, ProcessesLicensed}

-- it might end only where it might in another way of going on
abbrev pub IsSteady : (Process → Type 0) → Type 0
IsSteady may = (p q : Process) → IsSame p q → may q → may p

-- Where a process was there, it is there, and might end only where it might before; or it might end.
abbrev pub Lasts : (Process → Type 0) → Option Process → Option Process → Type 0
Lasts may None q = Unit {0}
Lasts may (Some p) None = may p
Lasts may (Some p) (Some q) = may q → may p

abbrev pub Lasting : (Process → Type 0) → Queue → Queue → Type 0
Lasting may q r = (pid : ℤ) → Lasts may (process pid q) (process pid r)

lasts_same : (may : Process → Type 0) (o : Option Process) → Lasts may o o
lasts_same may None = tt
lasts_same may (Some p) = λ m. m

lasts_both : (may : Process → Type 0) (o p q : Option Process) → Lasts may o p → Lasts may p q → Lasts may o q
lasts_both may None p q g h = tt
lasts_both may (Some o) None None g h = g
lasts_both may (Some o) None (Some q) g h = λ m. g
lasts_both may (Some o) (Some p) None g h = g h
lasts_both may (Some o) (Some p) (Some q) g h = λ m. g (h m)

pub lasting_same : (may : Process → Type 0) (q : Queue) → Lasting may q q
lasting_same may q pid = lasts_same may (process pid q)

pub lasting_both : (may : Process → Type 0) (q r s : Queue) → Lasting may q r → Lasting may r s → Lasting may q s
lasting_both may q r s g h pid = lasts_both may (process pid q) (process pid r) (process pid s) (g pid) (h pid)

-- Queues.

abbrev Found : (Process → Type 0) → ℤ → List Process → List Process → Type 0
Found may at ps qs = Lasts may (find (has_pid at) ps) (find (has_pid at) qs)

-- one of the number is the same, and so are those behind it
found_kept : (may : Process → Type 0) (at : ℤ) (p : Process) (ps qs : List Process) → Found may at ps qs → Found may at (p ∷ ps) (p ∷ qs)
found_kept may at p ps qs r = either (has_pid at p)
  where
    either : (b : Bool) → Lasts may (cond b (Some p) (find (has_pid at) ps)) (cond b (Some p) (find (has_pid at) qs))
    either true = λ m. m
    either false = r

-- one is gone that might end
found_lost : (may : Process → Type 0) (at : ℤ) (p : Process) (ps qs : List Process) → may p → Found may at ps qs → Found may at (p ∷ ps) qs
found_lost may at p ps qs m r = either (has_pid at p) (find (has_pid at) qs) r
  where
    gone : (o : Option Process) → Lasts may (Some p) o
    gone None = m
    gone (Some q) = λ k. m

    either : (b : Bool) (o : Option Process) → Lasts may (find (has_pid at) ps) o → Lasts may (cond b (Some p) (find (has_pid at) ps)) o
    either true o r = gone o
    either false o r = r

-- one is another of the same number
found_moved : (may : Process → Type 0) (at : ℤ) (p q : Process) (ps qs : List Process) → q.number ≡ p.number → (may q → may p) → Found may at ps qs → Found may at (p ∷ ps) (q ∷ qs)
found_moved may at p q ps qs e m r =
    let P : ℤ → Type 0 = λ n. Lasts may (cond (has_pid at p) (Some p) (find (has_pid at) ps)) (cond (int_eq n at) (Some q) (find (has_pid at) qs)) in
    subst P (sym e) (either (has_pid at p))
  where
    either : (b : Bool) → Lasts may (cond b (Some p) (find (has_pid at) ps)) (cond b (Some q) (find (has_pid at) qs))
    either true = m
    either false = r

left_without : (may : Process → Type 0) (test : Process → Bool) → ((p : Process) → test p ≡ true → may p) → (at : ℤ) (ps : List Process) → Found may at ps (without_all test ps)
left_without may test h at [] = tt
left_without may test h at (p ∷ ps) = either (left_without may test h at ps) (test p) refl
  where
    either : Found may at ps (without_all test ps) → (b : Bool) → test p ≡ b → Found may at (p ∷ ps) (cond (not b) (p ∷ without_all test ps) (without_all test ps))
    either r true e = found_lost may at p ps (without_all test ps) (h p e) r
    either r false e = found_kept may at p ps (without_all test ps) r

-- each is changed in what may change
left_each : (may : Process → Type 0) (f : Process → Process) → ((p : Process) → ((f p).number ≡ p.number) × (may (f p) → may p)) → (at : ℤ) (ps : List Process) → Found may at ps (map f ps)
left_each may f h at [] = tt
left_each may f h at (p ∷ ps) = found_moved may at p (f p) ps (map f ps) (h p).0 (h p).1 (left_each may f h at ps)

left_more : (may : Process → Type 0) (x : Process) (at : ℤ) (ps : List Process) → Found may at ps (ps ++ x ∷ [])
left_more may x at [] = tt
left_more may x at (p ∷ ps) = found_kept may at p ps (ps ++ x ∷ []) (left_more may x at ps)

-- the first of a number
module _ (may : Process → Type 0) (pid : ℤ) where
  left_first : (ps : List Process) → ((p : Process) → find (has_pid pid) ps ≡ Some p → may p) → (at : ℤ) → Found may at ps (without_first (has_pid pid) ps)
  left_first [] = λ h at. tt
  left_first (p ∷ ps) =
      elim (has_pid pid p) as (λ b. ((q : Process) → cond b (Some p) (find (has_pid pid) ps) ≡ Some q → may q) → (at : ℤ) → Found may at (p ∷ ps) (cond b ps (p ∷ without_first (has_pid pid) ps))) [
        | true ↦ λ h at. found_lost may at p ps ps (h p refl) (lasts_same may (find (has_pid at) ps))
        | false ↦ λ h at. found_kept may at p ps (without_first (has_pid pid) ps) (left_first ps h at)
      ]

  changed_at : (f : Process → Process) → ((p : Process) → (f p).number ≡ p.number) → (ps : List Process) → ((p : Process) → find (has_pid pid) ps ≡ Some p → may (f p) → may p) → (at : ℤ) →
      Found may at ps (changed_first (has_pid pid) f ps)
  changed_at f same [] = λ h at. tt
  changed_at f same (p ∷ ps) =
      elim (has_pid pid p) as (λ b. ((q : Process) → cond b (Some p) (find (has_pid pid) ps) ≡ Some q → may (f q) → may q) → (at : ℤ) → Found may at (p ∷ ps) (cond b (f p ∷ ps) (p ∷ changed_first (has_pid pid) f ps))) [
        | true ↦ λ h at. found_moved may at p (f p) ps ps (same p) (h p refl) (lasts_same may (find (has_pid at) ps))
        | false ↦ λ h at. found_kept may at p ps (changed_first (has_pid pid) f ps) (changed_at f same ps h at)
      ]

  -- the process of this number is gone, which might end
  pub lasting_without : (q : Queue) → ((p : Process) → process pid q ≡ Some p → may p) → Lasting may q (without_process pid q)
  unfolding without_process
  lasting_without q h at = left_first q.processes h at

  -- it is changed, and keeps its number
  pub lasting_changed : (f : Process → Process) (q : Queue) → ((p : Process) → (f p).number ≡ p.number) → ((p : Process) → process pid q ≡ Some p → may (f p) → may p) → Lasting may q (on_process pid f q)
  unfolding on_process
  lasting_changed f q same h at = changed_at f same q.processes h at

-- of the processes that are there or may end
lasts_stays : (may Ends : Process → Type 0) → IsSteady may → ((p : Process) → Ends p → may p) → (o r : Option Process) → Stays Ends o r → Lasts may o r
lasts_stays may Ends steady h None None s = tt
lasts_stays may Ends steady h None (Some r) s = tt
lasts_stays may Ends steady h (Some p) None s = h p s
lasts_stays may Ends steady h (Some p) (Some r) (inl e) = steady p r e
lasts_stays may Ends steady h (Some p) (Some r) (inr m) = λ k. h p m

pub lasting_stays : (may Ends : Process → Type 0) → IsSteady may → ((p : Process) → Ends p → may p) → (q r : Queue) → ((pid : ℤ) → Stays Ends (process pid q) (process pid r)) → Lasting may q r
lasting_stays may Ends steady h q r s pid = lasts_stays may Ends steady h (process pid q) (process pid r) (s pid)

found_number : (pid : ℤ) (ps : List Process) (p : Process) → find (has_pid pid) ps ≡ Some p → has_pid pid p ≡ true
found_number pid [] p = λ e. absurd (none-some p e)
found_number pid (q ∷ ps) p =
    (elim (has_pid pid q) as (λ b. has_pid pid q ≡ b → cond b (Some q) (find (has_pid pid) ps) ≡ Some p → has_pid pid p ≡ true) [
      | true ↦ λ r e. let one : q ≡ p = cc in ap (has_pid pid) (sym one) ∙ r
      | false ↦ λ r e. found_number pid ps p e
    ]) refl

-- the process of a number has that number
pub process_number : (pid : ℤ) (q : Queue) (p : Process) → process pid q ≡ Some p → has_pid pid p ≡ true
process_number pid q p e = found_number pid q.processes p e

pub lasting_added : (may : Process → Type 0) (x : Process) (q : Queue) → Lasting may q (process_added x q)
unfolding process_added
lasting_added may x q pid = left_more may (queues.process_numbered _ x) pid q.processes

cleared : (may : Process → Type 0) → IsSteady may → (d : Dbref) (p : Process) (b : Bool) → ((cond b (without_trigger p) p).number ≡ p.number) × (may (cond b (without_trigger p) p) → may p)
cleared may steady d p true = (refl, steady p (without_trigger p) (record { number = refl; program = refl; player = refl; running = refl }))
cleared may steady d p false = (refl, λ m. m)

lasting_cleared : (may : Process → Type 0) → IsSteady may → (d : Dbref) (q : Queue) → Lasting may q (trigger_cleared d q)
unfolding trigger_cleared
lasting_cleared may steady d q pid = left_each may (λ p. cond (has_trigger d p) (without_trigger p) p) (λ p. cleared may steady d p (has_trigger d p)) pid q.processes

-- What follows from a change of objects.

lasting_unbuilt : (may : Process → Type 0) (d : Dbref) (w : World) → ((p : Process) → runs_in d p ≡ true → may p) → Lasting may w.queue (unbuilt d w).queue
unfolding ended_running
lasting_unbuilt may d w h pid = left_without may (runs_in d) h pid w.queue.processes

lasting_followed : (may : Process → Type 0) → IsSteady may → (m : Mark) (d : Dbref) (w : World) → ((p : Process) → runs_in d p ≡ true → may p) → Lasting may w.queue (mark_followed m d w).queue
lasting_followed may steady Lines d w h = lasting_unbuilt may d w h
lasting_followed may steady Gone d w h = lasting_both may w.queue (unbuilt d w).queue (trigger_cleared d (unbuilt d w).queue) (lasting_unbuilt may d w h) (lasting_cleared may steady d (unbuilt d w).queue)

lasting_marked : (may : Process → Type 0) → IsSteady may → (o : Option Mark) (d : Dbref) (w : World) → ((m : Mark) → o ≡ Some m → (p : Process) → runs_in d p ≡ true → may p) →
    Lasting may w.queue (option_map_or (λ m. mark_followed m d w) o w).queue
lasting_marked may steady None d w h = lasting_same may w.queue
lasting_marked may steady (Some m) d w h = lasting_followed may steady m d w (h m refl)

-- what a mark at a number lets end
abbrev Told : (Process → Type 0) → ℕ → List Entry → Type 0
Told may n es = (k : ℕ) (m : Mark) → mark_in es k ≡ Some m → (p : Process) → runs_in (dbref_of (n + k)) p ≡ true → may p

told_first : (may : Process → Type 0) (e : Entry) (es : List Entry) (n : ℕ) → Told may n (e ∷ es) → (m : Mark) → e.mark ≡ Some m → (p : Process) → runs_in (dbref_of n) p ≡ true → may p
unfolding mark_in
told_first may e es n h m f p r = h 0 m f p (ap (λ i. runs_in (dbref_of i) p) (past n) ∙ r)
  where
    past : (n : ℕ) → n + 0 ≡ n
    past n = omega arith

told_rest : (may : Process → Type 0) (e : Entry) (es : List Entry) (n : ℕ) → Told may n (e ∷ es) → Told may (suc n) es
unfolding mark_in
told_rest may e es n h k m f p r = h (suc k) m f p (ap (λ i. runs_in (dbref_of i) p) (past n k) ∙ r)
  where
    past : (n k : ℕ) → n + suc k ≡ suc n + k
    past n k = omega arith

lasting_swept : (may : Process → Type 0) → IsSteady may → (n : ℕ) (es : List Entry) (w : World) → Told may n es → Lasting may w.queue (swept n es w).queue
unfolding swept
lasting_swept may steady n [] w h = lasting_same may w.queue
lasting_swept may steady n (e ∷ es) w h =
    let u : World = option_map_or (λ m. mark_followed m (dbref_of n) w) e.mark w in
    lasting_both may w.queue u.queue (swept (suc n) es u).queue (lasting_marked may steady e.mark (dbref_of n) w (told_first may e es n h)) (lasting_swept may steady (suc n) es u (told_rest may e es n h))

-- the same from the first number on
abbrev pub Tells : (Process → Type 0) → List Entry → Type 0
Tells may es = (k : ℕ) (m : Mark) → mark_in es k ≡ Some m → (p : Process) → runs_in (dbref_of k) p ≡ true → may p

pub lasting_settled : (may : Process → Type 0) → IsSteady may → (w : World) → Tells may w.live.objects → Lasting may w.queue (settled w).queue
unfolding settled
lasting_settled may steady w h = lasting_swept may steady 0 w.live.objects w (λ k m e p r. h k m e p (ap (λ i. runs_in (dbref_of i) p) (first k) ∙ r))
  where
    first : (k : ℕ) → k ≡ 0 + k
    first k = omega arith

-- nothing is to be told any more
abbrev pub IsTold : Live → Type 0
IsTold w = (n : ℕ) → mark_in w.objects n ≡ None

pub told_settled : (w : World) → IsTold (settled w).live
unfolding settled mark_in
told_settled w n = ap (λ o. option_and_then (λ (e : Entry). e.mark) o) (slice_get-map entry_unmarked (swept 0 w.live.objects w).live.objects n) ∙ at (slice_get (swept 0 w.live.objects w).live.objects n)
  where
    at : (o : Option Entry) → option_and_then (λ (e : Entry). e.mark) (option_map entry_unmarked o) ≡ None
    at None = refl
    at (Some e) = refl

-- Starting and compiling end nothing.

abbrev pub BegunLasting : (Process → Type 0) → World → World × Result ℤ MufFault → Type 0
BegunLasting may w r = Lasting may w.queue r.0.queue

pub lasting_joined : (may : Process → Type 0) (p : Process) (w : World) → BegunLasting may w (process_joined p w)
lasting_joined may p w = at (queues.is_queue_full p.player w.live.board.tune w.queue)
  where
    at : (b : Bool) → BegunLasting may w (cond b (w, Err ProcessLimit) (on_queue (process_added p) w, Ok (w.queue.last +ℤ pos 1)))
    at true = lasting_same may w.queue
    at false = lasting_added may p w.queue

lasting_word : (may : Process → Type 0) (m : Manner) (c : Started) (tree : Tree) (word : Option Definition) (w : World) → BegunLasting may w (word_started m c tree word w)
lasting_word may m c tree None w = lasting_same may w.queue
lasting_word may m c tree (Some word) w = lasting_joined may (new_process m c (program_beginning c tree word w)) w

lasting_form : (may : Process → Type 0) (m : Manner) (c : Started) (form : Option Tree) (w : World) → BegunLasting may w (form_started m c form w)
lasting_form may m c None w = lasting_same may w.queue
lasting_form may m c (Some tree) w = lasting_word may m c tree (last_word tree.words) w

lasting_built : (may : Process → Type 0) (m : Manner) (c : Started) (made : Option Tree × Library) (w : World) → BegunLasting may w (built_started m c made w)
lasting_built may m c (form, library) w = lasting_form may m c form (with_library library w)

pub lasting_begun : (may : Process → Type 0) (m : Manner) (c : Started) (w : World) → BegunLasting may w (program_begun m c w)
unfolding program_begun
lasting_begun may m c w = lasting_built may m c (formed w.live.objects c.program w.library) w

lasting_told : (may : Process → Type 0) (d : ℕ) (w : World) (r : World × Result ℤ MufFault) → BegunLasting may w r → Lasting may w.queue (start_told d r).queue
lasting_told may d w (v, Ok pid) h = h
lasting_told may d w (v, Err fault) h = h

lasting_judged : (may : Process → Type 0) (d : ℕ) (c : Started) (o : Option Denial) (w : World) → Lasting may w.queue (start_judged d c o w).queue
lasting_judged may d c (Some denial) w = lasting_same may w.queue
lasting_judged may d c None w = lasting_told may d w _ (lasting_begun may (by_command d c.program w) c w)

lasting_launched : (may : Process → Type 0) (d : ℕ) (a : Actor) (c : Started) (w : World) → Lasting may w.queue (launched d a c w).queue
unfolding launched
lasting_launched may d a c w = lasting_judged may d c (verdict w.live.objects a (Start c.program)) w

lasting_so : (may : Process → Type 0) (d : ℕ) (program : Dbref) (r : Result Tree Flaw) (w : World) → Lasting may w.queue (compiled_so d program r w).queue
lasting_so may d program (Ok tree) w = lasting_same may w.queue
lasting_so may d program (Err flaw) w = lasting_same may w.queue

pub lasting_after : (may : Process → Type 0) (d : ℕ) (program : Dbref) (step : EditStep) (w : World) → Lasting may w.queue (after_edit d program step w).queue
unfolding compiled
lasting_after may d program Compile w = lasting_so may d program (built_tree w.live.objects program) w
lasting_after may d program Stay w = lasting_same may w.queue
lasting_after may d program Left w = lasting_same may w.queue

pub lasting_up : (may : Process → Type 0) (d : ℕ) (player : Dbref) (outcome : Outcome) (w : World) → Lasting may w.queue (followed_up d player outcome w).queue
lasting_up may d player (StartOutcome program trigger command arg) w =
    lasting_launched may d (actor_of w.live.objects player) (record { player = player; program = program; trigger = trigger; command = command; argument = arg }) w
lasting_up may d player Leave w = lasting_same may w.queue
lasting_up may d player (Edit program) w = lasting_same may w.queue
lasting_up may d player Done w = lasting_same may w.queue
lasting_up may d player (Said pose text) w = lasting_same may w.queue
lasting_up may d player NotMine w = lasting_same may w.queue
lasting_up may d player Dump w = lasting_same may w.queue
lasting_up may d player Stop w = lasting_same may w.queue
lasting_up may d player (Retune tune) w = lasting_same may w.queue

-- What remains.

remains : (may Ends : Process → Type 0) → ((p : Process) → may p → Ends p) → (o q : Option Process) → Lasts may o q → Remains Ends o q
remains may Ends h None None g = tt
remains may Ends h None (Some q) g = tt
remains may Ends h (Some p) None g = h p g
remains may Ends h (Some p) (Some q) g = tt

pub processes_remain : (may Ends : Process → Type 0) (w v : World) → ((p : Process) → may p → Ends p) → Lasting may w.queue v.queue → ProcessesLicensed Ends w v
processes_remain may Ends w v h g pid = remains may Ends h (process pid w.queue) (process pid v.queue) (g pid)

-- those that are tied to a connection may end with it
pub tied_remain : (d : ℕ) (q : Queue) → Lasting (λ p. is_tied_to d p ≡ true) q (ended_tied d q)
unfolding ended_tied
tied_remain d q pid = left_without (λ p. is_tied_to d p ≡ true) (is_tied_to d) (λ p t. t) pid q.processes
