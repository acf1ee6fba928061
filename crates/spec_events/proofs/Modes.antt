-- What becomes of the mode and the section of a process in changes of a queue, and of a world.
use Rattle.std.proofs.Common.{◌≡◌, ℕ, ℤ, pos, ◌+ℤ◌, ◌≤ℤ◌, suc, Bool, true, false, not, cond, List, [], ◌∷◌, ◌++◌, map, refl, sym, ◌∙◌, ap, subst, arith, Option, Some, None, Result}
use Rattle.std.specs.Prelude.{find}
use Rattle.std.specs.List.{filter}
use Rattle.std.specs.Option.{option_map, option_map_or}
use Rattle.std.specs.Ordering.{int_eq}
use Rattle.std.proofs.lemmas.Bool.{cond_both}
use Rattle.std.proofs.lemmas.Int.{ints}
use Rattle.muck_laws.proofs.Numbers.{above_not, int_at_most, same_pid}
use Rattle.muck_model.specs.declared.dbref.Dbref.{Dbref}
use Rattle.spec_live.specs.declared.mark.Mark.{Mark}
use Rattle.spec_live.specs.declared.mark.Mark.TheVariants.{Lines, Gone}
use Rattle.spec_live.specs.Objects.{Entry, dbref_of}
use Rattle.muf_model.specs.declared.fault.MufFault.{MufFault}
use Rattle.muf_model.specs.Source.{last_word}
use Rattle.muf_model.specs.Tree.{Definition, Tree}
use Rattle.muck_library.specs.Library.{formed}
use Rattle.muck_queue.specs.declared.mode.Mode.{Mode}
use Rattle.muck_queue.specs.declared.process.Process.{Process}
use Rattle.muck_queue.specs.Queues.{Queue, has_pid, runs_in, has_trigger, without_trigger, without_first, process, on_process, without_process, process_added, ended_running, trigger_cleared, is_queue_full}
use Rattle.muck_queue.specs.Queues as queues
use Rattle.muck_queue.specs.inner.Numbered.{Rises, IsNumbered}
use Rattle.muck_queue.proofs.Numbered.{rises_added, rises_kept, rises_without, rises_changed, rises_cleared}
use Rattle.muck_queue.proofs.Changed.{KeepsNumber, process_changed, process_unchanged}
use Rattle.spec_events.specs.declared.starting.Call.{Call}
use Rattle.spec_events.specs.declared.starting.Manner.{Manner}
use Rattle.spec_events.specs.World.{World, with_library}
use Rattle.spec_events.specs.Following.{mark_followed, swept, settled}
use Rattle.spec_events.specs.Starting.{program_beginning, new_process, process_joined, word_started, form_started, program_begun}

-- how a process is, where it is there
abbrev pub Holds : (Mode → ℕ → Type 0) → Option Process → Type 0
Holds K None = Unit {0}
Holds K (Some p) = K p.mode p.section

-- the process of this number is so, in a queue of which the numbers rise
pub record Fits (K : Mode → ℕ → Type 0) (pid : ℤ) (q : Queue) : Type 0 where
  pub numbered : IsNumbered q
  pub holds : Holds K (process pid q)

-- and it is there
pub record Seated (K : Mode → ℕ → Type 0) (pid : ℤ) (q : Queue) : Type 0 where
  pub numbered : IsNumbered q
  pub it : Process
  pub found : process pid q ≡ Some it
  pub holds : K it.mode it.section

pub fits_seated : (K : Mode → ℕ → Type 0) (pid : ℤ) (q : Queue) → Seated K pid q → Fits K pid q
fits_seated K pid q h = record { numbered = h.numbered; holds = subst (Holds K) (sym h.found) h.holds }

holds_less : (K L : Mode → ℕ → Type 0) (o : Option Process) → ((m : Mode) (n : ℕ) → K m n → L m n) → Holds K o → Holds L o
holds_less K L None f h = tt
holds_less K L (Some p) f h = f p.mode p.section h

pub fits_less : (K L : Mode → ℕ → Type 0) (pid : ℤ) (q : Queue) → ((m : Mode) (n : ℕ) → K m n → L m n) → Fits K pid q → Fits L pid q
fits_less K L pid q f h = record { numbered = h.numbered; holds = holds_less K L (process pid q) f h.holds }

-- Numbers.

pub numbered_changed : (pid : ℤ) (f : Process → Process) → KeepsNumber f → (q : Queue) → IsNumbered q → IsNumbered (on_process pid f q)
unfolding IsNumbered on_process
numbered_changed pid f k q h = rises_changed (has_pid pid) f k (pos 0) q.last q.processes h

pub numbered_without : (pid : ℤ) (q : Queue) → IsNumbered q → IsNumbered (without_process pid q)
unfolding IsNumbered without_process
numbered_without pid q h = rises_without (has_pid pid) (pos 0) q.last q.processes h

pub numbered_ended : (d : Dbref) (q : Queue) → IsNumbered q → IsNumbered (ended_running d q)
unfolding IsNumbered ended_running
numbered_ended d q h = rises_kept (λ p. not (runs_in d p)) (pos 0) q.last q.processes h

pub numbered_cleared : (d : Dbref) (q : Queue) → IsNumbered q → IsNumbered (trigger_cleared d q)
unfolding IsNumbered trigger_cleared
numbered_cleared d q h = rises_cleared d (pos 0) q.last q.processes h

pub numbered_added : (p : Process) (q : Queue) → IsNumbered q → IsNumbered (process_added p q)
unfolding IsNumbered process_added
numbered_added p q h = rises_added (pos 0) q.last q.processes p h

-- Queues.

none_above : (pid low last : ℤ) (ps : List Process) → pid ≤ℤ low → Rises low last ps → find (has_pid pid) ps ≡ None
none_above pid low last [] h r = refl
none_above pid low last (p ∷ ps) h r =
    ap (λ b. cond b (Some p) (find (has_pid pid) ps)) (above_not pid low p.number h r.0) ∙ none_above pid p.number last ps (omega (arith, ints, h, r.0)) r.1

module _ (K : Mode → ℕ → Type 0) (pid : ℤ) where
  -- one that isn't looked for stands before the others
  behind_one : (p : Process) (b : Bool) (o r : Option Process) → (Holds K o → Holds K r) → Holds K (cond b (Some p) o) → Holds K (cond b (Some p) r)
  behind_one p true o r f h = h
  behind_one p false o r f h = f h

  -- one that is gone is none of the others
  gone_one : (p : Process) (last : ℤ) (ps rs : List Process) (b : Bool) → has_pid pid p ≡ b → Rises p.number last rs → (Holds K (find (has_pid pid) ps) → Holds K (find (has_pid pid) rs)) →
      Holds K (cond b (Some p) (find (has_pid pid) ps)) → Holds K (find (has_pid pid) rs)
  gone_one p last ps rs true e r f h = subst (Holds K) (sym (none_above pid p.number last rs (int_at_most p.number pid (same_pid p.number pid e)) r)) tt
  gone_one p last ps rs false e r f h = f h

  kept_holds : (test : Process → Bool) (low last : ℤ) (ps : List Process) → Rises low last ps → Holds K (find (has_pid pid) ps) → Holds K (find (has_pid pid) (filter test ps))
  kept_holds test low last [] r h = h
  kept_holds test low last (p ∷ ps) r h =
      cond_both (test p) (p ∷ filter test ps) (filter test ps) (λ ps. Holds K (find (has_pid pid) ps))
      (λ e. behind_one p (has_pid pid p) _ _ (kept_holds test p.number last ps r.1) h)
      (λ e. gone_one p last ps (filter test ps) (has_pid pid p) refl (rises_kept test p.number last ps r.1) (kept_holds test p.number last ps r.1) h)

  without_holds : (test : Process → Bool) (low last : ℤ) (ps : List Process) → Rises low last ps → Holds K (find (has_pid pid) ps) → Holds K (find (has_pid pid) (without_first test ps))
  without_holds test low last [] r h = h
  without_holds test low last (p ∷ ps) r h =
      cond_both (test p) ps (p ∷ without_first test ps) (λ ps. Holds K (find (has_pid pid) ps))
      (λ e. gone_one p last ps ps (has_pid pid p) refl r.1 (λ k. k) h)
      (λ e. behind_one p (has_pid pid p) _ _ (without_holds test p.number last ps r.1) h)

  clear_one : (p : Process) (c b : Bool) (o r : Option Process) → (Holds K o → Holds K r) → Holds K (cond b (Some p) o) → Holds K (cond b (Some (cond c (without_trigger p) p)) r)
  clear_one p true true o r f h = h
  clear_one p false true o r f h = h
  clear_one p c false o r f h = f h

  cleared_number : (c : Bool) (p : Process) → (cond c (without_trigger p) p).number ≡ p.number
  cleared_number true p = refl
  cleared_number false p = refl

  cleared_holds : (d : Dbref) (ps : List Process) → Holds K (find (has_pid pid) ps) → Holds K (find (has_pid pid) (map (λ p. cond (has_trigger d p) (without_trigger p) p) ps))
  cleared_holds d [] h = h
  cleared_holds d (p ∷ ps) h =
      subst (λ n. Holds K (cond (int_eq n pid) (Some (cond (has_trigger d p) (without_trigger p) p)) (find (has_pid pid) (map (λ p. cond (has_trigger d p) (without_trigger p) p) ps)))) (sym (cleared_number (has_trigger d p) p))
      (clear_one p (has_trigger d p) (has_pid pid p) _ _ (cleared_holds d ps) h)

  added_holds : (new : Process) (ps : List Process) (p : Process) → find (has_pid pid) ps ≡ Some p → find (has_pid pid) (ps ++ new ∷ []) ≡ Some p
  added_holds new [] p e = absurd cc
  added_holds new (x ∷ ps) p e =
      (elim (has_pid pid x) as (λ b. cond b (Some x) (find (has_pid pid) ps) ≡ Some p → cond b (Some x) (find (has_pid pid) (ps ++ new ∷ [])) ≡ Some p) [
        | true ↦ λ e. e
        | false ↦ λ e. added_holds new ps p e
      ]) e

  pub fits_without : (other : ℤ) (q : Queue) → Fits K pid q → Fits K pid (without_process other q)
  unfolding IsNumbered without_process
  fits_without other q h = record { numbered = numbered_without other q h.numbered; holds = without_holds (has_pid other) (pos 0) q.last q.processes h.numbered h.holds }

  fits_ended : (d : Dbref) (q : Queue) → Fits K pid q → Fits K pid (ended_running d q)
  unfolding IsNumbered ended_running
  fits_ended d q h = record { numbered = numbered_ended d q h.numbered; holds = kept_holds (λ p. not (runs_in d p)) (pos 0) q.last q.processes h.numbered h.holds }

  fits_cleared : (d : Dbref) (q : Queue) → Fits K pid q → Fits K pid (trigger_cleared d q)
  unfolding trigger_cleared
  fits_cleared d q h = record { numbered = numbered_cleared d q h.numbered; holds = cleared_holds d q.processes h.holds }

  seated_added : (new : Process) (q : Queue) → Seated K pid q → Seated K pid (process_added new q)
  unfolding process_added
  seated_added new q h =
      record { numbered = numbered_added new q h.numbered; it = h.it; found = added_holds (queues.process_numbered (q.last +ℤ pos 1) new) q.processes h.it h.found; holds = h.holds }

  -- a process is changed that may stay so
  holds_map : (f : Process → Process) (o : Option Process) → ((p : Process) → K p.mode p.section → K (f p).mode (f p).section) → Holds K o → Holds K (option_map f o)
  holds_map f None keeps h = tt
  holds_map f (Some p) keeps h = keeps p h

  holds_changed : (other : ℤ) (f : Process → Process) (q : Queue) → KeepsNumber f → ((p : Process) → K p.mode p.section → K (f p).mode (f p).section) → (b : Bool) → int_eq pid other ≡ b →
      Holds K (process pid q) → Holds K (process pid (on_process other f q))
  holds_changed other f q k keeps true e h =
      let same : pid ≡ other = same_pid pid other e in
      subst (λ n. Holds K (process pid (on_process n f q))) same (subst (Holds K) (sym (process_changed pid f k q)) (holds_map f (process pid q) keeps h))
  holds_changed other f q k keeps false e h = subst (Holds K) (sym (process_unchanged pid other f k e q)) h

  pub fits_changed : (other : ℤ) (f : Process → Process) (q : Queue) → KeepsNumber f → ((p : Process) → K p.mode p.section → K (f p).mode (f p).section) → Fits K pid q → Fits K pid (on_process other f q)
  fits_changed other f q k keeps h =
      record { numbered = numbered_changed other f k q h.numbered; holds = holds_changed other f q k keeps (int_eq pid other) refl h.holds }

  -- What follows from a change of objects.

  followed_fits : (m : Mark) (d : Dbref) (w : World) → Fits K pid w.queue → Fits K pid (mark_followed m d w).queue
  followed_fits Lines d w h = fits_ended d w.queue h
  followed_fits Gone d w h = fits_cleared d _ (fits_ended d w.queue h)

  marked_fits : (o : Option Mark) (d : Dbref) (w : World) → Fits K pid w.queue → Fits K pid (option_map_or (λ m. mark_followed m d w) o w).queue
  marked_fits None d w h = h
  marked_fits (Some m) d w h = followed_fits m d w h

  swept_fits : (n : ℕ) (es : List Entry) (w : World) → Fits K pid w.queue → Fits K pid (swept n es w).queue
  unfolding swept
  swept_fits n [] w h = h
  swept_fits n (e ∷ es) w h = swept_fits (suc n) es _ (marked_fits e.mark (dbref_of n) w h)

  pub settled_fits : (w : World) → Fits K pid w.queue → Fits K pid (settled w).queue
  unfolding settled
  settled_fits w h = swept_fits 0 w.live.objects w h

  -- A process more.

  pub joined_fits : (new : Process) (w : World) → Seated K pid w.queue → Fits K pid (process_joined new w).0.queue
  joined_fits new w h =
      cond_both (is_queue_full new.player w.live.board.tune w.queue) _ _ (λ (r : World × Result ℤ MufFault). Fits K pid r.0.queue) (λ e. fits_seated K pid w.queue h) (λ e. fits_seated K pid (process_added new w.queue) (seated_added new w.queue h))

  word_fits : (m : Manner) (c : Call) (tree : Tree) (o : Option Definition) (w : World) → Seated K pid w.queue → Fits K pid (word_started m c tree o w).0.queue
  word_fits m c tree None w h = fits_seated K pid w.queue h
  word_fits m c tree (Some word) w h = joined_fits (new_process m c (program_beginning c tree word w)) w h

  form_fits : (m : Manner) (c : Call) (o : Option Tree) (w : World) → Seated K pid w.queue → Fits K pid (form_started m c o w).0.queue
  form_fits m c None w h = fits_seated K pid w.queue h
  form_fits m c (Some tree) w h = word_fits m c tree (last_word tree.words) w h

  pub begun_fits : (m : Manner) (c : Call) (w : World) → Seated K pid w.queue → Fits K pid (program_begun m c w).0.queue
  unfolding program_begun
  begun_fits m c w h =
      let r = formed w.live.objects c.program w.library in form_fits m c r.0 (with_library r.1 w) h

-- Numbers rise, however the processes are.

abbrev Any : Mode → ℕ → Type 0
Any mode section = Unit {0}

any_holds : (o : Option Process) → Holds Any o
any_holds None = tt
any_holds (Some p) = tt

any_fits : (pid : ℤ) (q : Queue) → IsNumbered q → Fits Any pid q
any_fits pid q h = record { numbered = h; holds = any_holds (process pid q) }

pub settled_numbered : (w : World) → IsNumbered w.queue → IsNumbered (settled w).queue
settled_numbered w h = (settled_fits Any (pos 0) w (any_fits (pos 0) w.queue h)).numbered
