-- Sections stay whole.
use Rattle.std.proofs.Common.{◌≡◌, ◌⊎◌, inl, inr, ℕ, zero, suc, ◌+◌, ◌<◌, ◌≤◌, ℤ, Bool, true, false, not, ◌&&◌, cond, nat_le, nat_lt, List, [], ◌∷◌, length, refl, sym, ◌∙◌, ap, subst, arith, Option, Some, None, Result, Ok, Err}
use Rattle.std.specs.Option.{option_map, option_map_or, option_and_then}
use Rattle.std.proofs.lemmas.Bool.{cond_both, cond-true, leb-false, le-leb}
use Rattle.muck_laws.proofs.Truths.{not_through}
use Rattle.muck_model.specs.declared.dbref.Dbref.{Dbref}
use Rattle.muck_model.specs.declared.tune.Tune.{Tune}
use Rattle.spec_rights.specs.declared.act.Actor.{Actor}
use Rattle.muf_model.specs.declared.fault.MufFault.{MufFault}
use Rattle.muf_model.specs.declared.fault.MufFault.TheVariants.{CallsFull, PreemptTooLong, TooManyUnits}
use Rattle.muf_model.specs.declared.prims.Primitive.{Primitive as Name}
use Rattle.std.specs.Prelude.{pos}
use Rattle.muf_model.specs.Datum.{Datum, int}
use Rattle.muf_model.specs.Tree.{Definition, Tree}
use Rattle.muf_model.specs.Source.{Program, Source, locked_of, calls_running, handed, program_entered}
use Rattle.muf_model.specs.Unit.{calls_most, Outcome, goes, ended, faulted, asks, stuck, unit, fault_met}
use Rattle.muck_library.specs.Library.{formed}
use Rattle.spec_prims.specs.Asking.{object_numbered}
use Rattle.spec_prims.specs.Row.{WorldAnswer, gives, refuses, breaks}
use Rattle.spec_prims.specs.Shared.{shared}
use Rattle.muck_queue.specs.declared.mode.Mode.{Mode}
use Rattle.muck_queue.specs.declared.mode.Mode.TheVariants.{Background}
use Rattle.spec_live.specs.Objects.{nothing}
use Rattle.muck_queue.specs.declared.process.Process.{Process}
use Rattle.muck_queue.specs.Queues.{process, at_state, units_counted, more, woken, is_preempt}
use Rattle.muck_queue.specs.inner.Numbered.{IsNumbered}
use Rattle.muck_queue.proofs.Changed.{process_changed}
use Rattle.muck_queue.proofs.Woken.{woken_number}
use Rattle.spec_processes.specs.ProcessRows.{Effect, gives as effect_gives, waits, forks, enters, starts, refuses as effect_refuses, is_process, seconds_later}
use Rattle.spec_events.specs.declared.starting.Agent.{Agent}
use Rattle.spec_events.specs.World.{World, with_library}
use Rattle.spec_events.specs.Starting.{process_joined, program_begun}
use Rattle.spec_events.specs.Slices.{acting, SharedEffect, does, rests, fails, lifted, row_done, state_behind, called_word, word_entered, form_entered, program_called, child_of, with_number, child_joined, forked, with_process, queued_command, queued, place_of_use, effected, process_done, deed, process_stands_at, out, one_counted, Went, on, rest, over, unit_went, after_deed, unit_done, section_most, limit_fault, unit_taken, Taken, unit_of, agent_of, seat_of, seat, then_more, is_through, next_unit, slice_most, units_run, last_world, world_of, process_awake, units_of}
use Rattle.spec_events.specs.Sections.{IsInterruptible, Stops, LastStops, IsOverlong, LastTooLong, IsWhole}
use Rattle.spec_events.proofs.Modes.{Holds, Fits, Seated, fits_seated, fits_less, numbered_changed, numbered_without, fits_changed, settled_fits, settled_numbered, joined_fits, begun_fits}
use Rattle.spec_events.proofs.Effects.{GoesOn, MayChange, goes_on, Leaves, processed_leaves}
use Rattle.spec_events.proofs.Slicing.{run_holds}
use Rattle.spec_events.proofs.Units.{sits, turn_limit, turn_within}

-- Units.

module _ (most left : ℕ) (pid : ℤ) where
  abbrev May : World → Type 0
  May w = Fits (GoesOn most left) pid w.queue

  abbrev Can : World → Type 0
  Can w = Seated (MayChange most left) pid w.queue

  can_may : (w : World) → Can w → May w
  can_may w h = fits_less (MayChange most left) (GoesOn most left) pid w.queue (goes_on most left) (fits_seated (MayChange most left) pid w.queue h)

  -- what a shared primitive leaves
  abbrev DeedLeaves : SharedEffect World → Type 0
  DeedLeaves (does t w) = May w
  DeedLeaves (rests t w) = IsNumbered w.queue
  DeedLeaves (fails f w) = May w

  -- and a unit
  abbrev TurnLeaves : Went → Type 0
  TurnLeaves (on w) = May w
  TurnLeaves (rest w) = IsNumbered w.queue
  TurnLeaves (over w) = IsNumbered w.queue

  lifted_leaves : (s : Source) (w : World) (r : WorldAnswer) → May w → DeedLeaves (lifted s w r)
  lifted_leaves s w (gives stack live) h = h
  lifted_leaves s w (refuses f) h = h
  lifted_leaves s w (breaks f live) h = h

  word_leaves : (s : Source) (p : Program) (o : Option Definition) (w : World) → May w → DeedLeaves (word_entered s p o w)
  word_leaves s p None w h = h
  word_leaves s p (Some d) w h = cond_both (nat_lt (calls_running s.marks) calls_most) (does (program_entered p d s) w) (fails CallsFull w) DeedLeaves (λ e. h) (λ e. h)

  form_leaves : (a : Actor) (s : Source) (d : ℤ) (name : Option (List ℕ)) (o : Option Tree) (w : World) → May w → DeedLeaves (form_entered a s d name o w)
  form_leaves a s d name None w h = h
  form_leaves a s d name (Some tree) w h = word_leaves s (record { number = d; tree = tree }) (called_word a name tree) w h

  program_leaves : (a : Actor) (s : Source) (d : ℤ) (name : Option (List ℕ)) (w : World) → May w → DeedLeaves (program_called a s d name w)
  unfolding program_called
  program_leaves a s d name w h = let r = formed w.live.objects (object_numbered d) w.library in form_leaves a s d name r.0 (with_library r.1 w) h

  number_leaves : (stack : List Datum) (s : Source) (w : World) (r : Result ℤ MufFault) → May w → DeedLeaves (with_number stack s (w, r))
  number_leaves stack s w (Ok n) h = h
  number_leaves stack s w (Err f) h = h

  process_leaves : (stack : List Datum) (s : Source) (w : World) (r : Result ℤ MufFault) → May w → DeedLeaves (with_process stack s (w, r))
  process_leaves stack s w (Ok n) h = h
  process_leaves stack s w (Err f) h = h

  child_leaves : (o : Option Process) (stack : List Datum) (s : Source) (w : World) → Can w → DeedLeaves (child_joined o stack s w)
  child_leaves None stack s w h = can_may w h
  child_leaves (Some p) stack s w h =
      let r = process_joined (child_of w.moment (handed (int (pos 0)) (state_behind stack s)) p) w in
      number_leaves stack s r.0 r.1
      (fits_less (MayChange most left) (GoesOn most left) pid r.0.queue (goes_on most left) (joined_fits (MayChange most left) pid _ w h))

  fork_leaves : (stack : List Datum) (s : Source) (w : World) → Can w → DeedLeaves (forked pid stack s w)
  unfolding forked
  fork_leaves stack s w h = child_leaves (process pid w.queue) stack s w h

  queued_leaves : (x : Agent) (stack : List Datum) (d : ℤ) (seconds : ℕ) (argument : List ℕ) (s : Source) (w : World) → Can w → DeedLeaves (queued x stack d seconds argument s w)
  unfolding queued
  queued_leaves x stack d seconds argument s w h =
      let r = program_begun (record { descr = None; mode = Background; due = seconds_later w.moment seconds }) (record { player = x.player; program = object_numbered d; trigger = nothing; command = queued_command; argument = argument }) w in
      process_leaves stack s r.0 r.1 (fits_less (MayChange most left) (GoesOn most left) pid r.0.queue (goes_on most left) (begun_fits (MayChange most left) pid _ _ w h))

  effect_leaves : (x : Agent) (s : Source) (w : World) (e : Effect) → Can w → Leaves most left pid e → DeedLeaves (effected pid x s w e)
  effect_leaves x s w (effect_gives stack live queue) h k = k
  effect_leaves x s w (waits n stack queue) h k = k
  effect_leaves x s w (forks stack) h k = fork_leaves stack s w h
  effect_leaves x s w (enters stack d name) h k = program_leaves (acting x s w.live.objects) (state_behind stack s) d name w (can_may w h)
  effect_leaves x s w (starts stack d seconds argument) h k = queued_leaves x stack d seconds argument s w h
  effect_leaves x s w (effect_refuses f) h k = can_may w h

  deed_leaves : (x : Agent) (p : Name) (s : Source) (w : World) → Can w → DeedLeaves (deed pid x p s w)
  unfolding deed process_done row_done
  deed_leaves x p s w h =
      cond_both (is_process p) _ _ DeedLeaves
      (λ e. effect_leaves x s w _ h (processed_leaves most left (place_of_use pid s w) (acting x s w.live.objects) w.live w.queue h p (locked_of s.marks) s.stack))
      (λ e. lifted_leaves s w (shared p (acting x s w.live.objects) x.descr (locked_of s.marks) s.stack w.live) (can_may w h))

  stands_leaves : (t : Source) (w : World) → May w → May (process_stands_at pid t w)
  stands_leaves t w h = fits_changed (GoesOn most left) pid pid (at_state (Some t)) w.queue (λ p. refl) (λ p k. k) h

  went_leaves : (player : Dbref) (program : ℤ) (o : Outcome) (w : World) → May w → TurnLeaves (unit_went pid player program o w)
  went_leaves player program (goes k t) w h = stands_leaves t w h
  went_leaves player program (faulted f) w h = numbered_without pid w.queue h.numbered
  went_leaves player program _ w h = numbered_without pid w.queue h.numbered

  after_leaves : (player : Dbref) (s : Source) (d : SharedEffect World) → DeedLeaves d → TurnLeaves (after_deed pid player s d)
  after_leaves player s (does t w) h = settled_fits (GoesOn most left) pid (process_stands_at pid t w) (stands_leaves t w h)
  after_leaves player s (rests t w) h = settled_numbered (process_stands_at pid t w) (numbered_changed pid (at_state (Some t)) (λ p. refl) w.queue h)
  after_leaves player s (fails f w) h = went_leaves player s.program.number (fault_met f s) w h

  out_can : (w : World) → Can w → Can (out pid w)
  out_can w h = record {
    numbered = numbered_changed pid (at_state None) (λ p. refl) w.queue h.numbered;
    it = at_state None h.it;
    found = process_changed pid (at_state None) (λ p. refl) w.queue ∙ ap (option_map (at_state None)) h.found;
    holds = h.holds;
  }

  unit_leaves : (x : Agent) (program : ℤ) (o : Outcome) (w : World) → Can w → TurnLeaves (unit_done pid x program o w)
  unit_leaves x program (asks p s) w h = after_leaves x.player s (deed pid x p s (out pid w)) (deed_leaves x p s (out pid w) (out_can w h))
  unit_leaves x program (goes k t) w h = went_leaves x.player program (goes k t) w (can_may w h)
  unit_leaves x program ended w h = went_leaves x.player program ended w (can_may w h)
  unit_leaves x program stuck w h = went_leaves x.player program stuck w (can_may w h)
  unit_leaves x program (faulted f) w h = went_leaves x.player program (faulted f) w (can_may w h)

  -- where it is seated it may go on so
  abbrev MayGo : Option (Agent × Source) → Type 0
  MayGo None = Unit {0}
  MayGo (Some (x, s)) = GoesOn most left x.mode x.section

  seat_at : (p : Process) (o : Option Source) → GoesOn most left p.mode p.section → MayGo (option_map {U = Agent × Source} (λ s. (agent_of p, s)) o)
  seat_at p None h = tt
  seat_at p (Some s) h = h

  seat_in : (o : Option Process) → Holds (GoesOn most left) o → MayGo (option_and_then seat_of o)
  seat_in None h = tt
  seat_in (Some p) h = seat_at p p.running h

  seat_may : (w : World) → May w → MayGo (seat pid w)
  seat_may w h = seat_in (process pid w.queue) h.holds

-- The next unit of a process.

within_section : (b c : Bool) (spent : Bool) → cond (b && c) (Some PreemptTooLong) (cond spent (Some TooManyUnits) None) ≡ None → b ≡ true → c ≡ false
within_section true true spent h e = absurd cc
within_section true false spent h e = refl
within_section false c spent h e = absurd cc

-- a unit that may be taken leaves what the section needs
counted_may : (all section n : ℕ) (b : Bool) → (b ≡ true → suc (more 0 all) ≤ section + suc n) → (b ≡ true → section < more 0 all) → (b ≡ false → suc all < suc n) →
    suc (more 0 all) ≤ cond b (cond b (more 1 section) section) 0 + n
counted_may all section n true h k j = let enough = h refl in let fewer = k refl in omega (arith, enough, fewer)
counted_may all section n false h k j = let enough = j refl in omega (arith, enough)

module _ (tune : Tune) (pid : ℤ) where
  seated_on : (n : ℕ) (x : Agent) (s : Source) (w : World) → IsNumbered w.queue → seat pid w ≡ Some (x, s) → GoesOn (section_most tune) (suc n) x.mode x.section → is_through tune (suc n) x ≡ false →
      limit_fault tune (acting x s w.live.objects).level x ≡ None → Seated (MayChange (section_most tune) n) pid (one_counted pid w).queue
  seated_on n x s w numbered at h on_it none =
      let sit = sits pid x s w at in
      let mode : sit.it.mode ≡ x.mode = ap (λ (y : Agent). y.mode) sit.agent in
      let section : sit.it.section ≡ x.section = ap (λ (y : Agent). y.section) sit.agent in
      record {
        numbered = numbered_changed pid (units_counted 1) (λ p. refl) w.queue numbered;
        it = units_counted 1 sit.it;
        found = process_changed pid (units_counted 1) (λ p. refl) w.queue ∙ ap (option_map (units_counted 1)) sit.found;
        holds = subst (λ (m : Mode). suc (section_most tune) ≤ cond (is_preempt m) (cond (is_preempt m) (more 1 sit.it.section) sit.it.section) 0 + n) (sym mode)
            (subst (λ c. suc (section_most tune) ≤ cond (is_preempt x.mode) (cond (is_preempt x.mode) (more 1 c) c) 0 + n) (sym section)
            (counted_may tune.preempt_units x.section n (is_preempt x.mode) h
            (λ e. leb-false (section_most tune) x.section (within_section (is_preempt x.mode) (nat_le (section_most tune) x.section) _ none e))
            (λ e. leb-false (suc n) (suc tune.preempt_units) (not_through (is_preempt x.mode) (nat_le (suc n) (suc tune.preempt_units)) on_it e))));
      }

  turn_leaves : (n : ℕ) (x : Agent) (s : Source) (w : World) → IsNumbered w.queue → seat pid w ≡ Some (x, s) → GoesOn (section_most tune) (suc n) x.mode x.section → is_through tune (suc n) x ≡ false →
      (o : Option MufFault) → limit_fault tune (acting x s w.live.objects).level x ≡ o → TurnLeaves (section_most tune) n pid (unit_taken tune pid x s w)
  turn_leaves n x s w numbered at h on_it None e =
      subst (TurnLeaves (section_most tune) n pid) (sym (turn_within tune pid x s w e))
      (unit_leaves (section_most tune) n pid x s.program.number (unit s) (one_counted pid w) (seated_on n x s w numbered at h on_it e))
  turn_leaves n x s w numbered at h on_it (Some f) e =
      subst (TurnLeaves (section_most tune) n pid) (sym (turn_limit tune pid x s f w e)) (numbered_without pid w.queue numbered)

  -- the last unit that is left is one too many
  last_too_long : (b : Bool) (all most section : ℕ) (spent : Bool) → (not b && nat_le 1 (suc all)) ≡ false → (b ≡ true → suc most ≤ section + 1) → cond (b && nat_le most section) (Some PreemptTooLong) (cond spent (Some TooManyUnits) None) ≡ Some PreemptTooLong
  last_too_long true all most section spent h k = cond-true _ _ _ (le-leb most section (let enough = k refl in omega (arith, enough)))
  last_too_long false all most section spent h k = let is : nat_le 1 (suc all) ≡ true = le-leb 1 (suc all) (omega arith) in absurd cc

-- Numbers rise in each world that units lead to.

module _ (tune : Tune) (pid : ℤ) where
  any_seated : (x : Agent) (s : Source) (w : World) → IsNumbered w.queue → seat pid w ≡ Some (x, s) → Seated (MayChange 0 1) pid (one_counted pid w).queue
  any_seated x s w h at =
      let sit = sits pid x s w at in
      record {
        numbered = numbered_changed pid (units_counted 1) (λ p. refl) w.queue h;
        it = units_counted 1 sit.it;
        found = process_changed pid (units_counted 1) (λ p. refl) w.queue ∙ ap (option_map (units_counted 1)) sit.found;
        holds = omega arith;
      }

  turn_numbered : (x : Agent) (s : Source) (w : World) → IsNumbered w.queue → seat pid w ≡ Some (x, s) → (o : Option MufFault) → limit_fault tune (acting x s w.live.objects).level x ≡ o → TurnLeaves 0 1 pid (unit_taken tune pid x s w)
  turn_numbered x s w h at None e =
      subst (TurnLeaves 0 1 pid) (sym (turn_within tune pid x s w e)) (unit_leaves 0 1 pid x s.program.number (unit s) (one_counted pid w) (any_seated x s w h at))
  turn_numbered x s w h at (Some f) e = subst (TurnLeaves 0 1 pid) (sym (turn_limit tune pid x s f w e)) (numbered_without pid w.queue h)

  leaves_numbered : (t : Went) → TurnLeaves 0 1 pid t → IsNumbered (world_of t).queue
  leaves_numbered (on v) h = h.numbered
  leaves_numbered (rest v) h = h
  leaves_numbered (over v) h = h

  pub run_numbered : (n : ℕ) (w : World) → IsNumbered w.queue → IsNumbered (last_world w (units_run tune n pid w)).queue
  run_numbered n w =
      run_holds tune pid (λ v ts. IsNumbered v.queue → IsNumbered (last_world v ts).queue) (λ v h. h)
      (λ v x s ts e more h. more (leaves_numbered (unit_taken tune pid x s v) (turn_numbered x s v h e (limit_fault tune (acting x s v.live.objects).level x) refl)))
      n w

-- The units of a slice.

stops_any : (pid : ℤ) (v w : World) (t : Taken) (ts : List Taken) → LastStops pid v (t ∷ ts) → LastStops pid w (t ∷ ts)
stops_any pid v w t [] h = h
stops_any pid v w t (u ∷ ts) h = stops_any pid v w u ts h

stops_on : (pid : ℤ) (v w : World) (t : Taken) (ts : List Taken) → t.turn ≡ on v → LastStops pid v ts → LastStops pid w (t ∷ ts)
stops_on pid v w t [] e h = subst (Stops pid) (sym e) h
stops_on pid v w t (u ∷ ts) e h = stops_any pid v w u ts h

module _ (tune : Tune) (pid : ℤ) where
  -- so many units are left at most, or the last one is one too many
  abbrev Ends : ℕ → List Taken → Type 0
  Ends n ts = (length ts < n) ⊎ ((length ts ≡ n) × LastTooLong tune pid ts)

  record Wholly (n : ℕ) (w : World) (ts : List Taken) : Type 0 where
    stops : LastStops pid w ts
    ends : Ends n ts

  -- what follows a unit is so, too
  abbrev More : ℕ → Type 0
  More zero = Unit {0}
  More (suc n) = (v : World) → Fits (GoesOn (section_most tune) (suc n)) pid v.queue → Wholly (suc n) v (units_run tune (suc n) pid v)

  ends_more : (n : ℕ) (t : Taken) (ts : List Taken) → Ends (suc n) ts → Ends (suc (suc n)) (t ∷ ts)
  ends_more n t ts (inl l) = inl (omega (arith, l))
  ends_more n t [] (inr h) = absurd (omega (arith, h.0))
  ends_more n t (u ∷ ts) (inr h) = inr (ap suc h.0, h.1)

  -- units behind one
  wholly_more : (n : ℕ) (x : Agent) (s : Source) (w : World) (t : Went) → unit_taken tune pid x s w ≡ t → TurnLeaves (section_most tune) (suc n) pid t → ((v : World) → Fits (GoesOn (section_most tune) (suc n)) pid v.queue → Wholly (suc n) v (units_run tune (suc n) pid v)) →
      Wholly (suc (suc n)) w (unit_of x s w t ∷ then_more (units_run tune (suc n) pid) t)
  wholly_more n x s w (on v) e h more =
      let k = more v h in
      record { stops = stops_on pid v w (unit_of x s w (on v)) (units_run tune (suc n) pid v) refl k.stops; ends = ends_more n (unit_of x s w (on v)) (units_run tune (suc n) pid v) k.ends }
  wholly_more n x s w (rest v) e h more = record { stops = tt; ends = inl (omega arith) }
  wholly_more n x s w (over v) e h more = record { stops = tt; ends = inl (omega arith) }

  wholly_last : (x : Agent) (s : Source) (w : World) (more : World → List Taken) → seat pid w ≡ Some (x, s) → limit_fault tune (acting x s w.live.objects).level x ≡ Some PreemptTooLong →
      Wholly 1 w (unit_of x s w (unit_taken tune pid x s w) ∷ then_more more (unit_taken tune pid x s w))
  wholly_last x s w more at e =
      subst (λ t. Wholly 1 w (unit_of x s w t ∷ then_more more t)) (sym (turn_limit tune pid x s PreemptTooLong w e))
      (record { stops = tt; ends = inr (refl, subst (IsOverlong tune (acting x s w.live.objects).level) (sym at) e) })

  wholly_next : (n : ℕ) (x : Agent) (s : Source) (w : World) → IsNumbered w.queue → seat pid w ≡ Some (x, s) → GoesOn (section_most tune) (suc n) x.mode x.section → is_through tune (suc n) x ≡ false →
      More n →
      Wholly (suc n) w (unit_of x s w (unit_taken tune pid x s w) ∷ then_more (units_run tune n pid) (unit_taken tune pid x s w))
  wholly_next zero x s w numbered at h on_it more =
      wholly_last x s w (units_run tune 0 pid) at (last_too_long tune pid (is_preempt x.mode) tune.preempt_units (section_most tune) x.section _ on_it h)
  wholly_next (suc n) x s w numbered at h on_it more =
      wholly_more n x s w (unit_taken tune pid x s w) refl (turn_leaves tune pid (suc n) x s w numbered at h on_it (limit_fault tune (acting x s w.live.objects).level x) refl) more

  open_preempt : (b c : Bool) → (not b && c) ≡ true → b ≡ false
  open_preempt true c e = absurd cc
  open_preempt false c e = refl

  -- the process is seated so, or isn't
  wholly_from : (n : ℕ) (w : World) (o : Option (Agent × Source)) → IsNumbered w.queue → seat pid w ≡ o → MayGo (section_most tune) (suc n) pid o →
      More n →
      Wholly (suc n) w (option_map_or (next_unit tune (suc n) pid w (units_run tune n pid)) o [])
  wholly_from n w None numbered at h more = record { stops = subst IsInterruptible (sym at) tt; ends = inl (omega arith) }
  wholly_from n w (Some (x, s)) numbered at h more =
      cond_both (is_through tune (suc n) x) [] _ (Wholly (suc n) w)
      (λ e. record { stops = subst IsInterruptible (sym at) (open_preempt (is_preempt x.mode) _ e); ends = inl (omega arith) })
      (λ e. wholly_next n x s w numbered at h e more)

  wholly : (n : ℕ) (w : World) → Fits (GoesOn (section_most tune) (suc n)) pid w.queue → Wholly (suc n) w (units_run tune (suc n) pid w)
  unfolding units_run
  wholly zero w h = wholly_from zero w (seat pid w) h.numbered refl (seat_may (section_most tune) 1 pid w h) tt
  wholly (suc n) w h = wholly_from (suc n) w (seat pid w) h.numbered refl (seat_may (section_most tune) (suc (suc n)) pid w h) (wholly n)

  ends_most : (n : ℕ) (ts : List Taken) → n ≡ slice_most tune → Ends n ts →
      (length ts ≤ tune.instr_slice + tune.preempt_units) ⊎ ((length ts ≡ tune.instr_slice + tune.preempt_units + 1) × LastTooLong tune pid ts)
  ends_most n ts e (inl l) = inl (omega (arith, e, l))
  ends_most n ts e (inr h) = let long = h.0 in inr (omega (arith, e, long), h.1)

woken_holds : (most left : ℕ) (moment : ℕ) (o : Option Process) → suc most ≤ left → Holds (GoesOn most left) (option_map (woken moment) o)
woken_holds most left moment None l = tt
woken_holds most left moment (Some p) l = λ e. omega (arith, l)

-- The units of a slice are whole, where the numbers of the processes rise.
pub slice_whole : (pid : ℤ) (w : World) → IsNumbered w.queue → IsWhole w.live.board.tune pid (process_awake pid w) (units_of pid w)
slice_whole pid w numbered =
    let tune = w.live.board.tune in
    let n : suc (tune.instr_slice + tune.preempt_units) ≡ slice_most tune = omega arith in
    let begins : Fits (GoesOn (section_most tune) (suc (tune.instr_slice + tune.preempt_units))) pid (process_awake pid w).queue = record {
      numbered = numbered_changed pid (woken w.moment) (woken_number w.moment) w.queue numbered;
      holds = subst (Holds (GoesOn (section_most tune) (suc (tune.instr_slice + tune.preempt_units)))) (sym (process_changed pid (woken w.moment) (woken_number w.moment) w.queue))
          (woken_holds (section_most tune) (suc (tune.instr_slice + tune.preempt_units)) w.moment (process pid w.queue) (omega arith));
    } in
    let k = subst (λ m. Wholly tune pid m (process_awake pid w) (units_run tune m pid (process_awake pid w))) n (wholly tune pid (tune.instr_slice + tune.preempt_units) (process_awake pid w) begins) in
    record { stops = k.stops; most = ends_most tune pid (slice_most tune) (units_of pid w) refl k.ends }
