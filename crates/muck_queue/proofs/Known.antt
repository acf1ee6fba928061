-- Each change of a queue keeps what the queue knows of its processes.
use Rattle.std.proofs.Common.{◌≡◌, ℕ, ℤ, ◌<◌, ◌≤◌, ◌+◌, Bool, true, false, not, List, [], ◌∷◌, ◌++◌, length, take, get_or, refl, sym, ◌∙◌, ap, subst, arith, Option, None, if◌then◌else◌}
use Rattle.std.specs.Prelude.{◌&&◌, ◌||◌, ◌==◌, nat_le, is_some, drop, map, find}
use Rattle.std.specs.List.{list_all, list_any, reduce}
use Rattle.std.specs.Option.{option_map}
use Rattle.std.proofs.lemmas.Bool.{cond_both, le-leb}
use Rattle.std.proofs.lemmas.List.{take_more}
use Rattle.std.proofs.Math.Bool.{or-true}
use Rattle.muck_laws.proofs.Numbers.{event_of, lower_of, not_due}
use Rattle.muck_laws.proofs.Options.{untied_of}
use Rattle.muck_laws.proofs.Truths.{or_last, taken_of, waiting_of}
use Rattle.muck_model.specs.declared.dbref.Dbref.{Dbref}
use Rattle.muf_model.specs.Datum.{Datum}
use Rattle.muck_queue.specs.declared.claim.Claim.{Claim}
use Rattle.muck_queue.specs.declared.mode.Mode.{Mode}
use Rattle.muck_queue.specs.declared.mode.Wait.{Wait}
use Rattle.muck_queue.specs.declared.mode.Wait.TheVariants.{Nothing, ForLine, ForEvent}
use Rattle.muck_queue.specs.declared.process.Process.{Process}
use Rattle.muck_queue.specs.Queues.{Queue, changed_first, earlier, earliest, has_pid, has_trigger, process_in_mode, is_awaiting, is_claimed, is_process_due, is_for_event, is_reading, is_tied_to, keeps_busy, next_due, process_numbered, reads_from, told_event, woken, without_all, without_event, without_first, without_trigger}
use Rattle.muck_queue.specs.inner.Known.{Knows, fits_second, fits_ties, has_connection, is_timed}
use Rattle.muck_queue.proofs.Woken.{woken_due, woken_descr}
use Rattle.muck_queue.proofs.Tested.{Gives, Bars, all_changed, all_without, all_kept, all_mapped, all_added, none_any, none_found, none_filtered, none_taken}

-- Seconds.

-- a process that is due in this second or later
pub second_due : (s : ℕ) (p : Process) → s ≤ p.due → fits_second s p ≡ true
second_due s p h = or_last (is_reading p) (is_awaiting p) (nat_le s p.due) (le-leb s p.due h)

-- a lower second fits as well
second_lower : (less s : ℕ) → less ≤ s → Gives (fits_second s) (fits_second less)
second_lower less s l p h = lower_of (is_reading p) (is_awaiting p) less s p.due l h

-- a process that waits for more than its second
pub second_waiting : (s : ℕ) (p : Process) → is_timed p ≡ false → fits_second s p ≡ true
second_waiting s p h = waiting_of (is_reading p) (is_awaiting p) (nat_le s p.due) h

-- before that second none goes on
none_soon : (cs : List Claim) (tied : Bool) (s m : ℕ) (ps : List Process) → Knows tied s ps → m < s → earliest (is_process_due m cs) ps ≡ None
none_soon cs tied s m ps k l =
    ap (reduce earlier) (none_filtered (fits_second s) (is_process_due m cs) (λ p h. not_due (is_reading p) (is_awaiting p) (not (is_claimed p.number cs)) s m p.due l h) ps k.seconds)

pub none_next : (q : Queue) (tied : Bool) (s m : ℕ) → Knows tied s q.processes → m < s → None ≡ next_due m q
unfolding next_due
none_next q tied s m k l = sym (ap (option_map (λ (p : Process). p.number)) (none_soon q.claims tied s m q.processes k l))

-- one process more of which a second is known
pub seconds_more : (s less : ℕ) (ps : List Process) (i : ℕ) (p : Process) → i < length ps → p ≡ get_or ps i p → less ≤ s → fits_second less p ≡ true →
    list_all (fits_second s) (take i ps) ≡ true → list_all (fits_second less) (take (i + 1) ps) ≡ true
seconds_more s less ps i p h is l e k =
    rw (take_more ps i p h) (rw (← is) (all_added (fits_second s) (fits_second less) (second_lower less s l) p e (take i ps) k))

-- Connections.

untied : (d : ℕ) → Bars (fits_ties false) (is_tied_to d)
untied d p h = untied_of (λ c. c == d) p.descr h

module _ (d : ℕ) (tied : Bool) (s : ℕ) (ps : List Process) (k : Knows tied s ps) (none : tied ≡ false) where
  untied_all : list_all (fits_ties false) ps ≡ true
  untied_all = subst (λ t. list_all (fits_ties t) ps ≡ true) none k.ties

  pub none_tied : list_any (is_tied_to d) ps ≡ false
  none_tied = none_any (fits_ties false) (is_tied_to d) (untied d) ps untied_all

  pub none_ended : without_all (is_tied_to d) ps ≡ ps
  none_ended = none_taken (fits_ties false) (is_tied_to d) (untied d) ps untied_all

  pub none_busy : list_any (keeps_busy d) ps ≡ false
  none_busy = none_any (fits_ties false) (keeps_busy d) (λ p h. ap (λ b. b && not (is_reading p)) (untied d p h)) ps untied_all

  pub none_reads : find (reads_from d) ps ≡ None
  none_reads = none_found (fits_ties false) (reads_from d) (λ p h. ap (λ b. b && is_reading p) (untied d p h)) ps untied_all

-- what a look at all of them found
ties_found : (ps : List Process) (t : Bool) → (list_any has_connection ps ≡ true → t ≡ true) → list_all (fits_ties t) ps ≡ true
ties_found [] t e = refl
ties_found (p ∷ ps) true e = ties_found ps true (λ h. refl)
ties_found (p ∷ ps) false e = ties_left (has_connection p) (list_any has_connection ps) _ e (ties_found ps false) where
  ties_left : (c r all : Bool) → ((c || r) ≡ true → false ≡ true) → ((r ≡ true → false ≡ true) → all ≡ true) → (not c && all) ≡ true
  ties_left true r all f g = absurd (let no : false ≡ true = f refl in cc)
  ties_left false r all f g = g f

-- The queue.

module _ (tied : Bool) (s : ℕ) where
  pub knows_none : (ps : List Process) → ps ≡ [] → Knows tied s ps
  knows_none ps e = rw e (record { ties = refl; seconds = refl })

  -- a change that gives no process a connection and lets none that waits for nothing be due before this second
  pub knows_changed : (pid : ℤ) (f : Process → Process) (less : ℕ) → less ≤ s → ((p : Process) → fits_ties tied p ≡ true → fits_ties tied (f p) ≡ true) →
      ((p : Process) → fits_second less p ≡ true → fits_second less (f p) ≡ true) → (ps new : List Process) → Knows tied s ps → new ≡ changed_first (has_pid pid) f ps → Knows tied less new
  knows_changed pid f less l t g ps new k e =
      rw e (record {
        ties = all_changed (fits_ties tied) (fits_ties tied) (has_pid pid) f (λ p h. h) t ps k.ties;
        seconds = all_changed (fits_second s) (fits_second less) (has_pid pid) f (second_lower less s l) (λ p h. g p (second_lower less s l p h)) ps k.seconds;
      })

  pub knows_cleared : (trigger : Dbref) (ps new : List Process) → Knows tied s ps → new ≡ map (λ p. if has_trigger trigger p then without_trigger p else p) ps → Knows tied s new
  knows_cleared trigger ps new k e =
      let change : Process → Process = λ p. if has_trigger trigger p then without_trigger p else p in
      rw e (record {
        ties = all_mapped (fits_ties tied) change (λ p h. cond_both (has_trigger trigger p) (without_trigger p) p (λ q. fits_ties tied q ≡ true) (λ _. h) (λ _. h)) ps k.ties;
        seconds = all_mapped (fits_second s) change (λ p h. cond_both (has_trigger trigger p) (without_trigger p) p (λ q. fits_second s q ≡ true) (λ _. h) (λ _. h)) ps k.seconds;
      })

  pub knows_added : (p : Process) (now : Bool) (less : ℕ) (next : ℤ) (ps new : List Process) → Knows tied s ps → now ≡ (tied || has_connection p) → less ≤ s → less ≤ p.due →
      new ≡ ps ++ process_numbered next p ∷ [] → Knows now less new
  knows_added p now less next ps new k t l d e =
      rw e (record {
        ties = all_added (fits_ties tied) (fits_ties now) (λ q h. more_ties tied (has_connection p) now (not (has_connection q)) t h) (process_numbered next p) (own_ties tied (has_connection p) now t) ps k.ties;
        seconds = all_added (fits_second s) (fits_second less) (second_lower less s l) (process_numbered next p) (second_due less (process_numbered next p) d) ps k.seconds;
      }) where
        more_ties : (a b c r : Bool) → c ≡ (a || b) → (a || r) ≡ true → (c || r) ≡ true
        more_ties true b c r e h = ap (λ x. x || r) e
        more_ties false b true r e h = refl
        more_ties false b false r e h = h

        own_ties : (a b c : Bool) → c ≡ (a || b) → (c || not b) ≡ true
        own_ties true b c e = ap (λ x. x || not b) e
        own_ties false true c e = ap (λ x. x || false) e
        own_ties false false c e = or-true c

  -- with connections found anew
  module _ (now : Bool) where
    pub knows_without : (pid : ℤ) (ps new : List Process) → Knows tied s ps → new ≡ without_first (has_pid pid) ps → now ≡ list_any has_connection new → Knows now s new
    knows_without pid ps new k e f =
        record { ties = ties_found new now (λ h. f ∙ h); seconds = subst (λ (qs : List Process). list_all (fits_second s) qs ≡ true) (sym e) (all_without (fits_second s) (has_pid pid) ps k.seconds) }

    pub knows_kept : (test : Process → Bool) (ps new : List Process) → Knows tied s ps → new ≡ without_all test ps → now ≡ list_any has_connection new → Knows now s new
    knows_kept test ps new k e f =
        record { ties = ties_found new now (λ h. f ∙ h); seconds = subst (λ (qs : List Process). list_all (fits_second s) qs ≡ true) (sym e) (all_kept (fits_second s) (λ p. not (test p)) ps k.seconds) }

    pub knows_mode : (pid : ℤ) (mode : Mode) (ps new : List Process) → Knows tied s ps → new ≡ changed_first (has_pid pid) (process_in_mode mode) ps → now ≡ list_any has_connection new → Knows now s new
    knows_mode pid mode ps new k e f =
        record { ties = ties_found new now (λ h. f ∙ h); seconds = subst (λ (qs : List Process). list_all (fits_second s) qs ≡ true) (sym e) (all_changed (fits_second s) (fits_second s) (has_pid pid) (process_in_mode mode) (λ p h. h) (λ p h. h) ps k.seconds) }

-- Changes of one process.

pub second_event : (s moment : ℕ) (event : List ℕ × Datum) → s ≤ moment → (p : Process) → fits_second s p ≡ true → fits_second s (told_event moment event p) ≡ true
second_event s moment event l p h = event_of (is_reading p) (is_awaiting p) s p.due moment (is_for_event p.wait (p.events ++ event ∷ [])) h l

still : (wait : Wait) (events : List (List ℕ × Datum)) → is_for_event wait events ≡ true → is_for_event wait (drop 1 events) ≡ true
still Nothing events h = cc
still ForLine events h = cc
still ForEvent [] h = refl
still ForEvent (e ∷ events) h = cc

pub second_taken : (s : ℕ) (p : Process) → fits_second s p ≡ true → fits_second s (without_event p) ≡ true
second_taken s p h = taken_of (is_reading p) (is_awaiting p) (is_for_event p.wait (drop 1 p.events)) (nat_le s p.due) (still p.wait p.events) h

pub second_woken : (s moment : ℕ) → s ≤ moment → (p : Process) → fits_second s p ≡ true → fits_second s (woken moment p) ≡ true
second_woken s moment l p h = second_due s (woken moment p) (let e = woken_due moment p in omega arith)

pub ties_woken : (tied : Bool) (moment : ℕ) (p : Process) → fits_ties tied p ≡ true → fits_ties tied (woken moment p) ≡ true
ties_woken tied moment p h = ap (λ (o : Option ℕ). tied || not (is_some o)) (woken_descr moment p) ∙ h
