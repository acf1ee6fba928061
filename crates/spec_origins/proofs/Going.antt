-- Where processes come from, step by step.
use Rattle.std.proofs.Common.{◌≡◌, ℕ, ◌+◌, ℤ, pos, ◌+ℤ◌, ◌<ℤ◌, ◌≤ℤ◌, suc, Bool, true, false, not, cond, List, [], ◌∷◌, ◌++◌, map, refl, sym, ◌∙◌, ap, subst, arith, Option, Some, None, inl, inr}
use Rattle.std.specs.Prelude.{◌⊎◌, Result}
use Rattle.std.specs.Option.{option_map_or}
use Rattle.std.proofs.lemmas.Bool.{cond_both}
use Rattle.std.proofs.lemmas.Bool.Decides.{Decides-int_eq}
use Rattle.std.proofs.lemmas.Int.{ints}
use Rattle.std.proofs.lemmas.List.{append_assoc}
use Rattle.muck_model.specs.declared.dbref.Dbref.{Dbref}
use Rattle.muck_model.proofs.Dbrefs.{eq_same}
use Rattle.spec_live.specs.declared.mark.Mark.{Mark}
use Rattle.spec_live.specs.declared.mark.Mark.TheVariants.{Lines, Gone}
use Rattle.spec_live.specs.Objects.{Entry, dbref_of, mark_in, nothing}
use Rattle.muf_model.specs.declared.fault.MufFault.{MufFault}
use Rattle.muf_model.specs.Datum.{Datum}
use Rattle.muf_model.specs.Source.{Source, last_word}
use Rattle.muf_model.specs.Tree.{Definition, Tree}
use Rattle.muck_library.specs.Library.{Library, formed}
use Rattle.muck_queue.specs.declared.mode.Mode.{Mode}
use Rattle.muck_queue.specs.declared.mode.Wait.{Wait}
use Rattle.muck_queue.specs.declared.mode.Wait.TheVariants.{Nothing, ForLine, ForEvent}
use Rattle.muck_queue.specs.declared.process.Process.{Process}
use Rattle.muck_queue.specs.Queues.{Queue, process_numbered, has_pid, has_trigger, runs_in, is_background, is_for_event, is_awaiting, without_trigger, process_in_mode, told_event, given_event, woken, changed_first, is_queue_full, on_process, without_process, process_added, ended_running, trigger_cleared}
use Rattle.spec_events.specs.declared.starting.Call.{Call as Started}
use Rattle.spec_events.specs.declared.starting.Manner.{Manner}
use Rattle.spec_events.specs.World.{World, with_library}
use Rattle.spec_events.specs.Following.{mark_followed, swept, settled}
use Rattle.spec_events.specs.Starting.{program_beginning, new_process, process_joined, word_started, form_started, built_started, program_begun}
use Rattle.spec_events.specs.Sourced.{Each}
use Rattle.spec_events.proofs.Sourcing.{each_more, each_filter, each_append, each_without}
use Rattle.spec_origins.specs.Origins.{Among, SameOrigin, GoesOn, SameEvents, MoreEvents, StandsStill, From, was_there, is_new, Comes}

-- One process.

module _ (Lost : Dbref → Type 0) where
  pub origin_itself : (p : Process) → SameOrigin Lost p p
  origin_itself p = record { player = refl; program = refl; command = refl; trigger = inl refl }

  trigger_both : (x y z : Dbref) → (y ≡ x) ⊎ ((y ≡ nothing) × Lost x) → (z ≡ y) ⊎ ((z ≡ nothing) × Lost y) → (z ≡ x) ⊎ ((z ≡ nothing) × Lost x)
  trigger_both x y z (inl e) (inl f) = inl (f ∙ e)
  trigger_both x y z (inr k) (inl f) = inr (f ∙ k.0, k.1)
  trigger_both x y z (inl e) (inr l) = inr (l.0, subst Lost e l.1)
  trigger_both x y z (inr k) (inr l) = inr (l.0, k.1)

  pub origin_both : (p q r : Process) → SameOrigin Lost p q → SameOrigin Lost q r → SameOrigin Lost p r
  origin_both p q r g h = record {
    player = h.player ∙ g.player;
    program = h.program ∙ g.program;
    command = h.command ∙ g.command;
    trigger = trigger_both p.trigger q.trigger r.trigger g.trigger h.trigger;
  }

  pub goes_itself : (p : Process) → GoesOn Lost p p
  goes_itself p = record { number = refl; origin = origin_itself p; tied = inl refl }

  tied_both : (x y z : Option ℕ) → (y ≡ x) ⊎ (y ≡ None) → (z ≡ y) ⊎ (z ≡ None) → (z ≡ x) ⊎ (z ≡ None)
  tied_both x y z (inl e) (inl f) = inl (f ∙ e)
  tied_both x y z (inr n) (inl f) = inr (f ∙ n)
  tied_both x y z k (inr n) = inr n

  pub goes_both : (p q r : Process) → GoesOn Lost p q → GoesOn Lost q r → GoesOn Lost p r
  goes_both p q r g h = record { number = h.number ∙ g.number; origin = origin_both p q r g.origin h.origin; tied = tied_both p.descr q.descr r.descr g.tied h.tied }

  pub goes_in_mode : (mode : Mode) (p : Process) → GoesOn Lost p (process_in_mode mode p)
  goes_in_mode mode p = record {
    number = refl;
    origin = record { player = refl; program = refl; command = refl; trigger = inl refl };
    tied = cond_both (is_background mode) None p.descr (λ (d : Option ℕ). (d ≡ p.descr) ⊎ (d ≡ None)) (λ e. inr refl) (λ e. inl refl);
  }

  goes_given : (wait : Wait) (events : List (List ℕ × Datum)) (p : Process) → GoesOn Lost p (given_event wait events p)
  goes_given ForEvent (e ∷ events) p = record { number = refl; origin = record { player = refl; program = refl; command = refl; trigger = inl refl }; tied = inl refl }
  goes_given ForEvent [] p = goes_itself p
  goes_given Nothing events p = goes_itself p
  goes_given ForLine events p = goes_itself p

  pub goes_woken : (moment : ℕ) (p : Process) → GoesOn Lost p (woken moment p)
  goes_woken moment p =
      let u : Process = record p { due = moment; section = 0 } in
      let h : GoesOn Lost p u = record { number = refl; origin = record { player = refl; program = refl; command = refl; trigger = inl refl }; tied = inl refl } in
      goes_both p u (woken moment p) h (goes_given p.wait p.events u)

-- it waited for an event also where fewer had come
fewer_awaited : (wait : Wait) (events sent : List (List ℕ × Datum)) → is_for_event wait (events ++ sent) ≡ true → is_for_event wait events ≡ true
fewer_awaited ForEvent [] sent e = refl
fewer_awaited ForEvent (x ∷ events) sent e = e
fewer_awaited Nothing events sent e = e
fewer_awaited ForLine events sent e = e

awaited_as : (p q : Process) → q.wait ≡ p.wait → (sent : List (List ℕ × Datum)) → q.events ≡ p.events ++ sent → is_awaiting q ≡ true → is_awaiting p ≡ true
awaited_as p q w sent e h =
    fewer_awaited p.wait p.events sent (ap (λ (x : Wait). is_for_event x (p.events ++ sent)) (sym w) ∙ ap (λ (es : List (List ℕ × Datum)). is_for_event q.wait es) (sym e) ∙ h)

same_none : (xs : List (List ℕ × Datum)) → xs ≡ xs ++ []
same_none [] = refl
same_none (x ∷ xs) = ap (λ (ys : List (List ℕ × Datum)). x ∷ ys) (same_none xs)

due_both : (p q r : Process) → (is_awaiting q ≡ true → is_awaiting p ≡ true) → (q.due ≡ p.due) ⊎ (is_awaiting p ≡ true) → (r.due ≡ q.due) ⊎ (is_awaiting q ≡ true) → (r.due ≡ p.due) ⊎ (is_awaiting p ≡ true)
due_both p q r a (inl e) (inl f) = inl (f ∙ e)
due_both p q r a (inr k) h = inr k
due_both p q r a (inl e) (inr l) = inr (a l)

events_both : (sends : Bool) (p q r : Process) → q.wait ≡ p.wait → SameEvents p q ⊎ ((sends ≡ true) × MoreEvents p q) → SameEvents q r ⊎ ((sends ≡ true) × MoreEvents q r) → SameEvents p r ⊎ ((sends ≡ true) × MoreEvents p r)
events_both sends p q r w (inl e) (inl f) = inl (f.0 ∙ e.0, f.1 ∙ e.1)
events_both sends p q r w (inl e) (inr f) =
    inr (f.0, ((f.1.0.0, f.1.0.1 ∙ ap (λ (es : List (List ℕ × Datum)). es ++ f.1.0.0) e.0), due_both p q r (awaited_as p q w [] (e.0 ∙ same_none p.events)) (inl e.1) f.1.1))
events_both sends p q r w (inr e) (inl f) = inr (e.0, ((e.1.0.0, f.0 ∙ e.1.0.1), due_both p q r (awaited_as p q w e.1.0.0 e.1.0.1) e.1.1 (inl f.1)))
events_both sends p q r w (inr e) (inr f) =
    inr (e.0, ((e.1.0.0 ++ f.1.0.0, f.1.0.1 ∙ ap (λ (es : List (List ℕ × Datum)). es ++ f.1.0.0) e.1.0.1 ∙ append_assoc p.events e.1.0.0 f.1.0.0), due_both p q r (awaited_as p q w e.1.0.0 e.1.0.1) e.1.1 f.1.1))

pub still_itself : (sends : Bool) (p : Process) → StandsStill sends p p
still_itself sends p = record { tied = refl; mode = refl; wait = refl; units = refl; section = refl; running = refl; events = inl (refl, refl) }

still_both : (sends : Bool) (p q r : Process) → StandsStill sends p q → StandsStill sends q r → StandsStill sends p r
still_both sends p q r g h = record {
  tied = h.tied ∙ g.tied;
  mode = h.mode ∙ g.mode;
  wait = h.wait ∙ g.wait;
  units = h.units ∙ g.units;
  section = h.section ∙ g.section;
  running = h.running ∙ g.running;
  events = events_both sends p q r g.wait g.events h.events;
}

still_cleared : (sends : Bool) (p : Process) → StandsStill sends p (without_trigger p)
still_cleared sends p = record { tied = refl; mode = refl; wait = refl; units = refl; section = refl; running = refl; events = inl (refl, refl) }

due_told : (moment : ℕ) (p : Process) (b : Bool) → is_awaiting p ≡ b → (cond b moment p.due ≡ p.due) ⊎ (is_awaiting p ≡ true)
due_told moment p true e = inr e
due_told moment p false e = inl refl

still_told : (sends : Bool) → sends ≡ true → (moment : ℕ) (event : List ℕ × Datum) (p : Process) → StandsStill sends p (told_event moment event p)
still_told sends s moment event p = record {
  tied = refl;
  mode = refl;
  wait = refl;
  units = refl;
  section = refl;
  running = refl;
  events = inr (s, ((event ∷ [], refl), due_told moment p (is_awaiting p) refl));
}

-- Processes of a step.

pub each_first : (P : Process → Type 0) (test : Process → Bool) (f : Process → Process) → ((p : Process) → test p ≡ true → P p → P (f p)) → (ps : List Process) → Each P ps → Each P (changed_first test f ps)
each_first P test f k [] h = tt
each_first P test f k (p ∷ ps) h = cond_both (test p) (f p ∷ ps) (p ∷ changed_first test f ps) (Each P) (λ e. (k p e h.0, h.1)) (λ e. (h.0, each_first P test f k ps h.1))

each_cleared : (P : Process → Type 0) (d : Dbref) → ((p : Process) → p.trigger ≡ d → P p → P (without_trigger p)) → (ps : List Process) → Each P ps → Each P (map (λ p. cond (has_trigger d p) (without_trigger p) p) ps)
each_cleared P d k [] h = tt
each_cleared P d k (p ∷ ps) h =
    (cond_both (has_trigger d p) (without_trigger p) p P (λ e. k p (eq_same p.trigger d e) h.0) (λ e. h.0), each_cleared P d k ps h.1)

pub among_more : {X : Type 0} (P : X → Type 0) (xs : List X) → ((x : X) → Among x xs → P x) → Each P xs
among_more P [] h = tt
among_more P (x ∷ xs) h = (h x (inl refl), among_more P xs (λ y k. h y (inr k)))

pub each_among : {X : Type 0} (P : X → Type 0) (x : X) (xs : List X) → Among x xs → Each P xs → P x
each_among P x [] a h = absurd a
each_among P x (y ∷ ys) (inl e) h = subst P (sym e) h.0
each_among P x (y ∷ ys) (inr a) h = each_among P x ys a h.1

module _ (own : ℤ → Bool) (sends : Bool) (Lost : Dbref → Type 0) (New : Process → Type 0) (start : Queue) where
  abbrev pub Since : Process → Type 0
  Since q = From own sends Lost New start.processes q

  abbrev pub Holds : Queue → Type 0
  Holds r = Comes own sends Lost New start r

  pub from_itself : Holds start
  from_itself = record {
    processes = among_more Since start.processes (λ p a. was_there p a (goes_itself Lost p) (λ o. still_itself sends p));
    last = at start.last;
  }
    where
      at : (n : ℤ) → n ≤ℤ n
      at n = omega (arith, ints)

  -- Queues.

  pub holds_changed : (pid : ℤ) (f : Process → Process) → ((p : Process) → p.number ≡ pid → Since p → Since (f p)) → (r : Queue) → Holds r → Holds (on_process pid f r)
  unfolding on_process
  holds_changed pid f k r h = record { processes = each_first Since (has_pid pid) f (λ p e. k p ((Decides-int_eq p.number pid).0 e)) r.processes h.processes; last = h.last }

  pub holds_without : (pid : ℤ) (r : Queue) → Holds r → Holds (without_process pid r)
  unfolding without_process
  holds_without pid r h = record { processes = each_without (λ (p : Process). Unit {0}) pid Since r.processes h.processes; last = h.last }

  pub holds_added : (x : Process) → ((n : ℤ) → start.last <ℤ n → New (process_numbered n x)) → (r : Queue) → Holds r → Holds (process_added x r)
  unfolding process_added
  holds_added x new r h = record {
    processes = each_append Since r.processes (process_numbered (r.last +ℤ pos 1) x) h.processes (is_new (new (r.last +ℤ pos 1) (above start.last r.last h.last)));
    last = up start.last r.last h.last;
  }
    where
      above : (a b : ℤ) → a ≤ℤ b → a <ℤ (b +ℤ pos 1)
      above a b e = omega (arith, ints)

      up : (a b : ℤ) → a ≤ℤ b → a ≤ℤ (b +ℤ pos 1)
      up a b e = omega (arith, ints)

  -- Starting.

  abbrev pub BegunHolds : World × Result ℤ MufFault → Type 0
  BegunHolds r = Holds r.0.queue

  pub holds_joined : (p : Process) (w : World) → ((n : ℤ) → start.last <ℤ n → New (process_numbered n p)) → Holds w.queue → BegunHolds (process_joined p w)
  holds_joined p w new h = cond_both (is_queue_full p.player w.live.board.tune w.queue) _ _ BegunHolds (λ e. h) (λ e. holds_added p new w.queue h)

  -- a process that is begun so is new
  abbrev pub Begins : Manner → Started → Type 0
  Begins m c = (s : Source) (n : ℤ) → start.last <ℤ n → New (process_numbered n (new_process m c s))

  holds_word : (m : Manner) (c : Started) (tree : Tree) (o : Option Definition) (w : World) → Begins m c → Holds w.queue → BegunHolds (word_started m c tree o w)
  holds_word m c tree None w new h = h
  holds_word m c tree (Some x) w new h = holds_joined (new_process m c (program_beginning c tree x w)) w (new (program_beginning c tree x w)) h

  holds_form : (m : Manner) (c : Started) (o : Option Tree) (w : World) → Begins m c → Holds w.queue → BegunHolds (form_started m c o w)
  holds_form m c None w new h = h
  holds_form m c (Some tree) w new h = holds_word m c tree (last_word tree.words) w new h

  holds_built : (m : Manner) (c : Started) (made : Option Tree × Library) (w : World) → Begins m c → Holds w.queue → BegunHolds (built_started m c made w)
  holds_built m c (form, library) w new h = holds_form m c form (with_library library w) new h

  pub holds_begun : (m : Manner) (c : Started) (w : World) → Begins m c → Holds w.queue → BegunHolds (program_begun m c w)
  unfolding program_begun
  holds_begun m c w new h = holds_built m c (formed w.live.objects c.program w.library) w new h

-- where what is new goes on as new
module _ (own : ℤ → Bool) (sends : Bool) (Lost : Dbref → Type 0) (New : Process → Type 0) (stable : (q r : Process) → New q → GoesOn Lost q r → New r) (start : Queue) where
  abbrev Later : Process → Type 0
  Later q = From own sends Lost New start.processes q

  abbrev Kept : Queue → Type 0
  Kept r = Comes own sends Lost New start r

  pub since_goes : (q r : Process) → GoesOn Lost q r → (own q.number ≡ false → StandsStill sends q r) → Later q → Later r
  since_goes q r g s (is_new n) = is_new (stable q r n g)
  since_goes q r g s (was_there p a h k) = was_there p a (goes_both Lost p q r h g) (λ o. still_both sends p q r (k o) (s (ap own h.number ∙ o)))

  -- its own may change
  pub since_own : (f : Process → Process) → ((p : Process) → GoesOn Lost p (f p)) → (q : Process) → own q.number ≡ true → Later q → Later (f q)
  since_own f g q o h = since_goes q (f q) (g q) (λ n. absurd (never (sym n ∙ o))) h
    where
      never : false ≡ true → ⊥
      never e = cc

  since_cleared : (d : Dbref) → Lost d → (q : Process) → q.trigger ≡ d → Later q → Later (without_trigger q)
  since_cleared d l q e h =
      since_goes q (without_trigger q)
      (record { number = refl; origin = record { player = refl; program = refl; command = refl; trigger = inr (refl, subst Lost (sym e) l) }; tied = inl refl })
      (λ o. still_cleared sends q) h

  pub since_told : sends ≡ true → (moment : ℕ) (event : List ℕ × Datum) (q : Process) → Later q → Later (told_event moment event q)
  since_told s moment event q h =
      since_goes q (told_event moment event q)
      (record { number = refl; origin = record { player = refl; program = refl; command = refl; trigger = inl refl }; tied = inl refl })
      (λ o. still_told sends s moment event q) h

  -- What follows from a change of objects.

  holds_followed : (m : Mark) (d : Dbref) → Lost d → (w : World) → Kept w.queue → Kept (mark_followed m d w).queue
  unfolding ended_running trigger_cleared
  holds_followed Lines d l w h = record { processes = each_filter Later (λ p. not (runs_in d p)) w.queue.processes h.processes; last = h.last }
  holds_followed Gone d l w h = record { processes = each_cleared Later d (since_cleared d l) _ (each_filter Later (λ p. not (runs_in d p)) w.queue.processes h.processes); last = h.last }

  holds_marked : (o : Option Mark) (d : Dbref) → ((m : Mark) → o ≡ Some m → Lost d) → (w : World) → Kept w.queue → Kept (option_map_or (λ m. mark_followed m d w) o w).queue
  holds_marked None d l w h = h
  holds_marked (Some m) d l w h = holds_followed m d (l m refl) w h

  -- what a mark at a number tells
  abbrev Told : ℕ → List Entry → Type 0
  Told n es = (k : ℕ) (m : Mark) → mark_in es k ≡ Some m → Lost (dbref_of (n + k))

  told_first : (e : Entry) (es : List Entry) (n : ℕ) → Told n (e ∷ es) → (m : Mark) → e.mark ≡ Some m → Lost (dbref_of n)
  unfolding mark_in
  told_first e es n h m f = subst (λ i. Lost (dbref_of i)) (past n) (h 0 m f)
    where
      past : (n : ℕ) → n + 0 ≡ n
      past n = omega arith

  told_rest : (e : Entry) (es : List Entry) (n : ℕ) → Told n (e ∷ es) → Told (suc n) es
  unfolding mark_in
  told_rest e es n h k m f = subst (λ i. Lost (dbref_of i)) (past n k) (h (suc k) m f)
    where
      past : (n k : ℕ) → n + suc k ≡ suc n + k
      past n k = omega arith

  holds_swept : (n : ℕ) (es : List Entry) (w : World) → Told n es → Kept w.queue → Kept (swept n es w).queue
  unfolding swept
  holds_swept n [] w t h = h
  holds_swept n (e ∷ es) w t h = holds_swept (suc n) es _ (told_rest e es n t) (holds_marked e.mark (dbref_of n) (told_first e es n t) w h)

  pub holds_settled : (w : World) → ((k : ℕ) (m : Mark) → mark_in w.live.objects k ≡ Some m → Lost (dbref_of k)) → Kept w.queue → Kept (settled w).queue
  unfolding settled
  holds_settled w t h = holds_swept 0 w.live.objects w (λ k m e. subst (λ i. Lost (dbref_of i)) (first k) (t k m e)) h
    where
      first : (k : ℕ) → k ≡ 0 + k
      first k = omega arith

-- new in one way or another
pub comes_more : (own : ℤ → Bool) (sends : Bool) (Lost : Dbref → Type 0) (New Also : Process → Type 0) → ((q : Process) → New q → Also q) → (q r : Queue) → Comes own sends Lost New q r → Comes own sends Lost Also q r
comes_more own sends Lost New Also k q r h = record { processes = each_more (From own sends Lost New q.processes) (From own sends Lost Also q.processes) one r.processes h.processes; last = h.last }
  where
    one : (p : Process) → From own sends Lost New q.processes p → From own sends Lost Also q.processes p
    one p (was_there o a g s) = was_there o a g s
    one p (is_new n) = is_new (k p n)
