-- The units of a slice, many at once.
use Rattle.std.proofs.Common.{◌≡◌, ℕ, zero, suc, ◌-◌, ◌<◌, ◌≤◌, min, List, Bool, true, false, Option, Some, None, refl, sym, ap, ◌∙◌, subst, arith, inl, inr}
use Rattle.std.specs.Prelude.{ℤ}
use Rattle.std.specs.Option.{option_map, option_and_then}
use Rattle.std.proofs.Math.Nat.{min-le_left}
use Rattle.muck_model.specs.declared.dbref.Dbref.{Dbref}
use Rattle.muck_model.specs.declared.tune.Tune.{Tune}
use Rattle.muf_model.specs.declared.fault.MufFault.{MufFault}
use Rattle.muf_model.specs.declared.prims.Primitive.{Primitive as Name}
use Rattle.muf_model.specs.Source.{Source}
use Rattle.muf_model.specs.Unit.{Outcome, goes, ended, faulted, asks, stuck, unit, units, and_then, fault_met}
use Rattle.muf_model.specs.Chains.{count, taken, programs_of, Keeps}
use Rattle.muf_model.proofs.Chains.{taken_most, taken_some, units_keep}
use Rattle.muf_running.specs.declared.stint.Ran.{Ran}
use Rattle.muf_running.specs.declared.stint.Ran.TheVariants.{Going, Asking, Ended, Faulted}
use Rattle.muf_running.specs.inner.Stints.{RanAlike, Raised}
use Rattle.muck_queue.specs.declared.process.Process.{Process}
use Rattle.muck_queue.specs.Queues.{Queue, process, units_counted, released}
use Rattle.muck_queue.proofs.Standing.{none_standing}
use Rattle.muck_queue.proofs.Changed.{without_changed}
use Rattle.spec_events.specs.declared.starting.Agent.{Agent}
use Rattle.spec_events.specs.World.{World, on_live, on_queue}
use Rattle.spec_events.specs.Following.{settled}
use Rattle.spec_live.specs.Lives.{tell_player}
use Rattle.spec_live.specs.Objects.{Entry}
use Rattle.spec_rights.specs.declared.act.Actor.{Actor}
use Rattle.spec_events.specs.Slices.{SharedEffect, acting, deed, program_error, process_stands_at, ended_one, broken, out, unit_went, after_deed, Went, on, rest, over, agent_of, seat_of, seat, is_through, limit_fault, slice_most, units_run, last_world, process_awake, sliced}
use Rattle.spec_events.specs.Steps.{happened}
use Rattle.muck_model.specs.declared.event.Event.TheVariants.{Slice}
use Rattle.spec_events.specs.inner.Stints.{many_counted, unbroken, unspent, allowed}
use Rattle.spec_events.proofs.Taken.{same_actor}
use Rattle.spec_events.proofs.Units.{finish, after_turn, finish_none, finish_zero, finish_through, finish_limit, stands_same, stands_moved, broken_moved, counted_moved, resumed, resumed_moved, run_law}
use Rattle.muck_turns.specs.declared.state.deeds.Done.TheVariants.{Does as DoneDoes, Rests as DoneRests, Fails as DoneFails}
use Rattle.muck_turns.specs.declared.state.limits.Allowance.{Allowance}
use Rattle.muck_turns.specs.declared.state.limits.Allowance.TheVariants.{Through, Spent, Units}
use Rattle.muck_turns.specs.inner.Deeds.{DoneAs}
use Rattle.muck_turns.specs.inner.Limits.{LeadsTo, Allows, ran, ran_units, Runs, Stops}

-- How many units a run takes.

-- where a shared primitive is asked for, a unit is left for it
counted_before : (m : ℕ) (o : Outcome) (p : Name) (t : Source) → ((u : Source) → units m u ≡ asks p t → taken m u < m) → and_then o (units m) ≡ asks p t → count o (taken m) < suc m
counted_before m (goes zero u) p t h e = (let l = h u e in omega arith)
counted_before m (goes (suc k) u) p t h e = absurd cc
counted_before m ended p t h e = absurd cc
counted_before m stuck p t h e = absurd cc
counted_before m (faulted f) p t h e = absurd cc
counted_before m (asks q u) p t h e = omega arith

asked_before : (n : ℕ) (s : Source) (p : Name) (t : Source) → units n s ≡ asks p t → taken n s < n
asked_before zero s p t e = absurd cc
asked_before (suc n) s p t e = counted_before n (unit s) p t (λ u. asked_before n u p t) e

fewer_by : (n : ℕ) (s t : Source) (p : Name) (o : Outcome) → RanAlike (Asking p t) o → units n s ≡ o → taken n s < n
fewer_by n s t p (asks q u) h e = asked_before n s q u e
fewer_by n s t p _ h e = absurd h

pub fewer_so : (n u : ℕ) (s t : Source) (p : Name) (ran : Ran) → RanAlike ran (units n s) → ran ≡ Asking p t → u ≡ taken n s → u < n
fewer_so n u s t p ran h r e =
    let fewer : taken n s < n = fewer_by n s t p (units n s) (subst (λ x. RanAlike x (units n s)) r h) refl in omega arith

-- some are taken, and no more than may be
some_by : (n : ℕ) (s : Source) (o : Outcome) → units n s ≡ o → 0 < n → (1 ≤ ran_units (taken n s) o) × (ran_units (taken n s) o ≤ n)
some_by n s (asks p t) e l = let fewer = asked_before n s p t e in (omega arith, omega (arith, fewer))
some_by n s (goes k t) e l = (taken_some n s l (λ p y q. let differ : goes k t ≡ asks p y = sym e ∙ q in cc), taken_most n s)
some_by n s ended e l = (taken_some n s l (λ p y q. let differ : ended ≡ asks p y = sym e ∙ q in cc), taken_most n s)
some_by n s stuck e l = (taken_some n s l (λ p y q. let differ : stuck ≡ asks p y = sym e ∙ q in cc), taken_most n s)
some_by n s (faulted f) e l = (taken_some n s l (λ p y q. let differ : faulted f ≡ asks p y = sym e ∙ q in cc), taken_most n s)

pub some_ran : (n : ℕ) (s : Source) → 0 < n → (1 ≤ ran_units (taken n s) (units n s)) × (ran_units (taken n s) (units n s) ≤ n)
some_ran n s l = some_by n s (units n s) refl l

pub allowed_left : (tune : Tune) (level left : ℕ) (x : Agent) → allowed tune level left x ≤ left
allowed_left tune level left x = min-le_left left (min (unbroken tune left x) (unspent tune level left x))

pub ran_left : (tune : Tune) (level left m k : ℕ) (x : Agent) (s : Source) → 0 < m → m ≤ allowed tune level left x → k ≡ ran_units (taken m s) (units m s) → (0 < k) × (k ≤ left)
ran_left tune level left m k x s some most is =
    let within = allowed_left tune level left x in
    let known = some_ran m s some in
    let one : 1 ≤ ran_units (taken m s) (units m s) = known.0 in
    let all : ran_units (taken m s) (units m s) ≤ m = known.1 in
    (omega (arith, is, one), omega (arith, is, all, most, within))

-- How a run ends.

module _ (pid : ℤ) (x : Agent) (program : ℤ) where
  -- how a run that ended so left the world, where n units were counted
  abbrev left_so : ℕ → Outcome → World → Went
  left_so n o w = ran pid x n program o w

  going_by : (n : ℕ) (t : Source) (w : World) (o : Outcome) → RanAlike (Going t) o → LeadsTo true (process_stands_at pid t (many_counted n pid w)) (left_so n o w) × (ran_units n o ≡ n)
  going_by n t w (goes k u) h = (record { goes = refl; world = ap (λ y. process_stands_at pid y (many_counted n pid w)) (sym h) }, refl)
  going_by n t w _ h = absurd h

  asking_by : (n : ℕ) (p : Name) (t : Source) (w v : World) (b : Bool) (o : Outcome) → RanAlike (Asking p t) o → LeadsTo b v (after_deed pid x.player t (deed pid x p t (many_counted (suc n) pid w))) → LeadsTo b v (left_so n o w) × (ran_units n o ≡ suc n)
  asking_by n p t w v b (asks q u) h k = (
    subst (λ y. LeadsTo b v (after_deed pid x.player y (deed pid x q y (many_counted (suc n) pid w)))) h.1
        (subst (λ y. LeadsTo b v (after_deed pid x.player t (deed pid x y t (many_counted (suc n) pid w)))) h.0 k),
    refl,
  )
  asking_by n p t w v b _ h k = absurd h

  ended_by : (n : ℕ) (w : World) (o : Outcome) → RanAlike Ended o → LeadsTo false (ended_one pid w) (left_so n o w)
  ended_by n w ended h = record { goes = refl; world = ap (λ (q : Queue). record w { queue = q }) (without_changed pid (units_counted n) (λ p. refl) w.queue) }
  ended_by n w _ h = absurd h

  faulted_by : (n : ℕ) (f : MufFault) (w : World) (o : Outcome) → RanAlike (Faulted f) o → LeadsTo false (broken pid x.player program f w) (left_so n o w)
  faulted_by n f w (faulted g) h = record {
    goes = refl;
    world = ap (λ v. on_live (tell_player x.player (program_error program g)) v) (ap (λ (q : Queue). record w { queue = q }) (without_changed pid (units_counted n) (λ p. refl) w.queue))
        ∙ ap (λ y. broken pid x.player program y w) (sym h);
  }
  faulted_by n f w _ h = absurd h

module _ (pid : ℤ) (x : Agent) (m u : ℕ) (s : Source) (w v : World) (ran : Ran) (alike : RanAlike ran (units m s)) (units_are : u ≡ taken m s) where
  alike_as : (r : Ran) → ran ≡ r → RanAlike r (units m s)
  alike_as r e = subst (λ y. RanAlike y (units m s)) e alike

  pub going_so : (t : Source) (k : ℕ) → ran ≡ Going t → v ≡ process_stands_at pid t (many_counted u pid w) → k ≡ u → Runs pid x m s w v (Some k)
  going_so t k e is c =
      let known = going_by pid x s.program.number (taken m s) t w (units m s) (alike_as (Going t) e) in
      (c ∙ units_are ∙ sym known.1, subst (λ y. LeadsTo true y (left_so pid x s.program.number (taken m s) (units m s) w)) (ap (λ n. process_stands_at pid t (many_counted n pid w)) (sym units_are) ∙ sym is) known.0)

  asking_known : (p : Name) (t : Source) (b : Bool) (n : ℕ) (z : World) → ran ≡ Asking p t → n ≡ suc u → z ≡ many_counted n pid w → LeadsTo b v (after_deed pid x.player t (deed pid x p t z)) →
      LeadsTo b v (left_so pid x s.program.number (taken m s) (units m s) w) × (ran_units (taken m s) (units m s) ≡ suc (taken m s))
  asking_known p t b n z e c is h =
      asking_by pid x s.program.number (taken m s) p t w v b (units m s) (alike_as (Asking p t) e)
      (subst (λ y. LeadsTo b v (after_deed pid x.player t (deed pid x p t y))) (is ∙ ap (λ k. many_counted k pid w) (c ∙ ap suc units_are)) h)

  pub asking_so : (p : Name) (t : Source) (b : Bool) (n k : ℕ) (z : World) → ran ≡ Asking p t → n ≡ suc u → z ≡ many_counted n pid w → b ≡ true → LeadsTo b v (after_deed pid x.player t (deed pid x p t z)) → k ≡ suc u → Runs pid x m s w v (Some k)
  asking_so p t b n k z e c is on_it h d =
      let known = asking_known p t true n z e c is (subst (λ y. LeadsTo y v (after_deed pid x.player t (deed pid x p t z))) on_it h) in
      (d ∙ ap suc units_are ∙ sym known.1, known.0)

  pub asked_so : (p : Name) (t : Source) (b : Bool) (n : ℕ) (z : World) → ran ≡ Asking p t → n ≡ suc u → z ≡ many_counted n pid w → b ≡ false → LeadsTo b v (after_deed pid x.player t (deed pid x p t z)) → Runs pid x m s w v None
  asked_so p t b n z e c is off_it h = (asking_known p t false n z e c is (subst (λ y. LeadsTo y v (after_deed pid x.player t (deed pid x p t z))) off_it h)).0

  asked_programs : (p : Name) (t : Source) (o : Outcome) → RanAlike (Asking p t) o → Keeps (programs_of s) o → programs_of t ≡ programs_of s
  asked_programs p t (asks q u) h k = ap programs_of h.1 ∙ k.0
  asked_programs p t _ h k = absurd h

  -- who acts as they begin acts at the primitive that is asked for
  pub acts_so : (p : Name) (t : Source) (a : Actor) (es : List Entry) → ran ≡ Asking p t → a ≡ acting x s es → a ≡ acting x t es
  acts_so p t a es e is = is ∙ sym (same_actor x s t es (asked_programs p t (units m s) (alike_as (Asking p t) e) (units_keep m s)))

  pub ended_so : ran ≡ Ended → v ≡ ended_one pid w → Runs pid x m s w v None
  ended_so e is = subst (λ y. LeadsTo false y (left_so pid x s.program.number (taken m s) (units m s) w)) (sym is) (ended_by pid x s.program.number (taken m s) w (units m s) (alike_as Ended e))

  pub faulted_so : (f : MufFault) (program : ℤ) → ran ≡ Faulted f → program ≡ s.program.number → v ≡ broken pid x.player program f w → Runs pid x m s w v None
  faulted_so f program e same is =
      subst (λ y. LeadsTo false y (left_so pid x s.program.number (taken m s) (units m s) w)) (ap (λ k. broken pid x.player k f w) (sym same) ∙ sym is)
      (faulted_by pid x s.program.number (taken m s) f w (units m s) (alike_as (Faulted f) e))

-- What a run makes of the slice.

module _ (tune : Tune) (pid : ℤ) where
  after_on : (n : ℕ) (v : World) (t : Went) → LeadsTo true v t → after_turn tune n pid t ≡ finish tune n pid v
  after_on n v (on w) h = ap (finish tune n pid) h.world
  after_on n v (rest w) h = absurd (let e : false ≡ true = h.goes in cc)
  after_on n v (over w) h = absurd (let e : false ≡ true = h.goes in cc)

  after_off : (n : ℕ) (v : World) (t : Went) → LeadsTo false v t → after_turn tune n pid t ≡ v
  after_off n v (on w) h = absurd (let e : true ≡ false = h.goes in cc)
  after_off n v (rest w) h = h.world
  after_off n v (over w) h = h.world

  unlent : (p : Process) (o : Option Source) → option_map {U = Agent × Source} (λ s. (agent_of p, s)) o ≡ None → o ≡ None
  unlent p None e = refl
  unlent p (Some s) e = absurd cc

  unseated : (o : Option Process) → option_and_then seat_of o ≡ None → option_and_then (λ (p : Process). p.running) o ≡ None
  unseated None e = refl
  unseated (Some p) e = unlent p p.running e

  -- it isn't there
  pub none_so : (n : ℕ) (w v : World) → seat pid w ≡ None → v ≡ out pid w → Stops tune pid n w v None
  none_so n w v e is =
      finish_none tune pid n w e ∙ sym (is ∙ ap (λ q. record w { queue = q }) (none_standing pid w.queue (unseated (process pid w.queue) e)))

  -- what it may take, by who acts once its state is out
  pub allows_as : (n : ℕ) (x : Agent) (s : Source) (w u : World) (a : Actor) (b : Allowance) → u ≡ out pid w → a ≡ acting x s u.live.objects → Allows tune a.level n x b → Allows tune (acting x s w.live.objects).level n x b
  allows_as n x s w u a b is same h =
      subst (λ l. Allows tune l n x b) (ap (λ (y : Actor). y.level) (same ∙ ap (λ (y : World). acting x s y.live.objects) is)) h

module _ (tune : Tune) (pid : ℤ) (x : Agent) where
  -- the world that the state is out of is as good
  resumed_ran : (n left : ℕ) (program : ℤ) (o : Outcome) (w : World) → resumed tune pid x n left program o w ≡ after_turn tune (left - ran_units n o) pid (ran pid x n program o (out pid w))
  resumed_ran n left program (asks p t) w = ap (λ v. after_turn tune (left - suc n) pid (after_deed pid x.player t (deed pid x p t v))) (sym (counted_moved pid None (suc n) w))
  resumed_ran n left program (goes k t) w = sym (resumed_moved tune pid None x n left program (goes k t) w)
  resumed_ran n left program ended w = sym (resumed_moved tune pid None x n left program ended w)
  resumed_ran n left program stuck w = sym (resumed_moved tune pid None x n left program stuck w)
  resumed_ran n left program (faulted f) w = sym (resumed_moved tune pid None x n left program (faulted f) w)

  module _ (n : ℕ) (s : Source) (w v : World) (at : seat pid w ≡ Some (x, s)) (a : Allowance) (allows : Allows tune (acting x s w.live.objects).level n x a) where
    allowed_as : (b : Allowance) → a ≡ b → Allows tune (acting x s w.live.objects).level n x b
    allowed_as b e = subst (λ y. Allows tune (acting x s w.live.objects).level n x y) e allows

    through_by : Allows tune (acting x s w.live.objects).level n x Through → finish tune n pid w ≡ w
    through_by (inl e) = ap (λ m. finish tune m pid w) e ∙ finish_zero tune pid w
    through_by (inr e) = finish_through tune pid n x s w at e

    -- the slice is through, and it stands where it stood
    pub through_so : a ≡ Through → v ≡ process_stands_at pid s (out pid w) → Stops tune pid n w v None
    through_so e is = through_by (allowed_as Through e) ∙ sym (is ∙ stands_moved pid None s w ∙ stands_same pid x s w at)

    spent_by : (m : ℕ) (f : MufFault) → m ≡ n → 0 < n → is_through tune n x ≡ false → limit_fault tune (acting x s w.live.objects).level x ≡ Some f → finish tune m pid w ≡ broken pid x.player s.program.number f w
    spent_by zero f e some on_it h = absurd (omega (arith, e, some))
    spent_by (suc m) f e some on_it h = finish_limit tune pid m x s f w at (ap (λ k. is_through tune k x) e ∙ on_it) h

    -- it ends by the fault of the unit that would be one too many
    pub spent_so : (f : MufFault) (program : ℤ) → a ≡ Spent f → program ≡ s.program.number → v ≡ broken pid x.player program f (out pid w) → Stops tune pid n w v None
    spent_so f program e same is =
        let (some, on_it, h) = allowed_as (Spent f) e in
        spent_by n f refl some on_it h ∙ sym (is ∙ ap (λ k. broken pid x.player k f (out pid w)) same ∙ broken_moved pid None x.player s.program.number f w)

    ran_by : (m : ℕ) → a ≡ Units m → finish tune n pid w ≡ after_turn tune (n - ran_units (taken m s) (units m s)) pid (ran pid x (taken m s) s.program.number (units m s) (out pid w))
    ran_by m e =
        let (some, most) = allowed_as (Units m) e in
        run_law tune pid x m n s w at some most ∙ resumed_ran (taken m s) n s.program.number (units m s) w

    pub left_by : (m k : ℕ) → a ≡ Units m → k ≡ ran_units (taken m s) (units m s) → (0 < k) × (k ≤ n)
    left_by m k e is = let (some, most) = allowed_as (Units m) e in ran_left tune (acting x s w.live.objects).level n m k x s some most is

    -- units were taken, and it goes on
    pub goes_so : (m k : ℕ) (u : World) → a ≡ Units m → u ≡ out pid w → Runs pid x m s u v (Some k) → Stops tune pid n w v (Some (n - k))
    goes_so m k u e is h =
        let known = left_by m k e h.0 in
        let some : 0 < k = known.0 in
        let most : k ≤ n = known.1 in (
          omega (arith, some, most),
          ran_by m e ∙ ap (λ y. after_turn tune (n - ran_units (taken m s) (units m s)) pid (ran pid x (taken m s) s.program.number (units m s) y)) (sym is)
              ∙ after_on tune pid (n - ran_units (taken m s) (units m s)) v _ h.1 ∙ ap (λ y. finish tune (n - y) pid v) (sym h.0),
        )

    -- or it doesn't
    pub stops_so : (m : ℕ) (u : World) → a ≡ Units m → u ≡ out pid w → Runs pid x m s u v None → Stops tune pid n w v None
    stops_so m u e is h =
        ran_by m e ∙ ap (λ y. after_turn tune (n - ran_units (taken m s) (units m s)) pid (ran pid x (taken m s) s.program.number (units m s) y)) (sym is)
        ∙ after_off tune pid (n - ran_units (taken m s) (units m s)) v _ h

-- The whole of it: the process wakes, takes its units, and then nobody claims it.
pub slice_so : (pid : ℤ) (tune : Tune) (most : ℕ) (w u v : World) → tune ≡ w.live.board.tune → most ≡ slice_most tune → u ≡ process_awake pid w → v ≡ last_world u (units_run tune most pid u) → on_queue (released pid) v ≡ happened w 0 (Slice pid)
unfolding sliced
slice_so pid tune most w u v tuned count woke is =
    ap (on_queue (released pid))
    (is ∙ ap (λ n. last_world u (units_run tune n pid u)) count ∙ ap (λ t. last_world u (units_run t (slice_most t) pid u)) tuned
    ∙ ap (λ y. last_world y (units_run w.live.board.tune (slice_most w.live.board.tune) pid y)) woke)

-- A shared primitive.

module _ (pid : ℤ) (player : Dbref) where
  -- a fault is caught, or not
  pub caught_so : (program : ℤ) (f : MufFault) (s r : Source) (w v : World) → Raised f s (Some r) → v ≡ process_stands_at pid r w → LeadsTo true v (unit_went pid player program (fault_met f s) w)
  caught_so program f s r w v h is =
      subst (λ o. LeadsTo true v (unit_went pid player program o w)) (sym h.1) (record { goes = refl; world = sym is })

  pub uncaught_so : (program : ℤ) (f : MufFault) (s : Source) (w v : World) → Raised f s None → v ≡ broken pid player program f w → LeadsTo false v (unit_went pid player program (fault_met f s) w)
  uncaught_so program f s w v h is =
      subst (λ o. LeadsTo false v (unit_went pid player program o w)) (sym h) (record { goes = refl; world = sym is })

  -- it was done, and the process goes on or waits; or it was refused
  pub done_so : (d : SharedEffect World) (s t : Source) (u v : World) → DoneAs d s u (DoneDoes t) → v ≡ settled (process_stands_at pid t u) → LeadsTo true v (after_deed pid player s d)
  done_so d s t u v h is = subst (λ y. LeadsTo true v (after_deed pid player s y)) (sym h) (record { goes = refl; world = sym is })

  pub rested_so : (d : SharedEffect World) (s t : Source) (u v : World) → DoneAs d s u (DoneRests t) → v ≡ settled (process_stands_at pid t u) → LeadsTo false v (after_deed pid player s d)
  rested_so d s t u v h is = subst (λ y. LeadsTo false v (after_deed pid player s y)) (sym h) (record { goes = refl; world = sym is })

  pub failed_so : (d : SharedEffect World) (s t : Source) (f : MufFault) (u v : World) (b : Bool) → DoneAs d s u (DoneFails t f) → LeadsTo b v (unit_went pid player t.program.number (fault_met f t) u) → LeadsTo b v (after_deed pid player s d)
  failed_so d s t f u v b h is =
      subst (λ y. LeadsTo b v (after_deed pid player s y)) (sym h.1)
      (subst (λ y. LeadsTo b v (unit_went pid player y.program.number (fault_met f y) u)) h.0 is)
