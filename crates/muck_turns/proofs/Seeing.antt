-- The units of a slice, one by one, and what is seen of them.
use Rattle.std.proofs.Common.{◌≡◌, ℕ, zero, suc, ◌-◌, ◌<◌, ◌≤◌, min, Bool, true, false, ◌&&◌, cond, nat_le, List, [], ◌∷◌, map, Option, Some, None, refl, sym, ap, ◌∙◌, subst, arith, inl, inr}
use Rattle.std.specs.Prelude.{ℤ}
use Rattle.std.specs.Option.{option_map_or}
use Rattle.std.proofs.lemmas.Bool.{cond-true, cond-false, lt-leb}
use Rattle.std.proofs.Math.Nat.{min-le_left, min-le_right}
use Rattle.muck_laws.proofs.Numbers.{through_not}
use Rattle.muck_model.specs.declared.tune.Tune.{Tune}
use Rattle.muf_model.specs.declared.fault.MufFault.{MufFault}
use Rattle.muf_model.specs.declared.fault.MufFault.TheVariants.{PreemptTooLong, TooManyUnits}
use Rattle.muf_model.specs.Source.{Source}
use Rattle.muf_model.specs.Unit.{Outcome, goes, ended, faulted, asks, stuck, unit, units, and_then}
use Rattle.muf_model.specs.Chains.{count, taken}
use Rattle.muf_debug.specs.declared.view.View.{View}
use Rattle.muf_debug.specs.Views.{view_at}
use Rattle.muf_debug.specs.Watching.{SeesAll}
use Rattle.muck_queue.specs.Queues.{is_preempt}
use Rattle.spec_events.specs.declared.starting.Agent.{Agent}
use Rattle.spec_events.specs.World.{World}
use Rattle.spec_events.specs.Slices.{acting, after_deed, deed, unit_went, out, one_counted, Went, on, rest, over, unit_done, section_most, limit_fault, are_spent, units_most_at, unit_taken, Taken, unit_of, seat, then_more, slice_most, is_through, next_unit, units_run, process_awake}
use Rattle.spec_events.specs.inner.Stints.{many_counted, unbroken, unspent, allowed}
use Rattle.spec_events.proofs.Units.{turn_limit, turn_within, counted_moved, went_moved}
use Rattle.spec_views.specs.Views.{view_of, views_of}
use Rattle.muck_turns.specs.declared.state.limits.Allowance.TheVariants.{Through, Spent, Units}
use Rattle.muck_turns.specs.inner.Limits.{LeadsTo, Allows, ran, ran_units, Runs}
use Rattle.muck_turns.specs.inner.Seeing.{views, SeesNext}

-- Where one may be taken, the slice isn't through, and it isn't one too many.

limit_not : (b : Bool) (all most section : ℕ) (spent : Option ℕ) (before left : ℕ) → 1 ≤ cond b (most - section) (left - suc all) → 1 ≤ option_map_or (λ n. n - before) spent left →
    cond (b && nat_le most section) (Some PreemptTooLong) (cond (are_spent spent before) (Some TooManyUnits) None) ≡ None
limit_not true all most section None before left h k = cond-false _ _ _ (lt-leb most section (omega (arith, h)))
limit_not true all most section (Some n) before left h k = cond-false _ _ _ (lt-leb most section (omega (arith, h))) ∙ cond-false _ _ _ (lt-leb n before (omega (arith, k)))
limit_not false all most section None before left h k = refl
limit_not false all most section (Some n) before left h k = cond-false _ _ _ (lt-leb n before (omega (arith, k)))

section_allows : (tune : Tune) (level left : ℕ) (x : Agent) → 0 < allowed tune level left x → 1 ≤ unbroken tune left x
section_allows tune level left x h =
    let b = min-le_right left (min (unbroken tune left x) (unspent tune level left x)) in
    let c = min-le_left (unbroken tune left x) (unspent tune level left x) in
    omega (arith, b, c, h)

level_allows : (tune : Tune) (level left : ℕ) (x : Agent) → 0 < allowed tune level left x → 1 ≤ unspent tune level left x
level_allows tune level left x h =
    let b = min-le_right left (min (unbroken tune left x) (unspent tune level left x)) in
    let d = min-le_right (unbroken tune left x) (unspent tune level left x) in
    omega (arith, b, d, h)

some_left : (tune : Tune) (level left : ℕ) (x : Agent) → 0 < allowed tune level left x → 0 < left
some_left tune level left x h = let a = min-le_left left (min (unbroken tune left x) (unspent tune level left x)) in omega (arith, a, h)

on_by : (tune : Tune) (level left : ℕ) (x : Agent) → 0 < allowed tune level left x → is_through tune left x ≡ false
on_by tune level left x h = through_not (is_preempt x.mode) tune.preempt_units (section_most tune) x.section left (section_allows tune level left x h)

within_by : (tune : Tune) (level left : ℕ) (x : Agent) → 0 < allowed tune level left x → limit_fault tune level x ≡ None
within_by tune level left x h =
    limit_not (is_preempt x.mode) tune.preempt_units (section_most tune) x.section (units_most_at tune level) x.units left (section_allows tune level left x h) (level_allows tune level left x h)

-- The next unit of a slice.

module _ (tune : Tune) (pid : ℤ) where
  -- a process that is not there takes none
  pub none_there : (n : ℕ) (w : World) → seat pid w ≡ None → units_run tune n pid w ≡ []
  unfolding units_run
  none_there zero w e = refl
  none_there (suc n) w e = ap (λ (o : Option (Agent × Source)). option_map_or (next_unit tune (suc n) pid w (units_run tune n pid)) o []) e

  none_through : (n : ℕ) (x : Agent) (s : Source) (w : World) → seat pid w ≡ Some (x, s) → is_through tune n x ≡ true → units_run tune n pid w ≡ []
  unfolding units_run
  none_through zero x s w e h = refl
  none_through (suc n) x s w e h =
      ap (λ (o : Option (Agent × Source)). option_map_or (next_unit tune (suc n) pid w (units_run tune n pid)) o []) e ∙ cond-true _ _ _ h

  none_left : (n : ℕ) (w : World) → n ≡ 0 → units_run tune n pid w ≡ []
  unfolding units_run
  none_left zero w e = refl
  none_left (suc n) w e = absurd (omega (arith, e))

  one_next : (n : ℕ) (x : Agent) (s : Source) (w : World) → seat pid w ≡ Some (x, s) → is_through tune (suc n) x ≡ false →
      units_run tune (suc n) pid w ≡ unit_of x s w (unit_taken tune pid x s w) ∷ then_more (units_run tune n pid) (unit_taken tune pid x s w)
  unfolding units_run
  one_next n x s w e h =
      ap (λ (o : Option (Agent × Source)). option_map_or (next_unit tune (suc n) pid w (units_run tune n pid)) o []) e ∙ cond-false _ _ _ h

-- A unit of a process whose state is out of the world is the unit.

module _ (pid : ℤ) (x : Agent) (program : ℤ) where
  went_out : (o : Outcome) (w : World) → unit_went pid x.player program o (one_counted pid w) ≡ unit_went pid x.player program o (many_counted 1 pid (out pid w))
  went_out o w = sym (ap (unit_went pid x.player program o) (counted_moved pid None 1 w) ∙ went_moved pid None x.player program o (many_counted 1 pid w))

  one_turn : (o : Outcome) (w : World) → unit_done pid x program o (one_counted pid w) ≡ ran pid x (count o (taken 0)) program (and_then o (units 0)) (out pid w)
  one_turn (goes zero t) w = went_out (goes 0 t) w
  one_turn (goes (suc k) t) w = went_out (goes (suc k) t) w
  one_turn ended w = went_out ended w
  one_turn stuck w = went_out stuck w
  one_turn (faulted f) w = went_out (faulted f) w
  one_turn (asks p t) w = ap (λ v. after_deed pid x.player t (deed pid x p t v)) (sym (counted_moved pid None 1 w))

one_taken : (o : Outcome) → ran_units (count o (taken 0)) (and_then o (units 0)) ≡ 1
one_taken (goes zero t) = refl
one_taken (goes (suc k) t) = refl
one_taken ended = refl
one_taken stuck = refl
one_taken (faulted f) = refl
one_taken (asks p t) = refl

more_on : (more : World → List Taken) (v : World) (t : Went) → LeadsTo true v t → then_more more t ≡ more v
more_on more v (on w) h = ap more h.world
more_on more v (rest w) h = absurd (let e : false ≡ true = h.goes in cc)
more_on more v (over w) h = absurd (let e : false ≡ true = h.goes in cc)

more_off : (more : World → List Taken) (v : World) (t : Went) → LeadsTo false v t → then_more more t ≡ []
more_off more v (on w) h = absurd (let e : true ≡ false = h.goes in cc)
more_off more v (rest w) h = refl
more_off more v (over w) h = refl

-- What a watch is told.

module _ {S : Type 0} (tells : S → View → S → Type 0) (tune : Tune) (pid : ℤ) (n : ℕ) (w : World) (a : S) where
  seen_none : (b : S) → units_run tune n pid w ≡ [] → b ≡ a → SeesAll tells (views tune n pid w) a b
  seen_none b e same = subst (λ (ts : List Taken). SeesAll tells (map (view_of pid) ts) a b) (sym e) same

  -- of nobody
  pub nobody_seen : (b : S) → seat pid w ≡ None → b ≡ a → SeesAll tells (views tune n pid w) a b
  nobody_seen b e same = seen_none b (none_there tune pid n w e) same

  module _ (x : Agent) (s : Source) (at : seat pid w ≡ Some (x, s)) where
    -- of a process whose slice is through
    pub through_seen : (b : S) → Allows tune (acting x s w.live.objects).level n x Through → b ≡ a → SeesAll tells (views tune n pid w) a b
    through_seen b (inl e) same = seen_none b (none_left tune pid n w e) same
    through_seen b (inr e) same = seen_none b (none_through tune pid n x s w at e) same

    units_are : (m : ℕ) → n ≡ suc m → is_through tune n x ≡ false → units_run tune n pid w ≡ unit_of x s w (unit_taken tune pid x s w) ∷ then_more (units_run tune m pid) (unit_taken tune pid x s w)
    units_are m e on_it =
        ap (λ k. units_run tune k pid w) e ∙ one_next tune pid m x s w at (subst (λ k. is_through tune k x ≡ false) e on_it)

    -- of the first unit, and of those behind it
    told_first : (m : ℕ) (ts : List Taken) (b c : S) → n ≡ suc m → is_through tune n x ≡ false → then_more (units_run tune m pid) (unit_taken tune pid x s w) ≡ ts → tells a (view_at pid s) b → SeesAll tells (map (view_of pid) ts) b c → SeesAll tells (views tune n pid w) a c
    told_first m ts b c e on_it behind one others =
        subst (λ (us : List Taken). SeesAll tells (map (view_of pid) us) a c) (sym (units_are m e on_it ∙ ap (λ us. unit_of x s w (unit_taken tune pid x s w) ∷ us) behind)) (b, one, others)

    -- of a unit that is one too many
    spent_first : (k : ℕ) (f : MufFault) (b : S) → n ≡ k → 0 < k → is_through tune n x ≡ false → limit_fault tune (acting x s w.live.objects).level x ≡ Some f → tells a (view_at pid s) b → SeesAll tells (views tune n pid w) a b
    spent_first zero f b e some on_it h one = absurd (omega (arith, some))
    spent_first (suc m) f b e some on_it h one = told_first m [] b b e on_it (ap (then_more (units_run tune m pid)) (turn_limit tune pid x s f w h)) one refl

    pub spent_seen : (f : MufFault) (b : S) → Allows tune (acting x s w.live.objects).level n x (Spent f) → tells a (view_at pid s) b → SeesAll tells (views tune n pid w) a b
    spent_seen f b h one = spent_first n f b refl h.0 h.1 h.2 one

    turned : 0 < allowed tune (acting x s w.live.objects).level n x → unit_taken tune pid x s w ≡ ran pid x (taken 1 s) s.program.number (units 1 s) (out pid w)
    turned some = turn_within tune pid x s w (within_by tune (acting x s w.live.objects).level n x some) ∙ one_turn pid x s.program.number (unit s) w

    -- of a unit behind which it goes on
    goes_first : (k : ℕ) (v : World) (b c : S) → n ≡ k → 0 < k → 0 < allowed tune (acting x s w.live.objects).level n x → LeadsTo true v (ran pid x (taken 1 s) s.program.number (units 1 s) (out pid w)) → tells a (view_at pid s) b
        → SeesAll tells (views tune (n - 1) pid v) b c → SeesAll tells (views tune n pid w) a c
    goes_first zero v b c e left some leads one others = absurd (omega (arith, left))
    goes_first (suc m) v b c e left some leads one others =
        let less : n - 1 ≡ m = omega (arith, e) in
        told_first m (units_run tune m pid v) b c e (on_by tune (acting x s w.live.objects).level n x some) (more_on (units_run tune m pid) v (unit_taken tune pid x s w) (subst (LeadsTo true v) (sym (turned some)) leads)) one
        (subst (λ j. SeesAll tells (views tune j pid v) b c) less others)

    pub goes_seen : (m k : ℕ) (u v : World) (b : S) → Allows tune (acting x s w.live.objects).level n x (Units m) → u ≡ out pid w → Runs pid x 1 s u v (Some k) → tells a (view_at pid s) b → SeesNext tells tune pid n w v a b (Some (n - k))
    goes_seen m k u v b h is runs one c others =
        let some : 0 < allowed tune (acting x s w.live.objects).level n x = omega (arith, h.0, h.1) in
        let one_it : k ≡ 1 = runs.0 ∙ one_taken (unit s) in
        goes_first n v b c refl (some_left tune (acting x s w.live.objects).level n x some) some (subst (λ y. LeadsTo true v (ran pid x (taken 1 s) s.program.number (units 1 s) y)) is runs.1) one
        (subst (λ j. SeesAll tells (views tune (n - j) pid v) b c) one_it others)

    -- and of one behind which it doesn't
    stops_first : (k : ℕ) (v : World) (b : S) → n ≡ k → 0 < k → 0 < allowed tune (acting x s w.live.objects).level n x → LeadsTo false v (ran pid x (taken 1 s) s.program.number (units 1 s) (out pid w)) → tells a (view_at pid s) b → SeesAll tells (views tune n pid w) a b
    stops_first zero v b e left some leads one = absurd (omega (arith, left))
    stops_first (suc m) v b e left some leads one =
        told_first m [] b b e (on_by tune (acting x s w.live.objects).level n x some) (more_off (units_run tune m pid) v (unit_taken tune pid x s w) (subst (LeadsTo false v) (sym (turned some)) leads)) one refl

    pub stops_seen : (m : ℕ) (u v : World) (b : S) → Allows tune (acting x s w.live.objects).level n x (Units m) → u ≡ out pid w → Runs pid x 1 s u v None → tells a (view_at pid s) b → SeesAll tells (views tune n pid w) a b
    stops_seen m u v b h is runs one =
        let some : 0 < allowed tune (acting x s w.live.objects).level n x = omega (arith, h.0, h.1) in
        stops_first n v b refl (some_left tune (acting x s w.live.objects).level n x some) some (subst (λ y. LeadsTo false v (ran pid x (taken 1 s) s.program.number (units 1 s) y)) is runs) one

-- The whole of it.
pub slice_told : {S : Type 0} (tells : S → View → S → Type 0) (pid : ℤ) (tune : Tune) (most : ℕ) (w u : World) (a b : S) → tune ≡ w.live.board.tune → most ≡ slice_most tune → u ≡ process_awake pid w → SeesAll tells (views tune most pid u) a b → SeesAll tells (views_of pid w) a b
slice_told tells pid tune most w u a b tuned count woke all =
    let units_are : units_run tune most pid u ≡ units_run w.live.board.tune (slice_most w.live.board.tune) pid (process_awake pid w) =
    ap (λ n. units_run tune n pid u) count ∙ ap (λ t. units_run t (slice_most t) pid u) tuned ∙ ap (units_run w.live.board.tune (slice_most w.live.board.tune) pid) woke in
    subst (λ (ts : List Taken). SeesAll tells (map (view_of pid) ts) a b) units_are all
