-- What is kept of dumps from turn to turn.
use Rattle.std.proofs.Common.{◌≡◌, ℕ, ◌≤◌, ◌^◌, Bool, true, false, cond, List, [], length, refl, sym, ◌∙◌, ap, subst, append-nil, Option, Some, None, IsSome}
use Rattle.std.proofs.lemmas.Bool.{eq-eqb}
use Rattle.muck_model.specs.declared.event.Event.{Event}
use Rattle.muck_model.specs.declared.event.Event.TheVariants.{Idle, Cut, StopSeen, Died}
use Rattle.muck_log.specs.Store.{LogState}
use Rattle.spec_events.specs.declared.logged.Logged.{Logged}
use Rattle.spec_events.specs.Histories.{History, now, entered}
use Rattle.spec_events.specs.Logged.{is_dump, events_of, NoCounts}
use Rattle.spec_events.specs.Own.{Stage, next_stage, stage_of, died_next}
use Rattle.spec_events.proofs.Owning.{well_formed}
use Rattle.spec_dumps.specs.Survival.{IsSafe}
use Rattle.spec_dumps.specs.inner.Holding.{Quietly, Keeps, Rests as HasRests}
use Rattle.spec_dumps.proofs.Quiet.{quiet_one, safe_quiet, keeps_quiet}
use Rattle.spec_dumps.proofs.Idle.{idle_quiet}
use Rattle.muck_work.specs.declared.Beginning.{Beginning}
use Rattle.muck_dumping.specs.declared.parts.Pending.{Pending}
use Rattle.muck_dumping.specs.declared.store.Store.{Store}
use Rattle.muck_work.specs.inner.Seats.{Chair, Rests, Left, Waited}
use Rattle.muck_work.proofs.Seating.{left_rests}
use Rattle.muck_dumping.specs.inner.Dumps.{by, ending_event}
use Rattle.muck_dumping.specs.inner.Between.{IsReady, Knows, IsPending}
use Rattle.muck_dumping.proofs.Beginning.{ready_quiet}
use Rattle.muck_dumping.proofs.Knowing.{knows_quiet}
use Rattle.muck_dumping.proofs.Mounting.{ready_mounted}
use Rattle.muck_dumper.specs.declared.dumping.Why.{Why}
use Rattle.muck_dumper.specs.declared.dumping.Why.TheVariants.{Fine, NoMemory, Spent}
use Rattle.muck_dumper.specs.declared.holds.Fault.{Fault}
use Rattle.muck_dumper.specs.declared.holds.Fault.TheVariants.{NoMemory as Wanted, Spent as AllHad}
use Rattle.muck_dumper.specs.inner.Dumping.{history_from, history_seen, IsKnown, DumperReady, DumperDone}
use Rattle.muck_dumper.specs.declared.deeds.Did.TheVariants.{Began}
use Rattle.muck_dumper.specs.inner.Steps.{KeptBy, Step, Moves, Stops, Settles, Watches}
use Rattle.muck_dumper.proofs.Knowing.{rests_known}
use Rattle.muck_dumper.proofs.Turns.{moves_step, moves_on, moves_same}

-- An answer is one of these.

wanted_not_fine : ◌≡◌ {A = Why} NoMemory Fine → ⊥
wanted_not_fine e = cc

wanted_not_spent : ◌≡◌ {A = Why} NoMemory Spent → ⊥
wanted_not_spent e = cc

spent_not_fine : ◌≡◌ {A = Why} Spent Fine → ⊥
spent_not_fine e = cc

spent_not_wanted : ◌≡◌ {A = Why} Spent NoMemory → ⊥
spent_not_wanted e = cc

fine_not_wanted : ◌≡◌ {A = Why} Fine NoMemory → ⊥
fine_not_wanted e = cc

fine_not_spent : ◌≡◌ {A = Why} Fine Spent → ⊥
fine_not_spent e = cc

-- A seat that only waited knows what it knew.

pub waited_known : (me me' : Chair) → Rests 9 me → Waited me.0 me'.0 → IsKnown me.0.seen me'.0
waited_known me me' r waited = record { front = waited.0; mine = waited.1 ∙ r.own; orderly = r.orderly }

pub waited_same : (me me' : Chair) → Waited me.0 me'.0 → history_from me'.0.root me.0.seen ≡ history_seen me.0
waited_same me me' waited = ap (λ (root : List Beginning). history_from root me.0.seen) waited.5

-- an entry that is none of a dump, without a note
pub bare_quiet : (event : Event) (h k : History) → is_dump event ≡ false → k ≡ entered h (by 9 event) → Quietly h k
bare_quiet event h k other is = quiet_one h k (by 9 event) other is

pub knows_bare : (store : Store) (event : Event) (me me' : Chair) → is_dump event ≡ false → (t : Step event me me') → history_seen me'.0 ≡ entered t.world (by 9 event) → Knows store (history_seen me.0) → Knows store (history_seen me'.0)
knows_bare store event me me' other t is x = knows_quiet store t.world (history_seen me'.0) (bare_quiet event t.world (history_seen me'.0) other is) (knows_quiet store (history_seen me.0) t.world t.quiet x)

module _ {D : Type 0} (tells : Bool) (seen : D → List ℕ) (moment : D → ℕ) (images : D → ℕ → List ℕ → Type 0) (faults : D → ℕ) where
  -- it begins
  pub watches_begun : (log : Option LogState) (f s : D) (me : Chair) → DumperReady me → Watches tells seen moment images faults log f s Stage.unbound (λ mounted. IsReady seen moment images faults log f s mounted (history_seen me.0)) me me
  watches_begun log f s me r = record {
    rests = r.rests;
    moves = moves_same Stage.unbound me me (([], sym (append-nil me.0.seen)), refl, refl, refl, refl, refl);
    idle = r.idle;
    ready = λ mounted on v. v;
  }

  module _ (store : Store) (f s : D) (from : Stage) (P : ℕ → Type 0) (me0 me me' : Chair) (w : Watches tells seen moment images faults store.log f s from P me0 me) where
    -- it idled
    pub watches_idled : (t : Step Idle me me') → history_seen me'.0 ≡ entered t.world (by 9 Idle) → Watches tells seen moment images faults store.log f s from P me0 me'
    watches_idled t is =
        let q = bare_quiet Idle t.world (history_seen me'.0) refl is in
        record {
          rests = t.rests;
          moves = moves_on from Stage.unbound Stage.unbound me0 me me' w.moves (moves_step Stage.unbound Stage.unbound Idle me me' t refl);
          idle = idle_quiet t.world (history_seen me'.0) q (idle_quiet (history_seen me.0) t.world t.quiet w.idle);
          ready = λ mounted on p. ready_quiet seen moment images faults store.log f s mounted t.world (history_seen me'.0) q
              (ready_quiet seen moment images faults store.log f s mounted (history_seen me.0) t.world t.quiet (w.ready mounted on p));
        }

    module _ (p : Pending) (t : Step (Cut p.number) me me') (kept : KeptBy tells seen moment images faults store f s (Began p) t.world (history_seen me'.0)) where
      -- a dump was begun
      pub pending_then : (mounted : ℕ) → tells ≡ true → P mounted → IsPending seen moment images faults store.log f s mounted (history_seen me'.0) p
      pending_then mounted on q = kept.2 mounted on (ready_quiet seen moment images faults store.log f s mounted (history_seen me.0) t.world t.quiet (w.ready mounted on q))

      pub moves_begun : Moves from (Stage.dumping p.number) me0 me'
      moves_begun = moves_on from Stage.unbound (Stage.dumping p.number) me0 me me' w.moves (moves_step Stage.unbound (Stage.dumping p.number) (Cut p.number) me me' t refl)

      -- and made, and it is between two dumps again
      pub watches_made : (log' : Option LogState) (f' s' : D) (me'' : Chair) →
          Watches tells seen moment images faults log' f' s' (Stage.dumping p.number) (λ mounted. IsPending seen moment images faults store.log f s mounted (history_seen me'.0) p) me' me'' →
          Watches tells seen moment images faults log' f' s' from P me0 me''
      watches_made log' f' s' me'' made = record {
        rests = made.rests;
        moves = moves_on from (Stage.dumping p.number) Stage.unbound me0 me' me'' moves_begun made.moves;
        idle = made.idle;
        ready = λ mounted on q. made.ready mounted on (pending_then mounted on q);
      }

  -- It is over.

  module _ (store0 : Store) (f0 s0 : D) (me0 : Chair) (begun : DumperReady me0) where
    abbrev Begins : ℕ → Type 0
    Begins mounted = IsReady seen moment images faults store0.log f0 s0 mounted (history_seen me0.0)

    abbrev Done : Why → Store → D → D → Chair → Type 0
    Done why store f s me = DumperDone tells seen moment images faults why store0 store f0 s0 f s me0 me

    none_done : stage_of 9 [] ≡ Some Stage.unbound
    unfolding stage_of
    none_done = refl

    first_stage : stage_of 9 (events_of me0.0.own) ≡ Some Stage.unbound
    first_stage = ap (λ (ls : List Logged). stage_of 9 (events_of ls)) begun.fresh ∙ none_done

    first_counts : NoCounts me0.0.own
    first_counts = subst NoCounts (sym begun.fresh) tt

    module _ (store : Store) (f s : D) (first_later : faults f0 ≤ faults f) (second_later : faults s0 ≤ faults s) where
      -- In the midst of a dump.
      module _ (me me' : Chair) (from : Stage) (P : ℕ → Type 0) (before : Moves Stage.unbound from me0 me) (leads : (mounted : ℕ) → tells ≡ true → Begins mounted → P mounted) where
        pub done_wanted : (fault : Fault) → fault ≡ Wanted → Stops tells moment images faults f s fault from P me me' → Done NoMemory store f s me'
        done_wanted fault is stops =
            let t = subst (λ (x : Fault). Stops tells moment images faults f s x from P me me') is stops in
            let moves = moves_on Stage.unbound from t.to me0 me me' before t.moves in
            record {
              left = t.left;
              lists = moves.lists;
              sight = moves.sight;
              formed = well_formed 9 (events_of me'.0.own) t.to (moves.stage first_stage);
              counts = moves.counts first_counts;
              fine = λ e. absurd (wanted_not_fine e);
              dead = λ e. t.why;
              spent = λ e. absurd (wanted_not_spent e);
              known = t.known;
              knows = t.knows;
              safe = λ mounted on b. t.safe mounted on (leads mounted on b);
              ready = λ e. absurd (wanted_not_fine e);
              stands = λ e. absurd (wanted_not_fine e);
              idle = λ e. absurd (wanted_not_fine e);
              first_later = first_later;
              second_later = second_later;
            }

        pub done_all_had : (fault : Fault) → fault ≡ AllHad → Stops tells moment images faults f s fault from P me me' → Done Spent store f s me'
        done_all_had fault is stops =
            let t = subst (λ (x : Fault). Stops tells moment images faults f s x from P me me') is stops in
            let moves = moves_on Stage.unbound from t.to me0 me me' before t.moves in
            record {
              left = t.left;
              lists = moves.lists;
              sight = moves.sight;
              formed = well_formed 9 (events_of me'.0.own) t.to (moves.stage first_stage);
              counts = moves.counts first_counts;
              fine = λ e. absurd (spent_not_fine e);
              dead = λ e. absurd (spent_not_wanted e);
              spent = λ e. t.why;
              known = t.known;
              knows = t.knows;
              safe = λ mounted on b. t.safe mounted on (leads mounted on b);
              ready = λ e. absurd (spent_not_fine e);
              stands = λ e. absurd (spent_not_fine e);
              idle = λ e. absurd (spent_not_fine e);
              first_later = first_later;
              second_later = second_later;
            }

      module _ (me me' : Chair) (w : Watches tells seen moment images faults store.log f s Stage.unbound Begins me0 me) where
        -- it has seen the stop
        pub done_fine : (t : Step StopSeen me me') → history_seen me'.0 ≡ entered t.world (by 9 StopSeen) → Knows store (history_seen me.0) → Done Fine store f s me'
        done_fine t is goes =
            let moves = moves_on Stage.unbound Stage.unbound Stage.stopped me0 me me' w.moves (moves_step Stage.unbound Stage.stopped StopSeen me me' t refl) in
            let q = bare_quiet StopSeen t.world (history_seen me'.0) refl is in
            let ready : (mounted : ℕ) → tells ≡ true → Begins mounted → IsReady seen moment images faults store.log f s mounted (history_seen me'.0) =
            λ mounted on b. ready_quiet seen moment images faults store.log f s mounted t.world (history_seen me'.0) q (ready_quiet seen moment images faults store.log f s mounted (history_seen me.0) t.world t.quiet (w.ready mounted on b))
            in
            record {
              left = left_rests 9 me' t.rests;
              lists = moves.lists;
              sight = moves.sight;
              formed = well_formed 9 (events_of me'.0.own) Stage.stopped (moves.stage first_stage);
              counts = moves.counts first_counts;
              fine = λ e. t.last;
              dead = λ e. absurd (fine_not_wanted e);
              spent = λ e. absurd (fine_not_spent e);
              known = me'.0.seen;
              knows = rests_known me' t.rests;
              safe = λ mounted on b. (ready mounted on b).keeps.safe;
              ready = λ e mounted on b. ready mounted on b;
              stands = λ e. knows_bare store StopSeen me me' refl t is goes;
              idle = λ e. idle_quiet t.world (history_seen me'.0) q (idle_quiet (history_seen me.0) t.world t.quiet w.idle);
              first_later = first_later;
              second_later = second_later;
            }

        -- memory was wanted, by it or by another
        pub done_dead : (t : Step Died me me') →
            ((mounted : ℕ) → tells ≡ true → Keeps seen moment images faults store.log f s mounted t.world → IsSafe moment images faults f s (history_seen me'.0).start mounted (history_seen me'.0).entries (history_seen me'.0).notes) → Done NoMemory store f s me'
        done_dead t safe =
            let moves = moves_on Stage.unbound Stage.unbound Stage.ended me0 me me' w.moves (moves_step Stage.unbound Stage.ended Died me me' t refl) in
            record {
              left = left_rests 9 me' t.rests;
              lists = moves.lists;
              sight = moves.sight;
              formed = well_formed 9 (events_of me'.0.own) Stage.ended (moves.stage first_stage);
              counts = moves.counts first_counts;
              fine = λ e. absurd (wanted_not_fine e);
              dead = λ e. t.last;
              spent = λ e. absurd (wanted_not_spent e);
              known = me'.0.seen;
              knows = rests_known me' t.rests;
              safe = λ mounted on b. safe mounted on (keeps_quiet seen moment images faults store.log f s mounted (history_seen me.0) t.world t.quiet (w.ready mounted on b).keeps);
              ready = λ e. absurd (wanted_not_fine e);
              stands = λ e. absurd (wanted_not_fine e);
              idle = λ e. absurd (wanted_not_fine e);
              first_later = first_later;
              second_later = second_later;
            }

        -- all turns were had
        pub done_spent : Left 9 me' → Waited me.0 me'.0 → 2 ^ 62 ≤ length me'.0.seen → Done Spent store f s me'
        done_spent left waited many =
            let moves = moves_on Stage.unbound Stage.unbound Stage.unbound me0 me me' w.moves (moves_same Stage.unbound me me' waited) in
            record {
              left = left;
              lists = moves.lists;
              sight = moves.sight;
              formed = well_formed 9 (events_of me'.0.own) Stage.unbound (moves.stage first_stage);
              counts = moves.counts first_counts;
              fine = λ e. absurd (spent_not_fine e);
              dead = λ e. absurd (spent_not_wanted e);
              spent = λ e. many;
              known = me.0.seen;
              knows = waited_known me me' w.rests waited;
              safe = λ mounted on b. safe_as me me' waited mounted (w.ready mounted on b).keeps.safe;
              ready = λ e. absurd (spent_not_fine e);
              stands = λ e. absurd (spent_not_fine e);
              idle = λ e. absurd (spent_not_fine e);
              first_later = first_later;
              second_later = second_later;
            }
          where
            safe_as : (x y : Chair) → Waited x.0 y.0 → (mounted : ℕ) → IsSafe moment images faults f s (history_seen x.0).start mounted (history_seen x.0).entries (history_seen x.0).notes →
                IsSafe moment images faults f s (history_from y.0.root x.0.seen).start mounted (history_from y.0.root x.0.seen).entries (history_from y.0.root x.0.seen).notes
            safe_as x y waits mounted v = subst (λ (h : History). IsSafe moment images faults f s h.start mounted h.entries h.notes) (sym (waited_same x y waits)) v

-- The dump ends.

module _ {D : Type 0} (tells : Bool) (seen : D → List ℕ) (moment : D → ℕ) (images : D → ℕ → List ℕ → Type 0) (faults : D → ℕ) where
  -- all turns were had before it could say so
  pub stops_spent : (f s : D) (from : Stage) (P : ℕ → Type 0) (me me' : Chair) → Rests 9 me → Left 9 me' → Waited me.0 me'.0 → 2 ^ 62 ≤ length me'.0.seen →
      ((mounted : ℕ) → tells ≡ true → P mounted → IsSafe moment images faults f s (history_seen me.0).start mounted (history_seen me.0).entries (history_seen me.0).notes) → Stops tells moment images faults f s AllHad from P me me'
  stops_spent f s from P me me' rests left waited many safe = record {
    left = left;
    to = from;
    moves = moves_same from me me' waited;
    why = many;
    known = me.0.seen;
    knows = waited_known me me' rests waited;
    safe = λ mounted on p. subst (λ (h : History). IsSafe moment images faults f s h.start mounted h.entries h.notes) (sym (waited_same me me' waited)) (safe mounted on p);
  }

  -- memory was wanted
  pub stops_dead : (f s : D) (from : Stage) (P : ℕ → Type 0) (me me' : Chair) → died_next from ≡ Some Stage.ended → Step Died me me' →
      ((mounted : ℕ) → tells ≡ true → P mounted → IsSafe moment images faults f s (history_seen me'.0).start mounted (history_seen me'.0).entries (history_seen me'.0).notes) → Stops tells moment images faults f s Wanted from P me me'
  stops_dead f s from P me me' may t safe = record {
    left = left_rests 9 me' t.rests;
    to = Stage.ended;
    moves = moves_step from Stage.ended Died me me' t may;
    why = t.last;
    known = me'.0.seen;
    knows = rests_known me' t.rests;
    safe = safe;
  }

  -- where it is said in the world
  pub dies_safe : (log : Option LogState) (f s : D) (mounted : ℕ) (me me' : Chair) (t : Step Died me me') → history_seen me'.0 ≡ entered t.world (by 9 Died) → Keeps seen moment images faults log f s mounted (history_seen me.0) →
      IsSafe moment images faults f s (history_seen me'.0).start mounted (history_seen me'.0).entries (history_seen me'.0).notes
  dies_safe log f s mounted me me' t is v =
      safe_quiet moment images faults f s mounted t.world (history_seen me'.0) (bare_quiet Died t.world (history_seen me'.0) refl is) (keeps_quiet seen moment images faults log f s mounted (history_seen me.0) t.world t.quiet v).safe

-- It stopped, from a state that had more, and behind a way.
pub stops_behind : {D : Type 0} (tells : Bool) (moment : D → ℕ) (images : D → ℕ → List ℕ → Type 0) (faults : D → ℕ) (f s : D) (fault : Fault) (a b : Stage) (P Q : ℕ → Type 0) (x y z : Chair) → Moves a b x y → ((mounted : ℕ) → tells ≡ true → P mounted → Q mounted) →
    Stops tells moment images faults f s fault b Q y z → Stops tells moment images faults f s fault a P x z
stops_behind tells moment images faults f s fault a b P Q x y z moves leads t = record {
  left = t.left;
  to = t.to;
  moves = moves_on a b t.to x y z moves t.moves;
  why = t.why;
  known = t.known;
  knows = t.knows;
  safe = λ mounted on p. t.safe mounted on (leads mounted on p);
}

-- the same where it stood there already
pub stops_before : {D : Type 0} (tells : Bool) (moment : D → ℕ) (images : D → ℕ → List ℕ → Type 0) (faults : D → ℕ) (f s : D) (fault : Fault) (from : Stage) (P Q : ℕ → Type 0) (y z : Chair) → ((mounted : ℕ) → tells ≡ true → P mounted → Q mounted) →
    Stops tells moment images faults f s fault from Q y z → Stops tells moment images faults f s fault from P y z
stops_before tells moment images faults f s fault from P Q y z leads t = record {
  left = t.left;
  to = t.to;
  moves = t.moves;
  why = t.why;
  known = t.known;
  knows = t.knows;
  safe = λ mounted on p. t.safe mounted on (leads mounted on p);
}

-- how a dump that runs may end
ends_next : (n : ℕ) (b : Bool) → next_stage 9 (Stage.dumping n) (ending_event n b) ≡ Some Stage.unbound
ends_next n true = ap (λ b. cond {A = Option Stage} b (Some Stage.unbound) None) (eq-eqb n n refl)
ends_next n false = ap (λ b. cond {A = Option Stage} b (Some Stage.unbound) None) (eq-eqb n n refl)

-- a dump has ended
pub settles_ended : {D : Type 0} (tells : Bool) (seen : D → List ℕ) (moment : D → ℕ) (images : D → ℕ → List ℕ → Type 0) (faults : D → ℕ) (log : Option LogState) (f s : D) (n : ℕ) (stored : Bool) (P : ℕ → Type 0) (me me' : Chair) →
    Step (ending_event n stored) me me' → (now (history_seen me'.0)).dumps.running ≡ None → ((mounted : ℕ) → tells ≡ true → P mounted → HasRests seen moment images faults log f s mounted (history_seen me'.0)) →
    Settles tells seen moment images faults log f s (Stage.dumping n) P me me'
settles_ended tells seen moment images faults log f s n stored P me me' t idle kept = record {
  rests = t.rests;
  moves = moves_step (Stage.dumping n) Stage.unbound (ending_event n stored) me me' t (ends_next n stored);
  idle = idle;
  kept = kept;
}

-- Behind its end it is between two dumps again.

module _ {D : Type 0} (tells : Bool) (seen : D → List ℕ) (moment : D → ℕ) (images : D → ℕ → List ℕ → Type 0) (faults : D → ℕ) where
  -- the log is mounted
  pub watches_stored : (log : Option LogState) (f s : D) (from : Stage) (P Q : ℕ → Type 0) (me me' : Chair) → IsSome log → ((mounted : ℕ) → tells ≡ true → P mounted → Q mounted) →
      Settles tells seen moment images faults log f s from Q me me' → Watches tells seen moment images faults log f s from P me me'
  watches_stored log f s from P Q me me' some leads t = record {
    rests = t.rests;
    moves = t.moves;
    idle = t.idle;
    ready = λ mounted on p. ready_mounted seen moment images faults mounted log f s (history_seen me'.0) some (t.kept mounted on (leads mounted on p)).keeps;
  }

  -- or it was tried
  pub watches_mounted : (log log' : Option LogState) (f s f' s' : D) (from : Stage) (P : ℕ → Type 0) (me me' me'' : Chair) → Settles tells seen moment images faults log f s from P me me' → me'' ≡ me' →
      ((mounted : ℕ) (h : History) → tells ≡ true → Keeps seen moment images faults log f s mounted h → IsReady seen moment images faults log' f' s' mounted h) → Watches tells seen moment images faults log' f' s' from P me me''
  watches_mounted log log' f s f' s' from P me me' me'' t same again = subst (λ (x : Chair). Watches tells seen moment images faults log' f' s' from P me x) (sym same) (record {
    rests = t.rests;
    moves = t.moves;
    idle = t.idle;
    ready = λ mounted on p. again mounted (history_seen me'.0) on (t.kept mounted on p).keeps;
  })

  pub watches_before : (log : Option LogState) (f s : D) (from : Stage) (P Q : ℕ → Type 0) (me me' : Chair) → ((mounted : ℕ) → tells ≡ true → P mounted → Q mounted) →
      Watches tells seen moment images faults log f s from Q me me' → Watches tells seen moment images faults log f s from P me me'
  watches_before log f s from P Q me me' leads t = record { rests = t.rests; moves = t.moves; idle = t.idle; ready = λ mounted on p. t.ready mounted on (leads mounted on p) }
