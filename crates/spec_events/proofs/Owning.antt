-- A party's own entries, one more at a time.
use Rattle.std.proofs.Common.{◌≡◌, ℕ, ◌==◌, Bool, true, false, subst, List, [], ◌∷◌, ◌++◌, refl, sym, ap, ◌∙◌, Option, Some, None}
use Rattle.std.specs.Prelude.{is_some, nat_lt, if◌then◌else◌}
use Rattle.std.specs.Option.{option_and_then, option_map_or}
use Rattle.muck_model.specs.declared.event.Event.{Event}
use Rattle.muck_model.specs.declared.event.Event.TheVariants.{StopSeen, Died}
use Rattle.spec_events.specs.Own.{Stage, porter_next, worker_next, dumper_next, next_stage, stage_from, stage_of, IsWellFormed, is_last, IsPartyOver}

stage_append : (party : ℕ) (stage : Option Stage) (a b : List Event) → stage_from party stage (a ++ b) ≡ stage_from party (stage_from party stage a) b
stage_append party stage [] b = refl
stage_append party stage (event ∷ events) b = stage_append party (option_and_then (λ s. next_stage party s event) stage) events b

-- one event more
pub stage_one : (party : ℕ) (events : List Event) (event : Event) → stage_of party (events ++ event ∷ []) ≡ option_and_then (λ s. next_stage party s event) (stage_of party events)
unfolding stage_of
stage_one party events event = stage_append party (Some Stage.unbound) events (event ∷ [])

-- where it may come
pub stage_more : (party : ℕ) (events : List Event) (event : Event) (stage later : Stage) → stage_of party events ≡ Some stage → next_stage party stage event ≡ Some later
    → stage_of party (events ++ event ∷ []) ≡ Some later
stage_more party events event stage later is may = stage_one party events event ∙ ap (option_and_then (λ s. next_stage party s event)) is ∙ may

pub well_formed : (party : ℕ) (events : List Event) (stage : Stage) → stage_of party events ≡ Some stage → IsWellFormed party events
well_formed party events stage is = ap is_some is

-- it is over where that is a last stage
pub over_with : (party : ℕ) (events : List Event) (stage : Stage) → stage_of party events ≡ Some stage → is_last stage ≡ true → IsPartyOver party events
over_with party events stage is last = ap (λ (o : Option Stage). option_map_or is_last o false) is ∙ last

-- and what is over is well formed
pub over_formed : (party : ℕ) (events : List Event) → IsPartyOver party events → IsWellFormed party events
over_formed party events over = from (stage_of party events) over
  where
    from : (o : Option Stage) → option_map_or is_last o false ≡ true → is_some o ≡ true
    from None h = h
    from (Some s) h = refl

abbrev ends_with : Option Stage → Type 0
ends_with o = is_some o ≡ true → option_map_or is_last o false ≡ true

-- whatever a party did before it saw the stop, it is over then
stop_last : (party : ℕ) (stage : Stage) → ends_with (next_stage party stage StopSeen)
stop_last party stage = pick (party == 0) (nat_lt party 9) (party == 9)
  where
    porter : (s : Stage) → ends_with (porter_next s StopSeen)
    porter Stage.unbound h = refl
    porter Stage.timed h = refl
    porter (Stage.claimed pid) h = h
    porter (Stage.dumping k) h = h
    porter Stage.stopped h = h
    porter Stage.finished h = h
    porter Stage.ended h = h

    worker : (s : Stage) → ends_with (worker_next s StopSeen)
    worker Stage.unbound h = refl
    worker Stage.timed h = h
    worker (Stage.claimed pid) h = h
    worker (Stage.dumping k) h = h
    worker Stage.stopped h = h
    worker Stage.finished h = h
    worker Stage.ended h = h

    dumper : (s : Stage) → ends_with (dumper_next s StopSeen)
    dumper Stage.unbound h = refl
    dumper Stage.timed h = h
    dumper (Stage.claimed pid) h = h
    dumper (Stage.dumping k) h = h
    dumper Stage.stopped h = h
    dumper Stage.finished h = h
    dumper Stage.ended h = h

    pick : (a b c : Bool) → ends_with (if a then porter_next stage StopSeen else if b then worker_next stage StopSeen else if c then dumper_next stage StopSeen else None)
    pick true b c = porter stage
    pick false true c = worker stage
    pick false false true = dumper stage
    pick false false false = λ h. h

died_last : (party : ℕ) (stage : Stage) → ends_with (next_stage party stage Died)
died_last party Stage.unbound h = refl
died_last party Stage.timed h = refl
died_last party (Stage.claimed pid) h = refl
died_last party (Stage.dumping k) h = refl
died_last party Stage.stopped h = refl
died_last party Stage.finished h = refl
died_last party Stage.ended h = h

last_one : (party : ℕ) (events : List Event) (event : Event) → ((stage : Stage) → ends_with (next_stage party stage event)) → IsWellFormed party (events ++ event ∷ []) → IsPartyOver party (events ++ event ∷ [])
last_one party events event ends formed =
    subst (λ (o : Option Stage). option_map_or is_last o false ≡ true) (sym (stage_one party events event))
    (from (stage_of party events) (sym (ap is_some (stage_one party events event)) ∙ formed))
  where
    from : (o : Option Stage) → ends_with (option_and_then (λ s. next_stage party s event) o)
    from None h = h
    from (Some s) h = ends s h

-- what is well formed and ends with the stop is over, and so is what ends with Died
pub over_stop : (party : ℕ) (events : List Event) → IsWellFormed party (events ++ StopSeen ∷ []) → IsPartyOver party (events ++ StopSeen ∷ [])
over_stop party events formed = last_one party events StopSeen (stop_last party) formed

pub over_died : (party : ℕ) (events : List Event) → IsWellFormed party (events ++ Died ∷ []) → IsPartyOver party (events ++ Died ∷ [])
over_died party events formed = last_one party events Died (died_last party) formed

none_stays : (party : ℕ) (events : List Event) → stage_from party None events ≡ None
none_stays party [] = refl
none_stays party (event ∷ events) = none_stays party events

-- any front of what is well formed is so
pub front_formed : (party : ℕ) (a b : List Event) → IsWellFormed party (a ++ b) → IsWellFormed party a
unfolding stage_of
front_formed party a b h = from (stage_from party (Some Stage.unbound) a) (sym (ap is_some (stage_append party (Some Stage.unbound) a b)) ∙ h)
  where
    from : (stage : Option Stage) → is_some (stage_from party stage b) ≡ true → is_some stage ≡ true
    from None h = sym (ap is_some (none_stays party b)) ∙ h
    from (Some s) h = refl
