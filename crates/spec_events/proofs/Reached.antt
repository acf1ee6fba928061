-- Lawful entries lead from sound worlds to sound worlds.
use Rattle.std.proofs.Common.{◌≡◌, ℕ, ◌<◌, ◌≤◌, Bool, true, false, not, ◌&&◌, ◌||◌, cond, List, [], ◌∷◌, length, refl, sym, ◌∙◌, ap, subst, arith, Option, Some, None, ltb, ◌==◌, ◌≢◌}
use Rattle.std.proofs.lemmas.Bool.Decides.{nat_tests}
use Rattle.std.proofs.lemmas.Bool.{cond-true, cond-false, and_parts, eq-eqb}
use Rattle.std.specs.Prelude.{find, is_none, is_some, nat_lt, nat_le}
use Rattle.std.specs.Option.{option_map, option_map_or}
use Rattle.muck_laws.proofs.Numbers.{apart, differs, test_of_less}
use Rattle.muck_laws.proofs.Options.{none_of, some_none}
use Rattle.muck_model.specs.declared.event.Entry.{Entry}
use Rattle.muck_model.specs.declared.event.Event.{Event}
use Rattle.muck_model.specs.declared.event.Event.TheVariants.{Opened, Input, Closed, Moment, Exec, Slice, Idle, Take, Stored, DumpFailed, Halt, Died}
use Rattle.muck_model.specs.declared.tune.Tune.{Tune}
use Rattle.spec_live.specs.Objects.{Entry as Kept}
use Rattle.spec_live.specs.declared.saving.Saving.{Saving}
use Rattle.spec_live.specs.Start.{first_objects}
use Rattle.spec_live.specs.Saving.{saving_done, due_again, all_saving}
use Rattle.spec_live.specs.Output.{bytes_of}
use Rattle.spec_live.specs.Connections.{Connection, is_connection, connection_placed, without_connection, newcomer, connections_most, holds, lined}
use Rattle.spec_live.specs.Boards.{Board, player_in, connection_opened, connection_closed, line_added, bytes_taken, first_tune, early_board}
use Rattle.spec_live.specs.Lives.{Live, Change, change_followed, reading, on_board}
use Rattle.spec_live.proofs.Steps.{Walk}
use Rattle.spec_live.proofs.Walks.{walk_stored, walk_failed}
use Rattle.muck_model.specs.Parameters.{IsInRange}
use Rattle.muck_model.proofs.Parameters.{in_range, first_fits}
use Rattle.spec_commands.specs.Talk.{welcome, player_parted, gone_away}
use Rattle.spec_commands.specs.inner.Rising.{IsAbove, IsRising}
use Rattle.spec_rights.proofs.Shown.{loose_one}
use Rattle.spec_commands.proofs.Numbered.{rising_by, seating_quiet}
use Rattle.spec_commands.proofs.Lines.{quiet_parted}
use Rattle.spec_events.specs.World.{World, connection, queue_of, is_leaving, askers_of, on_live, world_booted, starting_world}
use Rattle.spec_events.specs.Dumping.{resaved, dump_stored, dump_failed, told_each}
use Rattle.spec_events.specs.Steps.{has_line_to_do, may_idle, is_allowed, is_lawful, is_died, happened, effect, next_ready}
use Rattle.spec_events.specs.Histories.{by_porter}
use Rattle.spec_events.specs.inner.Sound.{IsSound}
use Rattle.spec_events.proofs.Quietly.{lively, quietly_loose, quietly_live, quiet_told_each}
use Rattle.spec_events.proofs.Done.{Going, in_range_as, going_both, going_quietly, going_resaved, done_going}
use Rattle.spec_events.proofs.Taken.{sliced_going}
use Rattle.spec_events.proofs.Happening.{effect-board}
use Rattle.spec_events.proofs.Living.{dead-effect}
use Rattle.spec_events.proofs.Turns.{gone_away_untouched}

-- Connections that come and go.

above-without : (n d : ℕ) (cs : List Connection) → IsAbove n cs → IsAbove n (without_connection d cs)
above-without n d [] h = tt
above-without n d (c ∷ cs) h =
    elim (is_connection d c) as (λ b. IsAbove n (cond b cs (c ∷ without_connection d cs))) [
      | true ↦ h.1
      | false ↦ (h.0, above-without n d cs h.1)
    ]

rising-without : (d : ℕ) (cs : List Connection) → IsRising cs → IsRising (without_connection d cs)
rising-without d [] h = tt
rising-without d (c ∷ cs) h =
    elim (is_connection d c) as (λ b. IsRising (cond b cs (c ∷ without_connection d cs))) [
      | true ↦ h.1
      | false ↦ (above-without c.number d cs h.0, rising-without d cs h.1)
    ]

above_more : (m n : ℕ) (cs : List Connection) → m < n → IsAbove n cs → IsAbove m cs
above_more m n [] less h = tt
above_more m n (c ∷ cs) less h = (omega (arith, h.0), above_more m n cs less h.1)

above-placed : (n : ℕ) (new : Connection) (cs : List Connection) → n < new.number → IsAbove n cs → IsAbove n (connection_placed new cs)
above-placed n new [] less h = (less, tt)
above-placed n new (c ∷ cs) less h =
    elim (ltb new.number c.number) as (λ b. IsAbove n (cond b (new ∷ c ∷ cs) (c ∷ connection_placed new cs))) [
      | true ↦ (less, h)
      | false ↦ (h.0, above-placed n new cs less h.1)
    ]

-- a new number goes to its place
rising-placed : (new : Connection) (cs : List Connection) → find (is_connection new.number) cs ≡ None → IsRising cs → IsRising (connection_placed new cs)
rising-placed new [] = λ none h. (tt, tt)
rising-placed new (c ∷ cs) = λ none h.
    let other : is_connection new.number c ≡ false =
    (elim (is_connection new.number c) as (λ b. cond b (Some c) (find (is_connection new.number) cs) ≡ None → b ≡ false) [
      | true ↦ λ e. absurd (some_none c e)
      | false ↦ λ e. refl
    ]) none in
    let rest : find (is_connection new.number) cs ≡ None = sym (cond-false _ _ _ other) ∙ none in
    test_of_less new.number c.number
    (λ b. IsRising (cond b (new ∷ c ∷ cs) (c ∷ connection_placed new cs)))
    (λ less. ((less, above_more new.number c.number cs less h.0), h))
    (λ le. (above-placed c.number new cs (differs c.number new.number le other) h.0, rising-placed new cs rest h.1))

no_connection : (d : ℕ) (w : World) (first stop few : Bool) → (first && is_none (connection d w) && few && not stop) ≡ true → connection d w ≡ None
no_connection d w first stop few e = none_of (connection d w) (and_parts first _ (and_parts _ _ (and_parts _ _ e).0).0).1

-- What the end of a dump makes of objects, and what is told of it, keeps the world as it was before.

ended-going : (f : Saving → Saving) (ds : List ℕ) (text : List ℕ) (w : World) → Walk lively w.live.objects (all_saving f w.live.objects) → Going w (on_live (told_each ds text) (on_live (resaved f) w))
ended-going f ds text w walk =
    let u : World = on_live (resaved f) w in
    going_both w u (on_live (told_each ds text) u) (going_resaved f w walk) (going_quietly u _ (quietly_live (told_each ds text) (quiet_told_each ds text) u))

pub stored-going : (k : ℕ) (w : World) → Going w (on_live (told_each (askers_of w.dumps) (dump_stored k)) (on_live (resaved saving_done) w))
stored-going k w = ended-going saving_done (askers_of w.dumps) (dump_stored k) w (walk_stored lively w.live.objects refl)

pub failed-going : (w : World) → Going w (on_live (told_each (askers_of w.dumps) dump_failed) (on_live (resaved due_again) w))
failed-going w = ended-going due_again (askers_of w.dumps) dump_failed w (walk_failed lively w.live.objects refl)

going-rises : (w v : World) → Going w v → IsRising w.live.board.connections → IsRising v.live.board.connections
going-rises w v g h = rising_by w.live.board.connections v.live.board.connections g.numbers h

rising-gone_away : (d : ℕ) (w : Live) → IsRising w.board.connections → IsRising (gone_away d w).board.connections
unfolding gone_away reading change_followed connection_closed
rising-gone_away d w h =
    let parting : Change = player_parted (player_in d w.board) in
    let v : Live = on_board (connection_closed d) w in
    rising_by v.board.connections (parting v).board.connections ((seating_quiet d parting (quiet_parted (player_in d w.board))).law v).numbers (rising-without d w.board.connections h)

-- by an event that is allowed the connections still stand by rising number
pub rising-happened : (event : Event) (party : ℕ) (w : World) → is_allowed w party event ≡ true → IsRising w.live.board.connections → IsRising (happened w party event).live.board.connections
unfolding connection_opened line_added bytes_taken
rising-happened (Opened d) party w l h =
    rising-placed (newcomer d welcome) w.live.board.connections (no_connection d w (party == 0) w.stopping (nat_lt (length w.live.board.connections) connections_most) l) h
rising-happened (Input d line) party w l h = going-rises w _ (going_quietly w _ (quietly_loose (on_board (line_added d line)) (loose_one d (lined line) (λ c. refl)) w)) h
rising-happened (Closed d) party w l h = rising-gone_away d w.live h
rising-happened (Exec d) party w l h = going-rises w _ (done_going d w (connection d w) refl) h
rising-happened (Slice pid) party w l h = going-rises w _ (sliced_going pid w) h
rising-happened (Take d n) party w l h = going-rises w _ (going_quietly w _ (quietly_loose (on_board (bytes_taken d n)) (loose_one d _ (λ c. refl)) w)) h
rising-happened (Stored k) party w l h = going-rises w _ (stored-going k w) h
rising-happened (DumpFailed k) party w l h = going-rises w _ (failed-going w) h
rising-happened event party w l h = h

-- and what is tuned is in its range: only a keeper's line tunes
tuned-happened : (event : Event) (party : ℕ) (w : World) → IsInRange w.live.board.tune → IsInRange (happened w party event).live.board.tune
unfolding connection_opened line_added bytes_taken
tuned-happened (Closed d) party w h = in_range_as w.live (gone_away d w.live) (gone_away_untouched d w.live).tune h
tuned-happened (Exec d) party w h = (done_going d w (connection d w) refl).tuned h
tuned-happened (Slice pid) party w h = (sliced_going pid w).tuned h
tuned-happened (Stored k) party w h = (stored-going k w).tuned h
tuned-happened (DumpFailed k) party w h = (failed-going w).tuned h
tuned-happened event party w h = h

other_event : (event : Event) → event ≢ Died → is_died event ≡ false
other_event Died other = absurd (other refl)
other_event event other = refl

-- a lawful entry that isn't Died leads from a sound world to a sound world
pub sound-effect : (w : World) (entry : Entry) → entry.event ≢ Died → is_lawful w entry ≡ true → IsSound w → IsSound (effect w entry)
unfolding is_lawful
sound-effect w entry other l h =
    let same = sym (effect-board w entry) in
    record {
      alive = dead-effect w entry (other_event entry.event other) ∙ h.alive;
      rising = subst (λ (b : Board). IsRising b.connections) same (rising-happened entry.event entry.party w (sym (cond-false _ _ _ h.alive) ∙ l) h.rising);
      tuned = subst (λ (b : Board). IsInRange b.tune) same (tuned-happened entry.event entry.party w h.tuned);
    }

-- Choices that are lawful.

found_above : (p : Connection → Bool) (n : ℕ) (cs : List Connection) (c : Connection) → IsAbove n cs → find p cs ≡ Some c → n < c.number
found_above p n [] c = λ h e. absurd (some_none c (sym e))
found_above p n (x ∷ xs) c = λ h.
    elim (p x) as (λ b. cond b (Some x) (find p xs) ≡ Some c → n < c.number) [
      | true ↦ λ e. let one : x ≡ c = cc in omega (arith, h.0, ap (λ (k : Connection). k.number) one)
      | false ↦ λ e. found_above p n xs c h.1 e
    ]

-- where a connection is found to be free, it is the one of its number
free_found : (p : Connection → Bool) (cs : List Connection) (c : Connection) → IsRising cs → find p cs ≡ Some c → (find (is_connection c.number) cs ≡ Some c) × (p c ≡ true)
free_found p [] c = λ h e. absurd (some_none c (sym e))
free_found p (x ∷ xs) c = λ h.
    (elim (p x) as (λ b. p x ≡ b → cond b (Some x) (find p xs) ≡ Some c → (find (is_connection c.number) (x ∷ xs) ≡ Some c) × (p c ≡ true)) [
      | true ↦ λ r e.
          let one : x ≡ c = cc in
          let same : is_connection c.number x ≡ true = ap (λ (k : Connection). k.number == c.number) one ∙ eq-eqb c.number c.number refl in
          (cond-true _ _ _ same ∙ ap Some one, ap p (sym one) ∙ r)
      | false ↦ λ r e.
          let above : x.number < c.number = found_above p x.number xs c h.0 e in
          let rest = free_found p xs c h.1 e in
          (cond-false _ _ _ (apart x.number c.number above) ∙ rest.0, rest.1)
    ]) refl

exec_ok : (p : Connection → Bool) (cs : List Connection) (d : ℕ) (o : Option Connection) → find p cs ≡ o → IsRising cs → option_map (λ c. c.number) o ≡ Some d → option_map_or p (find (is_connection d) cs) false ≡ true
exec_ok p cs d None f h e = absurd (some_none d (sym e))
exec_ok p cs d (Some c) f h e =
    let number : c.number ≡ d = cc in
    let found = free_found p cs c h f in
    ap (λ k. option_map_or p (find (is_connection k) cs) false) (sym number) ∙ ap (λ o. option_map_or p o false) found.0 ∙ found.1

exec_may : (p : Connection → Bool) (dead stop : Bool) (cs : List Connection) (d : ℕ) → dead ≡ false → IsRising cs → cond (dead || stop) None (option_map (λ (c : Connection). c.number) (find p cs)) ≡ Some d →
    cond dead false (option_map_or p (find (is_connection d) cs) false && not stop) ≡ true
exec_may p true stop cs d a h e = cc
exec_may p false true cs d a h e = absurd (some_none d (sym e))
exec_may p false false cs d a h e = ap (λ b. b && true) (exec_ok p cs d (find p cs) refl h e)

-- a turn is lawful, of any party
pub exec_lawful : (w : World) (party d : ℕ) → IsSound w → next_ready w ≡ Some d → is_lawful w (record { party = party; event = Exec d }) ≡ true
unfolding is_lawful next_ready
exec_lawful w party d h e = exec_may (has_line_to_do w) w.dead w.stopping w.live.board.connections d h.alive h.rising e

holds_some : (n : ℕ) (o : Option Connection) → 0 < n → n ≤ length (option_map_or (λ c. bytes_of c.output) o []) → (nat_lt 0 n && option_map_or (holds n) o false) ≡ true
holds_some n None some most = absurd (omega arith)
holds_some n (Some c) some most = grind (arith, nat_tests)

-- taking some of what is in a queue is lawful
pub take_lawful : (w : World) (d n : ℕ) → w.dead ≡ false → 0 < n → n ≤ length (queue_of d w) → is_lawful w (by_porter (Take d n)) ≡ true
unfolding is_lawful
take_lawful w d n alive some most = cond-false _ _ _ alive ∙ holds_some n (connection d w) some most

leaving_some : (o : Option Connection) → option_map_or (λ c. c.leaving) o false ≡ true → is_some o ≡ true
leaving_some None e = e
leaving_some (Some c) e = refl

-- closing a connection that is leaving is lawful
pub close_lawful : (w : World) (d : ℕ) → w.dead ≡ false → is_leaving d w ≡ true → is_lawful w (by_porter (Closed d)) ≡ true
unfolding is_lawful
close_lawful w d alive e = cond-false _ _ _ alive ∙ leaving_some (connection d w) e

-- the porter may halt the world
pub halt_lawful : (w : World) → w.dead ≡ false → is_lawful w (by_porter Halt) ≡ true
unfolding is_lawful
halt_lawful w alive = cond-false _ _ _ alive

-- time may go on
pub moment_lawful : (w : World) (t : ℕ) → w.dead ≡ false → w.moment ≤ t → is_lawful w (by_porter (Moment t)) ≡ true
unfolding is_lawful
moment_lawful w t alive h = cond-false _ _ _ alive ∙ not_before w.moment t h
  where
    not_before : (m n : ℕ) → m ≤ n → nat_le m n ≡ true
    not_before m n h = grind (arith, nat_tests)

-- a party may idle exactly where there is nothing for it to do
pub idle_lawful : (w : World) (party : ℕ) → w.dead ≡ false → is_lawful w (record { party = party; event = Idle }) ≡ may_idle w party
unfolding is_lawful
idle_lawful w party alive = cond-false _ _ _ alive

-- memory may be wanted anywhere
pub died_lawful : (w : World) (party : ℕ) → is_lawful w (record { party = party; event = Died }) ≡ true
unfolding is_lawful
died_lawful w party = either_way w.dead where
  either_way : (b : Bool) → cond b true true ≡ true
  either_way true = refl
  either_way false = refl

pub sound-booted : (objects : List Kept) (tune : Tune) (moment start : ℕ) → IsInRange tune → IsSound (world_booted objects tune moment start)
unfolding world_booted early_board
sound-booted objects tune moment start h = record { alive = refl; rising = tt; tuned = h }

pub sound-starting : IsSound starting_world
unfolding starting_world
sound-starting = sound-booted first_objects first_tune 0 0 (in_range first_tune first_fits)
