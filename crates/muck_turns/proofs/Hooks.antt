-- What is hooked to an event is what is told of who moved, and of whose connections came or went.
use Rattle.std.proofs.Common.{◌≡◌, ℕ, ℤ, ◌+◌, ◌<◌, ◌≤◌, suc, Bool, true, false, not, cond, List, [], ◌∷◌, ◌++◌, length, drop, get_or, Option, None, Result, Ok, Err, OnOk, IfOk, refl, sym, ◌∙◌, ap, subst, append_assoc, int_lt}
use Rattle.std.proofs.lemmas.List.{drop_more, drop_all}
use Rattle.std.proofs.lemmas.Bool.{cond-true, cond-false}
use Rattle.std.specs.List.{flat_map}
use Rattle.std.specs.Option.{option_and_then}
use Rattle.muck_laws.proofs.Results.{on_ok_as}
use Rattle.muck_model.specs.declared.dbref.Dbref.{Dbref}
use Rattle.muck_model.specs.declared.event.Event.TheVariants.{Exec, Slice, Closed}
use Rattle.muck_model.specs.declared.memory.NoMemory.{NoMemory}
use Rattle.spec_live.specs.declared.moved.Move.{Move}
use Rattle.spec_live.specs.declared.object.Object.{Object}
use Rattle.spec_live.specs.Objects.{Entry, dbref_of}
use Rattle.spec_live.specs.Boards.{player_in}
use Rattle.spec_live.specs.Stood.{standing, stands_in, stilled, IsStill}
use Rattle.spec_live.specs.Lives.{Live, on_objects}
use Rattle.spec_live.proofs.Tracing.{object_stilled}
use Rattle.spec_commands.specs.inner.Rising.{IsRising}
use Rattle.spec_hooks.specs.declared.cause.Cause.{Cause}
use Rattle.spec_hooks.specs.declared.cause.Cause.TheVariants.{Connect, Disconnect}
use Rattle.spec_hooks.specs.declared.turned.Turned.{Turned}
use Rattle.spec_hooks.specs.declared.turned.Turned.TheVariants.{Nobody, Came, Went}
use Rattle.spec_hooks.specs.Causes.{where_true, moves, has_gone, has_come, causes_of, causes_from, causes, heard}
use Rattle.spec_hooks.specs.Told.{of_move, of_moves, told, came_on, went_of, Turns}
use Rattle.spec_hooks.proofs.Telling.{told_causes}
use Rattle.muf_model.specs.declared.fault.MufFault.{MufFault}
use Rattle.spec_events.specs.declared.starting.Call.{Call}
use Rattle.spec_events.specs.declared.starting.Manner.{Manner}
use Rattle.spec_events.specs.World.{World, connection}
use Rattle.spec_events.specs.Hooked.{calls_of, is_limit, started_all, hooked}
use Rattle.spec_events.specs.Lines.{spoken}
use Rattle.spec_events.specs.Starting.{by_hook, program_begun}
use Rattle.spec_events.specs.Steps.{happened, hooked_by, rested}
use Rattle.spec_events.proofs.Turning.{turns_exec, turns_slice, turns_closed}
use Rattle.muck_turns.specs.declared.state.deeds.DeedFault.{DeedFault}
use Rattle.muck_turns.specs.declared.state.deeds.DeedFault.TheVariants.{Fault, NoMemory as Wanted}
use Rattle.muck_turns.specs.inner.Deeds.{Begins}
use Rattle.muck_turns.specs.inner.Hooks.{AreTold, GoesOn, MoreIs, hooked_told}

-- Starts.

either_way : (b : Bool) (x y : World) → cond b y x ≡ cond (not b) x y
either_way true x y = refl
either_way false x y = refl

goes_on : (r : World × Result ℤ MufFault) (v : World) (begun : Result ℤ DeedFault) (result : Result Bool NoMemory) → Begins r v begun → MoreIs begun result → IfOk result (λ more. GoesOn r v more)
goes_on (w, Ok n) v (Ok m) result h k = subst (λ x. IfOk x (λ more. GoesOn (w, Ok n) v more)) (sym k) (λ rest. ap rest (sym h.1))
goes_on (w, Ok n) v (Err (Fault g)) result h k = absurd h
goes_on (w, Err f) v (Ok m) result h k = absurd h
goes_on (w, Err f) v (Err (Fault g)) result h k =
    subst (λ x. IfOk x (λ more. GoesOn (w, Err f) v more)) (sym k)
    (λ rest. ap (λ (x : World). cond (is_limit f) x (rest x)) (sym h.1) ∙ either_way (is_limit f) (rest v) v ∙ ap (λ x. cond (not (is_limit x)) (rest v) v) (sym h.0))
goes_on r v (Err Wanted) (Ok more) h k = absurd k
goes_on r v (Err Wanted) (Err e) h k = tt

-- one is started
pub one_started : (m n : Manner) (k c : Call) (w v : World) (answer : Result ℤ DeedFault) (result : Result Bool NoMemory) → m ≡ n → k ≡ c → Begins (program_begun m k w) v answer → MoreIs answer result → IfOk result (λ more. GoesOn (program_begun n c w) v more)
one_started m n k c w v answer result e f h more =
    goes_on (program_begun n c w) v answer result (subst (λ (x : Call). Begins (program_begun n x w) v answer) f (subst (λ (x : Manner). Begins (program_begun x k w) v answer) e h)) more

-- those that are left, where it is the first of them
left_here : (cs : List Call) (i : ℕ) (c : Call) → i < length cs → c ≡ get_or cs i c → drop i cs ≡ c ∷ drop (i + 1) cs
left_here cs i c lt is = drop_more cs i c lt ∙ ap (λ (x : Call). x ∷ drop (i + 1) cs) (sym is)

-- and others may be behind it
pub start_next : (cs : List Call) (i : ℕ) (c : Call) (w v : World) (more : Bool) → i < length cs → c ≡ get_or cs i c → GoesOn (program_begun (by_hook w) c w) v more → more ≡ true → started_all (drop i cs) w ≡ started_all (drop (i + 1) cs) v
unfolding started_all
start_next cs i c w v more lt is goes may =
    ap (λ l. started_all l w) (left_here cs i c lt is) ∙ goes (started_all (drop (i + 1) cs)) ∙ ap (λ b. cond b (started_all (drop (i + 1) cs) v) v) may

-- a limit refuses it
pub start_stop : (cs : List Call) (i : ℕ) (c : Call) (w v : World) (more : Bool) → i < length cs → c ≡ get_or cs i c → GoesOn (program_begun (by_hook w) c w) v more → more ≡ false → started_all (drop i cs) w ≡ v
unfolding started_all
start_stop cs i c w v more lt is goes ends =
    ap (λ l. started_all l w) (left_here cs i c lt is) ∙ goes (started_all (drop (i + 1) cs)) ∙ ap (λ b. cond b (started_all (drop (i + 1) cs) v) v) ends

pub start_end : (cs : List Call) (i : ℕ) (w : World) → length cs ≤ i → started_all (drop i cs) w ≡ w
unfolding started_all
start_end cs i w le = ap (λ l. started_all l w) (drop_all i cs le)

-- Whom causes tell of.

pub nobody_more : (m : Move) (ms : List Move) (cs : List Cause) → (cs ++ of_move m) ++ told Nobody ms ≡ cs ++ told Nobody (m ∷ ms)
unfolding told
nobody_more m ms cs = append_assoc cs (of_move m) (of_moves ms)

pub went_more : (p : Dbref) (m : Move) (ms : List Move) (cs : List Cause) → int_lt m.player.0 p.0 ≡ true → (cs ++ of_move m) ++ told (Went p) ms ≡ cs ++ told (Went p) (m ∷ ms)
unfolding told
went_more p m ms cs lt = append_assoc cs (of_move m) (told (Went p) ms) ∙ ap (λ l. cs ++ l) (sym (cond-true _ _ _ lt))

pub went_here : (p : Dbref) (m : Move) (ms : List Move) (cs : List Cause) → int_lt m.player.0 p.0 ≡ false → ((cs ++ Disconnect p ∷ []) ++ of_move m) ++ told Nobody ms ≡ cs ++ told (Went p) (m ∷ ms)
unfolding told
went_here p m ms cs not_below =
    append_assoc (cs ++ Disconnect p ∷ []) (of_move m) (of_moves ms) ∙ append_assoc cs (Disconnect p ∷ []) (of_moves (m ∷ ms)) ∙ ap (λ l. cs ++ l) (sym (cond-false _ _ _ not_below))

pub came_more : (p : Dbref) (m : Move) (ms : List Move) (cs : List Cause) → int_lt p.0 m.player.0 ≡ false → (cs ++ of_move m) ++ told (Came p) ms ≡ cs ++ told (Came p) (m ∷ ms)
unfolding told
came_more p m ms cs not_above = append_assoc cs (of_move m) (told (Came p) ms) ∙ ap (λ l. cs ++ l) (sym (cond-false _ _ _ not_above))

pub came_here : (p : Dbref) (m : Move) (ms : List Move) (cs : List Cause) → int_lt p.0 m.player.0 ≡ true → ((cs ++ Connect p ∷ []) ++ of_move m) ++ told Nobody ms ≡ cs ++ told (Came p) (m ∷ ms)
unfolding told
came_here p m ms cs lt =
    append_assoc (cs ++ Connect p ∷ []) (of_move m) (of_moves ms) ∙ append_assoc cs (Connect p ∷ []) (of_moves (m ∷ ms)) ∙ ap (λ l. cs ++ l) (sym (cond-true _ _ _ lt))

-- one after the other
pub told_next : (t r u : Turned) (moves : List Move) (i : ℕ) (d : Move) (cs ds start : List Cause) → i < length moves → ((ms : List Move) → ds ++ told u ms ≡ cs ++ told r (get_or moves i d ∷ ms)) → cs ++ told r (drop i moves) ≡ start ++ told t moves →
    ds ++ told u (drop (i + 1) moves) ≡ start ++ told t moves
told_next t r u moves i d cs ds start lt step inv = step (drop (i + 1) moves) ∙ ap (λ l. cs ++ told r l) (sym (drop_more moves i d lt)) ∙ inv

-- until none is left
pub told_end : (t r : Turned) (moves : List Move) (i : ℕ) (cs start : List Cause) → length moves ≤ i → cs ++ told r (drop i moves) ≡ start ++ told t moves → cs ++ told r [] ≡ start ++ told t moves
told_end t r moves i cs start le inv = ap (λ l. cs ++ told r l) (sym (drop_all i moves le)) ∙ inv

-- Behind an event.

-- causes don't look at where players stood
stands_stilled : (es : List Entry) (k : ℕ) → stands_in (stilled es) k ≡ stands_in es k
unfolding stands_in
stands_stilled es k = ap (λ (o : Option Object). option_and_then standing o) (object_stilled es k)

one_stilled : (w v : Live) (n : ℕ) → causes_of w (on_objects stilled v) n ≡ causes_of w v n
one_stilled w v n =
    ap (λ o. where_true (has_gone w v (dbref_of n)) (Disconnect (dbref_of n)) ++ (moves (dbref_of n) (stands_in w.objects n) o ++ where_true (has_come w v (dbref_of n)) (Connect (dbref_of n)))) (stands_stilled v.objects n)

causes_stilled : (w v : Live) (n : ℕ) (es : List Entry) → causes_from w (on_objects stilled v) n (stilled es) ≡ causes_from w v n es
unfolding stilled
causes_stilled w v n [] = refl
causes_stilled w v n (e ∷ es) =
    ap (λ l. l ++ causes_from w (on_objects stilled v) (suc n) (stilled es)) (one_stilled w v n) ∙ ap (λ l. causes_of w v n ++ l) (causes_stilled w v (suc n) es)

-- The live parts of the two worlds, and what became of connections.
hooked_by_told : (turned : Turned) (text : Option (Dbref × List ℕ)) (w v : World) → Turns turned w.live v.live → hooked_told turned text v ≡ hooked w (rested v) text
unfolding hooked_told hooked causes
hooked_by_told turned text w v t =
    ap (λ cs. started_all (flat_map (calls_of (rested v).live.objects) (cs ++ heard (rested v).live text)) (rested v)) (sym (told_causes turned w.live v.live t) ∙ sym (causes_stilled w.live v.live 0 v.live.objects))

-- behind a line, of which this was said
pub line_hooked : (d : ℕ) (w u v : World) (before : Option Dbref) (said : Option (Dbref × List ℕ)) (turned : Turned) (r : Result (Unit {0}) NoMemory) → AreTold w.live.objects → IsStill w.live.objects → IsRising w.live.board.connections →
    before ≡ player_in d w.live.board → u ≡ happened w 0 (Exec d) → said ≡ spoken d (connection d w) w → turned ≡ came_on d before u.live → OnOk r (v ≡ hooked_told turned said u) → OnOk r (v ≡ hooked_by w (Exec d) (happened w 0 (Exec d)))
line_hooked d w u v before said turned r quiet still rising b e s t done =
    let after : World = happened w 0 (Exec d) in
    let now : turned ≡ came_on d (player_in d w.live.board) after.live = t ∙ ap (λ (x : World). came_on d before x.live) e ∙ ap (λ o. came_on d o after.live) b in
    on_ok_as r (v ≡ hooked_told turned said u) (v ≡ hooked_by w (Exec d) after)
    (λ h. h ∙ ap (λ (x : World). hooked_told turned said x) e ∙ ap (λ x. hooked_told x said after) now
    ∙ hooked_by_told (came_on d (player_in d w.live.board) after.live) said w after (turns_exec d w 0 quiet rising still) ∙ ap (λ x. hooked w (rested after) x) s)
    done

-- behind a slice
pub slice_hooked : (pid : ℤ) (w u v : World) (r : Result (Unit {0}) NoMemory) → AreTold w.live.objects → IsStill w.live.objects → u ≡ happened w 0 (Slice pid) → OnOk r (v ≡ hooked_told Nobody None u) → OnOk r (v ≡ hooked_by w (Slice pid) (happened w 0 (Slice pid)))
slice_hooked pid w u v r quiet still e done =
    let after : World = happened w 0 (Slice pid) in
    on_ok_as r (v ≡ hooked_told Nobody None u) (v ≡ hooked_by w (Slice pid) after)
    (λ h. h ∙ ap (λ (x : World). hooked_told Nobody None x) e ∙ hooked_by_told Nobody None w after (turns_slice pid w 0 quiet still))
    done

-- behind a connection that goes
pub close_hooked : (d : ℕ) (w u v : World) (before : Option Dbref) (turned : Turned) (r : Result (Unit {0}) NoMemory) → IsStill w.live.objects → before ≡ player_in d w.live.board → u ≡ happened w 0 (Closed d) → turned ≡ went_of before u.live →
    OnOk r (v ≡ hooked_told turned None u) → OnOk r (v ≡ hooked_by w (Closed d) (happened w 0 (Closed d)))
close_hooked d w u v before turned r still b e t done =
    let after : World = happened w 0 (Closed d) in
    let now : turned ≡ went_of (player_in d w.live.board) after.live = t ∙ ap (λ (x : World). went_of before x.live) e ∙ ap (λ o. went_of o after.live) b in
    on_ok_as r (v ≡ hooked_told turned None u) (v ≡ hooked_by w (Closed d) after)
    (λ h. h ∙ ap (λ (x : World). hooked_told turned None x) e ∙ ap (λ x. hooked_told x None after) now ∙ hooked_by_told (went_of (player_in d w.live.board) after.live) None w after (turns_closed d w 0 still))
    done
