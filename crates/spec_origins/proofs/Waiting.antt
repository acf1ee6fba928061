-- The lines that wait and the editors behind each entry.
use Rattle.std.proofs.Common.{◌≡◌, ◌⊎◌, ◌<◌, ℕ, ◌==◌, Bool, true, false, not, cond, List, [], ◌∷◌, ◌++◌, drop, length, refl, sym, ◌∙◌, ap, subst, eqb-true, arith, Option, Some, None, inl, inr}
use Rattle.std.specs.Prelude.{nat_lt, is_none}
use Rattle.std.specs.Option.{option_map, option_and_then}
use Rattle.std.proofs.lemmas.Bool.Decides.{nat_tests}
use Rattle.muck_laws.proofs.Options.{none_of}
use Rattle.muck_laws.proofs.Truths.{second_of}
use Rattle.muck_model.specs.declared.edit.EditState.{EditState}
use Rattle.muck_model.specs.declared.event.Entry.{Entry}
use Rattle.muck_model.specs.declared.event.Event.{Event}
use Rattle.muck_model.specs.declared.event.Event.TheVariants.{Opened, Input, Closed, Exec, Slice, Take, Stored, DumpFailed, Died}
use Rattle.muck_model.specs.declared.tune.Tune.{Tune}
use Rattle.spec_live.specs.Objects.{Entry as Objects, mark_in}
use Rattle.spec_live.specs.Connections.{Connection, connections_most, connection_placed, without_connection, newcomer, lined}
use Rattle.spec_live.specs.Boards.{early_board, player_in, connection_opened, connection_closed, line_added, bytes_taken}
use Rattle.spec_live.specs.Lives.{Live, change_followed, reading, on_board, tell}
use Rattle.spec_live.specs.Saving.{saving_done as saved, due_again}
use Rattle.muck_queue.specs.Queues.{reader}
use Rattle.spec_commands.specs.Talk.{welcome, waits, gone_away}
use Rattle.spec_commands.specs.inner.Rising.{IsAbove, IsRising}
use Rattle.spec_events.specs.World.{World, world_booted, connection, askers_of, on_live}
use Rattle.spec_events.specs.Dumping.{resaved, dump_stored, dump_failed, told_each}
use Rattle.spec_events.specs.Histories.{AllLawful}
use Rattle.spec_events.specs.Lines.{line_done, first_line_done}
use Rattle.spec_events.specs.Steps.{is_allowed, is_died, is_lawful, effect, happened}
use Rattle.spec_events.specs.Endings.{Lapsed}
use Rattle.spec_events.proofs.Endings.{IsTold}
use Rattle.spec_events.proofs.Passwords.{rising_effect}
use Rattle.spec_events.proofs.Turns.{told_effect}
use Rattle.spec_origins.specs.Seats.{editor_at, SameEditor, Seated, AllSeated}
use Rattle.spec_origins.proofs.Seats.{Sits, sits_order, sits_one, sits_tell, sits_parted}
use Rattle.spec_origins.proofs.Seating.{found, lines_in, editor_in, lines_sit, editor_sits, found_changed}
use Rattle.spec_origins.proofs.Seated.{LineStays, slice_seats, line_stays}

-- One line.

-- the lines that wait are others, and the editor is what it was
waits_lines : (d n : ℕ) (lines : List (List ℕ)) (w : Live) → lines_in d (waits n lines w).board.connections ≡ cond (n == d) (option_map (λ (c : Connection). lines) (found d w.board.connections)) (lines_in d w.board.connections)
unfolding waits
waits_lines d n lines w = ap (λ (o : Option Connection). option_map (λ (c : Connection). c.waiting) o) (found_changed d n (λ c. record c { waiting = lines }) (λ c. refl) w.board.connections) ∙ at (n == d) (found d w.board.connections)
  where
    at : (b : Bool) (o : Option Connection) → option_map (λ (c : Connection). c.waiting) (cond b (option_map (λ (c : Connection). record c { waiting = lines }) o) o) ≡ cond b (option_map (λ (c : Connection). lines) o) (option_map (λ (c : Connection). c.waiting) o)
    at true None = refl
    at true (Some c) = refl
    at false o = refl

pub waits_editor : (d n : ℕ) (lines : List (List ℕ)) (w : Live) → editor_in d (waits n lines w).board.connections ≡ editor_in d w.board.connections
unfolding waits
waits_editor d n lines w = ap (λ (o : Option Connection). option_and_then (λ (c : Connection). c.editor) o) (found_changed d n (λ c. record c { waiting = lines }) (λ c. refl) w.board.connections) ∙ at (n == d) (found d w.board.connections)
  where
    at : (b : Bool) (o : Option Connection) → option_and_then (λ (c : Connection). c.editor) (cond b (option_map (λ (c : Connection). record c { waiting = lines }) o) o) ≡ option_and_then (λ (c : Connection). c.editor) o
    at true None = refl
    at true (Some c) = refl
    at false o = refl

-- the first line is taken off
taken_off : (d n : ℕ) (c : Connection) (line : List ℕ) (lines : List (List ℕ)) (cs : List Connection) → found n cs ≡ Some c → c.waiting ≡ line ∷ lines → (b : Bool) → (n == d) ≡ b →
    cond b (option_map (λ (c : Connection). lines) (found d cs)) (lines_in d cs) ≡ cond b (option_map (drop 1) (lines_in d cs)) (lines_in d cs)
taken_off d n c line lines cs at w false e = refl
taken_off d n c line lines cs at w true e =
    let same : found d cs ≡ Some c = ap (λ (m : ℕ). found m cs) (sym (eqb-true n d e)) ∙ at in
    ap (λ (o : Option Connection). option_map (λ (c : Connection). lines) o) same ∙ ap (λ (ls : List (List ℕ)). Some (drop 1 ls)) (sym w) ∙ sym (ap (λ (o : Option Connection). option_map (drop 1) (option_map (λ (c : Connection). c.waiting) o)) same)

-- and where none waits nothing is
none_off : (d n : ℕ) (cs : List Connection) (o : Option Connection) → found n cs ≡ o → option_map (drop 1) (option_map (λ (c : Connection). c.waiting) o) ≡ option_map (λ (c : Connection). c.waiting) o → (b : Bool) → (n == d) ≡ b →
    lines_in d cs ≡ cond b (option_map (drop 1) (lines_in d cs)) (lines_in d cs)
none_off d n cs o at e false is = refl
none_off d n cs o at e true is =
    let same : found d cs ≡ o = ap (λ (m : ℕ). found m cs) (sym (eqb-true n d is)) ∙ at in
    ap (λ (q : Option Connection). option_map (λ (c : Connection). c.waiting) q) same ∙ sym e ∙ sym (ap (λ (q : Option Connection). option_map (drop 1) (option_map (λ (c : Connection). c.waiting) q)) same)

same_seated : (n : ℕ) (w : World) (o : Option Connection) → connection n w ≡ o → option_map (drop 1) (option_map (λ (c : Connection). c.waiting) o) ≡ option_map (λ (c : Connection). c.waiting) o → Seated (Exec n) w w
same_seated n w o at e = record { lines = λ d. none_off d n w.live.board.connections o at e (n == d) refl; editors = λ d. inr (inl refl) }

line_seated : (n : ℕ) (c : Connection) (line : List ℕ) (lines : List (List ℕ)) (w v : World) → connection n w ≡ Some c → c.waiting ≡ line ∷ lines → LineStays n (on_live (waits n lines) w) v → Seated (Exec n) w v
unfolding waits
line_seated n c line lines w v at e k = record {
  lines = λ d. k.lines d ∙ waits_lines d n lines w.live ∙ taken_off d n c line lines w.live.board.connections at e (n == d) refl;
  editors = λ d. subst (λ (o : Option EditState). ((n == d) ≡ true) ⊎ SameEditor (λ x. Lapsed x w.live v.live) o (editor_at d v)) (waits_editor d n lines w.live) (k.editors d);
}

exec_seated : (n : ℕ) (w : World) (o : Option Connection) → connection n w ≡ o → IsTold w.live → Seated (Exec n) w (first_line_done n o w)
unfolding first_line_done waits
exec_seated n w None at told = same_seated n w None at refl
exec_seated n w (Some c) at told = by_lines c.waiting refl
  where
    by_lines : (ls : List (List ℕ)) → c.waiting ≡ ls → Seated (Exec n) w (line_done n c.player c.editor ls w)
    by_lines [] e = same_seated n w (Some c) at (ap (λ (ls : List (List ℕ)). Some (drop 1 ls)) e ∙ sym (ap (λ (ls : List (List ℕ)). Some ls) e))
    by_lines (line ∷ lines) e = line_seated n c line lines w (line_done n c.player c.editor (line ∷ lines) w) at e (line_stays n (reader n w.queue) c.player c.editor line (on_live (waits n lines) w) told)

-- A connection that opens, and one that goes.

found_placed : (d : ℕ) (new : Connection) (cs : List Connection) → (new.number == d) ≡ false → found d (connection_placed new cs) ≡ found d cs
found_placed d new [] o = ap (λ (b : Bool). cond b (Some new) None) o
found_placed d new (c ∷ cs) o = by_place (nat_lt new.number c.number) (c.number == d) (found_placed d new cs o)
  where
    by_place : (before t : Bool) → found d (connection_placed new cs) ≡ found d cs → found d (cond before (new ∷ c ∷ cs) (c ∷ connection_placed new cs)) ≡ found d (c ∷ cs)
    by_place true t e = ap (λ (b : Bool). cond b (Some new) (found d (c ∷ cs))) o
    by_place false t e = ap (λ (q : Option Connection). cond (c.number == d) (Some c) q) e

found_new : (new : Connection) (cs : List Connection) → found new.number cs ≡ None → found new.number (connection_placed new cs) ≡ Some new
found_new new [] e = ap (λ (b : Bool). cond b (Some new) None) (own_is new.number)
  where
    own_is : (n : ℕ) → (n == n) ≡ true
    own_is n = grind (arith, nat_tests)
found_new new (c ∷ cs) e = by_place (nat_lt new.number c.number) e (found_new new cs)
  where
    own_is : (n : ℕ) → (n == n) ≡ true
    own_is n = grind (arith, nat_tests)

    later : (t : Bool) → cond t (Some c) (found new.number cs) ≡ None → (found new.number cs ≡ None → found new.number (connection_placed new cs) ≡ Some new) → cond t (Some c) (found new.number (connection_placed new cs)) ≡ Some new
    later true e k = absurd cc
    later false e k = k e

    by_place : (before : Bool) → found new.number (c ∷ cs) ≡ None → (found new.number cs ≡ None → found new.number (connection_placed new cs) ≡ Some new) → found new.number (cond before (new ∷ c ∷ cs) (c ∷ connection_placed new cs)) ≡ Some new
    by_place true e k = ap (λ (b : Bool). cond b (Some new) (found new.number (c ∷ cs))) (own_is new.number)
    by_place false e k = later (c.number == new.number) e k

found_without : (d n : ℕ) (cs : List Connection) → (n == d) ≡ false → found d (without_connection n cs) ≡ found d cs
found_without d n [] o = refl
found_without d n (c ∷ cs) o = by_first (c.number == n) refl (c.number == d) refl (found_without d n cs o)
  where
    never : (m n d : ℕ) → (n == d) ≡ false → (m == n) ≡ true → (m == d) ≡ true → ⊥
    never m n d other same at = grind (arith, nat_tests)

    by_first : (t : Bool) → (c.number == n) ≡ t → (u : Bool) → (c.number == d) ≡ u → found d (without_connection n cs) ≡ found d cs → found d (cond t cs (c ∷ without_connection n cs)) ≡ cond u (Some c) (found d cs)
    by_first true e true f k = absurd (never c.number n d o e f)
    by_first true e false f k = refl
    by_first false e u f k = ap (λ (q : Option Connection). cond (c.number == d) (Some c) q) k ∙ ap (λ (b : Bool). cond b (Some c) (found d cs)) f

above_none : (n : ℕ) (cs : List Connection) → IsAbove n cs → found n cs ≡ None
above_none n [] h = refl
above_none n (c ∷ cs) h = ap (λ (t : Bool). cond t (Some c) (found n cs)) (apart c.number n h.0) ∙ above_none n cs h.1
  where
    apart : (m n : ℕ) → n < m → (m == n) ≡ false
    apart m n less = grind (arith, nat_tests)

found_gone : (n : ℕ) (cs : List Connection) → IsRising cs → found n (without_connection n cs) ≡ None
found_gone n [] h = refl
found_gone n (c ∷ cs) h = by_first (c.number == n) refl (found_gone n cs h.1)
  where
    by_first : (t : Bool) → (c.number == n) ≡ t → found n (without_connection n cs) ≡ None → found n (cond t cs (c ∷ without_connection n cs)) ≡ None
    by_first true e k = above_none n cs (subst (λ (m : ℕ). IsAbove m cs) (eqb-true c.number n e) h.0)
    by_first false e k = ap (λ (t : Bool). cond t (Some c) (found n (without_connection n cs))) e ∙ k

-- by the number of the connection
by_number : {X : Type 0} (n d : ℕ) (read : Option Connection → X) (cs ds : List Connection) (here : X) → ((n == d) ≡ false → found d ds ≡ found d cs) → read (found n ds) ≡ here → (b : Bool) → (n == d) ≡ b → read (found d ds) ≡ cond b here (read (found d cs))
by_number n d read cs ds here other own true e = ap (λ (m : ℕ). read (found m ds)) (sym (eqb-true n d e)) ∙ own
by_number n d read cs ds here other own false e = ap read (other e)

opened_seated : (n : ℕ) (w : World) (party : ℕ) → connection n w ≡ None → Seated (Opened n) w (happened w party (Opened n))
unfolding connection_opened
opened_seated n w party none =
    let cs : List Connection = w.live.board.connections in
    let new : Connection = newcomer n welcome in
    let own : found n (connection_placed new cs) ≡ Some new = found_new new cs none in
    record {
      lines = λ d. by_number n d (λ o. option_map (λ (c : Connection). c.waiting) o) cs (connection_placed new cs) (Some []) (found_placed d new cs) (ap (λ (o : Option Connection). option_map (λ (c : Connection). c.waiting) o) own) (n == d) refl;
      editors = λ d. by_number n d (λ o. option_and_then (λ (c : Connection). c.editor) o) cs (connection_placed new cs) None (found_placed d new cs) (ap (λ (o : Option Connection). option_and_then (λ (c : Connection). c.editor) o) own) (n == d) refl;
    }

gone_sits : (n : ℕ) (w : Live) → Sits (on_board (connection_closed n) w) (gone_away n w)
unfolding gone_away reading change_followed
gone_sits n w = (sits_parted (player_in n w.board)).law (on_board (connection_closed n) w)

closed_seated : (n : ℕ) (w : World) (party : ℕ) → IsRising w.live.board.connections → Seated (Closed n) w (happened w party (Closed n))
unfolding connection_closed
closed_seated n w party rising =
    let cs : List Connection = w.live.board.connections in
    let ds : List Connection = without_connection n cs in
    let es : List Connection = (gone_away n w.live).board.connections in
    let s = (gone_sits n w.live).seats in
    let own : found n ds ≡ None = found_gone n cs rising in
    record {
      lines = λ d. lines_sit d ds es s ∙ by_number n d (λ o. option_map (λ (c : Connection). c.waiting) o) cs ds None (found_without d n cs) (ap (λ (o : Option Connection). option_map (λ (c : Connection). c.waiting) o) own) (n == d) refl;
      editors = λ d. editor_sits d ds es s ∙ by_number n d (λ o. option_and_then (λ (c : Connection). c.editor) o) cs ds None (found_without d n cs) (ap (λ (o : Option Connection). option_and_then (λ (c : Connection). c.editor) o) own) (n == d) refl;
    }

-- A line that comes.

input_seated : (n : ℕ) (line : List ℕ) (w : World) (party : ℕ) → Seated (Input n line) w (happened w party (Input n line))
unfolding line_added
input_seated n line w party = record {
  lines = λ d. ap (λ (o : Option Connection). option_map (λ (c : Connection). c.waiting) o) (found_changed d n (lined line) (λ c. refl) w.live.board.connections) ∙ lines_so (n == d) (found d w.live.board.connections);
  editors = λ d. ap (λ (o : Option Connection). option_and_then (λ (c : Connection). c.editor) o) (found_changed d n (lined line) (λ c. refl) w.live.board.connections) ∙ editors_so (n == d) (found d w.live.board.connections);
}
  where
    lines_so : (b : Bool) (o : Option Connection) → option_map (λ (c : Connection). c.waiting) (cond b (option_map (lined line) o) o) ≡ cond b (option_map (λ (ls : List (List ℕ)). ls ++ line ∷ []) (option_map (λ (c : Connection). c.waiting) o)) (option_map (λ (c : Connection). c.waiting) o)
    lines_so true None = refl
    lines_so true (Some c) = refl
    lines_so false o = refl

    editors_so : (b : Bool) (o : Option Connection) → option_and_then (λ (c : Connection). c.editor) (cond b (option_map (lined line) o) o) ≡ option_and_then (λ (c : Connection). c.editor) o
    editors_so true None = refl
    editors_so true (Some c) = refl
    editors_so false o = refl

-- Any event.

sits_each : (ds : List ℕ) (text : List ℕ) (w : Live) → Sits w (told_each ds text w)
unfolding told_each
sits_each [] text w = sits_order.itself w
sits_each (d ∷ ds) text w = sits_order.both w (tell d text w) _ ((sits_tell d text).law w) (sits_each ds text (tell d text w))

event_seated : (event : Event) (w : World) (party : ℕ) → is_allowed w party event ≡ true → IsTold w.live → IsRising w.live.board.connections → Seated event w (happened w party event)
unfolding bytes_taken
event_seated (Opened n) w party l told rising = opened_seated n w party (none_of (connection n w) (second_of (party == 0) (is_none (connection n w)) (nat_lt (length w.live.board.connections) connections_most) (not w.stopping) l))
event_seated (Closed n) w party l told rising = closed_seated n w party rising
event_seated (Input n line) w party l told rising = input_seated n line w party
event_seated (Exec n) w party l told rising = exec_seated n w (connection n w) refl told
event_seated (Slice pid) w party l told rising = let k = slice_seats pid w told in record { lines = k.lines; editors = λ d. elim (k.editors d) [ inl o ↦ absurd (never o) | inr h ↦ h ] }
  where
    never : false ≡ true → ⊥
    never e = cc
event_seated (Take n count) w party l told rising =
    let v : World = happened w party (Take n count) in
    let s = ((sits_one n _ (λ c. refl)).law w.live).seats in
    record { lines = λ d. lines_sit d w.live.board.connections v.live.board.connections s; editors = λ d. editor_sits d w.live.board.connections v.live.board.connections s }
event_seated (Stored k) w party l told rising =
    let v : World = happened w party (Stored k) in
    let s = (sits_each (askers_of w.dumps) (dump_stored k) (resaved saved w.live)).seats in
    record { lines = λ d. lines_sit d w.live.board.connections v.live.board.connections s; editors = λ d. editor_sits d w.live.board.connections v.live.board.connections s }
event_seated (DumpFailed k) w party l told rising =
    let v : World = happened w party (DumpFailed k) in
    let s = (sits_each (askers_of w.dumps) dump_failed (resaved due_again w.live)).seats in
    record { lines = λ d. lines_sit d w.live.board.connections v.live.board.connections s; editors = λ d. editor_sits d w.live.board.connections v.live.board.connections s }
event_seated event w party l told rising = record { lines = λ d. refl; editors = λ d. refl }

-- in a dead world nothing but Died happens again
dead_seated : (event : Event) (w : World) (party : ℕ) → is_died event ≡ true → Seated event w (happened w party event)
dead_seated Died w party l = record { lines = λ d. refl; editors = λ d. refl }
dead_seated event w party l = absurd cc

entry_seated : (entry : Entry) (w : World) → is_lawful w entry ≡ true → IsTold w.live → IsRising w.live.board.connections → Seated entry.event w (happened w entry.party entry.event)
unfolding is_lawful
entry_seated entry w l told rising = at w.dead l
  where
    at : (dead : Bool) → cond dead (is_died entry.event) (is_allowed w entry.party entry.event) ≡ true → Seated entry.event w (happened w entry.party entry.event)
    at true k = dead_seated entry.event w entry.party k
    at false k = event_seated entry.event w entry.party k told rising

-- whole histories
all_seated : (w : World) (es : List Entry) → IsTold w.live → IsRising w.live.board.connections → AllLawful w es → AllSeated w es
all_seated w [] told rising l = tt
all_seated w (entry ∷ entries) told rising l =
    (entry_seated entry w l.0 told rising, all_seated (effect w entry) entries (told_effect w entry told) (rising_effect w entry l.0 rising) l.1)

pub all_seated_booted : (objects : List Objects) (tune : Tune) (moment start : ℕ) → ((n : ℕ) → mark_in objects n ≡ None) → (es : List Entry) → AllLawful (world_booted objects tune moment start) es → AllSeated (world_booted objects tune moment start) es
unfolding world_booted early_board
all_seated_booted objects tune moment start none es l = all_seated (world_booted objects tune moment start) es none tt l
