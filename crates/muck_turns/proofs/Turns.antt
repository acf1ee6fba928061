-- The first line that waits on a connection.
use Rattle.std.proofs.Common.{◌≡◌, ℕ, true, false, cond, List, [], ◌∷◌, Option, Some, None, refl, sym, ◌∙◌, ap, find}
use Rattle.std.proofs.lemmas.Bool.{cond-true, cond-false}
use Rattle.std.specs.Option.{option_and_then}
use Rattle.muck_model.specs.declared.dbref.Dbref.{Dbref}
use Rattle.spec_live.specs.Connections.{Connection, is_connection, changed_in, editor_set}
use Rattle.spec_live.specs.Boards.{Board, on_connection, editor_in, edited_one, with_connections}
use Rattle.muck_board.specs.inner.Lines.{HasNoLine, HasLine, BoardTakesLine}
use Rattle.spec_live.specs.Lives.{Live}
use Rattle.spec_commands.specs.declared.outcome.Outcome.{Outcome}
use Rattle.spec_commands.specs.Finding.{actor_of}
use Rattle.spec_commands.specs.Talk.{waits}
use Rattle.spec_events.specs.World.{World, connection}
use Rattle.muck_queue.specs.Queues.{reader}
use Rattle.spec_events.specs.Lines.{command, typed, in_world, line_for, first_line_done, spoken_by, line_spoken, spoken}

-- The editor of a connection.

-- on a connection that loses waiting lines the editor is as before
editor_kept : (d : ℕ) (lines : List (List ℕ)) (cs : List Connection) →
    option_and_then (λ (c : Connection). c.editor) (find (is_connection d) (changed_in d (λ c. record c { waiting = lines }) cs)) ≡ option_and_then (λ (c : Connection). c.editor) (find (is_connection d) cs)
editor_kept d lines [] = refl
editor_kept d lines (c ∷ cs) =
    (elim (is_connection d c) as (λ b. is_connection d c ≡ b →
    option_and_then (λ (c : Connection). c.editor) (find (is_connection d) (cond b (record c { waiting = lines } ∷ cs) (c ∷ changed_in d (λ c. record c { waiting = lines }) cs))) ≡ option_and_then (λ (c : Connection). c.editor) (cond b (Some c) (find (is_connection d) cs))) [
      | true ↦ λ r. ap (λ o. option_and_then (λ (c : Connection). c.editor) o) (cond-true _ _ _ r)
      | false ↦ λ r. ap (λ o. option_and_then (λ (c : Connection). c.editor) o) (cond-false _ _ _ r) ∙ editor_kept d lines cs
    ]) refl

-- where nothing is edited, nothing changes when the editor is taken out
unedited : (d : ℕ) (cs : List Connection) → option_and_then (λ (c : Connection). c.editor) (find (is_connection d) cs) ≡ None → changed_in d (editor_set None) cs ≡ cs
unedited d [] = λ h. refl
unedited d (c ∷ cs) =
    elim (is_connection d c) as (λ b. option_and_then (λ (c : Connection). c.editor) (cond b (Some c) (find (is_connection d) cs)) ≡ None → cond b (editor_set None c ∷ cs) (c ∷ changed_in d (editor_set None) cs) ≡ c ∷ cs) [
      | true ↦ λ h. ap (λ e. record c { editor = e } ∷ cs) (sym h)
      | false ↦ λ h. ap (λ (rest : List Connection). c ∷ rest) (unedited d cs h)
    ]

unedited_board : (d : ℕ) (b : Board) → editor_in d b ≡ None → edited_one d None b ≡ b
unfolding edited_one
unedited_board d b h = ap (λ (cs : List Connection). with_connections cs b) (unedited d b.connections h)

-- a command, where no editor was there to be taken out
pub unedited_taken : (d : ℕ) (player : Dbref) (line : List ℕ) (w : World) (b : Board) → None ≡ editor_in d w.live.board → b ≡ edited_one d None w.live.board →
    in_world d player line (record w { live = record w.live { board = b } }) ≡ command (Some player) (editor_in d w.live.board) d line w
unedited_taken d player line w b n e =
    ap (λ (x : Board). in_world d player line (record w { live = record w.live { board = x } })) (e ∙ unedited_board d w.live.board (sym n))
    ∙ ap (λ editor. command (Some player) editor d line w) n

-- nor does it say otherwise what the line says
pub unedited_said : (d : ℕ) (player : Dbref) (line : List ℕ) (w : World) (b : Board) → None ≡ editor_in d w.live.board → b ≡ edited_one d None w.live.board →
    spoken_by player (typed w.queue d (actor_of w.live.objects player) line (record w.live { board = b })) ≡ line_spoken None (Some player) (editor_in d w.live.board) d line w
unedited_said d player line w b n e =
    ap (λ (x : Board). spoken_by player (typed w.queue d (actor_of w.live.objects player) line (record w.live { board = x }))) (e ∙ unedited_board d w.live.board (sym n))
    ∙ ap (λ editor. line_spoken None (Some player) editor d line w) n

-- what a command says, by its parts
pub said_so : (player : Dbref) (r : Live × Outcome) (live : Live) (outcome : Outcome) (said : Option (Dbref × List ℕ)) → live ≡ r.0 → outcome ≡ r.1 → said ≡ spoken_by player (live, outcome) → said ≡ spoken_by player r
said_so player r live outcome said l o s = s ∙ ap (λ (x : Live). spoken_by player (x, outcome)) l ∙ ap (λ (x : Outcome). spoken_by player (r.0, x)) o

-- Lines.

-- where a line waits, the line is done when it was taken
line_by : (d : ℕ) (w : World) (b : Board) (player : Option Dbref) (line : List ℕ) (lines : List (List ℕ)) (o : Option Connection) → HasLine o player line lines → b ≡ on_connection d (λ c. record c { waiting = lines }) w.live.board →
    first_line_done d o w ≡ line_for (reader d w.queue) player (option_and_then (λ (c : Connection). c.editor) o) d line (record w { live = record w.live { board = b } })
unfolding first_line_done waits
line_by d w b player line lines None h e = absurd h
line_by d w b player line lines (Some c) h e = rw (h.0, h.1) (ap (λ (x : Board). line_for (reader d w.queue) player c.editor d line (record w { live = record w.live { board = x } })) (sym e))

taken_board : (d : ℕ) (b new : Board) (player : Option Dbref) (line : List ℕ) → (h : BoardTakesLine d b new (Some (player, line))) → new ≡ on_connection d (λ c. record c { waiting = h.0.0 }) b
taken_board d b new player line h = h.1 ∙ ap (λ (cs : List Connection). with_connections cs b) h.0.2

editor_as_before : (d : ℕ) (b new : Board) (player : Option Dbref) (line : List ℕ) → BoardTakesLine d b new (Some (player, line)) → editor_in d new ≡ editor_in d b
editor_as_before d b new player line h = ap (λ (x : Board). editor_in d x) (taken_board d b new player line h) ∙ editor_kept d h.0.0 b.connections

pub line_taken : (d : ℕ) (w : World) (b : Board) (player : Option Dbref) (line : List ℕ) → BoardTakesLine d w.live.board b (Some (player, line)) →
    line_for (reader d w.queue) player (editor_in d b) d line (record w { live = record w.live { board = b } }) ≡ first_line_done d (connection d w) w
line_taken d w b player line h =
    ap (λ editor. line_for (reader d w.queue) player editor d line (record w { live = record w.live { board = b } })) (editor_as_before d w.live.board b player line h)
    ∙ sym (line_by d w b player line h.0.0 (connection d w) h.0.1 (taken_board d w.live.board b player line h))

said_by_line : (d : ℕ) (w : World) (b : Board) (player : Option Dbref) (line : List ℕ) (lines : List (List ℕ)) (o : Option Connection) → HasLine o player line lines → b ≡ on_connection d (λ c. record c { waiting = lines }) w.live.board →
    spoken d o w ≡ line_spoken (reader d w.queue) player (option_and_then (λ (c : Connection). c.editor) o) d line (record w { live = record w.live { board = b } })
unfolding spoken waits
said_by_line d w b player line lines None h e = absurd h
said_by_line d w b player line lines (Some c) h e = rw (h.0, h.1) (ap (λ (x : Board). line_spoken (reader d w.queue) player c.editor d line (record w { live = record w.live { board = x } })) (sym e))

pub line_said : (d : ℕ) (w : World) (b : Board) (player : Option Dbref) (line : List ℕ) → BoardTakesLine d w.live.board b (Some (player, line)) →
    line_spoken (reader d w.queue) player (editor_in d b) d line (record w { live = record w.live { board = b } }) ≡ spoken d (connection d w) w
line_said d w b player line h =
    ap (λ editor. line_spoken (reader d w.queue) player editor d line (record w { live = record w.live { board = b } })) (editor_as_before d w.live.board b player line h)
    ∙ sym (said_by_line d w b player line h.0.0 (connection d w) h.0.1 (taken_board d w.live.board b player line h))

-- where none waits, nothing is said
unsaid_by : (d : ℕ) (w : World) (o : Option Connection) → HasNoLine o → None ≡ spoken d o w
unfolding spoken
unsaid_by d w None h = refl
unsaid_by d w (Some c) h = rw h refl

pub none_said : (d : ℕ) (w : World) (b : Board) → BoardTakesLine d w.live.board b None → None ≡ spoken d (connection d w) w
none_said d w b h = unsaid_by d w (connection d w) h.0.0

-- and nothing is done
none_by : (d : ℕ) (w : World) (o : Option Connection) → HasNoLine o → first_line_done d o w ≡ w
unfolding first_line_done
none_by d w None h = refl
none_by d w (Some c) h = rw h refl

pub none_taken : (d : ℕ) (w : World) (b : Board) → BoardTakesLine d w.live.board b None → record w { live = record w.live { board = b } } ≡ first_line_done d (connection d w) w
none_taken d w b h =
    let e : b ≡ w.live.board = h.1 ∙ ap (λ (cs : List Connection). with_connections cs w.live.board) h.0.1 in
    ap (λ (x : Board). record w { live = record w.live { board = x } }) e ∙ sym (none_by d w (connection d w) h.0.0)
