-- What changes neither the lines that wait on a connection nor its editor: whatever acts.
use Rattle.std.proofs.Common.{◌≡◌, ℕ, List, refl, ◌∙◌, Option, None}
use Rattle.std.specs.Prelude.{map}
use Rattle.std.proofs.lemmas.Bool.{false≢true}
use Rattle.muck_model.specs.declared.dbref.Dbref.{Dbref}
use Rattle.muck_model.specs.declared.dbref.Denial.{Denial}
use Rattle.muck_model.specs.declared.edit.EditState.{EditState}
use Rattle.spec_live.specs.Connections.{Connection, left, player_seated}
use Rattle.spec_live.specs.Boards.{Board, on_connection, leaving_one, seated_one}
use Rattle.spec_live.specs.Lives.{Live, Change, on_board, tell, tell_player, leave, draw}
use Rattle.spec_live.proofs.Keeping.{Keeps, Order, along, keeps_more}
use Rattle.spec_live.proofs.Lives.{viewed_one, viewed_where, viewed_again, mute, Quiet, BoardStep, opens, closes, leaves_one, leaves, seats as takes, tunes, LiveStep, objects, board, shows, hears, Goes}
use Rattle.spec_rights.specs.declared.act.Actor.{Actor}
use Rattle.spec_rights.specs.Asking.{refused}
use Rattle.spec_rights.proofs.Walking.{acts}
use Rattle.spec_rights.proofs.Shown.{quiet_tell, quiet_tell_player, quiet_draw, quiet_refused}
use Rattle.spec_commands.specs.declared.edit.EditStep.{EditStep}
use Rattle.spec_commands.specs.declared.outcome.Outcome.{Outcome}
use Rattle.spec_commands.specs.Editing.{edited_by_line}
use Rattle.spec_commands.specs.Talk.{at_login, player_parted}
use Rattle.spec_commands.proofs.Edited.{edited_proper}
use Rattle.spec_commands.proofs.Lines.{seating_at_login, quiet_parted}
use Rattle.muck_queue.specs.Queues.{Queue}
use Rattle.spec_events.specs.Lines.{typed}
use Rattle.spec_events.proofs.Typed.{typed_open}

-- a connection with the lines that wait on it and its editor
abbrev pub seat : Connection → ℕ × List (List ℕ) × Option EditState
seat c = (c.number, c.waiting, c.editor)

abbrev pub seats : List Connection → List (ℕ × List (List ℕ) × Option EditState)
seats cs = map seat cs

pub record Sits (w v : Live) : Type 0 where
  pub seats : seats v.board.connections ≡ seats w.board.connections

abbrev pub Sitting : Change → Type 0
Sitting f = Keeps Sits f

pub sits_order : Order Sits
sits_order = record { itself = λ w. record { seats = refl }; both = λ u v w r s. record { seats = s.seats ∙ r.seats } }

board_sits : (b c : Board) → BoardStep acts b c → seats c.connections ≡ seats b.connections
unfolding leaving_one seated_one
board_sits _ _ (opens d greeting b h) = absurd (false≢true h)
board_sits _ _ (closes d b h) = absurd (false≢true h)
board_sits _ _ (leaves_one d b h) = viewed_one seat d left (λ c. refl) b.connections
board_sits _ _ (leaves test b h) = viewed_where seat test left (λ c. refl) b.connections
board_sits _ _ (takes d player b h) = viewed_one seat d (player_seated player) (λ c. refl) b.connections
board_sits _ _ (tunes tune b h) = absurd (false≢true h)

step_sits : (w v : Live) → LiveStep acts w v → Sits w v
step_sits _ _ (objects es w s) = record { seats = refl }
step_sits _ _ (board b w s) = record { seats = board_sits w.board b s }
step_sits _ _ (shows w v h s) = record { seats = viewed_again mute seat w.board.connections v.board.connections s.connections }
step_sits _ _ (hears w v h s) = absurd (false≢true h)

pub sits_along : (w v : Live) → Goes acts w v → Sits w v
sits_along w v p = along sits_order step_sits w v p

-- What is shown alone, and who leaves.

sits_quiet : (f : Change) → Quiet f → Sitting f
sits_quiet f q = keeps_more f (λ w v s. step_sits w v (shows w v refl s)) q

pub sits_tell : (d : ℕ) (text : List ℕ) → Sitting (tell d text)
sits_tell d text = sits_quiet _ (quiet_tell d text)

pub sits_tell_player : (player : Dbref) (text : List ℕ) → Sitting (tell_player player text)
sits_tell_player player text = sits_quiet _ (quiet_tell_player player text)

pub sits_refused : (d : ℕ) (denial : Denial) → Sitting (refused d denial)
sits_refused d denial = sits_quiet _ (quiet_refused d denial)

pub sits_parted : (player : Option Dbref) → Sitting (player_parted player)
sits_parted player = sits_quiet _ (quiet_parted player)

pub sits_draw : Sitting draw
sits_draw = sits_quiet _ quiet_draw

pub sits_one : (d : ℕ) (f : Connection → Connection) → ((c : Connection) → seat (f c) ≡ seat c) → Sitting (on_board (on_connection d f))
sits_one d f keeps = record { law = λ w. record { seats = viewed_one seat d f keeps w.board.connections } }

pub sits_leave : (d : ℕ) → Sitting (leave d)
unfolding leave leaving_one
sits_leave d = sits_one d left (λ c. refl)

-- A line of a player, of the editor and of the login screen.

pub plays_typed : (q : Queue) (d : ℕ) (a : Actor) (line : List ℕ) → Keeps (λ (w : Live) (y : Live × Outcome). Sits w y.0) (typed q d a line)
plays_typed q d a line = record { law = λ w. sits_along w _ (((typed_open a None q d line).law w).law tt tt).goes }

pub sits_edited : (d : ℕ) (a : Actor) (s : EditState) (line : List ℕ) → Keeps (λ (w : Live) (y : Live × EditState × EditStep). Sits w y.0) (edited_by_line d a s line)
sits_edited d a s line = record { law = λ w. sits_along w _ (edited_proper d a s line w).goes }

pub sits_login : (d : ℕ) (line : List ℕ) → Sitting (at_login d line)
sits_login d line = record { law = λ w. sits_along w _ ((seating_at_login d line).law w).goes }
