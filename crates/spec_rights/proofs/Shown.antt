-- Changes that only show something.
use Rattle.std.proofs.Common.{◌≡◌, ℕ, List, [], ◌∷◌, refl}
use Rattle.muck_model.specs.declared.dbref.Dbref.{Dbref}
use Rattle.muck_model.specs.declared.dbref.Denial.{Denial}
use Rattle.spec_live.specs.Connections.{Connection, text_told, is_connection_of, hears, has_player}
use Rattle.spec_live.specs.Boards.{on_connection, told_one, told_player, told_others, told_all, random_drawn}
use Rattle.spec_live.specs.Lives.{on_board, tell, tell_player, tell_but, tell_others, tell_all, draw, place_of}
use Rattle.spec_rights.specs.Asking.{refused}
use Rattle.spec_live.proofs.Lives.{viewed_one, viewed_where, mute, tie, Quiet, Loose, quiet_order, quiet_unchanged}
use Rattle.spec_live.proofs.Keeping.{keeping}

-- what of a connection isn't judged, as what waits to be sent there; and what waits there and what is edited

pub quiet_one : (d : ℕ) (f : Connection → Connection) → ((c : Connection) → mute (f c) ≡ mute c) → Quiet (on_board (on_connection d f))
quiet_one d f keeps = record { law = λ w. record { objects = refl; connections = viewed_one mute d f keeps w.board.connections; tune = refl } }

pub loose_one : (d : ℕ) (f : Connection → Connection) → ((c : Connection) → tie (f c) ≡ tie c) → Loose (on_board (on_connection d f))
loose_one d f keeps = record { law = λ w. record { objects = refl; ties = viewed_one tie d f keeps w.board.connections; tune = refl } }

pub quiet_tell : (d : ℕ) (text : List ℕ) → Quiet (tell d text)
unfolding tell told_one
quiet_tell d text = quiet_one d (text_told text) (λ c. refl)

pub quiet_tell_player : (player : Dbref) (text : List ℕ) → Quiet (tell_player player text)
unfolding tell_player told_player
quiet_tell_player player text = record { law = λ w. record { objects = refl; connections = viewed_where mute (is_connection_of player) (text_told text) (λ c. refl) w.board.connections; tune = refl } }

pub quiet_tell_but : (room : Dbref) (but : List Dbref) (text : List ℕ) → Quiet (tell_but room but text)
unfolding tell_but told_others
quiet_tell_but room but text = record { law = λ w. record { objects = refl; connections = viewed_where mute (hears (λ p. place_of p w.objects) room but) (text_told text) (λ c. refl) w.board.connections; tune = refl } }

pub quiet_tell_others : (room but : Dbref) (text : List ℕ) → Quiet (tell_others room but text)
unfolding tell_others
quiet_tell_others room but text = quiet_tell_but room (but ∷ []) text

pub quiet_tell_all : (text : List ℕ) → Quiet (tell_all text)
unfolding tell_all told_all
quiet_tell_all text = record { law = λ w. record { objects = refl; connections = viewed_where mute has_player (text_told text) (λ c. refl) w.board.connections; tune = refl } }

pub quiet_draw : Quiet draw
unfolding draw random_drawn
quiet_draw = record { law = λ w. record { objects = refl; connections = refl; tune = refl } }

pub ruleset showing = (quiet_unchanged, keeping, quiet_order, quiet_tell, quiet_tell_player, quiet_tell_but, quiet_tell_others, quiet_tell_all, quiet_draw)

pub quiet_refused : (d : ℕ) (denial : Denial) → Quiet (refused d denial)
unfolding refused
quiet_refused d denial = search showing

-- whatever only shows
pub ruleset shown = (showing, quiet_refused)
