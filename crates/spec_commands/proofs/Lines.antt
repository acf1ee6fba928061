-- What a line does at the login screen changes connections alone.
use Rattle.std.proofs.Common.{ℕ, Bool, true, false, List, [], ◌∷◌, Option, Some, None}
use Rattle.muck_model.specs.declared.dbref.Dbref.{Dbref}
use Rattle.spec_live.specs.Lives.{tell}
use Rattle.spec_rights.specs.Licence.{nobody}
use Rattle.spec_rights.proofs.Licences.{Quiet, stays_goes, quiet_unchanged}
use Rattle.spec_rights.proofs.Shown.{quiet_tell}
use Rattle.spec_commands.specs.Replies.{goodbye, has_disconnected}
use Rattle.spec_live.proofs.Keeping.{keeps_followed, keeps_reading, keeps_either}
use Rattle.spec_commands.specs.Talk.{welcome, refused_login, let_in, logged_in, connecting, quit, at_login, parting, player_parted}
use Rattle.spec_commands.proofs.Numbered.{Seating, seating_order, seating_quiet, seating_notes, seating_leave, seating_enter}
use Rattle.spec_commands.proofs.Showing.{quiet_shown_others, quiet_who_shown, stays_looked}
use Rattle.spec_commands.proofs.Noted.{notes_looked}

-- The login screen.

seating_tell : (d : ℕ) (text : List ℕ) → Seating d (tell d text)
seating_tell d text = seating_quiet d _ (quiet_tell d text)

seating_quit : (d : ℕ) → Seating d (quit d)
unfolding quit
seating_quit d = keeps_followed _ _ (seating_order d) (seating_tell d goodbye) (seating_leave d)

seating_let_in : (d : ℕ) (player : Option Dbref) → Seating d (let_in d player)
seating_let_in d None = seating_tell d refused_login
seating_let_in d (Some player) = keeps_followed _ _ (seating_order d) (seating_enter d player) (keeps_reading _ _ (λ a. keeps_followed _ _ (seating_order d) (seating_quiet d _ (quiet_shown_others player _)) (seating_notes d _ (notes_looked d a _) (stays_goes a nobody _ (stays_looked a nobody None d _)))))

seating_logged_in : (d : ℕ) (name word : List ℕ) → Seating d (logged_in d name word)
unfolding logged_in
seating_logged_in d name word = keeps_reading _ (let_in d) (seating_let_in d)

seating_connecting : (d : ℕ) (name word : List ℕ) → Seating d (connecting d name word)
unfolding connecting
seating_connecting d name [] = seating_tell d welcome
seating_connecting d name (b ∷ word) = seating_logged_in d name (b ∷ word)

pub seating_at_login : (d : ℕ) (line : List ℕ) → Seating d (at_login d line)
unfolding at_login
seating_at_login d line =
    keeps_either _ _ _ (seating_quit d)
    (keeps_either _ _ _ (seating_quiet d _ (quiet_who_shown d)) (keeps_either _ _ _ (seating_connecting d _ _) (seating_tell d welcome)))

-- Going away.

quiet_parting : (others : Bool) (player : Dbref) → Quiet (parting others player)
quiet_parting true player = quiet_unchanged
quiet_parting false player = quiet_shown_others player has_disconnected

pub quiet_parted : (player : Option Dbref) → Quiet (player_parted player)
unfolding player_parted
quiet_parted None = quiet_unchanged
quiet_parted (Some player) = keeps_reading _ (λ others. parting others player) (λ others. quiet_parting others player)
