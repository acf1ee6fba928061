-- What a line of the login screen may change.
use Rattle.std.proofs.Common.{◌≡◌, ℕ, Bool, true, false, cond, zero, suc, List, [], ◌∷◌, refl, ap, ◌∙◌, Option, Some, None, inl, inr, ◌⊎◌}
use Rattle.std.specs.Prelude.{codes, map, slice_get}
use Rattle.std.specs.Option.{option_and_then}
use Rattle.muck_model.specs.declared.dbref.Dbref.{Dbref}
use Rattle.spec_live.specs.Objects.{Entry, mark_in}
use Rattle.spec_live.specs.Boards.{leaving_one}
use Rattle.spec_live.specs.Lives.{Live, Change, change_followed, reading, either, ◌▸◌, tell, leave, enter}
use Rattle.spec_live.proofs.Keeping.{Keeps, keeps_followed}
use Rattle.spec_rights.specs.declared.act.Actor.{Actor}
use Rattle.spec_rights.specs.Licence.{Licensed, nobody}
use Rattle.spec_rights.proofs.Licences.{Quiet, Stays, Always, itself, ends_stays, licensed, stays_behind, whole_ends}
use Rattle.spec_rights.proofs.Shown.{quiet_tell}
use Rattle.spec_mpi.specs.Touching.{without_props, TouchesNotes}
use Rattle.spec_mpi.proofs.Deeds.{touching_order}
use Rattle.spec_commands.specs.Texts.{first_word, other_words, trimmed, is_alike}
use Rattle.spec_commands.specs.Replies.{goodbye, has_connected}
use Rattle.spec_commands.specs.Messages.{look_typed}
use Rattle.spec_commands.specs.Finding.{actor_of, shown_others, place_looked_at}
use Rattle.spec_commands.specs.Talking.{who_shown}
use Rattle.spec_commands.specs.Talk.{welcome, refused_login, proved, let_in, logged_in, connecting, quit, at_login}
use Rattle.spec_commands.proofs.Showing.{quiet_shown_others, quiet_who_shown, stays_looked}
use Rattle.spec_commands.proofs.Noted.{notes_shown_others, notes_looked}
use Rattle.spec_events.specs.Licences.{Untouched}
use Rattle.spec_events.proofs.Endings.{IsTold}

-- What a player sees who has connected.

abbrev pub greeted : ℕ → Dbref → Actor → Change
greeted d player a = shown_others player has_connected ▸ place_looked_at d a look_typed

stays_greeted : (d : ℕ) (player : Dbref) (a : Actor) → Stays a nobody None (greeted d player a)
stays_greeted d player a = stays_behind a nobody None _ _ (quiet_shown_others player has_connected) (stays_looked a nobody None d look_typed)

pub greeted_open : (d : ℕ) (player : Dbref) (a : Actor) (w : Live) → Licensed a nobody w (greeted d player a w)
greeted_open d player a w =
    let f : Change = greeted d player a in
    licensed itself a None (λ es. nobody) f (whole_ends itself a None (λ es. nobody) Always f (λ v h. ends_stays a nobody None f (stays_greeted d player a))) w tt

greeted_notes : (d : ℕ) (player : Dbref) (a : Actor) → Keeps TouchesNotes (greeted d player a)
greeted_notes d player a = keeps_followed _ _ touching_order (notes_shown_others player has_connected) (notes_looked d a look_typed)

-- Nothing, or a player is let in.

abbrev pub Screen : ℕ → Live → Live → Type 0
Screen d w v = Untouched w v ⊎ ((player : Dbref) × Licensed (actor_of w.objects player) nobody (enter d player w) v × TouchesNotes (enter d player w) v)

screen_quiet : (d : ℕ) (f : Change) → Quiet f → (w : Live) → Screen d w (f w)
screen_quiet d f q w = let s = q.law w in inl (record { objects = s.objects; tune = s.tune })

screen_quit : (d : ℕ) (w : Live) → Screen d w (quit d w)
unfolding quit change_followed leave leaving_one
screen_quit d w = let s = (quiet_tell d goodbye).law w in inl (record { objects = s.objects; tune = s.tune })

screen_let_in : (d : ℕ) (player : Option Dbref) (w : Live) → Screen d w (let_in d player w)
unfolding change_followed reading enter
screen_let_in d None w = screen_quiet d (tell d refused_login) (quiet_tell d refused_login) w
screen_let_in d (Some player) w =
    let a : Actor = actor_of w.objects player in
    inr (player, greeted_open d player a (enter d player w), (greeted_notes d player a).law (enter d player w))

screen_connecting : (d : ℕ) (name word : List ℕ) (w : Live) → Screen d w (connecting d name word w)
unfolding connecting logged_in reading
screen_connecting d name [] w = screen_quiet d (tell d welcome) (quiet_tell d welcome) w
screen_connecting d name (b ∷ word) w = screen_let_in d (proved name (b ∷ word) w.objects) w

pub screen_at_login : (d : ℕ) (line : List ℕ) (w : Live) → Screen d w (at_login d line w)
unfolding at_login either
screen_at_login d line w =
    let text = trimmed line in
    let rest = trimmed (other_words text) in
    at (is_alike text (codes "QUIT")) (is_alike text (codes "WHO")) (is_alike (first_word text) (codes "connect")) (first_word rest) (trimmed (other_words rest))
  where
    at : (quits asks connects : Bool) (name word : List ℕ) → Screen d w (cond quits (quit d w) (cond asks (who_shown d w) (cond connects (connecting d name word w) (tell d welcome w))))
    at true asks connects name word = screen_quit d w
    at false true connects name word = screen_quiet d _ (quiet_who_shown d) w
    at false false true name word = screen_connecting d name word w
    at false false false name word = screen_quiet d (tell d welcome) (quiet_tell d welcome) w

-- Where notes alone differ, what is to be told is the same.

mark_same : (es fs : List Entry) → map without_props fs ≡ map without_props es → (n : ℕ) → option_and_then (λ (e : Entry). e.mark) (slice_get fs n) ≡ option_and_then (λ (e : Entry). e.mark) (slice_get es n)
mark_same [] [] h n = refl
mark_same [] (f ∷ fs) h n = absurd cc
mark_same (e ∷ es) [] h n = absurd cc
mark_same (e ∷ es) (f ∷ fs) h zero = let head : without_props f ≡ without_props e = cc in ap (λ (x : Entry). x.mark) head
mark_same (e ∷ es) (f ∷ fs) h (suc n) = let rest : map without_props fs ≡ map without_props es = cc in mark_same es fs rest n

pub told_notes : (w v : Live) → map without_props v.objects ≡ map without_props w.objects → IsTold w → IsTold v
unfolding mark_in
told_notes w v e h n = mark_same w.objects v.objects e n ∙ h n
