-- A salt that is drawn, and the password under it.
use Rattle.std.proofs.Common.{◌≡◌, ℕ, true, List, None, Result, Ok, Err, sym, ◌∙◌, ap, subst}
use Rattle.muck_model.specs.declared.memory.NoMemory.{NoMemory}
use Rattle.muck_model.specs.declared.dbref.Dbref.{Dbref}
use Rattle.spec_live.specs.Lives.{Live, draw, random_word, reading, change_followed}
use Rattle.spec_live.specs.Setting.{password_check}
use Rattle.spec_rights.specs.declared.act.Act.{Act}
use Rattle.spec_rights.specs.declared.act.Actor.{Actor}
use Rattle.spec_rights.specs.Changing.{password_kept}
use Rattle.spec_rights.specs.Verdict.{verdict}
use Rattle.spec_commands.specs.Building.{allowed}
use Rattle.spec_admin.specs.Players.{salt_of, password_drawn}
use Rattle.muck_perm.specs.declared.guard.Guard.{Guard}
use Rattle.muck_perm.specs.declared.rules.Pass.{Pass}
use Rattle.muck_perm.specs.inner.Guards.{Did, Done, IsLeave, objects_of, world_of}
use Rattle.muck_perm.proofs.Worlds.{kept_after, same_after}

-- the objects stay where a word is drawn
pub objects_drawn : (a b : Guard) → Done draw a b → objects_of b ≡ objects_of a
unfolding draw
objects_drawn a b s = ap (λ (w : Live). w.objects) s.0

-- and so does leave
pub leave_drawn : (pass : Pass) (act : Act) (a b : Guard) → IsLeave pass act a → Done draw a b → IsLeave pass act b
leave_drawn pass act a b leave s =
    let P : Actor → Type 0 = λ actor. verdict (objects_of b) actor act ≡ None in
    let here : verdict (objects_of b) a.actor act ≡ None = ap (λ es. verdict es a.actor act) (objects_drawn a b s) ∙ leave.2 in
    (leave.0 ∙ sym s.1.0, leave.1, subst P (sym s.1.0) here)

pub allowed_drawn : (x : Dbref) (a b : Guard) → allowed (password_check x (objects_of a)) ≡ true → Done draw a b → allowed (password_check x (objects_of b)) ≡ true
allowed_drawn x a b may s = ap (λ es. allowed (password_check x es)) (objects_drawn a b s) ∙ may

-- a password under a salt that was drawn
pub password_given : (x : Dbref) (word : List ℕ) (first second : ℕ) (a b c new : Guard) (r : Result (Unit {0}) NoMemory) → first ≡ random_word (world_of a) → Done draw a b → second ≡ random_word (world_of b) → Done draw b c →
    Did (password_kept x (salt_of first second) word) c new r → Did (password_drawn x word) a new r
unfolding password_drawn reading change_followed
password_given x word first second a b c new (Ok u) one s two t kept =
    let drawn : world_of c ≡ draw (draw (world_of a)) = t.0 ∙ ap draw s.0 in
    let next : second ≡ random_word (draw (world_of a)) = two ∙ ap random_word s.0 in (
      kept.0 ∙ (ap (password_kept x (salt_of first second) word) drawn
          ∙ (ap (λ n. password_kept x (salt_of n second) word (draw (draw (world_of a)))) one
          ∙ ap (λ n. password_kept x (salt_of (random_word (world_of a)) n) word (draw (draw (world_of a)))) next)),
      kept_after a c new (kept_after a b c s.1 t.1) kept.1,
    )
password_given x word first second a b c new (Err e) one s two t kept = same_after a c new (same_after a b c s.1.1 t.1.1) kept
