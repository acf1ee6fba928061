-- A password that is changed.
use Rattle.std.proofs.Common.{◌≡◌, ℕ, true, List, None, Result, Ok, Err, sym, ◌∙◌, ap}
use Rattle.muck_model.specs.declared.dbref.Dbref.{Dbref}
use Rattle.muck_model.specs.declared.memory.NoMemory.{NoMemory}
use Rattle.spec_live.specs.Setting.{password_check}
use Rattle.spec_live.specs.Lives.{Change, either, tell}
use Rattle.spec_rights.specs.declared.act.Actor.{Actor}
use Rattle.spec_rights.specs.declared.act.Act.TheVariants.{Password}
use Rattle.spec_rights.specs.Asking.{denial_answered, asked, refused}
use Rattle.spec_rights.specs.Verdict.{verdict}
use Rattle.spec_commands.specs.Building.{allowed, done_where, change_by_leave}
use Rattle.spec_commands.specs.Replies.{cant_be_done}
use Rattle.spec_admin.specs.Players.{is_password, password_drawn, password_changed}
use Rattle.spec_admin.specs.Replies.{password_reply}
use Rattle.muck_perm.specs.declared.guard.Guard.{Guard}
use Rattle.muck_perm.specs.inner.Guards.{Did, objects_of, world_of}

abbrev changes : ℕ → Dbref → List ℕ → Change
changes d x word = done_where d (λ w. allowed (password_check x w.objects)) (password_drawn x word) password_reply

abbrev asks : ℕ → Actor → Dbref → List ℕ → Change
asks d a x word = change_by_leave d a (Password x) (λ w. allowed (password_check x w.objects)) (password_drawn x word) password_reply

-- where it isn't too long, and no rule denies it
pub password_by : (d : ℕ) (a : Actor) (x : Dbref) (word : List ℕ) (old new : Guard) (r : Result (Unit {0}) NoMemory) → is_password word ≡ true → verdict (objects_of old) a (Password x) ≡ None →
    Did (changes d x word) old new r → Did (password_changed d a x word) old new r
unfolding password_changed change_by_leave asked either
password_by d a x word old new (Ok u) short may t =
    let is : password_changed d a x word (world_of old) ≡ changes d x word (world_of old) =
    ap (λ b. either b (asks d a x word) (tell d cant_be_done) (world_of old)) short ∙ ap (λ o. denial_answered o (refused d) (changes d x word) (world_of old)) may in
    (t.0 ∙ sym is, t.1)
password_by d a x word old new (Err e) short may t = t
