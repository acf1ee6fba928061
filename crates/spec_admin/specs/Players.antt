-- Making players, and changing passwords.
use Rattle.std.specs.Prelude.{ℕ, ◌+◌, ◌*◌, nat_le, Bool, List, length}
use Rattle.muck_model.specs.declared.dbref.Dbref.{Dbref}
use Rattle.muck_model.specs.declared.dbref.Kind.TheVariants.{Player}
use Rattle.spec_live.specs.Objects.{dbref_of}
use Rattle.spec_live.specs.Making.{create_check}
use Rattle.spec_live.specs.Setting.{password_check}
use Rattle.spec_live.specs.Lives.{Change, ◌▸◌, reading, either, where_so, tell, draw, random_word}
use Rattle.spec_rights.specs.declared.act.Actor.{Actor}
use Rattle.spec_rights.specs.declared.act.Act.TheVariants.{Wizard, Password}
use Rattle.spec_rights.specs.Asking.{asked, refused}
use Rattle.spec_rights.specs.Changing.{created_so, password_kept}
use Rattle.spec_commands.specs.Replies.{cant_be_done, bad_name}
use Rattle.spec_commands.specs.Building.{allowed, created_shown, is_player_name, made_at, change_by_leave}
use Rattle.spec_admin.specs.Replies.{password_reply}

-- the most bytes of a password
unfoldable pub password_most : ℕ
password_most = 32

abbrev pub is_password : List ℕ → Bool
is_password word = nat_le (length word) password_most

-- a salt is two random words, the first of them the upper half
abbrev pub salt_of : ℕ → ℕ → ℕ
salt_of first second = first * 4294967296 + second

-- a player gets a password, under a salt that is drawn for it
unfoldable pub password_drawn : Dbref → List ℕ → Change
password_drawn x word =
    reading random_word (λ first. draw ▸ reading random_word (λ second. draw ▸ password_kept x (salt_of first second) word))

-- a player is made in `#0`, and gets its password once it is there
unfoldable pub player_put : ℕ → Actor → List ℕ → List ℕ → Change
player_put d a name word =
    reading (λ w. create_check Player a.user (dbref_of 0) w.objects) (λ check.
    made_at check (λ n to. created_so n Player name a.user to (λ o. o) ▸ password_drawn (dbref_of n) word ▸ created_shown d n) (tell d cant_be_done))

-- `@pcreate`: by a name that no player has, and a password that isn't too long
unfoldable pub player_made : ℕ → Actor → List ℕ → List ℕ → Change
player_made d a name word =
    where_so (λ w. is_player_name w.objects name) (tell d bad_name)
    (either (is_password word) (asked a Wizard (refused d) (player_put d a name word)) (tell d cant_be_done))

-- `@newpassword`
unfoldable pub password_changed : ℕ → Actor → Dbref → List ℕ → Change
password_changed d a x word =
    either (is_password word)
    (change_by_leave d a (Password x) (λ w. allowed (password_check x w.objects)) (password_drawn x word) password_reply)
    (tell d cant_be_done)
