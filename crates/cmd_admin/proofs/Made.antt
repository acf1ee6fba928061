-- A player that is made, and what is told of it.
use Rattle.std.proofs.Common.{◌≡◌, ℕ, nat_le, true, false, List, None, Result, Ok, Err, refl, sym, ◌∙◌, ap, subst, arith}
use Rattle.std.specs.Prelude.{nat_lt}
use Rattle.std.proofs.lemmas.Bool.Decides.{nat_tests}
use Rattle.muck_model.specs.declared.dbref.Dbref.{Dbref}
use Rattle.muck_model.specs.declared.dbref.Kind.TheVariants.{Player}
use Rattle.muck_model.specs.declared.memory.NoMemory.{NoMemory}
use Rattle.spec_live.specs.declared.fault.DbFault.{DbFault}
use Rattle.spec_live.specs.declared.fault.DbFault.TheVariants.{NoMemory as WantsMemory}
use Rattle.spec_live.specs.Objects.{Entry, dbref_of}
use Rattle.spec_live.specs.Making.{create_check}
use Rattle.spec_live.specs.Setting.{password_check}
use Rattle.spec_live.specs.Lives.{Live, Change, ◌▸◌, reading, tell}
use Rattle.spec_rights.specs.declared.act.Actor.{Actor}
use Rattle.spec_rights.specs.declared.act.Act.TheVariants.{Wizard, Password}
use Rattle.spec_rights.specs.Changing.{created_so}
use Rattle.spec_rights.specs.Levels.{dbref_number}
use Rattle.spec_rights.specs.Verdict.{verdict}
use Rattle.spec_rights.proofs.Allowed.{wizard_allowed}
use Rattle.spec_commands.specs.Building.{allowed, made_at, created_shown}
use Rattle.spec_commands.specs.Replies.{cant_be_done}
use Rattle.spec_admin.specs.Players.{password_drawn, player_put}
use Rattle.muck_perm.specs.declared.guard.Guard.{Guard}
use Rattle.muck_perm.specs.inner.Guards.{Did, Done, Founds, objects_of}
use Rattle.muck_perm.proofs.Worlds.{did_both}
use Rattle.cmd_admin.specs.inner.Refused.{IsRefused}
use Rattle.cmd_admin.proofs.Checked.{made_checked}
use Rattle.cmd_common.proofs.Doing.{wanted}

-- who does what is a wizard's alone may give passwords
pub wizard_gives : (es fs : List Entry) (a : Actor) (x : Dbref) → verdict es a Wizard ≡ None → verdict fs a (Password x) ≡ None
wizard_gives es fs a x e =
    let high : nat_le 4 a.level ≡ true = wizard_allowed es a e in
    let low : nat_lt a.level 4 ≡ false = grind (arith, nat_tests) in
    rw low refl

-- what makes a player
abbrev pub maker : List ℕ → Actor → ℕ → ℕ → Change
maker name a n to = created_so n Player name a.user to (λ o. o)

abbrev pub player_check : Actor → Guard → Result (ℕ × ℕ) DbFault
player_check a g = create_check Player a.user (dbref_of 0) (objects_of g)

-- it gets its number
record Founded (check : Result (ℕ × ℕ) DbFault) (change : ℕ → ℕ → Change) (old mid : Guard) (x : Dbref) : Type 0 where
  at : ℕ × ℕ
  found : check ≡ Ok at
  is : x ≡ dbref_of at.0
  done : Done (change at.0 at.1) old mid

founded : (check : Result (ℕ × ℕ) DbFault) (change : ℕ → ℕ → Change) (old mid : Guard) (x : Dbref) → Founds check change old mid (Ok x) → Founded check change old mid x
founded (Ok p) change old mid x f = record { at = p; found = refl; is = f.0; done = f.1 }
founded (Err fault) change old mid x f = absurd f

-- and is there to get a password
pub made_ready : (name : List ℕ) (a : Actor) (old mid : Guard) (x : Dbref) → Founds (player_check a old) (maker name a) old mid (Ok x) → allowed (password_check x (objects_of mid)) ≡ true
unfolding created_so
made_ready name a old mid x f =
    let s : Founded (player_check a old) (maker name a) old mid x = founded (player_check a old) (maker name a) old mid x f in
    ap (λ y. allowed (password_check y (objects_of mid))) s.is ∙ (ap (λ (w : Live). allowed (password_check (dbref_of s.at.0) w.objects)) s.done.0 ∙ made_checked name a.user (dbref_of 0) (objects_of old) s.at s.found)

abbrev puts : ℕ → Actor → List ℕ → List ℕ → ℕ → ℕ → Change
puts d a name word n to = maker name a n to ▸ (password_drawn (dbref_of n) word ▸ created_shown d n)

-- where the change is read off what was checked
put_read : (d : ℕ) (a : Actor) (name word : List ℕ) (old new : Guard) (result : Result (Unit {0}) NoMemory) →
    Did (made_at (player_check a old) (puts d a name word) (tell d cant_be_done)) old new result → Did (player_put d a name word) old new result
unfolding player_put reading
put_read d a name word old new (Ok u) h = h
put_read d a name word old new (Err e) h = h

pub player_made : (d : ℕ) (a : Actor) (name word : List ℕ) (old mid new : Guard) (x : Dbref) (result : Result (Unit {0}) NoMemory) →
    Founds (player_check a old) (maker name a) old mid (Ok x) → Did (password_drawn x word ▸ created_shown d (dbref_number x)) mid new result → Did (player_put d a name word) old new result
player_made d a name word old mid new x result f t =
    let s : Founded (player_check a old) (maker name a) old mid x = founded (player_check a old) (maker name a) old mid x f in
    let P : Dbref → Type 0 = λ y. Did (password_drawn y word ▸ created_shown d (dbref_number y)) mid new result in
    let Q : Result (ℕ × ℕ) DbFault → Type 0 = λ check. Did (made_at check (puts d a name word) (tell d cant_be_done)) old new result in
    let both : Did (puts d a name word s.at.0 s.at.1) old new result = did_both (maker name a s.at.0 s.at.1) _ old mid new result s.done (subst P s.is t) in
    put_read d a name word old new result (subst Q (sym s.found) both)

-- that the world refused it
refused : (d : ℕ) (old mid new : Guard) (fault : DbFault) (result : Result (Unit {0}) NoMemory) → mid ≡ old → IsRefused d fault mid new result → Did (tell d cant_be_done) old new result
refused d old mid new WantsMemory result e t = wanted (tell d cant_be_done) old mid new result e t
refused d old mid new _ result e t = let P : Guard → Type 0 = λ g. Did (tell d cant_be_done) g new result in subst P e t

by_check : (d : ℕ) (change : ℕ → ℕ → Change) (all : ℕ → ℕ → Change) (check : Result (ℕ × ℕ) DbFault) (old mid new : Guard) (fault : DbFault) (result : Result (Unit {0}) NoMemory) →
    Founds check change old mid (Err fault) → IsRefused d fault mid new result → Did (made_at check all (tell d cant_be_done)) old new result
by_check d change all (Ok p) old mid new fault result f t =
    let P : DbFault → Type 0 = λ z. IsRefused d z mid new result in
    wanted (all p.0 p.1) old mid new result f.1 (subst P f.0 t)
by_check d change all (Err other) old mid new fault result f t = refused d old mid new fault result f.1 t

pub player_refused : (d : ℕ) (a : Actor) (name word : List ℕ) (old mid new : Guard) (fault : DbFault) (result : Result (Unit {0}) NoMemory) →
    Founds (player_check a old) (maker name a) old mid (Err fault) → IsRefused d fault mid new result → Did (player_put d a name word) old new result
player_refused d a name word old mid new fault result f t =
    put_read d a name word old new result (by_check d (maker name a) (puts d a name word) (player_check a old) old mid new fault result f t)
