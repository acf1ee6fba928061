-- When what a row changes is open to who acts, and what is to be told of it.
use Rattle.std.proofs.Common.{◌≡◌, ℕ, List, Option, Some, None}
use Rattle.spec_live.specs.Objects.{Entry}
use Rattle.spec_live.specs.Lives.{Live, unchanged}
use Rattle.spec_rights.specs.declared.act.Actor.{Actor}
use Rattle.spec_rights.specs.declared.act.Act.{Act}
use Rattle.spec_rights.specs.Licence.{nobody}
use Rattle.spec_rights.proofs.Licences.{Ended, Given, Proper, Shows, judge, itself, end_proper, end_quietly, ends_quiet, quiet_unchanged}
use Rattle.spec_rights.proofs.Rights.{same_itself}
use Rattle.muf_model.specs.Datum.{Datum}
use Rattle.spec_prims.specs.Asking.{level_fault}
use Rattle.spec_mpi.specs.Touching.{TouchesNotes}
use Rattle.spec_prims.specs.Row.{WorldAnswer, gives, refuses, breaks, WorldDoing}

-- It is open to the actor, or nothing has changed; and what breaks off has touched notes alone.
abbrev pub RowOpen : Actor → Live → WorldAnswer → Type 0
RowOpen a w (gives items v) = Proper a nobody w v
RowOpen a w (refuses f) = Unit {0}
RowOpen a w (breaks f v) = Proper a nobody w v × TouchesNotes w v

-- by the laws of what is changed, where the act was allowed
pub ended_open : (a : Actor) (act : Option Act) (w v : Live) → Ended itself a nobody act w v → Given act w.objects a → Proper a nobody w v
ended_open a act w v h given = end_proper a nobody w v (h.law w.objects (same_itself w.objects) given)

-- where nothing changes, and where something is shown alone
pub same_open : (a : Actor) (w : Live) → Proper a nobody w w
unfolding unchanged
same_open a w = ended_open a None w w ((ends_quiet a nobody None unchanged quiet_unchanged).law w) tt

pub shows_open : (a : Actor) (w v : Live) → Shows w v → Proper a nobody w v
unfolding unchanged
shows_open a w v h =
    ended_open a None w v (record {
      law = λ start same given. end_quietly (judge a nobody start) w w v (((ends_quiet a nobody None unchanged quiet_unchanged).law w).law start same given) h;
    }) tt

-- of a primitive whose level the actor has; where somebody else answers for what it changes, it is open to that one
abbrev pub IsOpenTo : (Actor → List Entry → Actor) → ℕ → Option WorldDoing → Type 0
IsOpenTo who level None = Unit {0}
IsOpenTo who level (Some doing) = (a : Actor) (items : List Datum) (w : Live) → level_fault a w.objects level ≡ None → RowOpen (who a w.objects) w (doing.does a items w)

abbrev pub IsOpen : ℕ → Option WorldDoing → Type 0
IsOpen level doing = IsOpenTo (λ a es. a) level doing
