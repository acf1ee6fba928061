-- Players are there to get passwords.
use Rattle.std.proofs.Common.{◌≡◌, ℕ, Bool, true, false, cond, List, Option, Some, None, Result, Ok, Err, refl, ◌∙◌, ap}
use Rattle.std.specs.Option.{option_map_or, option_and_then}
use Rattle.muck_model.specs.declared.dbref.Dbref.{Dbref}
use Rattle.muck_model.specs.declared.dbref.Kind.TheVariants.{Player, Garbage}
use Rattle.muck_db.proofs.Showing.{alive_number}
use Rattle.spec_live.specs.declared.fault.DbFault.{DbFault}
use Rattle.spec_live.specs.declared.fault.DbFault.TheVariants.{NoSuchObject, WrongKind}
use Rattle.spec_live.specs.declared.object.Object.{Object}
use Rattle.spec_live.specs.Objects.{Entry, dbref_of, is_player, is_garbage, kind_in, object_in, number_in, object_at}
use Rattle.spec_live.specs.Making.{objects_grown, created, create_check}
use Rattle.spec_live.specs.Setting.{set_at, checked, password_check}
use Rattle.spec_live.proofs.Readers.{kind_changed, kind_moved}
use Rattle.spec_live.proofs.CreationLaws.{may_create, Begins, begins, named_kind}
use Rattle.spec_commands.specs.Building.{allowed}

abbrev pub is_player_at : Dbref → List Entry → Bool
is_player_at x es = option_map_or (λ o. is_player o.kind) (object_at x es) false

-- where it is one
abbrev is_one : List Entry → ℕ → Result ℕ DbFault
is_one es n = cond (is_player (kind_in es n)) (Ok n) (Err WrongKind)

kind_seen : (o : Option Object) → option_map_or (λ (y : Object). is_player y.kind) o false ≡ is_player (option_map_or (λ (y : Object). y.kind) o Garbage)
kind_seen None = refl
kind_seen (Some o) = refl

player_in : (es : List Entry) (n : ℕ) → option_map_or (λ (y : Object). is_player y.kind) (object_in es n) false ≡ is_player (kind_in es n)
unfolding kind_in
player_in es n = kind_seen (object_in es n)

by_test : (b : Bool) (n : ℕ) → b ≡ allowed (cond {A = Result ℕ DbFault} b (Ok n) (Err WrongKind))
by_test true n = refl
by_test false n = refl

by_number : (es : List Entry) (k : Option ℕ) → option_map_or (λ (y : Object). is_player y.kind) (option_and_then (object_in es) k) false ≡ allowed (option_map_or (is_one es) k (Err NoSuchObject))
by_number es None = refl
by_number es (Some n) = player_in es n ∙ by_test (is_player (kind_in es n)) n

-- a player that is there may get a password, and nothing else may
pub player_checked : (x : Dbref) (es : List Entry) → is_player_at x es ≡ allowed (password_check x es)
unfolding object_at password_check checked
player_checked x es = by_number es (number_in es x)

new_kind : (name : List ℕ) (owner place : Dbref) (es : List Entry) (p : ℕ × ℕ) → create_check Player owner place es ≡ Ok p → kind_in (set_at (λ o. o) p.0 (created p.0 Player name owner p.1 es)) p.0 ≡ Player
unfolding created
new_kind name owner place es p h =
    let b : Begins es Player owner p.0 p.1 = begins es Player owner p.0 p.1 (may_create Player owner place es p h) in
    kind_changed p.0 p.0 (λ o. o) (created p.0 Player name owner p.1 es) (λ o. refl) ∙ (kind_moved _ p.0 p.1 p.0 ∙ named_kind (objects_grown p.0 es) p.0 Player name owner b.known)

-- a player that was made is there
pub made_checked : (name : List ℕ) (owner place : Dbref) (es : List Entry) (p : ℕ × ℕ) → create_check Player owner place es ≡ Ok p →
    allowed (password_check (dbref_of p.0) (set_at (λ o. o) p.0 (created p.0 Player name owner p.1 es))) ≡ true
unfolding password_check checked
made_checked name owner place es p h =
    let fs : List Entry = set_at (λ o. o) p.0 (created p.0 Player name owner p.1 es) in
    let here : kind_in fs p.0 ≡ Player = new_kind name owner place es p h in
    let number : number_in fs (dbref_of p.0) ≡ Some p.0 = alive_number fs p.0 (ap (λ k. is_garbage k) here) in
    ap (λ k. allowed (option_map_or (is_one fs) k (Err NoSuchObject))) number ∙ ap (λ k. allowed (cond {A = Result ℕ DbFault} (is_player k) (Ok p.0) (Err WrongKind))) here
