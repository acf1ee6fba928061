-- Connections that leave.
use Rattle.std.proofs.Common.{◌≡◌, ℕ, Bool, true, false, cond, List, [], ◌∷◌, refl, ◌∙◌, ap, Some, inl, inr}
use Rattle.std.proofs.lemmas.Bool.{or_left, or_right}
use Rattle.muck_model.proofs.Dbrefs.{same_eq}
use Rattle.std.specs.Prelude.{map, find}
use Rattle.std.specs.Option.{option_and_then, option_map_or}
use Rattle.muck_model.specs.declared.dbref.Dbref.{Dbref}
use Rattle.spec_live.specs.Objects.{Entry, same}
use Rattle.spec_live.specs.Connections.{Connection, is_connection, changed_in, is_connection_of, left}
use Rattle.spec_live.specs.Boards.{Board, leaving_one}
use Rattle.spec_live.specs.Lives.{Live, leave}
use Rattle.spec_live.proofs.Keeping.{one}
use Rattle.spec_live.proofs.Lives.{Goes, board, leaves_one, leaves}
use Rattle.spec_rights.specs.declared.act.Actor.{Actor}
use Rattle.spec_rights.specs.declared.act.Act.TheVariants.{Shared, Wizard}
use Rattle.spec_rights.specs.Verdict.{is_master}
use Rattle.spec_rights.specs.Changing.{connections_left}
use Rattle.spec_rights.specs.Licence.{Freedom, Judge, Open, SameTies, leave_open}
use Rattle.spec_rights.proofs.Walking.{acts}
use Rattle.spec_rights.proofs.Licences.{judge, Stay, Stays, Whole, itself, ties_itself, stay_itself, stay_end, end_proper, stays_by, whole_by}
use Rattle.spec_rights.proofs.Allowed.{wizard_allowed, master_allowed}

own_open : (a : Actor) (c : Connection) → c.player ≡ Some a.player → leave_open a c ≡ true
own_open a c e = or_right (is_master a) _ (ap (λ p. option_map_or (same a.player) p false) e ∙ same_eq a.player a.player refl)

ties_left : (a : Actor) (d : ℕ) (cs : List Connection) → option_and_then (λ (c : Connection). c.player) (find (is_connection d) cs) ≡ Some a.player → SameTies a cs (changed_in d left cs)
ties_left a d [] = λ e. tt
ties_left a d (c ∷ cs) =
    elim (is_connection d c) as (λ b. option_and_then (λ (c : Connection). c.player) (cond b (Some c) (find (is_connection d) cs)) ≡ Some a.player → SameTies a (c ∷ cs) (cond b (left c ∷ cs) (c ∷ changed_in d left cs))) [
      | true ↦ λ e. (refl, refl, inr (own_open a c e), ties_itself a cs)
      | false ↦ λ e. (refl, refl, inl refl, ties_left a d cs e)
    ]

-- the connections alone differ
stay_board : (j : Judge) (w : Live) (b : Board) → Goes acts w (record w { board = b }) → SameTies j.actor w.board.connections b.connections → b.tune ≡ w.board.tune → Stay j w (record w { board = b })
stay_board j w b path ties tune = let s = stay_itself j w in record { rows = s.rows; lists = s.lists; marks = s.marks; goes = path; ties = ties; tune = tune }

-- the actor's own connection leaves
pub whole_leave : (a : Actor) (d : ℕ) (free : List Entry → Freedom) (given : Live → Type 0) → Whole itself a (Some d) free given (leave d)
unfolding leave leaving_one
whole_leave a d free given = whole_by _ (λ w c h.
    let j = judge a (free w.objects) w.objects in
    end_proper a (free w.objects) w _ (stay_end j w _ (stay_board j w _ (one (board _ w (leaves_one d w.board refl))) (ties_left a d w.board.connections c) refl)))

ties_master : (a : Actor) (d : ℕ) (cs : List Connection) → is_master a ≡ true → SameTies a cs (changed_in d left cs)
ties_master a d [] h = tt
ties_master a d (c ∷ cs) h =
    elim (is_connection d c) as (λ b. SameTies a (c ∷ cs) (cond b (left c ∷ cs) (c ∷ changed_in d left cs))) [
      | true ↦ (refl, refl, inr (or_left (is_master a) _ h), ties_itself a cs)
      | false ↦ (refl, refl, inl refl, ties_master a d cs h)
    ]

-- any connection leaves, by leave for the highest level
pub stays_left : (a : Actor) (free : Freedom) (d : ℕ) → Stays a free (Some (Shared 4)) (leave d)
unfolding leave leaving_one
stays_left a free d = stays_by _ (λ start w s g. stay_board (judge a free start) w _ (one (board _ w (leaves_one d w.board refl))) (ties_master a d w.board.connections (master_allowed w.objects a g)) refl)

boot_one : (a : Actor) (b : Bool) (c : Connection) → is_master a ≡ true → Open (λ (leaving : Bool). leave_open a c) c.leaving (cond b (left c) c).leaving
boot_one a true c h = inr (or_left (is_master a) _ h)
boot_one a false c h = inl refl

same_number : (b : Bool) (c : Connection) → (cond b (left c) c).number ≡ c.number
same_number true c = refl
same_number false c = refl

same_owner : (b : Bool) (c : Connection) → (cond b (left c) c).player ≡ c.player
same_owner true c = refl
same_owner false c = refl

ties_booted : (a : Actor) (player : Dbref) (cs : List Connection) → is_master a ≡ true → SameTies a cs (map (λ c. cond (is_connection_of player c) (left c) c) cs)
ties_booted a player [] h = tt
ties_booted a player (c ∷ cs) h = (same_number (is_connection_of player c) c, same_owner (is_connection_of player c) c, boot_one a (is_connection_of player c) c h, ties_booted a player cs h)

pub stays_booted : (a : Actor) (free : Freedom) (player : Dbref) → Stays a free (Some Wizard) (connections_left player)
unfolding connections_left
stays_booted a free player = stays_by _ (λ start w s g. stay_board (judge a free start) w _ (one (board _ w (leaves (is_connection_of player) w.board refl))) (ties_booted a player w.board.connections (wizard_allowed w.objects a g)) refl)
