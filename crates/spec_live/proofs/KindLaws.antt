-- What kinds allow. A rule of all kinds is proved by a test that computes.
use Rattle.std.proofs.Common.{◌≡◌, refl, sym, Bool, true, false}
use Rattle.std.specs.Prelude.{not, ◌&&◌, ◌||◌}
use Rattle.std.proofs.lemmas.Bool.{false≢true, and_parts}
use Rattle.muck_laws.proofs.Truths.{excluded, never_not}
use Rattle.muck_model.specs.declared.dbref.Kind.{Kind}
use Rattle.muck_model.specs.declared.dbref.Kind.TheVariants.{Room, Thing, Exit, Player, Program, Garbage}
use Rattle.spec_live.specs.Objects.{is_exit, is_player, is_garbage, may_stand}
use Rattle.spec_live.specs.Setting.{may_link, may_live}

-- Tests.

abbrev each_kind : (Kind → Bool) → Bool
each_kind p = p Room && (p Thing && (p Exit && (p Player && (p Program && p Garbage))))

kinds : (p : Kind → Bool) → each_kind p ≡ true → (k : Kind) → p k ≡ true
kinds p h k =
    let room = and_parts (p Room) _ h in
    let thing = and_parts (p Thing) _ room.1 in
    let exit = and_parts (p Exit) _ thing.1 in
    let player = and_parts (p Player) _ exit.1 in
    let program = and_parts (p Program) _ player.1 in
    elim k as (λ x. p x ≡ true) [ Room ↦ room.0 | Thing ↦ thing.0 | Exit ↦ exit.0 | Player ↦ player.0 | Program ↦ program.0 | Garbage ↦ program.1 ]

pairs : (p : Kind → Kind → Bool) → each_kind (λ k. each_kind (p k)) ≡ true → (k to : Kind) → p k to ≡ true
pairs p h k to = kinds (p k) (kinds (λ x. each_kind (p x)) h k) to

-- Standing.

pub none_in_garbage : (k : Kind) (s : Bool) → may_stand k Garbage s ≡ true → ⊥
none_in_garbage k s = never_not (may_stand k Garbage s) (kinds (λ x. not (may_stand x Garbage s)) refl k)

pub none_in_exit : (k : Kind) (s : Bool) → may_stand k Exit s ≡ true → ⊥
none_in_exit k s = never_not (may_stand k Exit s) (kinds (λ x. not (may_stand x Exit s)) refl k)

pub garbage_in_none : (k : Kind) (s : Bool) → may_stand Garbage k s ≡ true → ⊥
garbage_in_none k s = never_not (may_stand Garbage k s) (kinds (λ x. not (may_stand Garbage x s)) refl k)

-- a player's seat is wanted only in a thing
pub stands_still : (k p : Kind) (s t : Bool) → (k ≡ Player → p ≡ Thing → s ≡ true → t ≡ true) → may_stand k p s ≡ true → may_stand k p t ≡ true
stands_still Player Thing s t seat h = seat refl refl h
stands_still Player p s t seat h = h
stands_still Room Room s t seat h = h
stands_still Room p s t seat h = h
stands_still Thing Room s t seat h = h
stands_still Thing p s t seat h = h
stands_still Exit Room s t seat h = h
stands_still Exit p s t seat h = h
stands_still Program Room s t seat h = h
stands_still Program p s t seat h = h
stands_still Garbage Room s t seat h = h
stands_still Garbage p s t seat h = h

-- what isn't an exit may be in a room, where it may be somewhere
pub stands_in_room : (k p : Kind) (s t : Bool) → may_stand k p s ≡ true → is_exit k ≡ false → may_stand k Room t ≡ true
stands_in_room Room p s t h e = refl
stands_in_room Thing p s t h e = refl
stands_in_room Player p s t h e = refl
stands_in_room Program p s t h e = refl
stands_in_room Exit p s t h e = absurd (false≢true (sym e))
stands_in_room Garbage p s t h e = absurd (garbage_in_none p s h)

pub only_garbage : (k : Kind) → is_garbage k ≡ true → k ≡ Garbage
only_garbage Garbage h = refl
only_garbage k h = absurd (false≢true h)

pub only_exit : (k : Kind) → is_exit k ≡ true → k ≡ Exit
only_exit Exit h = refl
only_exit k h = absurd (false≢true h)

-- What stands somewhere, is stood in, owned, linked to or lived in isn't garbage; nor is what isn't garbage itself.

pub standing_alive : (k p : Kind) (s : Bool) → may_stand k p s ≡ true → is_garbage k ≡ false
standing_alive k p s = excluded (may_stand k p s) (is_garbage k) (pairs (λ x y. not (is_garbage x) || not (may_stand x y s)) refl k p)

pub place_alive : (k p : Kind) (s : Bool) → may_stand k p s ≡ true → is_garbage p ≡ false
place_alive k p s = excluded (may_stand k p s) (is_garbage p) (pairs (λ x y. not (is_garbage y) || not (may_stand x y s)) refl k p)

pub player_alive : (k : Kind) → is_player k ≡ true → is_garbage k ≡ false
player_alive k = excluded (is_player k) (is_garbage k) (kinds (λ x. not (is_garbage x) || not (is_player x)) refl k)

pub player_no_exit : (k : Kind) → is_player k ≡ true → is_exit k ≡ false
player_no_exit k = excluded (is_player k) (is_exit k) (kinds (λ x. not (is_exit x) || not (is_player x)) refl k)

pub linked_alive : (k to : Kind) → may_link k to ≡ true → is_garbage to ≡ false
linked_alive k to = excluded (may_link k to) (is_garbage to) (pairs (λ x y. not (is_garbage y) || not (may_link x y)) refl k to)

pub linked_no_exit : (k to : Kind) → may_link k to ≡ true → is_exit to ≡ false
linked_no_exit k to = excluded (may_link k to) (is_exit to) (pairs (λ x y. not (is_exit y) || not (may_link x y)) refl k to)

pub home_alive : (k to : Kind) → may_live k to ≡ true → is_garbage to ≡ false
home_alive k to = excluded (may_live k to) (is_garbage to) (pairs (λ x y. not (is_garbage y) || not (may_live x y)) refl k to)

pub home_no_exit : (k to : Kind) → may_live k to ≡ true → is_exit to ≡ false
home_no_exit k to = excluded (may_live k to) (is_exit to) (pairs (λ x y. not (is_exit y) || not (may_live x y)) refl k to)
