-- What an actor may change: the differences between two worlds, field by field.
use Rattle.std.specs.Prelude.{◌≡◌, ◌⊎◌, ◌≤◌, length, ℕ, Bool, true, false, not, ◌&&◌, ◌||◌, ◌==◌, nat_le, if◌then◌else◌, List, [], ◌∷◌, Option, Some, None}
use Rattle.std.specs.Option.{option_map_or}
use Rattle.std.specs.List.{list_any}
use Rattle.std.specs.FinMap.{get}
use Rattle.muck_model.specs.declared.dbref.Dbref.{Dbref}
use Rattle.muck_model.specs.declared.dbref.Kind.{Kind}
use Rattle.muck_model.specs.declared.dbref.Kind.TheVariants.{Room, Thing, Exit, Player, Program, Garbage}
use Rattle.muck_prop.specs.Paths.{class_of}
use Rattle.spec_live.specs.declared.object.Object.{Object}
use Rattle.spec_live.specs.Flags.{has_flag, no_flags, builder, jump, link, wizard}
use Rattle.spec_live.specs.Chain.{without_number}
use Rattle.spec_live.specs.Objects.{Entry, dbref_of, nothing, home, same, index_of, is_exit, kind_in, list_in, object_at}
use Rattle.spec_live.specs.Stood.{Traced}
use Rattle.spec_live.specs.Recycling.{wished_home}
use Rattle.spec_live.specs.Seen.{listed_in}
use Rattle.spec_live.specs.Connections.{Connection}
use Rattle.spec_live.specs.Lives.{Live}
use Rattle.spec_rights.specs.declared.act.Actor.{Actor}
use Rattle.spec_rights.specs.Levels.{level_at, is_player_at, flag_at}
use Rattle.spec_rights.specs.Verdict.{is_master, controls, controls_or, is_hidden, is_kept_class, is_guarded, may_take_over, place_or_nothing}

-- what stood there stands there, or what stands there now is open
abbrev pub Open : {X : Type 0} → (X → Bool) → X → X → Type 0
Open test old new = (new ≡ old) ⊎ (test new ≡ true)

-- What an act lets its actor do beside its rights: what it may move freely, whether it may make `#0` a home, as `@unlink`
-- does, and whose source it may change.
pub record Freedom : Type 0 where
  pub moves : Dbref → Bool
  pub clears : Bool
  pub edits : Dbref → Bool

-- Who acts, what the act is free to do, what it recycles, if anything, and the objects by which rights are judged: those
-- at the start.
pub record Judge : Type 0 where
  pub actor : Actor
  pub free : Freedom
  pub gone : Option Dbref
  pub objects : List Entry

abbrev pub owned : Judge → Dbref → Bool
owned j x = controls j.objects j.actor x

abbrev pub home_of : Judge → Dbref → Dbref
home_of j x = option_map_or (λ o. o.home) (object_at x j.objects) nothing

abbrev pub judged_link : Judge → Dbref → Dbref
judged_link j x = option_map_or (λ o. o.link) (object_at x j.objects) nothing

abbrev pub judged_kind : Judge → Dbref → Kind
judged_kind j x = option_map_or (λ o. o.kind) (object_at x j.objects) Garbage

-- What a recycling brings with it.

abbrev pub is_gone : Judge → Dbref → Bool
is_gone j x = option_map_or (same x) j.gone false

-- x stands among the contents of what is recycled
abbrev pub is_emptied : Judge → Dbref → Bool
is_emptied j x = option_map_or (λ d. list_any (same x) (listed_in false d j.objects)) j.gone false

-- where such an object goes: to `#0`, or where it wishes to be sent home
abbrev pub is_way_home : Judge → Dbref → Dbref → Bool
is_way_home j x to = same to (dbref_of 0) || option_map_or (λ n. option_map_or (λ t. same to (dbref_of t)) (wished_home n j.objects (kind_in j.objects n)) false) (index_of x) false

-- What is open to the actor, a row for each field, by what stands there now.

abbrev pub name_open : Judge → Dbref → Bool
name_open j x = owned j x && (is_master j.actor || not (is_player_at j.objects x))

abbrev pub property_open : Judge → Dbref → List (List ℕ) → Bool
property_open j x path =
    if is_hidden (class_of path) || is_kept_class (class_of path) then is_master j.actor
    else (if is_guarded (class_of path) then nat_le 3 j.actor.level || owned j x
    else nat_le 2 j.actor.level || owned j x)

abbrev pub place_open : Judge → Dbref → Dbref → Bool
place_open j x to =
    j.free.moves x || ((is_emptied j x && is_way_home j x to)
    || ((nat_le 3 j.actor.level || owned j x) && (same to (home_of j x) || (nat_le 3 j.actor.level || controls_or jump j.objects j.actor to))))

abbrev pub link_open : Judge → Dbref → Dbref → Bool
link_open j x to =
    (owned j x && (same to nothing || (same to home || controls_or link j.objects j.actor to)))
    || (same to nothing && is_gone j (judged_link j x))

abbrev pub home_open : Judge → Dbref → Dbref → Bool
home_open j x to =
    (owned j x && ((j.free.clears && same to (dbref_of 0)) || (same to nothing || (same to home || controls_or link j.objects j.actor to))))
    || (same to (dbref_of 0) && is_gone j (home_of j x))

abbrev pub level_open_to : Judge → Dbref → ℕ → Kind → Bool
level_open_to j x level Player = is_master j.actor
level_open_to j x level Program = nat_le level (level_at j.objects j.actor.user)
level_open_to j x level kind = false

abbrev pub level_open : Judge → Dbref → ℕ → Bool
level_open j x level = owned j x && level_open_to j x level (judged_kind j x)

abbrev pub lines_open : Judge → Dbref → Bool
lines_open j x = j.free.edits x && (owned j x && nat_le 1 (level_at j.objects j.actor.user))

abbrev pub owner_open : Judge → Dbref → Dbref → Bool
owner_open j x owner = is_master j.actor || (same owner j.actor.user && may_take_over j.objects j.actor x)

-- an object that was there and still is
pub record Changed (j : Judge) (x : Dbref) (old new : Object) : Type 0 where
  pub kind : new.kind ≡ old.kind
  pub name : Open (λ name. name_open j x) old.name new.name
  pub owner : Open (owner_open j x) old.owner new.owner
  pub place : Open (place_open j x) old.place new.place
  pub link : Open (link_open j x) old.link new.link
  pub home : Open (home_open j x) old.home new.home
  pub flags : Open (λ flags. owned j x) old.flags new.flags
  pub wizard : Open (λ b. owned j x && is_master j.actor) (has_flag wizard old.flags) (has_flag wizard new.flags)
  pub level : Open (level_open j x) old.level new.level
  pub props : (path : List (List ℕ)) → Open (λ value. property_open j x path) (get old.props path) (get new.props path)
  pub lines : Open (λ lines. lines_open j x) old.lines new.lines
  pub digest : Open (λ digest. is_master j.actor) old.digest new.digest

-- an object that may be recycled: it is controlled, and isn't a player or `#0`
abbrev pub may_recycle : List Entry → Actor → Dbref → Bool
may_recycle es a x = controls es a x && not (is_player_at es x || same x (dbref_of 0))

-- an object that became garbage: it is recycled, or is an exit of what is
abbrev pub gone_open : Judge → Dbref → Object → Bool
gone_open j x old = is_gone j x || (is_exit old.kind && is_gone j old.place)

-- The kinds of new objects: a player belongs to itself, all else to the user.

abbrev pub builds : Judge → Bool
builds j = nat_le 3 j.actor.level || flag_at builder j.objects j.actor.user

abbrev pub new_open : Judge → Dbref → Object → Kind → Bool
new_open j x new Player = is_master j.actor && (new.level == 0 && same new.owner x)
new_open j x new Program = same new.owner j.actor.user && (nat_le 1 (level_at j.objects j.actor.user) && nat_le new.level (level_at j.objects j.actor.user))
new_open j x new Room = same new.owner j.actor.user && (builds j && (new.level == 0 && controls_or link j.objects j.actor new.place))
new_open j x new Thing = same new.owner j.actor.user && (builds j && (new.level == 0 && (nat_le 3 j.actor.level || controls_or jump j.objects j.actor new.place)))
new_open j x new Exit = same new.owner j.actor.user && (builds j && (new.level == 0 && controls j.objects j.actor new.place))
new_open j x new Garbage = false

-- an object that is new, which is judged by this alone; it has no source yet
pub record IsNew (j : Judge) (x : Dbref) (new : Object) : Type 0 where
  pub kind : new_open j x new new.kind ≡ true
  pub flags : new.flags ≡ no_flags
  pub link : (same new.link nothing || (same new.link home || controls_or link j.objects j.actor new.link)) ≡ true
  pub lines : new.lines ≡ []

-- what is there, where garbage isn't
abbrev pub Differs : Judge → Dbref → Option Object → Option Object → Type 0
Differs j x None None = Unit {0}
Differs j x None (Some new) = IsNew j x new
Differs j x (Some old) None = gone_open j x old ≡ true
Differs j x (Some old) (Some new) = Changed j x old new

-- What may become of a list of numbers: some leave it, and those that may come to its front.
pub data Reordered (may : ℕ → Bool) : List ℕ → List ℕ → Type 0 where
  as_before : {xs : List ℕ} → Reordered may xs xs
  leaves : {xs ys : List ℕ} (x : ℕ) → Reordered may xs ys → Reordered may xs (without_number x ys)
  empties : {xs ys : List ℕ} → Reordered may xs ys → Reordered may xs []
  comes : {xs ys : List ℕ} (x : ℕ) → may x ≡ true → Reordered may xs ys → Reordered may xs (x ∷ ys)

-- x may come to the front of a list of p: as to a place, or because it wasn't there
abbrev pub front_open : Judge → List Entry → ℕ → ℕ → Bool
front_open j es p x = place_open j (dbref_of x) (dbref_of p) || option_map_or (λ o. false) (object_at (dbref_of x) es) true

-- the lists of contents and of exits
abbrev pub SameLists : Judge → List Entry → List Entry → Type 0
SameLists j es fs = (exits : Bool) (p : ℕ) → Reordered (front_open j es p) (list_in exits es p) (list_in exits fs p)

-- a connection leaves by its own player or by a wizard, and else is who it was
abbrev pub leave_open : Actor → Connection → Bool
leave_open a c = is_master a || option_map_or (same a.player) c.player false

abbrev pub SameTies : Actor → List Connection → List Connection → Type 0
SameTies a [] [] = Unit {0}
SameTies a (c ∷ cs) (d ∷ ds) = (d.number ≡ c.number) × (d.player ≡ c.player) × Open (λ leaving. leave_open a c) c.leaving d.leaving × SameTies a cs ds
SameTies a cs ds = ⊥

-- the connections are those that were, and each is leaving as before, or may leave
abbrev pub LeaversLicensed : (Connection → Bool) → List Connection → List Connection → Type 0
LeaversLicensed may [] [] = Unit {0}
LeaversLicensed may (c ∷ cs) (d ∷ ds) = (d.number ≡ c.number) × Open (λ leaving. may c) c.leaving d.leaving × LeaversLicensed may cs ds
LeaversLicensed may cs ds = ⊥

-- every difference is open to the actor, or a consequence of one recycling: of what it may recycle, and what is gone;
-- no number goes away, since what is recycled stays there as garbage; what changed is due for the next dump, and where players stood
-- when the event began is kept
pub record Licensed (a : Actor) (free : Freedom) (w v : Live) : Type 0 where
  pub gone : Option Dbref
  pub recycled : (x : Dbref) → gone ≡ Some x → may_recycle w.objects a x ≡ true
  pub vanished : (x : Dbref) → gone ≡ Some x → object_at x v.objects ≡ None
  pub objects : (n : ℕ) → Differs (record { actor = a; free = free; gone = gone; objects = w.objects }) (dbref_of n) (object_at (dbref_of n) w.objects) (object_at (dbref_of n) v.objects)
  pub no_fewer : length w.objects ≤ length v.objects
  pub traced : Traced w.objects v.objects
  pub lists : SameLists (record { actor = a; free = free; gone = gone; objects = w.objects }) w.objects v.objects
  pub connections : SameTies a w.board.connections v.board.connections
  pub tune : Open (λ tune. is_master a) w.board.tune v.board.tune

-- What acts are free to do: nothing; to move what passes the test; to make `#0` a home, too; to change that source.

abbrev pub nobody : Freedom
nobody = record { moves = λ x. false; clears = false; edits = λ x. false }

abbrev pub moving_freely : (Dbref → Bool) → Freedom
moving_freely test = record nobody { moves = test }

abbrev pub clearing : Bool → Freedom → Freedom
clearing clears free = record free { clears = clears || free.clears }

abbrev pub editing : Dbref → Freedom
editing program = record nobody { edits = same program }

-- the player that walks moves itself
abbrev pub oneself : Actor → Freedom
oneself a = moving_freely (same a.player)

-- a thing or a program that the player carries, or that lies where it is

abbrev pub at_hand_kind : Kind → Bool
at_hand_kind Thing = true
at_hand_kind Program = true
at_hand_kind kind = false

abbrev pub at_hand : List Entry → Actor → Dbref → Bool
at_hand es a x = option_map_or (λ o. at_hand_kind o.kind && (same o.place a.player || same o.place (place_or_nothing es a.player))) (object_at x es) false
