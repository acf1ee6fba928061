-- What is open where the rules allow an act.
use Rattle.std.proofs.Common.{◌≡◌, ℕ, Bool, true, false, cond, List, refl, sym, ◌∙◌, ap, Option, Some, None}
use Rattle.std.proofs.lemmas.Bool.{and_from, or_left, or_right, not-false}
use Rattle.muck_laws.proofs.Numbers.{le_not, some_level}
use Rattle.muck_laws.proofs.Truths.{mover}
use Rattle.muck_model.proofs.Dbrefs.{same_eq}
use Rattle.std.specs.Prelude.{not, ◌||◌, ◌&&◌, ◌==◌, nat_le, nat_lt}
use Rattle.std.specs.Option.{option_map, option_map_or}
use Rattle.muck_model.specs.declared.dbref.Dbref.{Dbref}
use Rattle.muck_model.specs.declared.dbref.Denial.{Denial}
use Rattle.muck_model.specs.declared.dbref.Flags.{Flags}
use Rattle.muck_model.specs.declared.dbref.Kind.{Kind}
use Rattle.muck_model.specs.declared.dbref.Kind.TheVariants.{Room, Thing, Exit, Player, Program, Garbage}
use Rattle.spec_live.specs.Flags.{has_flag, builder, jump, link, wizard}
use Rattle.spec_live.specs.Objects.{Entry, dbref_of, nothing, home, same, is_player, is_program, object_at}
use Rattle.spec_live.specs.declared.object.Object.{Object}
use Rattle.muck_prop.specs.declared.path.Class.{Class}
use Rattle.muck_prop.specs.declared.path.Class.TheVariants.{At, Tilde, Dot, Underscore, Plain}
use Rattle.muck_prop.specs.Paths.{class_of}
use Rattle.spec_rights.specs.declared.act.Actor.{Actor}
use Rattle.spec_rights.specs.declared.act.Act.TheVariants.{Shared, Write, Move, Take, Link, NewRoom, NewThing, NewExit, NewProgram, Edit, Change, Rename, Password, Wizard, SetFlag, SetLevel, Recycle, SetOwner}
use Rattle.spec_rights.specs.declared.rule.Rule.{Rule}
use Rattle.spec_rights.specs.declared.rule.Rule.TheVariants.{P1, P3, P4, P6, P7, P8, P9, P10, P11, P12, P13, P14, P15, P16, P17, P18, P19, P20, P21, P22}
use Rattle.spec_rights.specs.Levels.{level_at, is_player_at, flag_at}
use Rattle.spec_live.specs.Worth.{opens_at}
use Rattle.spec_rights.specs.inner.Numbers.{denial}
use Rattle.spec_rights.specs.Verdict.{verdict, place_or_nothing, is_below_level, or_else, when, is_master, controls, controls_or, open_place, open_target, is_program_at, may_take_over, may_build, is_hidden, is_kept_class, is_guarded, is_plain}
use Rattle.spec_rights.specs.Licence.{Freedom, Judge, name_open, property_open, place_open, link_open, home_open, level_open, level_open_to, lines_open, owner_open, home_of, judged_kind}
use Rattle.spec_rights.proofs.Rights.{SameRights, same_level, same_home, same_flag, same_player, same_program, same_controls, same_controls_or, same_take_over}
use Rattle.spec_rights.proofs.Licences.{judge}

-- a rule that doesn't deny leaves the others
record Passes (b : Bool) (rest : Option Denial) : Type 0 where
  here : b ≡ false
  next : rest ≡ None

passes : (b : Bool) (r : Rule) (x : Dbref) (rest : Option Denial) → or_else (option_map (denial r) (when b x)) rest ≡ None → Passes b rest
passes true r x rest e = absurd (cc)
passes false r x rest e = record { here = refl; next = e }

-- Renaming.
pub rename_allowed : (a : Actor) (free : Freedom) (start es : List Entry) (x : Dbref) → SameRights start es → verdict es a (Rename x) ≡ None → name_open (judge a free start) x ≡ true
rename_allowed a free start es x s e =
    let p = passes (not (controls es a x)) P16 x _ e in
    let q = passes (is_player_at es x && nat_lt a.level 4) P17 x _ p.next in
    rw (same_controls a x start es s, same_player x start es s, le_not 4 a.level) (table (controls es a x) (is_player_at es x) (nat_lt a.level 4) p.here q.here)
  where
    table : (c p b : Bool) → not c ≡ false → (p && b) ≡ false → (c && (not b || not p)) ≡ true
    table true true false e f = refl
    table true false true e f = refl
    table true false false e f = refl
    table true true true e f = cc
    table false p b e f = cc

-- Writing a property.
pub write_allowed : (a : Actor) (free : Freedom) (start es : List Entry) (x : Dbref) (path : List (List ℕ)) → SameRights start es → verdict es a (Write x path) ≡ None → property_open (judge a free start) x path ≡ true
write_allowed a free start es x path s e =
    let k = class_of path in
    let p3 = passes (is_hidden k && nat_lt a.level 4) P3 x _ e in
    let p4 = passes (is_kept_class k && nat_lt a.level 4) P4 x _ p3.next in
    let p6 = passes (is_guarded k && is_below_level 3 es a x) P6 x _ p4.next in
    let p7 = passes (is_plain k && is_below_level 2 es a x) P7 x _ p6.next in
    rw (same_controls a x start es s, le_not 4 a.level, le_not 3 a.level, le_not 2 a.level)
    (table k (controls es a x) (nat_lt a.level 4) (nat_lt a.level 3) (nat_lt a.level 2) p3.here p4.here p6.here p7.here)
  where
    not_both : (b c : Bool) → (b && not c) ≡ false → (not b || c) ≡ true
    not_both true true e = refl
    not_both true false e = cc
    not_both false c e = refl

    table : (k : Class) (c b4 b3 b2 : Bool) → (is_hidden k && b4) ≡ false → (is_kept_class k && b4) ≡ false → (is_guarded k && (b3 && not c)) ≡ false → (is_plain k && (b2 && not c)) ≡ false →
        cond (is_hidden k || is_kept_class k) (not b4) (cond (is_guarded k) (not b3 || c) (not b2 || c)) ≡ true
    table At c b4 b3 b2 e f g h = ap not e
    table Tilde c b4 b3 b2 e f g h = ap not f
    table Dot c b4 b3 b2 e f g h = not_both b3 c g
    table Underscore c b4 b3 b2 e f g h = not_both b3 c g
    table Plain c b4 b3 b2 e f g h = not_both b2 c h

-- Setting a message or a lock.
pub change_allowed : (a : Actor) (free : Freedom) (start es : List Entry) (x : Dbref) (path : List (List ℕ)) → is_guarded (class_of path) ≡ true → SameRights start es → verdict es a (Change x) ≡ None → property_open (judge a free start) x path ≡ true
change_allowed a free start es x path g s e =
    let p = passes (not (controls es a x)) P16 x _ e in
    rw (same_controls a x start es s, not-false (controls es a x) p.here) (table (class_of path) (nat_le 4 a.level) (nat_le 3 a.level) (nat_le 2 a.level) g)
  where
    table : (k : Class) (b4 b3 b2 : Bool) → is_guarded k ≡ true → cond (is_hidden k || is_kept_class k) b4 (cond (is_guarded k) (b3 || true) (b2 || true)) ≡ true
    table At b4 b3 b2 e = cc
    table Tilde b4 b3 b2 e = cc
    table Dot b4 b3 b2 e = or_right b3 true refl
    table Underscore b4 b3 b2 e = or_right b3 true refl
    table Plain b4 b3 b2 e = cc

-- Moving.

pub move_allowed : (a : Actor) (free : Freedom) (start es : List Entry) (x to : Dbref) → same to home ≡ false → SameRights start es → verdict es a (Move x to) ≡ None → place_open (judge a free start) x to ≡ true
move_allowed a free start es x to there s e =
    let p = passes (is_below_level 3 es a x) P8 x _ e in
    let q = passes (not (same to home || open_place es a to)) P9 to _ p.next in
    let m : (nat_le 3 a.level || controls es a x) ≡ true = rw (le_not 3 a.level) (mover (nat_lt a.level 3) (controls es a x) p.here) in
    let t : open_place es a to ≡ true = rw there at (not-false (same to home || open_place es a to) q.here) in
    or_right (free.moves x) _ (rw (same_controls a x start es s, same_controls_or jump a to start es s) (and_from (nat_le 3 a.level || controls es a x) _ m (or_right _ (open_place es a to) t)))

pub home_allowed : (a : Actor) (free : Freedom) (start es : List Entry) (x to : Dbref) → to ≡ option_map_or (λ (o : Object). o.home) (object_at x es) nothing → SameRights start es → verdict es a (Move x home) ≡ None → place_open (judge a free start) x to ≡ true
home_allowed a free start es x to there s e =
    let p = passes (is_below_level 3 es a x) P8 x _ e in
    let m : (nat_le 3 a.level || controls es a x) ≡ true = rw (le_not 3 a.level) (mover (nat_lt a.level 3) (controls es a x) p.here) in
    let h : same to (home_of (judge a free start) x) ≡ true = same_eq to _ (there ∙ sym (same_home x start es s)) in
    or_right (free.moves x) _ (rw (same_controls a x start es s) (and_from (nat_le 3 a.level || controls es a x) _ m (or_left _ _ h)))

-- Linking.

pub link_allowed : (a : Actor) (free : Freedom) (start es : List Entry) (x to : Dbref) → SameRights start es → verdict es a (Link x to) ≡ None → link_open (judge a free start) x to ≡ true
link_allowed a free start es x to s e =
    let p = passes (not (controls es a x)) P12 x _ e in
    let q = passes (not (open_target es a to)) P13 to _ p.next in
    let m : (controls start a x && open_target start a to) ≡ true = rw (same_controls a x start es s, same_controls_or link a to start es s) (and_from (controls es a x) (open_target es a to) (not-false _ p.here) (not-false _ q.here)) in
    or_left _ _ m

pub live_allowed : (a : Actor) (free : Freedom) (start es : List Entry) (x to : Dbref) → SameRights start es → verdict es a (Link x to) ≡ None → home_open (judge a free start) x to ≡ true
live_allowed a free start es x to s e =
    let p = passes (not (controls es a x)) P12 x _ e in
    let q = passes (not (open_target es a to)) P13 to _ p.next in
    let m : (controls start a x && ((free.clears && same to (dbref_of 0)) || open_target start a to)) ≡ true =
    rw (same_controls a x start es s, same_controls_or link a to start es s) (and_from (controls es a x) _ (not-false _ p.here) (or_right (free.clears && same to (dbref_of 0)) (open_target es a to) (not-false _ q.here))) in
    or_left _ _ m

-- going back to `#0` as a home, where that is free
pub unlink_allowed : (a : Actor) (free : Freedom) (start es : List Entry) (x to : Dbref) → free.clears ≡ true → SameRights start es → verdict es a (Link x to) ≡ None → home_open (judge a free start) x (dbref_of 0) ≡ true
unlink_allowed a free start es x to h s e =
    let p = passes (not (controls es a x)) P12 x _ e in
    let t : ((free.clears && same (dbref_of 0) (dbref_of 0)) || open_target start a (dbref_of 0)) ≡ true = or_left _ _ (and_from free.clears _ h refl) in
    let m : (controls start a x && ((free.clears && same (dbref_of 0) (dbref_of 0)) || open_target start a (dbref_of 0))) ≡ true = rw (same_controls a x start es s) (and_from (controls es a x) _ (not-false _ p.here) t) in
    or_left _ _ m

-- Flags and levels.

pub flag_allowed : (a : Actor) (free : Freedom) (start es : List Entry) (x : Dbref) (flag : Flags) → SameRights start es → verdict es a (SetFlag x flag) ≡ None → (controls start a x ≡ true) × ((has_flag wizard flag && not (is_master a)) ≡ false)
flag_allowed a free start es x flag s e =
    let p = passes (not (controls es a x)) P16 x _ e in
    let q = passes (has_flag wizard flag && nat_lt a.level 4) P18 x _ p.next in
    (same_controls a x start es s ∙ not-false _ p.here, rw (le_not 4 a.level, not_twice (nat_lt a.level 4)) q.here)
  where
    not_twice : (b : Bool) → not (not b) ≡ b
    not_twice true = refl
    not_twice false = refl

player_kind : (q : Option Object) → option_map_or (λ (o : Object). is_player o.kind) q false ≡ is_player (option_map_or (λ (o : Object). o.kind) q Garbage)
player_kind None = refl
player_kind (Some o) = refl

program_kind : (q : Option Object) → option_map_or (λ (o : Object). is_program o.kind) q false ≡ is_program (option_map_or (λ (o : Object). o.kind) q Garbage)
program_kind None = refl
program_kind (Some o) = refl

kind_tells : (es : List Entry) (x : Dbref) → is_player_at es x ≡ is_player (option_map_or (λ (o : Object). o.kind) (object_at x es) Garbage)
unfolding is_player_at
kind_tells es x = player_kind (object_at x es)

pub level_allowed : (a : Actor) (free : Freedom) (start es : List Entry) (x : Dbref) (level : ℕ) → SameRights start es → verdict es a (SetLevel x level) ≡ None → level_open (judge a free start) x level ≡ true
level_allowed a free start es x level s e =
    let p16 = passes (not (controls es a x)) P16 x _ e in
    let p18 = passes (is_player_at es x && nat_lt a.level 4) P18 x _ p16.next in
    let p19 = passes (not (is_player_at es x || (is_program_at es x && nat_le level (level_at es a.user)))) P19 x _ p18.next in
    let k = judged_kind (judge a free start) x in
    let player : is_player_at es x ≡ is_player k = sym (same_player x start es s) ∙ kind_tells start x in
    let program : is_program_at es x ≡ is_program k = sym (same_program x start es s) ∙ program_kind (object_at x start) in
    let most : level_at es a.user ≡ level_at start a.user = sym (same_level a.user start es s) in
    let e18 : (is_player k && nat_lt a.level 4) ≡ false = rw (← player) p18.here in
    let e19 : not (is_player k || (is_program k && nat_le level (level_at start a.user))) ≡ false = rw (← player, ← program, ← most) p19.here in
    and_from (controls start a x) (level_open_to (judge a free start) x level k) (same_controls a x start es s ∙ not-false _ p16.here) (table (judge a free start) x level k e18 e19)
  where
    table : (j : Judge) (x : Dbref) (level : ℕ) (k : Kind) → (is_player k && nat_lt j.actor.level 4) ≡ false → not (is_player k || (is_program k && nat_le level (level_at j.objects j.actor.user))) ≡ false → level_open_to j x level k ≡ true
    table j x level Player e f = le_not 4 j.actor.level ∙ ap not e
    table j x level Program e f = not-false _ f
    table j x level Room e f = cc
    table j x level Thing e f = cc
    table j x level Exit e f = cc
    table j x level Garbage e f = cc

-- Owners, sources, passwords.

pub owner_allowed : (a : Actor) (free : Freedom) (start es : List Entry) (x owner : Dbref) → SameRights start es → verdict es a (SetOwner x owner) ≡ None → owner_open (judge a free start) x owner ≡ true
owner_allowed a free start es x owner s e =
    let p = passes (nat_lt a.level 4 && not (may_take_over es a x && same owner a.user)) P21 x _ e in
    let t : may_take_over start a x ≡ may_take_over es a x = same_take_over a x start es s in
    ap (λ b. is_master a || (same owner a.user && b)) t ∙ rw (le_not 4 a.level) (table (nat_lt a.level 4) (may_take_over es a x) (same owner a.user) p.here)
  where
    table : (b t o : Bool) → (b && not (t && o)) ≡ false → (not b || (o && t)) ≡ true
    table true true true e = refl
    table true true false e = cc
    table true false o e = cc
    table false t o e = refl

pub edit_allowed : (a : Actor) (free : Freedom) (start es : List Entry) (x : Dbref) → free.edits x ≡ true → SameRights start es → verdict es a (Edit x) ≡ None → lines_open (judge a free start) x ≡ true
edit_allowed a free start es x h s e =
    let p = passes (not (controls es a x)) P16 x _ e in
    let q = passes (level_at es a.user == 0) P22 x _ p.next in
    and_from (free.edits x) _ h (rw (same_controls a x start es s, same_level a.user start es s) (and_from (controls es a x) _ (not-false _ p.here) (some_level (level_at es a.user) q.here)))

master_by : (a : Actor) (b : Bool) → nat_lt a.level 4 ≡ b → b ≡ false → is_master a ≡ true
master_by a b e f = le_not 4 a.level ∙ ap not (e ∙ f)

pub password_allowed : (es : List Entry) (a : Actor) (x : Dbref) → verdict es a (Password x) ≡ None → is_master a ≡ true
password_allowed es a x e = let p = passes (nat_lt a.level 4) P17 x _ e in master_by a _ refl p.here

pub wizard_allowed : (es : List Entry) (a : Actor) → verdict es a Wizard ≡ None → is_master a ≡ true
wizard_allowed es a e = let p = passes (nat_lt a.level 4) P17 a.player _ e in master_by a _ refl p.here

pub master_allowed : (es : List Entry) (a : Actor) → verdict es a (Shared 4) ≡ None → is_master a ≡ true
master_allowed es a e = let p = passes (nat_lt a.level 4) P1 a.player _ e in master_by a _ refl p.here

-- Making and recycling.

same_builds : (a : Actor) (start es : List Entry) → SameRights start es → may_build es a ≡ true → (nat_le 3 a.level || flag_at builder start a.user) ≡ true
same_builds a start es s e = rw (same_flag builder a.user start es s) e

pub room_allowed : (a : Actor) (start es : List Entry) (place : Dbref) → SameRights start es → verdict es a (NewRoom place) ≡ None → ((nat_le 3 a.level || flag_at builder start a.user) ≡ true) × (controls_or link start a place ≡ true)
room_allowed a start es place s e =
    let p = passes (not (may_build es a)) P14 a.player _ e in
    let q = passes (not (controls_or link es a place)) P15 place _ p.next in
    (same_builds a start es s (not-false _ p.here), same_controls_or link a place start es s ∙ not-false _ q.here)

pub thing_allowed : (a : Actor) (start es : List Entry) (place : Dbref) → SameRights start es → verdict es a (NewThing place) ≡ None → ((nat_le 3 a.level || flag_at builder start a.user) ≡ true) × ((nat_le 3 a.level || controls_or jump start a place) ≡ true)
thing_allowed a start es place s e =
    let p = passes (not (open_place es a place)) P9 place _ e in
    let q = passes (not (may_build es a)) P14 a.player _ p.next in
    (same_builds a start es s (not-false _ q.here), rw (same_controls_or jump a place start es s) (not-false _ p.here))

pub exit_allowed : (a : Actor) (start es : List Entry) (place to : Dbref) → SameRights start es → verdict es a (NewExit place to) ≡ None →
    ((nat_le 3 a.level || flag_at builder start a.user) ≡ true) × (controls start a place ≡ true) × ((same to nothing || (same to home || controls_or link start a to)) ≡ true)
exit_allowed a start es place to s e =
    let p = passes (not (open_target es a to)) P13 to _ e in
    let q = passes (not (may_build es a)) P14 a.player _ p.next in
    let r = passes (not (controls es a place)) P15 place _ q.next in
    (same_builds a start es s (not-false _ q.here), same_controls a place start es s ∙ not-false _ r.here, rw (same_controls_or link a to start es s) (not-false _ p.here))

pub program_allowed : (a : Actor) (start es : List Entry) → SameRights start es → verdict es a NewProgram ≡ None → nat_le 1 (level_at start a.user) ≡ true
program_allowed a start es s e =
    let p = passes (level_at es a.user == 0) P22 a.player _ e in
    rw (same_level a.user start es s) (some_level (level_at es a.user) p.here)

pub recycle_allowed : (es : List Entry) (a : Actor) (x : Dbref) → verdict es a (Recycle x) ≡ None → controls es a x ≡ true
recycle_allowed es a x e = let p = passes (not (controls es a x)) P20 x _ e in not-false _ p.here

-- what is taken is where the player is
pub take_allowed : (es : List Entry) (a : Actor) (x : Dbref) → verdict es a (Take x) ≡ None → same (place_or_nothing es x) (place_or_nothing es a.player) ≡ true
take_allowed es a x e =
    let p = passes (not (opens_at es a.player x)) P10 x _ e in
    let q = passes (not (same (place_or_nothing es x) (place_or_nothing es a.player))) P11 x _ p.next in
    not-false _ q.here
