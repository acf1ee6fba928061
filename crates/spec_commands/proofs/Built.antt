-- What players build is open to them.
use Rattle.std.proofs.Common.{◌≡◌, ℕ, Bool, true, false, cond, List, refl, subst, Option, Some, None}
use Rattle.muck_model.proofs.Dbrefs.{eq_same}
use Rattle.std.specs.Prelude.{Result, Ok, Err, IfSome}
use Rattle.muck_model.specs.declared.dbref.Dbref.{Dbref}
use Rattle.muck_model.specs.declared.dbref.Kind.{Kind}
use Rattle.muck_model.specs.declared.dbref.Kind.TheVariants.{Room as RoomKind, Thing as ThingKind, Exit as ExitKind, Player as PlayerKind}
use Rattle.muck_prop.specs.declared.path.PropFault.{PropFault}
use Rattle.muck_prop.specs.Paths.{class_of, path_fault, segments_of}
use Rattle.spec_live.specs.declared.fault.DbFault.{DbFault}
use Rattle.spec_live.specs.declared.object.Object.{Object}
use Rattle.spec_live.specs.Objects.{Entry, dbref_of, nothing, home, same, on_object}
use Rattle.spec_live.specs.Making.{create_check}
use Rattle.spec_live.specs.Lives.{Live, Change, change_followed, ◌▸◌, reading, tell}
use Rattle.spec_rights.specs.declared.act.Actor.{Actor}
use Rattle.spec_rights.specs.declared.act.Act.{Act}
use Rattle.spec_rights.specs.declared.act.Act.TheVariants.{Move, Link, NewRoom, NewThing, NewExit, Change as ChangeAct, Wizard}
use Rattle.spec_rights.specs.Verdict.{verdict, is_master, is_guarded}
use Rattle.spec_rights.specs.Changing.{moved_to, created_so}
use Rattle.spec_rights.specs.Licence.{Freedom, IsNew}
use Rattle.spec_live.proofs.Steps.{kept as bare, homed, linked, Touches}
use Rattle.spec_rights.proofs.Rights.{SameRights}
use Rattle.spec_rights.proofs.Walking.{silent, finishes}
use Rattle.spec_rights.proofs.Licences.{judge, Quiet, Stay, End, Ends, itself, ends_quiet, ends_stays, ends_by, stays_by}
use Rattle.spec_rights.proofs.Makings.{new_in, end_created, room_open, thing_open, exit_open, player_open}
use Rattle.spec_rights.proofs.Behind.{Trailing, trailing_quiet}
use Rattle.spec_rights.proofs.Allowed.{wizard_allowed}
use Rattle.spec_rights.proofs.Places.{stays_moved, stay_moved_home}
use Rattle.spec_rights.proofs.Changes.{ends_leveled, ends_flag_set, ends_flag_cleared}
use Rattle.spec_rights.proofs.Permitted.{ending}
use Rattle.spec_rights.proofs.Shown.{shown, quiet_tell}
use Rattle.spec_commands.specs.declared.new.New.{New}
use Rattle.spec_commands.specs.declared.new.New.TheVariants.{Room, Thing, Exit}
use Rattle.spec_commands.specs.Replies.{cant_be_done}
use Rattle.spec_commands.specs.Finding.{message_path}
use Rattle.spec_commands.specs.Going.{home_at}
use Rattle.spec_commands.specs.Building.{made_at, created_shown, making, kind_made, as_new, act_in, object_made, thing_made, exit_opened, done_where, change_by_leave, tied, link_set, link_cleared, name_set, text_kept, lock_kept, lock_set, object_placed, teleported, chowned, find_shown}
use Rattle.spec_commands.specs.declared.setting.Setting.{Setting}
use Rattle.spec_commands.specs.declared.setting.Setting.TheVariants.{Flag, NoFlag, Level}
use Rattle.spec_commands.specs.Settings.{setting_asked, is_setting, setting_act, set_so, word_set, property_set, has_colon, path_part, value_part, assigned}
use Rattle.spec_commands.proofs.Showing.{seeing}
use Rattle.spec_commands.proofs.Asked.{asked_is_one}

-- whatever ends as is open
pub ruleset permitting = (ending, seeing)

-- Making.

pub quiet_created_shown : (d n : ℕ) → Quiet (created_shown d n)
unfolding created_shown
quiet_created_shown d n = search shown

-- where the world allows it an object is made, and what comes behind it ends as is open too
pub ends_founded : (a : Actor) (free : Freedom) (act : Act) (d : ℕ) (kind : Kind) (name : List ℕ) (place : Dbref) (f : Object → Object) (after : ℕ → Change) → ((e : Entry) → Touches silent false e (on_object f e)) →
    ((start es : List Entry) (k t : ℕ) → SameRights start es → verdict es a act ≡ None → place ≡ dbref_of t → IsNew (judge a free start) (dbref_of k) (new_in kind name a.user f k t)) →
    ((start es : List Entry) (n : ℕ) → verdict es a act ≡ None → Trailing (judge a free start) (after n)) →
    Ends itself a free (Some act) (reading (λ w. create_check kind a.user place w.objects) (λ check. made_at check (λ n to. created_so n kind name a.user to f ▸ after n) (tell d cant_be_done)))
unfolding reading change_followed
ends_founded a free act d kind name place f after touch new behind = ends_by _ (λ start w s g. at start w s g (create_check kind a.user place w.objects) refl)
  where
    at : (start : List Entry) (w : Live) → SameRights start w.objects → verdict w.objects a act ≡ None → (check : Result (ℕ × ℕ) DbFault) → create_check kind a.user place w.objects ≡ check →
        End (judge a free start) w (made_at check (λ n to. created_so n kind name a.user to f ▸ after n) (tell d cant_be_done) w)
    at start w s g (Ok p) e =
        let v : Live = created_so p.0 kind name a.user p.1 f w in
        ((behind start w.objects p.0 g).law v).law w (end_created (judge a free start) kind name a.user place f w p e touch (λ k t q. new start w.objects k t s g q))
    at start w s g (Err fault) e = ((ends_quiet a free (Some act) (tell d cant_be_done) (quiet_tell d cant_be_done)).law w).law start s g

ends_making : (a : Actor) (free : Freedom) (act : Act) (d : ℕ) (kind : Kind) (name : List ℕ) (place : Dbref) (f : Object → Object) → ((e : Entry) → Touches silent false e (on_object f e)) →
    ((start es : List Entry) (k t : ℕ) → SameRights start es → verdict es a act ≡ None → place ≡ dbref_of t → IsNew (judge a free start) (dbref_of k) (new_in kind name a.user f k t)) →
    Ends itself a free (Some act) (making d a kind name place f)
unfolding making
ends_making a free act d kind name place f touch new =
    ends_founded a free act d kind name place f (created_shown d) touch new (λ start es n g. trailing_quiet (judge a free start) (created_shown d n) (quiet_created_shown d n))

-- a player, by leave for wizards alone
pub player_founded : (a : Actor) (free : Freedom) (d : ℕ) (name : List ℕ) (place : Dbref) (after : ℕ → Change) → ((start : List Entry) (n : ℕ) → is_master a ≡ true → Trailing (judge a free start) (after n)) →
    Ends itself a free (Some Wizard) (reading (λ w. create_check PlayerKind a.user place w.objects) (λ check. made_at check (λ n to. created_so n PlayerKind name a.user to (λ o. o) ▸ after n) (tell d cant_be_done)))
player_founded a free d name place after behind =
    ends_founded a free Wizard d PlayerKind name place (λ o. o) after (finishes bare) (λ start es k t s g e. player_open a free start es name a.user k t g) (λ start es n g. behind start n (wizard_allowed es a g))

making_new : (a : Actor) (free : Freedom) (d : ℕ) (new : New) (name : List ℕ) (place : Dbref) → Ends itself a free (Some (act_in place new)) (making d a (kind_made new) name place (as_new new))
making_new a free d Room name place = ends_making a free (NewRoom place) d RoomKind name place (as_new Room) (finishes bare) (λ start es k t s g e. room_open a free start es name place k t s g e)
making_new a free d (Thing at) name place = ends_making a free (NewThing place) d ThingKind name place (as_new (Thing at)) (finishes (homed at)) (λ start es k t s g e. thing_open a free start es name place at k t s g e)
making_new a free d (Exit to) name place = ends_making a free (NewExit place to) d ExitKind name place (as_new (Exit to)) (finishes (linked to)) (λ start es k t s g e. exit_open a free start es name place to k t s g e)

pub made_open : (a : Actor) (free : Freedom) (d : ℕ) (new : New) (name : List ℕ) (place : Dbref) → Ends itself a free None (object_made d a new name place)
unfolding object_made
made_open a free d new name place = search (permitting, making_new)

pub thing_made_open : (a : Actor) (free : Freedom) (d : ℕ) (name : List ℕ) → Ends itself a free None (thing_made d a name)
unfolding thing_made
thing_made_open a free d name = search (permitting, made_open)

pub exit_opened_open : (a : Actor) (free : Freedom) (d : ℕ) (name : List ℕ) (to : Dbref) → Ends itself a free None (exit_opened d a name to)
unfolding exit_opened
exit_opened_open a free d name to = search (permitting, made_open)

-- Writing.

ends_done_where : (a : Actor) (free : Freedom) (given : Option Act) (d : ℕ) (may : Live → Bool) (change : Change) (reply : List ℕ) → Ends itself a free given change → Ends itself a free given (done_where d may change reply)
unfolding done_where
ends_done_where a free given d may change reply p = search permitting

ends_written : (a : Actor) (free : Freedom) (d : ℕ) (act : Act) (may : Live → Bool) (change : Change) (reply : List ℕ) → Ends itself a free (Some act) change → Ends itself a free None (change_by_leave d a act may change reply)
unfolding change_by_leave
ends_written a free d act may change reply p = search (permitting, ends_done_where)

ruleset writing = (permitting, ends_done_where, ends_written)

pub tied_open : (a : Actor) (free : Freedom) (x to : Dbref) → Ends itself a free (Some (Link x to)) (tied x to to)
unfolding tied
tied_open a free x to = search permitting

untied_open : (a : Actor) (free : Freedom) (x : Dbref) → free.clears ≡ true → Ends itself a free (Some (Link x nothing)) (tied x nothing (dbref_of 0))
unfolding tied
untied_open a free x h = search permitting

pub link_set_open : (a : Actor) (free : Freedom) (d : ℕ) (x to : Dbref) → Ends itself a free None (link_set d a x to)
unfolding link_set
link_set_open a free d x to = search (writing, tied_open)

pub link_cleared_open : (a : Actor) (free : Freedom) (d : ℕ) (x : Dbref) → free.clears ≡ true → Ends itself a free None (link_cleared d a x)
unfolding link_cleared
link_cleared_open a free d x h = search (writing, untied_open)

pub name_set_open : (a : Actor) (free : Freedom) (d : ℕ) (x : Dbref) (name : List ℕ) → Ends itself a free None (name_set d a x name)
unfolding name_set
name_set_open a free d x name = search writing

pub kept_open : (a : Actor) (free : Freedom) (d : ℕ) (x : Dbref) (word text reply : List ℕ) → is_guarded (class_of (message_path word)) ≡ true → Ends itself a free None (text_kept d a x word text reply)
unfolding text_kept
kept_open a free d x word text reply h = search writing

lock_kept_open : (a : Actor) (free : Freedom) (d : ℕ) (x : Dbref) (text : Option (List ℕ)) → Ends itself a free (Some (ChangeAct x)) (lock_kept d x text)
lock_kept_open a free d x (Some text) = search writing
lock_kept_open a free d x None = search writing

pub lock_set_open : (a : Actor) (free : Freedom) (d : ℕ) (x : Dbref) (key : List ℕ) → Ends itself a free None (lock_set d a x key)
unfolding lock_set
lock_set_open a free d x key = search (writing, lock_kept_open)

pub placed_open : (a : Actor) (free : Freedom) (x to : Dbref) → Ends itself a free (Some (Move x to)) (object_placed x to)
unfolding object_placed reading
placed_open a free x to = ends_stays a free (Some (Move x to)) _ (stays_by _ (λ start w s g. at start w s g (same to home) refl))
  where
    at : (start : List Entry) (w : Live) → SameRights start w.objects → verdict w.objects a (Move x to) ≡ None → (b : Bool) → same to home ≡ b → Stay (judge a free start) w (moved_to x (cond b (home_at x w) to) w)
    at start w s g true e =
        let P : Dbref → Type 0 = λ y. verdict w.objects a (Move x y) ≡ None in
        stay_moved_home a free start w x (home_at x w) refl s (subst P (eq_same to home e) g)
    at start w s g false e = ((stays_moved a free x to).law w).law start s g

pub teleported_open : (a : Actor) (free : Freedom) (d : ℕ) (x to : Dbref) → Ends itself a free None (teleported d a x to)
unfolding teleported
teleported_open a free d x to = search (writing, placed_open)

pub chowned_open : (a : Actor) (free : Freedom) (d : ℕ) (x owner : Dbref) → Ends itself a free None (chowned d a x owner)
unfolding chowned
chowned_open a free d x owner = search writing

-- Settings.

pub set_so_open : (a : Actor) (free : Freedom) (x : Dbref) (setting : Setting) → is_setting setting ≡ true → Ends itself a free (Some (setting_act x setting)) (set_so x setting)
set_so_open a free x (Flag flag) h = ends_flag_set a free x flag h
set_so_open a free x (NoFlag flag) h = ends_flag_cleared a free x flag h
set_so_open a free x (Level level) h = ends_leveled a free x level

word_set_open : (a : Actor) (free : Freedom) (d : ℕ) (x : Dbref) (asked : Option Setting) → IfSome asked (λ setting. is_setting setting ≡ true) → Ends itself a free None (word_set d a x asked)
word_set_open a free d x (Some setting) h = search (writing, set_so_open)
word_set_open a free d x None h = search writing

property_set_open : (a : Actor) (free : Freedom) (d : ℕ) (x : Dbref) (path : List (List ℕ)) (value : List ℕ) (fault : Option PropFault) → Ends itself a free None (property_set d a x path value fault)
property_set_open a free d x path value None = search writing
property_set_open a free d x path value (Some fault) = search writing

either_open : (a : Actor) (free : Freedom) (b : Bool) (f g : Change) → Ends itself a free None f → Ends itself a free None g → Ends itself a free None (cond b f g)
either_open a free true f g p q = p
either_open a free false f g p q = q

pub assigned_open : (a : Actor) (free : Freedom) (d : ℕ) (x : Dbref) (text : List ℕ) → Ends itself a free None (assigned d a x text)
unfolding assigned
assigned_open a free d x text =
    either_open a free (has_colon text) _ _ (property_set_open a free d x (segments_of (path_part text)) (value_part text) (path_fault (path_part text)))
    (word_set_open a free d x (setting_asked text) (asked_is_one text))

-- whatever builders make and write
pub ruleset building = (made_open, thing_made_open, exit_opened_open, link_set_open, link_cleared_open, name_set_open, kept_open, lock_set_open, teleported_open, chowned_open, assigned_open)

-- Looking things up.

pub quiet_find_shown : (d : ℕ) (a : Actor) (part : List ℕ) → Quiet (find_shown d a part)
unfolding find_shown
quiet_find_shown d a part = search seeing
