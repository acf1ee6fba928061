-- The rows that change objects: what each changes is open to who acts, and there is room for what it gives.
use Rattle.std.proofs.Common.{◌≡◌, inl, ℕ, Bool, true, false, cond, List, [], ◌∷◌, codes, Option, Some, None, IfSome, refl, arith}
use Rattle.std.specs.Prelude.{Result, Ok, Err}
use Rattle.muck_model.specs.declared.dbref.Dbref.{Dbref}
use Rattle.muck_model.specs.declared.dbref.Denial.{Denial}
use Rattle.muck_model.specs.declared.lock.Lock.{Lock}
use Rattle.muck_prop.specs.declared.value.PropValue.TheVariants.{Text}
use Rattle.muck_lock.specs.Grammar.{lock_of}
use Rattle.spec_live.specs.declared.fault.DbFault.{DbFault}
use Rattle.spec_live.specs.declared.fault.DbFault.TheVariants.{WorldFull as NoRoom}
use Rattle.spec_live.specs.Making.{create_check}
use Rattle.spec_live.specs.Objects.{Entry, dbref_of, nothing, on_object}
use Rattle.spec_live.specs.Recycling.{recycle_check}
use Rattle.spec_live.specs.Setting.{owner_check}
use Rattle.spec_live.specs.Lives.{Live, Change}
use Rattle.spec_rights.specs.declared.act.Actor.{Actor}
use Rattle.spec_rights.specs.declared.act.Act.{Act}
use Rattle.spec_rights.specs.declared.act.Act.TheVariants.{Change as ChangeAct, Link, Move, Recycle as RecycleAct, Rename, SetOwner}
use Rattle.spec_rights.specs.Changing.{name_given, object_owned_by, recycled_now, property_stored}
use Rattle.spec_rights.specs.Licence.{nobody, IsNew}
use Rattle.spec_rights.specs.Verdict.{verdict}
use Rattle.spec_rights.proofs.Rights.{SameRights}
use Rattle.spec_rights.proofs.Licences.{Ended, Ends, judge, itself, ends_stays}
use Rattle.spec_rights.proofs.Changes.{stays_named, stays_set, ends_owned}
use Rattle.spec_live.proofs.Steps.{kept, homed, linked, Touches}
use Rattle.spec_rights.proofs.Walking.{silent, finishes}
use Rattle.spec_rights.proofs.Makings.{new_in, end_created, room_open, thing_open, exit_open}
use Rattle.spec_rights.proofs.Recycled.{recycled_proper}
use Rattle.spec_commands.specs.declared.new.New.{New}
use Rattle.spec_commands.specs.declared.new.New.TheVariants.{Room, Thing, Exit}
use Rattle.spec_commands.specs.Building.{act_in, allowed, as_new, is_name, is_still_there as is_object_there, key_kept, key_names, kind_made, may_be, may_be_called, may_tie, meant_place, object_placed, tied}
use Rattle.spec_commands.specs.Finding.{message_path}
use Rattle.spec_commands.specs.Going.{home_at, movable}
use Rattle.spec_commands.specs.declared.setting.Setting.{Setting}
use Rattle.spec_commands.specs.Settings.{is_setting, may_set, set_so, setting_act, setting_asked}
use Rattle.spec_commands.proofs.Asked.{asked_is_one}
use Rattle.spec_commands.proofs.Built.{placed_open, set_so_open, tied_open}
use Rattle.muf_model.specs.declared.fault.MufFault.{MufFault}
use Rattle.muf_model.specs.declared.fault.MufFault.TheVariants.{BadArgument}
use Rattle.muf_model.specs.declared.prims.Primitive.{Primitive}
use Rattle.muf_model.specs.declared.prims.Primitive.TheVariants.{MoveTo, SetLink, SetOwn, Recycle, SetName, Set, SetLockStr, NewRoom, NewObject, NewExit}
use Rattle.muf_model.specs.Datum.{Datum, text, object}
use Rattle.spec_prims.specs.Asking.{fault_of_denial, object_numbered}
use Rattle.spec_prims.specs.Row.{WorldAnswer, gives, refuses, row_unless}
use Rattle.spec_prims.specs.ObjectWrites.{badly, changed_with_leave, done_by_text, done_to_two, given_made, key_kept_of, lock_put, locked_by, made_named, made_so, mislinked, misowned, new_made, one_done, place_far, set_by, text_done, thrown_away, two_done, writing_row}
use Rattle.spec_prims.proofs.Fit.{Fits, IsFit}
use Rattle.spec_prims.proofs.Open.{RowOpen, IsOpen, ended_open, same_open}

-- There is room.

pub fits_unless : (o : Option MufFault) (items : List Datum) (w : Live) (row : WorldAnswer) → Fits items w row → Fits items w (row_unless o row)
fits_unless None items w row h = h
fits_unless (Some f) items w row h = tt

fits_where : (may : Bool) (items : List Datum) (w : Live) (row : WorldAnswer) → Fits items w row → Fits items w (cond may row (refuses BadArgument))
fits_where true items w row h = h
fits_where false items w row h = tt

fits_changed : (a : Actor) (act : Act) (may : Bool) (f : Change) (items : List Datum) (w : Live) → Fits items w (changed_with_leave a act may f w)
unfolding changed_with_leave
fits_changed a act may f items w = fits_unless (fault_of_denial (verdict w.objects a act)) items w (cond may (gives [] (f w)) (refuses BadArgument)) (fits_where may items w (gives [] (f w)) (inl (omega arith)))

fits_behind : (o : Option MufFault) (a : Actor) (act : Act) (may : Bool) (f : Change) (items : List Datum) (w : Live) → Fits items w (row_unless o (changed_with_leave a act may f w))
fits_behind o a act may f items w = fits_unless o items w (changed_with_leave a act may f w) (fits_changed a act may f items w)

fits_given_made : (check : Result (ℕ × ℕ) DbFault) (make : ℕ → ℕ → Change) (item : Datum) (items : List Datum) (w : Live) → Fits (item ∷ items) w (given_made check make w)
fits_given_made (Ok p) make item items w = inl (omega arith)
fits_given_made (Err NoRoom) make item items w = tt
fits_given_made (Err _) make item items w = tt

fits_made_named : (a : Actor) (new : New) (name : List ℕ) (place : Dbref) (item : Datum) (items : List Datum) (w : Live) → Fits (item ∷ items) w (made_named a new name place w)
unfolding new_made
fits_made_named a new name place item items w =
    let check = create_check (kind_made new) a.user place w.objects in
    fits_unless (badly (is_name name)) (item ∷ items) w (new_made a new name place w)
    (fits_unless (fault_of_denial (verdict w.objects a (act_in place new))) (item ∷ items) w _
    (fits_where (may_be new w) (item ∷ items) w (given_made check (made_so new name a.user) w) (fits_given_made check (made_so new name a.user) item items w)))

fits_set_by : (a : Actor) (x : Dbref) (asked : Option Setting) (items : List Datum) (w : Live) → Fits items w (set_by a x asked w)
fits_set_by a x (Some setting) items w = fits_changed a (setting_act x setting) (may_set x setting w) (set_so x setting) items w
fits_set_by a x None items w = tt

fits_lock_kept : (x : Dbref) (printed : Option (List ℕ)) (item : Datum) (items : List Datum) (w : Live) → Fits (item ∷ items) w (lock_put x printed w)
fits_lock_kept x (Some printed) item items w = fits_where (is_object_there x w) (item ∷ items) w _ (inl (omega arith))
fits_lock_kept x None item items w = tt

fits_key_kept : (x : Dbref) (read : Result Lock ℕ) (item : Datum) (items : List Datum) (w : Live) → Fits (item ∷ items) w (key_kept_of x read w)
fits_key_kept x (Ok lock) item items w = fits_lock_kept x (key_kept (Ok lock)) item items w
fits_key_kept x (Err at) item items w = inl (omega arith)

fits_locked : (a : Actor) (x : Dbref) (t : List ℕ) (item : Datum) (items : List Datum) (w : Live) → Fits (item ∷ items) w (locked_by a x t w)
unfolding locked_by
fits_locked a x t item items w =
    let read : Result Lock ℕ = lock_of (key_names w a.player) t in
    fits_unless (fault_of_denial (verdict w.objects a (ChangeAct x))) (item ∷ items) w (key_kept_of x read w) (fits_key_kept x read item items w)

-- a line for each row

fits_two : (p : Primitive) (a : Actor) (x to : Dbref) (items : List Datum) (w : Live) → Fits items w (done_to_two p a x to w)
fits_two MoveTo a x to items w = fits_behind (place_far a w.objects to) a (Move x to) (movable x (meant_place x to w) w) (object_placed x to) items w
fits_two SetLink a x to items w = fits_behind (mislinked to w) a (Link x to) (may_tie x to to w) (tied x to to) items w
fits_two SetOwn a x to items w = fits_behind (misowned x to w) a (SetOwner x to) (allowed (owner_check x to w.objects)) (object_owned_by x to) items w
fits_two _ a x to items w = tt

fits_text : (p : Primitive) (a : Actor) (x : Dbref) (t : List ℕ) (item : Datum) (items : List Datum) (w : Live) → Fits (item ∷ items) w (done_by_text p a x t w)
fits_text SetName a x t item items w = fits_behind (badly (may_be_called x t w)) a (Rename x) (is_object_there x w) (name_given x t) (item ∷ items) w
fits_text Set a x t item items w = fits_set_by a x (setting_asked t) (item ∷ items) w
fits_text SetLockStr a x t item items w = fits_locked a x t item items w
fits_text NewRoom a x t item items w = fits_made_named a Room t x item items w
fits_text NewObject a x t item items w = fits_made_named a (Thing (home_at a.user w)) t x item items w
fits_text NewExit a x t item items w = fits_made_named a (Exit nothing) t x item items w
fits_text _ a x t item items w = tt

-- by what they take

fits_one_done : (a : Actor) (items : List Datum) (w : Live) → Fits items w (one_done thrown_away a items w)
fits_one_done a (object x ∷ []) w = fits_changed a (RecycleAct (object_numbered x)) (allowed (recycle_check (object_numbered x) w.objects)) (recycled_now (object_numbered x)) (object x ∷ []) w
fits_one_done a _ w = tt

fits_two_done : (p : Primitive) (a : Actor) (items : List Datum) (w : Live) → Fits items w (two_done (done_to_two p) a items w)
fits_two_done p a (object to ∷ object x ∷ []) w = fits_two p a (object_numbered x) (object_numbered to) (object to ∷ object x ∷ []) w
fits_two_done p a _ w = tt

fits_text_done : (p : Primitive) (a : Actor) (items : List Datum) (w : Live) → Fits items w (text_done (done_by_text p) a items w)
fits_text_done p a (text t ∷ object x ∷ []) w = fits_text p a (object_numbered x) t (text t) (object x ∷ []) w
fits_text_done p a _ w = tt

pub fits_writing : (p : Primitive) → IsFit (writing_row p)
fits_writing MoveTo = fits_two_done MoveTo
fits_writing SetLink = fits_two_done SetLink
fits_writing SetOwn = fits_two_done SetOwn
fits_writing Recycle = fits_one_done
fits_writing SetName = fits_text_done SetName
fits_writing Set = fits_text_done Set
fits_writing SetLockStr = fits_text_done SetLockStr
fits_writing NewRoom = fits_text_done NewRoom
fits_writing NewObject = fits_text_done NewObject
fits_writing NewExit = fits_text_done NewExit
fits_writing _ = tt

-- What is done by leave is open where the law of the change says so.

opens_unless : (o : Option MufFault) (a : Actor) (w : Live) (row : WorldAnswer) → RowOpen a w row → RowOpen a w (row_unless o row)
opens_unless None a w row h = h
opens_unless (Some f) a w row h = tt

opens_where : (may : Bool) (a : Actor) (w : Live) (row : WorldAnswer) → (may ≡ true → RowOpen a w row) → RowOpen a w (cond may row (refuses BadArgument))
opens_where true a w row h = h refl
opens_where false a w row h = tt

opens_denied : (o : Option Denial) (a : Actor) (w : Live) (row : WorldAnswer) → (o ≡ None → RowOpen a w row) → RowOpen a w (row_unless (fault_of_denial o) row)
opens_denied None a w row h = h refl
opens_denied (Some denial) a w row h = tt

opens_changed : (a : Actor) (act : Act) (may : Bool) (f : Change) (w : Live) → Ends itself a nobody (Some act) f → RowOpen a w (changed_with_leave a act may f w)
unfolding changed_with_leave
opens_changed a act may f w h =
    opens_denied (verdict w.objects a act) a w (cond may (gives [] (f w)) (refuses BadArgument))
    (λ e. opens_where may a w (gives [] (f w)) (λ m. ended_open a (Some act) w (f w) (h.law w) e))

opens_behind : (o : Option MufFault) (a : Actor) (act : Act) (may : Bool) (f : Change) (w : Live) → Ends itself a nobody (Some act) f → RowOpen a w (row_unless o (changed_with_leave a act may f w))
opens_behind o a act may f w h = opens_unless o a w (changed_with_leave a act may f w) (opens_changed a act may f w h)

-- recycling, where the check passes

checked_so : {X : Type 0} (check : Result X DbFault) → allowed check ≡ true → (x : X) × (check ≡ Ok x)
checked_so (Ok x) e = (x, refl)
checked_so (Err fault) e = absurd cc

opens_recycled : (a : Actor) (x : Dbref) (w : Live) → RowOpen a w (thrown_away a x w)
unfolding changed_with_leave
opens_recycled a x w =
    let check = recycle_check x w.objects in
    opens_denied (verdict w.objects a (RecycleAct x)) a w (cond (allowed check) (gives [] (recycled_now x w)) (refuses BadArgument))
    (λ e. opens_where (allowed check) a w (gives [] (recycled_now x w))
    (λ m. let n = checked_so check m in recycled_proper a nobody x w n.0 e n.1))

-- making, where the check passes

new_open : (a : Actor) (new : New) (name : List ℕ) (place : Dbref) (start es : List Entry) (k t : ℕ) → SameRights start es → verdict es a (act_in place new) ≡ None → place ≡ dbref_of t →
    IsNew (judge a nobody start) (dbref_of k) (new_in (kind_made new) name a.user (as_new new) k t)
new_open a Room name place start es k t s g e = room_open a nobody start es name place k t s g e
new_open a (Thing at) name place start es k t s g e = thing_open a nobody start es name place at k t s g e
new_open a (Exit to) name place start es k t s g e = exit_open a nobody start es name place to k t s g e

new_touches : (new : New) (e : Entry) → Touches silent false e (on_object (as_new new) e)
new_touches Room = finishes kept
new_touches (Thing at) = finishes (homed at)
new_touches (Exit to) = finishes (linked to)

ended_made : (a : Actor) (new : New) (name : List ℕ) (place : Dbref) (w : Live) (p : ℕ × ℕ) → create_check (kind_made new) a.user place w.objects ≡ Ok p → Ended itself a nobody (Some (act_in place new)) w (made_so new name a.user p.0 p.1 w)
ended_made a new name place w p e = record {
  law = λ start s g. end_created (judge a nobody start) (kind_made new) name a.user place (as_new new) w p e (new_touches new) (λ k t q. new_open a new name place start w.objects k t s g q);
}

opens_given_made : (a : Actor) (new : New) (name : List ℕ) (place : Dbref) (w : Live) → verdict w.objects a (act_in place new) ≡ None → (check : Result (ℕ × ℕ) DbFault) → create_check (kind_made new) a.user place w.objects ≡ check →
    RowOpen a w (given_made check (made_so new name a.user) w)
opens_given_made a new name place w g (Ok p) e = ended_open a (Some (act_in place new)) w (made_so new name a.user p.0 p.1 w) (ended_made a new name place w p e) g
opens_given_made a new name place w g (Err NoRoom) e = tt
opens_given_made a new name place w g (Err _) e = tt

opens_made_named : (a : Actor) (new : New) (name : List ℕ) (place : Dbref) (w : Live) → RowOpen a w (made_named a new name place w)
unfolding new_made
opens_made_named a new name place w =
    let made : WorldAnswer = given_made (create_check (kind_made new) a.user place w.objects) (made_so new name a.user) w in
    opens_unless (badly (is_name name)) a w (new_made a new name place w)
    (opens_denied (verdict w.objects a (act_in place new)) a w (cond (may_be new w) made (refuses BadArgument))
    (λ g. opens_where (may_be new w) a w made (λ m. opens_given_made a new name place w g _ refl)))

-- a flag, a level or a lock

opens_set_by : (a : Actor) (x : Dbref) (asked : Option Setting) (w : Live) → IfSome asked (λ setting. is_setting setting ≡ true) → RowOpen a w (set_by a x asked w)
opens_set_by a x (Some setting) w h = opens_changed a (setting_act x setting) (may_set x setting w) (set_so x setting) w (set_so_open a nobody x setting h)
opens_set_by a x None w h = tt

lock_ends : (a : Actor) (x : Dbref) (printed : List ℕ) → Ends itself a nobody (Some (ChangeAct x)) (property_stored x (message_path (codes "lok")) (Text printed))
lock_ends a x printed = ends_stays a nobody (Some (ChangeAct x)) _ (stays_set a nobody x (message_path (codes "lok")) (Text printed) refl)

opens_lock_kept : (a : Actor) (x : Dbref) (printed : Option (List ℕ)) (w : Live) → verdict w.objects a (ChangeAct x) ≡ None → RowOpen a w (lock_put x printed w)
opens_lock_kept a x (Some printed) w e =
    opens_where (is_object_there x w) a w _ (λ m. ended_open a (Some (ChangeAct x)) w (property_stored x (message_path (codes "lok")) (Text printed) w) ((lock_ends a x printed).law w) e)
opens_lock_kept a x None w e = tt

opens_key_kept : (a : Actor) (x : Dbref) (read : Result Lock ℕ) (w : Live) → verdict w.objects a (ChangeAct x) ≡ None → RowOpen a w (key_kept_of x read w)
opens_key_kept a x (Ok lock) w e = opens_lock_kept a x (key_kept (Ok lock)) w e
opens_key_kept a x (Err at) w e = same_open a w

opens_locked : (a : Actor) (x : Dbref) (t : List ℕ) (w : Live) → RowOpen a w (locked_by a x t w)
unfolding locked_by
opens_locked a x t w =
    let read : Result Lock ℕ = lock_of (key_names w a.player) t in
    opens_denied (verdict w.objects a (ChangeAct x)) a w (key_kept_of x read w) (λ e. opens_key_kept a x read w e)

-- a line for each row

opens_two : (p : Primitive) (a : Actor) (x to : Dbref) (w : Live) → RowOpen a w (done_to_two p a x to w)
opens_two MoveTo a x to w = opens_behind (place_far a w.objects to) a (Move x to) (movable x (meant_place x to w) w) (object_placed x to) w (placed_open a nobody x to)
opens_two SetLink a x to w = opens_behind (mislinked to w) a (Link x to) (may_tie x to to w) (tied x to to) w (tied_open a nobody x to)
opens_two SetOwn a x to w = opens_behind (misowned x to w) a (SetOwner x to) (allowed (owner_check x to w.objects)) (object_owned_by x to) w (ends_owned a nobody x to)
opens_two _ a x to w = tt

opens_text : (p : Primitive) (a : Actor) (x : Dbref) (t : List ℕ) (w : Live) → RowOpen a w (done_by_text p a x t w)
opens_text SetName a x t w = opens_behind (badly (may_be_called x t w)) a (Rename x) (is_object_there x w) (name_given x t) w (ends_stays a nobody (Some (Rename x)) (name_given x t) (stays_named a nobody x t))
opens_text Set a x t w = opens_set_by a x (setting_asked t) w (asked_is_one t)
opens_text SetLockStr a x t w = opens_locked a x t w
opens_text NewRoom a x t w = opens_made_named a Room t x w
opens_text NewObject a x t w = opens_made_named a (Thing (home_at a.user w)) t x w
opens_text NewExit a x t w = opens_made_named a (Exit nothing) t x w
opens_text _ a x t w = tt

-- by what they take

opens_one_done : (a : Actor) (items : List Datum) (w : Live) → RowOpen a w (one_done thrown_away a items w)
opens_one_done a (object x ∷ []) w = opens_recycled a (object_numbered x) w
opens_one_done a _ w = tt

opens_two_done : (p : Primitive) (a : Actor) (items : List Datum) (w : Live) → RowOpen a w (two_done (done_to_two p) a items w)
opens_two_done p a (object to ∷ object x ∷ []) w = opens_two p a (object_numbered x) (object_numbered to) w
opens_two_done p a _ w = tt

opens_text_done : (p : Primitive) (a : Actor) (items : List Datum) (w : Live) → RowOpen a w (text_done (done_by_text p) a items w)
opens_text_done p a (text t ∷ object x ∷ []) w = opens_text p a (object_numbered x) t w
opens_text_done p a _ w = tt

pub opens_writing : (level : ℕ) (p : Primitive) → IsOpen level (writing_row p)
opens_writing level MoveTo = λ a items w passes. opens_two_done MoveTo a items w
opens_writing level SetLink = λ a items w passes. opens_two_done SetLink a items w
opens_writing level SetOwn = λ a items w passes. opens_two_done SetOwn a items w
opens_writing level Recycle = λ a items w passes. opens_one_done a items w
opens_writing level SetName = λ a items w passes. opens_text_done SetName a items w
opens_writing level Set = λ a items w passes. opens_text_done Set a items w
opens_writing level SetLockStr = λ a items w passes. opens_text_done SetLockStr a items w
opens_writing level NewRoom = λ a items w passes. opens_text_done NewRoom a items w
opens_writing level NewObject = λ a items w passes. opens_text_done NewObject a items w
opens_writing level NewExit = λ a items w passes. opens_text_done NewExit a items w
opens_writing level _ = tt
