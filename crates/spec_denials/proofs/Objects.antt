-- What the rows of objects ask for.
use Rattle.std.proofs.Common.{ℕ, Bool, true, false, cond, List, [], ◌∷◌, ◌++◌, length, Option, Some, None, refl, sym, subst}
use Rattle.std.specs.Option.{option_map_or}
use Rattle.std.specs.Prelude.{nat_lt, codes, ◌||◌, ◌&&◌, not, Result, Ok, Err}
use Rattle.muck_model.specs.declared.dbref.Dbref.{Dbref}
use Rattle.muck_model.specs.Bytes.{text_fault, text_most}
use Rattle.muck_model.specs.declared.lock.Lock.{Lock}
use Rattle.muck_prop.specs.declared.value.PropValue.TheVariants.{Text}
use Rattle.muck_lock.specs.Grammar.{lock_of}
use Rattle.muck_lock.specs.Printed.{lock_printed}
use Rattle.spec_live.specs.declared.fault.DbFault.{DbFault}
use Rattle.spec_live.specs.declared.fault.DbFault.TheVariants.{WorldFull as NoRoom}
use Rattle.spec_live.specs.Objects.{Entry, same, home, nothing, object_at}
use Rattle.spec_live.specs.Making.{create_check}
use Rattle.spec_live.specs.Seen.{long_form}
use Rattle.spec_live.specs.Lives.{Live, Change}
use Rattle.spec_rights.specs.declared.act.Actor.{Actor}
use Rattle.spec_rights.specs.declared.act.Act.{Act}
use Rattle.spec_rights.specs.declared.act.Act.TheVariants.{Near, Move, Link, SetOwner, Rename, Change as ChangeAct, Recycle as RecycleAct, NewRoom as NewRoomAct, NewThing, NewExit as NewExitAct}
use Rattle.spec_rights.specs.Changing.{property_stored}
use Rattle.spec_rights.specs.Levels.{is_player_at, dbref_number}
use Rattle.spec_rights.specs.Verdict.{verdict}
use Rattle.spec_commands.specs.declared.new.New.{New}
use Rattle.spec_commands.specs.declared.new.New.TheVariants.{Room, Thing, Exit}
use Rattle.spec_commands.specs.Building.{act_in, is_name, is_still_there as is_object_there, key_kept, key_names, keys_in, kind_made, may_be, may_be_called}
use Rattle.spec_commands.specs.Going.{home_at}
use Rattle.spec_commands.specs.Finding.{message_path}
use Rattle.spec_commands.specs.declared.setting.Setting.{Setting}
use Rattle.spec_commands.specs.declared.setting.Setting.TheVariants.{Flag, NoFlag, Level}
use Rattle.spec_commands.specs.Settings.{setting_act, setting_asked}
use Rattle.muf_model.specs.declared.fault.MufFault.{MufFault}
use Rattle.muf_model.specs.declared.fault.MufFault.TheVariants.{BadArgument, NoSuchObject, TextTooLong}
use Rattle.muf_model.specs.declared.prims.Primitive.{Primitive}
use Rattle.muf_model.specs.declared.prims.Primitive.TheVariants.{Name, Owner, Location, Contents, Exits, Next, IsOk, IsPlayer, IsThing, IsRoom, IsExit, IsProgram, Match, PMatch, HasFlag, MLevel, GetLink, Controls, GetLockStr, ParseLock, UnparseLock, TestLock, UnparseObj, DbTop, MoveTo, SetLink, SetOwn, Recycle, SetName, Set, SetLockStr, NewRoom, NewObject, NewExit}
use Rattle.muf_model.specs.Datum.{Datum, text, object, lock}
use Rattle.muf_model.specs.StackRows.{truth_item}
use Rattle.spec_prims.specs.Asking.{object_numbered, fault_of_denial, near_fault, is_number_there}
use Rattle.spec_prims.specs.Row.{WorldAnswer, gives, refuses, row_unless, WorldDoing}
use Rattle.spec_prims.specs.ObjectRows.{Finding, text_read_out, given, found_of, one_object, one_item, kind_asked, found_by_text, found_by, control_tested, lock_read, lock_parsed, unparsed, lock_tested, flag_asked, flag_found, flagged, misflagged, misasked, top, finds, object_row}
use Rattle.spec_prims.specs.ObjectWrites.{changed_with_leave, badly, missing, place_far, mislinked, misowned, done_to_two, given_made, made_so, new_made, made_named, set_by, lock_put, key_kept_of, locked_by, done_by_text, one_done, thrown_away, two_done, text_done, place_missing}
use Rattle.spec_denials.specs.Acts.{of_one, of_two, of_named, sets, move_acts, own_acts}
use Rattle.spec_denials.specs.Acts as acts
use Rattle.spec_denials.specs.Asked.{first_denied, FaultNames, RowNames}
use Rattle.spec_denials.proofs.Naming.{TestNames, Plain, plain_if, tests_verdict, denied_both, denied_one, rows_unless, rows_plain, rows_leave}

module _ (B : MufFault → Live → Type 0) (a : Actor) (w : Live) where
  abbrev Names : List Act → WorldAnswer → Type 0
  Names asked row = RowNames B (first_denied w.objects a asked) row

  -- What is changed by leave, where the world allows it.

  names_where : (may : Bool) (v : Live) → RowNames B None (cond may (gives [] v) (refuses BadArgument))
  names_where true v = refl
  names_where false v = tt

  names_changed : (act : Act) (may : Bool) (f : Change) → Names (act ∷ []) (changed_with_leave a act may f w)
  unfolding changed_with_leave
  names_changed act may f = rows_leave B w.objects a act (cond may (gives [] (f w)) (refuses BadArgument)) (names_where may (f w))

  plain_badly : (b : Bool) → Plain (badly b)
  plain_badly true = refl
  plain_badly false = tt

  plain_missing : (to : Dbref) → Plain (missing w.objects to)
  plain_missing to = plain_if (is_number_there w.objects to.0) None (Some NoSuchObject) refl tt

  -- MOVETO

  names_far : (to : Dbref) → TestNames (first_denied w.objects a (cond (same to home) [] (Near to ∷ []))) (place_far a w.objects to)
  unfolding near_fault
  names_far to = at (same to home)
    where
      at : (b : Bool) → TestNames (first_denied w.objects a (cond b [] (Near to ∷ []))) (cond b None (fault_of_denial (verdict w.objects a (Near (object_numbered to.0)))))
      at true = refl
      at false = subst (λ r. TestNames r (fault_of_denial (verdict w.objects a (Near to)))) (sym (denied_one w.objects a (Near to))) (tests_verdict (verdict w.objects a (Near to)))

  names_moved : (x to : Dbref) (may : Bool) (f : Change) → Names (cond (same to home) [] (Near to ∷ []) ++ Move x to ∷ []) (row_unless (place_far a w.objects to) (changed_with_leave a (Move x to) may f w))
  names_moved x to may f =
      subst (λ r. RowNames B r (row_unless (place_far a w.objects to) (changed_with_leave a (Move x to) may f w))) (sym (denied_both w.objects a (cond (same to home) [] (Near to ∷ [])) (Move x to ∷ [])))
      (rows_unless B _ (first_denied w.objects a (Move x to ∷ [])) (place_far a w.objects to) (changed_with_leave a (Move x to) may f w) (names_far to) (names_changed (Move x to) may f))

  names_moves : (items : List Datum) → Names (move_acts items) (two_done (done_to_two MoveTo) a items w)
  names_moves (object to ∷ object x ∷ []) = names_moved (object_numbered x) (object_numbered to) _ _
  names_moves _ = tt

  plain_place : (items : List Datum) → Plain (place_missing a items w)
  plain_place (object to ∷ items) = plain_if (same (object_numbered to) home) None (missing w.objects (object_numbered to)) refl (plain_missing (object_numbered to))
  plain_place _ = refl

  -- One object and two.

  names_link : (items : List Datum) → Names (of_two (λ x to. Link x to) items) (two_done (done_to_two SetLink) a items w)
  names_link (object to ∷ object x ∷ []) =
      rows_plain B _ (mislinked (object_numbered to) w) _
      (plain_if (same (object_numbered to) nothing || same (object_numbered to) home) None (missing w.objects (object_numbered to)) refl (plain_missing (object_numbered to)))
      (names_changed (Link (object_numbered x) (object_numbered to)) _ _)
  names_link _ = tt

  names_owner : (items : List Datum) → Names (of_two (λ x owner. SetOwner x owner) items) (two_done (done_to_two SetOwn) a items w)
  names_owner (object to ∷ object x ∷ []) =
      rows_plain B _ (misowned (object_numbered x) (object_numbered to) w) _
      (plain_badly (not (is_player_at w.objects (object_numbered x)) && is_player_at w.objects (object_numbered to)))
      (names_changed (SetOwner (object_numbered x) (object_numbered to)) _ _)
  names_owner _ = tt

  names_thrown : (items : List Datum) → Names (of_one (λ x. RecycleAct x) items) (one_done thrown_away a items w)
  names_thrown (object x ∷ []) = names_changed (RecycleAct (object_numbered x)) _ _
  names_thrown _ = tt

  -- A text for an object.

  names_named : (items : List Datum) → Names (of_named (λ x. Rename x) items) (text_done (done_by_text SetName) a items w)
  names_named (text t ∷ object x ∷ []) = rows_plain B _ (badly (may_be_called (object_numbered x) t w)) _ (plain_badly (may_be_called (object_numbered x) t w)) (names_changed (Rename (object_numbered x)) _ _)
  names_named _ = tt

  names_set : (x : Dbref) (o : Option Setting) → Names (option_map_or (λ setting. acts.setting_act x setting ∷ []) o []) (set_by a x o w)
  names_set x (Some (Flag flag)) = names_changed (setting_act x (Flag flag)) _ _
  names_set x (Some (NoFlag flag)) = names_changed (setting_act x (NoFlag flag)) _ _
  names_set x (Some (Level level)) = names_changed (setting_act x (Level level)) _ _
  names_set x None = tt

  names_sets : (items : List Datum) → Names (sets items) (text_done (done_by_text Set) a items w)
  names_sets (text t ∷ object x ∷ []) = names_set (object_numbered x) (setting_asked t)
  names_sets _ = tt

  names_kept : (x : Dbref) (o : Option (List ℕ)) → RowNames B None (lock_put x o w)
  names_kept x (Some p) = at (is_object_there x w)
    where
      at : (b : Bool) → RowNames B None (cond b (gives (truth_item true ∷ []) (property_stored x (message_path (codes "lok")) (Text p) w)) (refuses BadArgument))
      at true = refl
      at false = tt
  names_kept x None = tt

  names_key : (x : Dbref) (r : Result Lock ℕ) → RowNames B None (key_kept_of x r w)
  names_key x (Ok l) = names_kept x (key_kept (Ok l))
  names_key x (Err at) = refl

  names_locks : (items : List Datum) → Names (of_named (λ x. ChangeAct x) items) (text_done (done_by_text SetLockStr) a items w)
  unfolding locked_by
  names_locks (text t ∷ object x ∷ []) = rows_leave B w.objects a (ChangeAct (object_numbered x)) _ (names_key (object_numbered x) (lock_of (key_names w a.player) t))
  names_locks _ = tt

  names_given : (check : Result (ℕ × ℕ) DbFault) (make : ℕ → ℕ → Change) → RowNames B None (given_made check make w)
  names_given (Ok p) make = refl
  names_given (Err NoRoom) make = tt
  names_given (Err _) make = tt

  names_made : (new : New) (name : List ℕ) (place : Dbref) → Names (act_in place new ∷ []) (made_named a new name place w)
  unfolding new_made
  names_made new name place =
      rows_plain B _ (badly (is_name name)) _ (plain_badly (is_name name)) (rows_leave B w.objects a (act_in place new) _ (at (may_be new w)))
    where
      check : Result (ℕ × ℕ) DbFault
      check = create_check (kind_made new) a.user place w.objects

      at : (b : Bool) → RowNames B None (cond b (given_made check (made_so new name a.user) w) (refuses BadArgument))
      at true = names_given check (made_so new name a.user)
      at false = tt

  names_room : (items : List Datum) → Names (of_named (λ place. NewRoomAct place) items) (text_done (done_by_text NewRoom) a items w)
  names_room (text t ∷ object x ∷ []) = names_made Room t (object_numbered x)
  names_room _ = tt

  names_thing : (items : List Datum) → Names (of_named (λ place. NewThing place) items) (text_done (done_by_text NewObject) a items w)
  names_thing (text t ∷ object x ∷ []) = names_made (Thing (home_at a.user w)) t (object_numbered x)
  names_thing _ = tt

  names_exit : (items : List Datum) → Names (of_named (λ place. NewExitAct place nothing) items) (text_done (done_by_text NewExit) a items w)
  names_exit (text t ∷ object x ∷ []) = names_made (Exit nothing) t (object_numbered x)
  names_exit _ = tt

-- What is found: never denied.

abbrev FoundPlain : Result Datum MufFault → Type 0
FoundPlain (Ok x) = Unit {0}
FoundPlain (Err f) = FaultNames None f

plain_shown : (bytes : List ℕ) → FoundPlain (text_read_out bytes)
plain_shown bytes = at (text_fault bytes)
  where
    at : {X : Type 0} (o : Option X) → FoundPlain (option_map_or (λ x. Err TextTooLong) o (Ok (text bytes)))
    at None = tt
    at (Some x) = tt

plain_found : (p : Primitive) (d : Dbref) (es : List Entry) → FoundPlain (found_of p d es)
plain_found Name d es = tt
plain_found Owner d es = tt
plain_found Location d es = tt
plain_found Contents d es = tt
plain_found Exits d es = tt
plain_found Next d es = tt
plain_found MLevel d es = tt
plain_found GetLink d es = tt
plain_found GetLockStr d es = tt
plain_found UnparseObj d es = plain_shown (option_map_or (long_form (dbref_number d)) (object_at d es) [])
plain_found _ d es = tt

plain_one : (p : Primitive) (a : Actor) (es : List Entry) (items : List Datum) → FoundPlain (one_object (found_of p) a es items)
plain_one p a es (object d ∷ []) = plain_found p (object_numbered d) es
plain_one p a es _ = tt

plain_item : (p : Primitive) (a : Actor) (es : List Entry) (items : List Datum) → FoundPlain (one_item (kind_asked p) a es items)
plain_item p a es (item ∷ []) = tt
plain_item p a es _ = tt

plain_text : (p : Primitive) (a : Actor) (es : List Entry) (items : List Datum) → FoundPlain (found_by_text (found_by p) a es items)
plain_text p a es (text t ∷ []) = tt
plain_text p a es _ = tt

plain_controlled : (a : Actor) (es : List Entry) (items : List Datum) → FoundPlain (control_tested a es items)
plain_controlled a es (object e ∷ object d ∷ []) = tt
plain_controlled a es _ = tt

plain_read : (r : Result Lock ℕ) → FoundPlain (lock_read r)
plain_read (Ok l) = tt
plain_read (Err at) = tt

plain_parsed : (a : Actor) (es : List Entry) (items : List Datum) → FoundPlain (lock_parsed a es items)
plain_parsed a es (text t ∷ []) = plain_read (lock_of (keys_in es a.player) t)
plain_parsed a es _ = tt

plain_unparsed : (a : Actor) (es : List Entry) (items : List Datum) → FoundPlain (unparsed a es items)
plain_unparsed a es (lock l ∷ []) = at (nat_lt text_most (length (lock_printed l)))
  where
    at : (b : Bool) → FoundPlain (cond b (Err TextTooLong) (Ok (text (lock_printed l))))
    at true = tt
    at false = tt
plain_unparsed a es _ = tt

plain_tested : (a : Actor) (es : List Entry) (items : List Datum) → FoundPlain (lock_tested a es items)
plain_tested a es (lock l ∷ object d ∷ []) = tt
plain_tested a es _ = tt

plain_flag : (es : List Entry) (d : Dbref) (o : Option (Bool × ℕ)) → FoundPlain (flag_found es d o)
plain_flag es d (Some asked) = tt
plain_flag es d None = tt

plain_flagged : (a : Actor) (es : List Entry) (items : List Datum) → FoundPlain (flagged a es items)
plain_flagged a es (text t ∷ object d ∷ []) = plain_flag es (object_numbered d) (flag_asked t)
plain_flagged a es _ = tt

plain_misflagged : (items : List Datum) → Plain (misflagged items)
plain_misflagged (text t ∷ items) = at (flag_asked t)
  where
    at : (o : Option (Bool × ℕ)) → Plain (option_map_or (λ asked. None) o (Some BadArgument))
    at None = tt
    at (Some asked) = refl
plain_misflagged _ = refl

names_found : (B : MufFault → Live → Type 0) (w : Live) (r : Result Datum MufFault) → FoundPlain r → RowNames B None (given w r)
names_found B w (Ok x) h = refl
names_found B w (Err f) h = h

-- Each row: its own rule for its arguments is none of leave, and it asks for these acts.
abbrev pub RowAsks : (Actor → List Datum → Live → MufFault → Live → Type 0) → (List Datum → List Entry → List Act) → Option WorldDoing → Type 0
RowAsks B own None = Unit {0}
RowAsks B own (Some doing) = (a : Actor) (items : List Datum) (w : Live) → Plain (doing.argued a items w) × RowNames (B a items w) (first_denied w.objects a (own items w.objects)) (doing.does a items w)

module _ (B : Actor → List Datum → Live → MufFault → Live → Type 0) where
  asks_found : (p : Primitive) (find : Finding) → ((items : List Datum) → Plain (misasked p items)) → ((a : Actor) (es : List Entry) (items : List Datum) → FoundPlain (find a es items)) → RowAsks B (λ items es. []) (Some (finds p find))
  asks_found p find h k = λ a items w. (h items, names_found (B a items w) w (find a w.objects items) (k a w.objects items))

  pub asks_object : (p : Primitive) → RowAsks B (own_acts p) (object_row p)
  asks_object Name = asks_found Name (one_object (found_of Name)) (λ items. refl) (plain_one Name)
  asks_object Owner = asks_found Owner (one_object (found_of Owner)) (λ items. refl) (plain_one Owner)
  asks_object Location = asks_found Location (one_object (found_of Location)) (λ items. refl) (plain_one Location)
  asks_object Contents = asks_found Contents (one_object (found_of Contents)) (λ items. refl) (plain_one Contents)
  asks_object Exits = asks_found Exits (one_object (found_of Exits)) (λ items. refl) (plain_one Exits)
  asks_object Next = asks_found Next (one_object (found_of Next)) (λ items. refl) (plain_one Next)
  asks_object IsOk = asks_found IsOk (one_item (kind_asked IsOk)) (λ items. refl) (plain_item IsOk)
  asks_object IsPlayer = asks_found IsPlayer (one_item (kind_asked IsPlayer)) (λ items. refl) (plain_item IsPlayer)
  asks_object IsThing = asks_found IsThing (one_item (kind_asked IsThing)) (λ items. refl) (plain_item IsThing)
  asks_object IsRoom = asks_found IsRoom (one_item (kind_asked IsRoom)) (λ items. refl) (plain_item IsRoom)
  asks_object IsExit = asks_found IsExit (one_item (kind_asked IsExit)) (λ items. refl) (plain_item IsExit)
  asks_object IsProgram = asks_found IsProgram (one_item (kind_asked IsProgram)) (λ items. refl) (plain_item IsProgram)
  asks_object Match = asks_found Match (found_by_text (found_by Match)) (λ items. refl) (plain_text Match)
  asks_object PMatch = asks_found PMatch (found_by_text (found_by PMatch)) (λ items. refl) (plain_text PMatch)
  asks_object HasFlag = asks_found HasFlag flagged plain_misflagged plain_flagged
  asks_object MLevel = asks_found MLevel (one_object (found_of MLevel)) (λ items. refl) (plain_one MLevel)
  asks_object GetLink = asks_found GetLink (one_object (found_of GetLink)) (λ items. refl) (plain_one GetLink)
  asks_object Controls = asks_found Controls control_tested (λ items. refl) plain_controlled
  asks_object GetLockStr = asks_found GetLockStr (one_object (found_of GetLockStr)) (λ items. refl) (plain_one GetLockStr)
  asks_object ParseLock = asks_found ParseLock lock_parsed (λ items. refl) plain_parsed
  asks_object UnparseLock = asks_found UnparseLock unparsed (λ items. refl) plain_unparsed
  asks_object TestLock = asks_found TestLock lock_tested (λ items. refl) plain_tested
  asks_object UnparseObj = asks_found UnparseObj (one_object (found_of UnparseObj)) (λ items. refl) (plain_one UnparseObj)
  asks_object DbTop = asks_found DbTop top (λ items. refl) (λ a es items. tt)
  asks_object MoveTo = λ a items w. (plain_place (B a items w) a w items, names_moves (B a items w) a w items)
  asks_object SetLink = λ a items w. (refl, names_link (B a items w) a w items)
  asks_object SetOwn = λ a items w. (refl, names_owner (B a items w) a w items)
  asks_object Recycle = λ a items w. (refl, names_thrown (B a items w) a w items)
  asks_object SetName = λ a items w. (refl, names_named (B a items w) a w items)
  asks_object Set = λ a items w. (refl, names_sets (B a items w) a w items)
  asks_object SetLockStr = λ a items w. (refl, names_locks (B a items w) a w items)
  asks_object NewRoom = λ a items w. (refl, names_room (B a items w) a w items)
  asks_object NewObject = λ a items w. (refl, names_thing (B a items w) a w items)
  asks_object NewExit = λ a items w. (refl, names_exit (B a items w) a w items)
  asks_object _ = tt
