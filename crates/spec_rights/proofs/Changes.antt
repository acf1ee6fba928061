-- Each change of an object that was there keeps to the licence.
use Rattle.std.proofs.Common.{◌≡◌, ℕ, Bool, true, false, cond, List, refl, sym, ◌∙◌, ap, subst, Option, Some, None, inl, inr}
use Rattle.std.specs.Prelude.{◌&&◌, not, slice_get}
use Rattle.std.proofs.lemmas.Bool.{cases_eq}
use Rattle.std.specs.Option.{option_map, option_map_or}
use Rattle.std.specs.Ordering.{eq_by_cmp}
use Rattle.std.specs.Cmp.{Equal-is}
use Rattle.std.specs.FinMap.{get, insert, remove, get-insert, get-remove}
use Rattle.muck_model.specs.declared.dbref.Dbref.{Dbref}
use Rattle.muck_model.specs.declared.dbref.Flags.{Flags}
use Rattle.muck_prop.specs.declared.value.PropValue.{PropValue}
use Rattle.muck_prop.specs.Order.{path_cmp, path_cmp_total}
use Rattle.muck_prop.specs.Paths.{class_of}
use Rattle.muck_prop.specs.Store.{PropMap, is_nothing, value_stored as put}
use Rattle.muck_prop.proofs.Maps.{path_cmp_same}
use Rattle.spec_live.specs.declared.object.Object.{Object}
use Rattle.spec_live.specs.Flags.{has_flag, with_flag, without_flag, wizard}
use Rattle.spec_live.specs.Objects.{Entry, dbref_of, object_in, list_in, mark_in, number_in, object_at, changed_at}
use Rattle.spec_live.specs.Setting.{set_at, with_name, with_owner, with_link, with_flags, with_level, with_lines, lines_set, with_password}
use Rattle.spec_live.specs.Boards.{Board}
use Rattle.spec_live.specs.Lives.{Live}
use Rattle.spec_live.proofs.Lists.{get_changed_same}
use Rattle.spec_live.proofs.Steps as field
use Rattle.spec_live.proofs.Steps.{Field, kept, owned, flagged, password, field_set}
use Rattle.spec_live.proofs.Lives.{Goes}
use Rattle.spec_live.proofs.Readers.{object_changed, object_unchanged, object_elsewhere, list_change, list_changed, mark_elsewhere}
use Rattle.spec_rights.specs.declared.act.Actor.{Actor}
use Rattle.spec_rights.specs.declared.act.Act.TheVariants.{Write, Link, Edit, Change, Rename, Password, SetFlag, SetLevel, SetOwner}
use Rattle.spec_rights.specs.Verdict.{is_master, controls, is_guarded}
use Rattle.spec_rights.specs.Changing.{at_number, set_object, name_given, object_owned_by, linked, is_flag, flag_set, flag_cleared, leveled, lines_kept, password_kept, property_stored, unstored}
use Rattle.spec_rights.specs.Licence.{Freedom, Open, Judge, Changed, Differs, SameLists, SameTies, name_open, property_open, link_open, level_open, lines_open, owner_open}
use Rattle.spec_rights.proofs.Lookups.{Row, row_same, rows_changed, number_is}
use Rattle.spec_rights.proofs.Listing.{lists_alike, lists_itself}
use Rattle.spec_rights.proofs.Walking.{acts, silent, same_marks, silent_acts, field_silent, goes_set, goes_lines}
use Rattle.spec_rights.proofs.Bits.{wizard_stays_set, wizard_stays_cleared}
use Rattle.spec_rights.proofs.Licences.{judge, changed_same, SameMarks, mark_open, Kept, kept_same, Stay, End, Stays, Ends, itself, ties_itself, ends_by, stays_by}
use Rattle.spec_rights.proofs.Allowed.{rename_allowed, write_allowed, change_allowed, link_allowed, flag_allowed, level_allowed, owner_allowed, edit_allowed, password_allowed}

-- Where f is done to one object, R holds of all.

pub rows_number : (R : Dbref → Object → Object → Type 0) → ((y : Dbref) (o : Object) → R y o o) → (x : Dbref) (f : Object → Object) → ((o : Object) → (f o).kind ≡ o.kind) → ((o : Object) → R x o (f o)) →
    (es : List Entry) (g : ℕ → List Entry → List Entry) → ((m : ℕ) → object_in (g m es) m ≡ option_map f (object_in es m)) → ((m k : ℕ) → (k ≡ m → ⊥) → object_in (g m es) k ≡ object_in es k) →
    (n : ℕ) (q : Option ℕ) → number_in es x ≡ q → Row (R (dbref_of n)) (object_at (dbref_of n) es) (object_at (dbref_of n) (option_map_or (λ m. g m es) q es))
rows_number R same x f kinds h es g here there n None e = row_same (R (dbref_of n)) (same (dbref_of n)) (object_at (dbref_of n) es)
rows_number R same x f kinds h es g here there n (Some m) e =
    let P : Dbref → Type 0 = λ y. (o : Object) → R y o (f o) in
    rows_changed R same m f kinds (subst P (number_is es x m e) h) es (g m es) (here m) (there m) n

pub rows_found : (R : Dbref → Object → Object → Type 0) → ((y : Dbref) (o : Object) → R y o o) → (x : Dbref) (f : Object → Object) → ((o : Object) → (f o).kind ≡ o.kind) → ((o : Object) → R x o (f o)) →
    (es : List Entry) (n : ℕ) → Row (R (dbref_of n)) (object_at (dbref_of n) es) (object_at (dbref_of n) (at_number (set_at f) x es))
rows_found R same x f kinds h es n = rows_number R same x f kinds h es (set_at f) (λ m. object_changed m f es) (λ m k ne. object_unchanged m k f es ne) n (number_in es x) refl

pub object_lined : (m : ℕ) (lines : List (List ℕ)) (es : List Entry) → object_in (changed_at m (with_lines lines) es) m ≡ option_map (λ (o : Object). record o { lines = lines }) (object_in es m)
unfolding object_in
object_lined m lines es = rw (get_changed_same es m (with_lines lines)) (by_cases lines (slice_get es m))
  where
    by_cases : (lines : List (List ℕ)) (q : Option Entry) → option_map (λ (e : Entry). e.object) (option_map (with_lines lines) q) ≡ option_map (λ (o : Object). record o { lines = lines }) (option_map (λ (e : Entry). e.object) q)
    by_cases lines None = refl
    by_cases lines (Some e) = refl

rows_lined : (R : Dbref → Object → Object → Type 0) → ((y : Dbref) (o : Object) → R y o o) → (x : Dbref) (lines : List (List ℕ)) → ((o : Object) → R x o (record o { lines = lines })) →
    (es : List Entry) (n : ℕ) → Row (R (dbref_of n)) (object_at (dbref_of n) es) (object_at (dbref_of n) (at_number (lines_set lines) x es))
rows_lined R same x lines h es n = rows_number R same x (λ o. record o { lines = lines }) (λ o. refl) h es (lines_set lines) (λ m. object_lined m lines es) (λ m k ne. object_elsewhere m k (with_lines lines) es ne) n (number_in es x) refl

-- Worlds in which the objects alone differ.

pub stay_objects : (j : Judge) (w v : Live) → v.board ≡ w.board → ((n : ℕ) → Row (Kept j (dbref_of n)) (object_at (dbref_of n) w.objects) (object_at (dbref_of n) v.objects)) → SameLists j w.objects v.objects → Goes silent w v → Stay j w v
stay_objects j w v b rows lists p =
    let T : Board → Type 0 = λ t. SameTies j.actor w.board.connections t.connections in
    let U : Board → Type 0 = λ t. t.tune ≡ w.board.tune in
    record { rows = rows; lists = lists; marks = λ n. inl (same_marks w v p n); goes = silent_acts w v p; ties = subst T (sym b) (ties_itself j.actor w.board.connections); tune = subst U (sym b) refl }

pub differs_row : (j : Judge) (x : Dbref) (o p : Option Object) → Row (Changed j x) o p → Differs j x o p
differs_row j x None None r = r
differs_row j x None (Some p) r = absurd r
differs_row j x (Some o) None r = absurd r
differs_row j x (Some o) (Some p) r = r

pub end_objects : (j : Judge) (w v : Live) → v.board ≡ w.board → ((n : ℕ) → Differs j (dbref_of n) (object_at (dbref_of n) w.objects) (object_at (dbref_of n) v.objects)) → SameLists j w.objects v.objects → Goes silent w v → End j w v
end_objects j w v b rows lists p =
    let T : Board → Type 0 = λ t. SameTies j.actor w.board.connections t.connections in
    let U : Board → Type 0 = λ t. t.tune ≡ w.board.tune in
    let marks : SameMarks j w.objects v.objects = λ n. mark_open j (dbref_of n) _ _ (object_at (dbref_of n) v.objects) (inl (same_marks w v p n)) in
    record { rows = rows; lists = lists; marks = marks; goes = silent_acts w v p; ties = subst T (sym b) (ties_itself j.actor w.board.connections); tune = subst U (sym b) refl }

-- the lists of all are as they were
lists_number : (j : Judge) (g : ℕ → List Entry → List Entry) (es : List Entry) → ((m : ℕ) (v : Bool) (k : ℕ) → list_in v (g m es) k ≡ list_in v es k) → (q : Option ℕ) → SameLists j es (option_map_or (λ m. g m es) q es)
lists_number j g es h None = lists_itself j es
lists_number j g es h (Some m) = lists_alike j es (g m es) (h m)

lists_set : (j : Judge) (x : Dbref) (f : Object → Object) (es : List Entry) → SameLists j es (at_number (set_at f) x es)
lists_set j x f es = lists_number j (set_at f) es (λ m v k. list_changed v m k f es) (number_in es x)

lists_lined : (j : Judge) (x : Dbref) (lines : List (List ℕ)) (es : List Entry) → SameLists j es (at_number (lines_set lines) x es)
lists_lined j x lines es = lists_number j (lines_set lines) es (λ m v k. list_change v m k (with_lines lines) es (λ e. refl)) (number_in es x)

field_kind : (c : Field) (o : Object) → (field_set c o).kind ≡ o.kind
field_kind kept o = refl
field_kind c o = refl

stay_found : (j : Judge) (x : Dbref) (c : Field) → ((o : Object) → Kept j x o (field_set c o)) → (w : Live) → Stay j w (set_object (field_set c) x w)
stay_found j x c h w =
    let f : Object → Object = field_set c in
    stay_objects j w (set_object f x w) refl (rows_found (Kept j) (kept_same j) x f (field_kind c) h w.objects) (lists_set j x f w.objects) (goes_set silent c x w (field_silent c))

pub end_found : (j : Judge) (x : Dbref) (c : Field) → ((o : Object) → Changed j x o (field_set c o)) → (w : Live) → End j w (set_object (field_set c) x w)
end_found j x c h w =
    let f : Object → Object = field_set c in
    end_objects j w (set_object f x w) refl (λ n. differs_row j (dbref_of n) _ _ (rows_found (Changed j) (changed_same j) x f (field_kind c) h w.objects n)) (lists_set j x f w.objects) (goes_set silent c x w (field_silent c))

-- Names.

kept_name : (j : Judge) (x : Dbref) (name : List ℕ) (o : Object) → name_open j x ≡ true → Kept j x o (with_name name o)
kept_name j x name o h = record {
  changed = record { kind = refl; name = inr h; owner = inl refl; place = inl refl; link = inl refl; home = inl refl; flags = inl refl; wizard = inl refl; level = inl refl; props = λ path. inl refl; lines = inl refl; digest = inl refl };
  same = refl;
}

pub stays_named : (a : Actor) (free : Freedom) (x : Dbref) (name : List ℕ) → Stays a free (Some (Rename x)) (name_given x name)
unfolding name_given
stays_named a free x name = stays_by _ (λ start w s g. let j = judge a free start in stay_found j x (field.named name) (λ o. kept_name j x name o (rename_allowed a free start w.objects x s g)) w)

-- Links.

kept_link : (j : Judge) (x to : Dbref) (o : Object) → link_open j x to ≡ true → Kept j x o (with_link to o)
kept_link j x to o h = record {
  changed = record { kind = refl; name = inl refl; owner = inl refl; place = inl refl; link = inr h; home = inl refl; flags = inl refl; wizard = inl refl; level = inl refl; props = λ path. inl refl; lines = inl refl; digest = inl refl };
  same = refl;
}

pub stays_linked : (a : Actor) (free : Freedom) (x to : Dbref) → Stays a free (Some (Link x to)) (linked x to)
unfolding linked
stays_linked a free x to = stays_by _ (λ start w s g. let j = judge a free start in stay_found j x (field.linked to) (λ o. kept_link j x to o (link_allowed a free start w.objects x to s g)) w)

-- Properties.

abbrev At : Judge → Dbref → List (List ℕ) → Option PropValue → Option PropValue → Type 0
At j x q old new = Open (λ (value : Option PropValue). property_open j x q) old new

-- what stands at q after a value, or none, is put at another path or there
prop_at : (j : Judge) (x : Dbref) (path q : List (List ℕ)) (old new : Option PropValue) → property_open j x path ≡ true → At j x q old (cond (eq_by_cmp path_cmp q path) new old)
prop_at j x path q old new h = at (eq_by_cmp path_cmp q path) (λ e. path_cmp_same q path ((Equal-is (path_cmp q path)).0 e))
  where
    at : (b : Bool) → (b ≡ true → q ≡ path) → At j x q old (cond b new old)
    at true e = inr (ap (property_open j x) (e refl) ∙ h)
    at false e = inl refl

removed_open : (j : Judge) (x : Dbref) (path : List (List ℕ)) (props : PropMap) → property_open j x path ≡ true → (q : List (List ℕ)) → At j x q (get props q) (get (remove props path) q)
removed_open j x path props h q =
    let P : Option PropValue → Type 0 = λ t. At j x q (get props q) t in
    subst P (sym (get-remove path_cmp_total props path q)) (prop_at j x path q (get props q) None h)

inserted_open : (j : Judge) (x : Dbref) (path : List (List ℕ)) (value : PropValue) (props : PropMap) → property_open j x path ≡ true → (q : List (List ℕ)) → At j x q (get props q) (get (insert props path value) q)
inserted_open j x path value props h q =
    let P : Option PropValue → Type 0 = λ t. At j x q (get props q) t in
    subst P (sym (get-insert path_cmp_total props path value q)) (prop_at j x path q (get props q) (Some value) h)

stored_open : (j : Judge) (x : Dbref) (path : List (List ℕ)) (value : PropValue) (props : PropMap) → property_open j x path ≡ true → (q : List (List ℕ)) → At j x q (get props q) (get (put path value props) q)
stored_open j x path value props h q =
    elim (is_nothing value) as (λ b. At j x q (get props q) (get (cond b (remove props path) (insert props path value)) q)) [
      | true ↦ removed_open j x path props h q
      | false ↦ inserted_open j x path value props h q
    ]

kept_props : (j : Judge) (x : Dbref) (props : PropMap) (o : Object) → ((q : List (List ℕ)) → At j x q (get o.props q) (get props q)) → Kept j x o (record o { props = props })
kept_props j x props o h = record {
  changed = record { kind = refl; name = inl refl; owner = inl refl; place = inl refl; link = inl refl; home = inl refl; flags = inl refl; wizard = inl refl; level = inl refl; props = h; lines = inl refl; digest = inl refl };
  same = refl;
}

stay_stored : (j : Judge) (x : Dbref) (path : List (List ℕ)) (value : PropValue) → property_open j x path ≡ true → (w : Live) → Stay j w (property_stored x path value w)
unfolding property_stored
stay_stored j x path value h = stay_found j x (field.stored path value) (λ o. kept_props j x _ o (stored_open j x path value o.props h))

stay_unstored : (j : Judge) (x : Dbref) (path : List (List ℕ)) → property_open j x path ≡ true → (w : Live) → Stay j w (unstored x path w)
unfolding unstored
stay_unstored j x path h = stay_found j x (field.unstored path) (λ o. kept_props j x _ o (removed_open j x path o.props h))

pub stays_stored : (a : Actor) (free : Freedom) (x : Dbref) (path : List (List ℕ)) (value : PropValue) → Stays a free (Some (Write x path)) (property_stored x path value)
stays_stored a free x path value = stays_by _ (λ start w s g. stay_stored (judge a free start) x path value (write_allowed a free start w.objects x path s g) w)

pub stays_unstored : (a : Actor) (free : Freedom) (x : Dbref) (path : List (List ℕ)) → Stays a free (Some (Write x path)) (unstored x path)
stays_unstored a free x path = stays_by _ (λ start w s g. stay_unstored (judge a free start) x path (write_allowed a free start w.objects x path s g) w)

-- a message or a lock, whose path is guarded
pub stays_set : (a : Actor) (free : Freedom) (x : Dbref) (path : List (List ℕ)) (value : PropValue) → is_guarded (class_of path) ≡ true → Stays a free (Some (Change x)) (property_stored x path value)
stays_set a free x path value h = stays_by _ (λ start w s g. stay_stored (judge a free start) x path value (change_allowed a free start w.objects x path h s g) w)

pub stays_unset : (a : Actor) (free : Freedom) (x : Dbref) (path : List (List ℕ)) → is_guarded (class_of path) ≡ true → Stays a free (Some (Change x)) (unstored x path)
stays_unset a free x path h = stays_by _ (λ start w s g. stay_unstored (judge a free start) x path (change_allowed a free start w.objects x path h s g) w)

-- Sources.

kept_lines : (j : Judge) (x : Dbref) (lines : List (List ℕ)) (o : Object) → lines_open j x ≡ true → Kept j x o (record o { lines = lines })
kept_lines j x lines o h = record {
  changed = record { kind = refl; name = inl refl; owner = inl refl; place = inl refl; link = inl refl; home = inl refl; flags = inl refl; wizard = inl refl; level = inl refl; props = λ path. inl refl; lines = inr h; digest = inl refl };
  same = refl;
}

marks_lined : (j : Judge) (x : Dbref) (lines : List (List ℕ)) (es : List Entry) → lines_open j x ≡ true → (n : ℕ) (q : Option ℕ) → number_in es x ≡ q →
    Open (λ mark. lines_open j (dbref_of n)) (mark_in es n) (mark_in (option_map_or (λ m. lines_set lines m es) q es) n)
marks_lined j x lines es h n None e = inl refl
marks_lined j x lines es h n (Some m) e = elim (cases_eq n m) [
  | inl k ↦ inr (ap (λ i. lines_open j (dbref_of i)) k ∙ ap (lines_open j) (sym (number_is es x m e)) ∙ h)
  | inr k ↦ inl (mark_elsewhere m n (with_lines lines) es k)
]

pub stays_lines : (a : Actor) (free : Freedom) (x : Dbref) (lines : List (List ℕ)) → free.edits x ≡ true → Stays a free (Some (Edit x)) (lines_kept x lines)
unfolding lines_kept
stays_lines a free x lines h = stays_by _ (λ start w s g.
    let j = judge a free start in
    let may : lines_open j x ≡ true = edit_allowed a free start w.objects x h s g in
    record {
      rows = rows_lined (Kept j) (kept_same j) x lines (λ o. kept_lines j x lines o may) w.objects;
      lists = lists_lined j x lines w.objects;
      marks = λ n. marks_lined j x lines w.objects may n (number_in w.objects x) refl;
      goes = goes_lines acts x lines w refl;
      ties = ties_itself a w.board.connections;
      tune = refl;
    })

-- Passwords.

pub kept_digest : (j : Judge) (x : Dbref) (salt : ℕ) (word : List ℕ) (o : Object) → is_master j.actor ≡ true → Kept j x o (with_password salt word o)
kept_digest j x salt word o h = record {
  changed = record { kind = refl; name = inl refl; owner = inl refl; place = inl refl; link = inl refl; home = inl refl; flags = inl refl; wizard = inl refl; level = inl refl; props = λ path. inl refl; lines = inl refl; digest = inr h };
  same = refl;
}

pub stays_password : (a : Actor) (free : Freedom) (x : Dbref) (salt : ℕ) (word : List ℕ) → Stays a free (Some (Password x)) (password_kept x salt word)
unfolding password_kept
stays_password a free x salt word = stays_by _ (λ start w s g. let j = judge a free start in stay_found j x (password salt word) (λ o. kept_digest j x salt word o (password_allowed w.objects a x g)) w)

-- Owners.

changed_owner : (j : Judge) (x owner : Dbref) (o : Object) → owner_open j x owner ≡ true → Changed j x o (with_owner owner o)
changed_owner j x owner o h = record { kind = refl; name = inl refl; owner = inr h; place = inl refl; link = inl refl; home = inl refl; flags = inl refl; wizard = inl refl; level = inl refl; props = λ path. inl refl; lines = inl refl; digest = inl refl }

pub ends_owned : (a : Actor) (free : Freedom) (x owner : Dbref) → Ends itself a free (Some (SetOwner x owner)) (object_owned_by x owner)
unfolding object_owned_by
ends_owned a free x owner = ends_by _ (λ start w s g. let j = judge a free start in end_found j x (owned owner) (λ o. changed_owner j x owner o (owner_allowed a free start w.objects x owner s g)) w)

-- Levels.

changed_level : (j : Judge) (x : Dbref) (level : ℕ) (o : Object) → level_open j x level ≡ true → Changed j x o (with_level level o)
changed_level j x level o h = record { kind = refl; name = inl refl; owner = inl refl; place = inl refl; link = inl refl; home = inl refl; flags = inl refl; wizard = inl refl; level = inr h; props = λ path. inl refl; lines = inl refl; digest = inl refl }

pub ends_leveled : (a : Actor) (free : Freedom) (x : Dbref) (level : ℕ) → Ends itself a free (Some (SetLevel x level)) (leveled x level)
unfolding leveled
ends_leveled a free x level = ends_by _ (λ start w s g. let j = judge a free start in end_found j x (field.leveled level) (λ o. changed_level j x level o (level_allowed a free start w.objects x level s g)) w)

-- Flags.

changed_flags : (j : Judge) (x : Dbref) (flags : Flags) (o : Object) → controls j.objects j.actor x ≡ true → Open (λ (b : Bool). controls j.objects j.actor x && is_master j.actor) (has_flag wizard o.flags) (has_flag wizard flags) → Changed j x o (with_flags flags o)
changed_flags j x flags o c h = record { kind = refl; name = inl refl; owner = inl refl; place = inl refl; link = inl refl; home = inl refl; flags = inr c; wizard = h; level = inl refl; props = λ path. inl refl; lines = inl refl; digest = inl refl }

-- only at level 4 the flag is W
wizard_open : (c m v : Bool) (old new : Bool) → c ≡ true → (v && not m) ≡ false → (v ≡ false → new ≡ old) → Open (λ (b : Bool). c && m) old new
wizard_open true true v old new e f g = inr refl
wizard_open true false true old new e f g = absurd (cc)
wizard_open true false false old new e f g = inl (g refl)
wizard_open false m v old new e f g = absurd (cc)

pub ends_flag_set : (a : Actor) (free : Freedom) (x : Dbref) (flag : Flags) → is_flag flag ≡ true → Ends itself a free (Some (SetFlag x flag)) (flag_set x flag)
unfolding flag_set
ends_flag_set a free x flag k = ends_by _ (λ start w s g.
    let j = judge a free start in
    let t = flag_allowed a free start w.objects x flag s g in
    end_found j x (flagged (with_flag flag.0)) (λ o. changed_flags j x (with_flag flag.0 o.flags) o t.0 (wizard_open _ _ _ _ _ t.0 t.1 (λ v. wizard_stays_set flag o.flags k v))) w)

pub ends_flag_cleared : (a : Actor) (free : Freedom) (x : Dbref) (flag : Flags) → is_flag flag ≡ true → Ends itself a free (Some (SetFlag x flag)) (flag_cleared x flag)
unfolding flag_cleared
ends_flag_cleared a free x flag k = ends_by _ (λ start w s g.
    let j = judge a free start in
    let t = flag_allowed a free start w.objects x flag s g in
    end_found j x (flagged (without_flag flag.0)) (λ o. changed_flags j x (without_flag flag.0 o.flags) o t.0 (wizard_open _ _ _ _ _ t.0 t.1 (λ v. wizard_stays_cleared flag o.flags k v))) w)
