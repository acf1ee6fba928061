-- The elementary changes of the objects, of which each change is a path. What a path may touch is said by names: `may` says of each name whether it may.
use Rattle.std.proofs.Common.{◌≡◌, ℕ, List, [], ◌∷◌, ◌++◌, Some, Bool, true, false, map}
use Rattle.std.specs.List.{slice_get}
use Rattle.muck_model.specs.declared.dbref.Dbref.{Dbref}
use Rattle.muck_model.specs.declared.dbref.Flags.{Flags}
use Rattle.muck_model.specs.declared.dbref.Kind.TheVariants.{Garbage}
use Rattle.muck_prop.specs.declared.value.PropValue.{PropValue}
use Rattle.spec_live.specs.declared.object.Object.{Object}
use Rattle.spec_live.specs.declared.saving.Saving.{Saving}
use Rattle.spec_live.specs.Objects.{Entry, due, on_object, with_object, changed_at}
use Rattle.spec_live.specs.Saving.{is_due, relinked, on_saving, pending}
use Rattle.spec_live.specs.Moving.{with_place}
use Rattle.spec_live.specs.Making.{blank_entry}
use Rattle.spec_live.specs.Setting.{with_name, with_owner, with_link, with_home, with_flags, with_level, with_password, with_prop, without_prop, with_lines}
use Rattle.spec_live.specs.Recycling.{untie, gone_entry}
use Rattle.spec_live.specs.Marks.{entry_unmarked}
use Rattle.spec_live.specs.Stood.{still}
use Rattle.spec_live.proofs.Keeping.{Path}

-- Of objects, and of the connections.
pub data Name : Type 0 where
  Called Owner Place Link Home Flagged Level Digest Props Lines Made Gone Lists Told Stored Begun Stilled : Name
  Shown Heard Came Leaving Seated Tuned : Name

abbrev pub May : Type 0
May = Name → Bool

-- A field of an object, as it is set; or none.
pub data Field : Type 0 where
  kept : Field
  named : List ℕ → Field
  owned : Dbref → Field
  placed : ℕ → Field
  linked homed : Dbref → Field
  flagged : (Flags → Flags) → Field
  leveled : ℕ → Field
  password : ℕ → List ℕ → Field
  stored : List (List ℕ) → PropValue → Field
  unstored : List (List ℕ) → Field

abbrev pub name_of : Field → Name
name_of kept = Made
name_of (named name) = Called
name_of (owned owner) = Owner
name_of (placed to) = Place
name_of (linked to) = Link
name_of (homed to) = Home
name_of (flagged f) = Flagged
name_of (leveled level) = Level
name_of (password salt word) = Digest
name_of (stored path value) = Props
name_of (unstored path) = Props

abbrev pub field_set : Field → Object → Object
field_set kept = λ o. o
field_set (named name) = with_name name
field_set (owned owner) = with_owner owner
field_set (placed to) = with_place to
field_set (linked to) = with_link to
field_set (homed to) = with_home to
field_set (flagged f) = λ o. with_flags (f o.flags) o
field_set (leveled level) = with_level level
field_set (password salt word) = with_password salt word
field_set (stored path value) = with_prop path value
field_set (unstored path) = without_prop path

-- What becomes of one entry; and of its lists, where they are written.
pub data Touch (may : May) (listing : Bool) : Entry → Entry → Type 0 where
  sets : (c : Field) (e : Entry) → may (name_of c) ≡ true → Touch may listing e (on_object (field_set c) e)
  lines : (ls : List (List ℕ)) (e : Entry) → may Lines ≡ true → Touch may listing e (with_lines ls e)
  makes : (o : Object) (e : Entry) → may Made ≡ true → e.object.kind ≡ Garbage → o.lines ≡ [] → Touch may listing e (with_object o e)
  unties : (d : ℕ) (e : Entry) → may Gone ≡ true → Touch may listing e (untie d e)
  vanishes : (e : Entry) → may Gone ≡ true → listing ≡ true → Touch may listing e (gone_entry e)
  lists : (cs xs : List ℕ) (e : Entry) → listing ≡ true → Touch may listing e (record e { contents = cs; exits = xs })
  dues : (e : Entry) → listing ≡ true → Touch may listing e (due e)
  tells : (e : Entry) → may Told ≡ true → Touch may listing e (entry_unmarked e)
  resaves : (f : Saving → Saving) (e : Entry) → may Stored ≡ true → ((s : Saving) → is_due (f s) ≡ false → is_due s ≡ false) → Touch may listing e (on_saving f e)
  begins : (e : Entry) → may Begun ≡ true → Touch may listing e (on_saving pending e)
  stills : (e : Entry) → may Stilled ≡ true → Touch may listing e (still e)

abbrev pub Touches : May → Bool → Entry → Entry → Type 0
Touches may listing = Path (Touch may listing)

-- What becomes of all: each is touched, or one is, or there is one more.
pub data Part (may : May) (listing : Bool) : List Entry → List Entry → Type 0 where
  each : (f : Entry → Entry) (es : List Entry) → ((e : Entry) → Touches may listing e (f e)) → Part may listing es (map f es)
  at : (n : ℕ) (f : Entry → Entry) (es : List Entry) → ((e : Entry) → slice_get es n ≡ Some e → Touches may listing e (f e)) → Part may listing es (changed_at n f es)
  grows : (es : List Entry) → may Made ≡ true → Part may listing es (es ++ blank_entry ∷ [])

-- Where lists are written, what is linked otherwise than before all of it becomes due.
pub data Step (may : May) : List Entry → List Entry → Type 0 where
  parts : (es fs : List Entry) → Path (Part may false) es fs → Step may es fs
  settles : (es fs : List Entry) → may Lists ≡ true → Path (Part may true) es fs → Step may es (relinked es fs)

abbrev pub Walk : May → List Entry → List Entry → Type 0
Walk may = Path (Step may)
