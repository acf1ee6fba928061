-- What is found, by the items at the top.
use Rattle.std.proofs.Common.{◌≡◌, ◌∙◌, ℕ, ℤ, Bool, List, [], ◌∷◌, take, map, Option, Some, None, refl, sym, ap, subst}
use Rattle.std.specs.Prelude.{slice_get, nat_lt, length, if◌then◌else◌, Result, Ok, Err}
use Rattle.std.specs.Option.{option_map_or}
use Rattle.muck_model.specs.declared.dbref.Dbref.{Dbref}
use Rattle.muck_model.specs.declared.dbref.Kind.{Kind}
use Rattle.muck_model.specs.declared.lock.Lock.{Lock}
use Rattle.muck_model.specs.Bytes.{text_most}
use Rattle.muck_lock.specs.Grammar.{lock_of}
use Rattle.muck_lock.specs.Printed.{lock_printed}
use Rattle.muck_lock.specs.Opens.{opens_for}
use Rattle.spec_live.specs.Objects.{Entry}
use Rattle.spec_live.specs.Worth.{holdings_of}
use Rattle.spec_rights.specs.declared.act.Actor.{Actor}
use Rattle.spec_commands.specs.Building.{keys_in}
use Rattle.spec_rights.specs.Levels.{controls_as, level_at, owner_at}
use Rattle.muf_model.specs.declared.fault.MufFault.{MufFault}
use Rattle.muf_model.specs.declared.fault.MufFault.TheVariants.{BadType, BadArgument, TextTooLong}
use Rattle.muf_model.specs.declared.value.Value.{Value}
use Rattle.muf_model.specs.Datum.{Datum, text, object, lock}
use Rattle.muf_model.specs.StackRows.{truth_item}
use Rattle.muf_model.specs.inner.View.{view}
use Rattle.muf_frame.specs.declared.fault.PrimFault.{PrimFault}
use Rattle.muf_frame.specs.declared.fault.PrimFault.TheVariants.{Fault}
use Rattle.muf_frame.specs.inner.Answers.{object_at, text_at}
use Rattle.spec_prims.specs.Asking.{object_numbered}
use Rattle.spec_prims.specs.ObjectRows.{seen, lock_read, lock_parsed, one_object, one_item, is_such, found_by_text, control_tested, unparsed, lock_tested, flag_asked, flag_found, flagged, misflagged}
use Rattle.prim_db.specs.inner.Found.{Finds, as_lock, lock_at_top}

pub object_found : (find : Dbref → List Entry → Result Datum MufFault) (a : Actor) (es : List Entry) (stack : List Datum) (d : Dbref) (r : Result Value PrimFault) → object_at 0 stack ≡ Some d.0 → Finds (find d es) r → Finds (one_object find a es (take 1 stack)) r
object_found find a es [] d r e h = absurd cc
object_found find a es (object n ∷ rest) d r e h = (let same : n ≡ d.0 = cc in subst (λ k. Finds (find (object_numbered k) es) r) (sym same) h)
object_found find a es (_ ∷ rest) d r e h = absurd cc

pub object_missing : (find : Dbref → List Entry → Result Datum MufFault) (a : Actor) (es : List Entry) (stack : List Datum) → object_at 0 stack ≡ None → Finds (one_object find a es (take 1 stack)) (Err (Fault BadType))
object_missing find a es [] e = refl
object_missing find a es (object n ∷ rest) e = absurd cc
object_missing find a es (_ ∷ rest) e = refl

pub item_found : (test : Kind → Bool) (a : Actor) (es : List Entry) (xs : List Value) (v r : Value) → slice_get xs 0 ≡ Some v → view r ≡ truth_item (is_such test es (view v)) → Finds (one_item test a es (take 1 (map view xs))) (Ok r)
item_found test a es [] v r e h = absurd cc
item_found test a es (x ∷ xs) v r e h = (let same : x ≡ v = cc in h ∙ ap (λ y. truth_item (is_such test es (view y))) (sym same))

pub item_missing : (test : Kind → Bool) (a : Actor) (es : List Entry) (xs : List Value) → slice_get xs 0 ≡ None → Finds (one_item test a es (take 1 (map view xs))) (Err (Fault BadType))
item_missing test a es [] e = refl
item_missing test a es (x ∷ xs) e = absurd cc

abbrev text_read : (Actor → List Entry → List ℕ → Dbref) → Actor → List Entry → Option (List ℕ) → Result Datum MufFault
text_read find a es (Some t) = seen (find a es t)
text_read find a es None = Err BadType

pub text_reads : (find : Actor → List Entry → List ℕ → Dbref) (a : Actor) (es : List Entry) (stack : List Datum) → found_by_text find a es (take 1 stack) ≡ text_read find a es (text_at 0 stack)
text_reads find a es (text t ∷ rest) = refl
text_reads find a es _ = refl

pub ruleset text_steps = (text_reads)

abbrev pair_read : List Entry → Option ℤ → Option ℤ → Result Datum MufFault
pair_read es (Some e) (Some d) = Ok (truth_item (controls_as es (level_at es (owner_at es (object_numbered d))) (owner_at es (object_numbered d)) (object_numbered e)))
pair_read es _ _ = Err BadType

pub pair_reads : (a : Actor) (es : List Entry) (stack : List Datum) → control_tested a es (take 2 stack) ≡ pair_read es (object_at 0 stack) (object_at 1 stack)
pair_reads a es (object e ∷ object d ∷ rest) = refl
pair_reads a es _ = refl

pub ruleset pair_steps = (pair_reads)

abbrev flag_read : List Entry → Option (List ℕ) → Option ℤ → Result Datum MufFault
flag_read es (Some t) (Some d) = flag_found es (object_numbered d) (flag_asked t)
flag_read es _ _ = Err BadType

pub flag_reads : (a : Actor) (es : List Entry) (stack : List Datum) → flagged a es (take 2 stack) ≡ flag_read es (text_at 0 stack) (object_at 1 stack)
flag_reads a es (text t ∷ object d ∷ rest) = refl
flag_reads a es _ = refl

abbrev misflag_read : Option (List ℕ) → Option MufFault
misflag_read (Some t) = option_map_or (λ asked. None) (flag_asked t) (Some BadArgument)
misflag_read None = None

pub misflag_reads : (stack : List Datum) → misflagged (take 2 stack) ≡ misflag_read (text_at 0 stack)
misflag_reads (text t ∷ rest) = refl
misflag_reads _ = refl

pub ruleset flag_steps = (flag_reads, misflag_reads)

abbrev key_text_read : Actor → List Entry → Option (List ℕ) → Result Datum MufFault
key_text_read a es (Some t) = lock_read (lock_of (keys_in es a.player) t)
key_text_read a es None = Err BadType

pub parsed_reads : (a : Actor) (es : List Entry) (stack : List Datum) → lock_parsed a es (take 1 stack) ≡ key_text_read a es (text_at 0 stack)
parsed_reads a es (text t ∷ rest) = refl
parsed_reads a es _ = refl

pub top_read : (xs : List Value) → lock_at_top (map view xs) ≡ option_map_or (λ v. as_lock (view v)) (slice_get xs 0) None
top_read [] = refl
top_read (x ∷ xs) = refl

pub ruleset top_steps = (top_read)

abbrev printed_read : Option Lock → Result Datum MufFault
printed_read (Some l) = if nat_lt text_most (length (lock_printed l)) then Err TextTooLong else Ok (text (lock_printed l))
printed_read None = Err BadType

pub unparsed_reads : (a : Actor) (es : List Entry) (stack : List Datum) → unparsed a es (take 1 stack) ≡ printed_read (lock_at_top stack)
unparsed_reads a es (lock l ∷ rest) = refl
unparsed_reads a es _ = refl

abbrev tested_read : List Entry → Option Lock → Option ℤ → Result Datum MufFault
tested_read es (Some l) (Some d) = Ok (truth_item (opens_for (holdings_of es) l (object_numbered d)))
tested_read es _ _ = Err BadType

pub tested_reads : (a : Actor) (es : List Entry) (stack : List Datum) → lock_tested a es (take 2 stack) ≡ tested_read es (lock_at_top stack) (object_at 1 stack)
tested_reads a es (lock l ∷ object d ∷ rest) = refl
tested_reads a es _ = refl

pub ruleset lock_steps = (parsed_reads, unparsed_reads, tested_reads)
