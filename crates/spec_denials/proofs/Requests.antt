-- What a question and a deed of a formula ask for.
use Rattle.std.proofs.Common.{◌≡◌, ℕ, Bool, true, false, cond, List, [], ◌∷◌, map, Option, Some, None, refl}
use Rattle.std.specs.Prelude.{is_some, Ok, Err}
use Rattle.std.specs.Option.{option_or, option_map, option_map_or}
use Rattle.muck_model.specs.declared.dbref.Dbref.{Dbref}
use Rattle.muck_model.specs.declared.dbref.Denial.{Denial}
use Rattle.muck_prop.specs.declared.path.PropFault.{PropFault}
use Rattle.muck_prop.specs.declared.value.PropValue.{PropValue}
use Rattle.muck_prop.specs.declared.value.PropValue.TheVariants.{Text as TextValue}
use Rattle.muck_prop.specs.Paths.{path_fault, segments_of}
use Rattle.spec_live.specs.declared.object.Object.{Object}
use Rattle.spec_live.specs.Objects.{Entry, object_at}
use Rattle.spec_live.specs.Seen.{places_of, listed_in}
use Rattle.spec_live.specs.Worth.{value_text}
use Rattle.spec_live.specs.Lives.{Change}
use Rattle.spec_rights.specs.declared.act.Actor.{Actor}
use Rattle.spec_rights.specs.declared.act.Act.{Act}
use Rattle.spec_rights.specs.declared.act.Act.TheVariants.{Read, Write}
use Rattle.spec_rights.specs.Verdict.{verdict}
use Rattle.spec_rights.specs.Changing.{property_stored, unstored}
use Rattle.mpi.specs.declared.fault.MpiFault.TheVariants.{BadValue, TooLong, Denied}
use Rattle.mpi.specs.declared.host.Ask.{Ask}
use Rattle.mpi.specs.declared.host.Ask.TheVariants as ask
use Rattle.mpi.specs.declared.host.Deed.{Deed}
use Rattle.mpi.specs.declared.host.Deed.TheVariants as deed
use Rattle.mpi.specs.Made.{is_long, text_or_long}
use Rattle.mpi.specs.Meaning.{text_unless}
use Rattle.spec_mpi.specs.Stages.{MpiStage}
use Rattle.spec_mpi.specs.Telling.{MpiAnswer, path_written_in, at_written_path, mpi_by_leave, fault_told, value_of, property_text_at, first_told, first_text, below_at, of_object, told_by, tells_in, signs_in}
use Rattle.spec_mpi.specs.Doing.{Done, stage_refused, stage_changed, path_written, does_in}
use Rattle.spec_denials.specs.Acts.{up_to_holder}
use Rattle.spec_denials.specs.Asked.{first_denied}
use Rattle.spec_denials.specs.Notes.{Request, question, action, denies, answer_of, AnswerNames}

-- the rule of a denial
abbrev rule_of : Option Denial → Option ℕ
rule_of o = option_map (λ d. d.rule) o

-- Questions.

object_names : (f : Object → MpiAnswer) (d : Dbref) (es : List Entry) (rule : Option ℕ) → ((o : Object) → AnswerNames rule (f o)) → AnswerNames rule (of_object f d es)
object_names f d es rule h = at (object_at d es)
  where
    at : (o : Option Object) → AnswerNames rule (option_map_or f o (Err BadValue))
    at None = tt
    at (Some o) = h o

long_names : (text : List ℕ) → AnswerNames None (text_or_long text)
long_names text = at (is_long text)
  where
    at : (b : Bool) → AnswerNames None (cond b (Err TooLong) (Ok text))
    at true = tt
    at false = refl

path_names : (go : List (List ℕ) → MpiAnswer) (text : List ℕ) (rule : Option ℕ) → AnswerNames rule (go (segments_of text)) → AnswerNames rule (at_written_path fault_told go text)
unfolding path_written_in
path_names go text rule h = at (path_fault text)
  where
    at : (o : Option PropFault) → AnswerNames rule (option_map_or go (option_map_or (λ f. None) o (Some (segments_of text))) (fault_told BadValue))
    at None = h
    at (Some f) = tt

module _ (es : List Entry) (a : Actor) where
  -- the first of some objects that has a property, each by leave
  first_names : (path : List (List ℕ)) (ds : List Dbref) → AnswerNames (first_denied es a (map (λ e. Read e path) (up_to_holder path ds es))) (first_text es a path ds)
  unfolding first_text property_text_at
  first_names path [] = refl
  first_names path (d ∷ ds) = at (verdict es a (Read d path)) (value_of (object_at d es) path) (first_names path ds)
    where
      at : (v : Option Denial) (o : Option PropValue) → AnswerNames (first_denied es a (map (λ e. Read e path) (up_to_holder path ds es))) (first_text es a path ds) →
          AnswerNames (option_or (rule_of v) (first_denied es a (map (λ e. Read e path) (cond (is_some o) [] (up_to_holder path ds es)))))
          (first_told (option_map_or (λ denial. fault_told (Denied denial.rule)) v (Ok (option_map value_text o))) (first_text es a path ds))
      at (Some denial) o h = refl
      at None (Some value) h = refl
      at None None h = h

  -- one object
  here_names : (path : List (List ℕ)) (d : Dbref) → AnswerNames (first_denied es a (Read d path ∷ [])) (first_text es a path (d ∷ []))
  unfolding first_text property_text_at
  here_names path d = at (verdict es a (Read d path)) (value_of (object_at d es) path)
    where
      at : (v : Option Denial) (o : Option PropValue) →
          AnswerNames (option_or (rule_of v) None) (first_told (option_map_or (λ denial. fault_told (Denied denial.rule)) v (Ok (option_map value_text o))) (Ok []))
      at (Some denial) o = refl
      at None (Some value) = refl
      at None None = refl

  below_names : (d : Dbref) (path : List (List ℕ)) → AnswerNames (first_denied es a (Read d path ∷ [])) (below_at es a d path)
  unfolding below_at
  below_names d path = at (verdict es a (Read d path)) _
    where
      at : (v : Option Denial) (text : List ℕ) → AnswerNames (option_or (rule_of v) None) (option_map_or (λ denial. fault_told (Denied denial.rule)) v (Ok text))
      at (Some denial) text = refl
      at None text = refl

  told_names : (q : Ask) → AnswerNames (denies a es (question q)) (told_by es a q)
  told_names (ask.Name d) = object_names _ d es None (λ o. refl)
  told_names (ask.Loc d) = object_names _ d es None (λ o. refl)
  told_names (ask.Owner d) = object_names _ d es None (λ o. refl)
  told_names (ask.Kind d) = object_names _ d es None (λ o. refl)
  told_names (ask.Flags d) = object_names _ d es None (λ o. refl)
  told_names (ask.Contents d) = object_names _ d es None (λ o. long_names (signs_in es (listed_in false d es)))
  told_names (ask.Exits d) = object_names _ d es None (λ o. long_names (signs_in es (listed_in true d es)))
  told_names (ask.Holds d p) = object_names _ d es None (λ o. refl)
  told_names (ask.Controls d) = object_names _ d es None (λ o. refl)
  told_names (ask.Prop text d) = object_names _ d es _ (λ o. path_names (λ p. first_text es a p (d ∷ places_of es d)) text _ (first_names (segments_of text) (d ∷ places_of es d)))
  told_names (ask.PropHere text d) = object_names _ d es _ (λ o. path_names (λ p. first_text es a p (d ∷ [])) text _ (here_names (segments_of text) d))
  told_names (ask.PropDir text d) = object_names _ d es _ (λ o. path_names (below_at es a d) text _ (below_names d (segments_of text)))

-- Deeds: one that is denied changes nothing.

abbrev pub DoneNames : Option ℕ → MpiStage → Done → Type 0
DoneNames rule s (None, v) = rule ≡ None
DoneNames rule s (Some (Denied n), v) = (rule ≡ Some n) × (s ≡ v)
DoneNames rule s (Some f, v) = Unit {0}

write_names : (s : MpiStage) (act : Act) (f : Change) → DoneNames (first_denied s.live.objects s.actor (act ∷ [])) s (mpi_by_leave (stage_refused s) s.live.objects s.actor act (stage_changed f s))
write_names s act f = at (verdict s.live.objects s.actor act)
  where
    at : (v : Option Denial) → DoneNames (option_or (rule_of v) None) s (option_map_or (λ denial. stage_refused s (Denied denial.rule)) v (stage_changed f s))
    at None = refl
    at (Some denial) = (refl, refl)

written_names : (s : MpiStage) (d : Dbref) (text : List ℕ) (f : List (List ℕ) → Change) → DoneNames (first_denied s.live.objects s.actor (Write d (segments_of text) ∷ [])) s (path_written d text f s)
unfolding path_written path_written_in
written_names s d text f = at (object_at d s.live.objects) (path_fault text)
  where
    rule : Option ℕ
    rule = first_denied s.live.objects s.actor (Write d (segments_of text) ∷ [])

    go : List (List ℕ) → Done
    go p = mpi_by_leave (stage_refused s) s.live.objects s.actor (Write d p) (stage_changed (f p) s)

    at : (o : Option Object) (x : Option PropFault) → DoneNames rule s (option_map_or (λ o. option_map_or go (option_map_or (λ f. None) x (Some (segments_of text))) (stage_refused s BadValue)) o (stage_refused s BadValue))
    at None x = tt
    at (Some o) (Some x) = tt
    at (Some o) None = write_names s (Write d (segments_of text)) (f (segments_of text))

pub does_names : (d : Deed) (s : MpiStage) → DoneNames (denies s.actor s.live.objects (action d)) s (does_in d s)
does_names (deed.Store text path d) s = written_names s d path (λ p. property_stored d p (TextValue text))
does_names (deed.DelProp path d) s = written_names s d path (λ p. unstored d p)
does_names (deed.Tell text d) s = refl
does_names (deed.Otell text d) s = refl

pub tells_names : (q : Ask) (s : MpiStage) → AnswerNames (denies s.actor s.live.objects (question q)) (tells_in q s)
unfolding tells_in
tells_names q s = told_names s.live.objects s.actor q

-- What a formula asks for: where it is denied, it is so by this rule; and where it was answered, no rule denied.
pub request_names : (request : Request) (s : MpiStage) → AnswerNames (denies s.actor s.live.objects request) (answer_of request s)
request_names (question q) s = tells_names q s
request_names (action d) s = at (denies s.actor s.live.objects (action d)) (does_in d s) (does_names d s)
  where
    at : (rule : Option ℕ) (x : Done) → DoneNames rule s x → AnswerNames rule (text_unless [] x.0)
    at rule (None, v) h = h
    at rule (Some (Denied n), v) h = h.0
    at rule _ h = tt
