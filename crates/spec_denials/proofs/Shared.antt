-- What each primitive of objects, of properties and of talk asks for.
use Rattle.std.proofs.Common.{ℕ, ℤ, true, false, List, [], ◌∷◌, take, drop, Option, Some, None, refl}
use Rattle.std.specs.Prelude.{Ok, Err}
use Rattle.spec_live.specs.Lives.{Live}
use Rattle.spec_rights.specs.declared.act.Actor.{Actor}
use Rattle.spec_commands.specs.Finding.{actor_of}
use Rattle.mpi.specs.declared.fault.MpiFault.{MpiFault}
use Rattle.mpi.specs.declared.fault.MpiFault.TheVariants.{Denied as MpiDenied}
use Rattle.spec_mpi.specs.Telling.{MpiAnswer}
use Rattle.spec_mpi.specs.Messages.{formula_heard, variables_of}
use Rattle.muf_model.specs.declared.fault.MufFault.{MufFault}
use Rattle.muf_model.specs.declared.fault.MufFault.TheVariants.{Denied}
use Rattle.muf_model.specs.declared.prims.Family.{Family}
use Rattle.muf_model.specs.declared.prims.Family.TheVariants as kind
use Rattle.muf_model.specs.declared.prims.Primitive.{Primitive}
use Rattle.muf_model.specs.declared.prims.Primitive.TheVariants.{Notify, NotifyExclude, IsAwake, Online, ConCount, ConDbref, Descriptors, Descr, ConBoot, GetProp, GetPropStr, GetPropVal, SetProp, AddProp, RemoveProp, NextProp, IsPropDir, EnvProp, EnvPropStr, ParseMpi}
use Rattle.muf_model.specs.Datum.{Datum, int, text, object}
use Rattle.muf_model.specs.Prims.{family_of, primitive_level, needs_of}
use Rattle.spec_prims.specs.Asking.{object_numbered}
use Rattle.spec_prims.specs.Row.{WorldAnswer, gives, refuses, breaks, WorldDoing}
use Rattle.spec_prims.specs.Formulas.{formula_answered, formula_parsed, parse_done, fault_in_program, is_formula, answers_for}
use Rattle.spec_prims.specs.PropRows.{as_item, value_as_text, as_number, has_below, value_of, property_row}
use Rattle.spec_prims.specs.Talk.{talk_row}
use Rattle.spec_prims.specs.Shared.{doing_in, shared_row, items_taken, first_fault, primitive_done, shared}
use Rattle.spec_denials.specs.Acts.{own_acts, primitive_acts}
use Rattle.spec_denials.specs.Asked.{first_denied, RowNames, RowLists}
use Rattle.spec_denials.specs.Notes.{Formula, formula, FormulaNames, ParseDenied, BrokeNames, Breaks}
use Rattle.spec_denials.proofs.Formulas.{heard_names}
use Rattle.spec_denials.proofs.Naming.{names_by}
use Rattle.spec_denials.proofs.Properties.{names_looked, names_sought, names_walked, names_put, names_added, names_removed, names_notified, names_notified_but, names_awake, names_connected, names_descriptors, names_booted, plain_outside, lists_walked}
use Rattle.spec_denials.proofs.Objects.{RowAsks, asks_object}

-- whose denials a row that breaks off has
abbrev Broken : Primitive → Actor → List Datum → Live → MufFault → Live → Type 0
Broken p a stack w = Breaks (is_formula p) (answers_for p a w.objects) stack w

-- each row of talk
asks_talk : (B : Actor → List Datum → Live → MufFault → Live → Type 0) (descr : Option ℕ) (p : Primitive) → RowAsks B (own_acts p) (talk_row descr p)
asks_talk B descr Notify = λ a items w. (refl, names_notified (B a items w) a w items)
asks_talk B descr NotifyExclude = λ a items w. (refl, names_notified_but (B a items w) a w items)
asks_talk B descr IsAwake = λ a items w. (refl, names_awake (B a items w) a w items)
asks_talk B descr Online = λ a items w. (refl, refl)
asks_talk B descr ConCount = λ a items w. (refl, refl)
asks_talk B descr ConDbref = λ a items w. (plain_outside (B a items w) a w items, names_connected (B a items w) a w items)
asks_talk B descr Descriptors = λ a items w. (refl, names_descriptors (B a items w) a w items)
asks_talk B descr Descr = λ a items w. (refl, refl)
asks_talk B descr ConBoot = λ a items w. (plain_outside (B a items w) a w items, names_booted (B a items w) a w items)
asks_talk B descr _ = tt

-- A formula asks for nothing before it begins.

module _ (i : ℤ) (how body : List ℕ) (this : ℤ) (by : Actor) (w : Live) where
  abbrev parse_stack : List Datum
  parse_stack = int i ∷ text how ∷ text body ∷ object this ∷ []

  abbrev run : Formula
  run = formula by (object_numbered this) body (variables_of how [] []) w

  broke_names : (f : MpiFault) → FormulaNames by run (Err f) → BrokeNames by parse_stack w (fault_in_program f)
  broke_names (MpiDenied n) h = h
  broke_names _ h = tt

  names_answered : (answer : MpiAnswer) (v : Live) → FormulaNames by run answer → RowNames (Breaks true by parse_stack w) None (formula_answered answer v)
  names_answered (Ok value) v h = refl
  names_answered (Err f) v h = (refl, broke_names f h)

names_parse : (a : Actor) (items : List Datum) (w : Live) → RowNames (Breaks true (actor_of w.objects a.player) items w) None (parse_done a items w)
unfolding formula_parsed
names_parse a (int i ∷ text how ∷ text body ∷ object this ∷ []) w =
    let by : Actor = actor_of w.objects a.player in
    let done = formula_heard by (object_numbered this) body (variables_of how [] []) w in
    names_answered i how body this by w done.0 done.1 (heard_names by (object_numbered this) body (variables_of how [] []) w)
names_parse a _ w = tt

-- and each row of properties
asks_property : (p : Primitive) → RowAsks (Broken p) (own_acts p) (property_row p)
asks_property GetProp = λ a items w. (refl, names_looked (Breaks false a items w) a w (λ o path. as_item (value_of o path)) items)
asks_property GetPropStr = λ a items w. (refl, names_looked (Breaks false a items w) a w (λ o path. value_as_text (value_of o path)) items)
asks_property GetPropVal = λ a items w. (refl, names_looked (Breaks false a items w) a w (λ o path. as_number (value_of o path)) items)
asks_property IsPropDir = λ a items w. (refl, names_looked (Breaks false a items w) a w has_below items)
asks_property EnvProp = λ a items w. (refl, names_sought (Breaks false a items w) a w as_item items)
asks_property EnvPropStr = λ a items w. (refl, names_sought (Breaks false a items w) a w value_as_text items)
asks_property NextProp = λ a items w. (refl, names_walked (Breaks false a items w) a w items)
asks_property SetProp = λ a items w. (refl, names_put (Breaks false a items w) a w items)
asks_property AddProp = λ a items w. (refl, names_added (Breaks false a items w) a w items)
asks_property RemoveProp = λ a items w. (refl, names_removed (Breaks false a items w) a w items)
asks_property ParseMpi = λ a items w. (refl, names_parse a items w)
asks_property _ = tt

asks_in : (descr : Option ℕ) (family : Family) (p : Primitive) → RowAsks (Broken p) (own_acts p) (doing_in descr family p)
asks_in descr kind.Object p = asks_object (Broken p) p
asks_in descr kind.Property p = asks_property p
asks_in descr kind.Talk p = asks_talk (Broken p) descr p
asks_in descr _ p = tt

-- what holds of the items that it takes holds of the stack
parse_wide : (n : ℕ) (by : Actor) (stack : List Datum) (w : Live) → ParseDenied n by (take 4 stack) w → ParseDenied n by stack w
parse_wide n by (int i ∷ text how ∷ text body ∷ object this ∷ rest) w h = h
parse_wide n by _ w h = absurd h

broke_wide : (by : Actor) (stack : List Datum) (w : Live) (f : MufFault) → BrokeNames by (take 4 stack) w f → BrokeNames by stack w f
broke_wide by stack w (Denied n) h = parse_wide n by stack w h
broke_wide by stack w _ h = tt

broken_wide : (p : Primitive) (a : Actor) (stack : List Datum) (w : Live) (f : MufFault) (v : Live) → Broken p a (take (items_taken p stack) stack) w f v → Broken p a stack w f v
broken_wide ParseMpi a stack w f v h = broke_wide (actor_of w.objects a.player) stack w f h
broken_wide _ a stack w f v h = h

rows_wide : (B C : MufFault → Live → Type 0) → ((f : MufFault) (v : Live) → B f v → C f v) → (rule : Option ℕ) (row : WorldAnswer) → RowNames B rule row → RowNames C rule row
rows_wide B C wide rule (gives items v) h = h
rows_wide B C wide rule (refuses f) h = h
rows_wide B C wide rule (breaks f v) h = (h.0, wide f v h.1)

asks_done : (doing : Option WorldDoing) (p : Primitive) (a : Actor) (locked : ℕ) (stack : List Datum) (w : Live) → RowAsks (Broken p) (own_acts p) doing →
    RowNames (Broken p a stack w) (first_denied w.objects a (primitive_acts p stack w.objects)) (primitive_done doing p a locked stack w)
unfolding first_fault
asks_done None p a locked stack w h = tt
asks_done (Some doing) p a locked stack w h =
    let items : List Datum = take (items_taken p stack) stack in
    names_by (Broken p a stack w) (needs_of p) (primitive_level p) (own_acts p items w.objects) (doing.argued a items w) (doing.does a items w) (drop (items_taken p stack) stack) a locked stack w
    (h a items w).0 (rows_wide (Broken p a items w) (Broken p a stack w) (broken_wide p a stack w) _ _ (h a items w).1)

-- Where one of them is denied, the first of the acts that it asks for and that is denied, is denied by that rule; and where it gives something, each is allowed.
pub shared_names : (p : Primitive) (a : Actor) (descr : Option ℕ) (locked : ℕ) (stack : List Datum) (w : Live) →
    RowNames (Breaks (is_formula p) (answers_for p a w.objects) stack w) (first_denied w.objects a (primitive_acts p stack w.objects)) (shared p a descr locked stack w)
unfolding shared
shared_names p a descr locked stack w = asks_done (shared_row descr p) p a locked stack w (asks_in descr (family_of p) p)

-- NEXTPROP lists what its actor may read.
pub next_lists : (a : Actor) (descr : Option ℕ) (locked : ℕ) (stack : List Datum) (w : Live) → RowLists a w.objects stack (shared NextProp a descr locked stack w)
unfolding shared
next_lists a descr locked stack w = lists_walked a w (first_fault NextProp None a locked stack w) stack
