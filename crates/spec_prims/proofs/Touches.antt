-- What a formula touches.
use Rattle.std.proofs.Common.{ℕ, Bool, true, false, cond, List, [], ◌∷◌, take, drop, Option, Some, None}
use Rattle.std.specs.Prelude.{Ok, Err}
use Rattle.spec_live.specs.Lives.{Live}
use Rattle.spec_rights.specs.declared.act.Actor.{Actor}
use Rattle.spec_commands.specs.Finding.{actor_of}
use Rattle.spec_mpi.specs.Telling.{MpiAnswer}
use Rattle.spec_mpi.specs.Messages.{formula_heard, variables_of}
use Rattle.spec_mpi.specs.Touching.{TouchesNotes}
use Rattle.spec_mpi.proofs.Leave.{heard_touches}
use Rattle.muf_model.specs.declared.fault.MufFault.{MufFault}
use Rattle.muf_model.specs.declared.prims.Primitive.TheVariants.{ParseMpi}
use Rattle.muf_model.specs.Datum.{Datum, int, text, object}
use Rattle.spec_prims.specs.Asking.{object_numbered}
use Rattle.spec_prims.specs.Row.{WorldAnswer, gives, refuses, breaks, row_unless, given_upon}
use Rattle.spec_prims.specs.Formulas.{formula_answered, formula_parsed, parse_done}
use Rattle.spec_prims.specs.Shared.{items_taken, first_fault, shared}

-- notes alone, or nothing
abbrev pub RowTouches : Live → WorldAnswer → Type 0
RowTouches w (gives items v) = TouchesNotes w v
RowTouches w (refuses f) = Unit {0}
RowTouches w (breaks f v) = TouchesNotes w v

touches_unless : (o : Option MufFault) (w : Live) (row : WorldAnswer) → RowTouches w row → RowTouches w (row_unless o row)
touches_unless None w row h = h
touches_unless (Some f) w row h = tt

touches_if : (b : Bool) (f : MufFault) (items : List Datum) (w v : Live) → TouchesNotes w v → RowTouches w (cond b (refuses f) (gives items v))
touches_if true f items w v h = tt
touches_if false f items w v h = h

touches_upon : (rest : List Datum) (w : Live) (row : WorldAnswer) → RowTouches w row → RowTouches w (given_upon rest row)
touches_upon rest w (gives items v) h = touches_if _ _ _ w v h
touches_upon rest w (refuses f) h = tt
touches_upon rest w (breaks f v) h = h

touches_answered : (answer : MpiAnswer) (w v : Live) → TouchesNotes w v → RowTouches w (formula_answered answer v)
touches_answered (Ok value) w v h = h
touches_answered (Err fault) w v h = h

touches_parse : (a : Actor) (items : List Datum) (w : Live) → RowTouches w (parse_done a items w)
unfolding formula_parsed
touches_parse a (int i ∷ text how ∷ text formula ∷ object this ∷ []) w =
    let b : Actor = actor_of w.objects a.player in
    let done = formula_heard b (object_numbered this) formula (variables_of how [] []) w in
    touches_answered done.0 w done.1 (heard_touches b (object_numbered this) formula (variables_of how [] []) w)
touches_parse a _ w = tt

pub formula_touches : (a : Actor) (descr : Option ℕ) (locked : ℕ) (stack : List Datum) (w : Live) → RowTouches w (shared ParseMpi a descr locked stack w)
unfolding shared
formula_touches a descr locked stack w =
    let items : List Datum = take (items_taken ParseMpi stack) stack in
    touches_unless (first_fault ParseMpi None a locked stack w) w _ (touches_upon (drop (items_taken ParseMpi stack) stack) w (parse_done a items w) (touches_parse a items w))
