-- What contracts see of a frame, and the data that this stands for.
use Rattle.std.specs.Prelude.{◌≡◌, ◌<◌, ℕ, suc, List, [], ◌∷◌, map, take, drop}
use Rattle.std.specs.Arc.{arc_value}
use Rattle.muck_model.specs.declared.dbref.Dbref.{Dbref}
use Rattle.muf_model.specs.declared.value.Value.{Value}
use Rattle.muf_model.specs.Datum.{data_of, pairs_of}
use Rattle.muf_model.specs.inner.View.{view}
use Rattle.muf_model.specs.Source as source
use Rattle.muf_model.specs.Unit.{values_numbered, keyed}
use Rattle.muf_model.specs.inner.Flat.{FlatMark, loop, guard, back, leave, Flat}
use Rattle.muf_frame.specs.declared.frame.Owned.{Owned}
use Rattle.muf_frame.specs.declared.mark.Mark.{Mark}
use Rattle.muf_frame.specs.declared.mark.Mark.TheVariants.{Loop, Guard, Back, Leave}
use Rattle.muf_frame.specs.declared.mark.Turns.{Turns}
use Rattle.muf_frame.specs.declared.mark.Turns.TheVariants.{Plain, Indices, Values, Pairs}

-- The stack and the marks with their tops first, the variables of the process, of its programs and of all running
-- calls, where those of the innermost call begin, the running program, the place of the next instruction, and the
-- units of the last run.
pub record Shown : Type 0 where
  pub stack : List Value
  pub common : List Value
  pub owned : List Owned
  pub variables : List Value
  pub base : ℕ
  pub program : Dbref
  pub place : ℕ
  pub marks : List Mark
  pub units : ℕ

abbrev pub flat_turns : Turns → source.Turns
flat_turns Plain = source.plain
flat_turns (Indices next last step) = source.indices next last step
flat_turns (Values of at) = source.pairs (drop at (values_numbered 0 (data_of (arc_value of))))
flat_turns (Pairs of at) = source.pairs (drop at (keyed (pairs_of (arc_value of))))

abbrev pub flat_mark : Mark → FlatMark
flat_mark (Loop turns again after) = loop (flat_turns turns) again after
flat_mark (Guard locked outer handler) = guard locked handler
flat_mark (Back base place) = back base place
flat_mark (Leave caller base place) = leave caller.0 base place

abbrev pub flat_owned : Owned → source.Owned
flat_owned o = record { program = o.program.0; values = map view o.values.items }

-- the data of a frame
abbrev pub flat : Shown → Flat
flat f = record {
  stack = map view f.stack;
  common = map view f.common;
  owned = map flat_owned f.owned;
  variables = map view f.variables;
  base = f.base;
  program = f.program.0;
  place = f.place;
  marks = map flat_mark f.marks;
}

-- how many items the nearest TRY locks
abbrev pub locked_by : List FlatMark → ℕ
locked_by [] = 0
locked_by (loop t again after ∷ ms) = locked_by ms
locked_by (guard locked place ∷ ms) = locked
locked_by (back base place ∷ ms) = locked_by ms
locked_by (leave caller base place ∷ ms) = locked_by ms

-- how many calls are running, beside the first word
abbrev pub calls_by : List FlatMark → ℕ
calls_by [] = 0
calls_by (loop t again after ∷ ms) = calls_by ms
calls_by (guard locked place ∷ ms) = calls_by ms
calls_by (back base place ∷ ms) = suc (calls_by ms)
calls_by (leave caller base place ∷ ms) = suc (calls_by ms)

-- how many loops and TRYs are open
abbrev pub opened_by : List FlatMark → ℕ
opened_by [] = 0
opened_by (loop t again after ∷ ms) = suc (opened_by ms)
opened_by (guard locked place ∷ ms) = suc (opened_by ms)
opened_by (back base place ∷ ms) = opened_by ms
opened_by (leave caller base place ∷ ms) = opened_by ms

-- what a TRY's mark knows of what is locked outside it
abbrev pub outer_of : Mark → ℕ
outer_of (Loop t again after) = 0
outer_of (Guard locked outer handler) = outer
outer_of (Back base place) = 0
outer_of (Leave caller base place) = 0

abbrev pub GuardFits : FlatMark → ℕ → ℕ → Type 0
GuardFits (loop t again after) outer below = Unit {0}
GuardFits (guard locked place) outer below = (locked < 1024) × (outer < 1024) × (outer ≡ below)
GuardFits (back base place) outer below = Unit {0}
GuardFits (leave caller base place) outer below = Unit {0}

-- each TRY locks less than a whole stack, and knows what is locked outside it
abbrev pub GuardsFit : List Mark → Type 0
GuardsFit [] = Unit {0}
GuardsFit (m ∷ ms) = GuardFits (flat_mark m) (outer_of m) (locked_by (map flat_mark ms)) × GuardsFit ms

-- a TRY's mark locks less than a whole stack
abbrev pub HeightFits : Mark → Type 0
HeightFits (Loop t again after) = Unit {0}
HeightFits (Guard locked outer handler) = locked < 1024
HeightFits (Back base place) = Unit {0}
HeightFits (Leave caller base place) = Unit {0}

-- where a loop or a TRY was left, another one has room
abbrev pub RoomAfter : Mark → List FlatMark → Type 0
RoomAfter (Loop t again after) ms = opened_by ms < 512
RoomAfter (Guard locked outer handler) ms = opened_by ms < 512
RoomAfter (Back base place) ms = calls_by ms < 511
RoomAfter (Leave caller base place) ms = calls_by ms < 511

-- The frame once its innermost mark is left, before the others: behind a call the variables of the one before are back,
-- and behind the call of a program that one runs again.
abbrev pub left : Mark → List Mark → Shown → Shown
left (Loop t again after) ms f = record f { marks = ms }
left (Guard locked outer handler) ms f = record f { marks = ms }
left (Back base place) ms f = record f { variables = take f.base f.variables; base = base; marks = ms }
left (Leave caller base place) ms f = record f { variables = take f.base f.variables; base = base; program = caller; marks = ms }
