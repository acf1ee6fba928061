-- A running program as a place in flat code, and the source state that is read off it.
use Rattle.std.specs.Prelude.{ℕ, List, [], ◌∷◌, take, drop, ℤ}
use Rattle.muf_model.specs.declared.code.Code.{Code}
use Rattle.muf_model.specs.Datum.{Datum}
use Rattle.muf_model.specs.inner.Decode.{Rest, remains_at, end_closer, end_line, tree_of}
use Rattle.muf_model.specs.Source.{Turns, Program, Mark, looping, trying, calling, entering, Owned, Source}

-- What encloses the place: a loop with what it counts, the place of its turn and the place behind it; a TRY with how
-- many items it locks and the place behind its CATCH; a call of a word, and of this program, with where the variables
-- of the call that it came from begin, and the place to go back to, for a program with the number of the one that it
-- came from.
pub data FlatMark : Type 0 where
  loop : Turns → ℕ → ℕ → FlatMark
  guard : ℕ → ℕ → FlatMark
  back : ℕ → ℕ → FlatMark
  leave : ℤ → ℕ → ℕ → FlatMark

-- The stack, its top first; the variables of the process and of its programs; those of all running calls, the first
-- call's first, and where those of the innermost call begin; the number of the running program; the place of the next
-- instruction; and what encloses it, the innermost first.
pub record Flat : Type 0 where
  pub stack : List Datum
  pub common : List Datum
  pub owned : List Owned
  pub variables : List Datum
  pub base : ℕ
  pub program : ℤ
  pub place : ℕ
  pub marks : List FlatMark

abbrev pub no_code : Code
no_code = record { placed = []; words = []; variables = 0 }

-- the code of the running program is the first of those with which the programs on the call stack were entered
abbrev pub first_code : List Code → Code
first_code [] = no_code
first_code (c ∷ cs) = c

-- what remains at a place of the running program
abbrev pub rest_of : List Code → ℕ → Rest
rest_of codes place = remains_at (first_code codes).placed place

abbrev pub program_of : ℤ → List Code → Program
program_of number codes = record { number = number; tree = tree_of (first_code codes) }

-- the marks of the source, with the variables of the calls below the innermost one
abbrev pub marks_of : List Code → List FlatMark → List Datum → List Mark
marks_of codes [] below = []
marks_of codes (loop t again after ∷ ms) below =
    looping t (rest_of codes again).now (end_closer (rest_of codes again).end) (end_line (rest_of codes again).end) (rest_of codes after).now (rest_of codes after).end ∷ marks_of codes ms below
marks_of codes (guard locked place ∷ ms) below =
    trying locked (rest_of codes place).now (rest_of codes place).end ∷ marks_of codes ms below
marks_of codes (back base place ∷ ms) below =
    calling (drop base below) (rest_of codes place).now (rest_of codes place).end ∷ marks_of codes ms (take base below)
marks_of codes (leave number base place ∷ ms) below =
    entering (program_of number (drop 1 codes)) (drop base below) (rest_of (drop 1 codes) place).now (rest_of (drop 1 codes) place).end ∷ marks_of (drop 1 codes) ms (take base below)

-- the source state
abbrev pub decode : List Code → Flat → Source
decode codes f = record {
  stack = f.stack;
  common = f.common;
  owned = f.owned;
  variables = drop f.base f.variables;
  program = program_of f.program codes;
  now = (rest_of codes f.place).now;
  end = (rest_of codes f.place).end;
  marks = marks_of codes f.marks (take f.base f.variables);
}
