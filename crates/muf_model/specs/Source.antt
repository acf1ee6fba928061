-- The state of a running program, read by its source.
use Rattle.std.specs.Prelude.{ℕ, suc, ◌-◌, List, [], ◌∷◌, ◌++◌, length, take, replicate, nat_lt, if◌then◌else◌, ℤ, pos, Option, Some, None, slice_set}
use Rattle.std.specs.Ordering.{int_eq}
use Rattle.muf_model.specs.declared.code.Closer.{Closer}
use Rattle.muf_model.specs.declared.code.Closer.TheVariants.{Semicolon}
use Rattle.muf_model.specs.Datum.{Datum, int, text}
use Rattle.muf_model.specs.Tree.{Block, word, BlockEnd, closes, Definition, Tree}
use Rattle.muf_model.specs.Answer.{Scope, owned_first, call_first, stack_most}

-- What a loop counts. FOR has its next index, which is none where it left 32 bits, its end and its step. FOREACH has
-- the keys that are left, each with its value.
pub data Turns : Type 0 where
  plain : Turns
  indices : Option ℤ → ℤ → ℤ → Turns
  pairs : List (Datum × Datum) → Turns

-- a program that was entered: its number, and the tree with which it was entered
pub record Program : Type 0 where
  pub number : ℤ
  pub tree : Tree

-- What encloses the items that are being run.
pub data Mark : Type 0 where
  -- a loop: what it counts, the items of a turn with the word that closes them and its line, and what follows the loop
  looping : Turns → Block → Closer → ℕ → Block → BlockEnd → Mark
  -- a TRY: how many items it locks, and what a fault goes on with
  trying : ℕ → Block → BlockEnd → Mark
  -- a call of a word: the variables of the call that it came from, and what follows there
  calling : List Datum → Block → BlockEnd → Mark
  -- a call of this program: the program that it came from, the variables of the call there, and what follows there
  entering : Program → List Datum → Block → BlockEnd → Mark

-- the variables that a program has in a process
pub record Owned : Type 0 where
  pub program : ℤ
  pub values : List Datum

-- The stack, its top first; the variables of the process, of the programs that were entered, and of the running call;
-- the running program; the items that come next, how they end, and what encloses them, the innermost first.
pub record Source : Type 0 where
  pub stack : List Datum
  pub common : List Datum
  pub owned : List Owned
  pub variables : List Datum
  pub program : Program
  pub now : Block
  pub end : BlockEnd
  pub marks : List Mark

-- the variables of the program with this number
abbrev pub variables_owned_by : ℤ → List Owned → List Datum
variables_owned_by number [] = []
variables_owned_by number (o ∷ os) = if int_eq o.program number then o.values else variables_owned_by number os

-- the same variables with other values
abbrev pub with_owned : ℤ → List Datum → List Owned → List Owned
with_owned number values [] = record { program = number; values = values } ∷ []
with_owned number values (o ∷ os) =
    if int_eq o.program number then record { program = number; values = values } ∷ os else o ∷ with_owned number values os

-- n values that are 0
abbrev pub zeros : ℕ → List Datum
zeros n = replicate n (int (pos 0))

-- as many variables as a program has, those that were there before with their values and the others 0
abbrev pub fitted : ℕ → List Datum → List Datum
fitted n values = take n (values ++ zeros n)

-- the variables once a program is entered
abbrev pub entered_owned : Program → List Owned → List Owned
entered_owned p owned = with_owned p.number (fitted p.tree.variables (variables_owned_by p.number owned)) owned

-- how many items the nearest TRY locks
abbrev pub locked_of : List Mark → ℕ
locked_of [] = 0
locked_of (looping t round c last next end ∷ ms) = locked_of ms
locked_of (trying locked next end ∷ ms) = locked
locked_of (calling saved next end ∷ ms) = locked_of ms
locked_of (entering caller saved next end ∷ ms) = locked_of ms

-- how many calls are running, beside the first word
abbrev pub calls_running : List Mark → ℕ
calls_running [] = 0
calls_running (looping t round c last next end ∷ ms) = calls_running ms
calls_running (trying locked next end ∷ ms) = calls_running ms
calls_running (calling saved next end ∷ ms) = suc (calls_running ms)
calls_running (entering caller saved next end ∷ ms) = suc (calls_running ms)

-- how many loops and TRYs are open
abbrev pub open_of : List Mark → ℕ
open_of [] = 0
open_of (looping t round c last next end ∷ ms) = suc (open_of ms)
open_of (trying locked next end ∷ ms) = suc (open_of ms)
open_of (calling saved next end ∷ ms) = open_of ms
open_of (entering caller saved next end ∷ ms) = open_of ms

-- what a primitive may look at beside the stack
abbrev pub scope_of : Source → Scope
scope_of s = record {
  common = s.common;
  owned = variables_owned_by s.program.number s.owned;
  variables = s.variables;
  program = s.program.number;
  words = length s.program.tree.words;
  locked = locked_of s.marks;
}

-- the variable of a number has another value
abbrev pub with_variable : ℕ → Datum → Source → Source
with_variable v x s =
    if nat_lt v owned_first then record s { common = slice_set s.common v x }
    else (if nat_lt v call_first
    then record s { owned = with_owned s.program.number (slice_set (variables_owned_by s.program.number s.owned) (v - owned_first) x) s.owned }
    else record s { variables = slice_set s.variables (v - call_first) x })

-- the state behind the word that comes next
abbrev pub passed_at : Block → Source → Source
passed_at (word line w next) s = record s { now = next }
passed_at _ s = s

abbrev pub item_passed : Source → Source
item_passed s = passed_at s.now s

-- a call of a word, from the state behind the item that calls it
abbrev pub word_called : Definition → Source → Source
word_called d s = record s {
  variables = zeros d.variables;
  now = d.body;
  end = closes Semicolon d.last;
  marks = calling s.variables s.now s.end ∷ s.marks;
}

-- a call of a word of a program, from the state behind the item that calls it
abbrev pub program_entered : Program → Definition → Source → Source
program_entered p d s = record s {
  owned = entered_owned p s.owned;
  variables = zeros d.variables;
  program = p;
  now = d.body;
  end = closes Semicolon d.last;
  marks = entering s.program s.variables s.now s.end ∷ s.marks;
}

-- the state in which a word of a program begins a process, with a text on the stack
abbrev pub started : Program → Definition → List Datum → List ℕ → Source
started p d common argument = record {
  stack = text argument ∷ [];
  common = common;
  owned = entered_owned p [];
  variables = zeros d.variables;
  program = p;
  now = d.body;
  end = closes Semicolon d.last;
  marks = [];
}

-- with an item more, where there is room
abbrev pub handed : Datum → Source → Source
handed x s = record s { stack = if nat_lt (length s.stack) stack_most then x ∷ s.stack else s.stack }

-- the word at which a program begins: its last one
abbrev pub last_word : List Definition → Option Definition
last_word [] = None
last_word (d ∷ []) = Some d
last_word (d ∷ e ∷ ds) = last_word (e ∷ ds)
