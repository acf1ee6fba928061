-- The tree that code stands for, read off the code.
use Rattle.std.specs.Prelude.{ℕ, zero, suc, ◌+◌, ◌-◌, List, Option, Some, None, slice_get, ◌==◌, if◌then◌else◌, length, map}
use Rattle.muf_model.specs.declared.code.Closer.{Closer}
use Rattle.muf_model.specs.declared.code.Closer.TheVariants.{Semicolon}
use Rattle.muf_model.specs.declared.code.Instr.{Instr}
use Rattle.muf_model.specs.declared.code.Instr.TheVariants.{Plain, Close, When, IfElse, Try, Else, Catch, Begin, For, Each, Unset}
use Rattle.muf_model.specs.declared.code.Placed.{Placed}
use Rattle.muf_model.specs.declared.code.CodeWord.{CodeWord}
use Rattle.muf_model.specs.declared.code.Code.{Code}
use Rattle.muf_model.specs.Tree.{Fork, if_word, try_word, Ring, begin_word, for_word, each_word, Block, stop, word, when, fork, ring, BlockEnd, closes, hops, Definition, Tree}

-- where ELSE or CATCH goes
abbrev pub target_of : Instr → ℕ
target_of (Else to) = to
target_of (Catch to) = to
target_of _ = 0

abbrev pub closer_of : Instr → Closer
closer_of (Close c) = c
closer_of _ = Semicolon

-- the instruction at a place, or none of any use
abbrev pub placed_or : Option Placed → Placed
placed_or (Some p) = p
placed_or None = record { line = 0; instr = Unset }

abbrev pub placed_at : List Placed → ℕ → Placed
placed_at code place = placed_or (slice_get code place)

-- a choice and a loop, where go reads the items from one place to another
abbrev pub fork_at : List Placed → (ℕ → ℕ → Block) → Fork → ℕ → ℕ → ℕ → Block → Block
fork_at code go k line place to next =
    let mid = placed_at code (to - 1) in
    fork k line (go (place + 1) (to - 1)) mid.line (go to (target_of mid.instr)) next

abbrev pub ring_at : List Placed → (ℕ → ℕ → Block) → Ring → ℕ → ℕ → ℕ → Block → Block
ring_at code go k line place to next =
    let last = placed_at code (to - 1) in
    ring k line (go (place + 1) (to - 1)) (closer_of last.instr) last.line next

-- the item at a place, and those up to a limit
abbrev pub item : List Placed → (ℕ → ℕ → Block) → ℕ → ℕ → ℕ → Instr → Block
item code go place limit line (Plain w) = word line w (go (place + 1) limit)
item code go place limit line (When to) = when line (go (place + 1) to) (go to limit)
item code go place limit line (IfElse to) = fork_at code go if_word line place to (go (target_of (placed_at code (to - 1)).instr) limit)
item code go place limit line (Try to) = fork_at code go try_word line place to (go (target_of (placed_at code (to - 1)).instr) limit)
item code go place limit line (Begin to) = ring_at code go begin_word line place to (go to limit)
item code go place limit line (For to) = ring_at code go for_word line place to (go to limit)
item code go place limit line (Each to) = ring_at code go each_word line place to (go to limit)
item code go place limit line _ = stop

-- the items from one place to another
abbrev pub block : ℕ → List Placed → ℕ → ℕ → Block
block zero code place limit = stop
block (suc fuel) code place limit =
    if place == limit then stop else item code (block fuel code) place limit (placed_at code place).line (placed_at code place).instr

-- what remains at a place
pub record Rest : Type 0 where
  pub now : Block
  pub end : BlockEnd

abbrev pub before : Rest → (Block → Block) → Rest
before r f = record { now = f r.now; end = r.end }

abbrev pub ending : BlockEnd → Rest
ending e = record { now = stop; end = e }

abbrev pub rest_at : List Placed → (ℕ → ℕ → Block) → (ℕ → Rest) → ℕ → ℕ → Instr → Rest
rest_at code go on place line (Plain w) = before (on (place + 1)) (word line w)
rest_at code go on place line (When to) = before (on to) (when line (go (place + 1) to))
rest_at code go on place line (IfElse to) = before (on (target_of (placed_at code (to - 1)).instr)) (fork_at code go if_word line place to)
rest_at code go on place line (Try to) = before (on (target_of (placed_at code (to - 1)).instr)) (fork_at code go try_word line place to)
rest_at code go on place line (Begin to) = before (on to) (ring_at code go begin_word line place to)
rest_at code go on place line (For to) = before (on to) (ring_at code go for_word line place to)
rest_at code go on place line (Each to) = before (on to) (ring_at code go each_word line place to)
rest_at code go on place line (Else to) = ending (hops if_word line (on to).now (on to).end)
rest_at code go on place line (Catch to) = ending (hops try_word line (on to).now (on to).end)
rest_at code go on place line (Close c) = ending (closes c line)
rest_at code go on place line Unset = ending (closes Semicolon line)

abbrev pub rest : ℕ → List Placed → ℕ → Rest
rest zero code place = ending (closes Semicolon 0)
rest (suc fuel) code place =
    rest_at code (block fuel code) (rest fuel code) place (placed_at code place).line (placed_at code place).instr

-- the items that remain at a place of the code, as many as it has
abbrev pub remains_at : List Placed → ℕ → Rest
remains_at code place = rest (length code) code place

-- the word that ends items, and its line
abbrev pub end_closer : BlockEnd → Closer
end_closer (closes c line) = c
end_closer (hops k line next end) = Semicolon

abbrev pub end_line : BlockEnd → ℕ
end_line (closes c line) = line
end_line (hops k line next end) = 0

abbrev pub definition_at : List Placed → CodeWord → Definition
definition_at code w =
    record { name = w.name; offer = w.offer; variables = w.variables; body = (remains_at code w.start).now; last = end_line (remains_at code w.start).end }

-- the tree that the code stands for
abbrev pub tree_of : Code → Tree
tree_of code = record { words = map (definition_at code.placed) code.words; variables = code.variables }
