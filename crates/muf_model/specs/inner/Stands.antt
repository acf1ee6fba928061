-- Which code stands for which tree.
use Rattle.std.specs.Prelude.{◌≡◌, ℕ, ◌+◌, ◌<◌, ◌≤◌, List, [], ◌∷◌, length, Some, slice_get}
use Rattle.muf_model.specs.declared.code.Closer.TheVariants.{Semicolon}
use Rattle.muf_model.specs.declared.code.Instr.{Instr}
use Rattle.muf_model.specs.declared.code.Instr.TheVariants.{Plain, Close, When, IfElse, Try, Else, Catch, Begin, For, Each}
use Rattle.muf_model.specs.declared.code.Placed.{Placed}
use Rattle.muf_model.specs.declared.code.CodeWord.{CodeWord}
use Rattle.muf_model.specs.declared.code.Code.{Code}
use Rattle.muf_model.specs.inner.Nesting.{NestedTree}
use Rattle.muf_model.specs.Tree.{Fork, if_word, try_word, Ring, begin_word, for_word, each_word, Block, stop, word, when, fork, ring, BlockEnd, closes, hops, Definition, Tree}

-- the instruction that opens a choice, with the place behind its ELSE or CATCH
abbrev pub fork_instr : Fork → ℕ → Instr
fork_instr if_word = IfElse
fork_instr try_word = Try

-- the instruction between the parts of a choice, with the place behind the second one
abbrev pub hop_instr : Fork → ℕ → Instr
hop_instr if_word = Else
hop_instr try_word = Catch

-- the instruction that opens a loop, with the place behind it
abbrev pub ring_instr : Ring → ℕ → Instr
ring_instr begin_word = Begin
ring_instr for_word = For
ring_instr each_word = Each

-- the instruction of this line stands at the place
abbrev pub IsAt : List Placed → ℕ → ℕ → Instr → Type 0
IsAt code place line i = slice_get code place ≡ Some (record { line = line; instr = i })

-- The instructions from this place on are the block's, and what has to follow holds of the place where it stops.
abbrev pub Stands : List Placed → ℕ → Block → (ℕ → Type 0) → Type 0
Stands code place stop follows = follows place
Stands code place (word line w next) follows = IsAt code place line (Plain w) × Stands code (place + 1) next follows
Stands code place (when line a next) follows =
    (to : ℕ) × IsAt code place line (When to) × (place < to)
    × Stands code (place + 1) a (λ p. p ≡ to) × Stands code to next follows
Stands code place (fork k line a mid b next) follows =
    (to : ℕ) × (end : ℕ) × IsAt code place line (fork_instr k to) × (place < to) × (to ≤ end)
    × Stands code (place + 1) a (λ p. (p + 1 ≡ to) × IsAt code p mid (hop_instr k end))
    × Stands code to b (λ p. p ≡ end) × Stands code end next follows
Stands code place (ring k line body c last next) follows =
    (to : ℕ) × IsAt code place line (ring_instr k to) × (place < to)
    × Stands code (place + 1) body (λ p. (p + 1 ≡ to) × IsAt code p last (Close c))
    × Stands code to next follows

-- what stands where the items stop
abbrev pub EndStands : List Placed → ℕ → BlockEnd → Type 0
EndStands code place (closes c line) = IsAt code place line (Close c)
EndStands code place (hops k line next end) =
    (to : ℕ) × IsAt code place line (hop_instr k to) × (place < to) × Stands code to next (λ p. EndStands code p end)

-- the items that remain stand at a place
abbrev pub Remains : List Placed → ℕ → Block → BlockEnd → Type 0
Remains code place now end = Stands code place now (λ p. EndStands code p end)

-- a word of the code stands for a definition
pub record WordStands (code : List Placed) (w : CodeWord) (d : Definition) : Type 0 where
  pub name : w.name ≡ d.name
  pub offer : w.offer ≡ d.offer
  pub variables : w.variables ≡ d.variables
  pub body : Remains code w.start d.body (closes Semicolon d.last)

-- each word of the code stands for the definition of its number
abbrev pub WordsStand : List Placed → List CodeWord → List Definition → Type 0
WordsStand code [] [] = Unit {0}
WordsStand code (w ∷ ws) (d ∷ ds) = WordStands code w d × WordsStand code ws ds
WordsStand code [] (d ∷ ds) = ⊥
WordsStand code (w ∷ ws) [] = ⊥

-- The words stand one behind the other with nothing between: the first begins at this place, each next one behind the `;`
-- of the one before it, and the last `;` is the last instruction before `end`.
abbrev pub InRow : List Placed → ℕ → List CodeWord → List Definition → ℕ → Type 0
InRow code place [] [] end = place ≡ end
InRow code place (w ∷ ws) (d ∷ ds) end = (w.start ≡ place) × Stands code place d.body (λ p. InRow code (p + 1) ws ds end)
InRow code place [] (d ∷ ds) end = ⊥
InRow code place (w ∷ ws) [] end = ⊥

-- the code stands for the tree, and has nothing else; and in the tree BREAK, CONTINUE and WHILE stand in loops, and each
-- turn of FOR or FOREACH begins with its test
pub record TreeStands (code : Code) (tree : Tree) : Type 0 where
  pub variables : code.variables ≡ tree.variables
  pub words : WordsStand code.placed code.words tree.words
  pub row : InRow code.placed 0 code.words tree.words (length code.placed)
  pub nested : NestedTree tree
