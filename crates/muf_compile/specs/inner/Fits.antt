-- Which part of a tree the code so far stands for.
use Rattle.std.specs.Prelude.{◌≡◌, ℕ, ◌+◌, ◌<◌, ◌≤◌, List, [], ◌∷◌, length, Result, Ok, Err}
use Rattle.muf_model.specs.declared.code.Instr.TheVariants.{Unset}
use Rattle.muf_model.specs.declared.code.Placed.{Placed}
use Rattle.muf_model.specs.declared.code.Code.{Code}
use Rattle.muf_model.specs.Tree.{Fork, if_word, try_word, Ring, begin_word, for_word, each_word, Block, Tree}
use Rattle.muf_model.specs.inner.Stands.{Stands, IsAt, fork_instr, WordsStand, InRow, TreeStands}
use Rattle.muf_compile.specs.declared.hole.Hole.{Hole}
use Rattle.muf_compile.specs.declared.hole.Pending.{Pending}
use Rattle.muf_compile.specs.declared.hole.Pending.TheVariants as pending
use Rattle.muf_compile.specs.declared.fault.Refusal.{Refusal}
use Rattle.muf_compile.specs.declared.fault.CompileFault.{CompileFault}
use Rattle.muf_compile.specs.declared.fault.CompileFault.TheVariants.{Refused, NoMemory}
use Rattle.muf_compile.specs.Growth.{Unfinished, first, second, turning, Growth, Grown, in_loop}
use Rattle.muf_compile.specs.inner.Built.{Built}
use Rattle.muf_compile.specs.inner.Build.{Made}

abbrev pub first_open : Fork → Hole → Pending
first_open if_word = pending.If
first_open try_word = pending.Try

abbrev pub second_open : Fork → Hole → Pending
second_open if_word = pending.Else
second_open try_word = pending.Catch

abbrev pub ring_open : Ring → Hole → Pending
ring_open begin_word = pending.Begin
ring_open for_word = pending.For
ring_open each_word = pending.Each

-- the items from one place to another
abbrev pub From : List Placed → ℕ → Block → ℕ → Type 0
From code place block end = Stands code place block (λ p. p ≡ end)

abbrev pub hole : ℕ → ℕ → List Unfinished → Hole
hole at line us = record { at = at; line = line; looping = in_loop us }

-- What is open in a word that begins at a place, where its innermost part begins at another. The instruction whose
-- target isn't known yet is unset.
pub data OpensFit (code : List Placed) (begin : ℕ) : List Unfinished → List Pending → ℕ → Type 0 where
  outermost : OpensFit code begin [] [] begin
  in_first : {k : Fork} {line : ℕ} {before : Block} {us : List Unfinished} {os : List Pending} (at : ℕ) {start : ℕ} → From code start before at → start ≤ at → IsAt code at line Unset → OpensFit code begin us os start → OpensFit code begin (first k line before ∷ us) (first_open k (hole at line us) ∷ os) (at + 1)
  in_second : {k : Fork} {line : ℕ} {a : Block} {mid : ℕ} {before : Block} {us : List Unfinished} {os : List Pending} (at : ℕ) {to start : ℕ} → From code start before at → start ≤ at → at < to → IsAt code at line (fork_instr k (to + 1)) → From code (at + 1) a to → IsAt code to mid Unset → OpensFit code begin us os start → OpensFit code begin (second k line a mid before ∷ us) (second_open k (hole to mid us) ∷ os) (to + 1)
  in_turn : {k : Ring} {line : ℕ} {before : Block} {us : List Unfinished} {os : List Pending} (at : ℕ) {start : ℕ} → From code start before at → start ≤ at → IsAt code at line Unset → OpensFit code begin us os start → OpensFit code begin (turning k line before ∷ us) (ring_open k (hole at line us) ∷ os) (at + 1)

-- the code so far stands for the tree so far
pub record BuiltFits (b : Built) (g : Growth) : Type 0 where
  pub start : ℕ
  pub items : From b.code start g.now (length b.code)
  pub within : start ≤ length b.code
  pub opens : OpensFit b.code b.start g.around b.pending start
  pub words : WordsStand b.code b.words g.words
  pub row : InRow b.code 0 b.words g.words b.start
  pub title : b.title ≡ g.title

abbrev pub MadeAlike : Made → Grown → Type 0
MadeAlike (Ok b) (Ok g) = BuiltFits b g
MadeAlike (Err r) (Err s) = r ≡ s
MadeAlike (Ok b) (Err s) = ⊥
MadeAlike (Err r) (Ok g) = ⊥

-- Where the tree is defined, code that stands for it; else the first word that is refused, its line and why. Want of
-- memory says nothing.
abbrev pub IsCode : Result Tree Refusal → Result Code CompileFault → Type 0
IsCode (Ok tree) (Ok code) = TreeStands code tree
IsCode (Err refusal) (Ok code) = ⊥
IsCode tree (Err (Refused refusal)) = tree ≡ Err refusal
IsCode tree (Err NoMemory) = Unit {0}
