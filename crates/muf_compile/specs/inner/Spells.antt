-- How the items of a word are written: the grammar, rule by rule.
use Rattle.std.specs.Prelude.{ℕ, Bool, true, List, [], ◌∷◌, ◌++◌}
use Rattle.muf_model.specs.declared.code.Word.{Word}
use Rattle.muf_model.specs.declared.code.Word.TheVariants.{NextIndex, NextPair}
use Rattle.muf_model.specs.declared.code.Closer.TheVariants as closer
use Rattle.muf_model.specs.Tree.{if_word, try_word, begin_word, for_word, each_word, Block, stop, word, when, fork, ring}
use Rattle.muf_compile.specs.declared.act.Opening.TheVariants as opening
use Rattle.muf_compile.specs.declared.act.Act.{Act}
use Rattle.muf_compile.specs.declared.act.Act.TheVariants.{Item, Jump, Open, Else, Then, Catch, EndCatch, Repeat, Until}
use Rattle.muf_compile.specs.declared.act.Reading.{Reading}

abbrev pub at_line : ℕ → Act → Reading
at_line line a = record { line = line; act = a }

-- Items in these words; `true` where they stand in a loop, as BREAK, CONTINUE and WHILE do.
pub data Spells : Bool → Block → List Reading → Type 0 where
  nothing : {l : Bool} → Spells l stop []
  item : {l : Bool} {line : ℕ} {w : Word} {next : Block} {rs : List Reading} → Spells l next rs → Spells l (word line w next) (at_line line (Item w) ∷ rs)
  jump : {line : ℕ} {w : Word} {next : Block} {rs : List Reading} → Spells true next rs → Spells true (word line w next) (at_line line (Jump w) ∷ rs)
  if_then : {l : Bool} {line : ℕ} (last : ℕ) {a next : Block} (xs : List Reading) {rs : List Reading} → Spells l a xs → Spells l next rs → Spells l (when line a next) (at_line line (Open opening.If) ∷ (xs ++ at_line last Then ∷ rs))
  if_else : {l : Bool} {line mid : ℕ} (last : ℕ) {a b next : Block} (xs ys : List Reading) {rs : List Reading} → Spells l a xs → Spells l b ys → Spells l next rs → Spells l (fork if_word line a mid b next) (at_line line (Open opening.If) ∷ (xs ++ at_line mid Else ∷ (ys ++ at_line last Then ∷ rs)))
  try_catch : {l : Bool} {line mid : ℕ} (last : ℕ) {a b next : Block} (xs ys : List Reading) {rs : List Reading} → Spells l a xs → Spells l b ys → Spells l next rs → Spells l (fork try_word line a mid b next) (at_line line (Open opening.Try) ∷ (xs ++ at_line mid Catch ∷ (ys ++ at_line last EndCatch ∷ rs)))
  begin_repeat : {l : Bool} {line last : ℕ} {a next : Block} (xs : List Reading) {rs : List Reading} → Spells true a xs → Spells l next rs → Spells l (ring begin_word line a closer.Repeat last next) (at_line line (Open opening.Begin) ∷ (xs ++ at_line last Repeat ∷ rs))
  begin_until : {l : Bool} {line last : ℕ} {a next : Block} (xs : List Reading) {rs : List Reading} → Spells true a xs → Spells l next rs → Spells l (ring begin_word line a closer.Until last next) (at_line line (Open opening.Begin) ∷ (xs ++ at_line last Until ∷ rs))
  for_repeat : {l : Bool} {line last : ℕ} {a next : Block} (xs : List Reading) {rs : List Reading} → Spells true a xs → Spells l next rs → Spells l (ring for_word line (word line NextIndex a) closer.Repeat last next) (at_line line (Open opening.For) ∷ (xs ++ at_line last Repeat ∷ rs))
  each_repeat : {l : Bool} {line last : ℕ} {a next : Block} (xs : List Reading) {rs : List Reading} → Spells true a xs → Spells l next rs → Spells l (ring each_word line (word line NextPair a) closer.Repeat last next) (at_line line (Open opening.Each) ∷ (xs ++ at_line last Repeat ∷ rs))
