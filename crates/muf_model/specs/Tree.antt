-- The tree of a program.
use Rattle.std.specs.Prelude.{ℕ, List}
use Rattle.muf_model.specs.declared.code.Word.{Word}
use Rattle.muf_model.specs.declared.code.Closer.{Closer}
use Rattle.muf_model.specs.declared.code.Offer.{Offer}

-- a choice with two parts: IF ELSE THEN, and TRY CATCH ENDCATCH
pub data Fork : Type 0 where
  if_word : Fork
  try_word : Fork

-- a loop
pub data Ring : Type 0 where
  begin_word : Ring
  for_word : Ring
  each_word : Ring

-- A list of items, each with those after it. Each number is the line of a token: of the item itself, of the ELSE or
-- CATCH between the two parts of a choice, and of the REPEAT or UNTIL that ends a loop.
-- The items of a FOR or FOREACH begin with the test of its index or keys.
pub data Block : Type 0 where
  stop : Block
  word : ℕ → Word → Block → Block
  when : ℕ → Block → Block → Block
  fork : Fork → ℕ → Block → ℕ → Block → Block → Block
  ring : Ring → ℕ → Block → Closer → ℕ → Block → Block

-- How the items that remain end: by the word that closes them, or by ELSE or CATCH, which goes on after the choice.
pub data BlockEnd : Type 0 where
  closes : Closer → ℕ → BlockEnd
  hops : Fork → ℕ → Block → BlockEnd → BlockEnd

-- one block, and where it stops the other
abbrev pub then_block : Block → Block → Block
then_block stop b = b
then_block (word line w r) b = word line w (then_block r b)
then_block (when line a r) b = when line a (then_block r b)
then_block (fork k line x mid y r) b = fork k line x mid y (then_block r b)
then_block (ring k line x c last r) b = ring k line x c last (then_block r b)

-- A word: its name, who may call it from another program, how many variables a call of it has, its items, and the
-- line of the `;` that ends them.
pub record Definition : Type 0 where
  pub name : List ℕ
  pub offer : Offer
  pub variables : ℕ
  pub body : Block
  pub last : ℕ

-- A program: its words in the order of the source, and how many variables it has.
pub record Tree : Type 0 where
  pub words : List Definition
  pub variables : ℕ
