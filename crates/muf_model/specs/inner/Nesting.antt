-- The nesting of a tree: where the words of loops may stand.
use Rattle.std.specs.Prelude.{◌≡◌, List}
use Rattle.std.specs.List.{AllByRecursion}
use Rattle.muf_model.specs.declared.code.Word.{Word}
use Rattle.muf_model.specs.declared.code.Word.TheVariants.{Break, Continue, While, NextIndex, NextPair}
use Rattle.muf_model.specs.declared.code.Closer.{Closer}
use Rattle.muf_model.specs.declared.code.Closer.TheVariants.{Semicolon, Repeat, Until}
use Rattle.muf_model.specs.Tree.{Ring, begin_word, for_word, each_word, Block, stop, word, when, fork, ring, Definition, Tree}

-- Where items stand: in no loop of their word, or in one; or at the beginning of a turn of FOR or of FOREACH.
pub data Place : Type 0 where
  outside : Place
  inside : Place
  counting : Place
  keying : Place

-- where a turn of a loop begins
abbrev pub turn_of : Ring → Place
turn_of begin_word = inside
turn_of for_word = counting
turn_of each_word = keying

-- the place behind an item
abbrev pub behind : Place → Place
behind outside = outside
behind inside = inside
behind counting = inside
behind keying = inside

-- a turn of FOR or FOREACH begins with its test, and with nothing else
abbrev pub IsFree : Place → Type 0
IsFree outside = Unit {0}
IsFree inside = Unit {0}
IsFree counting = ⊥
IsFree keying = ⊥

-- BREAK, CONTINUE and WHILE stand in loops, and the tests of FOR and FOREACH where their turns begin
abbrev pub MayStand : Place → Word → Type 0
MayStand p Break = p ≡ inside
MayStand p Continue = p ≡ inside
MayStand p While = p ≡ inside
MayStand p NextIndex = p ≡ counting
MayStand p NextPair = p ≡ keying
MayStand p w = IsFree p

-- REPEAT ends a loop, and UNTIL one of BEGIN
abbrev pub EndsTurn : Ring → Closer → Type 0
EndsTurn k Semicolon = ⊥
EndsTurn k Repeat = Unit {0}
EndsTurn begin_word Until = Unit {0}
EndsTurn for_word Until = ⊥
EndsTurn each_word Until = ⊥

-- the items that stand at a place are nested
abbrev pub NestedBlock : Place → Block → Type 0
NestedBlock p stop = IsFree p
NestedBlock p (word line w next) = MayStand p w × NestedBlock (behind p) next
NestedBlock p (when line a next) = IsFree p × NestedBlock p a × NestedBlock p next
NestedBlock p (fork k line a mid b next) = IsFree p × NestedBlock p a × NestedBlock p b × NestedBlock p next
NestedBlock p (ring k line body c last next) = IsFree p × EndsTurn k c × NestedBlock (turn_of k) body × NestedBlock p next

abbrev pub NestedWords : List Definition → Type 0
NestedWords ds = AllByRecursion (λ d. NestedBlock outside d.body) ds

abbrev pub NestedTree : Tree → Type 0
NestedTree tree = NestedWords tree.words
