-- The nesting of a running program: which marks enclose a place of it.
use Rattle.std.specs.Prelude.{◌≡◌, ◌⊎◌, List, [], ◌∷◌}
use Rattle.muf_model.specs.declared.code.Closer.TheVariants.{Semicolon}
use Rattle.muf_model.specs.Tree.{if_word, try_word, Ring, begin_word, for_word, each_word, Block, BlockEnd, closes, hops}
use Rattle.muf_model.specs.inner.Nesting.{Place, outside, inside, turn_of, EndsTurn, NestedBlock, NestedTree}
use Rattle.muf_model.specs.Source.{Turns, plain, indices, pairs, Mark, looping, trying, calling, entering, Source}
use Rattle.muf_model.specs.Unit.{Outcome, goes, ended, faulted, asks, stuck}

-- the loop that counts so
abbrev pub ring_of : Turns → Ring
ring_of plain = begin_word
ring_of (indices next last step) = for_word
ring_of (pairs left) = each_word

-- where items stand that these marks enclose: in a loop of the word that runs, or in none
abbrev pub place_in : List Mark → Place
place_in [] = outside
place_in (looping t round c last next end ∷ ms) = inside
place_in (trying locked next end ∷ ms) = place_in ms
place_in (calling saved next end ∷ ms) = outside
place_in (entering caller saved next end ∷ ms) = outside

-- the place where a turn of the innermost loop begins
abbrev pub turn_in : List Mark → Place
turn_in [] = outside
turn_in (looping t round c last next end ∷ ms) = turn_of (ring_of t)
turn_in (trying locked next end ∷ ms) = place_in ms
turn_in (calling saved next end ∷ ms) = outside
turn_in (entering caller saved next end ∷ ms) = outside

-- items that these marks enclose: behind others, or at the beginning of a turn
abbrev pub NestedItems : Block → List Mark → Type 0
NestedItems b ms = NestedBlock (place_in ms) b ⊎ NestedBlock (turn_in ms) b

-- no loop and no TRY of the word that runs is open
abbrev pub IsAtWord : List Mark → Type 0
IsAtWord [] = Unit {0}
IsAtWord (looping t round c last next end ∷ ms) = ⊥
IsAtWord (trying locked next end ∷ ms) = ⊥
IsAtWord (calling saved next end ∷ ms) = Unit {0}
IsAtWord (entering caller saved next end ∷ ms) = Unit {0}

-- What ends the items has the marks that it asks for: `;` none of its word, REPEAT and UNTIL that of their loop, CATCH
-- that of its TRY, and ELSE those of what follows.
abbrev pub NestedEnd : BlockEnd → List Mark → Type 0
NestedEnd (closes Semicolon line) ms = IsAtWord ms
NestedEnd (closes c line) (looping t round d last next end ∷ ms) = closes c line ≡ closes d last
NestedEnd (closes c line) ms = ⊥
NestedEnd (hops if_word line next end) ms = NestedBlock (place_in ms) next × NestedEnd end ms
NestedEnd (hops try_word line next end) (trying locked handler back ∷ ms) = NestedBlock (place_in ms) next × NestedEnd end ms
NestedEnd (hops try_word line next end) ms = ⊥

-- What each mark goes on with is nested in the marks outside it: behind a loop or a TRY come items that stand behind
-- others, and a call goes back to any place.
abbrev pub NestedMarks : List Mark → Type 0
NestedMarks [] = Unit {0}
NestedMarks (looping t round c last next end ∷ ms) =
    EndsTurn (ring_of t) c × NestedBlock (turn_of (ring_of t)) round
    × NestedBlock (place_in ms) next × NestedEnd end ms × NestedMarks ms
NestedMarks (trying locked next end ∷ ms) = NestedBlock (place_in ms) next × NestedEnd end ms × NestedMarks ms
NestedMarks (calling saved next end ∷ ms) = NestedItems next ms × NestedEnd end ms × NestedMarks ms
NestedMarks (entering caller saved next end ∷ ms) =
    NestedTree caller.tree × NestedItems next ms × NestedEnd end ms × NestedMarks ms

-- A state is nested: what comes next and what ends it have the marks that they ask for, and so has each of these marks.
pub record Nested (s : Source) : Type 0 where
  pub now : NestedItems s.now s.marks
  pub end : NestedEnd s.end s.marks
  pub marks : NestedMarks s.marks
  pub tree : NestedTree s.program.tree

-- a unit that isn't stuck, and goes on with a nested state
abbrev pub StaysNested : Outcome → Type 0
StaysNested (goes k s) = Nested s
StaysNested ended = Unit {0}
StaysNested (faulted f) = Unit {0}
StaysNested (asks p s) = Nested s
StaysNested stuck = ⊥
