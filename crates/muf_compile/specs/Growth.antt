-- The tree of a program, as it grows word by word.
use Rattle.std.specs.Prelude.{ℕ, zero, suc, ◌+◌, Bool, true, false, nat_le, if◌then◌else◌, List, [], ◌∷◌, ◌++◌, length, Result, Ok}
use Rattle.muf_model.specs.declared.code.Offer.{Offer}
use Rattle.muf_model.specs.declared.code.Offer.TheVariants.{Nobody, Wizards, All}
use Rattle.muf_model.specs.declared.code.Word.TheVariants.{NextIndex, NextPair}
use Rattle.muf_model.specs.declared.code.Closer.TheVariants as closer
use Rattle.muf_model.specs.Tree.{Fork, if_word, try_word, Ring, begin_word, for_word, each_word, Block, stop, word, when, fork, ring, then_block, Definition, Tree}
use Rattle.muf_token.specs.declared.token.Token.{Token}
use Rattle.muf_compile.specs.declared.act.Opening.{Opening}
use Rattle.muf_compile.specs.declared.act.Opening.TheVariants as opening
use Rattle.muf_compile.specs.declared.act.Act.{Act}
use Rattle.muf_compile.specs.declared.act.Act.TheVariants.{Wait, Title, Item, Jump, Open, Else, Then, Catch, EndCatch, Repeat, Until, End, Offer as offer_act}
use Rattle.muf_compile.specs.declared.names.Mode.{Mode}
use Rattle.muf_compile.specs.declared.names.Mode.TheVariants as mode
use Rattle.muf_compile.specs.declared.fault.CompileKind.{CompileKind}
use Rattle.muf_compile.specs.declared.fault.CompileKind.TheVariants.{UnclosedIf, StrayElse, UnclosedLoop, StrayBreak, UnclosedTry, NoWord, BadHeader, TooLong}
use Rattle.muf_compile.specs.declared.fault.Refusal.{Refusal}
use Rattle.muf_compile.specs.Faults.{refuse, and_then}
use Rattle.muf_compile.specs.Acts.{cost_of}
use Rattle.muf_compile.specs.Reading.{Known, nothing_known, word_read}

-- What is open, with its line and the items before it: a choice in its first part; a choice in its second part, with
-- the first one and the line of its ELSE or CATCH; or a loop.
pub data Unfinished : Type 0 where
  first : Fork → ℕ → Block → Unfinished
  second : Fork → ℕ → Block → ℕ → Block → Unfinished
  turning : Ring → ℕ → Block → Unfinished

-- The words so far; the name of the present one, its items so far in the innermost part that is open, and what is open
-- round them.
pub record Growth : Type 0 where
  pub words : List Definition
  pub title : List ℕ
  pub now : Block
  pub around : List Unfinished

-- the tree with one more word, or why that word is refused
abbrev pub Grown : Type 0
Grown = Result Growth Refusal

-- these items in place of the present ones, with this open round them
abbrev pub with_part : Growth → Block → List Unfinished → Growth
with_part g now around = record g { now = now; around = around }

-- these items, and one more behind them
abbrev pub growth_with_item : Growth → Block → List Unfinished → Block → Growth
growth_with_item g before around item = with_part g (then_block before item) around

-- whether a loop is open
abbrev pub in_loop : List Unfinished → Bool
in_loop [] = false
in_loop (first k line before ∷ us) = in_loop us
in_loop (second k line a mid before ∷ us) = in_loop us
in_loop (turning k line before ∷ us) = true

-- why what is open can't stay so
abbrev pub unclosed : Unfinished → CompileKind
unclosed (first if_word line before) = UnclosedIf
unclosed (first try_word line before) = UnclosedTry
unclosed (second if_word line a mid before) = UnclosedIf
unclosed (second try_word line a mid before) = UnclosedTry
unclosed (turning k line before) = UnclosedLoop

-- a word that doesn't close what is open innermost, or has nothing to close
abbrev pub misfit : CompileKind → List Unfinished → CompileKind
misfit stray [] = stray
misfit stray (u ∷ us) = unclosed u

-- what a word opens, behind these items
abbrev pub construct_opened : Opening → ℕ → Block → Unfinished
construct_opened opening.If line before = first if_word line before
construct_opened opening.Try line before = first try_word line before
construct_opened opening.Begin line before = turning begin_word line before
construct_opened opening.For line before = turning for_word line before
construct_opened opening.Each line before = turning each_word line before

-- the items that a loop begins with: the test of its index or its keys
abbrev pub loop_beginning : Opening → ℕ → Block
loop_beginning opening.For line = word line NextIndex stop
loop_beginning opening.Each line = word line NextPair stop
loop_beginning _ line = stop

abbrev pub else_part : ℕ → Growth → List Unfinished → Grown
else_part at g (first if_word line before ∷ us) = Ok (with_part g stop (second if_word line g.now at before ∷ us))
else_part at g (second if_word line a mid before ∷ us) = refuse at StrayElse
else_part at g us = refuse at (misfit StrayElse us)

abbrev pub catch_part : ℕ → Growth → List Unfinished → Grown
catch_part at g (first try_word line before ∷ us) = Ok (with_part g stop (second try_word line g.now at before ∷ us))
catch_part at g us = refuse at (misfit UnclosedTry us)

abbrev pub then_part : ℕ → Growth → List Unfinished → Grown
then_part at g (first if_word line before ∷ us) = Ok (growth_with_item g before us (when line g.now stop))
then_part at g (second if_word line a mid before ∷ us) = Ok (growth_with_item g before us (fork if_word line a mid g.now stop))
then_part at g us = refuse at (misfit StrayElse us)

abbrev pub end_catch_part : ℕ → Growth → List Unfinished → Grown
end_catch_part at g (second try_word line a mid before ∷ us) = Ok (growth_with_item g before us (fork try_word line a mid g.now stop))
end_catch_part at g us = refuse at (misfit UnclosedTry us)

abbrev pub repeat_part : ℕ → Growth → List Unfinished → Grown
repeat_part at g (turning k line before ∷ us) = Ok (growth_with_item g before us (ring k line g.now closer.Repeat at stop))
repeat_part at g us = refuse at (misfit StrayBreak us)

abbrev pub until_part : ℕ → Growth → List Unfinished → Grown
until_part at g (turning begin_word line before ∷ us) = Ok (growth_with_item g before us (ring begin_word line g.now closer.Until at stop))
until_part at g us = refuse at (misfit StrayBreak us)

-- `;` ends the word, whose calls have so many variables
abbrev pub end_part : ℕ → ℕ → Growth → List Unfinished → Grown
end_part at n g [] =
    Ok (record {
      words = g.words ++ record { name = g.title; offer = Nobody; variables = n; body = g.now; last = at } ∷ [];
      title = g.title;
      now = stop;
      around = [];
    })
end_part at n g (u ∷ us) = refuse at (unclosed u)

-- what is offered to all stays so
abbrev pub widened : Offer → Offer → Offer
widened All o = All
widened Wizards All = All
widened Wizards o = Wizards
widened Nobody o = o

-- the word of this number is offered
abbrev pub offered_in : ℕ → Offer → List Definition → List Definition
offered_in n o [] = []
offered_in zero o (d ∷ ds) = record d { offer = widened d.offer o } ∷ ds
offered_in (suc n) o (d ∷ ds) = d ∷ offered_in n o ds

-- the tree after an act
abbrev pub grow : ℕ → Act → Growth → Grown
grow line Wait g = Ok g
grow line (Title name) g = Ok (record g { title = name })
grow line (Item w) g = Ok (growth_with_item g g.now g.around (word line w stop))
grow line (Jump w) g = if in_loop g.around then Ok (growth_with_item g g.now g.around (word line w stop)) else refuse line StrayBreak
grow line (Open o) g = Ok (with_part g (loop_beginning o line) (construct_opened o line g.now ∷ g.around))
grow line Else g = else_part line g g.around
grow line Then g = then_part line g g.around
grow line Catch g = catch_part line g g.around
grow line EndCatch g = end_catch_part line g g.around
grow line Repeat g = repeat_part line g g.around
grow line Until g = until_part line g g.around
grow line (End n) g = end_part line n g g.around
grow line (offer_act n o) g = Ok (record g { words = offered_in n o g.words })

-- the most instructions of a program that take a unit
unfoldable pub units_most : ℕ
units_most = 65536

-- so many more of them, where there is room
abbrev pub units_added : ℕ → ℕ → ℕ → Result ℕ Refusal
units_added line more units = if nat_le (units + more) units_most then Ok (units + more) else refuse line TooLong

-- A program that is read up to a place: what is known there, the tree so far, and how many instructions it has that
-- take a unit.
pub record Draft : Type 0 where
  pub known : Known
  pub growth : Growth
  pub units : ℕ

-- a word more
abbrev pub token_step : Token → Draft → Result Draft Refusal
token_step t d =
    and_then (word_read (length d.growth.words) t d.known) (λ r.
    and_then (grow r.1.line r.1.act d.growth) (λ g.
    and_then (units_added r.1.line (cost_of r.1.act) d.units) (λ n.
    Ok (record { known = r.0; growth = g; units = n }))))

-- the tree of a whole program, whose last word stands at this line
abbrev pub whole_tree : ℕ → ℕ → List Definition → Result Tree Refusal
whole_tree last variables [] = refuse last NoWord
whole_tree last variables (d ∷ ds) = Ok (record { words = d ∷ ds; variables = variables })

abbrev pub finished_in : Mode → ℕ → Draft → Result Tree Refusal
finished_in mode.Outside last d = whole_tree last d.known.variables d.growth.words
finished_in mode.Inside last d = refuse last (misfit NoWord d.growth.around)
finished_in _ last d = refuse last BadHeader

abbrev pub finished : ℕ → Draft → Result Tree Refusal
finished last d = finished_in d.known.mode last d

-- the tree of a program that goes on with these words, behind one at this line
abbrev pub tree_from : ℕ → List Token → Draft → Result Tree Refusal
tree_from last [] d = finished last d
tree_from last (t ∷ ts) d = and_then (token_step t d) (tree_from t.line ts)

abbrev pub empty_growth : Growth
empty_growth = record { words = []; title = []; now = stop; around = [] }

-- nothing is read
abbrev pub empty_draft : Draft
empty_draft = record { known = nothing_known; growth = empty_growth; units = 0 }

-- the tree of a program in these words, or the first word that is refused
unfoldable pub tree_of : List Token → Result Tree Refusal
tree_of ts = tree_from 1 ts empty_draft
