-- Worked programs, and the stacks that they leave, which the checker computes.
use Rattle.std.specs.Prelude.{◌≡◌, ℕ, zero, suc, ℤ, pos, negsuc, Bool, true, false, if◌then◌else◌, List, [], ◌∷◌, map, codes, refl}
use Rattle.std.specs.Fmt.{digits}
use Rattle.muf_model.specs.declared.code.Word.TheVariants.{Literal, Address, Primitive, Call, Exit, Break, Continue, NextIndex, NextPair}
use Rattle.muf_model.specs.declared.code.Literal.TheVariants.{Int, Text}
use Rattle.muf_model.specs.declared.code.Closer.TheVariants.{Semicolon, Repeat, Until}
use Rattle.muf_model.specs.declared.code.Offer.TheVariants.{Nobody}
use Rattle.muf_model.specs.declared.fault.MufFault.{MufFault}
use Rattle.muf_model.specs.declared.fault.MufFault.TheVariants.{CallsFull, Aborted, BadAddress}
use Rattle.muf_model.specs.declared.prims.Primitive.{Primitive as Name}
use Rattle.muf_model.specs.declared.prims.Primitive.TheVariants.{Pop, Dup, Depth, Add, Divide, Modulo, Execute, Abort, Rotate, BitShift, OpenMark, CloseMark, Greater, StrCat, StrCmp, StringCmp, InStr, InString, RInString, Explode, Split, RSplit, StripTail, IntToStr}
use Rattle.muf_model.specs.Datum.{Datum, int, text, items, data_of}
use Rattle.muf_model.specs.Texts.{text_cut, first_place, last_place, number_in_text}
use Rattle.muf_model.specs.TextRows.{text_within, number, two_parts, counted_texts, of_text, of_texts, of_sought, subst, first_compared, text_middle}
use Rattle.muf_model.specs.Tree.{try_word, begin_word, for_word, each_word, Block, stop, word, fork, ring, BlockEnd, closes, Definition}
use Rattle.muf_model.specs.Source.{Mark, Source, started}
use Rattle.muf_model.specs.Unit.{Outcome, goes, ended, faulted, asks, stuck, unit}

-- whether nothing but the `;` of the first word is left
abbrev pub at_end : Block → BlockEnd → List Mark → Bool
at_end stop (closes Semicolon line) [] = true
at_end now end marks = false

-- how a program ends: with its last stack, with a fault, or not within so many units
pub data Ending : Type 0 where
  leaves : List Datum → Ending
  fails : MufFault → Ending
  late : Ending

abbrev pub on : Outcome → (Source → Ending) → Ending
on (goes k s) next = next s
on ended next = late
on (faulted f) next = fails f
on (asks p s) next = late
on stuck next = late

abbrev pub ending : ℕ → Source → Ending
ending zero s = late
ending (suc n) s = if at_end s.now s.end s.marks then leaves s.stack else on (unit s) (ending n)

abbrev pub definition : ℕ → Block → Definition
definition n b = record { name = []; offer = Nobody; variables = n; body = b; last = 1 }

-- the last of some words runs on a stack
abbrev pub run : List Datum → List Definition → Block → Ending
run stack words b =
    ending 100 (record (started (record { number = pos 2; tree = record { words = words; variables = 0 } }) (definition 0 b) [] []) { stack = stack })

abbrev pub n : ℤ → Block → Block
n i next = word 1 (Literal (Int i)) next

abbrev pub t : List ℕ → Block → Block
t bytes next = word 1 (Literal (Text bytes)) next

abbrev pub p : Name → Block → Block
p name next = word 1 (Primitive name) next

abbrev pub for : Block → Block → Block
for body next = ring for_word 1 (word 1 NextIndex body) Repeat 1 next

abbrev pub try : Block → Block → Block → Block
try a b next = fork try_word 1 a 1 b next

abbrev pub ints : List ℤ → List Datum
ints [] = []
ints (i ∷ is) = int i ∷ ints is

-- so many loops open inside one another
abbrev pub begins : ℕ → Block
begins zero = n (pos 1) stop
begins (suc k) = ring begin_word 1 (begins k) Until 1 stop

-- the rows
pub record Rows : Type 0 where
  -- division
  pub by_zero : run [] [] (n (pos 7) (n (pos 0) (p Divide stop))) ≡ leaves (ints (pos 0 ∷ []))
  pub least_by_minus_one : run [] [] (n (negsuc 2147483647) (n (negsuc 0) (p Divide stop))) ≡ leaves (ints (negsuc 2147483647 ∷ []))
  pub least_rest : run [] [] (n (negsuc 2147483647) (n (negsuc 0) (p Modulo stop))) ≡ leaves (ints (pos 0 ∷ []))
  pub sum_wraps : run [] [] (n (pos 2147483647) (n (pos 1) (p Add stop))) ≡ leaves (ints (negsuc 2147483647 ∷ []))
  pub toward_zero : run [] [] (n (negsuc 6) (n (pos 2) (p Divide stop))) ≡ leaves (ints (negsuc 2 ∷ []))
  pub rest_has_sign : run [] [] (n (negsuc 6) (n (pos 2) (p Modulo stop))) ≡ leaves (ints (negsuc 0 ∷ []))
  -- shifts
  pub shift_out : run [] [] (n (pos 1) (n (pos 32) (p BitShift stop))) ≡ leaves (ints (pos 0 ∷ []))
  pub shift_right : run [] [] (n (negsuc 7) (n (negsuc 0) (p BitShift stop))) ≡ leaves (ints (negsuc 3 ∷ []))
  pub shift_sign : run [] [] (n (negsuc 7) (n (negsuc 99) (p BitShift stop))) ≡ leaves (ints (negsuc 0 ∷ []))
  -- rotations: 1 2 3 and a count; the top of a stack is written first
  pub rotates_up : run [] [] (n (pos 1) (n (pos 2) (n (pos 3) (n (pos 3) (p Rotate stop))))) ≡ leaves (ints (pos 1 ∷ pos 3 ∷ pos 2 ∷ []))
  pub rotates_down : run [] [] (n (pos 1) (n (pos 2) (n (pos 3) (n (negsuc 2) (p Rotate stop))))) ≡ leaves (ints (pos 2 ∷ pos 1 ∷ pos 3 ∷ []))
  -- counted loops
  pub counts : run [] [] (n (pos 1) (n (pos 3) (n (pos 1) (for stop stop)))) ≡ leaves (ints (pos 3 ∷ pos 2 ∷ pos 1 ∷ []))
  pub counts_none : run [] [] (n (pos 3) (n (pos 1) (n (pos 1) (for stop stop)))) ≡ leaves []
  pub counts_by_zero : run [] [] (n (pos 1) (n (pos 3) (n (pos 0) (for stop stop)))) ≡ leaves []
  pub counts_to_the_last : run [] [] (n (pos 2147483646) (n (pos 2147483647) (n (pos 1) (for stop stop)))) ≡ leaves (ints (pos 2147483647 ∷ pos 2147483646 ∷ []))
  pub continues : run [] [] (n (pos 1) (n (pos 3) (n (pos 1) (for (word 1 Continue (n (pos 9) stop)) stop)))) ≡ leaves (ints (pos 3 ∷ pos 2 ∷ pos 1 ∷ []))
  -- FOREACH over 1 2 3 pushes each key and its value
  pub each_pair : run (items (data_of (ints (pos 1 ∷ pos 2 ∷ pos 3 ∷ []))) ∷ []) [] (ring each_word 1 (word 1 NextPair stop) Repeat 1 stop) ≡ leaves (ints (pos 3 ∷ pos 2 ∷ pos 2 ∷ pos 1 ∷ pos 1 ∷ pos 0 ∷ []))
  -- 1 BEGIN dup 2 > UNTIL-loops count up to 3
  pub begin_until : run [] [] (n (pos 1) (ring begin_word 1 (n (pos 1) (p Add (p Dup (n (pos 2) (p Greater stop))))) Until 1 stop)) ≡ leaves (ints (pos 3 ∷ []))
  -- 1 2 3 1 TRY pop pop CATCH ENDCATCH
  pub locked_part : run [] [] (n (pos 1) (n (pos 2) (n (pos 3) (n (pos 1) (try (p Pop (p Pop stop)) stop stop))))) ≡ leaves (text (codes "Stack protection fault.") ∷ ints (pos 2 ∷ pos 1 ∷ []))
  -- 5 6 1 TRY 7 "no" abort CATCH ENDCATCH
  pub block_items_go : run [] [] (n (pos 5) (n (pos 6) (n (pos 1) (try (n (pos 7) (t (codes "no") (p Abort stop))) stop stop)))) ≡ leaves (text (codes "no") ∷ ints (pos 5 ∷ []))
  -- : f 1 5 1 for 0 try break catch pop endcatch repeat 9 exit 8 ; : main f depth ;
  pub break_leaves_try : run [] (definition 0 (n (pos 1) (n (pos 5) (n (pos 1) (for (n (pos 0) (try (word 1 Break stop) (p Pop stop) stop)) (n (pos 9) (word 1 Exit (n (pos 8) stop))))))) ∷ []) (word 1 (Call 0) (p Depth stop)) ≡ leaves (ints (pos 2 ∷ pos 9 ∷ pos 1 ∷ []))
  -- a fault behind the loop isn't caught by the TRY that BREAK left
  pub break_drops_try : run [] [] (n (pos 1) (n (pos 5) (n (pos 1) (for (n (pos 0) (try (word 1 Break stop) (p Pop stop) stop)) (t (codes "no") (p Abort stop)))))) ≡ fails (Aborted (codes "no"))
  -- a fault in a called word is caught by the TRY round the call
  pub called_fault : run [] (definition 3 (p Pop stop) ∷ []) (n (pos 0) (try (word 1 (Call 0) stop) stop (n (pos 4) stop))) ≡ leaves (int (pos 4) ∷ text (codes "Stack underflow.") ∷ [])
  -- : f 4 ; : main 'f execute ;
  pub executes : run [] (definition 0 (n (pos 4) stop) ∷ []) (word 1 (Address 0) (p Execute stop)) ≡ leaves (ints (pos 4 ∷ []))
  pub executes_none : run [] [] (word 1 (Address 0) (p Execute stop)) ≡ fails BadAddress
  -- the nearest mark counts
  pub nearest_mark : run [] [] (p OpenMark (n (pos 7) (p OpenMark (n (pos 8) (n (pos 9) (p CloseMark (p Pop (p Pop (p Pop (p CloseMark stop)))))))))) ≡ leaves (ints (pos 1 ∷ pos 7 ∷ []))
  -- DEPTH doesn't count the locked part
  pub depth_above : run [] [] (n (pos 6) (n (pos 7) (n (pos 1) (try (p Depth stop) stop stop)))) ≡ leaves (ints (pos 1 ∷ pos 7 ∷ pos 6 ∷ []))
  -- "Hello " 3 intostr strcat
  pub joins : run [] [] (t (codes "Hello ") (n (pos 3) (p IntToStr (p StrCat stop)))) ≡ leaves (text (codes "Hello 3") ∷ [])
  -- -3 intostr
  pub minus_three : run [] [] (n (negsuc 2) (p IntToStr stop)) ≡ leaves (text (codes "-3") ∷ [])
  -- "HEY: This : is a test:" ":" explode, and a last text that is left where the pieces were found from the left
  pub explodes : of_sought Explode (codes "HEY: This : is a test:") (codes ":") ≡ counted_texts (codes "HEY" ∷ codes " This " ∷ codes " is a test" ∷ [] ∷ [])
  pub explodes_from_the_left : of_sought Explode (codes "aaab") (codes "aa") ≡ counted_texts ([] ∷ codes "ab" ∷ [])
  pub explodes_nothing : of_sought Explode [] (codes ":") ≡ counted_texts ([] ∷ [])
  -- what is put in isn't read again
  pub substitutes : subst (codes "aaa") (codes "b") (codes "aa") ≡ text_within (codes "ba")
  pub substitutes_once : subst (codes "xaxa") (codes "aa") (codes "a") ≡ text_within (codes "xaaxaa")
  pub splits : of_sought Split (codes "aXbX") (codes "X") ≡ two_parts (codes "a") (codes "bX")
  pub splits_last : of_sought RSplit (codes "aXbX") (codes "X") ≡ two_parts (codes "aXb") []
  pub finds : of_sought InString (codes "ABAB") (codes "b") ≡ number (pos 2)
  pub finds_last : of_sought RInString (codes "ABAB") (codes "b") ≡ number (pos 4)
  pub finds_nothing : of_sought InStr (codes "abab") (codes "B") ≡ number (pos 0)
  -- an ended text goes on with 0
  pub compares_longer : of_texts StrCmp (codes "ab") (codes "a") ≡ number (pos 98)
  pub compares_unlike : of_texts StringCmp (codes "A") (codes "c") ≡ number (negsuc 1)
  pub compares_first : first_compared (codes "abc") (codes "abd") (pos 2) ≡ number (pos 0)
  pub strips : of_text StripTail (codes " a ") ≡ text_within (codes " a")
  pub middle_at_the_end : text_middle (codes "abc") (pos 3) (pos 9) ≡ text_within (codes "c")
  pub middle_past_the_end : text_middle (codes "abc") (pos 4) (pos 1) ≡ text_within []
  -- a whole text in 32 bits is a number
  pub numbers : map number_in_text (codes "-07" ∷ codes "7x" ∷ codes "" ∷ codes "-" ∷ codes "+7" ∷ codes "-2147483648" ∷ codes "2147483648" ∷ []) ≡ negsuc 6 ∷ pos 0 ∷ pos 0 ∷ pos 0 ∷ pos 0 ∷ negsuc 2147483647 ∷ pos 0 ∷ []
  pub too_many_loops : run [] [] (begins 513) ≡ fails CallsFull

pub rows : Rows
unfolding digits text_cut first_place last_place
rows = record { by_zero = refl; least_by_minus_one = refl; least_rest = refl; sum_wraps = refl; toward_zero = refl; rest_has_sign = refl; shift_out = refl; shift_right = refl; shift_sign = refl; rotates_up = refl; rotates_down = refl; counts = refl; counts_none = refl; counts_by_zero = refl; counts_to_the_last = refl; continues = refl; each_pair = refl; begin_until = refl; locked_part = refl; block_items_go = refl; break_leaves_try = refl; break_drops_try = refl; called_fault = refl; executes = refl; executes_none = refl; nearest_mark = refl; depth_above = refl; joins = refl; minus_three = refl; explodes = refl; explodes_from_the_left = refl; explodes_nothing = refl; substitutes = refl; substitutes_once = refl; splits = refl; splits_last = refl; finds = refl; finds_last = refl; finds_nothing = refl; compares_longer = refl; compares_unlike = refl; compares_first = refl; strips = refl; middle_at_the_end = refl; middle_past_the_end = refl; numbers = refl; too_many_loops = refl }
