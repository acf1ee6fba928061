-- What each word does that needs no world is never denied.
use Rattle.std.proofs.Common.{◌≡◌, refl, ℕ, zero, suc, ◌+◌, ◌-◌, ℤ, pos, negsuc, Bool, true, false, cond, List, [], ◌∷◌, ◌++◌, take, drop, reverse, length, Option, Some, None, nat_lt}
use Rattle.std.specs.Prelude.{◌==◌, ◌&&◌, position}
use Rattle.std.specs.Ordering.{int_eq}
use Rattle.std.specs.Option.{option_or}
use Rattle.muf_model.specs.declared.fault.MufFault.{MufFault}
use Rattle.muf_model.specs.declared.fault.MufFault.TheVariants.{StackEmpty, StackFull, StackLocked, BadType, BadArgument, BadAddress, TextTooLong, TooHeavy}
use Rattle.muf_model.specs.declared.needs.Need.{Need}
use Rattle.muf_model.specs.declared.prims.Family.{Family}
use Rattle.muf_model.specs.declared.prims.Family.TheVariants as kind
use Rattle.muf_model.specs.declared.prims.Primitive.{Primitive}
use Rattle.muf_model.specs.declared.prims.Primitive.TheVariants.{Pop, Dup, DupTrue, Swap, Over, Rot, Rotate, Pick, Put, Nip, Tuck, DupN, LDup, PopN, Reverse, Depth, OpenMark, CloseMark, Fetch, Store, IsInt, IsString, IsDbref, IsArray, IsDictionary, IsAddress, IsLock, Execute, Abort, Not, ToInt, ToDbref, DbCmp, StrCat, StrCmp, StringCmp, StrNCmp, StrLen, StrCut, MidStr, InStr, RInStr, InString, RInString, Explode, Split, RSplit, Subst, ToUpper, ToLower, StripLead, StripTail, AToI, IntToStr, CharToInt, IntToChar, ArrayMake, ArrayMakeDict, ArrayCount, ArrayGetItem, ArraySetItem, ArrayInsertItem, ArrayAppendItem, ArrayDelItem, ArrayFirst, ArrayNext, ArrayKeys, ArrayVals, ArrayExplode, ArrayJoin}
use Rattle.muf_model.specs.declared.value.MapKey.{MapKey}
use Rattle.muf_model.specs.declared.value.MapKey.TheVariants.{Number, Name}
use Rattle.muck_model.specs.Bytes.{text_most}
use Rattle.muf_model.specs.Datum.{Datum, int, text, object, variable, address, items, dict, data_of, data_list, pairs_of, entries_of}
use Rattle.muf_model.specs.Answer.{Answer, gives, calls, refuses, Made, makes, rejects, Scope, PrimitiveEffect, plain, whole, stack_most, too_few, needing, stack_fitting, items_put, answer_unless, variable_at}
use Rattle.muf_model.specs.Entries.{value_of_key, with_entry, gathered}
use Rattle.muf_model.specs.Prims.{family_of, primitive_level, needs_of}
use Rattle.muf_model.specs.Kinds.{is_kind_so, kind_of_item, suits}
use Rattle.muf_model.specs.Values.{value_fits}
use Rattle.muf_model.specs.Needs.{Needs, Many}
use Rattle.muf_model.specs.Ladder.{short, miscounted, too_short, unfit, absent, first_refusal, wanted, ladder, any_level, all_there}
use Rattle.muf_model.specs.StackRows.{doubled, doubled_true, swapped, overed, items_rotated, rotated, by_count, item_picked, item_put_at, doubled_many, doubled_list, popped_many, reversed, nipped, tucked, mark_closed, mark_counted, above_locked, is_mark, fetched, fetching, item_stored, variable_storing, item_judged, executed, aborted, stack_row}
use Rattle.muf_model.specs.NumberRows as number
use Rattle.muf_model.specs.NumberRows.{NumberRow, number_table, number_deed, number_row, one_int, two_ints, compared, two_truths, to_integer, to_object, objects_equal}
use Rattle.muf_model.specs.TextRows.{text_within, place, around, one_text, two_texts, three_texts, text_and_int, texts_and_int, text_and_ints, one_integer, one_number, of_text, of_texts, of_sought, seeking, subst, text_cut_behind, first_compared, text_middle, in_decimal, character, text_row}
use Rattle.muf_model.specs.Texts.{first_place, last_place}
use Rattle.muf_model.specs.ArrayRows as array
use Rattle.muf_model.specs.ArrayRows.{map_key_of, entries_in, one_held, at_key, held_and_key, item_held_and_key, valued, value_found, first_key, list_made, dict_made, item_got, set_in, inserted_in, appended_to, appended, gone_from, words_of, joins, array_row}
use Rattle.muf_model.specs.Rows.{local_row, primitive_used, primitive}
use Rattle.spec_denials.specs.Plain.{NoDenial, NotDenied}

abbrev MadePlain : Made → Type 0
MadePlain (makes ds) = Unit {0}
MadePlain (rejects f) = NoDenial f

abbrev Plain : Option MufFault → Type 0
Plain None = Unit {0}
Plain (Some f) = NoDenial f

made_if : (b : Bool) (x y : Made) → MadePlain x → MadePlain y → MadePlain (cond b x y)
made_if true x y h k = h
made_if false x y h k = k

answer_if : (b : Bool) (x y : Answer) → NotDenied x → NotDenied y → NotDenied (cond b x y)
answer_if true x y h k = h
answer_if false x y h k = k

pub plain_few : (n : ℕ) (stack : List Datum) → NoDenial (too_few n stack)
plain_few n stack = at (nat_lt (length stack) n)
  where
    at : (b : Bool) → NoDenial (cond b StackEmpty StackLocked)
    at true = tt
    at false = tt

pub plain_needing : (n locked : ℕ) (stack : List Datum) (answer : Answer) → NotDenied answer → NotDenied (needing n locked stack answer)
plain_needing n locked stack answer h = answer_if (nat_lt (length stack) (locked + n)) (refuses (too_few n stack)) answer (plain_few n stack) h

pub plain_fitting : (stack : List Datum) → NotDenied (stack_fitting stack)
plain_fitting stack = answer_if (nat_lt stack_most (length stack)) (refuses StackFull) (gives stack) tt tt

-- Rows of the stack.

plain_doubled : (xs : List Datum) → MadePlain (doubled xs)
plain_doubled (x ∷ []) = tt
plain_doubled _ = tt

plain_true : (xs : List Datum) → MadePlain (doubled_true xs)
plain_true (x ∷ []) = tt
plain_true _ = tt

plain_swapped : (xs : List Datum) → MadePlain (swapped xs)
plain_swapped (y ∷ x ∷ []) = tt
plain_swapped _ = tt

plain_overed : (xs : List Datum) → MadePlain (overed xs)
plain_overed (y ∷ x ∷ []) = tt
plain_overed _ = tt

plain_turned : (xs : List Datum) → MadePlain (items_rotated xs)
plain_turned (z ∷ y ∷ x ∷ []) = tt
plain_turned _ = tt

plain_nipped : (xs : List Datum) → MadePlain (nipped xs)
plain_nipped (y ∷ x ∷ []) = tt
plain_nipped _ = tt

plain_tucked : (xs : List Datum) → MadePlain (tucked xs)
plain_tucked (y ∷ x ∷ []) = tt
plain_tucked _ = tt

plain_judged : (test : Datum → Bool) (xs : List Datum) → MadePlain (item_judged test xs)
plain_judged test (x ∷ []) = tt
plain_judged test _ = tt

plain_aborted : (xs : List Datum) → MadePlain (aborted xs)
plain_aborted (text t ∷ []) = tt
plain_aborted _ = tt

plain_rotated : (s : Scope) (stack : List Datum) → NotDenied (rotated s stack)
plain_rotated s (int (pos n) ∷ rest) = plain_needing (n + 1) s.locked (int (pos n) ∷ rest) _ tt
plain_rotated s (int (negsuc n) ∷ rest) = plain_needing (suc n + 1) s.locked (int (negsuc n) ∷ rest) _ tt
plain_rotated s _ = tt

plain_count : (answer : List Datum → ℕ → Answer) → ((rest : List Datum) (n : ℕ) → NotDenied (answer rest n)) → (s : Scope) (stack : List Datum) → NotDenied (by_count answer s stack)
plain_count answer h s (int (pos n) ∷ rest) = h rest n
plain_count answer h s _ = tt

plain_picked : (rest : List Datum) (n : ℕ) → NotDenied (item_picked rest n)
plain_picked rest zero = tt
plain_picked rest (suc n) = tt

plain_put : (rest : List Datum) (n : ℕ) → NotDenied (item_put_at rest n)
plain_put rest zero = tt
plain_put [] (suc n) = tt
plain_put (y ∷ rest) (suc n) = tt

plain_closed : (s : Scope) (stack : List Datum) → NotDenied (mark_closed s stack)
plain_closed s stack = at (position is_mark (above_locked s.locked stack))
  where
    at : (o : Option ℕ) → NotDenied (mark_counted o stack)
    at None = tt
    at (Some n) = tt

plain_fetching : (s : Scope) (stack : List Datum) → NotDenied (fetching s stack)
plain_fetching s (variable v ∷ rest) = at (variable_at v s)
  where
    at : (o : Option Datum) → NotDenied (fetched o rest)
    at None = tt
    at (Some x) = tt
plain_fetching s _ = tt

pub plain_stored : (o : Option Datum) (v : ℕ) (x : Datum) (rest : List Datum) → NotDenied (item_stored o v x rest)
plain_stored None v x rest = tt
plain_stored (Some old) v x rest = tt

plain_storing : (s : Scope) (stack : List Datum) → NotDenied (variable_storing s stack)
plain_storing s (variable v ∷ x ∷ rest) = plain_stored (variable_at v s) v x rest
plain_storing s _ = tt

plain_executed : (s : Scope) (stack : List Datum) → NotDenied (executed s stack)
plain_executed s (address program word ∷ rest) = answer_if (int_eq program s.program && nat_lt word s.words) (calls word rest) (refuses BadAddress) tt tt
plain_executed s _ = tt

abbrev DeedPlain : Option PrimitiveEffect → Type 0
DeedPlain None = Unit {0}
DeedPlain (Some (plain f)) = (xs : List Datum) → MadePlain (f xs)
DeedPlain (Some (whole f)) = (s : Scope) (stack : List Datum) → NotDenied (f s stack)

stack_plain : (p : Primitive) → DeedPlain (stack_row p)
stack_plain Pop = λ xs. tt
stack_plain Dup = plain_doubled
stack_plain DupTrue = plain_true
stack_plain Swap = plain_swapped
stack_plain Over = plain_overed
stack_plain Rot = plain_turned
stack_plain Rotate = plain_rotated
stack_plain Pick = plain_count item_picked plain_picked
stack_plain Put = plain_count item_put_at plain_put
stack_plain Nip = plain_nipped
stack_plain Tuck = plain_tucked
stack_plain DupN = plain_count doubled_many (λ rest n. plain_fitting (take n rest ++ rest))
stack_plain LDup = plain_count doubled_list (λ rest n. plain_fitting (int (pos n) ∷ (take n rest ++ (int (pos n) ∷ rest))))
stack_plain PopN = plain_count popped_many (λ rest n. tt)
stack_plain Reverse = plain_count reversed (λ rest n. tt)
stack_plain Depth = λ s stack. plain_fitting (int (pos (length stack - s.locked)) ∷ stack)
stack_plain OpenMark = λ xs. tt
stack_plain CloseMark = plain_closed
stack_plain Fetch = plain_fetching
stack_plain Store = plain_storing
stack_plain IsInt = plain_judged (is_kind_so IsInt)
stack_plain IsString = plain_judged (is_kind_so IsString)
stack_plain IsDbref = plain_judged (is_kind_so IsDbref)
stack_plain IsArray = plain_judged (is_kind_so IsArray)
stack_plain IsDictionary = plain_judged (is_kind_so IsDictionary)
stack_plain IsAddress = plain_judged (is_kind_so IsAddress)
stack_plain IsLock = plain_judged (is_kind_so IsLock)
stack_plain Execute = plain_executed
stack_plain Abort = plain_aborted
stack_plain _ = tt

-- Rows of numbers.

plain_int : (f : ℤ → ℤ) (xs : List Datum) → MadePlain (one_int f xs)
plain_int f (int i ∷ []) = tt
plain_int f _ = tt

plain_ints : (f : ℤ → ℤ → ℤ) (xs : List Datum) → MadePlain (two_ints f xs)
plain_ints f (int j ∷ int i ∷ []) = tt
plain_ints f _ = tt

plain_compared : (f : ℤ → ℤ → Bool) (xs : List Datum) → MadePlain (compared f xs)
plain_compared f (int j ∷ int i ∷ []) = tt
plain_compared f (object j ∷ object i ∷ []) = tt
plain_compared f _ = tt

plain_truths : (f : Bool → Bool → Bool) (xs : List Datum) → MadePlain (two_truths f xs)
plain_truths f (y ∷ x ∷ []) = tt
plain_truths f _ = tt

plain_number : (xs : List Datum) → MadePlain (to_integer xs)
plain_number (int i ∷ []) = tt
plain_number (object d ∷ []) = tt
plain_number (variable v ∷ []) = tt
plain_number _ = tt

plain_object : (xs : List Datum) → MadePlain (to_object xs)
plain_object (int i ∷ []) = tt
plain_object _ = tt

plain_equal : (xs : List Datum) → MadePlain (objects_equal xs)
plain_equal (object j ∷ object i ∷ []) = tt
plain_equal _ = tt

abbrev ItemsPlain : NumberRow → Type 0
ItemsPlain (number.items f) = (xs : List Datum) → MadePlain (f xs)
ItemsPlain row = Unit {0}

items_plain : (p : Primitive) → ItemsPlain (number_table p)
items_plain Not = plain_judged _
items_plain ToInt = plain_number
items_plain ToDbref = plain_object
items_plain DbCmp = plain_equal
items_plain _ = tt

number_plain : (row : NumberRow) → ItemsPlain row → DeedPlain (number_deed row)
number_plain (number.an_int f) h = plain_int f
number_plain (number.ints f) h = plain_ints f
number_plain (number.compares f) h = plain_compared f
number_plain (number.truths f) h = plain_truths f
number_plain (number.items f) h = h
number_plain number.absent h = tt

-- Rows of texts.

plain_sized : (t : List ℕ) → MadePlain (text_within t)
plain_sized t = made_if (nat_lt text_most (length t)) (rejects TextTooLong) (makes (text t ∷ [])) tt tt

plain_place : (o : Option ℕ) → MadePlain (place o)
plain_place None = tt
plain_place (Some k) = tt

plain_around : (s : List ℕ) (n : ℕ) (o : Option ℕ) → MadePlain (around s n o)
plain_around s n None = tt
plain_around s n (Some k) = tt

plain_one : (f : List ℕ → Made) → ((s : List ℕ) → MadePlain (f s)) → (xs : List Datum) → MadePlain (one_text f xs)
plain_one f h (text s ∷ []) = h s
plain_one f h _ = tt

plain_two : (f : List ℕ → List ℕ → Made) → ((s t : List ℕ) → MadePlain (f s t)) → (xs : List Datum) → MadePlain (two_texts f xs)
plain_two f h (text t ∷ text s ∷ []) = h s t
plain_two f h _ = tt

plain_three : (xs : List Datum) → MadePlain (three_texts subst xs)
plain_three (text u ∷ text t ∷ text s ∷ []) = plain_sized _
plain_three _ = tt

plain_cut : (xs : List Datum) → MadePlain (text_and_int text_cut_behind xs)
plain_cut (int (pos n) ∷ text s ∷ []) = tt
plain_cut (int (negsuc n) ∷ text s ∷ []) = tt
plain_cut _ = tt

plain_first : (xs : List Datum) → MadePlain (texts_and_int first_compared xs)
plain_first (int (pos n) ∷ text t ∷ text s ∷ []) = tt
plain_first (int (negsuc n) ∷ text t ∷ text s ∷ []) = tt
plain_first _ = tt

plain_middle : (s : List ℕ) (p n : ℤ) → MadePlain (text_middle s p n)
plain_middle s (pos p) (pos n) = made_if (p == 0) (rejects BadArgument) _ tt (plain_sized _)
plain_middle s (pos p) (negsuc n) = tt
plain_middle s (negsuc p) n = tt

plain_ints_of : (xs : List Datum) → MadePlain (text_and_ints text_middle xs)
plain_ints_of (int n ∷ int p ∷ text s ∷ []) = plain_middle s p n
plain_ints_of _ = tt

plain_integer : (xs : List Datum) → MadePlain (one_integer character xs)
plain_integer (int i ∷ []) = plain_sized _
plain_integer _ = tt

plain_decimal : (xs : List Datum) → MadePlain (one_number in_decimal xs)
plain_decimal (int i ∷ []) = plain_sized _
plain_decimal (object d ∷ []) = plain_sized _
plain_decimal _ = tt

plain_of_text : (p : Primitive) (s : List ℕ) → MadePlain (of_text p s)
plain_of_text StrLen s = tt
plain_of_text ToUpper s = plain_sized _
plain_of_text ToLower s = plain_sized _
plain_of_text StripLead s = plain_sized _
plain_of_text StripTail s = plain_sized _
plain_of_text AToI s = tt
plain_of_text CharToInt s = tt
plain_of_text _ s = tt

plain_of_texts : (p : Primitive) (s t : List ℕ) → MadePlain (of_texts p s t)
plain_of_texts StrCat s t = plain_sized _
plain_of_texts StrCmp s t = tt
plain_of_texts StringCmp s t = tt
plain_of_texts _ s t = tt

plain_sought : (p : Primitive) (s t : List ℕ) → MadePlain (of_sought p s t)
plain_sought InStr s t = plain_place _
plain_sought RInStr s t = plain_place _
plain_sought InString s t = plain_place _
plain_sought RInString s t = plain_place _
plain_sought Split s t = plain_around s (length t) (first_place t s)
plain_sought RSplit s t = plain_around s (length t) (last_place t s)
plain_sought Explode s t = tt
plain_sought _ s t = tt

plain_seeking : (p : Primitive) (s t : List ℕ) → MadePlain (seeking (of_sought p) s t)
plain_seeking p s [] = tt
plain_seeking p s (b ∷ t) = plain_sought p s (b ∷ t)

text_plain : (p : Primitive) → DeedPlain (text_row p)
text_plain StrCat = plain_two (of_texts StrCat) (plain_of_texts StrCat)
text_plain StrCmp = plain_two (of_texts StrCmp) (plain_of_texts StrCmp)
text_plain StringCmp = plain_two (of_texts StringCmp) (plain_of_texts StringCmp)
text_plain StrNCmp = plain_first
text_plain StrLen = plain_one (of_text StrLen) (plain_of_text StrLen)
text_plain StrCut = plain_cut
text_plain MidStr = plain_ints_of
text_plain InStr = plain_two (seeking (of_sought InStr)) (plain_seeking InStr)
text_plain RInStr = plain_two (seeking (of_sought RInStr)) (plain_seeking RInStr)
text_plain InString = plain_two (seeking (of_sought InString)) (plain_seeking InString)
text_plain RInString = plain_two (seeking (of_sought RInString)) (plain_seeking RInString)
text_plain Explode = plain_two (seeking (of_sought Explode)) (plain_seeking Explode)
text_plain Split = plain_two (seeking (of_sought Split)) (plain_seeking Split)
text_plain RSplit = plain_two (seeking (of_sought RSplit)) (plain_seeking RSplit)
text_plain Subst = plain_three
text_plain ToUpper = plain_one (of_text ToUpper) (plain_of_text ToUpper)
text_plain ToLower = plain_one (of_text ToLower) (plain_of_text ToLower)
text_plain StripLead = plain_one (of_text StripLead) (plain_of_text StripLead)
text_plain StripTail = plain_one (of_text StripTail) (plain_of_text StripTail)
text_plain AToI = plain_one (of_text AToI) (plain_of_text AToI)
text_plain IntToStr = plain_decimal
text_plain CharToInt = plain_one (of_text CharToInt) (plain_of_text CharToInt)
text_plain IntToChar = plain_integer
text_plain _ = tt

-- Rows of lists and dictionaries.

plain_valued : (d : Datum) → MadePlain (valued d)
plain_valued d = made_if (value_fits d) (makes (d ∷ [])) (rejects TooHeavy) tt tt

plain_held : (f : Datum → Made) → ((d : Datum) → MadePlain (f d)) → (xs : List Datum) → MadePlain (one_held f xs)
plain_held f h (a ∷ []) = h a
plain_held f h _ = tt

plain_key : (f : Datum → MapKey → Made) → ((d : Datum) (k : MapKey) → MadePlain (f d k)) → (d : Datum) (o : Option MapKey) → MadePlain (at_key f d o)
plain_key f h (items ds) (Some (Name t)) = tt
plain_key f h (items ds) (Some (Number n)) = h (items ds) (Number n)
plain_key f h (items ds) None = tt
plain_key f h d (Some k) = h d k
plain_key f h d None = tt

plain_held_key : (f : Datum → MapKey → Made) → ((d : Datum) (k : MapKey) → MadePlain (f d k)) → (xs : List Datum) → MadePlain (held_and_key f xs)
plain_held_key f h (k ∷ a ∷ []) = plain_key f h a (map_key_of k)
plain_held_key f h _ = tt

plain_item_key : (f : Datum → Datum → MapKey → Made) → ((x d : Datum) (k : MapKey) → MadePlain (f x d k)) → (xs : List Datum) → MadePlain (item_held_and_key f xs)
plain_item_key f h (k ∷ a ∷ x ∷ []) = plain_key (f x) (h x) a (map_key_of k)
plain_item_key f h _ = tt

plain_got : (o : Option Datum) → MadePlain (value_found o)
plain_got None = tt
plain_got (Some x) = tt

plain_first_key : (es : List (MapKey × Datum)) → MadePlain (first_key es)
plain_first_key [] = tt
plain_first_key ((k, x) ∷ es) = tt

plain_between : (n m : ℕ) (x : Datum) (ds : List Datum) → MadePlain (cond (nat_lt (length ds) n) (rejects BadArgument) (valued (items (data_of (take n ds ++ x ∷ drop m ds)))))
plain_between n m x ds = made_if (nat_lt (length ds) n) (rejects BadArgument) (valued (items (data_of (take n ds ++ x ∷ drop m ds)))) tt (plain_valued (items (data_of (take n ds ++ x ∷ drop m ds))))

plain_set : (x d : Datum) (k : MapKey) → MadePlain (set_in x d k)
plain_set x (items ds) (Number (pos n)) = plain_between n (n + 1) x (data_list ds)
plain_set x (dict ps) k = plain_valued (dict (pairs_of (with_entry k x (entries_of ps))))
plain_set x _ _ = tt

plain_inserted : (x d : Datum) (k : MapKey) → MadePlain (inserted_in x d k)
plain_inserted x (items ds) (Number (pos n)) = plain_between n n x (data_list ds)
plain_inserted x (items ds) (Number (negsuc n)) = tt
plain_inserted x (items ds) (Name t) = tt
plain_inserted x (dict ps) k = plain_valued (dict (pairs_of (with_entry k x (entries_of ps))))
plain_inserted x _ k = tt

plain_appended_to : (a x : Datum) → MadePlain (appended_to a x)
plain_appended_to (items ds) x = plain_valued (items (data_of (data_list ds ++ x ∷ [])))
plain_appended_to _ x = tt

plain_appended : (xs : List Datum) → MadePlain (appended xs)
plain_appended (a ∷ x ∷ []) = plain_appended_to a x
plain_appended _ = tt

plain_gone : (d : Datum) (k : MapKey) → MadePlain (gone_from d k)
plain_gone (items ds) (Number (pos n)) = tt
plain_gone (dict ps) k = tt
plain_gone _ k = tt

plain_list : (xs : List Datum) → MadePlain (list_made xs)
plain_list [] = tt
plain_list (n ∷ xs) = plain_valued (items (data_of (reverse xs)))

plain_dict : (xs : List Datum) → MadePlain (dict_made xs)
plain_dict [] = tt
plain_dict (n ∷ xs) = plain_valued (dict (pairs_of (gathered (array.paired xs))))

plain_joins : (xs : List Datum) → MadePlain (joins xs)
plain_joins (text s ∷ a ∷ []) = at (words_of (entries_in a)) refl
  where
    at : (o : Option (List (List ℕ))) → words_of (entries_in a) ≡ o → MadePlain (array.joined_held s a)
    at None e = rw e tt
    at (Some ts) e = rw e (plain_sized _)
plain_joins _ = tt

array_plain : (p : Primitive) → DeedPlain (array_row p)
array_plain ArrayMake = plain_list
array_plain ArrayMakeDict = plain_dict
array_plain ArrayCount = plain_held array.items_counted (λ d. tt)
array_plain ArrayGetItem = plain_held_key item_got (λ d k. plain_got (value_of_key k (entries_in d)))
array_plain ArraySetItem = plain_item_key set_in plain_set
array_plain ArrayInsertItem = plain_item_key inserted_in plain_inserted
array_plain ArrayAppendItem = plain_appended
array_plain ArrayDelItem = plain_held_key gone_from plain_gone
array_plain ArrayFirst = plain_held array.array_first (λ d. plain_first_key (entries_in d))
array_plain ArrayNext = plain_held_key array.next_key (λ d k. plain_first_key _)
array_plain ArrayKeys = plain_held array.keys (λ d. tt)
array_plain ArrayVals = plain_held array.values (λ d. tt)
array_plain ArrayExplode = plain_held array.exploded (λ d. tt)
array_plain ArrayJoin = plain_joins
array_plain _ = tt

-- The tests before.

plain_or : (o r : Option MufFault) → Plain o → Plain r → Plain (option_or o r)
plain_or None r h k = k
plain_or (Some f) r h k = h

plain_if : (b : Bool) (o r : Option MufFault) → Plain o → Plain r → Plain (cond b o r)
plain_if true o r h k = h
plain_if false o r h k = k

plain_short : (n locked : ℕ) (stack : List Datum) → Plain (short n locked stack)
plain_short zero locked stack = tt
plain_short (suc n) locked stack = plain_if (nat_lt (length stack) (locked + suc n)) (Some (too_few (suc n) stack)) None (plain_few (suc n) stack) tt

plain_miscounted : (stack : List Datum) → Plain (miscounted stack)
plain_miscounted (int (negsuc n) ∷ rest) = tt
plain_miscounted _ = tt

plain_too_short : (needs : Needs) (locked : ℕ) (stack : List Datum) → Plain (too_short needs locked stack)
plain_too_short needs locked stack = at needs.many
  where
    at : (m : Option Many) → Plain (too_short (record needs { many = m }) locked stack)
    at None = plain_short (length needs.fixed) locked stack
    at (Some m) =
        plain_or (short (length (needs.fixed ++ m.under)) locked stack) _ (plain_short (length (needs.fixed ++ m.under)) locked stack)
        (plain_or (miscounted (drop m.at stack)) _ (plain_miscounted (drop m.at stack)) (plain_short (length (wanted (record needs { many = Some m }) stack)) locked stack))

plain_absent : (n : Need) (x : Datum) → Plain (absent all_there n x)
plain_absent n (object d) = plain_if n.there None None tt tt
plain_absent n _ = plain_if n.there None None tt tt

plain_walk : (test : Need → Datum → Option MufFault) → ((n : Need) (x : Datum) → Plain (test n x)) → (ns : List Need) (xs : List Datum) → Plain (first_refusal test ns xs)
plain_walk test h [] xs = tt
plain_walk test h (n ∷ ns) [] = tt
plain_walk test h (n ∷ ns) (x ∷ xs) = plain_or _ _ (h n x) (plain_walk test h ns xs)

plain_ladder : (level : ℕ) (needs : Needs) (locked : ℕ) (stack : List Datum) → Plain (ladder level needs any_level all_there locked stack)
plain_ladder level needs locked stack =
    plain_or (too_short needs locked stack) _ (plain_too_short needs locked stack)
    (plain_or (first_refusal unfit (wanted needs stack) stack) _ (plain_walk unfit (λ n x. plain_if (suits n.kind (kind_of_item x)) None (Some BadType) tt tt) (wanted needs stack) stack)
    (plain_walk (absent all_there) plain_absent (wanted needs stack) stack))

-- And all of them.

row_plain : (p : Primitive) → DeedPlain (local_row p)
row_plain p = at (family_of p) refl
  where
    at : (family : Family) → family_of p ≡ family → DeedPlain (local_row p)
    at kind.Stack e = rw e (stack_plain p)
    at kind.Number e = rw e (number_plain (number_table p) (items_plain p))
    at kind.Text e = rw e (text_plain p)
    at kind.Array e = rw e (array_plain p)
    at kind.Object e = rw e tt
    at kind.Property e = rw e tt
    at kind.Talk e = rw e tt
    at kind.Process e = rw e tt

plain_made : (n : ℕ) (m : Made) (rest : List Datum) → MadePlain m → NotDenied (items_put n m rest)
plain_made n (makes ds) rest h = answer_if (nat_lt n (length ds)) (stack_fitting (ds ++ rest)) (gives (ds ++ rest)) (plain_fitting (ds ++ rest)) tt
plain_made n (rejects f) rest h = h

plain_unless : (o : Option MufFault) (answer : Answer) → Plain o → NotDenied answer → NotDenied (answer_unless o answer)
plain_unless None answer h k = k
plain_unless (Some f) answer h k = h

plain_used : (level : ℕ) (o : Option Needs) (d : Option PrimitiveEffect) (s : Scope) (stack : List Datum) → DeedPlain d → NotDenied (primitive_used level o d s stack)
plain_used level None d s stack h = tt
plain_used level (Some needs) None s stack h = tt
plain_used level (Some needs) (Some (plain f)) s stack h = plain_unless _ _ (plain_ladder level needs s.locked stack) (plain_made _ (f _) _ (h _))
plain_used level (Some needs) (Some (whole f)) s stack h = plain_unless _ _ (plain_ladder level needs s.locked stack) (h s stack)

-- what a word makes of the stack and the variables is never denied
pub words_plain : (p : Primitive) (s : Scope) (stack : List Datum) → NotDenied (primitive p s stack)
words_plain p s stack = plain_used (primitive_level p) (needs_of p) (local_row p) s stack (row_plain p)
