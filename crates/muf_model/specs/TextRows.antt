-- What each primitive of texts does.
use Rattle.std.specs.Prelude.{ℕ, ◌+◌, ◌-◌, ◌==◌, List, [], ◌∷◌, ◌++◌, ℤ, pos, negsuc, Option, Some, None, length, map, take, drop, nat_lt, if◌then◌else◌}
use Rattle.std.specs.Char.{to_ascii_lowercase, to_ascii_uppercase}
use Rattle.std.specs.Fmt.{signed_decimal}
use Rattle.muck_model.specs.Bytes.{text_most}
use Rattle.muf_model.specs.declared.fault.MufFault.TheVariants.{BadType, BadArgument, TextTooLong}
use Rattle.muf_model.specs.declared.prims.Primitive.{Primitive}
use Rattle.muf_model.specs.declared.prims.Primitive.TheVariants.{StrCat, StrCmp, StringCmp, StrNCmp, StrLen, StrCut, MidStr, InStr, RInStr, InString, RInString, Explode, Split, RSplit, Subst, ToUpper, ToLower, StripLead, StripTail, AToI, IntToStr, CharToInt, IntToChar}
use Rattle.muf_model.specs.Datum.{Datum, int, text, object}
use Rattle.muf_model.specs.Answer.{PrimitiveEffect, plain, Made, makes, rejects}
use Rattle.muf_model.specs.Texts.{difference, first_place, last_place, text_pieces, substituted, lead_stripped, tail_stripped, number_in_text, first_byte, one_byte}

-- What is made.

-- a text, or the fault of one that is too long
abbrev pub text_within : List ℕ → Made
text_within t = if nat_lt text_most (length t) then rejects TextTooLong else makes (text t ∷ [])

abbrev pub number : ℤ → Made
number i = makes (int i ∷ [])

-- a number and two texts, or texts, the last on the top
abbrev pub two_parts : List ℕ → List ℕ → Made
two_parts s t = makes (text t ∷ text s ∷ [])

-- a place from 1, or 0 for none
abbrev pub place : Option ℕ → Made
place (Some k) = number (pos (k + 1))
place None = number (pos 0)

-- what stands before n bytes at a place and behind them, or s and the empty text
abbrev pub around : List ℕ → ℕ → Option ℕ → Made
around s n (Some k) = two_parts (take k s) (drop (k + n) s)
around s n None = two_parts s []

-- texts and their count, which is on the top and the first of them below it
abbrev pub counted_texts : List (List ℕ) → Made
counted_texts ts = makes (int (pos (length ts)) ∷ map text ts)

-- What is taken, the last on the top.

abbrev pub one_text : (List ℕ → Made) → List Datum → Made
one_text f (text s ∷ []) = f s
one_text f _ = rejects BadType

abbrev pub two_texts : (List ℕ → List ℕ → Made) → List Datum → Made
two_texts f (text t ∷ text s ∷ []) = f s t
two_texts f _ = rejects BadType

abbrev pub three_texts : (List ℕ → List ℕ → List ℕ → Made) → List Datum → Made
three_texts f (text u ∷ text t ∷ text s ∷ []) = f s t u
three_texts f _ = rejects BadType

abbrev pub text_and_int : (List ℕ → ℤ → Made) → List Datum → Made
text_and_int f (int n ∷ text s ∷ []) = f s n
text_and_int f _ = rejects BadType

abbrev pub texts_and_int : (List ℕ → List ℕ → ℤ → Made) → List Datum → Made
texts_and_int f (int n ∷ text t ∷ text s ∷ []) = f s t n
texts_and_int f _ = rejects BadType

abbrev pub text_and_ints : (List ℕ → ℤ → ℤ → Made) → List Datum → Made
text_and_ints f (int n ∷ int p ∷ text s ∷ []) = f s p n
text_and_ints f _ = rejects BadType

abbrev pub one_integer : (ℤ → Made) → List Datum → Made
one_integer f (int i ∷ []) = f i
one_integer f _ = rejects BadType

-- of an integer or the number of an object
abbrev pub one_number : (ℤ → Made) → List Datum → Made
one_number f (int i ∷ []) = f i
one_number f (object d ∷ []) = f d
one_number f _ = rejects BadType

-- What each primitive makes of what it takes.

abbrev pub of_text : Primitive → List ℕ → Made
of_text StrLen s = number (pos (length s))
of_text ToUpper s = text_within (map to_ascii_uppercase s)
of_text ToLower s = text_within (map to_ascii_lowercase s)
of_text StripLead s = text_within (lead_stripped s)
of_text StripTail s = text_within (tail_stripped s)
of_text AToI s = number (number_in_text s)
of_text CharToInt s = number (pos (first_byte s))
of_text _ s = rejects BadArgument

abbrev pub lower : List ℕ → List ℕ
lower s = map to_ascii_lowercase s

abbrev pub of_texts : Primitive → List ℕ → List ℕ → Made
of_texts StrCat s t = text_within (s ++ t)
of_texts StrCmp s t = number (difference s t)
of_texts StringCmp s t = number (difference (lower s) (lower t))
of_texts _ s t = rejects BadArgument

-- where t is sought in s
abbrev pub of_sought : Primitive → List ℕ → List ℕ → Made
of_sought InStr s t = place (first_place t s)
of_sought RInStr s t = place (last_place t s)
of_sought InString s t = place (first_place (lower t) (lower s))
of_sought RInString s t = place (last_place (lower t) (lower s))
of_sought Split s t = around s (length t) (first_place t s)
of_sought RSplit s t = around s (length t) (last_place t s)
of_sought Explode s t = counted_texts (text_pieces t s)
of_sought _ s t = rejects BadArgument

-- what is sought may not be empty
abbrev pub seeking : (List ℕ → List ℕ → Made) → List ℕ → List ℕ → Made
seeking f s [] = rejects BadArgument
seeking f s (b ∷ t) = f s (b ∷ t)

abbrev pub subst : List ℕ → List ℕ → List ℕ → Made
subst s t u = text_within (substituted s t u)

-- A count is never below 0, and a place never below 1.

abbrev pub text_cut_behind : List ℕ → ℤ → Made
text_cut_behind s (pos n) = two_parts (take n s) (drop n s)
text_cut_behind s (negsuc n) = rejects BadArgument

abbrev pub first_compared : List ℕ → List ℕ → ℤ → Made
first_compared s t (pos n) = number (difference (take n s) (take n t))
first_compared s t (negsuc n) = rejects BadArgument

abbrev pub text_middle : List ℕ → ℤ → ℤ → Made
text_middle s (pos p) (pos n) = if p == 0 then rejects BadArgument else text_within (take n (drop (p - 1) s))
text_middle s _ _ = rejects BadArgument

-- in decimal, with a `-` where it is negative
abbrev pub in_decimal : ℤ → Made
in_decimal i = text_within (signed_decimal i)

abbrev pub character : ℤ → Made
character i = text_within (one_byte i)

abbrev pub text_row : Primitive → Option PrimitiveEffect
text_row StrCat = Some (plain (two_texts (of_texts StrCat)))
text_row StrCmp = Some (plain (two_texts (of_texts StrCmp)))
text_row StringCmp = Some (plain (two_texts (of_texts StringCmp)))
text_row StrNCmp = Some (plain (texts_and_int first_compared))
text_row StrLen = Some (plain (one_text (of_text StrLen)))
text_row StrCut = Some (plain (text_and_int text_cut_behind))
text_row MidStr = Some (plain (text_and_ints text_middle))
text_row InStr = Some (plain (two_texts (seeking (of_sought InStr))))
text_row RInStr = Some (plain (two_texts (seeking (of_sought RInStr))))
text_row InString = Some (plain (two_texts (seeking (of_sought InString))))
text_row RInString = Some (plain (two_texts (seeking (of_sought RInString))))
text_row Explode = Some (plain (two_texts (seeking (of_sought Explode))))
text_row Split = Some (plain (two_texts (seeking (of_sought Split))))
text_row RSplit = Some (plain (two_texts (seeking (of_sought RSplit))))
text_row Subst = Some (plain (three_texts subst))
text_row ToUpper = Some (plain (one_text (of_text ToUpper)))
text_row ToLower = Some (plain (one_text (of_text ToLower)))
text_row StripLead = Some (plain (one_text (of_text StripLead)))
text_row StripTail = Some (plain (one_text (of_text StripTail)))
text_row AToI = Some (plain (one_text (of_text AToI)))
text_row IntToStr = Some (plain (one_number in_decimal))
text_row CharToInt = Some (plain (one_text (of_text CharToInt)))
text_row IntToChar = Some (plain (one_integer character))
text_row _ = None
