-- Sources with the words or the refusal that they are to give.
use Rattle.std.specs.Prelude.{◌≡◌, ℕ, pos, negsuc, List, [], ◌∷◌, Option, Some, None, Result, Ok, Err, codes, refl, if◌then◌else◌}
use Rattle.std.specs.Ordering.{int_eq}
use Rattle.muck_model.specs.declared.dbref.Dbref.{Dbref}
use Rattle.muf_token.specs.declared.fault.FaultKind.{FaultKind}
use Rattle.muf_token.specs.declared.fault.FaultKind.TheVariants.{OpenString, OpenComment, BadDirective, EndlessDefs, BadNumber, UnknownInclude}
use Rattle.muf_token.specs.declared.fault.Refusal.{Refusal}
use Rattle.muf_token.specs.declared.token.Token.{Token}
use Rattle.muf_token.specs.declared.token.TokenKind.{TokenKind}
use Rattle.muf_token.specs.declared.token.TokenKind.TheVariants.{Word, Text, Number, Ref, Address}
use Rattle.muf_token.specs.declared.includes.Definition.{Definition}
use Rattle.muf_token.specs.Pieces.{piece_ahead, source_pieces}
use Rattle.muf_token.specs.Numbers.{token_kind}
use Rattle.muf_token.specs.Output.{words_most, uses_most}
use Rattle.muf_token.specs.Expansion.{expanded}
use Rattle.muf_token.specs.Directives.{directive_of, body_at}
use Rattle.muf_token.specs.Source.{depth_most, piece_stepped, words_from, words}

-- object 7 lends two definitions, and no other object is there
abbrev lent : Dbref → Option (List Definition)
lent d =
    if int_eq d.0 (pos 7) then Some (record { name = codes "Two"; text = codes "1 one" } ∷ record { name = codes "ONE"; text = codes "\"a\\rb\"" } ∷ [])
    else None

abbrev read : List (List ℕ) → Result (List Token) Refusal
read lines = words lent lines

abbrev at : ℕ → TokenKind → Token
at line kind = record { line = line; kind = kind }

abbrev fault : ℕ → FaultKind → Result (List Token) Refusal
fault line kind = Err (record { line = line; kind = kind })

plain_row : read (codes ": Main pop ;" ∷ []) ≡ Ok (at 1 (Word (codes ":")) ∷ at 1 (Word (codes "main")) ∷ at 1 (Word (codes "pop")) ∷ at 1 (Word (codes ";")) ∷ [])
unfolding piece_ahead source_pieces token_kind words_most uses_most expanded directive_of body_at depth_most piece_stepped words_from words
plain_row = refl

open_text_row : read (codes ": main \"abc" ∷ []) ≡ fault 1 OpenString
unfolding piece_ahead source_pieces token_kind words_most uses_most expanded directive_of body_at depth_most piece_stepped words_from words
open_text_row = refl

cycle_row : read (codes "$def a a" ∷ codes ": main a ;" ∷ []) ≡ fault 2 EndlessDefs
unfolding piece_ahead source_pieces token_kind words_most uses_most expanded directive_of body_at depth_most piece_stepped words_from words
cycle_row = refl

comment_row : read (codes "( a ( b ) c )" ∷ codes "(d" ∷ codes "e)f" ∷ []) ≡ Ok (at 1 (Word (codes "c")) ∷ at 1 (Word (codes ")")) ∷ at 3 (Word (codes "f")) ∷ [])
unfolding piece_ahead source_pieces token_kind words_most uses_most expanded directive_of body_at depth_most piece_stepped words_from words
comment_row = refl

open_comment_row : read (codes "a (b" ∷ codes "c" ∷ []) ≡ fault 1 OpenComment
unfolding piece_ahead source_pieces token_kind words_most uses_most expanded directive_of body_at depth_most piece_stepped words_from words
open_comment_row = refl

text_row : read (codes "\"a\\r\\\"\\b\"7" ∷ []) ≡ Ok (at 1 (Text (97 ∷ 13 ∷ 34 ∷ 98 ∷ [])) ∷ at 1 (Number (pos 7)) ∷ [])
unfolding piece_ahead source_pieces token_kind words_most uses_most expanded directive_of body_at depth_most piece_stepped words_from words
text_row = refl

cut_text_row : read (codes "\"a\\" ∷ []) ≡ fault 1 OpenString
unfolding piece_ahead source_pieces token_kind words_most uses_most expanded directive_of body_at depth_most piece_stepped words_from words
cut_text_row = refl

number_row : read (codes "007 -0 - #-1 # 'F ' +5" ∷ []) ≡ Ok (at 1 (Number (pos 7)) ∷ at 1 (Number (pos 0)) ∷ at 1 (Word (codes "-")) ∷ at 1 (Ref (record { 0 = negsuc 0 })) ∷ at 1 (Word (codes "#")) ∷ at 1 (Address (codes "f")) ∷ at 1 (Word (39 ∷ [])) ∷ at 1 (Word (codes "+5")) ∷ [])
unfolding piece_ahead source_pieces token_kind words_most uses_most expanded directive_of body_at depth_most piece_stepped words_from words
number_row = refl

range_row : read (codes "2147483647 -2147483648" ∷ []) ≡ Ok (at 1 (Number (pos 2147483647)) ∷ at 1 (Number (negsuc 2147483647)) ∷ [])
unfolding piece_ahead source_pieces token_kind words_most uses_most expanded directive_of body_at depth_most piece_stepped words_from words
range_row = refl

beyond_row : read (codes "1" ∷ codes "2147483648" ∷ []) ≡ fault 2 BadNumber
unfolding piece_ahead source_pieces token_kind words_most uses_most expanded directive_of body_at depth_most piece_stepped words_from words
beyond_row = refl

below_row : read (codes "#-2147483649" ∷ []) ≡ fault 1 BadNumber
unfolding piece_ahead source_pieces token_kind words_most uses_most expanded directive_of body_at depth_most piece_stepped words_from words
below_row = refl

again_row : read (codes "$def one 1" ∷ codes "$define two one" ∷ codes "  one $enddef two 2" ∷ []) ≡ Ok (at 3 (Number (pos 1)) ∷ at 3 (Number (pos 1)) ∷ at 3 (Number (pos 2)) ∷ [])
unfolding piece_ahead source_pieces token_kind words_most uses_most expanded directive_of body_at depth_most piece_stepped words_from words
again_row = refl

number_name_row : read (codes "$def 5 6" ∷ codes "5 a\"b c(d" ∷ []) ≡ Ok (at 2 (Number (pos 6)) ∷ at 2 (Word (codes "a\"b")) ∷ at 2 (Word (codes "c(d")) ∷ [])
unfolding piece_ahead source_pieces token_kind words_most uses_most expanded directive_of body_at depth_most piece_stepped words_from words
number_name_row = refl

undef_row : read (codes "$def a 1" ∷ codes "$def A 2" ∷ codes "a $undef a a $undef a" ∷ []) ≡ Ok (at 3 (Number (pos 2)) ∷ at 3 (Word (codes "a")) ∷ [])
unfolding piece_ahead source_pieces token_kind words_most uses_most expanded directive_of body_at depth_most piece_stepped words_from words
undef_row = refl

ifdef_row : read (codes "$def a" ∷ codes "$ifdef a 1 $else 2 $endif $ifndef a 3 $else 4 $endif" ∷ []) ≡ Ok (at 2 (Number (pos 1)) ∷ at 2 (Number (pos 4)) ∷ [])
unfolding piece_ahead source_pieces token_kind words_most uses_most expanded directive_of body_at depth_most piece_stepped words_from words
ifdef_row = refl

undefined_row : read (codes "$ifdef a 1 $ifdef b $else $def $endif 99999999999 $else 2 $endif" ∷ []) ≡ Ok (at 1 (Number (pos 2)) ∷ [])
unfolding piece_ahead source_pieces token_kind words_most uses_most expanded directive_of body_at depth_most piece_stepped words_from words
undefined_row = refl

second_else_row : read (codes "$ifdef a $else" ∷ codes "$else $endif" ∷ []) ≡ fault 2 BadDirective
unfolding piece_ahead source_pieces token_kind words_most uses_most expanded directive_of body_at depth_most piece_stepped words_from words
second_else_row = refl

no_endif_row : read (codes "" ∷ codes "$ifdef a" ∷ codes "$ifdef b $endif" ∷ []) ≡ fault 2 BadDirective
unfolding piece_ahead source_pieces token_kind words_most uses_most expanded directive_of body_at depth_most piece_stepped words_from words
no_endif_row = refl

no_enddef_row : read (codes "$define a" ∷ codes "b" ∷ []) ≡ fault 1 BadDirective
unfolding piece_ahead source_pieces token_kind words_most uses_most expanded directive_of body_at depth_most piece_stepped words_from words
no_enddef_row = refl

late_fault_row : read (codes "$ifdef a" ∷ codes "\"b" ∷ []) ≡ fault 2 OpenString
unfolding piece_ahead source_pieces token_kind words_most uses_most expanded directive_of body_at depth_most piece_stepped words_from words
late_fault_row = refl

stray_row : read (codes "a $endif" ∷ []) ≡ fault 1 BadDirective
unfolding piece_ahead source_pieces token_kind words_most uses_most expanded directive_of body_at depth_most piece_stepped words_from words
stray_row = refl

unknown_row : read (codes "$fine" ∷ []) ≡ fault 1 BadDirective
unfolding piece_ahead source_pieces token_kind words_most uses_most expanded directive_of body_at depth_most piece_stepped words_from words
unknown_row = refl

inner_row : read (codes "$def a $def b" ∷ codes "a" ∷ []) ≡ fault 2 BadDirective
unfolding piece_ahead source_pieces token_kind words_most uses_most expanded directive_of body_at depth_most piece_stepped words_from words
inner_row = refl

unused_row : read (codes "$def a \"b" ∷ codes "$def c (d" ∷ codes "1" ∷ []) ≡ Ok (at 3 (Number (pos 1)) ∷ [])
unfolding piece_ahead source_pieces token_kind words_most uses_most expanded directive_of body_at depth_most piece_stepped words_from words
unused_row = refl

used_row : read (codes "$def a \"b" ∷ codes "1" ∷ codes "a" ∷ []) ≡ fault 3 OpenString
unfolding piece_ahead source_pieces token_kind words_most uses_most expanded directive_of body_at depth_most piece_stepped words_from words
used_row = refl

named_text_row : read (codes "$def \"a\" b" ∷ []) ≡ fault 1 BadDirective
unfolding piece_ahead source_pieces token_kind words_most uses_most expanded directive_of body_at depth_most piece_stepped words_from words
named_text_row = refl

include_row : read (codes "$include #7 two" ∷ []) ≡ Ok (at 1 (Number (pos 1)) ∷ at 1 (Text (97 ∷ 13 ∷ 98 ∷ [])) ∷ [])
unfolding piece_ahead source_pieces token_kind words_most uses_most expanded directive_of body_at depth_most piece_stepped words_from words
include_row = refl

unknown_include_row : read (codes "$include" ∷ codes "#8" ∷ []) ≡ fault 1 UnknownInclude
unfolding piece_ahead source_pieces token_kind words_most uses_most expanded directive_of body_at depth_most piece_stepped words_from words
unknown_include_row = refl

include_name_row : read (codes "$include me" ∷ []) ≡ fault 1 BadDirective
unfolding piece_ahead source_pieces token_kind words_most uses_most expanded directive_of body_at depth_most piece_stepped words_from words
include_name_row = refl
