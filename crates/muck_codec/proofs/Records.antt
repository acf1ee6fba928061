-- Records: what is read is spelled so, and what is spelled so is read.
use Rattle.std.proofs.Common.{◌≡◌, ℕ, ℤ, zero, suc, ◌^◌, ◌<◌, ◌≤◌, Bool, true, false, cond, ltb, List, [], ◌∷◌, ◌++◌, length, Option, Some, None, is_none, Result, Ok, Err, pos, refl, sym, ap, subst, ◌∙◌, arith, length-append}
use Rattle.std.specs.Prelude.{FitsSigned, bytes_eq, IfOk}
use Rattle.std.specs.Int.{w16, w32, w64, to_be_bytes, cast_unsigned}
use Rattle.std.specs.Ordering.{int_eq}
use Rattle.std.proofs.lemmas.Bool.{and_parts, and_from, cond-true, cond-false}
use Rattle.muck_laws.proofs.Results.{guard_ok, test_ok}
use Rattle.muck_laws.proofs.Texts.{bytes_equal, same_bytes}
use Rattle.muck_model.specs.Bytes.{lines_most, text_most}
use Rattle.muck_model.specs.declared.dbref.Dbref.{Dbref}
use Rattle.muck_prop.specs.Paths.{IsPath, path_text, path_fault, segments_of, is_filled}
use Rattle.muck_prop.specs.declared.path.PropFault.{PropFault}
use Rattle.muck_prop.specs.declared.value.PropValue.{PropValue}
use Rattle.muck_prop.specs.declared.value.PropValue.TheVariants.{Text, Number}
use Rattle.muck_prop.proofs.Reading.{read_is_path}
use Rattle.muck_prop.proofs.Writing.{text_is_text, text_reads}
use Rattle.muck_codec.specs.declared.stored.Stored.{Stored}
use Rattle.muck_codec.specs.declared.stored.Property.{Property}
use Rattle.muck_codec.specs.declared.record.Head.{Head}
use Rattle.muck_codec.specs.declared.record.Ties.{Ties}
use Rattle.muck_codec.specs.declared.record.Lists.{Lists}
use Rattle.muck_codec.specs.declared.record.Texts.{Texts}
use Rattle.muck_codec.specs.Reading.{◌>>=◌, both_read, count_then_items, byte_at, number_at, dbref_at, short_at, text_at}
use Rattle.muck_codec.specs.Records.{kind_at, flags_at, head_of, record_head_at, ties_of, ties_at, lists_of, lists_at, rises, spells, path_at, tags_in, integer_at, tagged, value_read_at, property_of, property_at, properties_at, line_at, source_lines_at, record_texts, texts_at, stored_from_parts, record_at, IsTaken}
use Rattle.muck_codec.specs.Spelling.{dbref_bytes, kind_byte, text_bytes, value_bytes, property_bytes, head_bytes, ties_bytes, lists_bytes, properties_bytes, lines_bytes, texts_bytes, spelling}
use Rattle.muck_codec.specs.declared.fault.CodecFault.{CodecFault}
use Rattle.muck_codec.specs.declared.fault.CodecFault.TheVariants.{BadRecord, NoMemory}
use Rattle.muck_codec.specs.inner.Stored.{IsSpelled, Takes as IsIt}
use Rattle.muck_codec.specs.inner.Stored.{IsDbref, IsText, IsValue, IsProperty, AreProperties, IsLine, AreLines, IsStored}
use Rattle.muck_codec.proofs.Codes.{IsBytes, bytes_rest, bind_ok, ok_is, Takes, Codes, both_codes, mapped_codes, counted_codes}
use Rattle.muck_codec.proofs.Fields.{dbref_with, byte_codes, codes64, dbref_codes, flags_codes, kind_codes, short_codes, text_codes}

-- Paths.

none_is : (o : Option PropFault) → is_none o ≡ true → o ≡ None
none_is None e = refl
none_is (Some fault) e = absurd cc

filled_long : (s : List ℕ) → is_filled s ≡ true → 1 ≤ length s
filled_long [] e = absurd cc
filled_long (b ∷ s) e = omega arith

path_long : (p : List (List ℕ)) → IsPath p → 1 ≤ length (path_text p)
path_long [] is = absurd (omega (arith, is.some))
path_long (s ∷ []) is = filled_long s is.each.0.filled
path_long (s ∷ t ∷ p) is = omega (arith, filled_long s is.each.0.filled, length-append s (47 ∷ path_text (t ∷ p)))

module _ (before : Option (List (List ℕ))) where
  abbrev pub IsNext : List (List ℕ) → Type 0
  IsNext p = IsPath p × (rises before p ≡ true)

  abbrev pub path_bytes : List (List ℕ) → List ℕ
  path_bytes p = text_bytes (path_text p)

  path_takes : (bytes rest : List ℕ) (p : List (List ℕ)) → IsBytes bytes → path_at before bytes ≡ Ok (p, rest) → Takes bytes (path_bytes p) rest × IsNext p
  unfolding path_at
  path_takes bytes rest p fits e =
      let made : List (List ℕ) × List ℕ = (p, rest) in
      let a = bind_ok (text_at 1 128 bytes) (λ text. cond (spells before text.0) (Ok (segments_of text.0, text.1)) (Err (suc (length text.1)))) made e in
      let text = a.0.0 in
      let one = (text_codes 1 128 (omega arith)).takes bytes a.0.1 text fits a.1 in
      let whole : List (List ℕ) × List ℕ = (segments_of text, a.0.1) in
      let t = test_ok (spells before text) (suc (length a.0.1)) whole made a.2 in
      let first = and_parts (is_none (path_fault text)) _ t.0 in
      let second = and_parts (bytes_eq (path_text (segments_of text)) text) _ first.1 in
      let same : path_text (segments_of text) ≡ text = same_bytes _ _ second.0 in
      subst (λ (y : List (List ℕ) × List ℕ). Takes bytes (text_bytes (path_text y.0)) y.1 × (IsPath y.0 × (rises before y.0 ≡ true))) t.1
      (subst (λ l. Takes bytes (text_bytes l) a.0.1) (sym same) one.0, (read_is_path text (segments_of text) refl one.1.1 (none_is (path_fault text) first.0), second.1))

  path_again : (p : List (List ℕ)) (rest : List ℕ) → IsNext p → path_at before (path_bytes p ++ rest) ≡ Ok (p, rest)
  unfolding path_at
  path_again p rest rule =
      let reads = text_reads p rule.0 in
      let text : text_at 1 128 (text_bytes (path_text p) ++ rest) ≡ Ok (path_text p, rest) = (text_codes 1 128 (omega arith)).again (path_text p) rest ((path_long p rule.0, rule.0.short), text_is_text p rule.0) in
      let spelled : spells before (path_text p) ≡ true = and_from _ _ (ap is_none reads.fine)
      (and_from _ _ (bytes_equal _ _ (ap path_text reads.holds)) (ap (rises before) reads.holds ∙ rule.1)) in
      ap (λ r. r >>= λ t. cond (spells before t.0) (Ok (segments_of t.0, t.1)) (Err (suc (length t.1)))) text
      ∙ cond-true (spells before (path_text p)) _ _ spelled ∙ ap (λ q. Ok (q, rest)) reads.holds

  pub path_codes : Codes (path_at before) path_bytes IsNext
  path_codes = record { takes = path_takes; again = path_again }

-- Values, in version 1.

abbrev number_if : Dbref × List ℕ → Result (PropValue × List ℕ) ℕ
number_if d = cond (int_eq d.0.0 (pos 0)) (Err (suc (length d.1))) (Ok (Number d.0.0, d.1))

abbrev with_dbref : ℕ × List ℕ → Result (Dbref × List ℕ) ℕ
with_dbref n = Ok (dbref_with n.0, n.1)

as_dbref : (r : Result (ℕ × List ℕ) ℕ) (y : PropValue × List ℕ) → (r >>= λ n. number_if (dbref_with n.0, n.1)) ≡ Ok y → ((r >>= with_dbref) >>= number_if) ≡ Ok y
as_dbref (Ok n) y h = h
as_dbref (Err left) y h = absurd cc

from_dbref : (r : Result (ℕ × List ℕ) ℕ) (d : Dbref × List ℕ) → (r >>= with_dbref) ≡ Ok d → (r >>= λ n. number_if (dbref_with n.0, n.1)) ≡ number_if d
from_dbref (Ok n) d h =
    let whole : Dbref × List ℕ = (dbref_with n.0, n.1) in
    ap number_if (ok_is whole d h)
from_dbref (Err left) d h = absurd cc

integer_takes : (bytes rest : List ℕ) (v : PropValue) → IsBytes bytes → integer_at bytes ≡ Ok (v, rest) → Takes (1 ∷ bytes) (value_bytes v) rest × IsValue v
unfolding integer_at
integer_takes bytes rest v fits e =
    let made : PropValue × List ℕ = (v, rest) in
    let a = bind_ok (dbref_at bytes) number_if made (as_dbref (number_at w32 bytes) made e) in
    let one = dbref_codes.takes bytes a.0.1 a.0.0 fits a.1 in
    let whole : PropValue × List ℕ = (Number a.0.0.0, a.0.1) in
    let g = guard_ok (int_eq a.0.0.0 (pos 0)) (suc (length a.0.1)) whole made a.2 in
    subst (λ (y : PropValue × List ℕ). Takes (1 ∷ bytes) (value_bytes y.0) y.1 × IsValue y.0) g.1
    (record { parts = ap (λ l. 1 ∷ l) one.0.parts; rest_fits = one.0.rest_fits }, (one.1, g.0))

integer_again : (n : ℤ) (rest : List ℕ) → FitsSigned w32 n → int_eq n (pos 0) ≡ false → integer_at (to_be_bytes w32 (cast_unsigned w32 n) ++ rest) ≡ Ok (Number n, rest)
unfolding integer_at
integer_again n rest fits some =
    let d : Dbref = record { 0 = n } in
    let pair : Dbref × List ℕ = (d, rest) in
    from_dbref (number_at w32 (to_be_bytes w32 (cast_unsigned w32 n) ++ rest)) pair (dbref_codes.again d rest fits) ∙ cond-false (int_eq n (pos 0)) _ _ some

tagged_takes : (tag : ℕ) (bytes rest : List ℕ) (v : PropValue) → IsBytes bytes → tagged tag bytes ≡ Ok (v, rest) → Takes (tag ∷ bytes) (value_bytes v) rest × IsValue v
tagged_takes zero bytes rest v fits e =
    let made : PropValue × List ℕ = (v, rest) in
    let a = bind_ok (text_at 1 text_most bytes) (λ text. Ok (Text text.0, text.1)) made e in
    let one = (text_codes 1 text_most (omega arith)).takes bytes a.0.1 a.0.0 fits a.1 in
    let whole : PropValue × List ℕ = (Text a.0.0, a.0.1) in
    subst (λ (y : PropValue × List ℕ). Takes (0 ∷ bytes) (value_bytes y.0) y.1 × IsValue y.0) (ok_is whole made a.2)
    (record { parts = ap (λ l. 0 ∷ l) one.0.parts; rest_fits = one.0.rest_fits }, one.1)
tagged_takes (suc zero) bytes rest v fits e = integer_takes bytes rest v fits e
tagged_takes (suc (suc tag)) bytes rest v fits e = absurd cc

value_takes : (bytes rest : List ℕ) (v : PropValue) → IsBytes bytes → value_read_at 1 bytes ≡ Ok (v, rest) → Takes bytes (value_bytes v) rest × IsValue v
unfolding value_read_at
value_takes [] rest v fits e = absurd cc
value_takes (tag ∷ bytes) rest v fits e = tagged_takes tag bytes rest v (bytes_rest tag bytes fits) (picked (ltb tag (tags_in 1)) e)
  where
    picked : (b : Bool) → cond b (tagged tag bytes) (Err (suc (length bytes))) ≡ Ok (v, rest) → tagged tag bytes ≡ Ok (v, rest)
    picked true h = h
    picked false h = absurd cc

value_again : (v : PropValue) (rest : List ℕ) → IsValue v → value_read_at 1 (value_bytes v ++ rest) ≡ Ok (v, rest)
unfolding value_read_at tags_in
value_again (Text text) rest rule = ap (λ r. r >>= λ t. Ok (Text t.0, t.1)) ((text_codes 1 text_most (omega arith)).again text rest rule)
value_again (Number n) rest rule = integer_again n rest rule.0 rule.1

pub value_codes : Codes (value_read_at 1) value_bytes IsValue
value_codes = record { takes = value_takes; again = value_again }

-- Properties and lines.

property_codes : (before : Option (List (List ℕ))) → Codes (property_at 1 before) property_bytes (IsProperty before)
unfolding property_at
property_codes before = mapped_codes property_of (both_read (path_at before) (value_read_at 1)) (λ x. text_bytes (path_text x.0) ++ value_bytes x.1) property_bytes
    (λ x. (IsPath x.0 × (rises before x.0 ≡ true)) × IsValue x.1) (IsProperty before) (λ x rule. refl) (λ x rule. rule) (λ p rule. ((p.path, p.value), refl, rule))
    (both_codes (path_at before) (value_read_at 1) (λ p. text_bytes (path_text p)) value_bytes (λ p. IsPath p × (rises before p ≡ true)) IsValue (path_codes before) value_codes)

abbrev path_key : Property → List (List ℕ)
path_key p = p.path

abbrev line_key : List ℕ → List ℕ
line_key line = line

properties_codes : Codes (count_then_items (number_at w64) (properties_at 1)) properties_bytes AreProperties
unfolding properties_bytes
properties_codes = counted_codes path_key (property_at 1) property_bytes IsProperty property_codes (number_at w64) (to_be_bytes w64) (λ n. n < 2 ^ 64) codes64

line_codes : (before : Option (List ℕ)) → Codes (line_at before) text_bytes (IsLine before)
line_codes before = record { takes = (text_codes 0 text_most (omega arith)).takes; again = (text_codes 0 text_most (omega arith)).again }

lines_codes : Codes (count_then_items (short_at 0 lines_most) source_lines_at) lines_bytes AreLines
unfolding lines_bytes
lines_codes = counted_codes line_key line_at text_bytes IsLine line_codes (short_at 0 lines_most) (to_be_bytes w16) (λ n. (0 ≤ n) × (n ≤ lines_most)) (short_codes 0 text_most (omega arith))

-- The record.

abbrev HeadRule : Head → Type 0
HeadRule h = IsDbref h.dbref × (Unit {0} × ((h.flags.0 < 2 ^ 16) × (h.level < 2 ^ 8)))

abbrev head_spelled : Head → List ℕ
head_spelled h = dbref_bytes h.dbref ++ ((kind_byte h.kind ∷ []) ++ (to_be_bytes w16 h.flags.0 ++ h.level ∷ []))

head_codes : Codes record_head_at head_spelled HeadRule
unfolding record_head_at
head_codes = mapped_codes head_of (both_read dbref_at (both_read kind_at (both_read flags_at byte_at)))
    (λ x. dbref_bytes x.0 ++ ((kind_byte x.1.0 ∷ []) ++ (to_be_bytes w16 x.1.1.0.0 ++ x.1.1.1 ∷ []))) head_spelled
    (λ x. IsDbref x.0 × (Unit {0} × ((x.1.1.0.0 < 2 ^ 16) × (x.1.1.1 < 2 ^ 8)))) HeadRule (λ x rule. refl) (λ x rule. rule) (λ h rule. ((h.dbref, (h.kind, (h.flags, h.level))), refl, rule))
    (both_codes dbref_at (both_read kind_at (both_read flags_at byte_at)) dbref_bytes (λ x. (kind_byte x.0 ∷ []) ++ (to_be_bytes w16 x.1.0.0 ++ x.1.1 ∷ [])) IsDbref (λ x. Unit {0} × ((x.1.0.0 < 2 ^ 16) × (x.1.1 < 2 ^ 8))) dbref_codes
    (both_codes kind_at (both_read flags_at byte_at) (λ k. kind_byte k ∷ []) (λ x. to_be_bytes w16 x.0.0 ++ x.1 ∷ []) (λ k. Unit {0}) (λ x. (x.0.0 < 2 ^ 16) × (x.1 < 2 ^ 8)) kind_codes
    (both_codes flags_at byte_at (λ flags. to_be_bytes w16 flags.0) (λ b. b ∷ []) (λ flags. flags.0 < 2 ^ 16) (λ b. b < 2 ^ 8) flags_codes byte_codes)))

two_dbrefs : Codes (both_read dbref_at dbref_at) (λ x. dbref_bytes x.0 ++ dbref_bytes x.1) (λ x. IsDbref x.0 × IsDbref x.1)
two_dbrefs = both_codes dbref_at dbref_at dbref_bytes dbref_bytes IsDbref IsDbref dbref_codes dbref_codes

three_dbrefs : Codes (both_read dbref_at (both_read dbref_at dbref_at)) (λ x. dbref_bytes x.0 ++ (dbref_bytes x.1.0 ++ dbref_bytes x.1.1)) (λ x. IsDbref x.0 × (IsDbref x.1.0 × IsDbref x.1.1))
three_dbrefs = both_codes dbref_at (both_read dbref_at dbref_at) dbref_bytes (λ x. dbref_bytes x.0 ++ dbref_bytes x.1) IsDbref (λ x. IsDbref x.0 × IsDbref x.1) dbref_codes two_dbrefs

abbrev TiesRule : Ties → Type 0
TiesRule t = IsDbref t.owner × (IsDbref t.place × (IsDbref t.link × IsDbref t.home))

abbrev ties_spelled : Ties → List ℕ
ties_spelled t = dbref_bytes t.owner ++ (dbref_bytes t.place ++ (dbref_bytes t.link ++ dbref_bytes t.home))

ties_codes : Codes ties_at ties_spelled TiesRule
unfolding ties_at
ties_codes = mapped_codes ties_of (both_read dbref_at (both_read dbref_at (both_read dbref_at dbref_at)))
    (λ x. dbref_bytes x.0 ++ (dbref_bytes x.1.0 ++ (dbref_bytes x.1.1.0 ++ dbref_bytes x.1.1.1))) ties_spelled
    (λ x. IsDbref x.0 × (IsDbref x.1.0 × (IsDbref x.1.1.0 × IsDbref x.1.1.1))) TiesRule (λ x rule. refl) (λ x rule. rule) (λ t rule. ((t.owner, (t.place, (t.link, t.home))), refl, rule))
    (both_codes dbref_at (both_read dbref_at (both_read dbref_at dbref_at)) dbref_bytes (λ x. dbref_bytes x.0 ++ (dbref_bytes x.1.0 ++ dbref_bytes x.1.1)) IsDbref (λ x. IsDbref x.0 × (IsDbref x.1.0 × IsDbref x.1.1)) dbref_codes three_dbrefs)

abbrev ListsRule : Lists → Type 0
ListsRule l = IsDbref l.first_content × (IsDbref l.first_exit × IsDbref l.next)

abbrev lists_spelled : Lists → List ℕ
lists_spelled l = dbref_bytes l.first_content ++ (dbref_bytes l.first_exit ++ dbref_bytes l.next)

lists_codes : Codes lists_at lists_spelled ListsRule
unfolding lists_at
lists_codes = mapped_codes lists_of (both_read dbref_at (both_read dbref_at dbref_at))
    (λ x. dbref_bytes x.0 ++ (dbref_bytes x.1.0 ++ dbref_bytes x.1.1)) lists_spelled
    (λ x. IsDbref x.0 × (IsDbref x.1.0 × IsDbref x.1.1)) ListsRule (λ x rule. refl) (λ x rule. rule) (λ l rule. ((l.first_content, (l.first_exit, l.next)), refl, rule)) three_dbrefs

abbrev TextsRule : Texts → Type 0
TextsRule t = IsText 0 text_most t.name × (AreProperties t.props × (AreLines t.lines × IsText 0 text_most t.digest))

abbrev texts_spelled : Texts → List ℕ
texts_spelled t = text_bytes t.name ++ (properties_bytes t.props ++ (lines_bytes t.lines ++ text_bytes t.digest))

abbrev properties_part : List ℕ → Result (List Property × List ℕ) ℕ
properties_part bytes = count_then_items (number_at w64) (properties_at 1) bytes

abbrev lines_part : List ℕ → Result (List (List ℕ) × List ℕ) ℕ
lines_part bytes = count_then_items (short_at 0 lines_most) source_lines_at bytes

texts_codes : Codes (texts_at 1) texts_spelled TextsRule
unfolding texts_at
texts_codes = mapped_codes record_texts (both_read (text_at 0 text_most) (both_read properties_part (both_read lines_part (text_at 0 text_most))))
    (λ x. text_bytes x.0 ++ (properties_bytes x.1.0 ++ (lines_bytes x.1.1.0 ++ text_bytes x.1.1.1))) texts_spelled
    (λ x. IsText 0 text_most x.0 × (AreProperties x.1.0 × (AreLines x.1.1.0 × IsText 0 text_most x.1.1.1))) TextsRule (λ x rule. refl) (λ x rule. rule) (λ t rule. ((t.name, (t.props, (t.lines, t.digest))), refl, rule))
    (both_codes (text_at 0 text_most) (both_read properties_part (both_read lines_part (text_at 0 text_most))) text_bytes (λ x. properties_bytes x.0 ++ (lines_bytes x.1.0 ++ text_bytes x.1.1)) (IsText 0 text_most) (λ x. AreProperties x.0 × (AreLines x.1.0 × IsText 0 text_most x.1.1)) (text_codes 0 text_most (omega arith))
    (both_codes properties_part (both_read lines_part (text_at 0 text_most)) properties_bytes (λ x. lines_bytes x.0 ++ text_bytes x.1) AreProperties (λ x. AreLines x.0 × IsText 0 text_most x.1) properties_codes
    (both_codes lines_part (text_at 0 text_most) lines_bytes text_bytes AreLines (IsText 0 text_most) lines_codes (text_codes 0 text_most (omega arith)))))

abbrev parts_of : Stored → Head × (Ties × (Lists × Texts))
parts_of o = (
  record { dbref = o.dbref; kind = o.kind; flags = o.flags; level = o.level },
  (
    record { owner = o.owner; place = o.place; link = o.link; home = o.home },
    (record { first_content = o.first_content; first_exit = o.first_exit; next = o.next }, record { name = o.name; props = o.props; lines = o.lines; digest = o.digest }),
  ),
)

abbrev Parts : Type 0
Parts = Head × (Ties × (Lists × Texts))

abbrev PartsRule : Parts → Type 0
PartsRule x = HeadRule x.0 × (TiesRule x.1.0 × (ListsRule x.1.1.0 × TextsRule x.1.1.1))

stored_rule : (x : Parts) → PartsRule x → IsStored (stored_from_parts x)
stored_rule x rule = record {
  dbref = rule.0.0;
  flags = rule.0.1.1.0;
  level = rule.0.1.1.1;
  ties = rule.1.0;
  lists = rule.1.1.0;
  name = rule.1.1.1.0;
  props = rule.1.1.1.1.0;
  lines = rule.1.1.1.1.1.0;
  digest = rule.1.1.1.1.1.1;
}

parts_rule : (o : Stored) → IsStored o → PartsRule (parts_of o)
parts_rule o is = ((is.dbref, (tt, (is.flags, is.level))), (is.ties, (is.lists, (is.name, (is.props, (is.lines, is.digest))))))

pub record_codes : Codes (record_at 1) spelling IsStored
unfolding record_at spelling head_bytes ties_bytes lists_bytes texts_bytes
record_codes = mapped_codes stored_from_parts (both_read record_head_at (both_read ties_at (both_read lists_at (texts_at 1))))
    (λ x. head_spelled x.0 ++ (ties_spelled x.1.0 ++ (lists_spelled x.1.1.0 ++ texts_spelled x.1.1.1))) spelling PartsRule IsStored
    (λ x rule. refl) stored_rule (λ o is. (parts_of o, refl, parts_rule o is))
    (both_codes record_head_at (both_read ties_at (both_read lists_at (texts_at 1))) head_spelled (λ x. ties_spelled x.0 ++ (lists_spelled x.1.0 ++ texts_spelled x.1.1)) HeadRule (λ x. TiesRule x.0 × (ListsRule x.1.0 × TextsRule x.1.1)) head_codes
    (both_codes ties_at (both_read lists_at (texts_at 1)) ties_spelled (λ x. lists_spelled x.0 ++ texts_spelled x.1) TiesRule (λ x. ListsRule x.0 × TextsRule x.1) ties_codes
    (both_codes lists_at (texts_at 1) lists_spelled texts_spelled ListsRule TextsRule lists_codes texts_codes)))

-- The answers of `take_record`.

pub is_spelled : (version : ℕ) (bytes : List ℕ) (r : Result (Stored × ℕ) CodecFault) → version ≡ 1 → IsBytes bytes → IsTaken version bytes r → IfOk r (λ taken. IsSpelled taken.0 taken.1 bytes)
is_spelled version bytes (Err fault) one fits taken = tt
is_spelled version bytes (Ok (o, n)) one fits taken =
    let both = record_codes.takes bytes taken.0 o fits (subst (λ v. record_at v bytes ≡ Ok (o, taken.0)) one taken.1) in
    record {
      rest = taken.0;
      parts = both.0.parts;
      size = omega (arith, taken.2, ap length both.0.parts, length-append (spelling o) taken.0);
      fits = both.1;
    }

abbrev read_ok : Stored × List ℕ → Result (Stored × List ℕ) ℕ
read_ok y = Ok y

reads : (version : ℕ) (bytes : List ℕ) (o : Stored) (rest : List ℕ) → version ≡ 1 → IsStored o → bytes ≡ spelling o ++ rest → record_at version bytes ≡ Ok (o, rest)
reads version bytes o rest one is spelled = ap (λ v. record_at v bytes) one ∙ ap (record_at 1) spelled ∙ record_codes.again o rest is

pub takes_it : (version : ℕ) (bytes : List ℕ) (r : Result (Stored × ℕ) CodecFault) (o : Stored) (rest : List ℕ) → version ≡ 1 → IsStored o → bytes ≡ spelling o ++ rest → IsTaken version bytes r → IsIt o r
takes_it version bytes (Err NoMemory) o rest one is spelled taken = tt
takes_it version bytes (Err (BadRecord at)) o rest one is spelled taken = absurd (never taken.0 (sym (reads version bytes o rest one is spelled) ∙ taken.1))
  where
    never : (left : ℕ) → read_ok (o, rest) ≡ Err left → ⊥
    never left e = cc
takes_it version bytes (Ok (x, n)) o rest one is spelled taken =
    let same : read_ok (x, taken.0) ≡ read_ok (o, rest) = sym taken.1 ∙ reads version bytes o rest one is spelled in
    let pair = ok_is (x, taken.0) (o, rest) same in
    let rest_is : taken.0 ≡ rest = ap (λ (y : Stored × List ℕ). y.1) pair in
    (ap (λ (y : Stored × List ℕ). y.0) pair, omega (arith, taken.2, ap length spelled, length-append (spelling o) rest, ap length rest_is))
