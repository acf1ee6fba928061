-- The fields of a record: what is read is spelled so, and what is spelled so is read.
use Rattle.std.proofs.Common.{◌≡◌, ℕ, zero, suc, ◌+◌, ◌*◌, ◌^◌, ◌<◌, ◌≤◌, Bool, true, false, cond, ltb, ◌||◌, List, [], ◌∷◌, ◌++◌, length, take, drop, Option, Some, None, Result, Ok, Err, refl, sym, ap, subst, ◌∙◌, append_assoc, arith, length-append, length-take, take-append-drop}
use Rattle.std.specs.Int.{Width, w16, w32, w64, byte_len, from_be_bytes, to_be_bytes, cast_signed, cast_unsigned}
use Rattle.std.proofs.lemmas.Bool.{ne_eqb, ltb-false, le-ltb, or_from, or_parts, cond-false}
use Rattle.std.proofs.lemmas.List.{take_at, drop_at}
use Rattle.std.proofs.lemmas.Nat.{be_bytes_2, be_bytes_4, be_bytes_8, from_be_bytes-to_be_bytes_2, from_be_bytes-to_be_bytes_4, from_be_bytes-to_be_bytes_8}
use Rattle.std.proofs.lemmas.Int.{to_z-of_z, of_z-to_z}
use Rattle.std.proofs.Math.Facts.{sfits_to_z, Fits-of_z, Fits-of_lt}
use Rattle.muck_laws.proofs.Options.{some_is}
use Rattle.muck_laws.proofs.Results.{guard_ok, skip_ok}
use Rattle.muck_model.specs.Bytes.{text_fault}
use Rattle.muck_model.specs.declared.dbref.Dbref.{Dbref}
use Rattle.muck_model.specs.declared.dbref.Flags.{Flags}
use Rattle.muck_model.specs.declared.dbref.Kind.{Kind}
use Rattle.muck_model.specs.declared.dbref.Kind.TheVariants.{Room, Thing, Exit, Player, Program, Garbage}
use Rattle.muck_codec.specs.Reading.{◌>>=◌, byte_at, number_at, dbref_at, short_at, text_if, text_bytes_read, text_at}
use Rattle.muck_codec.specs.Records.{kind_coded, kind_if, kind_at, flags_at}
use Rattle.muck_codec.specs.Spelling.{dbref_bytes, kind_byte, text_bytes}
use Rattle.muck_codec.specs.inner.Stored.{IsDbref, IsText}
use Rattle.muck_codec.proofs.Codes.{IsBytes, bytes_drop, bytes_take, bytes_rest, bind_ok, ok_is, Takes, takes_then, Codes, mapped_codes}

pub byte_codes : Codes byte_at (λ b. b ∷ []) (λ b. b < 2 ^ 8)
byte_codes = record { takes = takes; again = λ x rest rule. refl }
  where
    takes : (bytes rest : List ℕ) (x : ℕ) → IsBytes bytes → byte_at bytes ≡ Ok (x, rest) → Takes bytes (x ∷ []) rest × (x < 2 ^ 8)
    takes [] rest x fits e = absurd cc
    takes (b ∷ bytes) rest x fits e =
        let whole : ℕ × List ℕ = (b, bytes) in
        let made : ℕ × List ℕ = (x, rest) in
        subst (λ (y : ℕ × List ℕ). Takes (b ∷ bytes) (y.0 ∷ []) y.1 × (y.0 < 2 ^ 8)) (ok_is whole made e) (record { parts = refl; rest_fits = bytes_rest b bytes fits }, fits 0)

-- what is known of numbers of one width
record IsWide (w : Width) (limit : ℕ) : Type 0 where
  size : (n : ℕ) → length (to_be_bytes w n) ≡ byte_len w
  back : (bytes : List ℕ) → length bytes ≡ byte_len w → IsBytes bytes → to_be_bytes w (from_be_bytes w bytes) ≡ bytes
  again : (n : ℕ) → n < limit → from_be_bytes w (to_be_bytes w n) ≡ n
  below : (bytes : List ℕ) → IsBytes bytes → from_be_bytes w bytes < limit

wide16 : IsWide w16 (2 ^ 16)
wide16 = record { size = λ n. refl; back = λ bytes size fits. be_bytes_2 bytes _ size fits refl; again = from_be_bytes-to_be_bytes_2; below = λ bytes fits. omega (arith, fits 0, fits 1) }

wide32 : IsWide w32 (2 ^ 32)
wide32 = record { size = λ n. refl; back = λ bytes size fits. be_bytes_4 bytes _ size fits refl; again = from_be_bytes-to_be_bytes_4; below = λ bytes fits. omega (arith, fits 0, fits 1, fits 2, fits 3) }

wide64 : IsWide w64 (2 ^ 64)
wide64 = record { size = λ n. refl; back = λ bytes size fits. be_bytes_8 bytes _ size fits refl; again = from_be_bytes-to_be_bytes_8; below = λ bytes fits. omega (arith, fits 0, fits 1, fits 2, fits 3, fits 4, fits 5, fits 6, fits 7) }

number_codes : (w : Width) (limit : ℕ) → IsWide w limit → Codes (number_at w) (to_be_bytes w) (λ n. n < limit)
number_codes w limit wide = record {
  takes = λ bytes rest n fits e.
      let whole : ℕ × List ℕ = (from_be_bytes w (take (byte_len w) bytes), drop (byte_len w) bytes) in
      let made : ℕ × List ℕ = (n, rest) in
      let g = guard_ok (ltb (length bytes) (byte_len w)) 0 whole made e in
      let long : byte_len w ≤ length bytes = ltb-false _ _ g.0 in
      let front_fits = bytes_take (byte_len w) bytes fits in
      let front : to_be_bytes w (from_be_bytes w (take (byte_len w) bytes)) ≡ take (byte_len w) bytes = wide.back (take (byte_len w) bytes) (omega (arith, length-take (byte_len w) bytes)) front_fits in
      subst (λ (y : ℕ × List ℕ). Takes bytes (to_be_bytes w y.0) y.1 × (y.0 < limit)) g.1
      (record { parts = sym (ap (λ l. l ++ drop (byte_len w) bytes) front ∙ take-append-drop (byte_len w) bytes); rest_fits = bytes_drop (byte_len w) bytes fits }, wide.below (take (byte_len w) bytes) front_fits);
  again = λ n rest lt.
      let size = wide.size n in
      let long : ltb (length (to_be_bytes w n ++ rest)) (byte_len w) ≡ false = le-ltb _ _ (omega (arith, length-append (to_be_bytes w n) rest)) in
      rw (long, take_at (to_be_bytes w n) rest (byte_len w) size, drop_at (to_be_bytes w n) rest (byte_len w) size, wide.again n lt) refl;
}

pub codes16 : Codes (number_at w16) (to_be_bytes w16) (λ n. n < 2 ^ 16)
codes16 = number_codes w16 (2 ^ 16) wide16

pub codes32 : Codes (number_at w32) (to_be_bytes w32) (λ n. n < 2 ^ 32)
codes32 = number_codes w32 (2 ^ 32) wide32

pub codes64 : Codes (number_at w64) (to_be_bytes w64) (λ n. n < 2 ^ 64)
codes64 = number_codes w64 (2 ^ 64) wide64

abbrev pub dbref_with : ℕ → Dbref
dbref_with n = record { 0 = cast_signed w32 n }

pub dbref_codes : Codes dbref_at dbref_bytes IsDbref
dbref_codes = mapped_codes dbref_with (number_at w32) (to_be_bytes w32) dbref_bytes (λ n. n < 2 ^ 32) IsDbref
    (λ n lt. ap (to_be_bytes w32) (of_z-to_z w32 n lt)) (λ n lt. sfits_to_z (Fits-of_lt lt))
    (λ d rule. (cast_unsigned w32 d.0, ap (λ z. record { 0 = z }) (to_z-of_z w32 d.0 rule), omega (arith, Fits-of_z rule))) codes32

abbrev flags_with : ℕ → Flags
flags_with n = record { 0 = n }

pub flags_codes : Codes flags_at (λ flags. to_be_bytes w16 flags.0) (λ flags. flags.0 < 2 ^ 16)
flags_codes = mapped_codes flags_with (number_at w16) (to_be_bytes w16) (λ flags. to_be_bytes w16 flags.0) (λ n. n < 2 ^ 16) (λ flags. flags.0 < 2 ^ 16)
    (λ n lt. refl) (λ n lt. lt) (λ flags lt. (flags.0, refl, lt)) codes16

kind_none : (b : ℕ) → 6 ≤ b → kind_coded b ≡ None
kind_none b le = rw (ne_eqb b 0 (omega arith), ne_eqb b 1 (omega arith), ne_eqb b 2 (omega arith), ne_eqb b 3 (omega arith), ne_eqb b 4 (omega arith), ne_eqb b 5 (omega arith)) refl

none_some : (k : Kind) → None ≡ Some k → ⊥
none_some k e = cc

kind_back : (b : ℕ) (k : Kind) → kind_coded b ≡ Some k → kind_byte k ≡ b
kind_back zero k e = ap kind_byte (sym (some_is Room k e))
kind_back (suc zero) k e = ap kind_byte (sym (some_is Thing k e))
kind_back (suc (suc zero)) k e = ap kind_byte (sym (some_is Exit k e))
kind_back (suc (suc (suc zero))) k e = ap kind_byte (sym (some_is Player k e))
kind_back (suc (suc (suc (suc zero)))) k e = ap kind_byte (sym (some_is Program k e))
kind_back (suc (suc (suc (suc (suc zero))))) k e = ap kind_byte (sym (some_is Garbage k e))
kind_back (suc (suc (suc (suc (suc (suc b)))))) k e = absurd (none_some k (sym (kind_none (suc (suc (suc (suc (suc (suc b)))))) (omega arith)) ∙ e))

kind_from : (o : Option Kind) (bytes rest : List ℕ) (k : Kind) → kind_if o bytes ≡ Ok (k, rest) → (o ≡ Some k) × (bytes ≡ rest)
kind_from (Some x) bytes rest k e =
    let whole : Kind × List ℕ = (x, bytes) in
    let made : Kind × List ℕ = (k, rest) in
    (ap (λ (y : Kind × List ℕ). Some y.0) (ok_is whole made e), ap (λ (y : Kind × List ℕ). y.1) (ok_is whole made e))
kind_from None bytes rest k e = absurd cc

kind_takes : (bytes rest : List ℕ) (x : Kind) → IsBytes bytes → kind_at bytes ≡ Ok (x, rest) → Takes bytes (kind_byte x ∷ []) rest × Unit {0}
unfolding kind_at
kind_takes [] rest x fits e = absurd cc
kind_takes (b ∷ bytes) rest x fits e =
    let is = kind_from (kind_coded b) bytes rest x e in
    (record { parts = ap (λ c. c ∷ bytes) (sym (kind_back b x is.0)) ∙ ap (λ l. kind_byte x ∷ l) is.1; rest_fits = subst IsBytes is.1 (bytes_rest b bytes fits) }, tt)

kind_again : (x : Kind) (rest : List ℕ) → Unit {0} → kind_at ((kind_byte x ∷ []) ++ rest) ≡ Ok (x, rest)
unfolding kind_at
kind_again Room rest t = refl
kind_again Thing rest t = refl
kind_again Exit rest t = refl
kind_again Player rest t = refl
kind_again Program rest t = refl
kind_again Garbage rest t = refl

pub kind_codes : Codes kind_at (λ k. kind_byte k ∷ []) (λ k. Unit {0})
kind_codes = record { takes = kind_takes; again = kind_again }

-- Lengths and texts.

abbrev failed : ℕ → Result (ℕ × List ℕ) ℕ
failed left = Err left

abbrev succeeded : ℕ × List ℕ → Result (ℕ × List ℕ) ℕ
succeeded y = Ok y

two_errs : (b : Bool) (l m : ℕ) (y : ℕ × List ℕ) → cond b (failed l) (failed m) ≡ succeeded y → ⊥
two_errs true l m y e = cc
two_errs false l m y e = cc

module _ (least most : ℕ) (fits16 : most < 2 ^ 16) where
  short_reads : (high low n : ℕ) (rest : List ℕ) → from_be_bytes w16 (high ∷ low ∷ []) ≡ n → least ≤ n → n ≤ most → short_at least most (high ∷ low ∷ rest) ≡ Ok (n, rest)
  short_reads high low n rest is lo hi =
      cond-false (ltb most (256 * high)) _ _ (le-ltb most (256 * high) (omega (arith, is, hi)))
      ∙ cond-false (ltb (from_be_bytes w16 (high ∷ low ∷ [])) least || ltb most (from_be_bytes w16 (high ∷ low ∷ []))) _ _
      (or_from (ltb (from_be_bytes w16 (high ∷ low ∷ [])) least) (ltb most (from_be_bytes w16 (high ∷ low ∷ []))) (le-ltb (from_be_bytes w16 (high ∷ low ∷ [])) least (omega (arith, is, lo))) (le-ltb most (from_be_bytes w16 (high ∷ low ∷ [])) (omega (arith, is, hi))))
      ∙ ap (λ k. Ok (k, rest)) is

  pub short_codes : Codes (short_at least most) (to_be_bytes w16) (λ n. (least ≤ n) × (n ≤ most))
  short_codes = record {
    takes = takes;
    again = λ n rest rule. short_reads _ _ n rest (from_be_bytes-to_be_bytes_2 n (omega (arith, rule.1, fits16))) rule.0 rule.1;
  }
    where
      takes : (bytes rest : List ℕ) (n : ℕ) → IsBytes bytes → short_at least most bytes ≡ Ok (n, rest) → Takes bytes (to_be_bytes w16 n) rest × ((least ≤ n) × (n ≤ most))
      takes [] rest n fits e = absurd cc
      takes (high ∷ []) rest n fits e = absurd (two_errs (ltb most (256 * high)) 1 0 (n, rest) e)
      takes (high ∷ low ∷ bytes) rest n fits e =
          let two = high ∷ low ∷ [] in
          let k = from_be_bytes w16 two in
          let whole : ℕ × List ℕ = (k, bytes) in
          let made : ℕ × List ℕ = (n, rest) in
          let later = skip_ok (ltb most (256 * high)) (2 + length bytes) _ made e in
          let g = guard_ok (ltb k least || ltb most k) (1 + length bytes) whole made later.1 in
          let both = or_parts (ltb k least) (ltb most k) g.0 in
          let front_fits : IsBytes two = bytes_take 2 (high ∷ low ∷ bytes) fits in
          let front : to_be_bytes w16 k ≡ two = be_bytes_2 two k refl front_fits refl in
          subst (λ (y : ℕ × List ℕ). Takes (high ∷ low ∷ bytes) (to_be_bytes w16 y.0) y.1 × ((least ≤ y.0) × (y.0 ≤ most))) g.1
          (record { parts = ap (λ l. l ++ bytes) (sym front); rest_fits = bytes_rest low bytes (bytes_rest high (low ∷ bytes) fits) }, (ltb-false _ _ both.0, ltb-false _ _ both.1))

  text_is : (n : ℕ) (bytes : List ℕ) (o : Option ℕ) (text rest : List ℕ) → text_if n bytes o ≡ Ok (text, rest) → (o ≡ None) × (n ≤ length bytes) × (take n bytes ≡ text) × (drop n bytes ≡ rest)
  text_is n bytes (Some at) text rest e = absurd cc
  text_is n bytes None text rest e =
      let whole : List ℕ × List ℕ = (take n bytes, drop n bytes) in
      let made : List ℕ × List ℕ = (text, rest) in
      let g = guard_ok (ltb (length bytes) n) 0 whole made e in
      (refl, ltb-false _ _ g.0, ap (λ (y : List ℕ × List ℕ). y.0) g.1, ap (λ (y : List ℕ × List ℕ). y.1) g.1)

  text_takes : (bytes rest text : List ℕ) → IsBytes bytes → text_at least most bytes ≡ Ok (text, rest) → Takes bytes (text_bytes text) rest × IsText least most text
  unfolding text_at text_bytes_read
  text_takes bytes rest text fits e =
      let made : List ℕ × List ℕ = (text, rest) in
      let a = bind_ok (short_at least most bytes) (λ n. text_bytes_read n.0 n.1) made e in
      let n = a.0.0 in
      let one = short_codes.takes bytes a.0.1 n fits a.1 in
      let is = text_is n a.0.1 (text_fault (take n a.0.1)) text rest a.2 in
      let size : length text ≡ n = ap length (sym is.2) ∙ omega (arith, length-take n a.0.1, is.1) in
      let two : Takes a.0.1 text rest = record {
        parts = sym (take-append-drop n a.0.1) ∙ ap (λ l. l ++ drop n a.0.1) is.2 ∙ ap (λ l. text ++ l) is.3;
        rest_fits = subst IsBytes is.3 (bytes_drop n a.0.1 one.0.rest_fits);
      } in (
        subst (λ k. Takes bytes (to_be_bytes w16 k ++ text) rest) (sym size) (takes_then bytes (to_be_bytes w16 n) a.0.1 text rest one.0 two),
        (subst (λ k. (least ≤ k) × (k ≤ most)) (sym size) one.1, ap text_fault (sym is.2) ∙ is.0),
      )

  text_again : (text rest : List ℕ) → IsText least most text → text_at least most (text_bytes text ++ rest) ≡ Ok (text, rest)
  unfolding text_at text_bytes_read
  text_again text rest rule =
      let front : take (length text) (text ++ rest) ≡ text = take_at text rest (length text) refl in
      let back : drop (length text) (text ++ rest) ≡ rest = drop_at text rest (length text) refl in
      let long : ltb (length (text ++ rest)) (length text) ≡ false = le-ltb _ _ (omega (arith, length-append text rest)) in
      ap (text_at least most) (append_assoc (to_be_bytes w16 (length text)) text rest)
      ∙ ap (λ r. r >>= λ n. text_bytes_read n.0 n.1) (short_codes.again (length text) (text ++ rest) rule.0)
      ∙ ap (text_if (length text) (text ++ rest)) (ap text_fault front ∙ rule.1)
      ∙ cond-false (ltb (length (text ++ rest)) (length text)) _ _ long
      ∙ ap (λ l. Ok (l, drop (length text) (text ++ rest))) front ∙ ap (λ l. Ok (text, l)) back

  pub text_codes : Codes (text_at least most) text_bytes (IsText least most)
  text_codes = record { takes = text_takes; again = text_again }
