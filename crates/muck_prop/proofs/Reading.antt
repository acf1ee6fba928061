-- What is read from a text that has no fault is a path.
use Rattle.std.proofs.Common.{◌≡◌, ℕ, Bool, true, false, cond, List, [], ◌∷◌, map, length, nat_lt, refl, sym, subst, arith}
use Rattle.std.proofs.lemmas.Bool.{ltb-false, eqb-false}
use Rattle.std.specs.Prelude.{Option, None, Some, if◌then◌else◌, ◌==◌}
use Rattle.std.specs.Char.{to_ascii_lowercase}
use Rattle.std.specs.List.{AllByRecursion, filter, list_any, slice_split, onto_first}
use Rattle.muck_laws.proofs.Tests.{both_hold, no_place, none_passes}
use Rattle.muck_laws.proofs.Texts.{onto_first_part}
use Rattle.muck_laws.proofs.Truths.{none_of_three}
use Rattle.muck_model.specs.Bytes.{is_outside, text_fault, text_most}
use Rattle.muck_model.specs.Bytes as model
use Rattle.muck_prop.specs.Paths.{is_slash, is_filled, is_barred, segments_of, path_text, is_bad_path, fault_of_path, IsSegmentByte, IsSegment, IsPath}
use Rattle.muck_prop.specs.declared.path.PropFault.TheVariants.{BadPath, TooDeep}

pub lowered_byte : (b : ℕ) → is_outside b ≡ false → is_barred b ≡ false → is_slash b ≡ false → IsSegmentByte (to_ascii_lowercase b)
lowered_byte b inside free apart = record {
  printed = (grind arith, grind arith);
  no_slash = grind arith;
  no_colon = grind arith;
  no_capital = grind arith;
}

-- ---- bytes of a text

-- a byte that is read: a text has it, and no fault forbids it
abbrev pub IsRead : ℕ → Type 0
IsRead b = (is_outside b ≡ false) × (is_barred b ≡ false)

-- ---- parts of a text

parts_of : (P : ℕ → Type 0) (bs : List ℕ) → AllByRecursion P bs → AllByRecursion (AllByRecursion (λ b. P b × (is_slash b ≡ false))) (slice_split is_slash bs)
parts_of P [] h = (tt, tt)
parts_of P (b ∷ bs) h =
    elim (is_slash b) as (λ r. is_slash b ≡ r → AllByRecursion (AllByRecursion (λ b. P b × (is_slash b ≡ false))) (cond r ([] ∷ slice_split is_slash bs) (onto_first b (slice_split is_slash bs)))) [
      | true ↦ λ e. (tt, parts_of P bs h.1)
      | false ↦ λ e. onto_first_part _ b (slice_split is_slash bs) (h.0, e) (parts_of P bs h.1)
    ] refl

lowered_bytes : (bs : List ℕ) → AllByRecursion (λ b. IsRead b × (is_slash b ≡ false)) bs → AllByRecursion IsSegmentByte (map to_ascii_lowercase bs)
lowered_bytes [] h = tt
lowered_bytes (b ∷ bs) h = (lowered_byte b h.0.0.0 h.0.0.1 h.0.1, lowered_bytes bs h.1)

segment : (bs : List ℕ) → is_filled bs ≡ true → AllByRecursion (λ b. IsRead b × (is_slash b ≡ false)) bs → IsSegment (map to_ascii_lowercase bs)
segment [] e h = cc
segment (b ∷ bs) e h = record { filled = refl; bytes = lowered_bytes (b ∷ bs) h }

segments : (parts : List (List ℕ)) → AllByRecursion (AllByRecursion (λ b. IsRead b × (is_slash b ≡ false))) parts → AllByRecursion IsSegment (map (map to_ascii_lowercase) (filter is_filled parts))
segments [] h = tt
segments (s ∷ parts) h =
    elim (is_filled s) as (λ r. is_filled s ≡ r → AllByRecursion IsSegment (map (map to_ascii_lowercase) (cond r (s ∷ filter is_filled parts) (filter is_filled parts)))) [
      | true ↦ λ e. (segment s e h.0, segments parts h.1)
      | false ↦ λ e. segments parts h.1
    ] refl

-- ---- a text without a fault

no_fault_place : (place : Option ℕ) (n : ℕ) → model.fault_of_bytes place n ≡ None → place ≡ None
no_fault_place None n h = refl
no_fault_place (Some at) n h = cc

text_is_read : (bs : List ℕ) → text_fault bs ≡ None → list_any is_barred bs ≡ false → AllByRecursion IsRead bs
text_is_read bs fine free = both_hold _ _ bs (no_place is_outside bs (no_fault_place _ (length bs) fine)) (none_passes is_barred bs free)

no_fault : (bad deep : Bool) → (if bad then Some BadPath else (if deep then Some TooDeep else None)) ≡ None → (bad ≡ false) × (deep ≡ false)
no_fault true deep h = cc
no_fault false true h = cc
no_fault false false h = (refl, refl)

pub read_is_path : (bs : List ℕ) (path : List (List ℕ)) → path ≡ segments_of bs → text_fault bs ≡ None → fault_of_path bs path ≡ None → IsPath path
read_is_path bs path is fine sound =
    let parts = no_fault (is_bad_path bs path) (nat_lt 16 (length path)) sound in
    let none = none_of_three (list_any is_barred bs) (length path == 0) (nat_lt 128 (length (path_text path))) parts.0 in
    let some = eqb-false (length path) 0 none.1 in
    record {
      some = omega (arith, some);
      few = ltb-false 16 (length path) parts.1;
      short = ltb-false 128 (length (path_text path)) none.2;
      each = subst (AllByRecursion IsSegment) (sym is) (segments _ (parts_of IsRead bs (text_is_read bs fine none.0)));
    }
