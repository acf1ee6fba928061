-- The text of a path is a text, and is read as that path.
use Rattle.std.proofs.Common.{◌≡◌, ℕ, ◌+◌, false, cond, not, ◌||◌, List, [], ◌∷◌, ◌++◌, map, length, nat_lt, refl, ap, ◌∙◌, arith}
use Rattle.muck_model.proofs.Texts.{text_if}
use Rattle.std.specs.Prelude.{None, Some, if◌then◌else◌, ◌==◌}
use Rattle.std.specs.Char.{to_ascii_lowercase}
use Rattle.std.specs.List.{AllByRecursion, filter, list_any, slice_split, onto_first, position_or_len}
use Rattle.muck_model.specs.Bytes.{is_outside, text_fault}
use Rattle.muck_prop.specs.Paths.{is_slash, is_filled, is_barred, segments_of, path_text, fault_of_path, IsReadAs, IsSegmentByte, IsSegment, IsPath}
use Rattle.muck_prop.specs.declared.path.PropFault.TheVariants.{BadPath, TooDeep}
use Rattle.muck_prop.proofs.Reading.{IsRead}

-- ---- bytes

no_slash : (b : ℕ) → IsSegmentByte b → is_slash b ≡ false
no_slash b h = let apart = h.no_slash in grind arith

stays : (b : ℕ) → IsSegmentByte b → to_ascii_lowercase b ≡ b
stays b h = let small = h.no_capital in grind arith

written : (b : ℕ) → IsSegmentByte b → IsRead b
written b h = let printed = h.printed in let apart = h.no_colon in (grind arith, grind arith)

-- ---- segments

stay : (s : List ℕ) → AllByRecursion IsSegmentByte s → map to_ascii_lowercase s ≡ s
stay [] h = refl
stay (b ∷ s) h = λ i. stays b h.0 i ∷ stay s h.1 i

all_stay : (p : List (List ℕ)) → AllByRecursion IsSegment p → map (map to_ascii_lowercase) p ≡ p
all_stay [] h = refl
all_stay (s ∷ p) h = λ i. stay s h.0.bytes i ∷ all_stay p h.1 i

all_filled : (p : List (List ℕ)) → AllByRecursion IsSegment p → filter is_filled p ≡ p
all_filled [] h = refl
all_filled (s ∷ p) h = ap (λ b. cond b (s ∷ filter is_filled p) (filter is_filled p)) h.0.filled ∙ ap (λ q. s ∷ q) (all_filled p h.1)

split_last : (s : List ℕ) → AllByRecursion IsSegmentByte s → slice_split is_slash s ≡ s ∷ []
split_last [] h = refl
split_last (b ∷ s) h =
    ap (λ r. cond r ([] ∷ slice_split is_slash s) (onto_first b (slice_split is_slash s))) (no_slash b h.0)
    ∙ ap (onto_first b) (split_last s h.1)

split_more : (s rest : List ℕ) → AllByRecursion IsSegmentByte s → slice_split is_slash (s ++ 47 ∷ rest) ≡ s ∷ slice_split is_slash rest
split_more [] rest h = refl
split_more (b ∷ s) rest h =
    ap (λ r. cond r ([] ∷ slice_split is_slash (s ++ 47 ∷ rest)) (onto_first b (slice_split is_slash (s ++ 47 ∷ rest)))) (no_slash b h.0)
    ∙ ap (onto_first b) (split_more s rest h.1)

split_text : (s : List ℕ) (p : List (List ℕ)) → AllByRecursion IsSegment (s ∷ p) → slice_split is_slash (path_text (s ∷ p)) ≡ s ∷ p
split_text s [] h = split_last s h.0.bytes
split_text s (t ∷ p) h = split_more s (path_text (t ∷ p)) h.0.bytes ∙ ap (λ q. s ∷ q) (split_text t p h.1)

pub text_holds : (p : List (List ℕ)) → IsPath p → segments_of (path_text p) ≡ p
text_holds [] h = absurd (omega (arith, h.some))
text_holds (s ∷ p) h =
    ap (λ parts. map (map to_ascii_lowercase) (filter is_filled parts)) (split_text s p h.each)
    ∙ ap (map (map to_ascii_lowercase)) (all_filled (s ∷ p) h.each)
    ∙ all_stay (s ∷ p) h.each

-- ---- the text

all_written : (s : List ℕ) → AllByRecursion IsSegmentByte s → AllByRecursion IsRead s
all_written [] h = tt
all_written (b ∷ s) h = (written b h.0, all_written s h.1)

append_read : (a b : List ℕ) → AllByRecursion IsRead a → AllByRecursion IsRead b → AllByRecursion IsRead (a ++ b)
append_read [] b g h = h
append_read (x ∷ a) b g h = (g.0, append_read a b g.1 h)

text_read : (p : List (List ℕ)) → AllByRecursion IsSegment p → AllByRecursion IsRead (path_text p)
text_read [] h = tt
text_read (s ∷ []) h = all_written s h.0.bytes
text_read (s ∷ t ∷ p) h = append_read s (47 ∷ path_text (t ∷ p)) (all_written s h.0.bytes) ((refl, refl), text_read (t ∷ p) h.1)

none_barred : (bs : List ℕ) → AllByRecursion IsRead bs → list_any is_barred bs ≡ false
none_barred [] h = refl
none_barred (b ∷ bs) h = ap (λ r. r || list_any is_barred bs) h.0.1 ∙ none_barred bs h.1

none_outside : (bs : List ℕ) → AllByRecursion IsRead bs → position_or_len is_outside bs ≡ length bs
none_outside [] h = refl
none_outside (b ∷ bs) h = ap (λ r. cond (not r) (1 + position_or_len is_outside bs) 0) h.0.0 ∙ omega (arith, none_outside bs h.1)

pub text_is_text : (p : List (List ℕ)) → IsPath p → text_fault (path_text p) ≡ None
text_is_text p h = text_if (path_text p) (omega (arith, none_outside (path_text p) (text_read p h.each))) (omega (arith, h.short))

fine_fault : (text : List ℕ) (p : List (List ℕ)) → list_any is_barred text ≡ false → (length p == 0) ≡ false → nat_lt 128 (length (path_text p)) ≡ false → nat_lt 16 (length p) ≡ false → fault_of_path text p ≡ None
fine_fault text p a b c d = λ i. if a i || b i || c i then Some BadPath else (if d i then Some TooDeep else None)

pub text_reads : (p : List (List ℕ)) → IsPath p → IsReadAs (path_text p) p
text_reads p h = record {
  fine = ap (fault_of_path (path_text p)) (text_holds p h) ∙ fine_fault (path_text p) p (none_barred _ (text_read p h.each)) (let some = h.some in grind arith) (let short = h.short in grind arith) (let few = h.few in grind arith);
  holds = text_holds p h;
}
