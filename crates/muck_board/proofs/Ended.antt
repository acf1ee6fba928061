-- Lines with their ends, one behind the other.
use Rattle.std.proofs.Common.{◌≡◌, ℕ, ◌+◌, ◌-◌, ◌<◌, ◌≤◌, Bool, true, false, cond, leb, not, zero, suc, List, [], ◌∷◌, ◌++◌, length, take, drop, refl, sym, subst, ◌∙◌, ap, arith, append-nil, length-append, length-drop}
use Rattle.std.proofs.lemmas.Bool.{cond_both, eqb-true, leb-true, leb-false}
use Rattle.std.proofs.lemmas.List.{drop-append-le, drop-drop, append_assoc}
use Rattle.std.proofs.lemmas.Grind.{flat_map-append}
use Rattle.std.proofs.Math.Seq.{drop-append-add, take-append_seam}
use Rattle.std.specs.Prelude.{◌||◌}
use Rattle.std.specs.List.{AllByRecursion, list_any, onto_first, position_or_len, slice_split}
use Rattle.muck_model.specs.Bytes.{text_most}
use Rattle.spec_live.specs.Output.{is_return, sent_form, sent_lines_bytes, newest}
use Rattle.muck_board.specs.inner.Sent.{lines_from, lines_in, sent_most, IsLine, IsLines}
use Rattle.muck_board.specs.inner.Waiting.{end_behind}
use Rattle.muck_board.proofs.Outputs.{lines_length, none_length, newest_fits, newest_next, sent_length}

line_begins : (line more : List ℕ) → list_any is_return line ≡ false → lines_in (line ++ 13 ∷ 10 ∷ more) ≡ line ∷ lines_in more
unfolding lines_from
line_begins [] more = λ h. refl
line_begins (b ∷ line) more =
    elim (is_return b) as (λ r. (r || list_any is_return line) ≡ false
    → cond r ([] ∷ lines_from true (line ++ 13 ∷ 10 ∷ more)) (onto_first b (lines_in (line ++ 13 ∷ 10 ∷ more))) ≡ (b ∷ line) ∷ lines_in more) [
      | true ↦ λ h. absurd (cc (h))
      | false ↦ λ h. ap (onto_first b) (line_begins line more h)
    ]

lines_are : (lines : List (List ℕ)) → AllByRecursion IsLine lines → lines_in (sent_lines_bytes lines) ≡ lines
unfolding lines_from sent_lines_bytes
lines_are [] each = refl
lines_are (line ∷ lines) each =
    ap lines_in (append_assoc line (13 ∷ 10 ∷ []) (sent_lines_bytes lines)) ∙ line_begins line (sent_lines_bytes lines) each.0.whole ∙ ap (λ ls. line ∷ ls) (lines_are lines each.1)

-- these bytes are those lines
pub read_back : (bytes : List ℕ) (lines : List (List ℕ)) → bytes ≡ sent_lines_bytes lines → AllByRecursion IsLine lines → lines_in bytes ≡ lines
read_back bytes lines e each = ap lines_in e ∙ lines_are lines each

pub are_lines : (bytes : List ℕ) (lines : List (List ℕ)) → bytes ≡ sent_lines_bytes lines → AllByRecursion IsLine lines → IsLines bytes
are_lines bytes lines e each =
    let same : lines_in bytes ≡ lines = read_back bytes lines e each in
    record { ended = e ∙ ap sent_lines_bytes (sym same); each = subst (AllByRecursion IsLine) (sym same) each }

-- The lines of a text.

-- the bytes of the pieces of a text between bytes 13
pub ends : List ℕ → List ℕ
ends text = sent_lines_bytes (slice_split is_return text)

pub no_ends : ends [] ≡ 13 ∷ 10 ∷ []
unfolding ends sent_lines_bytes
no_ends = refl

onto_bytes : (b : ℕ) (text : List ℕ) → sent_lines_bytes (onto_first b (slice_split is_return text)) ≡ b ∷ sent_lines_bytes (slice_split is_return text)
unfolding sent_lines_bytes
onto_bytes b [] = refl
onto_bytes b (c ∷ text) =
    elim (is_return c) as (λ r. sent_lines_bytes (onto_first b (cond r ([] ∷ slice_split is_return text) (onto_first c (slice_split is_return text)))) ≡ b ∷ sent_lines_bytes (cond r ([] ∷ slice_split is_return text) (onto_first c (slice_split is_return text)))) [
      | true ↦ refl
      | false ↦ onto_twice (slice_split is_return text)
    ]
  where
    onto_twice : (pieces : List (List ℕ)) → sent_lines_bytes (onto_first b (onto_first c pieces)) ≡ b ∷ sent_lines_bytes (onto_first c pieces)
    onto_twice [] = refl
    onto_twice (piece ∷ pieces) = refl

-- a byte of a text as it is sent
with_end : ℕ → List ℕ
with_end b = cond (is_return b) (b ∷ 10 ∷ []) (b ∷ [])

ends_begin : (b : ℕ) (text : List ℕ) → ends (b ∷ text) ≡ with_end b ++ ends text
unfolding ends sent_lines_bytes with_end
ends_begin b text =
    elim (is_return b) as (λ r. is_return b ≡ r → sent_lines_bytes (cond r ([] ∷ slice_split is_return text) (onto_first b (slice_split is_return text))) ≡ cond r (b ∷ 10 ∷ []) (b ∷ []) ++ sent_lines_bytes (slice_split is_return text)) [
      | true ↦ λ h. ap (λ c. c ∷ 10 ∷ sent_lines_bytes (slice_split is_return text)) (sym (eqb-true b 13 h))
      | false ↦ λ h. onto_bytes b text
    ] refl

-- a line more was sent
pub line_sent_on : (sent new all line : List ℕ) (before more : List (List ℕ)) → new ≡ sent ++ sent_form line → before ≡ line ∷ more → sent ++ sent_lines_bytes before ≡ all → new ++ sent_lines_bytes more ≡ all
unfolding sent_lines_bytes
line_sent_on sent new all line before more e is h =
    ap (λ l. l ++ sent_lines_bytes more) e ∙ append_assoc sent (sent_form line) (sent_lines_bytes more) ∙ ap (λ ls. sent ++ sent_lines_bytes ls) (sym is) ∙ h

-- no line is left
pub all_lines_sent : (sent all : List ℕ) (left : List (List ℕ)) → left ≡ [] → sent ++ sent_lines_bytes left ≡ all → sent ≡ all
unfolding sent_lines_bytes
all_lines_sent sent all left none h = sym (append-nil sent) ∙ ap (λ ls. sent ++ sent_lines_bytes ls) (sym none) ∙ h

with_end_most : (b : ℕ) → length (with_end b) ≤ 2
unfolding with_end
with_end_most b = elim (is_return b) as (λ r. length (cond r (b ∷ 10 ∷ []) (b ∷ [])) ≤ 2) [ true ↦ omega arith | false ↦ omega arith ]

pub ends_length : (text : List ℕ) → length (ends text) ≤ length text + length text + 2
ends_length [] = omega (arith, ap length no_ends)
ends_length (b ∷ text) = omega (arith, ap length (ends_begin b text), length-append (with_end b) (ends text), with_end_most b, ends_length text)

whole_pieces : (text : List ℕ) → AllByRecursion (λ line. list_any is_return line ≡ false) (slice_split is_return text)
whole_pieces [] = (refl, tt)
whole_pieces (b ∷ text) =
    elim (is_return b) as (λ r. is_return b ≡ r → AllByRecursion (λ line. list_any is_return line ≡ false) (cond r ([] ∷ slice_split is_return text) (onto_first b (slice_split is_return text)))) [
      | true ↦ λ h. (refl, whole_pieces text)
      | false ↦ λ h. onto (slice_split is_return text) h (whole_pieces text)
    ] refl
  where
    onto : (pieces : List (List ℕ)) → is_return b ≡ false → AllByRecursion (λ line. list_any is_return line ≡ false) pieces → AllByRecursion (λ line. list_any is_return line ≡ false) (onto_first b pieces)
    onto [] h each = (ap (λ r. r || false) h, tt)
    onto (piece ∷ pieces) h each = (ap (λ r. r || list_any is_return piece) h ∙ each.0, each.1)

each_short : (lines : List (List ℕ)) → length (sent_lines_bytes lines) ≤ sent_most → AllByRecursion (λ line. list_any is_return line ≡ false) lines → AllByRecursion IsLine lines
each_short [] h each = tt
each_short (line ∷ lines) h each =
    let both = lines_length line lines in
    (record { whole = each.0; short = omega (arith, both, h) }, each_short lines (omega (arith, both, h)) each.1)

ends_some : (text : List ℕ) → 0 < length (ends text)
ends_some [] = omega (arith, ap length no_ends)
ends_some (b ∷ text) = omega (arith, ap length (ends_begin b text), length-append (with_end b) (ends text), ends_some text)

-- what is sent of a text
pub text_is : (text bytes : List ℕ) → length text ≤ text_most → bytes ≡ sent_lines_bytes (slice_split is_return text) → (lines_in bytes ≡ slice_split is_return text) × (IsLines bytes × (0 < length bytes) × (length bytes ≤ sent_most))
unfolding ends
text_is text bytes h e =
    let most = ends_length text in
    let short : length (sent_lines_bytes (slice_split is_return text)) ≤ sent_most = omega (arith, most, h) in
    let each = each_short (slice_split is_return text) short (whole_pieces text) in
    let filled = ends_some text in
    (read_back bytes (slice_split is_return text) e each, (are_lines bytes (slice_split is_return text) e each, omega (arith, ap length e, filled), omega (arith, ap length e, short)))

-- Lines that stay.

pub each_newest : (room : ℕ) (lines : List (List ℕ)) → AllByRecursion IsLine lines → AllByRecursion IsLine (newest room lines)
unfolding newest
each_newest room [] each = tt
each_newest room (line ∷ lines) each = cond_both (leb (length (sent_lines_bytes (line ∷ lines))) room) (line ∷ lines) (newest room lines) (AllByRecursion IsLine) (λ h. each) (λ h. each_newest room lines each.1)

pub each_joined : (lines more : List (List ℕ)) → AllByRecursion IsLine lines → AllByRecursion IsLine more → AllByRecursion IsLine (lines ++ more)
each_joined [] more each others = others
each_joined (line ∷ lines) more each others = (each.0, each_joined lines more each.1 others)

-- Where a line ends.

pub first_return : (line more : List ℕ) → list_any is_return line ≡ false → position_or_len is_return (line ++ 13 ∷ more) ≡ length line
first_return [] more = λ h. refl
first_return (b ∷ line) more =
    elim (is_return b) as (λ r. (r || list_any is_return line) ≡ false → cond (not r) (1 + position_or_len is_return (line ++ 13 ∷ more)) 0 ≡ length (b ∷ line)) [
      | true ↦ λ h. absurd (cc (h))
      | false ↦ λ h. let e = first_return line more h in omega (arith, e)
    ]

pub any_dropped : (n : ℕ) (line : List ℕ) → list_any is_return line ≡ false → list_any is_return (drop n line) ≡ false
any_dropped zero [] h = refl
any_dropped (suc n) [] h = refl
any_dropped zero (b ∷ line) h = h
any_dropped (suc n) (b ∷ line) h = any_dropped n line (behind (is_return b) h)
  where
    behind : (r : Bool) → (r || list_any is_return line) ≡ false → list_any is_return line ≡ false
    behind true h = absurd (cc (h))
    behind false h = h

-- the first line, as bytes with what stands behind it
first_bytes : (line : List ℕ) (lines : List (List ℕ)) → sent_lines_bytes (line ∷ lines) ≡ line ++ 13 ∷ 10 ∷ sent_lines_bytes lines
unfolding sent_lines_bytes
first_bytes line lines = append_assoc line (13 ∷ 10 ∷ []) (sent_lines_bytes lines)

past_first : (line : List ℕ) (lines : List (List ℕ)) (n : ℕ) → drop (length (sent_form line) + n) (sent_lines_bytes (line ∷ lines)) ≡ drop n (sent_lines_bytes lines)
unfolding sent_lines_bytes
past_first line lines n = drop-append-add (sent_form line) (sent_lines_bytes lines) n

behind_is : (over n : ℕ) (bytes : List ℕ) → over - 2 ≡ n → end_behind over bytes ≡ n + position_or_len is_return (drop n bytes) + 2
behind_is over n bytes e = ap (λ k. k + position_or_len is_return (drop k bytes) + 2) e

-- the end of the first line
end_here : (over : ℕ) (line : List ℕ) (lines : List (List ℕ)) → list_any is_return line ≡ false → over ≤ length (sent_form line) → end_behind over (sent_lines_bytes (line ∷ lines)) ≡ length (sent_form line)
end_here over line lines free h =
    let n : ℕ = over - 2 in
    let within : n ≤ length line = omega (arith, sent_length line, h) in
    let left : drop n (sent_lines_bytes (line ∷ lines)) ≡ drop n line ++ 13 ∷ 10 ∷ sent_lines_bytes lines = ap (drop n) (first_bytes line lines) ∙ drop-append-le n line (13 ∷ 10 ∷ sent_lines_bytes lines) within in
    let at : position_or_len is_return (drop n (sent_lines_bytes (line ∷ lines))) ≡ length (drop n line) = ap (position_or_len is_return) left ∙ first_return (drop n line) (10 ∷ sent_lines_bytes lines) (any_dropped n line free) in
    omega (arith, at, length-drop n line, sent_length line)

-- the end of a line behind the first
end_later : (over : ℕ) (line : List ℕ) (lines : List (List ℕ)) → length (sent_form line) < over → end_behind over (sent_lines_bytes (line ∷ lines)) ≡ length (sent_form line) + end_behind (over - length (sent_form line)) (sent_lines_bytes lines)
end_later over line lines h = by_cases (over - length (sent_form line)) refl
  where
    by_cases : (more : ℕ) → over - length (sent_form line) ≡ more → end_behind over (sent_lines_bytes (line ∷ lines)) ≡ length (sent_form line) + end_behind more (sent_lines_bytes lines)
    by_cases zero e = absurd (omega (arith, e))
    by_cases (suc zero) e =
        let n : over - 2 ≡ length line + 1 = omega (arith, e, sent_length line) in
        let left : drop (length line + 1) (sent_lines_bytes (line ∷ lines)) ≡ 10 ∷ sent_lines_bytes lines = ap (drop (length line + 1)) (first_bytes line lines) ∙ drop-append-add line (13 ∷ 10 ∷ sent_lines_bytes lines) 1 in
        let at : position_or_len is_return (drop (length line + 1) (sent_lines_bytes (line ∷ lines))) ≡ 1 + position_or_len is_return (sent_lines_bytes lines) = ap (position_or_len is_return) left in
        let here = behind_is over (length line + 1) (sent_lines_bytes (line ∷ lines)) n in
        let there : end_behind 1 (sent_lines_bytes lines) ≡ 0 + position_or_len is_return (sent_lines_bytes lines) + 2 = behind_is 1 0 (sent_lines_bytes lines) (omega arith) in
        omega (arith, here, there, at, sent_length line)
    by_cases (suc (suc more)) e =
        let n : over - 2 ≡ length (sent_form line) + more = omega (arith, e) in
        let at = ap (position_or_len is_return) (past_first line lines more) in
        let here = behind_is over (length (sent_form line) + more) (sent_lines_bytes (line ∷ lines)) n in
        let there : end_behind (suc (suc more)) (sent_lines_bytes lines) ≡ more + position_or_len is_return (drop more (sent_lines_bytes lines)) + 2 = behind_is (suc (suc more)) more (sent_lines_bytes lines) (omega arith) in
        omega (arith, here, there, at)

-- What stands behind the end of a line is the newest of the lines.
pub behind_end : (over : ℕ) (lines : List (List ℕ)) → AllByRecursion IsLine lines → 0 < over → over ≤ length (sent_lines_bytes lines)
    → drop (end_behind over (sent_lines_bytes lines)) (sent_lines_bytes lines) ≡ sent_lines_bytes (newest (length (sent_lines_bytes lines) - over) lines)
behind_end over [] each some h = absurd (omega (arith, none_length))
behind_end over (line ∷ lines) each some h =
    let all : length (sent_lines_bytes (line ∷ lines)) ≡ length (sent_form line) + length (sent_lines_bytes lines) = lines_length line lines in
    let goes : newest (length (sent_lines_bytes (line ∷ lines)) - over) (line ∷ lines) ≡ newest (length (sent_lines_bytes (line ∷ lines)) - over) lines = newest_next (length (sent_lines_bytes (line ∷ lines)) - over) line lines (omega (arith, some, h)) in
    elim (leb over (length (sent_form line))) as (λ r. leb over (length (sent_form line)) ≡ r → drop (end_behind over (sent_lines_bytes (line ∷ lines))) (sent_lines_bytes (line ∷ lines)) ≡ sent_lines_bytes (newest (length (sent_lines_bytes (line ∷ lines)) - over) (line ∷ lines))) [
      | true ↦ λ e.
          let here : over ≤ length (sent_form line) = leb-true over (length (sent_form line)) e in
          let at : end_behind over (sent_lines_bytes (line ∷ lines)) ≡ length (sent_form line) + 0 = end_here over line lines each.0.whole here ∙ (omega arith) in
          let fits : length (sent_lines_bytes lines) ≤ length (sent_lines_bytes (line ∷ lines)) - over = omega (arith, all, here) in
          ap (λ k. drop k (sent_lines_bytes (line ∷ lines))) at ∙ past_first line lines 0 ∙ sym (ap sent_lines_bytes (goes ∙ newest_fits (length (sent_lines_bytes (line ∷ lines)) - over) lines fits))
      | false ↦ λ e.
          let later : length (sent_form line) < over = leb-false over (length (sent_form line)) e in
          let left : length (sent_lines_bytes lines) - (over - length (sent_form line)) ≡ length (sent_lines_bytes (line ∷ lines)) - over = omega (arith, all, later) in
          ap (λ k. drop k (sent_lines_bytes (line ∷ lines))) (end_later over line lines later) ∙ past_first line lines (end_behind (over - length (sent_form line)) (sent_lines_bytes lines))
          ∙ behind_end (over - length (sent_form line)) lines each.1 (omega (arith, later)) (omega (arith, all, h, later))
          ∙ ap (λ k. sent_lines_bytes (newest k lines)) left ∙ sym (ap sent_lines_bytes goes)
    ] refl

pub end_within : (over : ℕ) (lines : List (List ℕ)) → AllByRecursion IsLine lines → 0 < over → over ≤ length (sent_lines_bytes lines) → end_behind over (sent_lines_bytes lines) ≤ length (sent_lines_bytes lines)
end_within over [] each some h = absurd (omega (arith, none_length))
end_within over (line ∷ lines) each some h =
    let all = lines_length line lines in
    elim (leb over (length (sent_form line))) as (λ r. leb over (length (sent_form line)) ≡ r → end_behind over (sent_lines_bytes (line ∷ lines)) ≤ length (sent_lines_bytes (line ∷ lines))) [
      | true ↦ λ e. let at = end_here over line lines each.0.whole (leb-true over (length (sent_form line)) e) in omega (arith, at, all)
      | false ↦ λ e.
          let later : length (sent_form line) < over = leb-false over (length (sent_form line)) e in
          let at = end_later over line lines later in
          let rest = end_within (over - length (sent_form line)) lines each.1 (omega (arith, later)) (omega (arith, all, h, later)) in
          omega (arith, at, rest, all)
    ] refl

-- Lines that stand behind others that went.

front : (line : List ℕ) (lines : List (List ℕ)) → take (length (sent_form line)) (sent_lines_bytes (line ∷ lines)) ≡ sent_form line
unfolding sent_lines_bytes
front line lines = take-append_seam (sent_form line) (sent_lines_bytes lines)

lines_joined : (lines more : List (List ℕ)) → sent_lines_bytes (lines ++ more) ≡ sent_lines_bytes lines ++ sent_lines_bytes more
unfolding sent_lines_bytes
lines_joined lines more = flat_map-append sent_form lines more

pub joined_length : (lines more : List (List ℕ)) → length (sent_lines_bytes (lines ++ more)) ≡ length (sent_lines_bytes lines) + length (sent_lines_bytes more)
joined_length lines more = ap length (lines_joined lines more) ∙ length-append (sent_lines_bytes lines) (sent_lines_bytes more)

no_lines_bytes : sent_lines_bytes [] ≡ []
unfolding sent_lines_bytes
no_lines_bytes = refl

-- the first line begins
pub record BeginsAt (bytes : List ℕ) (from len : ℕ) : Type 0 where
  pub line : List ℕ
  pub within : from + len ≤ length bytes
  pub each : IsLines (drop (from + len) bytes)
  pub first : lines_in (drop from bytes) ≡ line ∷ lines_in (drop (from + len) bytes)
  pub begun : take len (drop from bytes) ≡ sent_form line
  pub short : length (sent_form line) ≤ sent_most

begins_with : (bytes : List ℕ) (from : ℕ) (lines : List (List ℕ)) → from ≤ length bytes → lines_in (drop from bytes) ≡ lines → AllByRecursion IsLine lines → drop from bytes ≡ sent_lines_bytes lines → 0 < length (sent_lines_bytes lines) →
    BeginsAt bytes from (position_or_len is_return (sent_lines_bytes lines) + 2)
begins_with bytes from [] h is each e some = absurd (omega (arith, some, none_length))
begins_with bytes from (line ∷ lines) h is each e some =
    let len : ℕ = position_or_len is_return (sent_lines_bytes (line ∷ lines)) + 2 in
    let at : len ≡ length (sent_form line) = omega (arith, ap (position_or_len is_return) (first_bytes line lines), first_return line (10 ∷ sent_lines_bytes lines) each.0.whole, sent_length line) in
    let left : drop (from + len) bytes ≡ sent_lines_bytes lines = sym (drop-drop len from bytes) ∙ ap (drop len) e ∙ ap (λ k. drop k (sent_lines_bytes (line ∷ lines))) (at ∙ (omega arith)) ∙ past_first line lines 0 in
    record {
      line = line;
      within = omega (arith, ap length e, length-drop from bytes, h, lines_length line lines, at);
      each = are_lines (drop (from + len) bytes) lines left each.1;
      first = is ∙ ap (λ ls. line ∷ ls) (sym (read_back (drop (from + len) bytes) lines left each.1));
      begun = (λ i. take (at i) (e i)) ∙ front line lines;
      short = each.0.short;
    }

pub begins_at : (bytes whole : List ℕ) (from count : ℕ) → from ≤ length bytes → IsLines (drop from bytes) → whole ≡ sent_lines_bytes (lines_in (drop from bytes)) → 0 < length whole → count ≡ position_or_len is_return whole → BeginsAt bytes from (count + 2)
begins_at bytes whole from count h are is some e =
    let n : position_or_len is_return (sent_lines_bytes (lines_in (drop from bytes))) ≡ count = sym (e ∙ ap (position_or_len is_return) is) in
    subst (λ k. BeginsAt bytes from (k + 2)) n (begins_with bytes from (lines_in (drop from bytes)) h refl are.each are.ended (omega (arith, ap length is, some)))

-- the newest lines stay
pub record KeptAt (bytes : List ℕ) (from len room : ℕ) : Type 0 where
  pub within : from + len ≤ length bytes
  pub each : IsLines (drop (from + len) bytes)
  pub kept : lines_in (drop (from + len) bytes) ≡ newest room (lines_in (drop from bytes))

pub kept_at : (bytes whole : List ℕ) (from len room : ℕ) → from ≤ length bytes → IsLines (drop from bytes) → whole ≡ sent_lines_bytes (lines_in (drop from bytes)) → room < length whole → len ≡ end_behind (length whole - room) whole → KeptAt bytes from len room
kept_at bytes whole from len room h are is more e =
    let lines : List (List ℕ) = lines_in (drop from bytes) in
    let all : ℕ = length (sent_lines_bytes lines) in
    let as_many : length whole ≡ all = ap length is in
    let over : ℕ = all - room in
    let at : len ≡ end_behind over (sent_lines_bytes lines) = e ∙ (λ i. end_behind (as_many i - room) (is i)) in
    let room_is : all - over ≡ room = omega (arith, more, as_many) in
    let left : drop (from + len) bytes ≡ sent_lines_bytes (newest room lines) =
    sym (drop-drop len from bytes) ∙ ap (drop len) are.ended ∙ ap (λ k. drop k (sent_lines_bytes lines)) at ∙ behind_end over lines are.each (omega (arith, more, as_many)) (omega arith) ∙ ap (λ k. sent_lines_bytes (newest k lines)) room_is in
    let stay = each_newest room lines are.each in
    let inside : end_behind over (sent_lines_bytes lines) ≤ all = end_within over lines are.each (omega (arith, more, as_many)) (omega arith) in
    record {
      within = omega (arith, at, inside, ap length are.ended, length-drop from bytes, h);
      each = are_lines (drop (from + len) bytes) (newest room lines) left stay;
      kept = read_back (drop (from + len) bytes) (newest room lines) left stay;
    }

-- lines come behind others
pub record PushedAt (bytes new : List ℕ) (from : ℕ) (sent : List (List ℕ)) : Type 0 where
  pub each : IsLines (drop from new)
  pub lines : lines_in (drop from new) ≡ lines_in (drop from bytes) ++ sent

pub pushed_at : (bytes new more : List ℕ) (from : ℕ) (sent : List (List ℕ)) → from ≤ length bytes → IsLines (drop from bytes) → new ≡ bytes ++ more → more ≡ sent_lines_bytes sent → AllByRecursion IsLine sent → PushedAt bytes new from sent
pushed_at bytes new more from sent h are is e each =
    let lines : List (List ℕ) = lines_in (drop from bytes) in
    let left : drop from new ≡ sent_lines_bytes (lines ++ sent) = ap (drop from) is ∙ drop-append-le from bytes more h ∙ (λ i. are.ended i ++ e i) ∙ sym (lines_joined lines sent) in
    let all = each_joined lines sent are.each each in
    record { each = are_lines (drop from new) (lines ++ sent) left all; lines = read_back (drop from new) (lines ++ sent) left all }

pub no_bytes : (lines : List (List ℕ)) → length (sent_lines_bytes lines) ≡ 0 → lines ≡ []
no_bytes [] h = refl
no_bytes (line ∷ lines) h = absurd (omega (arith, lines_length line lines, sent_length line, h))

-- no lines
pub none_are : (bytes : List ℕ) → bytes ≡ [] → IsLines bytes × (lines_in bytes ≡ [])
none_are bytes e = (are_lines bytes [] (e ∙ sym no_lines_bytes) tt, read_back bytes [] (e ∙ sym no_lines_bytes) tt)
