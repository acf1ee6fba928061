-- The lines of units begin with `!`, and those of a run with a digit.
use Rattle.std.proofs.Common.{◌≡◌, ℕ, zero, suc, ◌+◌, ◌-◌, ◌/◌, ◌%◌, ◌≤◌, Bool, true, false, not, cond, ltb, List, [], ◌∷◌, ◌++◌, length, take, drop, refl, sym, ◌∙◌, ap, arith, append_assoc, append-nil, Option, Some, None}
use Rattle.std.specs.Prelude.{◌==◌, ◌&&◌, nat_lt, is_none, codes}
use Rattle.std.specs.Fmt.{decimal, digits, digits_onto, digit_glyph}
use Rattle.std.specs.List.{flat_map, filter, list_all, position, position_or_len, onto_first}
use Rattle.std.proofs.lemmas.Bool.{cond-false, lt-ltb, ltb-false, and_parts, not-true}
use Rattle.std.proofs.lemmas.Bool.Decides.{nat_tests}
use Rattle.std.proofs.lemmas.Grind.{flat_map-append}
use Rattle.std.proofs.lemmas.List.Folds.{list_all-append}
use Rattle.muck_laws.proofs.Tests.{filter_first, filter_none, filter_whole}
use Rattle.muck_laws.proofs.Texts.{shown_ended}
use Rattle.muck_laws.proofs.Truths.{double}
use Rattle.muck_model.specs.Bytes.{is_outside, text_fault, fault_of_bytes}
use Rattle.muck_model.specs.declared.event.Entry.{Entry}
use Rattle.muck_model.specs.declared.event.Event.{Event}
use Rattle.muck_model.specs.declared.event.Event.TheVariants.{Take, Closed}
use Rattle.spec_events.specs.World.{World, queue_of, is_leaving}
use Rattle.spec_events.specs.Steps.{effect}
use Rattle.spec_events.specs.Histories.{after}
use Rattle.muck_script.specs.declared.act.Act.{Act}
use Rattle.muck_script.specs.Lines.{is_line_feed, lines_of}
use Rattle.muck_script.specs.Story.{Dumped, stored, failed, outcomes_of, transcript_of, event_told, line_shown, farewell, both_parts, dump_part, dump_entries, next_outcome, line_story, lines_story, transcript, halting}
use Rattle.muf_debug.specs.declared.view.View.{View}
use Rattle.muf_debug.specs.Printed.{view_printed}
use Rattle.muf_debug.specs.Shown.{Tracer, is_unit_shown, spot_of, handed_out, with_break, without_break, view_told as told_view, views_told}
use Rattle.muck_debugging.specs.declared.act.DebugAct.{DebugAct}
use Rattle.muck_debugging.specs.declared.act.DebugAct.TheVariants.{Plain, Break, Clear, Trace}
use Rattle.muck_debugging.specs.Seen.{seen_of, views_in, shown_of, views_passed, SeenPiece, pieces_of, line_ended, piece_text, text_of_all, units_of_all, plain_acts, then_seen_pieces, debug_pieces, is_marked, marked_lines, unmarked_lines}
use Rattle.muck_debugging.specs.Laws.{are_texts, ShowsApart}

-- Lines that end nowhere inside.

abbrev no_end : ℕ → Bool
no_end b = not (b == 10)

abbrev is_line : List ℕ → Bool
is_line line = list_all no_end line

line_front : (line rest : List ℕ) → is_line line ≡ true → lines_of (line ++ 10 ∷ rest) ≡ line ∷ lines_of rest
line_front [] rest e = refl
line_front (b ∷ line) rest e =
    let parts = and_parts (no_end b) (is_line line) e in
    cond-false (is_line_feed b) _ _ (not-true (b == 10) parts.0) ∙ ap (onto_first b) (line_front line rest parts.1)

pub lines_front : (lines : List (List ℕ)) (rest : List ℕ) → list_all is_line lines ≡ true → lines_of (flat_map line_ended lines ++ rest) ≡ lines ++ lines_of rest
lines_front [] rest e = refl
lines_front (line ∷ lines) rest e =
    let parts = and_parts (is_line line) (list_all is_line lines) e in
    ap lines_of (append_assoc (line ++ 10 ∷ []) (flat_map line_ended lines) rest ∙ append_assoc line (10 ∷ []) (flat_map line_ended lines ++ rest))
    ∙ line_front line (flat_map line_ended lines ++ rest) parts.0
    ∙ ap (λ (ls : List (List ℕ)). line ∷ ls) (lines_front lines rest parts.1)

-- Texts have no line feed.

inside : (b : ℕ) → is_outside b ≡ false → no_end b ≡ true
inside b e = grind (arith, nat_tests)

all_inside : (line : List ℕ) → length line ≤ position_or_len is_outside line → is_line line ≡ true
all_inside [] h = refl
all_inside (b ∷ line) h = by (is_outside b) refl h (λ le. all_inside line le) where
  by : (t : Bool) → is_outside b ≡ t → suc (length line) ≤ cond (not t) (1 + position_or_len is_outside line) 0 → (length line ≤ position_or_len is_outside line → is_line line ≡ true) → no_end b && is_line line ≡ true
  by true e le others = absurd (omega arith)
  by false e le others = ap (λ (t : Bool). t && is_line line) (inside b e) ∙ others (omega arith)

none_found : (line : List ℕ) → position is_outside line ≡ None → length line ≤ position_or_len is_outside line
none_found line e = by (ltb (position_or_len is_outside line) (length line)) refl e where
  by : (t : Bool) → ltb (position_or_len is_outside line) (length line) ≡ t → cond t (Some (position_or_len is_outside line)) None ≡ None → length line ≤ position_or_len is_outside line
  by true h n = cc
  by false h n = ltb-false _ _ h

no_fault : (found : Option ℕ) (n : ℕ) → is_none (fault_of_bytes found n) ≡ true → found ≡ None
no_fault None n e = refl
no_fault (Some at) n e = cc

text_line : (line : List ℕ) → is_none (text_fault line) ≡ true → is_line line ≡ true
text_line line e = all_inside line (none_found line (no_fault (position is_outside line) (length line) e))

texts_lines : (lines : List (List ℕ)) → are_texts lines ≡ true → list_all is_line lines ≡ true
texts_lines [] e = refl
texts_lines (line ∷ lines) e =
    let parts = and_parts (is_none (text_fault line)) (are_texts lines) e in
    ap (λ (t : Bool). t && list_all is_line lines) (text_line line parts.0) ∙ texts_lines lines parts.1

-- Numbers are digits.

abbrev is_high : ℕ → Bool
is_high b = nat_lt 33 b

high_glyph : (d : ℕ) → is_high (digit_glyph false d) ≡ true
high_glyph d = by (nat_lt d 10) where
  by : (t : Bool) → is_high (cond t (48 + d) (87 + d)) ≡ true
  by true = lt-ltb 33 (48 + d) (omega arith)
  by false = lt-ltb 33 (87 + d) (omega arith)

high_onto : (k n : ℕ) (acc : List ℕ) → list_all is_high acc ≡ true → list_all is_high (digits_onto k 10 false n acc) ≡ true
high_onto zero n acc h = h
high_onto (suc k) n acc h =
    let more : list_all is_high (digit_glyph false (n % 10) ∷ acc) ≡ true = ap (λ (t : Bool). t && list_all is_high acc) (high_glyph (n % 10)) ∙ h in
    by (n / 10 == 0) more (high_onto k (n / 10) (digit_glyph false (n % 10) ∷ acc) more)
  where
    by : (t : Bool) → list_all is_high (digit_glyph false (n % 10) ∷ acc) ≡ true → list_all is_high (digits_onto k 10 false (n / 10) (digit_glyph false (n % 10) ∷ acc)) ≡ true
        → list_all is_high (cond t (digit_glyph false (n % 10) ∷ acc) (digits_onto k 10 false (n / 10) (digit_glyph false (n % 10) ∷ acc))) ≡ true
    by true one others = one
    by false one others = others

-- something stands there
abbrev Begins : List ℕ → Type 0
Begins text = (b : ℕ) × (rest : List ℕ) × (text ≡ b ∷ rest)

begins_onto : (k n : ℕ) (acc : List ℕ) → Begins acc → Begins (digits_onto k 10 false n acc)
begins_onto zero n acc h = h
begins_onto (suc k) n acc h = by (n / 10 == 0) (begins_onto k (n / 10) (digit_glyph false (n % 10) ∷ acc) (digit_glyph false (n % 10), acc, refl)) where
  by : (t : Bool) → Begins (digits_onto k 10 false (n / 10) (digit_glyph false (n % 10) ∷ acc)) → Begins (cond t (digit_glyph false (n % 10) ∷ acc) (digits_onto k 10 false (n / 10) (digit_glyph false (n % 10) ∷ acc)))
  by true others = (digit_glyph false (n % 10), acc, refl)
  by false others = others

high_decimal : (n : ℕ) → list_all is_high (decimal n) ≡ true
unfolding digits
high_decimal n = high_onto 64 n [] refl

begins_first : (n : ℕ) (t : Bool) → Begins (cond t (digit_glyph false (n % 10) ∷ []) (digits_onto 63 10 false (n / 10) (digit_glyph false (n % 10) ∷ [])))
begins_first n true = (digit_glyph false (n % 10), [], refl)
begins_first n false = begins_onto 63 (n / 10) (digit_glyph false (n % 10) ∷ []) (digit_glyph false (n % 10), [], refl)

begins_decimal : (n : ℕ) → Begins (decimal n)
unfolding digits
begins_decimal n = begins_first n (n / 10 == 0)

high_no_end : (b : ℕ) → is_high b ≡ true → no_end b ≡ true
high_no_end b e = grind (arith, nat_tests)

high_unmarked : (b : ℕ) → is_high b ≡ true → not (b == 33) ≡ true
high_unmarked b e = grind (arith, nat_tests)

high_line : (text : List ℕ) → list_all is_high text ≡ true → is_line text ≡ true
high_line [] e = refl
high_line (b ∷ text) e =
    let parts = and_parts (is_high b) (list_all is_high text) e in
    ap (λ (t : Bool). t && is_line text) (high_no_end b parts.0) ∙ high_line text parts.1

-- Lines of a run.

abbrev is_plain : List ℕ → Bool
is_plain line = not (is_marked line)

-- behind a number a line goes on without an end
numbered_unmarked : (text rest : List ℕ) → Begins text → list_all is_high text ≡ true → is_plain (text ++ rest) ≡ true
numbered_unmarked text rest begins high =
    let first = and_parts (is_high begins.0) (list_all is_high begins.1) (ap (list_all is_high) (sym begins.2) ∙ high) in
    ap (λ (xs : List ℕ). is_plain (xs ++ rest)) begins.2 ∙ high_unmarked begins.0 first.0

line_append : (a b : List ℕ) → is_line a ≡ true → is_line b ≡ true → is_line (a ++ b) ≡ true
line_append a b e f = list_all-append no_end a b ∙ ap (λ (t : Bool). t && is_line b) e ∙ f

line_take : (n : ℕ) (line : List ℕ) → is_line line ≡ true → is_line (take n line) ≡ true
line_take zero line e = refl
line_take (suc n) [] e = refl
line_take (suc n) (b ∷ line) e =
    let parts = and_parts (no_end b) (is_line line) e in
    ap (λ (t : Bool). t && is_line (take n line)) parts.0 ∙ line_take n line parts.1

-- the text is these lines, each ends where it should, and none begins with `!`
record IsRun (text : List ℕ) : Type 0 where
  lines : List (List ℕ)
  is : text ≡ flat_map line_ended lines
  whole : list_all is_line lines ≡ true
  plain : list_all is_plain lines ≡ true

run_nothing : IsRun []
run_nothing = record { lines = []; is = refl; whole = refl; plain = refl }

run_one : (d : ℕ) (rest : List ℕ) → is_line rest ≡ true → IsRun (decimal d ++ (rest ++ 10 ∷ []))
run_one d rest e = record {
  lines = (decimal d ++ rest) ∷ [];
  is = sym (append_assoc (decimal d) rest (10 ∷ [])) ∙ sym (append-nil _);
  whole = ap (λ (t : Bool). t && true) (line_append (decimal d) rest (high_line (decimal d) (high_decimal d)) e);
  plain = ap (λ (t : Bool). t && true) (numbered_unmarked (decimal d) rest (begins_decimal d) (high_decimal d));
}

run_both : (a b : List ℕ) → IsRun a → IsRun b → IsRun (a ++ b)
run_both a b p q = record {
  lines = p.lines ++ q.lines;
  is = ap (λ (t : List ℕ). t ++ b) p.is ∙ ap (λ (t : List ℕ). flat_map line_ended p.lines ++ t) q.is ∙ sym (flat_map-append line_ended p.lines q.lines);
  whole = list_all-append is_line p.lines q.lines ∙ ap (λ (t : Bool). t && list_all is_line q.lines) p.whole ∙ q.whole;
  plain = list_all-append is_plain p.lines q.lines ∙ ap (λ (t : Bool). t && list_all is_plain q.lines) p.plain ∙ q.plain;
}

-- the lines of any bytes end nowhere inside
onto_line : (b : ℕ) (lines : List (List ℕ)) → no_end b ≡ true → list_all is_line lines ≡ true → list_all is_line (onto_first b lines) ≡ true
onto_line b [] e h = ap (λ (t : Bool). (t && true) && true) e
onto_line b (line ∷ lines) e h = ap (λ (t : Bool). (t && is_line line) && list_all is_line lines) e ∙ h

lines_are : (bytes : List ℕ) → list_all is_line (lines_of bytes) ≡ true
lines_are [] = refl
lines_are (b ∷ bytes) = by (is_line_feed b) refl (lines_are bytes) where
  by : (t : Bool) → is_line_feed b ≡ t → list_all is_line (lines_of bytes) ≡ true → list_all is_line (cond t ([] ∷ lines_of bytes) (onto_first b (lines_of bytes))) ≡ true
  by true e others = others
  by false e others = onto_line b (lines_of bytes) (ap not e) others

run_as : (a b : List ℕ) → a ≡ b → IsRun a → IsRun b
run_as a b e p = record { lines = p.lines; is = sym e ∙ p.is; whole = p.whole; plain = p.plain }

farewell_ended : (d : ℕ) → decimal d ++ (codes " closed" ++ 10 ∷ []) ≡ farewell d
farewell_ended d = sym (append_assoc (decimal d) (codes " closed") (10 ∷ []))

run_shown : (d : ℕ) (lines : List (List ℕ)) → list_all is_line lines ≡ true → IsRun (flat_map (line_shown d) lines)
run_shown d [] e = run_nothing
run_shown d (line ∷ lines) e =
    let parts = and_parts (is_line line) (list_all is_line lines) e in
    let text : List ℕ = take (length line - 1) line in
    run_both (line_shown d line) (flat_map (line_shown d) lines) (run_as _ _ (shown_ended d text) (run_one d (codes "< " ++ text) (line_take (length line - 1) line parts.0))) (run_shown d lines parts.1)

run_farewell : (d : ℕ) (t : Bool) → IsRun (cond t (farewell d) [])
run_farewell d true = run_as _ _ (farewell_ended d) (run_one d (codes " closed") refl)
run_farewell d false = run_nothing

run_told : (w : World) (event : Event) → IsRun (event_told w event)
unfolding event_told
run_told w (Take d n) = run_shown d (lines_of (take n (queue_of d w))) (lines_are (take n (queue_of d w)))
run_told w (Closed d) = run_farewell d (is_leaving d w)
run_told w event = run_nothing

-- Lines of units.

marked_printed : (v : View) → is_marked (view_printed v) ≡ true
marked_printed v = refl

marked_kept : (t : Bool) (kept : List (List ℕ)) (v : View) → list_all is_marked kept ≡ true → list_all is_marked (cond t (kept ++ view_printed v ∷ []) kept) ≡ true
marked_kept true kept v e = list_all-append is_marked kept (view_printed v ∷ []) ∙ ap (λ (b : Bool). b && list_all is_marked (view_printed v ∷ [])) e ∙ ap (λ (b : Bool). b && true) (marked_printed v)
marked_kept false kept v e = e

marked_all : (vs : List View) (t : Tracer) → list_all is_marked t.kept ≡ true → list_all is_marked (views_told vs t).kept ≡ true
unfolding views_told told_view
marked_all [] t e = e
marked_all (v ∷ vs) t e = marked_all vs (told_view v t) (marked_kept (is_unit_shown v.pid (spot_of v) t) t.kept v e)

marked_shown : (vs : List View) (t : Tracer) → list_all is_marked (shown_of vs t) ≡ true
marked_shown vs t = marked_all vs (handed_out t) refl

-- Pieces.

AreFine : List SeenPiece → Type 0
AreFine [] = Unit {0}
AreFine (p ∷ ps) = IsRun p.run × (list_all is_marked p.units ≡ true) × AreFine ps

fine_pieces : (es : List Entry) (w : World) (t : Tracer) → AreFine (pieces_of t w es)
unfolding AreFine
fine_pieces [] w t = tt
fine_pieces (e ∷ es) w t = (run_told w e.event, marked_shown (seen_of w e.event) t, fine_pieces es (effect w e) (views_passed (seen_of w e.event) t))

fine_both : (ps qs : List SeenPiece) → AreFine ps → AreFine qs → AreFine (ps ++ qs)
unfolding AreFine
fine_both [] qs f g = g
fine_both (p ∷ ps) qs f g = (f.0, f.1, fine_both ps qs f.2 g)

fine_if : (b : Bool) (ps : List SeenPiece) → AreFine ps → AreFine (cond b [] ps)
unfolding AreFine
fine_if true ps f = tt
fine_if false ps f = f

fine_debug : (acts : List DebugAct) (os : List Dumped) (w : World) (t : Tracer) → AreFine (debug_pieces acts os w t)
unfolding AreFine
fine_debug [] os w t = fine_pieces (halting w) w t
fine_debug (Plain act ∷ acts) os w t = fine_if w.stopping _ (fine_both (pieces_of t w (line_story act os w)) _ (fine_pieces (line_story act os w) w t) (fine_debug acts _ _ _))
fine_debug (Break program line ∷ acts) os w t = fine_debug acts os w (with_break (record { program = program; line = line }) t)
fine_debug (Clear program line ∷ acts) os w t = fine_debug acts os w (without_break (record { program = program; line = line }) t)
fine_debug (Trace on ∷ acts) os w t = fine_debug acts os w (record t { on = on })

run_of_all : List SeenPiece → List ℕ
run_of_all ps = flat_map (λ (p : SeenPiece). p.run) ps

all_double : (xs : List (List ℕ)) → list_all is_marked xs ≡ true → list_all (λ x. not (is_plain x)) xs ≡ true
all_double [] e = refl
all_double (x ∷ xs) e =
    let parts = and_parts (is_marked x) (list_all is_marked xs) e in
    ap (λ (t : Bool). t && list_all (λ y. not (is_plain y)) xs) (double (is_marked x) parts.0) ∙ all_double xs parts.1

-- the lines of the first piece stand before the others
first_lines : (p : SeenPiece) (rest : List ℕ) (is : IsRun p.run) → list_all is_line p.units ≡ true → lines_of (piece_text p ++ rest) ≡ p.units ++ (is.lines ++ lines_of rest)
first_lines p rest is e =
    ap lines_of (append_assoc (flat_map line_ended p.units) p.run rest)
    ∙ lines_front p.units (p.run ++ rest) e
    ∙ ap (λ (t : List ℕ). p.units ++ lines_of (t ++ rest)) is.is
    ∙ ap (λ (ls : List (List ℕ)). p.units ++ ls) (lines_front is.lines rest is.whole)

texts_parts : (xs ys : List (List ℕ)) → are_texts (xs ++ ys) ≡ true → (are_texts xs ≡ true) × (are_texts ys ≡ true)
texts_parts xs ys e = and_parts (are_texts xs) (are_texts ys) (sym (list_all-append (λ line. is_none (text_fault line)) xs ys) ∙ e)

runs_apart : (ps : List SeenPiece) → AreFine ps → are_texts (units_of_all ps) ≡ true → unmarked_lines (text_of_all ps) ≡ lines_of (run_of_all ps)
unfolding AreFine run_of_all
runs_apart [] fine e = refl
runs_apart (p ∷ ps) fine e =
    let texts = texts_parts p.units (units_of_all ps) e in
    let run = fine.0 in
    ap (filter is_plain) (first_lines p (text_of_all ps) run (texts_lines p.units texts.0))
    ∙ filter_first is_plain p.units run.lines (lines_of (text_of_all ps))
    ∙ ap (λ (ls : List (List ℕ)). ls ++ (filter is_plain run.lines ++ unmarked_lines (text_of_all ps))) (filter_none is_plain p.units (all_double p.units fine.1))
    ∙ ap (λ (ls : List (List ℕ)). ls ++ unmarked_lines (text_of_all ps)) (filter_whole is_plain run.lines run.plain)
    ∙ ap (λ (ls : List (List ℕ)). run.lines ++ ls) (runs_apart ps fine.2 texts.1)
    ∙ sym (lines_front run.lines (run_of_all ps) run.whole)
    ∙ ap (λ (t : List ℕ). lines_of (t ++ run_of_all ps)) (sym run.is)

units_apart : (ps : List SeenPiece) → AreFine ps → are_texts (units_of_all ps) ≡ true → marked_lines (text_of_all ps) ≡ units_of_all ps
unfolding AreFine
units_apart [] fine e = refl
units_apart (p ∷ ps) fine e =
    let texts = texts_parts p.units (units_of_all ps) e in
    let run = fine.0 in
    ap (filter is_marked) (first_lines p (text_of_all ps) run (texts_lines p.units texts.0))
    ∙ filter_first is_marked p.units run.lines (lines_of (text_of_all ps))
    ∙ ap (λ (ls : List (List ℕ)). ls ++ (filter is_marked run.lines ++ marked_lines (text_of_all ps))) (filter_whole is_marked p.units fine.1)
    ∙ ap (λ (ls : List (List ℕ)). p.units ++ (ls ++ marked_lines (text_of_all ps))) (filter_none is_marked run.lines run.plain)
    ∙ ap (λ (ls : List (List ℕ)). p.units ++ ls) (units_apart ps fine.2 texts.1)

-- What is written of it by a run is the transcript.

pub text-append : (es fs : List Entry) (w : World) → transcript_of w (es ++ fs) ≡ transcript_of w es ++ transcript_of (after w es) fs
text-append [] fs w = refl
text-append (e ∷ es) fs w = ap (λ (t : List ℕ). event_told w e.event ++ t) (text-append es fs (effect w e)) ∙ sym (append_assoc (event_told w e.event) _ _)

run_pieces : (es : List Entry) (w : World) (t : Tracer) → run_of_all (pieces_of t w es) ≡ transcript_of w es
unfolding run_of_all
run_pieces [] w t = refl
run_pieces (e ∷ es) w t = ap (λ (text : List ℕ). event_told w e.event ++ text) (run_pieces es (effect w e) (views_passed (seen_of w e.event) t))

run_if : (b : Bool) (w : World) (ps : List SeenPiece) (es : List Entry) → run_of_all ps ≡ transcript_of w es → run_of_all (cond b [] ps) ≡ transcript_of w (cond b [] es)
unfolding run_of_all
run_if true w ps es e = refl
run_if false w ps es e = e

run_debug : (acts : List DebugAct) (os : List Dumped) (w : World) (t : Tracer) → run_of_all (debug_pieces acts os w t) ≡ transcript_of w (lines_story (plain_acts acts) os w)
unfolding run_of_all
run_debug [] os w t = run_pieces (halting w) w t
run_debug (Plain act ∷ acts) os w t =
    let es = line_story act os w in
    run_if w.stopping w (then_seen_pieces (debug_pieces acts) os w t es) (both_parts (line_story act) (lines_story (plain_acts acts)) os w)
    (flat_map-append (λ (p : SeenPiece). p.run) (pieces_of t w es) (debug_pieces acts (drop (length (outcomes_of es)) os) (after w es) (views_passed (views_in w es) t))
    ∙ ap (λ (text : List ℕ). text ++ run_of_all (debug_pieces acts (drop (length (outcomes_of es)) os) (after w es) (views_passed (views_in w es) t))) (run_pieces es w t)
    ∙ ap (λ (text : List ℕ). transcript_of w es ++ text) (run_debug acts (drop (length (outcomes_of es)) os) (after w es) (views_passed (views_in w es) t))
    ∙ sym (text-append es (lines_story (plain_acts acts) (drop (length (outcomes_of es)) os) (after w es)) w))
run_debug (Break program line ∷ acts) os w t = run_debug acts os w (with_break (record { program = program; line = line }) t)
run_debug (Clear program line ∷ acts) os w t = run_debug acts os w (without_break (record { program = program; line = line }) t)
run_debug (Trace on ∷ acts) os w t = run_debug acts os w (record t { on = on })

dump_silent : (o : Dumped) (w : World) → transcript_of w (dump_entries o) ≡ []
unfolding event_told
dump_silent (stored k) w = refl
dump_silent (failed k) w = refl

lines_written : (acts : List Act) (os : List Dumped) (w : World) → transcript_of w (lines_story acts os w) ≡ transcript acts os w
lines_written acts os w =
    let es = lines_story acts os w in
    sym (
    text-append es (dump_part (drop (length (outcomes_of es)) os) (after w es)) w
    ∙ ap (λ (text : List ℕ). transcript_of w es ++ text) (dump_silent (next_outcome (drop (length (outcomes_of es)) os)) (after w es))
    ∙ append-nil (transcript_of w es)
    )

pub shows_apart : ShowsApart
shows_apart acts os w t e =
    let ps = debug_pieces acts os w t in
    record {
      run = runs_apart ps (fine_debug acts os w t) e ∙ ap lines_of (run_debug acts os w t ∙ lines_written (plain_acts acts) os w);
      units = units_apart ps (fine_debug acts os w t) e;
    }
