-- The laws of what waits to be sent.
use Rattle.std.proofs.Common.{◌≡◌, ℕ, ◌+◌, ◌-◌, ◌<◌, ◌≤◌, Bool, true, false, cond, eqb, leb, ltb, List, [], ◌∷◌, ◌++◌, length, take, drop, refl, sym, ◌∙◌, ap, arith, length-append, length-drop}
use Rattle.std.proofs.lemmas.Bool.{cond_both, cond-true, cond-false, eqb-true, eqb-false, leb-true, leb-false, ltb-true, ltb-false, le-leb, lt-ltb, lt-leb, le-ltb, ne_eqb}
use Rattle.std.proofs.lemmas.List.{drop-append-le, take-append-le, drop-drop, drop_all}
use Rattle.std.proofs.lemmas.Grind.{flat_map-append}
use Rattle.std.proofs.Math.Seq.{take-add}
use Rattle.std.specs.List.{flat_map}
use Rattle.muck_laws.proofs.Parts.{drop_behind}
use Rattle.spec_live.specs.Output.{Output, sent_form, notice, notice_of, sent_lines_bytes, bytes_of, newest, lines_taken, notice_taken, output_taken}

-- Counts.

pub bytes_length : (o : Output) → length (bytes_of o) ≡ length o.rest + (length (notice_of o.flushed) + length (sent_lines_bytes o.lines))
unfolding bytes_of
bytes_length o = length-append o.rest _ ∙ ap (λ n. length o.rest + n) (length-append (notice_of o.flushed) _)

pub lines_length : (line : List ℕ) (lines : List (List ℕ)) → length (sent_lines_bytes (line ∷ lines)) ≡ length (sent_form line) + length (sent_lines_bytes lines)
unfolding sent_lines_bytes
lines_length line lines = length-append (sent_form line) _

pub pushed_length : (line : List ℕ) (lines : List (List ℕ)) → length (sent_lines_bytes (lines ++ line ∷ [])) ≡ length (sent_lines_bytes lines) + length (sent_form line)
unfolding sent_lines_bytes
pushed_length line lines =
    ap length (flat_map-append sent_form lines (line ∷ []))
    ∙ length-append (flat_map sent_form lines) _
    ∙ ap (λ n. length (flat_map sent_form lines) + n) (length-append (sent_form line) [] ∙ (omega arith))

pub none_length : length (sent_lines_bytes []) ≡ 0
unfolding sent_lines_bytes
none_length = refl

pub sent_length : (line : List ℕ) → length (sent_form line) ≡ length line + 2
sent_length line = length-append line _

pub notice_most : (flushed : Bool) → length (notice_of flushed) ≤ 18
unfolding notice
notice_most true = omega arith
notice_most false = omega arith

pub notice_some : 0 < length notice
unfolding notice
notice_some = omega arith

-- Flushing.

pub newest_fits : (room : ℕ) (lines : List (List ℕ)) → length (sent_lines_bytes lines) ≤ room → newest room lines ≡ lines
unfolding newest
newest_fits room [] h = refl
newest_fits room (line ∷ lines) h = cond-true _ _ _ (le-leb _ _ h)

pub newest_next : (room : ℕ) (line : List ℕ) (lines : List (List ℕ)) → room < length (sent_lines_bytes (line ∷ lines)) → newest room (line ∷ lines) ≡ newest room lines
unfolding newest
newest_next room line lines h = cond-false _ _ _ (lt-leb _ _ h)

-- Taking.

lines_left : (n : ℕ) (lines : List (List ℕ)) → bytes_of (lines_taken n lines) ≡ drop n (sent_lines_bytes lines)
unfolding bytes_of sent_lines_bytes lines_taken
lines_left n [] = sym (drop_all n [] (omega arith))
lines_left n (line ∷ lines) =
    let P : Output → Type 0 = λ o. bytes_of o ≡ drop n (sent_form line ++ sent_lines_bytes lines) in
    cond_both (eqb n 0) _ _ P
    (λ e. ap (λ k. drop k (sent_form line ++ sent_lines_bytes lines)) (sym (eqb-true n 0 e)))
    (λ e. cond_both (leb (length (sent_form line)) n) _ _ P
    (λ h. lines_left (n - length (sent_form line)) lines ∙ sym (drop_behind n (sent_form line) (sent_lines_bytes lines) (leb-true _ _ h)))
    (λ h. sym (drop-append-le n (sent_form line) (sent_lines_bytes lines) (omega (arith, leb-false (length (sent_form line)) n h)))))

notice_left : (n : ℕ) (lines : List (List ℕ)) → bytes_of (notice_taken n lines) ≡ drop n (notice ++ sent_lines_bytes lines)
unfolding bytes_of notice_taken
notice_left n lines =
    let P : Output → Type 0 = λ o. bytes_of o ≡ drop n (notice ++ sent_lines_bytes lines) in
    cond_both (eqb n 0) _ _ P
    (λ e. ap (λ k. drop k (notice ++ sent_lines_bytes lines)) (sym (eqb-true n 0 e)))
    (λ e. cond_both (leb (length notice) n) _ _ P
    (λ h. lines_left (n - length notice) lines ∙ sym (drop_behind n notice (sent_lines_bytes lines) (leb-true _ _ h)))
    (λ h. sym (drop-append-le n notice (sent_lines_bytes lines) (omega (arith, leb-false (length notice) n h)))))

behind_left : (n : ℕ) (flushed : Bool) (lines : List (List ℕ)) → bytes_of (cond flushed (notice_taken n lines) (lines_taken n lines)) ≡ drop n (notice_of flushed ++ sent_lines_bytes lines)
behind_left n true lines = notice_left n lines
behind_left n false lines = lines_left n lines

-- What is left after the first n bytes were taken is what stood behind them.
pub taken_left : (n : ℕ) (o : Output) → bytes_of (output_taken n o) ≡ drop n (bytes_of o)
unfolding output_taken bytes_of
taken_left n o =
    let more : List ℕ = notice_of o.flushed ++ sent_lines_bytes o.lines in
    cond_both (ltb n (length o.rest)) _ _ (λ p. bytes_of p ≡ drop n (o.rest ++ more))
    (λ h. sym (drop-append-le n o.rest more (omega (arith, ltb-true n (length o.rest) h))))
    (λ h. behind_left (n - length o.rest) o.flushed o.lines ∙ sym (drop_behind n o.rest more (ltb-false _ _ h)))

-- Taking in parts.

behind : ℕ → Bool → List (List ℕ) → Output
behind n flushed lines = cond flushed (notice_taken n lines) (lines_taken n lines)

of_lines : List ℕ → List (List ℕ) → Output
of_lines rest lines = record { rest = rest; flushed = false; lines = lines }

behind_none : (flushed : Bool) (lines : List (List ℕ)) → behind 0 flushed lines ≡ record { rest = []; flushed = flushed; lines = lines }
unfolding behind notice_taken lines_taken
behind_none true lines = refl
behind_none false [] = refl
behind_none false (line ∷ lines) = refl

-- as much as was begun
pub taken_rest : (k : ℕ) (o : Output) → k ≤ length o.rest → output_taken k o ≡ record o { rest = drop k o.rest }
unfolding output_taken behind
taken_rest k o h =
    cond_both (ltb k (length o.rest)) _ _ (λ p. p ≡ record o { rest = drop k o.rest })
    (λ e. refl)
    (λ e. ap (λ m. behind m o.flushed o.lines) (omega (arith, ltb-false k (length o.rest) e)) ∙ behind_none o.flushed o.lines
    ∙ ap (λ r. record o { rest = r }) (sym (drop_all k o.rest (ltb-false k (length o.rest) e))))

taken_lines : (k : ℕ) (lines : List (List ℕ)) → output_taken k (of_lines [] lines) ≡ lines_taken k lines
unfolding output_taken of_lines
taken_lines k lines = cond-false _ _ _ (le-ltb k 0 (omega arith)) ∙ ap (λ m. lines_taken m lines) (omega arith)

taken_notice : (k : ℕ) (lines : List (List ℕ)) → output_taken k (record { rest = []; flushed = true; lines = lines }) ≡ notice_taken k lines
unfolding output_taken
taken_notice k lines = cond-false _ _ _ (le-ltb k 0 (omega arith)) ∙ ap (λ m. notice_taken m lines) (omega arith)

-- so many bytes of one line, and of the lines behind it
through : ℕ → List ℕ → List (List ℕ) → Output
through n xs lines = cond (leb (length xs) n) (lines_taken (n - length xs) lines) (of_lines (drop n xs) lines)

lines_begun : (n : ℕ) (line : List ℕ) (lines : List (List ℕ)) → 0 < n → lines_taken n (line ∷ lines) ≡ through n (sent_form line) lines
unfolding lines_taken through of_lines
lines_begun n line lines h = cond-false _ _ _ (ne_eqb n 0 (λ e. omega arith))

notice_begun : (n : ℕ) (lines : List (List ℕ)) → 0 < n → notice_taken n lines ≡ through n notice lines
unfolding notice_taken through of_lines
notice_begun n lines h = cond-false _ _ _ (ne_eqb n 0 (λ e. omega arith))

through_more : (k m : ℕ) (xs : List ℕ) (lines : List (List ℕ)) → m ≤ length xs → output_taken k (of_lines (drop m xs) lines) ≡ through (m + k) xs lines
unfolding output_taken through of_lines
through_more k m xs lines h =
    let left : length (drop m xs) ≡ length xs - m = length-drop m xs in
    cond_both (leb (length xs) (m + k)) _ _ (λ p. output_taken k (of_lines (drop m xs) lines) ≡ p)
    (λ e.
    let over : length xs ≤ m + k = leb-true (length xs) (m + k) e in
    cond-false _ _ _ (le-ltb k (length (drop m xs)) (omega arith)) ∙ ap (λ n. lines_taken n lines) (omega arith))
    (λ e.
    let under : m + k < length xs = leb-false (length xs) (m + k) e in
    cond-true _ _ _ (lt-ltb k (length (drop m xs)) (omega arith)) ∙ ap (λ r. of_lines r lines) (drop-drop k m xs))

lines_more : (k n : ℕ) (lines : List (List ℕ)) → output_taken k (lines_taken n lines) ≡ lines_taken (n + k) lines
unfolding lines_taken of_lines through
lines_more k n [] = taken_lines k []
lines_more k n (line ∷ lines) =
    let P : Output → Type 0 = λ o. output_taken k o ≡ lines_taken (n + k) (line ∷ lines) in
    cond_both (eqb n 0) _ _ P
    (λ e.
    let none : n ≡ 0 = eqb-true n 0 e in
    taken_lines k (line ∷ lines) ∙ ap (λ m. lines_taken m (line ∷ lines)) (omega arith))
    (λ e.
    let some : 0 < n = omega (arith, eqb-false n 0 e) in
    cond_both (leb (length (sent_form line)) n) _ _ P
    (λ h.
    let over : length (sent_form line) ≤ n = leb-true (length (sent_form line)) n h in
    lines_more k (n - length (sent_form line)) lines ∙ ap (λ m. lines_taken m lines) (omega arith)
    ∙ sym (lines_begun (n + k) line lines (omega arith) ∙ cond-true _ _ _ (le-leb (length (sent_form line)) (n + k) (omega arith))))
    (λ h.
    let under : n < length (sent_form line) = leb-false (length (sent_form line)) n h in
    through_more k n (sent_form line) lines (omega arith) ∙ sym (lines_begun (n + k) line lines (omega arith))))

notice_more : (k n : ℕ) (lines : List (List ℕ)) → output_taken k (notice_taken n lines) ≡ notice_taken (n + k) lines
unfolding notice_taken of_lines through
notice_more k n lines =
    let P : Output → Type 0 = λ o. output_taken k o ≡ notice_taken (n + k) lines in
    cond_both (eqb n 0) _ _ P
    (λ e.
    let none : n ≡ 0 = eqb-true n 0 e in
    taken_notice k lines ∙ ap (λ m. notice_taken m lines) (omega arith))
    (λ e.
    let some : 0 < n = omega (arith, eqb-false n 0 e) in
    cond_both (leb (length notice) n) _ _ P
    (λ h.
    let over : length notice ≤ n = leb-true (length notice) n h in
    lines_more k (n - length notice) lines ∙ ap (λ m. lines_taken m lines) (omega arith)
    ∙ sym (notice_begun (n + k) lines (omega arith) ∙ cond-true _ _ _ (le-leb (length notice) (n + k) (omega arith))))
    (λ h.
    let under : n < length notice = leb-false (length notice) n h in
    through_more k n notice lines (omega arith) ∙ sym (notice_begun (n + k) lines (omega arith))))

behind_more : (k n : ℕ) (flushed : Bool) (lines : List (List ℕ)) → output_taken k (behind n flushed lines) ≡ behind (n + k) flushed lines
unfolding behind
behind_more k n true lines = notice_more k n lines
behind_more k n false lines = lines_more k n lines

-- Taking n bytes and then k more is taking n + k.
pub taken_more : (k n : ℕ) (o : Output) → output_taken k (output_taken n o) ≡ output_taken (n + k) o
unfolding output_taken behind
taken_more k n o =
    cond_both (ltb n (length o.rest)) _ _ (λ p. output_taken k p ≡ output_taken (n + k) o)
    (λ e.
    let some : n < length o.rest = ltb-true n (length o.rest) e in
    let left : length (drop n o.rest) ≡ length o.rest - n = length-drop n o.rest in
    cond_both (ltb (n + k) (length o.rest)) _ _ (λ p. output_taken k (record o { rest = drop n o.rest }) ≡ p)
    (λ f.
    let under : n + k < length o.rest = ltb-true (n + k) (length o.rest) f in
    cond-true _ _ _ (lt-ltb k (length (drop n o.rest)) (omega arith)) ∙ ap (λ r. record o { rest = r }) (drop-drop k n o.rest))
    (λ f.
    let over : length o.rest ≤ n + k = ltb-false (n + k) (length o.rest) f in
    cond-false _ _ _ (le-ltb k (length (drop n o.rest)) (omega arith)) ∙ ap (λ m. behind m o.flushed o.lines) (omega arith)))
    (λ e.
    let over : length o.rest ≤ n = ltb-false n (length o.rest) e in
    behind_more k (n - length o.rest) o.flushed o.lines
    ∙ sym (cond-false _ _ _ (le-ltb (n + k) (length o.rest) (omega arith)) ∙ ap (λ m. behind m o.flushed o.lines) (omega arith)))

-- a part more was taken
pub took : (n k : ℕ) (bytes old new : List ℕ) (o : Output) → bytes_of o ≡ drop n bytes → k ≤ length o.rest → take n old ≡ take n bytes →
    take (n + k) new ≡ take n old ++ take k o.rest → take (n + k) new ≡ take (n + k) bytes
unfolding bytes_of
took n k bytes old new o left within before now =
    now ∙ ap (λ l. l ++ take k o.rest) before
    ∙ ap (λ l. take n bytes ++ l) (sym (take-append-le k o.rest (notice_of o.flushed ++ sent_lines_bytes o.lines) within) ∙ ap (take k) left)
    ∙ sym (take-add n k bytes)

-- what was begun is the front
pub rest_within : (o : Output) → length o.rest ≤ length (bytes_of o)
rest_within o = omega (arith, bytes_length o)

-- Beginning with the notice, or with a line, changes nothing of what is taken.
pub notice_first : (k : ℕ) (rest : List ℕ) (flushed : Bool) (lines : List (List ℕ)) → 0 < k → rest ≡ [] → flushed ≡ true →
    output_taken k (record { rest = notice; flushed = false; lines = lines }) ≡ output_taken k (record { rest = rest; flushed = flushed; lines = lines })
unfolding of_lines
notice_first k rest flushed lines h none stands =
    let as_many : 0 + k ≡ k = omega arith in
    rw (none, stands) (through_more k 0 notice lines (omega arith) ∙ ap (λ m. through m notice lines) as_many ∙ sym (notice_begun k lines h) ∙ sym (taken_notice k lines))

pub line_first : (k : ℕ) (line rest : List ℕ) (flushed : Bool) (lines all : List (List ℕ)) → 0 < k → rest ≡ [] → flushed ≡ false → all ≡ line ∷ lines →
    output_taken k (record { rest = sent_form line; flushed = flushed; lines = lines }) ≡ output_taken k (record { rest = rest; flushed = flushed; lines = all })
unfolding of_lines
line_first k line rest flushed lines all h none stands e =
    let as_many : 0 + k ≡ k = omega arith in
    rw (none, stands, e) (through_more k 0 (sent_form line) lines (omega arith) ∙ ap (λ m. through m (sent_form line) lines) as_many ∙ sym (lines_begun k line lines h) ∙ sym (taken_lines k (line ∷ lines)))

-- what is sent stays the same then
pub same_notice : (rest : List ℕ) (flushed : Bool) (lines : List (List ℕ)) → rest ≡ [] → flushed ≡ true →
    bytes_of (record { rest = notice; flushed = false; lines = lines }) ≡ bytes_of (record { rest = rest; flushed = flushed; lines = lines })
unfolding bytes_of
same_notice rest flushed lines none stands = rw (none, stands) refl

pub same_line : (line rest : List ℕ) (flushed : Bool) (lines all : List (List ℕ)) → rest ≡ [] → flushed ≡ false → all ≡ line ∷ lines →
    bytes_of (record { rest = sent_form line; flushed = flushed; lines = lines }) ≡ bytes_of (record { rest = rest; flushed = flushed; lines = all })
unfolding bytes_of sent_lines_bytes
same_line line rest flushed lines all none stands e = rw (none, stands, e) refl

pub nothing_waits : (rest : List ℕ) (flushed : Bool) (lines : List (List ℕ)) → rest ≡ [] → flushed ≡ false → lines ≡ [] →
    bytes_of (record { rest = rest; flushed = flushed; lines = lines }) ≡ []
unfolding bytes_of sent_lines_bytes
nothing_waits rest flushed lines none stands e = rw (none, stands, e) refl
