-- A text is sent line by line, and what has to go for it goes at once.
use Rattle.std.proofs.Common.{◌≡◌, ℕ, ◌+◌, ◌-◌, ◌<◌, ◌≤◌, Bool, true, false, cond, leb, List, [], ◌∷◌, ◌++◌, length, drop, refl, sym, subst, ◌∙◌, ap, arith, length-drop}
use Rattle.std.proofs.lemmas.Bool.{cond_both, cond-true, le-leb, leb-true, leb-false}
use Rattle.std.proofs.lemmas.List.{append_assoc}
use Rattle.spec_live.specs.Connections.{Connection, text_told}
use Rattle.spec_live.specs.Output.{Output, notice, text_sent, sent_lines, sent_form, sent_lines_bytes, newest, line_sent, lines_sent, queue_most, room_for}
use Rattle.muck_board.specs.declared.output.Begun.{Begun}
use Rattle.muck_board.specs.declared.output.Begun.TheVariants.{Line, Notice}
use Rattle.muck_board.specs.inner.Waiting.{Waiting, Begins}
use Rattle.muck_board.specs.inner.Bounded.{IsBounded, rest_of, kept_newest}
use Rattle.muck_board.specs.inner.Silent.{told_lines}
use Rattle.muck_board.proofs.Outputs.{lines_length, none_length, pushed_length, newest_fits, newest_next}

pub newest_most : (room : ℕ) (lines : List (List ℕ)) → length (sent_lines_bytes (newest room lines)) ≤ room
unfolding newest
newest_most room [] = omega (arith, none_length)
newest_most room (line ∷ lines) = cond_both _ _ _ (λ ls. length (sent_lines_bytes ls) ≤ room) (λ h. leb-true (length (sent_lines_bytes (line ∷ lines))) room h) (λ h. newest_most room lines)

none_again : (room more : ℕ) → newest room (newest more []) ≡ newest room []
unfolding newest
none_again room more = refl

-- what stays of less was among what stayed of more
newest_again : (room more : ℕ) (lines : List (List ℕ)) → room ≤ more → newest room (newest more lines) ≡ newest room lines
newest_again room more [] h = none_again room more
newest_again room more (line ∷ lines) h =
    elim (leb (length (sent_lines_bytes (line ∷ lines))) more) as (λ r. leb (length (sent_lines_bytes (line ∷ lines))) more ≡ r → newest room (newest more (line ∷ lines)) ≡ newest room (line ∷ lines)) [
      | true ↦ λ e. ap (newest room) (newest_fits more (line ∷ lines) (leb-true (length (sent_lines_bytes (line ∷ lines))) more e))
      | false ↦ λ e.
          let over : more < length (sent_lines_bytes (line ∷ lines)) = leb-false (length (sent_lines_bytes (line ∷ lines))) more e in
          ap (newest room) (newest_next more line lines over) ∙ newest_again room more lines h ∙ sym (newest_next room line lines (omega (arith, over, h)))
    ] refl

-- a line at the end stays
newest_pushed : (room : ℕ) (lines : List (List ℕ)) (line : List ℕ) → length (sent_form line) ≤ room → newest room (lines ++ line ∷ []) ≡ newest (room - length (sent_form line)) lines ++ line ∷ []
newest_pushed room [] line h = newest_fits room (line ∷ []) (omega (arith, lines_length line [], none_length)) ∙ sym (ap (λ ls. ls ++ line ∷ []) (newest_fits _ [] (omega (arith, none_length))))
newest_pushed room (first ∷ lines) line h =
    let less : ℕ = room - length (sent_form line) in
    let as_many : length (sent_lines_bytes (first ∷ (lines ++ line ∷ []))) ≡ length (sent_lines_bytes (first ∷ lines)) + length (sent_form line) = pushed_length line (first ∷ lines) in
    elim (leb (length (sent_lines_bytes (first ∷ lines))) less) as (λ r. leb (length (sent_lines_bytes (first ∷ lines))) less ≡ r → newest room (first ∷ (lines ++ line ∷ [])) ≡ newest less (first ∷ lines) ++ line ∷ []) [
      | true ↦ λ e.
          let fits : length (sent_lines_bytes (first ∷ lines)) ≤ less = leb-true (length (sent_lines_bytes (first ∷ lines))) less e in
          newest_fits room (first ∷ (lines ++ line ∷ [])) (omega (arith, as_many, fits, h)) ∙ sym (ap (λ ls. ls ++ line ∷ []) (newest_fits less (first ∷ lines) fits))
      | false ↦ λ e.
          let over : less < length (sent_lines_bytes (first ∷ lines)) = leb-false (length (sent_lines_bytes (first ∷ lines))) less e in
          newest_next room first (lines ++ line ∷ []) (omega (arith, as_many, over, h)) ∙ newest_pushed room lines line h ∙ sym (ap (λ ls. ls ++ line ∷ []) (newest_next less first lines over))
    ] refl

-- with room for so many bytes, and then with lines at the end
pub kept : ℕ → List (List ℕ) → Output → Output
kept room lines o = record o { flushed = cond (leb (length (sent_lines_bytes o.lines)) room) o.flushed true; lines = newest room o.lines ++ lines }

kept_is : (room : ℕ) (lines : List (List ℕ)) (o : Output) → (let k = kept_newest room o in record k { lines = k.lines ++ lines }) ≡ kept room lines o
unfolding kept
kept_is room lines o =
    elim (leb (length (sent_lines_bytes o.lines)) room) as (λ r. leb (length (sent_lines_bytes o.lines)) room ≡ r →
    (let k = cond r o (record o { flushed = true; lines = newest room o.lines }) in record k { lines = k.lines ++ lines }) ≡ record o { flushed = cond r o.flushed true; lines = newest room o.lines ++ lines }) [
      | true ↦ λ e. ap (λ ls. record o { lines = ls ++ lines }) (sym (newest_fits room o.lines (leb-true (length (sent_lines_bytes o.lines)) room e)))
      | false ↦ λ e. refl
    ] refl

line_kept : (line : List ℕ) (o : Output) → line_sent line o ≡ kept (room_for line o) (line ∷ []) o
unfolding line_sent kept
line_kept line o =
    elim (leb (length (sent_lines_bytes o.lines)) (room_for line o)) as (λ r. leb (length (sent_lines_bytes o.lines)) (room_for line o) ≡ r →
    cond r (record o { lines = o.lines ++ line ∷ [] }) (record o { flushed = true; lines = newest (room_for line o) o.lines ++ line ∷ [] }) ≡ record o { flushed = cond r o.flushed true; lines = newest (room_for line o) o.lines ++ line ∷ [] }) [
      | true ↦ λ e. ap (λ ls. record o { lines = ls ++ line ∷ [] }) (sym (newest_fits (room_for line o) o.lines (leb-true (length (sent_lines_bytes o.lines)) (room_for line o) e)))
      | false ↦ λ e. refl
    ] refl

-- The notice stands where a line or one of the others has no room.
flushed_twice : (room more : ℕ) (line : List ℕ) (old : List (List ℕ)) (flushed : Bool) → room ≤ more →
    cond (leb (length (sent_lines_bytes (newest more old ++ line ∷ []))) (room + length (sent_form line))) (cond (leb (length (sent_lines_bytes old)) more) flushed true) true ≡ cond (leb (length (sent_lines_bytes old)) room) flushed true
flushed_twice room more line old flushed h =
    let pushed = pushed_length line (newest more old) in
    elim (leb (length (sent_lines_bytes old)) room) as (λ r. leb (length (sent_lines_bytes old)) room ≡ r →
    cond (leb (length (sent_lines_bytes (newest more old ++ line ∷ []))) (room + length (sent_form line))) (cond (leb (length (sent_lines_bytes old)) more) flushed true) true ≡ cond r flushed true) [
      | true ↦ λ e.
          let fits : length (sent_lines_bytes old) ≤ room = leb-true (length (sent_lines_bytes old)) room e in
          let same = ap (λ ls. length (sent_lines_bytes ls)) (newest_fits more old (omega (arith, fits, h))) in
          let first : length (sent_lines_bytes (newest more old ++ line ∷ [])) ≤ room + length (sent_form line) = omega (arith, pushed, same, fits) in
          let second : length (sent_lines_bytes old) ≤ more = omega (arith, fits, h) in
          cond-true _ _ _ (le-leb _ _ first) ∙ cond-true _ _ _ (le-leb _ _ second)
      | false ↦ λ e.
          let over : room < length (sent_lines_bytes old) = leb-false (length (sent_lines_bytes old)) room e in
          cond_both (leb (length (sent_lines_bytes (newest more old ++ line ∷ []))) (room + length (sent_form line))) _ _ (λ r. r ≡ true)
          (λ f. cond_both (leb (length (sent_lines_bytes old)) more) _ _ (λ r. r ≡ true)
          (λ g.
          let same = ap (λ ls. length (sent_lines_bytes ls)) (newest_fits more old (leb-true (length (sent_lines_bytes old)) more g)) in
          absurd (omega (arith, pushed, same, over, leb-true (length (sent_lines_bytes (newest more old ++ line ∷ []))) (room + length (sent_form line)) f)))
          (λ g. refl))
          (λ f. refl)
    ] refl

-- room for a line, and then for others
kept_twice : (room more : ℕ) (line : List ℕ) (lines : List (List ℕ)) (o : Output) → room ≤ more →
    kept (room + length (sent_form line)) lines (kept more (line ∷ []) o) ≡ kept room (line ∷ lines) o
unfolding kept
kept_twice room more line lines o h =
    let less : room + length (sent_form line) - length (sent_form line) ≡ room = omega arith in
    let stays : newest (room + length (sent_form line)) (newest more o.lines ++ line ∷ []) ≡ newest room o.lines ++ line ∷ [] =
    newest_pushed (room + length (sent_form line)) (newest more o.lines) line (omega arith) ∙ ap (λ n. newest n (newest more o.lines) ++ line ∷ []) less ∙ ap (λ ls. ls ++ line ∷ []) (newest_again room more o.lines h) in
    (λ i. record o { flushed = flushed_twice room more line o.lines o.flushed h i; lines = stays i ++ lines })
    ∙ ap (λ ls. record o { flushed = cond (leb (length (sent_lines_bytes o.lines)) room) o.flushed true; lines = ls }) (append_assoc (newest room o.lines) (line ∷ []) lines)

rest_stays : (more : ℕ) (line : List ℕ) (lines : List (List ℕ)) (o : Output) → length o.rest + length (sent_lines_bytes lines) ≤ queue_most → length (kept more (line ∷ []) o).rest + length (sent_lines_bytes lines) ≤ queue_most
unfolding kept
rest_stays more line lines o h = h

kept_others : {n : ℕ} (more : ℕ) (line : List ℕ) (lines : List (List ℕ)) (o : Output) → queue_most - (length o.rest + length (sent_lines_bytes lines)) ≡ n →
    kept (queue_most - (length (kept more (line ∷ []) o).rest + length (sent_lines_bytes lines))) lines (kept more (line ∷ []) o) ≡ kept n lines (kept more (line ∷ []) o)
unfolding kept
kept_others more line lines o e = ap (λ n. kept n lines (kept more (line ∷ []) o)) e

-- All lines are sent at once.
pub all_sent : (line : List ℕ) (lines : List (List ℕ)) (o : Output) → length o.rest + length (sent_lines_bytes (line ∷ lines)) ≤ queue_most →
    lines_sent (line ∷ lines) o ≡ kept (queue_most - (length o.rest + length (sent_lines_bytes (line ∷ lines)))) (line ∷ lines) o
unfolding lines_sent
all_sent line [] o h =
    let as_many : length (sent_lines_bytes (line ∷ [])) ≡ length (sent_form line) = omega (arith, lines_length line [], none_length) in
    line_kept line o ∙ ap (λ n. kept (queue_most - (length o.rest + n)) (line ∷ []) o) (sym as_many)
all_sent line (next ∷ lines) o h =
    let rest : ℕ = length o.rest in
    let all = lines_length line (next ∷ lines) in
    let room : ℕ = queue_most - (rest + length (sent_lines_bytes (line ∷ next ∷ lines))) in
    let others : queue_most - (rest + length (sent_lines_bytes (next ∷ lines))) ≡ room + length (sent_form line) = omega (arith, all, h) in
    ap (λ p. lines_sent (next ∷ lines) p) (line_kept line o)
    ∙ all_sent next lines (kept (room_for line o) (line ∷ []) o) (rest_stays (room_for line o) line (next ∷ lines) o (omega (arith, all, h)))
    ∙ kept_others (room_for line o) line (next ∷ lines) o others
    ∙ kept_twice room (room_for line o) line (next ∷ lines) o (omega (arith, all, h))

-- Where there was room made, lines go to the end.
pub sent_at_once : (lines : List (List ℕ)) (o made new : Output) (room : ℕ) → 0 < length (sent_lines_bytes lines) → length o.rest + length (sent_lines_bytes lines) ≤ queue_most →
    room ≡ queue_most - (length o.rest + length (sent_lines_bytes lines)) → made ≡ kept_newest room o → new ≡ record made { lines = made.lines ++ lines } → new ≡ lines_sent lines o
sent_at_once [] o made new room some h r m n = absurd (omega (arith, none_length, some))
sent_at_once (line ∷ lines) o made new room some h r m n =
    n ∙ ap {A = Output} {B = Output} (λ k. record k { lines = k.lines ++ line ∷ lines }) m ∙ kept_is room (line ∷ lines) o ∙ ap (λ n. kept n (line ∷ lines) o) r ∙ sym (all_sent line lines o h)

-- a text whose lines were sent was sent
pub told_is : (text : List ℕ) (lines : List (List ℕ)) (c new : Connection) → lines ≡ sent_lines text → new ≡ told_lines lines c → new ≡ text_told text c
unfolding text_sent
told_is text lines c new e h = h ∙ ap (λ ls. told_lines ls c) e

-- no more of the notice is left than it has
notice_length : length notice ≡ 18
unfolding notice
notice_length = refl

pub notice_advances : (begun : Begun) (from n : ℕ) (waiting : Waiting) (flushed : Bool) → begun ≡ Notice from → IsBounded begun (record { rest = rest_of begun waiting; flushed = flushed; lines = waiting.lines }) → n ≤ length (rest_of begun waiting)
    → IsBounded (Notice (from + n)) (record { rest = drop (from + n) notice; flushed = flushed; lines = waiting.lines })
notice_advances begun from n waiting flushed e bounded within =
    let P : Begun → Type 0 = λ b. IsBounded b (record { rest = rest_of b waiting; flushed = flushed; lines = waiting.lines }) in
    let here : P (Notice from) = subst P e bounded in
    let few : n ≤ length (drop from notice) = subst (λ b. n ≤ length (rest_of b waiting)) e within in
    let before = length-drop from notice in
    let after = length-drop (from + n) notice in
    record {
      within = omega (arith, notice_length, before, few, here.within);
      rest = omega (arith, notice_length, after);
      most = omega (arith, before, after, here.most);
    }

-- what was begun doesn't change with the lines behind it
pub rest_same : (begun : Begun) (waiting : Waiting) (lines : List (List ℕ)) → rest_of begun (record waiting { lines = lines }) ≡ rest_of begun waiting
rest_same Line waiting lines = refl
rest_same (Notice from) waiting lines = refl

pub notice_begins : (begun : Begun) (waiting : Waiting) (flushed : Bool) → flushed ≡ true → IsBounded begun (record { rest = rest_of begun waiting; flushed = flushed; lines = waiting.lines })
    → IsBounded (Notice 0) (record { rest = drop 0 notice; flushed = false; lines = waiting.lines })
notice_begins begun waiting flushed stands bounded =
    let here : IsBounded begun (record { rest = rest_of begun waiting; flushed = true; lines = waiting.lines }) = subst (λ f. IsBounded begun (record { rest = rest_of begun waiting; flushed = f; lines = waiting.lines })) stands bounded in
    record { within = omega arith; rest = omega (arith, notice_length); most = omega (arith, notice_length, here.most) }

pub line_begins : (begun : Begun) (old new : Waiting) (flushed : Bool) → flushed ≡ false → Begins old new → IsBounded begun (record { rest = rest_of begun old; flushed = flushed; lines = old.lines })
    → IsBounded Line (record { rest = new.begun; flushed = flushed; lines = new.lines })
line_begins begun old new flushed none begins bounded =
    let as_many : length (sent_lines_bytes old.lines) ≡ length (sent_form begins.line) + length (sent_lines_bytes new.lines) = ap (λ ls. length (sent_lines_bytes ls)) begins.first ∙ lines_length begins.line new.lines in
    record { within = tt; rest = begins.short; most = omega (arith, as_many, ap length begins.begun, bounded.most) }
