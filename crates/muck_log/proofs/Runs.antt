-- Reading over whole parts.
use Rattle.std.proofs.Common.{◌≡◌, ◌≢◌, ℕ, ◌+◌, ◌<◌, ◌^◌, true, eqb, List, [], ◌∷◌, ◌++◌, length, take, drop, get_or, Some, refl, sym, ◌∙◌, ap, arith, length-append, append_assoc, take-append-drop}
use Rattle.std.proofs.lemmas.List.{append-nil, take-take, drop-take}
use Rattle.std.proofs.lemmas.Bool.{cond-true, cond-false, eq-eqb, ne_eqb}
use Rattle.std.proofs.lemmas.Nat.{from_be_bytes-to_be_bytes_8}
use Rattle.std.specs.Int.{w64, to_be_bytes, from_be_bytes}
use Rattle.muck_log.specs.File.{Held, FileReading, gate_at, byte_step, byte_stepped, run, length_read, body_judged, join}
use Rattle.muck_log.specs.Store.{framed}
use Rattle.muck_log.specs.inner.Head.{is_over}
use Rattle.muck_log.specs.declared.reader.Mode.{Mode}
use Rattle.muck_log.specs.declared.reader.Mode.TheVariants.{Gate, Size, Body as InBody, Shut, Broken}

pub run-append : (r : FileReading) (xs ys : List ℕ) → run r (xs ++ ys) ≡ run (run r xs) ys
unfolding run
run-append r [] ys = refl
run-append r (x ∷ xs) ys = run-append (byte_step r x) xs ys

abbrev pub shut_at : ℕ → Held → FileReading
shut_at place held = record { place = place; mode = Shut; size = 0; bytes = []; held = held }

abbrev pub size_at : ℕ → Held → List ℕ → FileReading
size_at place held bytes = record { place = place; mode = Size; size = 8; bytes = bytes; held = held }

abbrev pub body_at : ℕ → Held → ℕ → List ℕ → FileReading
body_at place held size bytes = record { place = place; mode = InBody; size = size; bytes = bytes; held = held }

-- a closed gate ends it
pub run_shut : (place : ℕ) (held : Held) (xs : List ℕ) → run (shut_at place held) xs ≡ shut_at place held
unfolding run byte_step
run_shut place held [] = refl
run_shut place held (x ∷ xs) = run_shut place held xs

pub gate_shut : (place : ℕ) (held : Held) (b : ℕ) → b ≢ 1 → byte_step (gate_at place held) b ≡ shut_at place held
unfolding byte_step gate_at
gate_shut place held b shut = cond-false (eqb b 1) _ _ (ne_eqb b 1 shut)

pub gate_open : (place : ℕ) (held : Held) → byte_step (gate_at place held) 1 ≡ size_at place held []
unfolding byte_step gate_at
gate_open place held = refl

pub run_closed : (place : ℕ) (held : Held) (b : ℕ) (xs : List ℕ) → b ≢ 1 → run (gate_at place held) (b ∷ xs) ≡ shut_at place held
unfolding run
run_closed place held b xs shut = ap (λ r. run r xs) (gate_shut place held b shut) ∙ run_shut place held xs

eight : (place : ℕ) (held : Held) (a b c d e f g i : ℕ) (rest : List ℕ)
    → run (size_at place held []) (a ∷ b ∷ c ∷ d ∷ e ∷ f ∷ g ∷ i ∷ rest)
    ≡ run (length_read (size_at place held (a ∷ b ∷ c ∷ d ∷ e ∷ f ∷ g ∷ [])) (from_be_bytes w64 (a ∷ b ∷ c ∷ d ∷ e ∷ f ∷ g ∷ i ∷ []))) rest
unfolding run byte_step
eight place held a b c d e f g i rest = refl

pub size_run : (place : ℕ) (held : Held) (n : ℕ) (rest : List ℕ) → 0 < n → n < 2 ^ 64
    → run (size_at place held []) (to_be_bytes w64 n ++ rest) ≡ run (body_at place held n []) rest
size_run place held n rest some fits =
    eight place held _ _ _ _ _ _ _ _ rest
    ∙ ap (λ (k : ℕ). run (length_read (size_at place held (take 7 (to_be_bytes w64 n))) k) rest) (from_be_bytes-to_be_bytes_8 n fits)
    ∙ ap (λ (r : FileReading). run r rest) (cond-false (eqb n 0) _ _ (ne_eqb n 0 (omega arith)))

-- a whole body that joins
pub body_run : (place : ℕ) (held later : Held) (size : ℕ) (got xs rest : List ℕ) → join place held (got ++ xs) ≡ Some later → length got + length xs ≡ size → 0 < length xs
    → run (body_at place held size got) (xs ++ rest) ≡ run (gate_at (place + 9 + size) later) rest
unfolding run byte_step
body_run place held later size got [] rest joins fits some = absurd (omega arith)
body_run place held later size got (x ∷ []) rest joins fits some =
    let len : length (got ++ x ∷ []) ≡ size = length-append got (x ∷ []) ∙ fits in
    ap (λ (r : FileReading). run r rest) (cond-true (eqb (length (got ++ x ∷ [])) size) _ _ (eq-eqb _ _ len) ∙ ap (body_judged (body_at place held size got) (got ++ x ∷ [])) joins ∙ ap (λ (k : ℕ). gate_at (place + 9 + k) later) len)
body_run place held later size got (x ∷ y ∷ xs) rest joins fits some =
    let len : length (got ++ x ∷ []) ≡ length got + 1 = length-append got (x ∷ []) in
    let short : length (got ++ x ∷ []) ≢ size = λ e. omega (arith, len, e, fits) in
    ap (λ (r : FileReading). run r (y ∷ xs ++ rest)) (cond-false (eqb (length (got ++ x ∷ [])) size) _ _ (ne_eqb _ _ short))
    ∙ body_run place held later size (got ++ x ∷ []) (y ∷ xs) rest (ap (join place held) (append_assoc got (x ∷ []) (y ∷ xs)) ∙ joins) (omega (arith, len, fits)) (omega arith)

-- a whole batch with a closed gate behind it, whatever stands there
pub batch_run : (place : ℕ) (held later : Held) (body rest : List ℕ) → join place held body ≡ Some later → 0 < length body → length body < 2 ^ 64
    → run (gate_at place held) (1 ∷ framed body ++ rest) ≡ shut_at (place + 9 + length body) later
unfolding run framed
batch_run place held later body rest joins some fits =
    ap (λ r. run r ((to_be_bytes w64 (length body) ++ body ++ 0 ∷ []) ++ rest)) (gate_open place held)
    ∙ ap (run (size_at place held [])) shape
    ∙ size_run place held (length body) (body ++ 0 ∷ rest) some fits
    ∙ body_run place held later (length body) [] body (0 ∷ rest) joins (omega arith) some
    ∙ run_closed (place + 9 + length body) later 0 rest (omega arith)
  where
    shape : (to_be_bytes w64 (length body) ++ body ++ 0 ∷ []) ++ rest ≡ to_be_bytes w64 (length body) ++ (body ++ 0 ∷ rest)
    shape = append_assoc (to_be_bytes w64 (length body) ++ body) (0 ∷ []) rest ∙ append_assoc (to_be_bytes w64 (length body)) body (0 ∷ rest)

-- nothing counts any more
pub run_over : (r : FileReading) (xs : List ℕ) → is_over r.mode ≡ true → run r xs ≡ r
unfolding run byte_step
run_over r [] over = refl
run_over r (x ∷ xs) over = ap (λ (s : FileReading). run s xs) (stays r.place r.mode r.size r.bytes r.held x over) ∙ run_over r xs over
  where
    stays : (place : ℕ) (mode : Mode) (size : ℕ) (bytes : List ℕ) (held : Held) (b : ℕ) → is_over mode ≡ true
        → byte_step (record { place = place; mode = mode; size = size; bytes = bytes; held = held }) b ≡ record { place = place; mode = mode; size = size; bytes = bytes; held = held }
    stays place Gate size bytes held b over = cc
    stays place Size size bytes held b over = cc
    stays place InBody size bytes held b over = cc
    stays place Shut size bytes held b over = refl
    stays place Broken size bytes held b over = refl

step_in : (r : FileReading) (x : ℕ) → r.mode ≡ InBody → length r.bytes + 1 < r.size → byte_step r x ≡ record r { bytes = r.bytes ++ x ∷ [] }
unfolding byte_step
step_in r x e short =
    ap (λ (m : Mode). byte_stepped m r x) e
    ∙ cond-false (eqb (length (r.bytes ++ x ∷ [])) r.size) _ _ (ne_eqb (length (r.bytes ++ x ∷ [])) r.size (λ is. omega (arith, is, length-append r.bytes (x ∷ []))))

-- a part of a body that doesn't end it
pub part_run : (r : FileReading) (xs : List ℕ) → r.mode ≡ InBody → length r.bytes + length xs < r.size → run r xs ≡ record r { bytes = r.bytes ++ xs }
unfolding run
part_run r [] e short = ap (λ l. record r { bytes = l }) (sym (append-nil r.bytes))
part_run r (x ∷ xs) e short =
    ap (λ (s : FileReading). run s xs) (step_in r x e (omega arith))
    ∙ part_run (record r { bytes = r.bytes ++ x ∷ [] }) xs e (omega (arith, length-append r.bytes (x ∷ [])))
    ∙ ap (λ l. record r { bytes = l }) (append_assoc r.bytes (x ∷ []) xs)

pub run_add : (r : FileReading) (xs : List ℕ) (at n : ℕ) → run r (take (at + n) xs) ≡ run (run r (take at xs)) (take n (drop at xs))
run_add r xs at n = ap (run r) (sym (take-append-drop at (take (at + n) xs)) ∙ ap (λ l. l ++ drop at (take (at + n) xs)) (take-take at (at + n) xs (omega arith)) ∙ ap (λ l. take at xs ++ l) (drop-take at n xs)) ∙ run-append r (take at xs) (take n (drop at xs))

pub run_one : (r : FileReading) (xs : List ℕ) (d : ℕ) → 0 < length xs → run r (take 1 xs) ≡ byte_step r (get_or xs 0 d)
unfolding run
run_one r [] d lt = absurd (omega arith)
run_one r (x ∷ xs) d lt = refl
