-- The bodies of a file lead to what reading it gives.
use Rattle.std.proofs.Common.{◌≡◌, ℕ, zero, suc, ◌+◌, ◌<◌, ◌≤◌, Bool, true, false, eqb, leb, List, [], ◌∷◌, ◌++◌, length, take, drop, Option, Some, None, Result, Ok, Err, refl, sym, ◌∙◌, ap, subst, arith, length-append, length-take, length-drop, append_assoc, take-append-drop}
use Rattle.std.specs.Prelude.{if◌then◌else◌, option_map}
use Rattle.std.proofs.lemmas.List.{append-nil, drop-drop}
use Rattle.std.proofs.lemmas.Option.{same_Some, none-some}
use Rattle.std.proofs.lemmas.Bool.{cond-true, cond-false, eq-eqb, ne_eqb, eqb-false, leb-true, leb-false, le-leb}
use Rattle.std.specs.Int.{w64, from_be_bytes}
use Rattle.muck_log.specs.File.{Held, ReadingEnd, Opened, FileReading, gate_at, byte_step, byte_stepped, run, length_read, body_judged, join, begin, mode_end, reading_end, is_gate_open, header, file_of}
use Rattle.muck_log.proofs.Runs.{run-append, run_shut, shut_at, size_at, body_at}
use Rattle.muck_bodies.specs.Bodies.{framed_then, bodies_up_to, bodies_of, Lead}
use Rattle.muck_log.specs.declared.reader.Mode.{Mode}
use Rattle.muck_log.specs.declared.reader.Mode.TheVariants.{Broken}

run_broken : (r : FileReading) (xs : List ℕ) → r.mode ≡ Broken → (run r xs).mode ≡ Broken
unfolding run byte_step
run_broken r [] e = e
run_broken r (x ∷ xs) e = run_broken (byte_step r x) xs (ap (λ (m : Mode). (byte_stepped m r x).mode) e ∙ e)

-- a length that isn't whole yet, and one that is
size_short : (place : ℕ) (held : Held) (got xs : List ℕ) → length got + length xs < 8 → run (size_at place held got) xs ≡ size_at place held (got ++ xs)
unfolding run byte_step
size_short place held got [] short = ap (size_at place held) (sym (append-nil got))
size_short place held got (x ∷ xs) short =
    let n : length (got ++ x ∷ []) ≡ length got + 1 = length-append got (x ∷ []) in
    ap (λ (r : FileReading). run r xs) (cond-false (eqb (length (got ++ x ∷ [])) 8) _ _ (ne_eqb _ _ (λ e. omega (arith, e, n, short))))
    ∙ size_short place held (got ++ x ∷ []) xs (omega (arith, n, short)) ∙ ap (size_at place held) (append_assoc got (x ∷ []) xs)

size_whole : (place : ℕ) (held : Held) (got xs : List ℕ) → length got + length xs ≡ 8 → 0 < length xs → run (size_at place held got) xs ≡ length_read (size_at place held []) (from_be_bytes w64 (got ++ xs))
unfolding run byte_step
size_whole place held got [] whole some = absurd (omega (arith, some))
size_whole place held got (x ∷ []) whole some = cond-true (eqb (length (got ++ x ∷ [])) 8) _ _ (eq-eqb _ _ (length-append got (x ∷ []) ∙ whole))
size_whole place held got (x ∷ y ∷ xs) whole some =
    let n : length (got ++ x ∷ []) ≡ length got + 1 = length-append got (x ∷ []) in
    ap (λ (r : FileReading). run r (y ∷ xs)) (cond-false (eqb (length (got ++ x ∷ [])) 8) _ _ (ne_eqb _ _ (λ e. omega (arith, e, n, whole))))
    ∙ size_whole place held (got ++ x ∷ []) (y ∷ xs) (omega (arith, n, whole)) (omega arith) ∙ ap (λ l. length_read (size_at place held []) (from_be_bytes w64 l)) (append_assoc got (x ∷ []) (y ∷ xs))

-- a body, short and whole
body_short : (place : ℕ) (held : Held) (size : ℕ) (got xs : List ℕ) → length got + length xs < size → run (body_at place held size got) xs ≡ body_at place held size (got ++ xs)
unfolding run byte_step
body_short place held size got [] short = ap (body_at place held size) (sym (append-nil got))
body_short place held size got (x ∷ xs) short =
    let n : length (got ++ x ∷ []) ≡ length got + 1 = length-append got (x ∷ []) in
    ap (λ (r : FileReading). run r xs) (cond-false (eqb (length (got ++ x ∷ [])) size) _ _ (ne_eqb _ _ (λ e. omega (arith, e, n, short))))
    ∙ body_short place held size (got ++ x ∷ []) xs (omega (arith, n, short)) ∙ ap (body_at place held size) (append_assoc got (x ∷ []) xs)

body_whole : (place : ℕ) (held : Held) (size : ℕ) (got xs : List ℕ) → length got + length xs ≡ size → 0 < length xs → run (body_at place held size got) xs ≡ body_judged (body_at place held size []) (got ++ xs) (join place held (got ++ xs))
unfolding run byte_step
body_whole place held size got [] whole some = absurd (omega (arith, some))
body_whole place held size got (x ∷ []) whole some = cond-true (eqb (length (got ++ x ∷ [])) size) _ _ (eq-eqb _ _ (length-append got (x ∷ []) ∙ whole)) ∙ alike (join place held (got ++ x ∷ []))
  where
    alike : (o : Option Held) → body_judged (body_at place held size got) (got ++ x ∷ []) o ≡ body_judged (body_at place held size []) (got ++ x ∷ []) o
    alike None = refl
    alike (Some k) = refl
body_whole place held size got (x ∷ y ∷ xs) whole some =
    let n : length (got ++ x ∷ []) ≡ length got + 1 = length-append got (x ∷ []) in
    ap (λ (r : FileReading). run r (y ∷ xs)) (cond-false (eqb (length (got ++ x ∷ [])) size) _ _ (ne_eqb _ _ (λ e. omega (arith, e, n, whole))))
    ∙ body_whole place held size (got ++ x ∷ []) (y ∷ xs) (omega (arith, n, whole)) (omega arith)
    ∙ ap (λ l. body_judged (body_at place held size []) l (join place held l)) (append_assoc got (x ∷ []) (y ∷ xs))

not_ok : (x : ℕ) (e : ReadingEnd) → ◌≡◌ {A = Result ReadingEnd ℕ} (Err x) (Ok e) → ⊥
not_ok x e h = cc

ok_same : (a b : ReadingEnd) → ◌≡◌ {A = Result ReadingEnd ℕ} (Ok a) (Ok b) → a ≡ b
ok_same a b h = cc

broken_ends : (r : FileReading) (e : ReadingEnd) → r.mode ≡ Broken → mode_end r.mode r ≡ Ok e → ⊥
broken_ends r e broken ok = not_ok r.place e (ap (λ (m : Mode). mode_end m r) (sym broken) ∙ ok)

either_ok : (b : Bool) (x : ℕ) (a e : ReadingEnd) → (if b then Ok a else Err x) ≡ Ok e → e.held ≡ a.held
either_ok true x a e h = ap (λ (y : ReadingEnd). y.held) (sym (ok_same a e h))
either_ok false x a e h = absurd (not_ok x e h)

abbrev Ends : FileReading → ReadingEnd → Type 0
Ends r e = mode_end r.mode r ≡ Ok e

-- what stands behind a length that is whole
in_body : (n place : ℕ) (held : Held) (size : ℕ) (behind : List ℕ) (e : ReadingEnd) → 0 < size → Ends (run (body_at place held size []) behind) e
    → ((p : ℕ) (k : Held) (l : List ℕ) → length l ≤ length behind → Ends (run (gate_at p k) l) e → Lead k (bodies_up_to n l) e.held)
    → (size ≤ length behind) × Lead held (take size behind ∷ bodies_up_to n (drop size behind)) e.held
in_body n place held size behind e some ok more = by (leb size (length behind)) refl
  where
    none : length behind < size → ⊥
    none short = not_ok place e (ap (λ (r : FileReading). mode_end r.mode r) (sym (body_short place held size [] behind (omega (arith, short)))) ∙ ok)

    split : size ≤ length behind → run (body_at place held size []) behind ≡ run (body_judged (body_at place held size []) (take size behind) (join place held (take size behind))) (drop size behind)
    split le =
        let n : length (take size behind) ≡ size = omega (arith, length-take size behind, le) in
        ap (run (body_at place held size [])) (sym (take-append-drop size behind)) ∙ run-append (body_at place held size []) (take size behind) (drop size behind)
        ∙ ap (λ (r : FileReading). run r (drop size behind)) (body_whole place held size [] (take size behind) (omega (arith, n)) (omega (arith, n, some)))

    joined : (o : Option Held) → join place held (take size behind) ≡ o → Ends (run (body_judged (body_at place held size []) (take size behind) o) (drop size behind)) e → Lead held (take size behind ∷ bodies_up_to n (drop size behind)) e.held
    joined None is ok = absurd (broken_ends (run (body_judged (body_at place held size []) (take size behind) None) (drop size behind)) e (run_broken (body_judged (body_at place held size []) (take size behind) None) (drop size behind) refl) ok)
    joined (Some k) is ok = (place, k, is, more (place + 9 + length (take size behind)) k (drop size behind) (omega (arith, length-drop size behind)) ok)

    by : (b : Bool) → leb size (length behind) ≡ b → (size ≤ length behind) × Lead held (take size behind ∷ bodies_up_to n (drop size behind)) e.held
    by true is =
        let le = leb-true size (length behind) is in
        (le, joined (join place held (take size behind)) refl (subst (λ (r : FileReading). Ends r e) (split le) ok))
    by false is = absurd (none (leb-false size (length behind) is))

-- what stands behind an open gate
in_size : (n place : ℕ) (held : Held) (x : ℕ) (rest : List ℕ) (e : ReadingEnd) → Ends (run (size_at place held []) (x ∷ rest)) e
    → ((p : ℕ) (k : Held) (l : List ℕ) → length l ≤ length (x ∷ rest) → Ends (run (gate_at p k) l) e → Lead k (bodies_up_to n l) e.held)
    → Lead held (framed_then (x ∷ rest) (from_be_bytes w64 (take 8 (x ∷ rest))) (bodies_up_to n)) e.held
in_size n place held x rest e ok more = by (leb 8 (length (x ∷ rest))) refl
  where
    none : length (x ∷ rest) < 8 → ⊥
    none short = not_ok place e (sym (cond-false (eqb (length (x ∷ rest)) 0) _ _ (ne_eqb (length (x ∷ rest)) 0 (λ z. omega (arith, z)))) ∙ ap (λ (r : FileReading). mode_end r.mode r) (sym (size_short place held [] (x ∷ rest) (omega (arith, short)))) ∙ ok)

    split : 8 ≤ length (x ∷ rest) → run (size_at place held []) (x ∷ rest) ≡ run (length_read (size_at place held []) (from_be_bytes w64 (take 8 (x ∷ rest)))) (drop 8 (x ∷ rest))
    split le =
        let n : length (take 8 (x ∷ rest)) ≡ 8 = omega (arith, length-take 8 (x ∷ rest), le) in
        ap (run (size_at place held [])) (sym (take-append-drop 8 (x ∷ rest))) ∙ run-append (size_at place held []) (take 8 (x ∷ rest)) (drop 8 (x ∷ rest))
        ∙ ap (λ (r : FileReading). run r (drop 8 (x ∷ rest))) (size_whole place held [] (take 8 (x ∷ rest)) (omega (arith, n)) (omega (arith, n)))

    shape : (size : ℕ) → size ≤ length (drop 8 (x ∷ rest)) → 8 ≤ length (x ∷ rest) → framed_then (x ∷ rest) size (bodies_up_to n) ≡ take size (drop 8 (x ∷ rest)) ∷ bodies_up_to n (drop size (drop 8 (x ∷ rest)))
    shape size le eight =
        cond-true (leb (8 + size) (length (x ∷ rest))) _ _ (le-leb _ _ (omega (arith, le, eight, length-drop 8 (x ∷ rest))))
        ∙ ap (λ m. take size (drop 8 (x ∷ rest)) ∷ bodies_up_to n m) (sym (drop-drop size 8 (x ∷ rest)))

    sized_so : (size : ℕ) (z : Bool) → eqb size 0 ≡ z → 8 ≤ length (x ∷ rest) → Ends (run (if z then record (size_at place held []) { mode = Broken; bytes = [] } else body_at place held size []) (drop 8 (x ∷ rest))) e
        → Lead held (framed_then (x ∷ rest) size (bodies_up_to n)) e.held
    sized_so size true z eight ok = absurd (broken_ends (run (record (size_at place held []) { mode = Broken; bytes = [] }) (drop 8 (x ∷ rest))) e (run_broken (record (size_at place held []) { mode = Broken; bytes = [] }) (drop 8 (x ∷ rest)) refl) ok)
    sized_so size false z eight ok =
        let in_it = in_body n place held size (drop 8 (x ∷ rest)) e (omega (arith, eqb-false size 0 z)) ok (λ p k m le. more p k m (omega (arith, le, length-drop 8 (x ∷ rest)))) in
        subst (λ bs. Lead held bs e.held) (sym (shape size in_it.0 eight)) in_it.1

    by : (b : Bool) → leb 8 (length (x ∷ rest)) ≡ b → Lead held (framed_then (x ∷ rest) (from_be_bytes w64 (take 8 (x ∷ rest))) (bodies_up_to n)) e.held
    by true is = let eight = leb-true 8 (length (x ∷ rest)) is in sized_so (from_be_bytes w64 (take 8 (x ∷ rest))) (eqb (from_be_bytes w64 (take 8 (x ∷ rest))) 0) refl eight (subst (λ (r : FileReading). Ends r e) (split eight) ok)
    by false is = absurd (none (leb-false 8 (length (x ∷ rest)) is))

lead : (n place : ℕ) (held : Held) (file : List ℕ) (e : ReadingEnd) → length file ≤ n → Ends (run (gate_at place held) file) e → Lead held (bodies_up_to n file) e.held
unfolding run byte_step gate_at bodies_up_to
lead zero place held [] e le ok = either_ok (eqb held.count 0) held.last (record { place = place; held = held }) e ok
lead zero place held (x ∷ file) e le ok = absurd (omega (arith, le))
lead (suc n) place held [] e le ok = either_ok (eqb held.count 0) held.last (record { place = place; held = held }) e ok
lead (suc n) place held (gate ∷ []) e le ok = by (eqb gate 1) ok
  where
    by : (b : Bool) → Ends (if b then size_at place held [] else shut_at place held) e → e.held ≡ held
    by true ok = ap (λ (y : ReadingEnd). y.held) (sym (ok_same (record { place = place; held = held }) e ok))
    by false ok = ap (λ (y : ReadingEnd). y.held) (sym (ok_same (record { place = place; held = held }) e ok))
lead (suc n) place held (gate ∷ next ∷ rest) e le ok = by (λ p k l short ok. lead n p k l e (omega (arith, le, short)) ok) (eqb gate 1) ok
  where
    by : ((p : ℕ) (k : Held) (l : List ℕ) → length l ≤ length (next ∷ rest) → Ends (run (gate_at p k) l) e → Lead k (bodies_up_to n l) e.held) → (b : Bool) → Ends (run (if b then size_at place held [] else shut_at place held) (next ∷ rest)) e
        → Lead held (if b then framed_then (next ∷ rest) (from_be_bytes w64 (take 8 (next ∷ rest))) (bodies_up_to n) else []) e.held
    by more true ok = in_size n place held next rest e ok more
    by more false ok = ap (λ (y : ReadingEnd). y.held) (sym (ok_same (record { place = place; held = held }) e (ap (λ (r : FileReading). mode_end r.mode r) (sym (run_shut place held (next ∷ rest))) ∙ ok)))

read_so : ℕ → List ℕ → Opened
read_so g file = record { generation = g; ending = reading_end (run (gate_at 0 (begin g)) file) }

pub leads : (file : List ℕ) (generation : ℕ) (e : ReadingEnd) → file_of file ≡ Some (Some (record { generation = generation; ending = Ok e })) → Lead (begin generation) (bodies_of file) e.held
unfolding file_of bodies_of reading_end read_so
leads file generation e is = by (is_gate_open file) (header file) is
  where
    of : (g : ℕ) → read_so g file ≡ record { generation = generation; ending = Ok e } → Lead (begin generation) (bodies_up_to (length file) file) e.held
    of g same =
        let g_is : g ≡ generation = ap (λ (o : Opened). o.generation) same in
        let ok : Ends (run (gate_at 0 (begin g)) file) e = ap (λ (o : Opened). o.ending) same in
        lead (length file) 0 (begin generation) file e (omega arith) (subst (λ n. Ends (run (gate_at 0 (begin n)) file) e) g_is ok)

    by : (b : Bool) (h : Option ℕ) → (if b then Some (option_map (λ g. read_so g file) h) else None) ≡ Some (Some (record { generation = generation; ending = Ok e })) → Lead (begin generation) (bodies_up_to (length file) file) e.held
    by true None same = absurd (cc)
    by true (Some g) same = of g (same_Some _ _ (same_Some (Some (read_so g file)) (Some (record { generation = generation; ending = Ok e })) same))
    by false h same = absurd (none-some _ same)
