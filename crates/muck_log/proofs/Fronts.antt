-- What a reading says of the front of a file.
use Rattle.std.proofs.Common.{◌≡◌, ◌≢◌, ◌⊎◌, inl, inr, ⊎_elim, ℕ, ◌+◌, ◌<◌, ◌≤◌, Bool, true, false, cond, eqb, leb, not, List, [], ◌∷◌, ◌++◌, length, take, get_or, Option, Some, None, Ok, Err, refl, sym, ◌∙◌, ap, subst, arith, length-append, append_assoc}
use Rattle.std.proofs.lemmas.List.{append-nil, take-append-le, take_all, get_or_push, get_or_append_left}
use Rattle.std.proofs.lemmas.Bool.{eq-eqb, ne_eqb, cond_both, eqb-true, eqb-false, leb-true, and_parts, or_left, or_right, or_from, le-leb, lt-leb}
use Rattle.std.specs.Int.{w64, from_be_bytes}
use Rattle.muck_laws.proofs.Options.{and_then_some, cond_some, map_some}
use Rattle.muck_log.specs.Body.{Body, body_of}
use Rattle.muck_log.specs.World.{laid}
use Rattle.muck_log.specs.File.{Held, FileReading, ReadingEnd, gate_at, begin, byte_step, run, body_judged, forgotten, join, follows, reading_end, mode_end}
use Rattle.muck_log.specs.declared.reader.Mode.{Mode}
use Rattle.muck_log.specs.declared.reader.Mode.TheVariants.{Gate, Size, Body as InBody, Shut, Broken}
use Rattle.muck_log.specs.Store.{must_close}
use Rattle.muck_log.specs.inner.Head.{is_shut}
use Rattle.muck_log.proofs.Runs.{run-append}

pub body_long : (bytes : List ℕ) (b : Body) → body_of bytes ≡ Some b → 25 ≤ length bytes
unfolding body_of
body_long bytes b e = leb-true 25 (length bytes) (and_parts (leb 25 (length bytes)) _ (cond_some _ _ b e).0).0

pub record Joins (held later : Held) (place : ℕ) (bytes : List ℕ) : Type 0 where
  pub generation : later.generation ≡ held.generation
  pub count : later.count ≡ held.count + 1
  pub long : 25 ≤ length bytes

pub join_facts : (place : ℕ) (held later : Held) (bytes : List ℕ) → join place held bytes ≡ Some later → Joins held later place bytes
unfolding join
join_facts place held later bytes e =
    let with_body = and_then_some _ (body_of bytes) later e in
    let may = cond_some (follows held with_body.0.generation with_body.0.number) _ later with_body.2 in
    let with_world = map_some _ (laid with_body.0.payload held.world) later may.1 in
    record {
      generation = sym (ap (λ (h : Held). h.generation) with_world.2);
      count = sym (ap (λ (h : Held). h.count) with_world.2);
      long = body_long bytes with_body.0 with_body.1;
    }

abbrev pub opening : ℕ → FileReading
opening g = gate_at 0 (begin g)

-- what the mode says of what was read
abbrev pub IsAt : Mode → FileReading → List ℕ → Type 0
IsAt Gate r xs = (length xs ≡ r.place) × (r ≡ gate_at r.place r.held)
IsAt Size r xs = (length xs ≡ r.place + 1 + length r.bytes) × (get_or xs r.place 0 ≡ 1)
IsAt InBody r xs = (length xs ≡ r.place + 9 + length r.bytes) × (get_or xs r.place 0 ≡ 1)
IsAt Shut r xs = (r.place < length xs) × (get_or xs r.place 0 ≢ 1)
IsAt Broken r xs = Unit {0}

abbrev pub IsPlaced : ℕ → ℕ → Type 0
IsPlaced place count = ((place ≡ 0) × (count ≡ 0)) ⊎ ((34 ≤ place) × (0 < count))

-- what is known of the batches that were read
pub record Facts (g : ℕ) (xs : List ℕ) (r : FileReading) : Type 0 where
  pub front : run (opening g) (take r.place xs) ≡ gate_at r.place r.held
  pub generation : r.held.generation ≡ g
  pub first : IsPlaced r.place r.held.count

-- nothing, once one was outside the format
abbrev pub FactsIn : Mode → ℕ → List ℕ → FileReading → Type 0
FactsIn Gate g xs r = Facts g xs r
FactsIn Size g xs r = Facts g xs r
FactsIn InBody g xs r = Facts g xs r
FactsIn Shut g xs r = Facts g xs r
FactsIn Broken g xs r = Unit {0}

facts_in : (mode : Mode) (g : ℕ) (xs : List ℕ) (r : FileReading) → Facts g xs r → FactsIn mode g xs r
facts_in Gate g xs r f = f
facts_in Size g xs r f = f
facts_in InBody g xs r f = f
facts_in Shut g xs r f = f
facts_in Broken g xs r f = tt

pub record IsRead (g : ℕ) (xs : List ℕ) (r : FileReading) : Type 0 where
  pub is : run (opening g) xs ≡ r
  pub within : r.place ≤ length xs
  pub at : IsAt r.mode r xs
  pub facts : FactsIn r.mode g xs r

runs_on : (g : ℕ) (xs : List ℕ) (r : FileReading) (b : ℕ) → run (opening g) xs ≡ r → run (opening g) (xs ++ b ∷ []) ≡ byte_step r b
unfolding run
runs_on g xs r b is = run-append (opening g) xs (b ∷ []) ∙ ap (λ s. byte_step s b) is

-- a step that keeps place and batches
stays : (g : ℕ) (xs : List ℕ) (r : FileReading) (b : ℕ) (mode : Mode) (size : ℕ) (bytes : List ℕ) → IsRead g xs r → Facts g xs r
    → byte_step r b ≡ record { place = r.place; mode = mode; size = size; bytes = bytes; held = r.held }
    → IsAt mode (record { place = r.place; mode = mode; size = size; bytes = bytes; held = r.held }) (xs ++ b ∷ [])
    → IsRead g (xs ++ b ∷ []) (record { place = r.place; mode = mode; size = size; bytes = bytes; held = r.held })
stays g xs r b mode size bytes read facts steps at = record {
  is = runs_on g xs r b read.is ∙ steps;
  within = omega (arith, read.within, length-append xs (b ∷ []));
  at = at;
  facts = facts_in mode g (xs ++ b ∷ []) (record { place = r.place; mode = mode; size = size; bytes = bytes; held = r.held }) (record {
    front = ap (run (opening g)) (take-append-le r.place xs (b ∷ []) read.within) ∙ facts.front;
    generation = facts.generation;
    first = facts.first;
  });
}

-- a step behind which nothing counts
breaks : (g : ℕ) (xs : List ℕ) (r : FileReading) (b size : ℕ) (bytes : List ℕ) (held : Held) → IsRead g xs r
    → byte_step r b ≡ record { place = r.place; mode = Broken; size = size; bytes = bytes; held = held }
    → IsRead g (xs ++ b ∷ []) (record { place = r.place; mode = Broken; size = size; bytes = bytes; held = held })
breaks g xs r b size bytes held read steps = record {
  is = runs_on g xs r b read.is ∙ steps;
  within = omega (arith, read.within, length-append xs (b ∷ []));
  at = tt;
  facts = tt;
}

-- a step that ends a batch
joins : (g : ℕ) (xs : List ℕ) (r : FileReading) (b : ℕ) (later : Held) → IsRead g xs r → Facts g xs r → length xs ≡ r.place + 9 + length r.bytes
    → join r.place r.held (r.bytes ++ b ∷ []) ≡ Some later
    → byte_step r b ≡ gate_at (r.place + 9 + length (r.bytes ++ b ∷ [])) later
    → IsRead g (xs ++ b ∷ []) (gate_at (r.place + 9 + length (r.bytes ++ b ∷ [])) later)
unfolding gate_at
joins g xs r b later read before size e steps =
    let facts = join_facts r.place r.held later (r.bytes ++ b ∷ []) e in
    let len : length (xs ++ b ∷ []) ≡ r.place + 9 + length (r.bytes ++ b ∷ []) = omega (arith, size, length-append xs (b ∷ []), length-append r.bytes (b ∷ [])) in
    record {
      is = runs_on g xs r b read.is ∙ steps;
      within = omega (arith, len);
      at = (len, refl);
      facts = record {
        front = ap (run (opening g)) (take_all _ (xs ++ b ∷ []) (omega (arith, len))) ∙ runs_on g xs r b read.is ∙ steps;
        generation = facts.generation ∙ before.generation;
        first = inr (omega (arith, facts.long), omega (arith, facts.count));
      };
    }

next_in : (g : ℕ) (xs : List ℕ) (place : ℕ) (mode : Mode) (size : ℕ) (bytes : List ℕ) (held : Held) (b : ℕ)
    → IsRead g xs (record { place = place; mode = mode; size = size; bytes = bytes; held = held })
    → IsRead g (xs ++ b ∷ []) (byte_step (record { place = place; mode = mode; size = size; bytes = bytes; held = held }) b)
unfolding byte_step
next_in g xs place Gate size bytes held b read =
    let push = get_or_push xs b 0 place read.at.0 in
    let len = length-append xs (b ∷ []) in
    cond_both (eqb b 1) _ _ (λ r. byte_step (record { place = place; mode = Gate; size = size; bytes = bytes; held = held }) b ≡ r → IsRead g (xs ++ b ∷ []) r)
    (λ e steps. stays g xs _ b Size 8 [] read read.facts steps (omega (arith, len, read.at.0), push ∙ eqb-true b 1 e))
    (λ e steps. stays g xs _ b Shut size bytes read read.facts steps (omega (arith, len, read.at.0), λ is. eqb-false b 1 e (sym push ∙ is)))
    refl
next_in g xs place Size size bytes held b read =
    let r : FileReading = record { place = place; mode = Size; size = size; bytes = bytes; held = held } in
    let more = bytes ++ b ∷ [] in
    let len = length-append xs (b ∷ []) in
    let got = length-append bytes (b ∷ []) in
    let same : get_or (xs ++ b ∷ []) place 0 ≡ 1 = get_or_append_left xs (b ∷ []) 0 place (omega (arith, read.at.0)) ∙ read.at.1 in
    cond_both (eqb (length more) 8) _ _ (λ s. byte_step r b ≡ s → IsRead g (xs ++ b ∷ []) s)
    (λ e. cond_both (eqb (from_be_bytes w64 more) 0) _ _ (λ s. byte_step r b ≡ s → IsRead g (xs ++ b ∷ []) s)
    (λ z steps. breaks g xs r b size [] held read steps)
    (λ z steps. stays g xs r b InBody (from_be_bytes w64 more) [] read read.facts steps (omega (arith, len, got, read.at.0, eqb-true (length more) 8 e), same)))
    (λ e steps. stays g xs r b Size size more read read.facts steps (omega (arith, len, got, read.at.0), same))
    refl
next_in g xs place InBody size bytes held b read =
    let r : FileReading = record { place = place; mode = InBody; size = size; bytes = bytes; held = held } in
    let more = bytes ++ b ∷ [] in
    let len = length-append xs (b ∷ []) in
    let got = length-append bytes (b ∷ []) in
    let same : get_or (xs ++ b ∷ []) place 0 ≡ 1 = get_or_append_left xs (b ∷ []) 0 place (omega (arith, read.at.0)) ∙ read.at.1 in
    cond_both (eqb (length more) size) _ _ (λ s. byte_step r b ≡ s → IsRead g (xs ++ b ∷ []) s)
    (λ e. whole (join place held more) refl)
    (λ e steps. stays g xs r b InBody size more read read.facts steps (omega (arith, len, got, read.at.0), same))
    refl
  where
    whole : (o : Option Held) → join place held (bytes ++ b ∷ []) ≡ o
        → byte_step (record { place = place; mode = InBody; size = size; bytes = bytes; held = held }) b ≡ body_judged (record { place = place; mode = InBody; size = size; bytes = bytes; held = held }) (bytes ++ b ∷ []) o
        → IsRead g (xs ++ b ∷ []) (body_judged (record { place = place; mode = InBody; size = size; bytes = bytes; held = held }) (bytes ++ b ∷ []) o)
    whole None is steps = breaks g xs _ b 0 [] forgotten read steps
    whole (Some later) is steps = joins g xs _ b later read read.facts read.at.0 is steps
next_in g xs place Shut size bytes held b read =
    stays g xs _ b Shut size bytes read read.facts refl (omega (arith, read.at.0, length-append xs (b ∷ [])), λ is. read.at.1 (sym (get_or_append_left xs (b ∷ []) 0 place read.at.0) ∙ is))
next_in g xs place Broken size bytes held b read = breaks g xs _ b size bytes held read refl

next : (g : ℕ) (xs : List ℕ) (r : FileReading) (b : ℕ) → IsRead g xs r → IsRead g (xs ++ b ∷ []) (byte_step r b)
next g xs r b read = next_in g xs r.place r.mode r.size r.bytes r.held b read

reads : (g : ℕ) (xs ys : List ℕ) (r : FileReading) → IsRead g xs r → IsRead g (xs ++ ys) (run r ys)
unfolding run
reads g xs [] r read = subst (λ l. IsRead g l r) (sym (append-nil xs)) read
reads g xs (y ∷ ys) r read = subst (λ l. IsRead g l (run (byte_step r y) ys)) (append_assoc xs (y ∷ []) ys) (reads g (xs ++ y ∷ []) ys (byte_step r y) (next g xs r y read))

started : (g : ℕ) → IsRead g [] (opening g)
unfolding run gate_at begin
started g = record { is = refl; within = omega arith; at = (refl, refl); facts = record { front = refl; generation = refl; first = inl (refl, refl) } }

pub read_all : (g : ℕ) (xs : List ℕ) → IsRead g xs (run (opening g) xs)
read_all g xs = reads g [] xs (opening g) (started g)

-- where reading ended
abbrev pub IsShut : ℕ → List ℕ → Type 0
IsShut place xs = ((place < length xs) × (get_or xs place 0 ≢ 1)) ⊎ ((length xs ≡ place + 1) × (get_or xs place 0 ≡ 1)) ⊎ ((length xs ≡ 0) × (place ≡ 0))

pub record IsEnded (g : ℕ) (xs : List ℕ) (e : ReadingEnd) : Type 0 where
  pub within : e.place ≤ length xs
  pub front : run (opening g) (take e.place xs) ≡ gate_at e.place e.held
  pub generation : e.held.generation ≡ g
  pub first : IsPlaced e.place e.held.count
  pub shut : IsShut e.place xs

made : (g : ℕ) (xs : List ℕ) (r : FileReading) (e : ReadingEnd) → IsRead g xs r → Facts g xs r → record { place = r.place; held = r.held } ≡ e → IsShut r.place xs → IsEnded g xs e
made g xs r e read facts is shut = subst (IsEnded g xs) is (record { within = read.within; front = facts.front; generation = facts.generation; first = facts.first; shut = shut })

cond_ok : (t : Bool) (x : ReadingEnd) (n : ℕ) (e : ReadingEnd) → cond t (Ok x) (Err n) ≡ Ok e → (t ≡ true) × (x ≡ e)
cond_ok true x n e is = (refl, cc)
cond_ok false x n e is = cc

ended_in : (g : ℕ) (xs : List ℕ) (place : ℕ) (mode : Mode) (size : ℕ) (bytes : List ℕ) (held : Held) (e : ReadingEnd)
    → IsRead g xs (record { place = place; mode = mode; size = size; bytes = bytes; held = held })
    → mode_end mode (record { place = place; mode = mode; size = size; bytes = bytes; held = held }) ≡ Ok e → IsEnded g xs e
ended_in g xs place Gate size bytes held e read is =
    let ok = cond_ok (eqb held.count 0) _ _ e is in
    let none : place ≡ 0 = ⊎_elim (λ h. h.0) (λ h. absurd (omega (arith, h.1, eqb-true held.count 0 ok.0))) read.facts.first in
    made g xs _ e read read.facts ok.1 (inr (inr (omega (arith, read.at.0, none), none)))
ended_in g xs place Size size bytes held e read is =
    let ok = cond_ok (eqb (length bytes) 0) _ _ e is in
    made g xs _ e read read.facts ok.1 (inr (inl (omega (arith, read.at.0, eqb-true (length bytes) 0 ok.0), read.at.1)))
ended_in g xs place InBody size bytes held e read is = cc
ended_in g xs place Shut size bytes held e read is =
    let shut : IsShut place xs = inl (read.at.0, read.at.1) in
    made g xs _ e read read.facts (cc) shut
ended_in g xs place Broken size bytes held e read is = cc

pub ended : (g : ℕ) (xs : List ℕ) (e : ReadingEnd) → reading_end (run (opening g) xs) ≡ Ok e → IsEnded g xs e
unfolding reading_end
ended g xs e is = let r = run (opening g) xs in ended_in g xs r.place r.mode r.size r.bytes r.held e (read_all g xs) is

closes_in : (g : ℕ) (xs : List ℕ) (place : ℕ) (mode : Mode) (size : ℕ) (bytes : List ℕ) (held : Held) (e : ReadingEnd)
    → IsRead g xs (record { place = place; mode = mode; size = size; bytes = bytes; held = held })
    → mode_end mode (record { place = place; mode = mode; size = size; bytes = bytes; held = held }) ≡ Ok e → must_close place xs ≡ not (is_shut mode)
unfolding must_close
closes_in g xs place Gate size bytes held e read is = or_left (leb (length xs) place) (eqb (get_or xs place 0) 1) (le-leb (length xs) place (omega (arith, read.at.0)))
closes_in g xs place Size size bytes held e read is = or_right (leb (length xs) place) (eqb (get_or xs place 0) 1) (eq-eqb (get_or xs place 0) 1 read.at.1)
closes_in g xs place InBody size bytes held e read is = cc
closes_in g xs place Shut size bytes held e read is = or_from (leb (length xs) place) (eqb (get_or xs place 0) 1) (lt-leb (length xs) place read.at.0) (ne_eqb (get_or xs place 0) 1 read.at.1)
closes_in g xs place Broken size bytes held e read is = cc

place_in : (mode : Mode) (place size : ℕ) (bytes : List ℕ) (held : Held) (e : ReadingEnd) → mode_end mode (record { place = place; mode = mode; size = size; bytes = bytes; held = held }) ≡ Ok e → place ≡ e.place
place_in Gate place size bytes held e is = ap (λ (x : ReadingEnd). x.place) (cond_ok (eqb held.count 0) _ _ e is).1
place_in Size place size bytes held e is = ap (λ (x : ReadingEnd). x.place) (cond_ok (eqb (length bytes) 0) _ _ e is).1
place_in InBody place size bytes held e is = cc
place_in Shut place size bytes held e is = cc
place_in Broken place size bytes held e is = cc

-- whether the gate at which reading ended is closed on the disk
pub closes : (g : ℕ) (xs : List ℕ) (e : ReadingEnd) → reading_end (run (opening g) xs) ≡ Ok e → must_close e.place xs ≡ not (is_shut (run (opening g) xs).mode)
unfolding reading_end
closes g xs e is =
    let r = run (opening g) xs in
    ap (λ k. must_close k xs) (sym (place_in r.mode r.place r.size r.bytes r.held e is)) ∙ closes_in g xs r.place r.mode r.size r.bytes r.held e (read_all g xs) is
