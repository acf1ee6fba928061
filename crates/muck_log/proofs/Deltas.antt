-- Laying what is written of a batch gives the world that it was taken from.
use Rattle.std.proofs.Common.{◌≡◌, ℕ, suc, ◌<◌, ◌≤◌, ◌^◌, Bool, true, false, cond, not, ltb, eqb, List, [], ◌∷◌, ◌++◌, length, map, set, Option, Some, None, option_and_then, Ok, refl, sym, ap, subst, ◌∙◌, append_assoc, arith, length-append}
use Rattle.std.specs.Prelude.{All, pos, int_lt, nat_le, slice_get}
use Rattle.std.specs.List.{filter, list_all}
use Rattle.std.proofs.lemmas.Bool.{and_parts, and_from, le-leb, cond-true, cond-false, lt-ltb, le-ltb, eq-eqb}
use Rattle.std.proofs.lemmas.List.{append-nil}
use Rattle.std.proofs.lemmas.List.Elements.{All-head, All-tail}
use Rattle.std.proofs.lemmas.List.Filters.{length-filter_both}
use Rattle.std.proofs.lemmas.Option.{slice_get_past, same_Some, none-some}
use Rattle.std.proofs.Math.Seq.{set-append_seam}
use Rattle.muck_model.specs.declared.dbref.Dbref.{Dbref}
use Rattle.muck_model.specs.declared.tune.Tune.{Tune}
use Rattle.muck_model.specs.declared.tune.Parameter.{Parameter}
use Rattle.muck_model.specs.Parameters.{parameters, parameter_of, tune_fits}
use Rattle.muck_model.proofs.Parameters.{in_range, most_is_word}
use Rattle.spec_live.specs.Consistent.{IsConsistent}
use Rattle.spec_live.specs.Objects.{Entry, dbref_of, index_of}
use Rattle.muck_codec.specs.declared.stored.Stored.{Stored}
use Rattle.muck_codec.specs.declared.stored.Batch.{Batch}
use Rattle.muck_codec.specs.Batches.{is_above, whole_batch, batch_bytes}
use Rattle.muck_codec.specs.inner.Stored.{IsStored, IsTune, IsWord, Run}
use Rattle.muck_codec.proofs.Batches.{IsNextRecord, dbref_key, whole_reads}
use Rattle.muck_store.proofs.Changing.{left_filter, left_whole}
use Rattle.muck_store.proofs.Stored.{consistent_whole}
use Rattle.muck_store.proofs.StoredForms.{length_persist}
use Rattle.muck_store.specs.inner.Changes.{IsKept, LeavesOut}
use Rattle.muck_store.specs.Forms.{stored_of, stored_from, persist, world_batch}
use Rattle.muck_store.specs.Limits.{record_fits}
use Rattle.muck_store.specs.Whole.{is_whole_store}
use Rattle.muck_log.specs.File.{begin}
use Rattle.muck_log.specs.World.{StoredWorld, IsFine, start, is_fine, record_put_at, record_placed, all_placed, judged_world, laid_over, batch_if, laid, kept_record, differs, records_written}
use Rattle.muck_log.specs.Store.{Chosen, LogState, opens_new, target}
use Rattle.muck_log.specs.Append.{IsLaidNext, MakesWorld, base_of, payload_of}
use Rattle.muck_log.proofs.Differing.{differs_by, equals, found_stored, kept_same}
use Rattle.muck_log.proofs.Fine.{start_fine}
use Rattle.muck_log.proofs.Spellings.{start_two, start_stored}

-- Records by their numbers from k on.

abbrev pub Numbered : ℕ → List Stored → Type 0
Numbered k [] = Unit {0}
Numbered k (o ∷ os) = (o.dbref ≡ dbref_of k) × Numbered (suc k) os

pub persist_numbered : (es : List Entry) (k : ℕ) (rest : List Entry) → Numbered k (stored_from es k rest)
unfolding stored_from stored_of
persist_numbered es k [] = tt
persist_numbered es k (e ∷ rest) = (refl, persist_numbered es (suc k) rest)

pub persist_length : (es : List Entry) (k : ℕ) (rest : List Entry) → length (stored_from es k rest) ≡ length rest
unfolding stored_from
persist_length es k [] = refl
persist_length es k (e ∷ rest) = ap suc (persist_length es (suc k) rest)

-- One record in its place.

at_number : (objects : List Stored) (o : Stored) (k : ℕ) → o.dbref ≡ dbref_of k → record_placed o objects ≡ record_put_at objects o k
unfolding record_placed
at_number objects o k is = ap (λ (d : Dbref). option_and_then (record_put_at objects o) (index_of d)) is

abbrev some : List Stored → Option (List Stored)
some os = Some os

put_last : (objects : List Stored) (o : Stored) (k : ℕ) → length objects ≡ k → record_put_at objects o k ≡ some (objects ++ o ∷ [])
put_last objects o k size =
    cond-false (ltb k (length objects)) _ _ (le-ltb k (length objects) (omega (arith, size))) ∙ cond-true (eqb k (length objects)) _ _ (eq-eqb k (length objects) (sym size))

put_within : (front rest : List Stored) (r o : Stored) (k : ℕ) → length front ≡ k → record_put_at (front ++ r ∷ rest) o k ≡ some (front ++ o ∷ rest)
put_within front rest r o k size =
    cond-true (ltb k (length (front ++ r ∷ rest))) _ _ (lt-ltb k (length (front ++ r ∷ rest)) (omega (arith, size, length-append front (r ∷ rest))))
    ∙ ap some (ap (λ n. set (front ++ r ∷ rest) n o) (sym size) ∙ set-append_seam front r rest o)

-- Each record that isn't written is kept already, and no more is kept than records are there.

abbrev AreKept : (Stored → Bool) → List Stored → List Stored → Type 0
AreKept test [] kept = kept ≡ []
AreKept test (o ∷ os) [] = (test o ≡ true) × AreKept test os []
AreKept test (o ∷ os) (r ∷ kept) = (test o ≡ false → r ≡ o) × AreKept test os kept

more_size : (front : List Stored) (o : Stored) (k : ℕ) → length front ≡ k → length (front ++ o ∷ []) ≡ suc k
more_size front o k size = omega (arith, size, length-append front (o ∷ []))

module _ (test : Stored → Bool) (front os : List Stored) (o : Stored) (k : ℕ) (size : length front ≡ k) (number : o.dbref ≡ dbref_of k) where
  abbrev picked : Bool → List Stored
  picked b = cond b (o ∷ filter test os) (filter test os)

  last_placed : test o ≡ true → all_placed (filter test os) ((front ++ o ∷ []) ++ []) ≡ some ((front ++ o ∷ []) ++ os) → all_placed (picked (test o)) (front ++ []) ≡ some (front ++ o ∷ os)
  unfolding all_placed
  last_placed put others =
      ap (λ b. all_placed (picked b) (front ++ [])) put ∙ ap (λ l. all_placed (o ∷ filter test os) l) (append-nil front)
      ∙ ap (option_and_then (all_placed (filter test os))) (at_number front o k number ∙ put_last front o k size ∙ ap some (sym (append-nil (front ++ o ∷ []))))
      ∙ others ∙ ap some (append_assoc front (o ∷ []) os)

  next_placed : (r : Stored) (rest : List Stored) (b : Bool) → test o ≡ b → (test o ≡ false → r ≡ o) → all_placed (filter test os) ((front ++ o ∷ []) ++ rest) ≡ some ((front ++ o ∷ []) ++ os)
      → all_placed (picked b) (front ++ r ∷ rest) ≡ some (front ++ o ∷ os)
  unfolding all_placed
  next_placed r rest true e same others =
      ap (option_and_then (all_placed (filter test os))) (at_number (front ++ r ∷ rest) o k number ∙ put_within front rest r o k size ∙ ap some (sym (append_assoc front (o ∷ []) rest)))
      ∙ others ∙ ap some (append_assoc front (o ∷ []) os)
  next_placed r rest false e same others =
      ap (λ x. all_placed (filter test os) (front ++ x ∷ rest)) (same e) ∙ ap (all_placed (filter test os)) (sym (append_assoc front (o ∷ []) rest))
      ∙ others ∙ ap some (append_assoc front (o ∷ []) os)

all_laid : (test : Stored → Bool) (front kept records : List Stored) (k : ℕ) → length front ≡ k → Numbered k records → AreKept test records kept → all_placed (filter test records) (front ++ kept) ≡ some (front ++ records)
unfolding all_placed
all_laid test front kept [] k size number are = ap (λ l. some (front ++ l)) are
all_laid test front [] (o ∷ os) k size number are =
    last_placed test front os o k size number.0 are.0 (all_laid test (front ++ o ∷ []) [] os (suc k) (more_size front o k size) number.1 are.1)
all_laid test front (r ∷ kept) (o ∷ os) k size number are =
    next_placed test front os o k size number.0 r kept (test o) refl are.0 (all_laid test (front ++ o ∷ []) kept os (suc k) (more_size front o k size) number.1 are.1)

-- What is left out is kept.

seam : (front kept : List Stored) → slice_get (front ++ kept) (length front) ≡ slice_get kept 0
seam [] kept = refl
seam (x ∷ front) kept = seam front kept

kept_at : (objects : List Stored) (o : Stored) (k : ℕ) → o.dbref ≡ dbref_of k → kept_record objects o ≡ slice_get objects k
kept_at objects o k number = ap (λ (d : Dbref). option_and_then (slice_get objects) (index_of d)) number

none_kept : (objects records : List Stored) (k : ℕ) → length objects ≤ k → Numbered k records → AreKept (differs objects) records []
none_kept objects [] k le number = refl
none_kept objects (o ∷ os) k le number = (differs_by objects o None (kept_at objects o k number.0 ∙ slice_get_past objects k le), none_kept objects os (suc k) (omega (arith, le)) number.1)

left_out : (objects front kept records : List Stored) (k : ℕ) → objects ≡ front ++ kept → length front ≡ k → Numbered k records → All IsStored kept → All IsStored records → length kept ≤ length records → AreKept (differs objects) records kept
left_out objects front [] records k is size number stored fine le = none_kept objects records k (omega (arith, ap length is, length-append front [], size)) number
left_out objects front (r ∷ kept) [] k is size number stored fine le = absurd (omega (arith, le))
left_out objects front (r ∷ kept) (o ∷ os) k is size number stored fine le =
    let found : slice_get objects k ≡ Some r = ap (λ n. slice_get objects n) (sym size) ∙ ap (λ l. slice_get l (length front)) is ∙ seam front (r ∷ kept) in (
      (λ e. equals o r (All-head IsStored r kept stored) (All-head IsStored o os fine) (sym (differs_by objects o (Some r) (kept_at objects o k number.0 ∙ found)) ∙ e)),
      left_out objects (front ++ r ∷ []) kept os (suc k) (is ∙ sym (append_assoc front (r ∷ []) kept)) (more_size front r k size) number.1 (All-tail IsStored r kept stored) (All-tail IsStored o os fine) (omega (arith, le)),
    )

-- What is written is a batch.

abbrev Below : Option Dbref → ℕ → Type 0
Below None k = Unit {0}
Below (Some d) k = (j : ℕ) × (d ≡ dbref_of j) × (j < k)

above : (before : Option Dbref) (k : ℕ) (d : Dbref) → Below before k → d ≡ dbref_of k → is_above before d ≡ true
above None k d below is = refl
above (Some before) k d below is = ap (λ (x : Dbref). int_lt x.0 d.0) below.1 ∙ ap (λ (x : Dbref). int_lt (pos below.0) x.0) is ∙ lt-ltb below.0 k below.2

later : (before : Option Dbref) (k : ℕ) → Below before k → Below before (suc k)
later None k below = tt
later (Some d) k below = (below.0, below.1, omega (arith, below.2))

abbrev Rises : Option Dbref → List Stored → Type 0
Rises before records = Run dbref_key IsNextRecord before records

either : (before : Option Dbref) (b : Bool) (xs ys : List Stored) → Rises before xs → Rises before ys → Rises before (cond b xs ys)
either before true xs ys first second = first
either before false xs ys first second = second

written_rises : (test : Stored → Bool) (before : Option Dbref) (k : ℕ) (records : List Stored) → Below before k → Numbered k records → All IsStored records → Rises before (filter test records)
written_rises test before k [] below number stored = tt
written_rises test before k (o ∷ os) below number stored =
    let rest = All-tail IsStored o os stored in
    either before (test o) (o ∷ filter test os) (filter test os)
    ((All-head IsStored o os stored, above before k o.dbref below number.0), written_rises test (Some o.dbref) (suc k) os (k, number.0, omega arith) number.1 rest)
    (written_rises test before (suc k) os (later before k below) number.1 rest)

few : (test : Stored → Bool) (records : List Stored) → length (filter test records) ≤ length records
few test records = omega (arith, length-filter_both test (λ o. not (test o)) (λ o. refl) records)

-- parameters within their limits are numbers of 32 bits
pub tune_words : (t : Tune) → tune_fits t ≡ true → IsTune t
tune_words t e = words None parameters
  where
    words : (before : Option ℕ) (ps : List Parameter) → Run (λ (n : ℕ). n) IsWord before (map (λ p. parameter_of p t) ps)
    words before [] = tt
    words before (p ∷ ps) = (omega (arith, (in_range t e p).1, most_is_word p), words (Some (parameter_of p t)) ps)

-- What is laid.

laid_batch : (payload : List ℕ) (b : Batch) (w : StoredWorld) (objects : List Stored) → whole_batch 1 payload ≡ Ok b → all_placed b.records w.objects ≡ some objects → laid payload w ≡ judged_world b.tune objects
unfolding laid laid_over
laid_batch payload b w objects reads places = ap (λ r. option_and_then (λ x. laid_over x w) (batch_if r)) reads ∙ ap (option_and_then (judged_world b.tune)) places

lays_written : (w : StoredWorld) (es : List Entry) (tune : Tune) → All IsStored (persist es) → All IsStored w.objects → length w.objects ≤ length es → length (records_written w.objects (persist es)) < 2 ^ 32 → IsTune tune
    → laid (batch_bytes (records_written w.objects (persist es)) tune) w ≡ judged_world tune (persist es)
unfolding records_written persist
lays_written w es tune stored kept le size words =
    let test = differs w.objects in
    let long = persist_length es 0 es in
    let numbered = persist_numbered es 0 es in
    let are : AreKept test (persist es) w.objects = left_out w.objects [] w.objects (persist es) 0 refl refl numbered kept stored (omega (arith, le, long)) in
    laid_batch (batch_bytes (filter test (persist es)) tune) (record { records = filter test (persist es); tune = tune }) w (persist es)
    (whole_reads (filter test (persist es)) tune (size, written_rises test None 0 (persist es) tt numbered stored) words)
    (all_laid test [] w.objects (persist es) 0 refl numbered are)

abbrev some_world : StoredWorld → Option StoredWorld
some_world w = Some w

-- What the next batch is laid over: what the store holds, or the starting world.

abbrev objects_of : Chosen → List Stored
objects_of s = s.held.world.objects

target_starts : (s : Chosen) → opens_new s.held ≡ true → objects_of (target s) ≡ start.objects
unfolding target begin
target_starts s e = ap objects_of (cond-true (opens_new s.held) _ _ e)

target_stays : (s : Chosen) → opens_new s.held ≡ false → objects_of (target s) ≡ objects_of s
unfolding target
target_stays s e = ap objects_of (cond-false (opens_new s.held) _ _ e)

target_has : (P : List Stored → Type 0) (s : Chosen) (b : Bool) → opens_new s.held ≡ b → P start.objects → P (objects_of s) → P (objects_of (target s))
target_has P s true e first here = subst P (sym (target_starts s e)) first
target_has P s false e first here = subst P (sym (target_stays s e)) here

target_stored : (s : Chosen) → All IsStored (objects_of s) → All IsStored (objects_of (target s))
target_stored s = target_has (All IsStored) s (opens_new s.held) refl start_stored

target_covered : (s : Chosen) (n : ℕ) → length (objects_of s) ≤ n → 2 ≤ n → length (objects_of (target s)) ≤ n
target_covered s n le two = target_has (λ os. length os ≤ n) s (opens_new s.held) refl (omega (arith, two, start_two)) le

batch_laid : (log : LogState) (es : List Entry) (tune : Tune) → All IsStored (persist es) → All IsStored (objects_of (target log.chosen)) → length (objects_of (target log.chosen)) ≤ length es
    → length (records_written (objects_of (target log.chosen)) (persist es)) < 2 ^ 32 → IsTune tune → laid (payload_of log (world_batch es tune)) (target log.chosen).held.world ≡ judged_world tune (persist es)
unfolding payload_of
batch_laid log es tune = lays_written (target log.chosen).held.world es tune

judged_is : (b : Bool) (made w : StoredWorld) → cond b (some_world made) None ≡ some_world w → w ≡ made
judged_is true made w e = sym (same_Some made w e)
judged_is false made w e = absurd (none-some w e)

-- Where what is written makes a world at all, it makes the one that it was taken from. The tune parameters are numbers of 32 bits.
lays_whole : (log : LogState) (es : List Entry) (tune : Tune) (w : StoredWorld) → All IsStored (persist es) → All IsStored (objects_of (target log.chosen)) → length (objects_of log.chosen) ≤ length es → 2 ≤ length es
    → length (records_written (objects_of (target log.chosen)) (persist es)) < 2 ^ 32 → IsTune tune → laid (payload_of log (world_batch es tune)) (target log.chosen).held.world ≡ Some w → w ≡ record { objects = persist es; tune = tune }
lays_whole log es tune w stored kept le two size words makes =
    let covered = target_covered log.chosen (length es) le two in
    judged_is (is_fine (persist es) tune) (record { objects = persist es; tune = tune }) w (sym (batch_laid log es tune stored kept covered size words) ∙ makes)

-- A batch that leaves out what is kept.

empty_keeps : (o : Stored) (at : Option ℕ) → option_and_then (slice_get []) at ≡ Some o → ⊥
empty_keeps o None e = cc
empty_keeps o (Some k) e = cc

base_opens : (log : LogState) → opens_new log.chosen.held ≡ true → base_of log ≡ []
unfolding base_of
base_opens log e = cond-true (opens_new log.chosen.held) _ _ e

base_stays : (log : LogState) → opens_new log.chosen.held ≡ false → base_of log ≡ objects_of log.chosen
unfolding base_of
base_stays log e = cond-false (opens_new log.chosen.held) _ _ e

-- what it may leave out is kept in the world that it is laid over
base_kept : (log : LogState) (o : Stored) (b : Bool) → opens_new log.chosen.held ≡ b → IsKept (base_of log) o → IsKept (objects_of (target log.chosen)) o
base_kept log o true e kept = absurd (empty_keeps o (index_of o.dbref) (subst (λ os. IsKept os o) (base_opens log e) kept))
base_kept log o false e kept = subst (λ os. IsKept os o) (base_stays log e ∙ sym (target_stays log.chosen e)) kept

module _ (log : LogState) (es : List Entry) (records : List Stored) (kept : All IsStored (objects_of (target log.chosen))) (left : LeavesOut (base_of log) (persist es) records) where
  -- what is written of it is what is written of all records
  written_left : records_written (objects_of (target log.chosen)) records ≡ records_written (objects_of (target log.chosen)) (persist es)
  unfolding records_written
  written_left = left_filter (differs (objects_of (target log.chosen))) (λ o is. kept_same (objects_of (target log.chosen)) o kept (base_kept log o (opens_new log.chosen.held) refl is)) left

  -- and where its records have spellings, all records have
  stored_left : All IsStored records → All IsStored (persist es)
  stored_left = left_whole IsStored (λ o is. found_stored (objects_of (target log.chosen)) (index_of o.dbref) o kept (base_kept log o (opens_new log.chosen.held) refl is)) left

  written_few : length records < 2 ^ 32 → length (records_written (objects_of (target log.chosen)) (persist es)) < 2 ^ 32
  unfolding records_written
  written_few size = omega (arith, size, few (differs (objects_of (target log.chosen))) records, ap length written_left)

payload_over : (log : LogState) (batch : Batch) (es : List Entry) (tune : Tune) → All IsStored (objects_of (target log.chosen)) → LeavesOut (base_of log) (persist es) batch.records → batch.tune ≡ tune
    → payload_of log batch ≡ payload_of log (world_batch es tune)
unfolding payload_of
payload_over log batch es tune kept left tuned = ap (λ os. batch_bytes os batch.tune) (written_left log es batch.records kept left) ∙ ap (batch_bytes (records_written (objects_of (target log.chosen)) (persist es))) tuned

-- A batch that leaves out what is kept is written as the whole batch of its world.
pub left_payload : (log : LogState) (batch : Batch) (es : List Entry) (tune : Tune) → All IsStored log.chosen.held.world.objects → LeavesOut (base_of log) (persist es) batch.records → batch.tune ≡ tune
    → payload_of log batch ≡ payload_of log (world_batch es tune)
left_payload log batch es tune kept = payload_over log batch es tune (target_stored log.chosen kept)

-- In the words of the call that writes it: what is ready to be written makes the world of which the batch was taken.
pub ready_whole : (old new : LogState) (batch : Batch) → IsLaidNext old new (payload_of old batch) → All IsStored batch.records → All IsStored (objects_of (target old.chosen)) → length batch.records < 2 ^ 32
    → (es : List Entry) (tune : Tune) → LeavesOut (base_of old) (persist es) batch.records → batch.tune ≡ tune → tune_fits tune ≡ true → 2 ≤ length es → length old.chosen.held.world.objects ≤ length es
    → laid (payload_of old batch) (target old.chosen).held.world ≡ Some (record { objects = persist es; tune = tune })
ready_whole old new batch lays stored kept few es tune left tuned words two covers =
    let made : laid (payload_of old (world_batch es tune)) (target old.chosen).held.world ≡ Some new.chosen.held.world =
    ap (λ payload. laid payload (target old.chosen).held.world) (sym (payload_over old batch es tune kept left tuned)) ∙ lays.world in
    let all = stored_left old es batch.records kept left stored in
    lays.world ∙ ap Some (lays_whole old es tune new.chosen.held.world all kept covers two (written_few old es batch.records kept left few) (tune_words tune words) made)

fine_tune : (es : List Entry) (tune : Tune) → is_fine (persist es) tune ≡ true → tune_fits tune ≡ true
unfolding is_fine
fine_tune es tune fine = (and_parts (tune_fits tune) _ (and_parts (list_all record_fits (persist es)) _ (and_parts (nat_le (length (persist es)) 100000) _ fine).1).1).0

-- A consistent world may be stored.
pub fine_world : (es : List Entry) (tune : Tune) → IsConsistent es → list_all record_fits (persist es) ≡ true → tune_fits tune ≡ true → is_fine (persist es) tune ≡ true
unfolding is_fine
fine_world es tune consistent limits tuned =
    and_from (nat_le (length (persist es)) 100000) _ (le-leb (length (persist es)) 100000 (omega (arith, consistent.ordered.few, length_persist es)))
    (and_from (list_all record_fits (persist es)) _ limits (and_from (tune_fits tune) (is_whole_store (persist es)) tuned (consistent_whole es consistent)))

-- In the words of its caller: the batch of a world that hangs together with every value within its limits makes that world, where it
-- has no fewer objects than are kept.
pub fit_makes : (log : LogState) (batch : Batch) (es : List Entry) (tune : Tune) → All IsStored log.chosen.held.world.objects → All IsStored batch.records → length batch.records < 2 ^ 32
    → LeavesOut (base_of log) (persist es) batch.records → batch.tune ≡ tune → is_fine (persist es) tune ≡ true → 2 ≤ length es → length log.chosen.held.world.objects ≤ length es
    → laid (payload_of log batch) (target log.chosen).held.world ≡ Some (record { objects = persist es; tune = tune })
fit_makes log batch es tune kept stored few left tuned fine two covers =
    let there = target_stored log.chosen kept in
    let all = stored_left log es batch.records there left stored in
    ap (λ payload. laid payload (target log.chosen).held.world) (payload_over log batch es tune there left tuned)
    ∙ batch_laid log es tune all there (target_covered log.chosen (length es) covers two) (written_few log es batch.records there left few) (tune_words tune (fine_tune es tune fine))
    ∙ cond-true (is_fine (persist es) tune) _ _ fine

-- A batch without a record makes the world that it is laid over, with its own parameters.

retuned : (objects : List Stored) (old tune : Tune) → is_fine objects old ≡ true → tune_fits tune ≡ true → is_fine objects tune ≡ true
unfolding is_fine
retuned objects old tune fine tuned =
    let a = and_parts (nat_le (length objects) 100000) _ fine in
    let b = and_parts (list_all record_fits objects) _ a.1 in
    let c = and_parts (tune_fits old) (is_whole_store objects) b.1 in
    and_from (nat_le (length objects) 100000) _ a.0 (and_from (list_all record_fits objects) _ b.0 (and_from (tune_fits tune) (is_whole_store objects) tuned c.1))

lays_nothing : (w : StoredWorld) (tune : Tune) → is_fine w.objects w.tune ≡ true → tune_fits tune ≡ true → laid (batch_bytes [] tune) w ≡ Some (record { objects = w.objects; tune = tune })
unfolding all_placed
lays_nothing w tune fine tuned =
    laid_batch (batch_bytes [] tune) (record { records = []; tune = tune }) w w.objects (whole_reads [] tune (omega arith, tt) (tune_words tune tuned)) refl
    ∙ cond-true (is_fine w.objects tune) _ _ (retuned w.objects w.tune tune fine tuned)

target_fine : (s : Chosen) (b : Bool) → opens_new s.held ≡ b → IsFine s.held.world → IsFine (target s).held.world
unfolding target begin
target_fine s true e fine = subst (λ (t : Chosen). IsFine t.held.world) (sym (cond-true (opens_new s.held) _ _ e)) start_fine
target_fine s false e fine = subst (λ (t : Chosen). IsFine t.held.world) (sym (cond-false (opens_new s.held) _ _ e)) fine

pub nothing_makes : (log : LogState) (batch : Batch) → IsFine log.chosen.held.world → batch.records ≡ [] → tune_fits batch.tune ≡ true → MakesWorld log batch
unfolding payload_of records_written
nothing_makes log batch fine none tuned =
    let w = (target log.chosen).held.world in (
      record { objects = w.objects; tune = batch.tune },
      ap (λ records. laid (batch_bytes (filter (differs w.objects) records) batch.tune) w) none ∙ lays_nothing w batch.tune (target_fine log.chosen (opens_new log.chosen.held) refl fine) tuned,
    )
