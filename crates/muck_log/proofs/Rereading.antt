-- What was written of a batch is what is read again: where its bytes make a world, that is the one with its records.
use Rattle.std.proofs.Common.{◌≡◌, ℕ, suc, ◌<◌, ◌^◌, Bool, true, false, cond, List, [], ◌∷◌, ◌++◌, length, Option, Some, None, option_and_then, Result, Ok, Err, refl, sym, ap, ◌∙◌, append_assoc}
use Rattle.std.specs.Prelude.{All, ◌==◌, if◌then◌else◌}
use Rattle.std.specs.List.{flat_map}
use Rattle.std.specs.Int.{w32, to_be_bytes}
use Rattle.std.proofs.lemmas.List.Concat.{flat_map-cons}
use Rattle.std.proofs.lemmas.List.Elements.{All-head, All-tail}
use Rattle.std.proofs.lemmas.Option.{same_Some, none-some}
use Rattle.muck_laws.proofs.Results.{test_ok}
use Rattle.muck_model.specs.declared.dbref.Dbref.{Dbref}
use Rattle.muck_model.specs.declared.tune.Tune.{Tune}
use Rattle.muck_codec.specs.declared.stored.Stored.{Stored}
use Rattle.muck_codec.specs.declared.stored.Batch.{Batch}
use Rattle.muck_codec.specs.Reading.{◌>>=◌, both_read, count_then_items, several, number_at}
use Rattle.muck_codec.specs.Batches.{is_above, next_record_at, records_at, tune_at, batch_of, batch_at, whole_batch, tune_bytes, batch_bytes}
use Rattle.muck_codec.specs.Spelling.{spelling}
use Rattle.muck_codec.specs.inner.Stored.{IsStored, IsTune, Run}
use Rattle.muck_codec.proofs.Batches.{IsNextRecord, dbref_key, whole_reads}
use Rattle.muck_codec.proofs.Codes.{bind_ok, ok_is}
use Rattle.muck_codec.proofs.Fields.{codes32}
use Rattle.muck_codec.proofs.Records.{record_codes}
use Rattle.muck_log.specs.World.{StoredWorld, IsFine, is_fine, judged_world, laid_over, batch_if, laid}

-- Records that are read rise.

abbrev pair : {A : Type 0} → A → List ℕ → A × List ℕ
pair x rest = (x, rest)

abbrev judged : Option Dbref → Stored × List ℕ → Result (Stored × List ℕ) ℕ
judged before o = if is_above before o.0.dbref then Ok o else Err (suc (length o.1))

next_read : (before : Option Dbref) (o : Stored) (tail : List ℕ) (x : Stored × List ℕ) → IsStored o → next_record_at 1 before (spelling o ++ tail) ≡ Ok x → (is_above before o.dbref ≡ true) × (pair o tail ≡ x)
unfolding next_record_at
next_read before o tail x is e =
    test_ok (is_above before o.dbref) (suc (length tail)) (pair o tail) x (sym (ap (λ r. r >>= judged before) (record_codes.again o tail is)) ∙ e)

abbrev more_at : Option Dbref → ℕ → List ℕ → Result (List Stored × List ℕ) ℕ
more_at before n bytes = several dbref_key (next_record_at 1) before n bytes

rises : (before : Option Dbref) (records : List Stored) (rest : List ℕ) (read : List Stored × List ℕ) → All IsStored records → more_at before (length records) (flat_map spelling records ++ rest) ≡ Ok read
    → Run dbref_key IsNextRecord before records
unfolding several
rises before [] rest read stored e = tt
rises before (o ∷ os) rest read stored e =
    let tail : List ℕ = flat_map spelling os ++ rest in
    let apart : flat_map spelling (o ∷ os) ++ rest ≡ spelling o ++ tail = ap (λ (l : List ℕ). l ++ rest) (flat_map-cons spelling o os) ∙ append_assoc (spelling o) (flat_map spelling os) rest in
    let a = bind_ok (next_record_at 1 before (flat_map spelling (o ∷ os) ++ rest)) (λ u. more_at (Some u.0.dbref) (length os) u.1 >>= λ v. Ok (u.0 ∷ v.0, v.1)) read e in
    let first = next_read before o tail a.0 (All-head IsStored o os stored) (ap (next_record_at 1 before) (sym apart) ∙ a.1) in
    let b = bind_ok (more_at (Some a.0.0.dbref) (length os) a.0.1) (λ v. Ok (a.0.0 ∷ v.0, v.1)) read a.2 in (
      (All-head IsStored o os stored, first.0),
      rises (Some o.dbref) os rest b.0 (All-tail IsStored o os stored) (ap (λ (x : Stored × List ℕ). more_at (Some x.0.dbref) (length os) x.1) first.1 ∙ b.1),
    )

abbrev ended : Batch × List ℕ → Result Batch ℕ
ended b = if length b.1 == 0 then Ok b.0 else Err (length b.1)

abbrev records_part : List ℕ → Result (List Stored × List ℕ) ℕ
records_part bytes = count_then_items (number_at w32) (records_at 1) bytes

read_rise : (records : List Stored) (tune : Tune) (b : Batch) → All IsStored records → length records < 2 ^ 32 → whole_batch 1 (batch_bytes records tune) ≡ Ok b → Run dbref_key IsNextRecord None records
unfolding whole_batch batch_at batch_bytes
read_rise records tune b stored few e =
    let rest : List ℕ = flat_map spelling records ++ tune_bytes tune in
    let bytes : List ℕ = to_be_bytes w32 (length records) ++ rest in
    let whole = bind_ok (batch_at 1 bytes) ended b e in
    let parts = bind_ok (both_read records_part tune_at bytes) (λ u. Ok (batch_of u.0, u.1)) whole.0 whole.1 in
    let front = bind_ok (records_part bytes) (λ x. tune_at x.1 >>= λ y. Ok ((x.0, y.0), y.1)) parts.0 parts.1 in
    let count = bind_ok (number_at w32 bytes) (λ n. records_at 1 n.0 n.1) front.0 front.1 in
    let is : pair (length records) rest ≡ count.0 = ok_is (pair (length records) rest) count.0 (sym (codes32.again (length records) rest few) ∙ count.1) in
    rises None records (tune_bytes tune) front.0 stored (ap (λ (n : ℕ × List ℕ). records_at 1 n.0 n.1) is ∙ count.2)

-- What makes a world is a batch.

abbrev laid_if : StoredWorld → Result Batch ℕ → Option StoredWorld
laid_if v r = option_and_then (λ b. laid_over b v) (batch_if r)

some_batch : (v w : StoredWorld) (r : Result Batch ℕ) → laid_if v r ≡ Some w → (b : Batch) × (r ≡ Ok b)
some_batch v w (Ok b) e = (b, refl)
some_batch v w (Err left) e = absurd (none-some w e)

-- the bytes of a batch that make a world make the one with the batch laid over it
pub laid_as_it_is : (b : Batch) (v w : StoredWorld) → All IsStored b.records → length b.records < 2 ^ 32 → IsTune b.tune → laid (batch_bytes b.records b.tune) v ≡ Some w → laid (batch_bytes b.records b.tune) v ≡ laid_over b v
unfolding laid
laid_as_it_is b v w stored few words e =
    let read = some_batch v w (whole_batch 1 (batch_bytes b.records b.tune)) e in
    ap (laid_if v) (whole_reads b.records b.tune (few, read_rise b.records b.tune read.0 stored few read.1) words)

-- In the words of what lays it.

judged_is : (yes : Bool) (made w : StoredWorld) → cond yes (Some made) None ≡ Some w → (yes ≡ true) × (w ≡ made)
judged_is true made w e = (refl, sym (same_Some made w e))
judged_is false made w e = absurd (none-some w e)

module _ (b : Batch) (v : StoredWorld) (stored : All IsStored b.records) (few : length b.records < 2 ^ 32) (words : IsTune b.tune) (makes : (w : StoredWorld) × (laid (batch_bytes b.records b.tune) v ≡ Some w)) where
  pub never_refused : laid_over b v ≡ None → ⊥
  never_refused none = none-some makes.0 (sym none ∙ sym (laid_as_it_is b v makes.0 stored few words makes.1) ∙ makes.1)

  pub put_known : (new : StoredWorld) → laid_over b v ≡ judged_world new.tune new.objects → (laid (batch_bytes b.records b.tune) v ≡ Some new) × IsFine new
  put_known new put =
      let same = laid_as_it_is b v makes.0 stored few words makes.1 in
      let judged = judged_is (is_fine new.objects new.tune) new makes.0 (sym put ∙ sym same ∙ makes.1) in
      (makes.1 ∙ ap (λ w. Some w) judged.1, judged.0)
