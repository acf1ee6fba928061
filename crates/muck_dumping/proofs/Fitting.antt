-- What a world's own batch makes: that world, which may be stored.
use Rattle.std.proofs.Common.{◌≡◌, inl, inr, ℕ, zero, suc, ◌≤◌, ◌<◌, ◌^◌, true, List, [], ◌∷◌, length, Option, Some, refl, ap, subst, arith}
use Rattle.std.specs.Prelude.{All, nat_le, nat_lt, ◌&&◌, ◌==◌, slice_get}
use Rattle.std.specs.List.{list_all}
use Rattle.std.proofs.lemmas.Bool.{and_from, or_left, or_right, eq-eqb, le-leb, lt-ltb}
use Rattle.std.proofs.lemmas.List.Sums.{list_all-from_AllPass}
use Rattle.muck_model.specs.Bytes.{lines_most}
use Rattle.muck_model.specs.declared.tune.Tune.{Tune}
use Rattle.muck_model.proofs.Parameters.{fits_in_range}
use Rattle.spec_live.specs.Objects.{Entry}
use Rattle.muck_db.specs.inner.Limits.{IsDigest, FitsLimits, IsWithinLimits}
use Rattle.muck_codec.specs.declared.stored.Stored.{Stored}
use Rattle.muck_codec.specs.inner.Stored.{IsStored}
use Rattle.muck_log.specs.Store.{LogState}
use Rattle.muck_log.specs.Append.{MakesWorld, base_of}
use Rattle.muck_log.proofs.Deltas.{fit_makes, fine_world}
use Rattle.muck_store.proofs.StoredForms.{object_at_entry}
use Rattle.muck_store.specs.inner.Changes.{LeavesOut}
use Rattle.muck_store.specs.Forms.{stored_of, stored_from, persist}
use Rattle.muck_store.specs.Limits.{is_hex_digit, is_digest, record_fits}
use Rattle.muck_dumping.specs.declared.parts.Pending.{Pending}
use Rattle.muck_dumping.specs.inner.Between.{IsBatchOf, base_in}
use Rattle.muck_dumping.proofs.Appending.{two_there}
use Rattle.muck_dumping.proofs.Records.{batch_few}

digest_fits : (digest : List ℕ) → IsDigest digest → is_digest digest ≡ true
unfolding is_digest
digest_fits digest (inl none) = or_left (length digest == 0) (length digest == 80 && list_all is_hex_digit digest) (eq-eqb (length digest) 0 (ap length none))
digest_fits digest (inr whole) =
    or_right (length digest == 0) (length digest == 80 && list_all is_hex_digit digest) (and_from (length digest == 80) (list_all is_hex_digit digest) (eq-eqb (length digest) 80 whole.0) (list_all-from_AllPass is_hex_digit digest whole.1))

one_fits : (es : List Entry) (k : ℕ) (e : Entry) → FitsLimits e.object → record_fits (stored_of es k e) ≡ true
unfolding record_fits stored_of
one_fits es k e h =
    and_from (nat_le 1 (length e.object.name)) _ (le-leb 1 (length e.object.name) h.named)
    (and_from (nat_le (length e.object.name) 80) _ (le-leb (length e.object.name) 80 h.short)
    (and_from (nat_le e.object.level 3) _ (le-leb e.object.level 3 h.level)
    (and_from (nat_lt e.object.flags.0 16384) _ (lt-ltb e.object.flags.0 16384 (omega (arith, h.flags)))
    (and_from (nat_le (length e.object.lines) lines_most) _ (le-leb (length e.object.lines) lines_most h.lines) (digest_fits e.object.digest h.digest)))))

all_fit : (es : List Entry) (k : ℕ) (rest : List Entry) → ((i : ℕ) (e : Entry) → slice_get rest i ≡ Some e → FitsLimits e.object) → list_all record_fits (stored_from es k rest) ≡ true
unfolding stored_from
all_fit es k [] each = refl
all_fit es k (e ∷ rest) each = and_from (record_fits (stored_of es k e)) _ (one_fits es k e (each zero e refl)) (all_fit es (suc k) rest (λ i. each (suc i)))

-- objects within their limits have records within theirs
pub persist_fits : (es : List Entry) → IsWithinLimits es → list_all record_fits (persist es) ≡ true
unfolding persist
persist_fits es within = all_fit es 0 es (λ k e is. within k e.object (object_at_entry es k e is))

-- the batch of a dump that began makes the world of which it is
pub makes_world : (o : Option LogState) (log : LogState) (p : Pending) → o ≡ Some log → (objects : List Entry) × (tune : Tune) × IsBatchOf (base_in o) objects tune p
    → All IsStored log.chosen.held.world.objects → length log.chosen.held.world.objects ≤ p.size → MakesWorld log p.batch
makes_world o log p is has kept covers =
    let objects = has.0 in
    let tune = has.1 in
    let b = has.2 in
    let left : LeavesOut (base_of log) (persist objects) p.batch.records = subst (λ (x : Option LogState). LeavesOut (base_in x) (persist objects) p.batch.records) is b.records in (
      record { objects = persist objects; tune = tune },
      fit_makes log p.batch objects tune kept b.storable (batch_few objects left b.consistent) left b.tuning (fine_world objects tune b.consistent (persist_fits objects b.limits) (fits_in_range tune b.tuned)) (two_there objects b.consistent)
          (omega (arith, covers, b.size)),
    )

-- and it is short enough to be written
pub has_few : (base : List Stored) (p : Pending) → (objects : List Entry) × (tune : Tune) × IsBatchOf base objects tune p → length p.batch.records < 2 ^ 32
has_few base p has = batch_few has.0 has.2.records has.2.consistent
