-- The records of a world can be handed to the log, without what it keeps: they are few.
use Rattle.std.proofs.Common.{◌≡◌, ℕ, suc, ◌<◌, ◌^◌, List, [], ◌∷◌, length, refl, ap, arith}
use Rattle.muck_codec.specs.declared.stored.Stored.{Stored}
use Rattle.muck_store.proofs.Changing.{left_fewer}
use Rattle.muck_store.specs.inner.Changes.{LeavesOut}
use Rattle.muck_store.specs.Forms.{stored_from, persist}
use Rattle.spec_live.specs.Objects.{Entry}
use Rattle.spec_live.specs.Consistent.{IsConsistent}

length_from : (es : List Entry) (k : ℕ) (rest : List Entry) → length (stored_from es k rest) ≡ length rest
unfolding stored_from
length_from es k [] = refl
length_from es k (e ∷ rest) = ap suc (length_from es (suc k) rest)

pub batch_few : {base records : List Stored} (es : List Entry) → LeavesOut base (persist es) records → IsConsistent es → length records < 2 ^ 32
unfolding persist
batch_few es left consistent = omega (arith, left_fewer left, length_from es 0 es, consistent.ordered.few)
