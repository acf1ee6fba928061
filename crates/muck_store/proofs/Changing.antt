-- What records say that leave out what is kept already.
use Rattle.std.proofs.Common.{◌≡◌, ◌≤◌, List, [], ◌∷◌, refl, ap, length, arith, Bool, false, cond}
use Rattle.std.proofs.lemmas.List.Elements.{All-cons, All-head, All-tail}
use Rattle.std.specs.List.{All, filter}
use Rattle.muck_codec.specs.declared.stored.Stored.{Stored}
use Rattle.muck_store.specs.inner.Changes.{IsKept, LeavesOut, none, takes, leaves}

-- nothing may be left out
pub left_none : (base all : List Stored) → LeavesOut base all all
left_none base [] = none
left_none base (o ∷ all) = takes o (left_none base all)

pub left_fewer : {base all records : List Stored} → LeavesOut base all records → length records ≤ length all
left_fewer none = omega arith
left_fewer (takes o rest) = omega (arith, left_fewer rest)
left_fewer (leaves o kept rest) = omega (arith, left_fewer rest)

-- A test that no kept record passes finds the same among the records as among all of them.
pub left_filter : {base all records : List Stored} (test : Stored → Bool) → ((o : Stored) → IsKept base o → test o ≡ false) → LeavesOut base all records → filter test records ≡ filter test all
left_filter test misses none = refl
left_filter test misses (takes o rest) = ap (λ (os : List Stored). cond (test o) (o ∷ os) os) (left_filter test misses rest)
left_filter test misses (leaves o kept rest) = rw (misses o kept) (left_filter test misses rest)

-- What holds of all of them holds of the records; and the other way round, where it holds of what is kept.

pub left_whole : {base all records : List Stored} (P : Stored → Type 0) → ((o : Stored) → IsKept base o → P o) → LeavesOut base all records → All P records → All P all
left_whole P stands none h = h
left_whole P stands (takes o {all} {records} rest) h = All-cons P o all (All-head P o records h) (left_whole P stands rest (All-tail P o records h))
left_whole P stands (leaves o {all} kept rest) h = All-cons P o all (stands o kept) (left_whole P stands rest h)
