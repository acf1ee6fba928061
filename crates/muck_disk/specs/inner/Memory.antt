-- What a read gives is one of the images.
use Rattle.std.specs.Prelude.{◌≡◌, ℕ, ◌+◌, ◌-◌, ◌≤◌, List, [], ◌∷◌, ◌++◌, length, take, drop, reverse, true, false, refl}
use Rattle.std.proofs.Common.{sym, ◌∙◌, ap, subst, arith, length-append, length-take, length-drop}
use Rattle.std.proofs.lemmas.List.{take_all, take_at, drop_at, append_assoc}
use Rattle.std.proofs.lemmas.Bool.{and_parts, leb-true}
use Rattle.muck_disk.specs.Images.{bytes_written, Torn, Elapses}
use Rattle.muck_disk.specs.inner.Replay.{seen_after, left_after, is_within, all_within, left_at}
use Rattle.muck_disk.specs.declared.memory.Call.{Call}
use Rattle.muck_disk.specs.declared.memory.Call.TheVariants.{Asked, Wrote, Synced}
use Rattle.muck_disk.specs.declared.memory.MemDisk.{MemDisk}

-- what a crash may leave now
abbrev pub left_of : MemDisk → List ℕ → Type 0
left_of d = left_at d.first.items d.calls.items (length d.calls.items)

-- all that the step may make of what could be left is left
abbrev pub Leaves : (List ℕ → Type 0) → (List ℕ → Type 0) → (List ℕ → List ℕ → Type 0) → Type 0
Leaves past images step = (c d : List ℕ) → past c → step c d → images d

-- time passes from a disk to what it is later
abbrev pub Passes : MemDisk → MemDisk → (List ℕ → List ℕ → Type 0) → Type 0
Passes old now step = Elapses (length old.calls.items) (length now.calls.items) (left_at old.first.items old.calls.items) (left_at now.first.items now.calls.items) step

-- what a whole write leaves is what a crash in it may leave
pub Torn-written : (at : ℕ) (bytes old : List ℕ) → at ≤ length old → Torn at (length bytes) old (bytes_written old at bytes)
Torn-written at bytes old le =
    let size : length (take at old) ≡ at = omega (arith, length-take at old) in
    let total : length (bytes_written old at bytes) ≡ at + length bytes + (length old - (at + length bytes)) =
    omega (arith, length-append (take at old ++ bytes) (drop (at + length bytes) old), length-append (take at old) bytes, length-drop (at + length bytes) old, size) in
    record {
      before = ap (take at) (append_assoc (take at old) bytes (drop (at + length bytes) old)) ∙ take_at (take at old) (bytes ++ drop (at + length bytes) old) at size;
      after = drop_at (take at old ++ bytes) (drop (at + length bytes) old) (at + length bytes) (omega (arith, length-append (take at old) bytes, size));
      no_shorter = omega (arith, total);
      no_longer = omega (arith, total);
    }

-- nothing done is also what a crash in a write may leave
pub Torn-none : (at n : ℕ) (old : List ℕ) → Torn at n old old
Torn-none at n old = record { before = refl; after = refl; no_shorter = omega arith; no_longer = omega arith }

pub seen_in : (first : List ℕ) (calls : List Call) → all_within first calls ≡ true → left_after first calls (seen_after first calls)
seen_in first [] all = refl
seen_in first (Wrote at v true ∷ calls) all =
    let both = and_parts (is_within (seen_after first calls) (Wrote at v true)) (all_within first calls) all in
    (seen_after first calls, seen_in first calls both.1, Torn-written at v.items (seen_after first calls) (leb-true at (length (seen_after first calls)) both.0))
seen_in first (Wrote at v false ∷ calls) all =
    let both = and_parts (is_within (seen_after first calls) (Wrote at v false)) (all_within first calls) all in
    (seen_after first calls, seen_in first calls both.1, Torn-none at (length v.items) (seen_after first calls))
seen_in first (Synced true ∷ calls) all = refl
seen_in first (Synced false ∷ calls) all = seen_in first calls (and_parts true (all_within first calls) all).1
seen_in first (Asked ∷ calls) all = seen_in first calls (and_parts true (all_within first calls) all).1

pub mem_seen_left : (d : MemDisk) → left_at d.first.items d.calls.items (length d.calls.items) d.bytes.items
mem_seen_left d = subst (λ l. left_after d.first.items (reverse l) d.bytes.items) (sym (take_all (length d.calls.items) d.calls.items (omega arith)))
    (subst (left_after d.first.items (reverse d.calls.items)) (sym d.kept) (seen_in d.first.items (reverse d.calls.items) d.within))
