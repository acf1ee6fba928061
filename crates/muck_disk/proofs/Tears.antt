-- What an image made of a torn write meets.
use Rattle.std.proofs.Common.{◌≡◌, ℕ, ◌+◌, ◌-◌, ◌<◌, ◌≤◌, max, min, List, [], ◌∷◌, ◌++◌, length, take, drop, reverse, get_or, replicate, Bool, true, false, leb, refl, sym, ◌∙◌, ap, subst, arith, length-append, length-take, length-drop}
use Rattle.std.proofs.lemmas.Bool.{and_parts, leb-true, leb-false}
use Rattle.std.proofs.lemmas.List.{take_at, length-replicate, take_all, append-nil, drop-drop, drop_at, append_assoc, take_more, take-append-drop, drop_all, reverse-append}
use Rattle.muck_disk.specs.Images.{Torn, bytes_written}
use Rattle.muck_disk.specs.inner.Memory.{Torn-none}
use Rattle.muck_disk.specs.inner.Replay.{seen_after, seen_at, left_after, left_at, all_within, is_within, torn_to, image_after, image_at, synced_length}
use Rattle.muck_disk.specs.declared.memory.Call.{Call}
use Rattle.muck_disk.specs.declared.memory.Call.TheVariants.{Asked, Wrote, Synced}

-- any bytes in place of those of a write, as many or fewer, make one of its images
pub torn_any : (at n : ℕ) (old x : List ℕ) → at ≤ length old → length x ≤ n → Torn at n old (bytes_written old at x)
torn_any at n old x within short =
    record {
      before = ap (take at) (append_assoc (take at old) x (drop (at + length x) old)) ∙ take_at (take at old) (x ++ drop (at + length x) old) at size;
      after = past;
      no_shorter = omega (arith, total);
      no_longer = omega (arith, total, short);
    }
  where
    size : length (take at old) ≡ at
    size = omega (arith, length-take at old, within)

    front : length (take at old ++ x) ≡ at + length x
    front = omega (arith, length-append (take at old) x, size)

    total : length (bytes_written old at x) ≡ at + length x + (length old - (at + length x))
    total = omega (arith, length-append (take at old ++ x) (drop (at + length x) old), front, length-drop (at + length x) old)

    places : at + n ≡ at + length x + (n - length x)
    places = omega (arith, short)

    past : drop (at + n) (bytes_written old at x) ≡ drop (at + n) old
    past = ap (λ k. drop k (bytes_written old at x)) places
        ∙ sym (drop-drop (n - length x) (at + length x) (bytes_written old at x))
        ∙ ap (drop (n - length x)) (drop_at (take at old ++ x) (drop (at + length x) old) (at + length x) front)
        ∙ drop-drop (n - length x) (at + length x) old
        ∙ ap (λ k. drop k old) (sym places)

length-written : (old x : List ℕ) (at : ℕ) → length (bytes_written old at x) ≡ min at (length old) + length x + (length old - (at + length x))
length-written old x at = omega (arith, length-append (take at old ++ x) (drop (at + length x) old), length-append (take at old) x, length-drop (at + length x) old, length-take at old)

-- where the file ends before the write, and may grow no more, the write leaves it as it is
pub torn_past : (room byte : ℕ) (old : List ℕ) (at n : ℕ) → length old < at → min at room ≤ length old → torn_to room byte old at n ≡ old
torn_past room byte old at n past full =
    ap (λ k. bytes_written old at (replicate k byte)) none
    ∙ ap (λ l. l ++ drop (at + 0) old) (append-nil (take at old) ∙ take_all at old (omega (arith, past)))
    ∙ ap (λ l. old ++ l) (drop_all (at + 0) old (omega (arith, past)))
    ∙ append-nil old
  where
    none : min n (max (length old) room - at) ≡ 0
    none = omega (arith, past, full)

-- the bytes of `torn_to` are an image of the write
pub torn_torn : (room byte : ℕ) (old : List ℕ) (at n : ℕ) → min at room ≤ length old → Torn at n old (torn_to room byte old at n)
torn_torn room byte old at n full = go (leb at (length old)) refl
  where
    go : (b : Bool) → leb at (length old) ≡ b → Torn at n old (torn_to room byte old at n)
    go true is = torn_any at n old (replicate (min n (max (length old) room - at)) byte) (leb-true at (length old) is) (omega (arith, length-replicate (min n (max (length old) room - at)) byte))
    go false is = subst (Torn at n old) (sym (torn_past room byte old at n (leb-false at (length old) is) full)) (Torn-none at n old)

-- the image reaches as far as a read, but where it may not
pub reaches : (kept byte : ℕ) (first : List ℕ) (calls : List Call) → all_within first calls ≡ true
    → min (length (seen_after first calls)) (synced_length first calls + kept) ≤ length (image_after kept byte first calls)
reaches kept byte first [] all = omega arith
reaches kept byte first (Wrote at v true ∷ calls) all =
    let both = and_parts (is_within (seen_after first calls) (Wrote at v true)) (all_within first calls) all in
    let old = image_after kept byte first calls in
    let room = synced_length first calls + kept in
    let n = min (length v.items) (max (length old) room - at) in
    omega (arith, reaches kept byte first calls both.1, leb-true at (length (seen_after first calls)) both.0, length-written (seen_after first calls) v.items at, length-written old (replicate n byte) at, length-replicate n byte)
reaches kept byte first (Wrote at v false ∷ calls) all =
    let both = and_parts (is_within (seen_after first calls) (Wrote at v false)) (all_within first calls) all in
    let old = image_after kept byte first calls in
    let room = synced_length first calls + kept in
    let n = min (length v.items) (max (length old) room - at) in
    omega (arith, reaches kept byte first calls both.1, leb-true at (length (seen_after first calls)) both.0, length-written old (replicate n byte) at, length-replicate n byte)
reaches kept byte first (Synced true ∷ calls) all = omega arith
reaches kept byte first (Synced false ∷ calls) all = reaches kept byte first calls (and_parts true (all_within first calls) all).1
reaches kept byte first (Asked ∷ calls) all = reaches kept byte first calls (and_parts true (all_within first calls) all).1

-- so it may begin a write there
pub room_for : (kept byte : ℕ) (first : List ℕ) (calls : List Call) (at : ℕ) → all_within first calls ≡ true → at ≤ length (seen_after first calls)
    → min at (synced_length first calls + kept) ≤ length (image_after kept byte first calls)
room_for kept byte first calls at all le = omega (arith, le, reaches kept byte first calls all)

-- it is one that a crash may leave
pub image_left : (kept byte : ℕ) (first : List ℕ) (calls : List Call) → all_within first calls ≡ true → left_after first calls (image_after kept byte first calls)
image_left kept byte first [] all = refl
image_left kept byte first (Wrote at v done ∷ calls) all =
    let both = and_parts (is_within (seen_after first calls) (Wrote at v done)) (all_within first calls) all in
    let le : at ≤ length (seen_after first calls) = leb-true at (length (seen_after first calls)) both.0 in (
      image_after kept byte first calls,
      image_left kept byte first calls both.1,
      torn_torn (synced_length first calls + kept) byte (image_after kept byte first calls) at (length v.items) (room_for kept byte first calls at both.1 le),
    )
image_left kept byte first (Synced true ∷ calls) all = refl
image_left kept byte first (Synced false ∷ calls) all = image_left kept byte first calls (and_parts true (all_within first calls) all).1
image_left kept byte first (Asked ∷ calls) all = image_left kept byte first calls (and_parts true (all_within first calls) all).1

one_more : (calls : List Call) (i : ℕ) (d : Call) → i < length calls → reverse (take (i + 1) calls) ≡ get_or calls i d ∷ reverse (take i calls)
one_more calls i d lt = ap reverse (take_more calls i d lt) ∙ reverse-append (take i calls) (get_or calls i d ∷ [])

-- all within: each within, of an earlier part too
later : (first : List ℕ) (xs ys : List Call) → all_within first (xs ++ ys) ≡ true → all_within first ys ≡ true
later first [] ys all = all
later first (x ∷ xs) ys all = later first xs ys (and_parts (is_within (seen_after first (xs ++ ys)) x) (all_within first (xs ++ ys)) all).1

pub all_at : (first : List ℕ) (calls : List Call) (i : ℕ) → all_within first (reverse calls) ≡ true → all_within first (reverse (take i calls)) ≡ true
all_at first calls i all =
    let split : reverse calls ≡ reverse (drop i calls) ++ reverse (take i calls) = ap reverse (sym (take-append-drop i calls)) ∙ reverse-append (take i calls) (drop i calls) in
    later first (reverse (drop i calls)) (reverse (take i calls)) (subst (λ l. all_within first l ≡ true) split all)

pub image_left_at : (kept byte : ℕ) (first : List ℕ) (calls : List Call) (t : ℕ) (v : List ℕ) → all_within first (reverse calls) ≡ true → v ≡ image_at kept byte first calls t → left_at first calls t v
image_left_at kept byte first calls t v all is = subst (left_at first calls t) (sym is) (image_left kept byte first (reverse (take t calls)) (all_at first calls t all))

pub within_at : (first : List ℕ) (calls : List Call) (i : ℕ) (d : Call) → i < length calls → all_within first (reverse calls) ≡ true → is_within (seen_at first calls i) (get_or calls i d) ≡ true
within_at first calls i d lt all =
    (and_parts (is_within (seen_at first calls i) (get_or calls i d)) (all_within first (reverse (take i calls))) (subst (λ l. all_within first l ≡ true) (one_more calls i d lt) (all_at first calls (i + 1) all))).0
