-- The items of a history.
use Rattle.std.proofs.Common.{◌≡◌, ℕ, suc, ◌+◌, ◌<◌, ◌≤◌, Bool, true, false, ◌==◌, cond, List, [], ◌∷◌, ◌++◌, length, take, drop, refl, sym, ap, ◌∙◌, subst, append_assoc, append-nil, length-append, arith, Option, Some, None, nat_le}
use Rattle.std.specs.List.{filter}
use Rattle.std.proofs.lemmas.Bool.Decides.{nat_tests}
use Rattle.std.proofs.lemmas.Bool.{cond-true, cond-false}
use Rattle.muck_model.specs.declared.event.Entry.{Entry}
use Rattle.muck_model.specs.declared.event.Event.{Event}
use Rattle.muck_model.specs.declared.note.Note.{Note}
use Rattle.muck_model.specs.declared.note.Count.{Count}
use Rattle.muck_model.specs.declared.note.Counted.{Counted}
use Rattle.spec_events.specs.declared.logged.Logged.{Logged}
use Rattle.spec_events.specs.Histories.{History, entered, noted, links_noted}
use Rattle.spec_events.specs.Logged.{is_dump, notes_at, notes_from, counted_at, counted_from, item_at, items_from, logged, loose_notes, loose_count, IsSettled, bare_item, noted_item, counted_item, entries_of, events_of, notes_of, NoNotes, NoCounts, placed_count, count_from, history_of, ArePlaced, IsCountPlaced, IsPlaced, IsOrderly}

length_one : (es : List Entry) (e : Entry) → length (es ++ e ∷ []) ≡ suc (length es)
length_one es e = omega (arith, length-append es (e ∷ []))

-- Notes by their places.

is_at : (x : Note) (n : ℕ) → x.entries ≡ n → (x.entries == n) ≡ true
is_at x n e = grind (arith, nat_tests)

not_at : (x : Note) (n : ℕ) → n < x.entries → (x.entries == n) ≡ false
not_at x n e = grind (arith, nat_tests)

is_from : (x : Note) (n : ℕ) → n ≤ x.entries → nat_le n x.entries ≡ true
is_from x n e = grind (arith, nat_tests)

not_from : (x : Note) (n : ℕ) → x.entries < n → nat_le n x.entries ≡ false
not_from x n e = grind (arith, nat_tests)

-- which of the two it is
module _ {P : Type 0} (n m : ℕ) where
  within_or : (m < n → P) → (n ≤ m → P) → P
  within_or below above = from (nat_le n m) refl
    where
      from : (b : Bool) → nat_le n m ≡ b → P
      from true e = above (grind (arith, nat_tests))
      from false e = below (grind (arith, nat_tests))

module _ (test : Note → Bool) where
  filter_one : (xs : List Note) (x : Note) (b : Bool) → test x ≡ b → filter test (xs ++ x ∷ []) ≡ filter test xs ++ cond b (x ∷ []) []
  filter_one [] x b is = ap (λ (t : Bool). cond t (x ∷ []) []) is
  filter_one (y ∷ ys) x b is = from (test y) (filter_one ys x b is)
    where
      from : (t : Bool) → filter test (ys ++ x ∷ []) ≡ filter test ys ++ cond b (x ∷ []) []
          → cond t (y ∷ filter test (ys ++ x ∷ [])) (filter test (ys ++ x ∷ [])) ≡ cond t (y ∷ filter test ys) (filter test ys) ++ cond b (x ∷ []) []
      from true ih = ap (λ (l : List Note). y ∷ l) ih
      from false ih = ih

  -- what passes one test passes another
  filter_none : (other : Note → Bool) (xs : List Note) → ((x : Note) → test x ≡ false → other x ≡ false) → filter test xs ≡ [] → filter other xs ≡ []
  filter_none other [] less none = refl
  filter_none other (y ∷ ys) less none = from (test y) refl none (filter_none other ys less)
    where
      some_none : (z : Note) (zs : List Note) → ◌≡◌ {A = List Note} (z ∷ zs) [] → ⊥
      some_none z zs e = cc

      from : (t : Bool) → test y ≡ t → cond t (y ∷ filter test ys) (filter test ys) ≡ [] → (filter test ys ≡ [] → filter other ys ≡ [])
          → cond (other y) (y ∷ filter other ys) (filter other ys) ≡ []
      from true is e ih = absurd (some_none y (filter test ys) e)
      from false is e ih = cond-false _ _ _ (less y is) ∙ ih e

-- with one more, which has that place, or another
at_one : (n : ℕ) (xs : List Note) (x : Note) → x.entries ≡ n → notes_at n (xs ++ x ∷ []) ≡ notes_at n xs ++ x ∷ []
at_one n xs x is = filter_one (λ (y : Note). y.entries == n) xs x true (is_at x n is)

at_other : (n : ℕ) (xs : List Note) (x : Note) → n < x.entries → notes_at n (xs ++ x ∷ []) ≡ notes_at n xs
at_other n xs x less = filter_one (λ (y : Note). y.entries == n) xs x false (not_at x n less) ∙ append-nil (notes_at n xs)

from_other : (n : ℕ) (xs : List Note) (x : Note) → x.entries < n → notes_from n (xs ++ x ∷ []) ≡ notes_from n xs
from_other n xs x less = filter_one (λ (y : Note). nat_le n y.entries) xs x false (not_from x n less) ∙ append-nil (notes_from n xs)

-- where none stands from a place on, none stands there, nor from a later one on
none_at : (n : ℕ) (xs : List Note) → notes_from n xs ≡ [] → notes_at n xs ≡ []
none_at n xs none = filter_none (λ (x : Note). nat_le n x.entries) (λ (x : Note). x.entries == n) xs (λ x e. grind (arith, nat_tests)) none

none_later : (n : ℕ) (xs : List Note) → notes_from n xs ≡ [] → notes_from (suc n) xs ≡ []
none_later n xs none = filter_none (λ (x : Note). nat_le n x.entries) (λ (x : Note). nat_le (suc n) x.entries) xs (λ x e. grind (arith, nat_tests)) none

-- Notes by rising place.

placed_less : (a b most : ℕ) (xs : List Note) → a ≤ b → ArePlaced b most xs → ArePlaced a most xs
placed_less a b most [] less h = tt
placed_less a b most (x ∷ xs) less h = (omega (arith, h.0), h.1, h.2)

placed_more : (a most more : ℕ) (xs : List Note) → most ≤ more → ArePlaced a most xs → ArePlaced a more xs
placed_more a most more [] less h = tt
placed_more a most more (x ∷ xs) less h = (h.0, omega (arith, h.1), placed_more x.entries most more xs less h.2)

placed_one : (a most : ℕ) (xs : List Note) (x : Note) → a ≤ most → x.entries ≡ most → ArePlaced a most xs → ArePlaced a most (xs ++ x ∷ [])
placed_one a most [] x less is h = (omega (arith, is), omega (arith, is), tt)
placed_one a most (y ∷ ys) x less is h = (h.0, h.1, placed_one y.entries most ys x h.1 is h.2)

from_all : (k a most : ℕ) (xs : List Note) → k ≤ a → ArePlaced a most xs → notes_from k xs ≡ xs
from_all k a most [] less h = refl
from_all k a most (x ∷ xs) less h =
    cond-true _ _ _ (is_from x k (omega (arith, h.0))) ∙ ap (λ (l : List Note). x ∷ l) (from_all k x.entries most xs (omega (arith, h.0)) h.2)

at_none : (n a most : ℕ) (xs : List Note) → n < a → ArePlaced a most xs → notes_at n xs ≡ []
at_none n a most [] less h = refl
at_none n a most (x ∷ xs) less h = cond-false _ _ _ (not_at x n (omega (arith, h.0))) ∙ at_none n x.entries most xs (omega (arith, h.0)) h.2

-- those of the first place, and then the others
placed_split : (n most : ℕ) (xs : List Note) → ArePlaced n most xs → notes_at n xs ++ notes_from (suc n) xs ≡ xs
placed_split n most [] h = refl
placed_split n most (x ∷ xs) h =
    within_or (suc n) x.entries
    (λ less.
    let is : x.entries ≡ n = omega (arith, h.0) in
    let rest = placed_split n most xs (subst (λ (m : ℕ). ArePlaced m most xs) is h.2) in
    ap (λ (l : List Note). l ++ notes_from (suc n) (x ∷ xs)) (cond-true _ _ _ (is_at x n is))
    ∙ ap (λ (l : List Note). (x ∷ notes_at n xs) ++ l) (cond-false _ _ _ (not_from x (suc n) less))
    ∙ ap (λ (l : List Note). x ∷ l) rest)
    (λ later.
    ap (λ (l : List Note). l ++ notes_from (suc n) (x ∷ xs)) (at_none n x.entries most (x ∷ xs) later (omega arith, h.1, h.2))
    ∙ from_all (suc n) x.entries most (x ∷ xs) later (omega arith, h.1, h.2))

placed_from : (k a most : ℕ) (xs : List Note) → a ≤ k → ArePlaced a most xs → ArePlaced k most (notes_from k xs)
placed_from k a most [] less h = tt
placed_from k a most (x ∷ xs) less h =
    within_or k x.entries
    (λ before. subst (ArePlaced k most) (sym (cond-false _ _ _ (not_from x k before))) (placed_from k x.entries most xs (omega arith) h.2))
    (λ later. subst (ArePlaced k most) (sym (from_all k x.entries most (x ∷ xs) later (omega arith, h.1, h.2))) (later, h.1, h.2))

-- of those from a place on, those of a later place
module _ (k : ℕ) (test : Note → Bool) (later : (x : Note) → nat_le k x.entries ≡ false → test x ≡ false) where
  filter_from : (xs : List Note) → filter test (notes_from k xs) ≡ filter test xs
  filter_from [] = refl
  filter_from (x ∷ xs) = from (nat_le k x.entries) refl (filter_from xs)
    where
      from : (b : Bool) → nat_le k x.entries ≡ b → filter test (notes_from k xs) ≡ filter test xs
          → filter test (cond b (x ∷ notes_from k xs) (notes_from k xs)) ≡ cond (test x) (x ∷ filter test xs) (filter test xs)
      from true is ih = ap (λ (l : List Note). cond (test x) (x ∷ l) l) ih
      from false is ih = ih ∙ sym (cond-false _ _ _ (later x is))

at_from : (k m : ℕ) (xs : List Note) → k ≤ m → notes_at m (notes_from k xs) ≡ notes_at m xs
at_from k m xs less = filter_from k (λ (x : Note). x.entries == m) (λ x e. grind (arith, nat_tests)) xs

from_from : (k m : ℕ) (xs : List Note) → k ≤ m → notes_from m (notes_from k xs) ≡ notes_from m xs
from_from k m xs less = filter_from k (λ (x : Note). nat_le m x.entries) (λ x e. grind (arith, nat_tests)) xs

-- a note of the links behind so many entries
abbrev counted_by : ℕ → List Count → Counted
counted_by n counts = record { entries = n; counts = counts }

-- Items.

items_append : (n : ℕ) (notes : List Note) (counted : Option Counted) (a b : List Entry)
    → items_from n notes counted (a ++ b) ≡ items_from n notes counted a ++ items_from (n + length a) notes counted b
items_append n notes counted [] b = ap (λ (m : ℕ). items_from m notes counted b) (omega arith)
items_append n notes counted (e ∷ es) b =
    let more : suc n + length es ≡ n + length (e ∷ es) = omega arith in
    ap (λ (l : List Logged). item_at n notes counted e ∷ l)
    (items_append (suc n) notes counted es b ∙ ap (λ (m : ℕ). items_from (suc n) notes counted es ++ items_from m notes counted b) more)

pub entries_items : (n : ℕ) (notes : List Note) (counted : Option Counted) (es : List Entry) → entries_of (items_from n notes counted es) ≡ es
entries_items n notes counted [] = refl
entries_items n notes counted (e ∷ es) = ap (λ (l : List Entry). e ∷ l) (entries_items (suc n) notes counted es)

-- the entries of the items are those of the history
pub entries_logged : (h : History) → entries_of (logged h) ≡ h.entries
unfolding logged
entries_logged h = entries_items 0 (drop 1 h.notes) h.counted h.entries

-- an entry more is an item more, with the notes that wait for it
pub logged_entered : (h : History) (e : Entry) → logged (entered h e) ≡ logged h ++ item_at (length h.entries) (drop 1 h.notes) h.counted e ∷ []
unfolding logged
logged_entered h e =
    let end : 0 + length h.entries ≡ length h.entries = omega arith in
    items_append 0 (drop 1 h.notes) h.counted h.entries (e ∷ [])
    ∙ ap (λ (n : ℕ). items_from 0 (drop 1 h.notes) h.counted h.entries ++ item_at n (drop 1 h.notes) h.counted e ∷ []) end

-- a note behind all entries is in no item
items_noted : (n : ℕ) (notes : List Note) (x : Note) (counted : Option Counted) (es : List Entry) → n + length es ≤ x.entries
    → items_from n (notes ++ x ∷ []) counted es ≡ items_from n notes counted es
items_noted n notes x counted [] less = refl
items_noted n notes x counted (e ∷ es) less =
    let here : n < x.entries = omega arith in
    let later : suc n + length es ≤ x.entries = omega arith in
    ap (λ (l : List Note). let item : Logged = record { entry = e; notes = l; counted = counted_at n counted } in item ∷ items_from (suc n) (notes ++ x ∷ []) counted es) (at_other n notes x here)
    ∙ ap (λ (l : List Logged). item_at n notes counted e ∷ l) (items_noted (suc n) notes x counted es later)

pub logged_noted : (h : History) (x : Note) → length h.entries ≤ x.entries → logged (noted h x) ≡ logged h
unfolding logged
logged_noted h x less = from h.notes
  where
    from : (notes : List Note) → items_from 0 (drop 1 (notes ++ x ∷ [])) h.counted h.entries ≡ items_from 0 (drop 1 notes) h.counted h.entries
    from [] = refl
    from (y ∷ ys) = items_noted 0 ys x h.counted h.entries (omega arith)

counted_before : (n m : ℕ) (cs : List Count) → n < m → counted_at n (Some (counted_by m cs)) ≡ None
counted_before n m cs less = let other : (m == n) ≡ false = grind (arith, nat_tests) in cond-false _ _ _ other

items_linked : (n : ℕ) (notes : List Note) (m : ℕ) (cs : List Count) (es : List Entry) → n + length es ≤ m → items_from n notes (Some (counted_by m cs)) es ≡ items_from n notes None es
items_linked n notes m cs [] less = refl
items_linked n notes m cs (e ∷ es) less =
    let here : n < m = omega arith in
    let later : suc n + length es ≤ m = omega arith in
    ap (λ (o : Option (List Count)). let item : Logged = record { entry = e; notes = notes_at n notes; counted = o } in item ∷ items_from (suc n) notes (Some (counted_by m cs)) es) (counted_before n m cs here)
    ∙ ap (λ (l : List Logged). item_at n notes None e ∷ l) (items_linked (suc n) notes m cs es later)

-- the note of the links, where there was none yet
pub logged_linked : (h : History) (cs : List Count) → h.counted ≡ None → logged (links_noted h cs) ≡ logged h
unfolding logged
logged_linked h cs none =
    items_linked 0 (drop 1 h.notes) (length h.entries) cs h.entries (omega arith) ∙ ap (λ (o : Option Counted). items_from 0 (drop 1 h.notes) o h.entries) (sym none)

-- Notes that wait.

-- what is settled: the note of the mounting stands first, and none waits
pub record Settled (mounting : Note) (h : History) : Type 0 where
  pub first : h.notes ≡ mounting ∷ drop 1 h.notes
  pub none : notes_from (length h.entries) (drop 1 h.notes) ≡ []
  pub counted : counted_from (length h.entries) h.counted ≡ None

pub settled : (mounting : Note) (h : History) → IsSettled mounting h → Settled mounting h
unfolding loose_notes loose_count
settled mounting h s = from h.notes refl s.notes
  where
    tail : List Note → List Note
    tail [] = []
    tail (z ∷ zs) = zs

    none_some : (zs : List Note) → [] ++ notes_from (length h.entries) [] ≡ mounting ∷ zs → ⊥
    none_some zs e = cc

    head_of : (x y : Note) (xs ys : List Note) → ◌≡◌ {A = List Note} (x ∷ xs) (y ∷ ys) → x ≡ y
    head_of x y xs ys e = cc

    from : (notes : List Note) → h.notes ≡ notes → take 1 notes ++ notes_from (length h.entries) (drop 1 notes) ≡ mounting ∷ [] → Settled mounting h
    from [] is e = absurd (none_some [] e)
    from (x ∷ xs) is e =
        let rest : drop 1 h.notes ≡ xs = ap (drop 1) is in
        record {
          first = is ∙ ap (λ (l : List Note). x ∷ l) (sym rest) ∙ ap (λ (y : Note). y ∷ drop 1 h.notes) (head_of x mounting _ [] e);
          none = ap (notes_from (length h.entries)) rest ∙ ap tail e;
          counted = s.counted;
        }

count_none : (n : ℕ) (counted : Option Counted) → counted_from n counted ≡ None → counted_at n counted ≡ None
count_none n None none = refl
count_none n (Some c) none = from (nat_le n c.entries) refl none
  where
    from : (b : Bool) → nat_le n c.entries ≡ b → cond b (Some c.counts) None ≡ None → cond (c.entries == n) (Some c.counts) None ≡ None
    from true is e = cc
    from false is e = let other : (c.entries == n) ≡ false = grind (arith, nat_tests) in cond-false _ _ _ other

count_later : (n : ℕ) (counted : Option Counted) → counted_from n counted ≡ None → counted_from (suc n) counted ≡ None
count_later n None none = refl
count_later n (Some c) none = from (nat_le n c.entries) refl none
  where
    from : (b : Bool) → nat_le n c.entries ≡ b → cond b (Some c.counts) None ≡ None → cond (nat_le (suc n) c.entries) (Some c.counts) None ≡ None
    from true is e = cc
    from false is e = let other : nat_le (suc n) c.entries ≡ false = grind (arith, nat_tests) in cond-false _ _ _ other

-- where none waits, an entry more is an item more without a note
pub logged_bare : (m : Note) (h : History) (e : Entry) → IsSettled m h → logged (entered h e) ≡ logged h ++ bare_item e ∷ []
logged_bare m h e s =
    let k = settled m h s in
    logged_entered h e
    ∙ ap (λ (l : List Note). let item : Logged = record { entry = e; notes = l; counted = counted_at (length h.entries) h.counted } in logged h ++ item ∷ []) (none_at (length h.entries) (drop 1 h.notes) k.none)
    ∙ ap (λ (o : Option (List Count)). let item : Logged = record { entry = e; notes = []; counted = o } in logged h ++ item ∷ []) (count_none (length h.entries) h.counted k.counted)

-- and with a note before it, one with that note
pub logged_with_note : (m : Note) (h : History) (x : Note) (e : Entry) → IsSettled m h → x.entries ≡ length h.entries → logged (entered (noted h x) e) ≡ logged h ++ noted_item x e ∷ []
logged_with_note m h x e s is =
    let k = settled m h s in
    let rest : drop 1 (h.notes ++ x ∷ []) ≡ drop 1 h.notes ++ x ∷ [] = ap (λ (l : List Note). drop 1 (l ++ x ∷ [])) k.first in
    let one : notes_at (length h.entries) (drop 1 (h.notes ++ x ∷ [])) ≡ x ∷ [] =
    ap (notes_at (length h.entries)) rest ∙ at_one (length h.entries) (drop 1 h.notes) x is
    ∙ ap (λ (l : List Note). l ++ x ∷ []) (none_at (length h.entries) (drop 1 h.notes) k.none) in
    logged_entered (noted h x) e
    ∙ ap (λ (l : List Logged). l ++ item_at (length h.entries) (drop 1 (h.notes ++ x ∷ [])) h.counted e ∷ []) (logged_noted h x (omega (arith, is)))
    ∙ ap (λ (l : List Note). let item : Logged = record { entry = e; notes = l; counted = counted_at (length h.entries) h.counted } in logged h ++ item ∷ []) one
    ∙ ap (λ (o : Option (List Count)). let item : Logged = record { entry = e; notes = x ∷ []; counted = o } in logged h ++ item ∷ []) (count_none (length h.entries) h.counted k.counted)

count_here : (n : ℕ) (cs : List Count) → counted_at n (Some (counted_by n cs)) ≡ Some cs
count_here n cs = let same : (n == n) ≡ true = grind (arith, nat_tests) in cond-true _ _ _ same

pub logged_with_counts : (m : Note) (h : History) (cs : List Count) (e : Entry) → IsSettled m h → h.counted ≡ None → logged (entered (links_noted h cs) e) ≡ logged h ++ counted_item cs e ∷ []
logged_with_counts m h cs e s none =
    let k = settled m h s in
    logged_entered (links_noted h cs) e
    ∙ ap (λ (l : List Logged). l ++ item_at (length h.entries) (drop 1 h.notes) (Some (counted_by (length h.entries) cs)) e ∷ []) (logged_linked h cs none)
    ∙ ap (λ (l : List Note). let item : Logged = record { entry = e; notes = l; counted = counted_at (length h.entries) (Some (counted_by (length h.entries) cs)) } in logged h ++ item ∷ []) (none_at (length h.entries) (drop 1 h.notes) k.none)
    ∙ ap (λ (o : Option (List Count)). let item : Logged = record { entry = e; notes = []; counted = o } in logged h ++ item ∷ []) (count_here (length h.entries) cs)

-- What no entry has is the same after such an entry.

loose_kept : (k : History) (m : Note) (xs : List Note) → k.notes ≡ m ∷ xs → notes_from (length k.entries) xs ≡ [] → loose_notes k ≡ m ∷ []
unfolding loose_notes
loose_kept k m xs is none =
    ap (λ (l : List Note). take 1 l ++ notes_from (length k.entries) (drop 1 l)) is ∙ ap (λ (l : List Note). m ∷ l) none

-- a history is settled where its notes are one for the mounting, and others of which none waits
settled_by : (k : History) (m : Note) (xs : List Note) → k.notes ≡ m ∷ xs → notes_from (length k.entries) xs ≡ [] → counted_from (length k.entries) k.counted ≡ None → IsSettled m k
unfolding loose_count
settled_by k m xs is none counted = record { notes = loose_kept k m xs is none; counted = counted }

-- none waits after an entry
none_after : (h : History) (e : Entry) (xs : List Note) → notes_from (length h.entries) xs ≡ [] → notes_from (length (h.entries ++ e ∷ [])) xs ≡ []
none_after h e xs none = ap (λ (n : ℕ). notes_from n xs) (length_one h.entries e) ∙ none_later (length h.entries) xs none

pub settled_bare : (m : Note) (h : History) (e : Entry) → IsSettled m h → IsSettled m (entered h e)
settled_bare m h e s =
    let k = settled m h s in
    settled_by (entered h e) m (drop 1 h.notes) k.first (none_after h e (drop 1 h.notes) k.none)
    (ap (λ (n : ℕ). counted_from n h.counted) (length_one h.entries e) ∙ count_later (length h.entries) h.counted k.counted)

pub settled_with_note : (m : Note) (h : History) (x : Note) (e : Entry) → IsSettled m h → x.entries ≡ length h.entries → IsSettled m (entered (noted h x) e)
settled_with_note m h x e s is =
    let k = settled m h s in
    let less : x.entries < length (h.entries ++ e ∷ []) = omega (arith, is, length_one h.entries e) in
    settled_by (entered (noted h x) e) m (drop 1 h.notes ++ x ∷ []) (ap (λ (l : List Note). l ++ x ∷ []) k.first)
    (from_other (length (h.entries ++ e ∷ [])) (drop 1 h.notes) x less ∙ none_after h e (drop 1 h.notes) k.none)
    (ap (λ (n : ℕ). counted_from n h.counted) (length_one h.entries e) ∙ count_later (length h.entries) h.counted k.counted)

pub settled_with_counts : (m : Note) (h : History) (cs : List Count) (e : Entry) → IsSettled m h → IsSettled m (entered (links_noted h cs) e)
settled_with_counts m h cs e s =
    let k = settled m h s in
    let past : nat_le (length (h.entries ++ e ∷ [])) (length h.entries) ≡ false = later (length h.entries) _ (length_one h.entries e) in
    settled_by (entered (links_noted h cs) e) m (drop 1 h.notes) k.first (none_after h e (drop 1 h.notes) k.none) (cond-false _ _ _ past)
  where
    later : (n m : ℕ) → m ≡ suc n → nat_le m n ≡ false
    later n m is = grind (arith, nat_tests)

-- Places.

pub placed_entered : (h : History) (e : Entry) → IsPlaced h → IsPlaced (entered h e)
placed_entered h e p = record {
  notes = placed_more 0 (length h.entries) (length (h.entries ++ e ∷ [])) h.notes (omega (arith, length_one h.entries e)) p.notes;
  counted = from h.counted p.counted;
}
  where
    from : (counted : Option Counted) → IsCountPlaced (length h.entries) counted → IsCountPlaced (length (h.entries ++ e ∷ [])) counted
    from None c = tt
    from (Some x) c = omega (arith, c, length_one h.entries e)

pub placed_noted : (h : History) (x : Note) → x.entries ≡ length h.entries → IsPlaced h → IsPlaced (noted h x)
placed_noted h x is p = record { notes = placed_one 0 (length h.entries) h.notes x (omega arith) is p.notes; counted = p.counted }

pub placed_linked : (h : History) (cs : List Count) → IsPlaced h → IsPlaced (links_noted h cs)
placed_linked h cs p = record { notes = p.notes; counted = omega arith }

-- Where no note waits, the history is that of its items.

items_later : (n k : ℕ) (notes : List Note) (counted : Option Counted) (es : List Entry) → k ≤ n → items_from n (notes_from k notes) counted es ≡ items_from n notes counted es
items_later n k notes counted [] less = refl
items_later n k notes counted (e ∷ es) less =
    ap (λ (l : List Note). let item : Logged = record { entry = e; notes = l; counted = counted_at n counted } in item ∷ items_from (suc n) (notes_from k notes) counted es) (at_from k n notes less)
    ∙ ap (λ (l : List Logged). item_at n notes counted e ∷ l) (items_later (suc n) k notes counted es (omega arith))

notes_items : (n most : ℕ) (notes : List Note) (counted : Option Counted) (es : List Entry) → ArePlaced n most notes
    → notes_of (items_from n notes counted es) ++ notes_from (n + length es) notes ≡ notes
notes_items n most notes counted [] h = from_all (n + length {A = Entry} []) n most notes (omega arith) h
notes_items n most notes counted (e ∷ es) h =
    let rest : List Note = notes_from (suc n) notes in
    let more : n + length (e ∷ es) ≡ suc n + length es = omega arith in
    append_assoc (notes_at n notes) (notes_of (items_from (suc n) notes counted es)) (notes_from (n + length (e ∷ es)) notes)
    ∙ ap (λ (l : List Logged). notes_at n notes ++ (notes_of l ++ notes_from (n + length (e ∷ es)) notes)) (sym (items_later (suc n) (suc n) notes counted es (omega arith)))
    ∙ ap (λ (l : List Note). notes_at n notes ++ (notes_of (items_from (suc n) rest counted es) ++ l))
    (ap (λ (m : ℕ). notes_from m notes) more ∙ sym (from_from (suc n) (suc n + length es) notes (omega arith)))
    ∙ ap (λ (l : List Note). notes_at n notes ++ l) (notes_items (suc n) most rest counted es (placed_from (suc n) n most notes (omega arith) h))
    ∙ placed_split n most notes h

count_items : (n : ℕ) (notes : List Note) (counted : Option Counted) (es : List Entry)
    → ((c : Counted) → counted ≡ Some c → (n ≤ c.entries) × (c.entries < n + length es)) → count_from n (items_from n notes counted es) ≡ counted
count_items n notes None [] within = refl
count_items n notes (Some c) [] within = absurd (let b = within c refl in omega (arith, b.0, b.1))
count_items n notes None (e ∷ es) within = count_items (suc n) notes None es (λ c is. absurd (none_some c is))
  where
    none_some : (c : Counted) → ◌≡◌ {A = Option Counted} None (Some c) → ⊥
    none_some c is = cc
count_items n notes (Some c) (e ∷ es) within = from (c.entries == n) refl (λ apart. count_items (suc n) notes (Some c) es apart)
  where
    some_is : (a b : Counted) → ◌≡◌ {A = Option Counted} (Some a) (Some b) → a ≡ b
    some_is a b is = cc

    same : (a b : ℕ) → (a == b) ≡ true → b ≡ a
    same a b is = grind (arith, nat_tests)

    apart : (a b : ℕ) → (a == b) ≡ false → b ≤ a → suc b ≤ a
    apart a b is less = grind (arith, nat_tests)

    from : (t : Bool) → (c.entries == n) ≡ t
        → (((d : Counted) → Some c ≡ Some d → (suc n ≤ d.entries) × (d.entries < suc n + length es)) → count_from (suc n) (items_from (suc n) notes (Some c) es) ≡ Some c)
        → placed_count n (cond t (Some c.counts) None) (count_from (suc n) (items_from (suc n) notes (Some c) es)) ≡ Some c
    from true is ih = ap (λ (m : ℕ). Some (counted_by m c.counts)) (same c.entries n is)
    from false is ih = ih (λ d is_c.
        let b = within c refl in
        subst (λ (x : Counted). (suc n ≤ x.entries) × (x.entries < suc n + length es)) (some_is c d is_c) (apart c.entries n is b.0, omega (arith, b.1)))

pub rebuilt : (m : Note) (h : History) → IsSettled m h → IsPlaced h → history_of h.start m (logged h) ≡ h
unfolding logged
rebuilt m h s p =
    let k = settled m h s in
    let placed : ArePlaced m.entries (length h.entries) (drop 1 h.notes) = (subst (ArePlaced 0 (length h.entries)) k.first p.notes).2 in
    let whole : notes_of (items_from 0 (drop 1 h.notes) h.counted h.entries) ≡ drop 1 h.notes =
    sym (append-nil _)
    ∙ ap (λ (l : List Note). notes_of (items_from 0 (drop 1 h.notes) h.counted h.entries) ++ l) (sym (ap (λ (n : ℕ). notes_from n (drop 1 h.notes)) (end (length h.entries)) ∙ k.none))
    ∙ notes_items 0 (length h.entries) (drop 1 h.notes) h.counted h.entries (placed_less 0 m.entries (length h.entries) (drop 1 h.notes) (omega arith) placed) in
    ap (λ (es : List Entry). let x : History = record { start = h.start; entries = es; notes = m ∷ notes_of (items_from 0 (drop 1 h.notes) h.counted h.entries); counted = count_from 0 (items_from 0 (drop 1 h.notes) h.counted h.entries) } in x)
    (entries_items 0 (drop 1 h.notes) h.counted h.entries)
    ∙ ap (λ (ns : List Note). let x : History = record { start = h.start; entries = h.entries; notes = m ∷ ns; counted = count_from 0 (items_from 0 (drop 1 h.notes) h.counted h.entries) } in x) whole
    ∙ ap (λ (ns : List Note). let x : History = record { start = h.start; entries = h.entries; notes = ns; counted = count_from 0 (items_from 0 (drop 1 h.notes) h.counted h.entries) } in x) (sym k.first)
    ∙ ap (λ (o : Option Counted). let x : History = record { start = h.start; entries = h.entries; notes = h.notes; counted = o } in x)
    (count_items 0 (drop 1 h.notes) h.counted h.entries (λ c is. (omega arith, within c (sym (ap (counted_from (length h.entries)) is) ∙ k.counted))))
  where
    end : (n : ℕ) → 0 + n ≡ n
    end n = omega arith

    within : (c : Counted) → counted_from (length h.entries) (Some c) ≡ None → c.entries < 0 + length h.entries
    within c none = from (nat_le (length h.entries) c.entries) refl none
      where
        from : (b : Bool) → nat_le (length h.entries) c.entries ≡ b → cond b (Some c.counts) None ≡ None → c.entries < 0 + length h.entries
        from true is e = absurd (some_none c.counts e)
          where
            some_none : (cs : List Count) → ◌≡◌ {A = Option (List Count)} (Some cs) None → ⊥
            some_none cs e = cc
        from false is e = grind (arith, nat_tests)

-- Each item may stand in the history.

pub orderly_bare : (e : Entry) → (is_dump e.event ≡ true → e.party ≡ 9) → IsOrderly (bare_item e)
orderly_bare e dumps = record { dumps = dumps; notes = λ other. refl; counted = λ other. refl }

pub orderly_noted : (x : Note) (e : Entry) → e.party ≡ 9 → IsOrderly (noted_item x e)
orderly_noted x e is = record { dumps = λ dump. is; notes = λ other. absurd (other is); counted = λ other. refl }

pub orderly_counted : (cs : List Count) (e : Entry) → e.party ≡ 0 → is_dump e.event ≡ false → IsOrderly (counted_item cs e)
orderly_counted cs e is quiet = record { dumps = λ dump. absurd (both (is_dump e.event) dump quiet); notes = λ other. refl; counted = λ other. absurd (other is) }
  where
    both : (b : Bool) → b ≡ true → b ≡ false → ⊥
    both b p q = cc

-- Lists of items.

pub entries_append : (a b : List Logged) → entries_of (a ++ b) ≡ entries_of a ++ entries_of b
entries_append [] b = refl
entries_append (l ∷ ls) b = ap (λ (es : List Entry). l.entry ∷ es) (entries_append ls b)

pub events_append : (a b : List Logged) → events_of (a ++ b) ≡ events_of a ++ events_of b
events_append [] b = refl
events_append (l ∷ ls) b = ap (λ (es : List Event). l.entry.event ∷ es) (events_append ls b)

pub notes_append : (a b : List Logged) → notes_of (a ++ b) ≡ notes_of a ++ notes_of b
notes_append [] b = refl
notes_append (l ∷ ls) b = ap (λ (ns : List Note). l.notes ++ ns) (notes_append ls b) ∙ sym (append_assoc l.notes (notes_of ls) (notes_of b))

-- where no item has a note of the links, the history has none
pub no_count : (n : ℕ) (ls : List Logged) → NoCounts ls → count_from n ls ≡ None
no_count n [] none = refl
no_count n (l ∷ ls) none = ap (λ (o : Option (List Count)). placed_count n o (count_from (suc n) ls)) none.0 ∙ no_count (suc n) ls none.1

pub no_counts_one : (ls : List Logged) (l : Logged) → NoCounts ls → l.counted ≡ None → NoCounts (ls ++ l ∷ [])
no_counts_one [] l none last = (last, tt)
no_counts_one (x ∷ xs) l none last = (none.0, no_counts_one xs l none.1 last)

pub no_notes_one : (ls : List Logged) (l : Logged) → NoNotes ls → l.notes ≡ [] → NoNotes (ls ++ l ∷ [])
no_notes_one [] l none last = (last, tt)
no_notes_one (x ∷ xs) l none last = (none.0, no_notes_one xs l none.1 last)
