-- What names mean in layers: the newest of what the source says and of what objects lend.
use Rattle.std.proofs.Common.{◌≡◌, ℕ, ◌<◌, ◌≤◌, Bool, true, false, cond, nat_lt, List, [], ◌∷◌, ◌++◌, ℤ, Option, Some, None, refl, ap, sym, ◌∙◌, arith}
use Rattle.std.specs.Str.{bytes_eq}
use Rattle.std.specs.Ordering.{int_eq}
use Rattle.std.specs.List.{IsDistinct, AllByRecursion}
use Rattle.std.specs.Map.{lookup, keys_of}
use Rattle.muck_laws.proofs.Numbers.{int_equal_itself, lt_false, lt_true}
use Rattle.muck_laws.proofs.Texts.{bytes_equivalence}
use Rattle.muf_token.specs.declared.includes.Definition.{Definition}
use Rattle.muf_token.specs.declared.piece.Piece.{Piece}
use Rattle.muf_token.specs.declared.layers.Lent.{Lent}
use Rattle.muf_token.specs.declared.layers.Entry.{Entry}
use Rattle.muf_token.specs.Pieces.{lowered, source_pieces}
use Rattle.muf_token.specs.inner.Layers.{Timed, at_time, newest, mean_of, with_meaning, told_in, lents_of, of_object, time_of}
use Rattle.muf_token.proofs.Takings.{given}

-- ---- the names that mean something

absent : (x q : List ℕ) (es : List (List ℕ × Entry)) → AllByRecursion (λ y. bytes_eq x y ≡ false) (keys_of es) → bytes_eq q x ≡ true → lookup (bytes_eq q) es ≡ None
absent x q [] all h = refl
absent x q (e ∷ es) all h = ap (λ b. cond b (Some e.1) (lookup (bytes_eq q) es)) (bytes_equivalence.congr q x e.0 h ∙ all.0) ∙ absent x q es all.1 h

pub told_lookup : (stamps : List (ℤ × ℕ)) (es : List (List ℕ × Entry)) (q : List ℕ) → IsDistinct bytes_eq (keys_of es) → lookup (bytes_eq q) (told_in stamps es) ≡ mean_of stamps (lookup (bytes_eq q) es)
unfolding IsDistinct
told_lookup stamps [] q d = refl
told_lookup stamps (e ∷ es) q d = by (told_lookup stamps es q d.1) (bytes_eq q e.0) refl (mean_of stamps (Some e.1)) refl
  where
    by : lookup (bytes_eq q) (told_in stamps es) ≡ mean_of stamps (lookup (bytes_eq q) es) → (b : Bool) → bytes_eq q e.0 ≡ b → (o : Option (List Piece)) → mean_of stamps (Some e.1) ≡ o → lookup (bytes_eq q) (with_meaning e.0 o (told_in stamps es)) ≡ mean_of stamps (cond b (Some e.1) (lookup (bytes_eq q) es))
    by ih true h (Some body) m = ap (λ b. cond b (Some body) (lookup (bytes_eq q) (told_in stamps es))) h ∙ sym m
    by ih true h None m = ih ∙ ap (mean_of stamps) (absent e.0 q es d.0 h) ∙ sym m
    by ih false h (Some body) m = ap (λ b. cond b (Some body) (lookup (bytes_eq q) (told_in stamps es))) h ∙ ih
    by ih false h None m = ih

all_told : (P : List ℕ → Type 0) (stamps : List (ℤ × ℕ)) (es : List (List ℕ × Entry)) → AllByRecursion P (keys_of es) → AllByRecursion P (keys_of (told_in stamps es))
all_told P stamps [] all = tt
all_told P stamps (e ∷ es) all = by (all_told P stamps es all.1) (mean_of stamps (Some e.1))
  where
    by : AllByRecursion P (keys_of (told_in stamps es)) → (o : Option (List Piece)) → AllByRecursion P (keys_of (with_meaning e.0 o (told_in stamps es)))
    by ih None = ih
    by ih (Some body) = (all.0, ih)

pub told_distinct : (stamps : List (ℤ × ℕ)) (es : List (List ℕ × Entry)) → IsDistinct bytes_eq (keys_of es) → IsDistinct bytes_eq (keys_of (told_in stamps es))
unfolding IsDistinct
told_distinct stamps [] d = tt
told_distinct stamps (e ∷ es) d = by (told_distinct stamps es d.1) (mean_of stamps (Some e.1))
  where
    by : IsDistinct bytes_eq (keys_of (told_in stamps es)) → (o : Option (List Piece)) → IsDistinct bytes_eq (keys_of (with_meaning e.0 o (told_in stamps es)))
    by ih None = ih
    by ih (Some body) = (all_told (λ y. bytes_eq e.0 y ≡ false) stamps es d.0, ih)

-- ---- the newest

newest_append : (s : List (ℤ × ℕ)) (xs ys : List Lent) (b : Timed) → newest s (xs ++ ys) b ≡ newest s ys (newest s xs b)
newest_append s [] ys b = refl
newest_append s (l ∷ xs) ys b = newest_append s xs ys (at_time (lookup (int_eq l.object) s) l.body b)

-- what counts from earlier changes nothing
earlier : (o : Option ℕ) (body : List Piece) (b : Timed) → time_of o < b.0 → at_time o body b ≡ b
earlier None body b h = refl
earlier (Some t) body b h = ap (λ c. cond c b (t, Some body)) (lt_true t b.0 h)

later : (t : ℕ) (body : List Piece) (b : Timed) → b.0 ≤ t → at_time (Some t) body b ≡ (t, Some body)
later t body b h = ap (λ c. cond c b (t, Some body)) (lt_false t b.0 h)

bounded : (o : Option ℕ) (body : List Piece) (b : Timed) (c : ℕ) → time_of o < c → b.0 < c → (at_time o body b).0 < c
bounded None body b c h k = k
bounded (Some t) body b c h k = by (nat_lt t b.0)
  where
    by : (x : Bool) → (cond x b (t, Some body)).0 < c
    by true = k
    by false = h

pub newest_own : (s : List (ℤ × ℕ)) (ls : List Lent) (b : Timed) → ((d : ℤ) → time_of (lookup (int_eq d) s) < b.0) → newest s ls b ≡ b
newest_own s [] b h = refl
newest_own s (l ∷ ls) b h = ap (newest s ls) (earlier (lookup (int_eq l.object) s) l.body b (h l.object)) ∙ newest_own s ls b h

-- what an object lends that was never included changes nothing
unknown : (s : List (ℤ × ℕ)) (d : ℤ) (list : List Definition) (q : List ℕ) (b : Timed) → lookup (int_eq d) s ≡ None → newest s (lents_of d list q) b ≡ b
unknown s d [] q b h = refl
unknown s d (x ∷ list) q b h = by (unknown s d list q b h) (bytes_eq (lowered x.name) q)
  where
    by : newest s (lents_of d list q) b ≡ b → (c : Bool) → newest s (cond c (record { object = d; body = source_pieces x.text } ∷ lents_of d list q) (lents_of d list q)) b ≡ b
    by ih true = ap (λ o. newest s (lents_of d list q) (at_time o (source_pieces x.text) b)) h ∙ ih
    by ih false = ih

pub same_behind : (s : List (ℤ × ℕ)) (d : ℤ) (list : List Definition) (q : List ℕ) (ls : List Lent) (b : Timed) → lookup (int_eq d) s ≡ None → newest s (ls ++ lents_of d list q) b ≡ newest s ls b
same_behind s d list q ls b h = newest_append s ls (lents_of d list q) b ∙ unknown s d list q (newest s ls b) h

-- ---- an include

-- the last of them, or else this
abbrev pub last_of : List Lent → Option (List Piece) → Option (List Piece)
last_of [] o = o
last_of (l ∷ ls) o = last_of ls (Some l.body)

pub last_given : (d : ℤ) (list : List Definition) (q : List ℕ) (o : Option (List Piece)) → last_of (lents_of d list q) o ≡ given list q o
last_given d [] q o = refl
last_given d (x ∷ list) q o = by (last_given d list q) (bytes_eq (lowered x.name) q)
  where
    by : ((o : Option (List Piece)) → last_of (lents_of d list q) o ≡ given list q o) → (c : Bool) → last_of (cond c (record { object = d; body = source_pieces x.text } ∷ lents_of d list q) (lents_of d list q)) o ≡ given list q (cond c (Some (source_pieces x.text)) o)
    by ih true = ih (Some (source_pieces x.text))
    by ih false = ih o

module _ (s n : List (ℤ × ℕ)) (d : ℤ) (c : ℕ) (at : (k : ℤ) → lookup (int_eq k) n ≡ cond (int_eq d k) (Some c) (lookup (int_eq k) s)) (times : (k : ℤ) → time_of (lookup (int_eq k) s) < c) where
  raised_on : (ls : List Lent) (o : Option (List Piece)) → newest n ls (c, o) ≡ (c, last_of (of_object d ls) o)
  raised_on [] o = refl
  raised_on (l ∷ ls) o = ap (λ x. newest n ls (at_time x l.body (c, o))) (at l.object) ∙ by (raised_on ls) (int_eq d l.object)
    where
      by : ((o : Option (List Piece)) → newest n ls (c, o) ≡ (c, last_of (of_object d ls) o)) → (b : Bool) → newest n ls (at_time (cond b (Some c) (lookup (int_eq l.object) s)) l.body (c, o)) ≡ (c, last_of (cond b (l ∷ of_object d ls) (of_object d ls)) o)
      by ih true = ap (newest n ls) (later c l.body (c, o) (omega arith)) ∙ ih (Some l.body)
      by ih false = ap (newest n ls) (earlier (lookup (int_eq l.object) s) l.body (c, o) (times l.object)) ∙ ih o

  -- what the object lends last, or else what was the newest
  pub raised : (ls : List Lent) (b : Timed) → b.0 < c → (newest n ls b).1 ≡ last_of (of_object d ls) (newest s ls b).1
  raised [] b h = refl
  raised (l ∷ ls) b h = ap (λ x. (newest n ls (at_time x l.body b)).1) (at l.object) ∙ by (raised ls) (int_eq d l.object)
    where
      by : ((b : Timed) → b.0 < c → (newest n ls b).1 ≡ last_of (of_object d ls) (newest s ls b).1) → (x : Bool) → (newest n ls (at_time (cond x (Some c) (lookup (int_eq l.object) s)) l.body b)).1
          ≡ last_of (cond x (l ∷ of_object d ls) (of_object d ls)) (newest s ls (at_time (lookup (int_eq l.object) s) l.body b)).1
      by ih true = ap (λ y. (newest n ls y).1) (later c l.body b (omega (arith, h))) ∙ ap (λ y. y.1) (raised_on ls (Some l.body))
      by ih false = ih (at_time (lookup (int_eq l.object) s) l.body b) (bounded (lookup (int_eq l.object) s) l.body b c (times l.object) h)

-- ---- those of an object

pub of_append : (d : ℤ) (xs ys : List Lent) → of_object d (xs ++ ys) ≡ of_object d xs ++ of_object d ys
of_append d [] ys = refl
of_append d (l ∷ xs) ys = by (of_append d xs ys) (int_eq d l.object)
  where
    by : of_object d (xs ++ ys) ≡ of_object d xs ++ of_object d ys → (b : Bool) → cond b (l ∷ of_object d (xs ++ ys)) (of_object d (xs ++ ys)) ≡ cond b (l ∷ of_object d xs) (of_object d xs) ++ of_object d ys
    by ih true = ap (λ z. l ∷ z) ih
    by ih false = ih

pub of_own : (d : ℤ) (list : List Definition) (q : List ℕ) → of_object d (lents_of d list q) ≡ lents_of d list q
of_own d [] q = refl
of_own d (x ∷ list) q = by (of_own d list q) (bytes_eq (lowered x.name) q)
  where
    here : Lent
    here = record { object = d; body = source_pieces x.text }

    by : of_object d (lents_of d list q) ≡ lents_of d list q → (b : Bool) → of_object d (cond b (here ∷ lents_of d list q) (lents_of d list q)) ≡ cond b (here ∷ lents_of d list q) (lents_of d list q)
    by ih true = ap (λ c. cond c (here ∷ of_object d (lents_of d list q)) (of_object d (lents_of d list q))) (int_equal_itself d) ∙ ap (λ z. here ∷ z) ih
    by ih false = ih

pub of_other : (k d : ℤ) (list : List Definition) (q : List ℕ) → int_eq k d ≡ false → of_object k (lents_of d list q) ≡ []
of_other k d [] q h = refl
of_other k d (x ∷ list) q h = by (of_other k d list q h) (bytes_eq (lowered x.name) q)
  where
    here : Lent
    here = record { object = d; body = source_pieces x.text }

    by : of_object k (lents_of d list q) ≡ [] → (b : Bool) → of_object k (cond b (here ∷ lents_of d list q) (lents_of d list q)) ≡ []
    by ih true = ap (λ c. cond c (here ∷ of_object k (lents_of d list q)) (of_object k (lents_of d list q))) h ∙ ih
    by ih false = ih
