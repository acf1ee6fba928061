-- What names mean, by when each was said: what the source itself says, and what objects lend, from their last includes on.
use Rattle.std.specs.Prelude.{◌≡◌, ℕ, ◌≤◌, nat_lt, if◌then◌else◌, false, List, [], ◌∷◌, ℤ, Option, Some, None}
use Rattle.std.specs.Str.{bytes_eq}
use Rattle.std.specs.Ordering.{int_eq}
use Rattle.std.specs.List.{IsDistinct}
use Rattle.std.specs.Map.{lookup, keys_of}
use Rattle.muck_model.specs.declared.dbref.Dbref.{Dbref}
use Rattle.muf_token.specs.declared.includes.Definition.{Definition}
use Rattle.muf_token.specs.declared.piece.Piece.{Piece}
use Rattle.muf_token.specs.declared.layers.Lent.{Lent}
use Rattle.muf_token.specs.declared.layers.Entry.{Entry}
use Rattle.muf_token.specs.declared.layers.Layers.{Layers}
use Rattle.muf_token.specs.Pieces.{lowered, source_pieces}
use Rattle.muf_token.specs.Expansion.{Definitions}

-- what a name stands for, and since when
abbrev pub Timed : Type 0
Timed = ℕ × Option (List Piece)

-- what an object lends counts from its last include on, where it was included
abbrev pub at_time : Option ℕ → List Piece → Timed → Timed
at_time None body best = best
at_time (Some t) body best = if nat_lt t best.0 then best else (t, Some body)

-- the newest of them
abbrev pub newest : List (ℤ × ℕ) → List Lent → Timed → Timed
newest stamps [] best = best
newest stamps (l ∷ ls) best = newest stamps ls (at_time (lookup (int_eq l.object) stamps) l.body best)

-- what objects lend to a name, and what the source says of it
abbrev pub lent_to : Option Entry → List Lent
lent_to None = []
lent_to (Some e) = e.lent

abbrev pub own_of : Option Entry → Timed
own_of None = (0, None)
own_of (Some e) = (e.stamp, e.body)

abbrev pub mean_of : List (ℤ × ℕ) → Option Entry → Option (List Piece)
mean_of stamps o = (newest stamps (lent_to o) (own_of o)).1

abbrev pub entry_at : Layers → List ℕ → Option Entry
entry_at m q = lookup (bytes_eq q) m.names.entries

abbrev pub lents : Layers → List ℕ → List Lent
lents m q = lent_to (entry_at m q)

abbrev pub own : Layers → List ℕ → Timed
own m q = own_of (entry_at m q)

-- since when an object's definitions count
abbrev pub stamp_at : Layers → ℤ → Option ℕ
stamp_at m d = lookup (int_eq d) m.stamps.entries

-- what a name means
abbrev pub meant : Layers → List ℕ → Option (List Piece)
meant m q = mean_of m.stamps.entries (entry_at m q)

-- the names that mean something, each with what it means
abbrev pub with_meaning : List ℕ → Option (List Piece) → Definitions → Definitions
with_meaning name None rest = rest
with_meaning name (Some body) rest = (name, body) ∷ rest

abbrev pub told_in : List (ℤ × ℕ) → List (List ℕ × Entry) → Definitions
told_in stamps [] = []
told_in stamps (e ∷ es) = with_meaning e.0 (mean_of stamps (Some e.1)) (told_in stamps es)

abbrev pub told : Layers → Definitions
told m = told_in m.stamps.entries m.names.entries

-- what an object lends to a name by its list
abbrev pub lents_of : ℤ → List Definition → List ℕ → List Lent
lents_of d [] q = []
lents_of d (x ∷ list) q = if bytes_eq (lowered x.name) q then record { object = d; body = source_pieces x.text } ∷ lents_of d list q else lents_of d list q

-- those of an object
abbrev pub of_object : ℤ → List Lent → List Lent
of_object d [] = []
of_object d (l ∷ ls) = if int_eq d l.object then l ∷ of_object d ls else of_object d ls

abbrev pub time_of : Option ℕ → ℕ
time_of None = 0
time_of (Some t) = t

-- no name stands twice, and nothing counts from later than now
pub record IsTimed (m : Layers) : Type 0 where
  pub one : IsDistinct bytes_eq (keys_of m.names.entries)
  pub own_times : (q : List ℕ) → (own m q).0 ≤ m.clock
  pub times : (d : ℤ) → time_of (stamp_at m d) ≤ m.clock

-- all that this object lends is there
abbrev pub HasAll : (Dbref → Option (List Definition)) → Dbref → Layers → Type 0
HasAll lent d m = (list : List Definition) × (lent d ≡ Some list) × ((q : List ℕ) → of_object d.0 (lents m q) ≡ lents_of d.0 list q)

-- the same of an object that was included, and nothing of another one
abbrev pub HasBy : (Dbref → Option (List Definition)) → Dbref → Option ℕ → Layers → Type 0
HasBy lent d None m = (q : List ℕ) → of_object d.0 (lents m q) ≡ []
HasBy lent d (Some t) m = HasAll lent d m

-- what stands there is what objects lend
pub record AreTaken (lent : Dbref → Option (List Definition)) (m : Layers) : Type 0 where
  pub timed : IsTimed m
  pub taken : (d : Dbref) → HasBy lent d (stamp_at m d.0) m

-- what objects lend has stayed, whatever the source said
pub record LendsOn (old new : Layers) : Type 0 where
  pub timed : IsTimed new
  pub same : (q : List ℕ) → lents new q ≡ lents old q
  pub stamps : new.stamps.entries ≡ old.stamps.entries

-- all that an object lends is there, also where it wasn't before; names mean what they did
pub record IsReady (lent : Dbref → Option (List Definition)) (d : Dbref) (old new : Layers) : Type 0 where
  pub timed : IsTimed new
  pub all : HasAll lent d new
  pub others : (k : Dbref) → int_eq d.0 k.0 ≡ false → HasBy lent k (stamp_at new k.0) new
  pub mean : (q : List ℕ) → meant new q ≡ meant old q
