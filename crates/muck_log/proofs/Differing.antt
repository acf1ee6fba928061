-- Where records have spellings, one differs from what is kept of its object exactly where it is another record.
use Rattle.std.proofs.Common.{◌≡◌, ℕ, Bool, true, false, not, ◌||◌, List, length, Option, Some, None, option_and_then, refl, sym, ap, subst, ◌∙◌}
use Rattle.std.specs.Prelude.{All, nat_lt, bytes_eq, slice_get}
use Rattle.std.specs.Bool.{Decides}
use Rattle.std.specs.Option.{option_map_or}
use Rattle.std.proofs.lemmas.Bool.{or_parts, or_from, not-false, not_from_true, true_from_ne_false, false≢true, le-ltb}
use Rattle.std.proofs.lemmas.List.Elements.{All-get_or}
use Rattle.std.proofs.lemmas.Option.{slice_get_within, get_or_from_slice_get}
use Rattle.std.proofs.lemmas.Slice.Eq.{bytes_eq-Decides}
use Rattle.muck_model.specs.Bytes.{lines_most}
use Rattle.spec_live.specs.Objects.{index_of}
use Rattle.muck_codec.specs.declared.stored.Stored.{Stored}
use Rattle.muck_codec.specs.Spelling.{spelling}
use Rattle.muck_codec.specs.inner.Stored.{IsStored}
use Rattle.muck_codec.proofs.Batches.{same_record}
use Rattle.muck_store.specs.inner.Changes.{IsKept}
use Rattle.muck_log.specs.World.{kept_record, differs}

abbrev pub differs_from : Stored → Stored → Bool
differs_from o kept = nat_lt lines_most (length kept.lines) || not (bytes_eq (spelling kept) (spelling o))

pub differs_by : (objects : List Stored) (o : Stored) (found : Option Stored) → kept_record objects o ≡ found → differs objects o ≡ option_map_or (differs_from o) found true
unfolding differs
differs_by objects o found is = ap (λ (x : Option Stored). option_map_or (differs_from o) x true) is

pub equals : (o r : Stored) → IsStored r → IsStored o → differs_from o r ≡ false → r ≡ o
equals o r one two e =
    same_record r o one two ((bytes_eq-Decides (spelling r) (spelling o)).0 (not-false (bytes_eq (spelling r) (spelling o)) (or_parts (nat_lt lines_most (length r.lines)) (not (bytes_eq (spelling r) (spelling o))) e).1))

itself : (o : Stored) → IsStored o → differs_from o o ≡ false
itself o is =
    or_from (nat_lt lines_most (length o.lines)) (not (bytes_eq (spelling o) (spelling o))) (le-ltb lines_most (length o.lines) is.lines.0.1)
    (not_from_true (bytes_eq (spelling o) (spelling o)) ((bytes_eq-Decides (spelling o) (spelling o)).1 refl))

another : (o : Stored) (found : Option Stored) → IsStored o → ((r : Stored) → found ≡ Some r → IsStored r) → (found ≡ Some o → ⊥) → option_map_or (differs_from o) found true ≡ true
another o None is kept new = refl
another o (Some r) is kept new = true_from_ne_false (differs_from o r) (λ e. new (ap (λ (x : Stored). Some x) (equals o r (kept r refl) is e)))

pub found_stored : (objects : List Stored) (at : Option ℕ) (r : Stored) → All IsStored objects → option_and_then (slice_get objects) at ≡ Some r → IsStored r
found_stored objects None r all e = absurd cc
found_stored objects (Some k) r all e = subst IsStored (get_or_from_slice_get objects k r r e) (All-get_or IsStored objects k r (slice_get_within objects k r e) all)

-- In the words of the test whether a record is kept.

-- what is kept as it is doesn't differ
pub kept_same : (objects : List Stored) (o : Stored) → All IsStored objects → IsKept objects o → differs objects o ≡ false
kept_same objects o all is = differs_by objects o (Some o) is ∙ itself o (found_stored objects (index_of o.dbref) o all is)

pub kept_differs : (objects : List Stored) (o : Stored) (b : Bool) → All IsStored objects → IsStored o → Decides b (IsKept objects o) → not b ≡ differs objects o
kept_differs objects o true all is tells = sym (kept_same objects o all (tells.0 refl))
kept_differs objects o false all is tells = sym (differs_by objects o (kept_record objects o) refl ∙ another o (kept_record objects o) is (λ r. found_stored objects (index_of o.dbref) r all) (λ e. false≢true (tells.1 e)))
