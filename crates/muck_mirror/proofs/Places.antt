-- A record in its place, by the number of that.
use Rattle.std.proofs.Common.{◌≡◌, ◌≢◌, ℕ, ◌<◌, ◌≤◌, eqb, ltb, List, [], ◌∷◌, ◌++◌, length, Some, None, option_and_then, sym, ◌∙◌, ap}
use Rattle.std.specs.Prelude.{slice_set}
use Rattle.std.proofs.lemmas.Bool.{cond-true, cond-false, eq-eqb, ne_eqb, lt-ltb, le-ltb}
use Rattle.spec_live.specs.Objects.{index_of}
use Rattle.muck_codec.specs.declared.stored.Stored.{Stored}
use Rattle.muck_log.specs.World.{record_put_at, record_placed}

pub placed_never : (o : Stored) (objects : List Stored) → index_of o.dbref ≡ None → record_placed o objects ≡ None
unfolding record_placed
placed_never o objects is = ap (option_and_then (record_put_at objects o)) is

pub placed_in : (o : Stored) (objects now : List Stored) (at : ℕ) → index_of o.dbref ≡ Some at → at < length objects → now ≡ slice_set objects at o → record_placed o objects ≡ Some now
unfolding record_placed
placed_in o objects now at is lt set = ap (option_and_then (record_put_at objects o)) is ∙ cond-true (ltb at (length objects)) _ _ (lt-ltb _ _ lt) ∙ ap Some (sym set)

pub placed_behind : (o : Stored) (objects now : List Stored) (at : ℕ) → index_of o.dbref ≡ Some at → length objects ≤ at → at ≡ length objects → now ≡ objects ++ o ∷ [] → record_placed o objects ≡ Some now
unfolding record_placed
placed_behind o objects now at is le same set =
    ap (option_and_then (record_put_at objects o)) is ∙ cond-false (ltb at (length objects)) _ _ (le-ltb _ _ le) ∙ cond-true (eqb at (length objects)) _ _ (eq-eqb _ _ same) ∙ ap Some (sym set)

pub placed_far : (o : Stored) (objects : List Stored) (at : ℕ) → index_of o.dbref ≡ Some at → length objects ≤ at → at ≢ length objects → record_placed o objects ≡ None
unfolding record_placed
placed_far o objects at is le other = ap (option_and_then (record_put_at objects o)) is ∙ cond-false (ltb at (length objects)) _ _ (le-ltb _ _ le) ∙ cond-false (eqb at (length objects)) _ _ (ne_eqb _ _ other)
