-- Which lists and dictionaries are true.
use Rattle.std.proofs.Common.{◌≡◌, List, [], ◌∷◌, map, length, refl, not}
use Rattle.std.proofs.Math.Dec.{eqb-suc-zero}
use Rattle.std.specs.Prelude.{◌==◌}
use Rattle.muf_model.specs.declared.value.Value.{Value}
use Rattle.muf_model.specs.declared.value.Pair.{Pair}
use Rattle.muf_model.specs.declared.value.MapKey.{MapKey}
use Rattle.muf_model.specs.Datum.{Datum, items, dict, data_of, pairs_of}
use Rattle.muf_model.specs.inner.View.{view, pair_view}
use Rattle.muf_model.specs.Measures.{is_true_item}

pub list_true : (xs : List Value) (ds : List Datum) → map view xs ≡ ds → not (length xs == 0) ≡ is_true_item (items (data_of ds))
list_true [] ds e = rw (← e) refl
list_true (x ∷ xs) ds e = rw (← e, eqb-suc-zero (length xs)) refl

pub dict_true : (ps : List Pair) (ds : List (MapKey × Datum)) → map pair_view ps ≡ ds → not (length ps == 0) ≡ is_true_item (dict (pairs_of ds))
dict_true [] ds e = rw (← e) refl
dict_true (p ∷ ps) ds e = rw (← e, eqb-suc-zero (length ps)) refl
