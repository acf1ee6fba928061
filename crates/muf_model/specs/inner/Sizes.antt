-- A list or dictionary weighs more than each of its values.
use Rattle.std.specs.Prelude.{◌≤◌, max, List, [], ◌∷◌, map}
use Rattle.std.proofs.Common.{arith}
use denote.Param.Weighed.{most}
use Rattle.muf_model.specs.declared.value.Value.{Value}
use Rattle.muf_model.specs.declared.value.Value.TheVariants.{Int, Str, Ref, Var, Addr, Key, Items, Dict, Mark}
use Rattle.muf_model.specs.declared.value.Pair.{Pair}
use Rattle.muf_model.specs.declared.value.ValueList.TheDeep.{deep-Value, deep-Pair}
use Rattle.muf_model.specs.Datum.{data_of, pairs_of}
use Rattle.muf_model.specs.Measures.{weight, data_weight, pairs_weight}
use Rattle.muf_model.specs.inner.View.{view, pair_view}

value_deep : (v : Value) → max (deep-Value v) 0 ≤ weight (view v)
value_deep (Int n) = omega arith
value_deep (Str t) = omega arith
value_deep (Ref d) = omega arith
value_deep (Var v) = omega arith
value_deep (Addr program word) = omega arith
value_deep (Key k) = omega arith
value_deep (Items l) = omega arith
value_deep (Dict m) = omega arith
value_deep Mark = omega arith

pub values_deep : (vs : List Value) → most deep-Value vs ≤ data_weight (data_of (map view vs))
values_deep [] = omega arith
values_deep (v ∷ vs) = omega (arith, value_deep v, values_deep vs)

pub pairs_deep : (ps : List Pair) → most deep-Pair ps ≤ pairs_weight (pairs_of (map pair_view ps))
pairs_deep [] = omega arith
pairs_deep (p ∷ ps) = omega (arith, value_deep p.value, pairs_deep ps)
