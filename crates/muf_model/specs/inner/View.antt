-- The data that a `Value` stands for. A list is seen as that of its values, a dictionary as its keys, each with that of its value.
use Rattle.std.specs.Arc.{arc_value}
use Rattle.muf_model.specs.declared.value.MapKey.{MapKey}
use Rattle.muf_model.specs.declared.value.Value.{Value}
use Rattle.muf_model.specs.declared.value.Value.TheVariants.{Int, Str, Ref, Var, Addr, Key, Items, Dict, Mark}
use Rattle.muf_model.specs.declared.value.Pair.{Pair}
use Rattle.muf_model.specs.Datum.{Datum, int, text, object, variable, address, lock, items, dict, mark, data_of, pairs_of}

abbrev pub view : Value → Datum
view (Int n) = int n
view (Str t) = text t
view (Ref d) = object d.0
view (Var v) = variable v.0
view (Addr program word) = address program.0 word
view (Key k) = lock k
view (Items l) = items (data_of (arc_value l))
view (Dict m) = dict (pairs_of (arc_value m))
view Mark = mark

-- a key with the data of its value
abbrev pub pair_view : Pair → MapKey × Datum
pair_view p = (p.key, view p.value)

abbrev pub value_view : Pair → Datum
value_view p = view p.value
