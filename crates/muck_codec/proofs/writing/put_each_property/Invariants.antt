use Rattle.std.proofs.Common.{◌≡◌, ◌++◌, take}
use Rattle.std.specs.List.{flat_map}
use Rattle.muck_codec.specs.Spelling.{property_bytes}
use Rattle.muck_codec.proofs.writing.put_each_property.Given as goal

abbrev pub invariant-loop-property : goal.invariant-loop-property
invariant-loop-property l = l.out.items ≡ l.initial.out.items ++ flat_map property_bytes (take l.property-index l.props)
