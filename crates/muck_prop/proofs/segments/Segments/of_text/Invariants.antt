use Rattle.std.proofs.Common.{◌≡◌, map}
use Rattle.std.specs.Char.{to_ascii_lowercase}
use Rattle.std.specs.List.{filter}
use Rattle.muck_prop.specs.Paths.{is_filled}
use Rattle.muck_prop.proofs.segments.Segments.of_text.Given as goal

abbrev pub invariant-loop-part : goal.invariant-loop-part
invariant-loop-part l = l.items.items ≡ map (map to_ascii_lowercase) (filter is_filled (map (λ part. part.now) l.yielded))
