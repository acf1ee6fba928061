use Rattle.std.proofs.Common.{◌≡◌, ◌++◌, drop}
use Rattle.muck_links.specs.inner.Cutting.{cut_rest, cut_lines}
use Rattle.muck_links.proofs.cutter.cut.Given as goal

abbrev pub invariant-loop-b : goal.invariant-loop-b
invariant-loop-b l =
    (cut_rest l.part (drop l.b-index l.bytes) ≡ cut_rest l.initial.part l.bytes)
    × (l.lines.items ++ cut_lines l.part (drop l.b-index l.bytes) ≡ cut_lines l.initial.part l.bytes)
