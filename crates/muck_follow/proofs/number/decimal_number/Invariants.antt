use Rattle.std.proofs.Common.{◌≡◌, ◌≤◌, ◌-◌, ◌^◌, drop}
use Rattle.muck_model.specs.Decimal.{value_from}
use Rattle.muck_follow.proofs.number.decimal_number.Given as goal

abbrev pub invariant-loop-b : goal.invariant-loop-b
invariant-loop-b l = (value_from l.n (drop l.b-index l.bytes) ≡ value_from 0 l.bytes) × (l.n ≤ 2 ^ 64 - 1)
