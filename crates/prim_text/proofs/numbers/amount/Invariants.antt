use Rattle.std.proofs.Common.{◌≡◌, ◌≤◌, drop}
use Rattle.muf_model.specs.Texts.{amount}
use Rattle.prim_text.proofs.numbers.amount.Given as goal

abbrev pub invariant-loop-b : goal.invariant-loop-b
invariant-loop-b l = (amount l.most l.n (drop l.b-index l.bytes) ≡ amount l.most 0 l.bytes) × (l.n ≤ l.most)
