use Rattle.std.proofs.Common.{◌≡◌, ◌++◌, List, ℕ, drop}
use Rattle.std.specs.Str.{bytes_eq}
use Rattle.std.specs.List.{IsDistinct}
use Rattle.std.specs.Map.{keys_of}
use Rattle.muf_token.specs.inner.Layers.{lents, own, lents_of}
use Rattle.muf_token.proofs.layers.Layers.lend_all.Given as goal

-- with the rest of the list too, each name has what it had and what the list lends to it
abbrev pub invariant-loop-definition : goal.invariant-loop-definition
invariant-loop-definition l = record {
  lents : (q : List ℕ) → lents l.self q ++ lents_of l.object.0 (drop l.definition-index l.list) q ≡ lents l.fn.self q ++ lents_of l.object.0 l.list q;
  own : (q : List ℕ) → own l.self q ≡ own l.fn.self q;
  one : IsDistinct bytes_eq (keys_of l.self.names.entries);
  stamps : l.self.stamps ≡ l.fn.self.stamps;
  clock : l.self.clock ≡ l.fn.self.clock;
}
