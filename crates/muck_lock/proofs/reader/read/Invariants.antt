use Rattle.std.proofs.Common.{◌≡◌, ◌≤◌, ◌-◌, length}
use Rattle.muck_lock.specs.Naming.{naming}
use Rattle.muck_lock.specs.Grammar.{lock_of}
use Rattle.muck_lock.specs.inner.Waiting.{outcome_at}
use Rattle.muck_lock.proofs.reader.read.Given as goal

abbrev pub invariant-loop-at : goal.invariant-loop-at
invariant-loop-at g l = record {
  outcome : outcome_at (naming (g.F.Finder.found l.finder) (g.F.Finder.programs l.finder)) l.text l.waiting.items l.at ≡ lock_of (naming (g.F.Finder.found l.finder) (g.F.Finder.programs l.finder)) l.fn.text;
  within : l.at ≤ length l.text;
}

abbrev pub decreases-loop-at : goal.decreases-loop-at
decreases-loop-at g l = length l.text - l.at
