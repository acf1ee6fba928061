use Rattle.std.proofs.Common.{◌≡◌, drop, option_copied}
use Rattle.muf_token.specs.inner.Layers.{newest}
use Rattle.muf_token.proofs.layers.Entry.meaning.Given as goal

-- the newest of the rest, from what was found so far on, is that of all
abbrev pub invariant-loop-lent : goal.invariant-loop-lent
invariant-loop-lent l =
    newest l.stamps.entries (drop l.lent-index l.lent-items) (l.since, option_copied l.best) ≡ newest l.stamps.entries l.self.lent (l.self.stamp, l.self.body)
