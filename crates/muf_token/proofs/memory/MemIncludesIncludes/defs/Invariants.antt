use Rattle.std.proofs.Common.{◌≡◌, drop}
use Rattle.muf_token.specs.inner.Lenders.{lent_by}
use Rattle.muf_token.proofs.memory.MemIncludesIncludes.defs.Given as goal

-- none of the entries so far is the object's
abbrev pub invariant-loop-lender : goal.invariant-loop-lender
invariant-loop-lender l = lent_by (drop l.lender-index l.lender-items) l.d ≡ lent_by l.self l.d
