use Rattle.std.proofs.Common.{sym, subst}
use Rattle.muck_links.specs.inner.Cutting.{IsLineSoFar}
use Rattle.muck_links.proofs.Lines.{never_refused}
use Rattle.muck_links.proofs.cutter.Unfinished.take.Goals as goal

pub unreachable-requires : goal.unreachable-requires
unreachable-requires c = never_refused c.replace-bytes.result.items c.in-Err.field-0 (subst (λ v. IsLineSoFar v.items) (sym c.replace-bytes.ensures.value) c.self.invariant) c.in-Err.ensures
