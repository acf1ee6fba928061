use Rattle.std.proofs.Common.{◌≡◌, refl, false, rules}
use Rattle.muf_frame.specs.inner.Shown.{flat}
use Rattle.muf_frame.specs.inner.Moves.{has_guard}
use Rattle.muf_frame.proofs.Unguarded.{uncaught}
use Rattle.muf_frame.proofs.frame.Frame.unwind.Goals as goal

pub returns-then-not-in_try-clause-ok : goal.returns-then-not-in_try-clause-ok
returns-then-not-in_try-clause-ok c =
    let h : has_guard (flat c.args.self.now).marks ≡ false = search (rules, c.in_try.ensures, c.if-not-in_try.true) in
    (uncaught c.args.fault.now (flat c.args.self.now) h, refl)
