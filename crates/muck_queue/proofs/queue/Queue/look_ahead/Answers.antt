use Rattle.std.proofs.Common.{◌≡◌, true, List, subst}
use Rattle.std.specs.List.{list_all}
use Rattle.muck_queue.specs.declared.process.Process.{Process}
use Rattle.muck_queue.specs.inner.Known.{fits_second}
use Rattle.muck_queue.proofs.queue.Queue.look_ahead.Goals as goal

pub invariant_of-self : goal.invariant_of-self
invariant_of-self c =
    (c.self.invariant.0, record { ties = c.self.invariant.1.ties; seconds = subst (λ (ps : List Process). list_all (fits_second c.soonest-self-inside.result) ps ≡ true) c.deref.ensures.value c.soonest-self-inside.ensures })
