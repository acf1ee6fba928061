-- The last dump may begin.
use Rattle.std.proofs.Common.{◌≡◌, Bool, true, ◌&&◌, refl, sym, ap, subst, None}
use Rattle.std.specs.Prelude.{is_none}
use Rattle.spec_events.specs.World.{World}
use Rattle.spec_events.specs.Steps.{may_cut}

pub may_last : (w : World) → w.dumps.running ≡ None → may_cut w 0 ≡ true
may_last w none = subst (λ (b : Bool). (true && b && true) ≡ true) (sym (ap is_none none)) refl
