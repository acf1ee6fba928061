use Rattle.std.proofs.Common.{◌≡◌, ◌≤◌, false, sym, ◌∙◌, arith}
use Rattle.spec_events.specs.Histories.{now}
use Rattle.tests_program.proofs.Losing.{may_pass}
use Rattle.tests_program.proofs.replay.wait.Goals as goal

pub moment-requires : goal.moment-requires
moment-requires c =
    let alive : (now c.args.world.now).dead ≡ false = sym c.is_dead.ensures.dead ∙ c.if-is_dead.false in
    let at = c.now.ensures alive in
    let on : (now c.args.world.now).moment ≤ c.saturating_add-then.result = omega (arith, at, c.saturating_add-then.ensures) in
    may_pass _ _ alive on
