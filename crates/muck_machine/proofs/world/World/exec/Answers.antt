use Rattle.std.proofs.Common.{refl, sym}
use Rattle.spec_events.specs.Histories.{now}
use Rattle.spec_events.proofs.Reached.{exec_lawful}
use Rattle.muck_machine.proofs.Keepings.{keeps_concluded, sound_seen, alive_if_found, told_seen, still_seen, rising_seen}
use Rattle.muck_machine.proofs.Licences.{told_licensed}
use Rattle.muck_machine.proofs.world.World.exec.Goals as goal

pub do_line-done-requires-clause-told : goal.do_line-done-requires-clause-told
do_line-done-requires-clause-told c = told_seen c.self.inside.past _ _ c.self.invariant c.self.view_is (alive_if_found (now c.args.self.now) _ (sym c.in-Some.ensures))

pub do_line-done-requires-clause-still : goal.do_line-done-requires-clause-still
do_line-done-requires-clause-still c = still_seen c.self.inside.past _ _ c.self.invariant c.self.view_is (alive_if_found (now c.args.self.now) _ (sym c.in-Some.ensures))

pub do_line-done-requires-clause-rising : goal.do_line-done-requires-clause-rising
do_line-done-requires-clause-rising c = rising_seen c.self.inside.past _ _ c.self.invariant c.self.view_is (alive_if_found (now c.args.self.now) _ (sym c.in-Some.ensures))

pub invariant_of-self : goal.invariant_of-self
invariant_of-self c =
    let found = sym c.in-Some.ensures in
    let sound = sound_seen c.self.inside.past _ _ c.self.invariant c.self.view_is (alive_if_found (now c.args.self.now) _ found) in
    keeps_concluded c.self.inside.past _ _ _ _ _ c.do_line-done.result c.conclude.result c.self.invariant c.self.view_is (exec_lawful (now c.args.self.now) c.args.party _ sound found) refl c.do_line-done.ensures c.conclude.ensures.same c.conclude.ensures.past

pub invariant_of-self-2 : goal.invariant_of-self-2
invariant_of-self-2 c =
    let found = sym c.in-Some.ensures in
    let sound = sound_seen c.self.inside.past _ _ c.self.invariant c.self.view_is (alive_if_found (now c.args.self.now) _ found) in
    keeps_concluded c.self.inside.past _ _ _ _ _ c.do_line-done.result c.conclude.result c.self.invariant c.self.view_is (exec_lawful (now c.args.self.now) c.args.party _ sound found) refl c.do_line-done.ensures c.conclude.ensures.same c.conclude.ensures.past

pub returns-clause-licensed : goal.returns-clause-licensed
returns-clause-licensed c = told_licensed c.self.inside.past c.conclude.new.self _ _ _ c.self.invariant c.self.view_is c.in_ok-conclude.ensures.past
