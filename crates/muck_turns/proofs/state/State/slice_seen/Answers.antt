use Rattle.std.proofs.lemmas.Int.{to_z-of_z}
use Rattle.muck_laws.proofs.Results.{on_ok_turns}
use Rattle.muck_turns.proofs.Hooks.{slice_hooked}
use Rattle.muck_turns.proofs.state.State.slice_seen.Goals as goal

pub returns-clause-same : goal.returns-clause-same
returns-clause-same g c =
    let h = c.ranges.pid in
    slice_hooked c.args.pid c.args.self.now c.take_slice_seen.new.self c.hook.new.self c.hook.result c.requires.told c.requires.still (simp to_z-of_z at c.in_ok-take_slice_seen.ensures.same) c.hook.ensures

pub returns-clause-seen : goal.returns-clause-seen
returns-clause-seen g c =
    let h = c.ranges.pid in
    on_ok_turns c.hook.result _ (simp to_z-of_z at c.in_ok-take_slice_seen.ensures.seen)
