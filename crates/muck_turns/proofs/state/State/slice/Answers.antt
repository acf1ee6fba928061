use Rattle.std.proofs.lemmas.Int.{to_z-of_z}
use Rattle.muck_turns.proofs.Hooks.{slice_hooked}
use Rattle.muck_turns.proofs.state.State.slice.Goals as goal

pub returns : goal.returns
returns c =
    let h = c.ranges.pid in
    slice_hooked c.args.pid c.args.self.now c.take_slice.new.self c.hook.new.self c.hook.result c.requires.told c.requires.still (simp to_z-of_z at c.in_ok-take_slice.ensures) c.hook.ensures
