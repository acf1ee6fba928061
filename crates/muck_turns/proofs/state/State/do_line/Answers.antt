use Rattle.muck_turns.proofs.Hooks.{line_hooked}
use Rattle.muck_turns.proofs.state.State.do_line.Goals as goal

pub returns : goal.returns
returns c =
    line_hooked c.args.d c.args.self.now c.first_line.new.self c.hook.new.self c.player_of-before.result _ c.came-turned.result c.hook.result c.requires.told c.requires.still c.requires.rising
    c.player_of-before.ensures c.in_ok-said.ensures.world c.in_ok-said.ensures.said c.came-turned.ensures c.hook.ensures
