use Rattle.muck_turns.proofs.Hooks.{close_hooked}
use Rattle.muck_turns.proofs.state.State.close.Goals as goal

pub returns : goal.returns
returns c =
    close_hooked c.args.d c.args.self.now c.go.new.self c.hook.new.self c.player_of-player.result c.went-turned.result c.hook.result c.requires
    c.player_of-player.ensures c.in_ok-go.ensures c.went-turned.ensures c.hook.ensures
