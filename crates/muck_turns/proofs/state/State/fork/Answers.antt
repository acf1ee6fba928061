use Rattle.std.proofs.Common.{rules, ◌≡◌, refl}
use Rattle.std.proofs.lemmas.Int.{to_z-of_z}
use Rattle.muf_model.specs.Datum.{int}
use Rattle.muf_model.specs.Source.{handed}
use Rattle.muck_turns.proofs.Processes.{child_joins}
use Rattle.muck_turns.proofs.state.State.fork.Goals as goal

pub returns : goal.returns
returns c =
    let h = c.ranges.pid in
    let so : c.hand.new.self ≡ handed (int c.in_ok-number.number) c.args.running = search rules in
    child_joins c.args.pid c.args.running c.hand.new.self c.args.self.now c.bear.new.self c.in_ok-number.number _ refl (simp to_z-of_z at c.in_ok-number.ensures) so
