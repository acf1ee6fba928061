use Rattle.std.proofs.Common.{subst}
use Rattle.std.proofs.lemmas.Int.{to_z-of_z}
use Rattle.muck_turns.proofs.state.seeing.show.Goals as goal

pub returns : goal.returns
returns g c =
    let h = c.ranges.pid in
    subst (λ v. g.W.Watch.tells c.args.watch.now v c.saw.new.self) (simp to_z-of_z at c.in_ok-view.ensures) c.saw.ensures
