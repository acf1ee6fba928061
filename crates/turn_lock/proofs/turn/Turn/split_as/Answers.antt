use Rattle.std.proofs.Common.{rules, sym, ◌∙◌, subst}
use Rattle.turn_lock.specs.Histories.{Has}
use Rattle.turn_lock.proofs.Moves.{splits_at}
use Rattle.turn_lock.proofs.turn.Turn.split_as.Goals as goal

pub split_seat-requires : goal.split_seat-requires
split_seat-requires g c =
    let named = c.requires.named in (
      search rules,
      search rules,
      splits_at g.T.Story.history g.T.Story.party g.T.Story.start g.T.Story.allowed g.N.PartyNamed.party _ c.args.seat.now.me.0 c.requires.own.1 c.requires.idle.0 c.requires.idle.1
          (λ e. c.requires.fresh.0 (sym named ∙ e))
          (λ h. c.requires.fresh.1 (subst (λ n. Has c.args.seat.now.me.0.given n) named h)),
    )
