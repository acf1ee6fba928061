use Rattle.std.proofs.Common.{ap, ◌∙◌, ◌≤◌, List, ℕ, length, drop, arith, length-take}
use Rattle.muck_laws.proofs.Parts.{window_dropped}
use Rattle.muck_board.specs.inner.Sent.{lines_in}
use Rattle.muck_board.specs.inner.Waiting.{Waiting}
use Rattle.muck_board.proofs.lines.Lines.advance.Goals as goal

pub returns : goal.returns
returns c =
    let s = c.self.inside in
    let few : c.args.n ≤ s.begun = omega (arith, c.requires, ap (λ (w : Waiting). length w.begun) c.self.view_is, length-take s.begun (drop s.at s.bytes.items)) in
    c.let_go.ensures ∙ ap {A = List ℕ} {B = Waiting} (λ b. record { begun = b; lines = lines_in (drop s.from s.bytes.items) }) (window_dropped s.at s.begun c.args.n s.bytes.items few)
    ∙ ap {A = Waiting} {B = Waiting} (λ w. record w { begun = drop c.args.n w.begun }) c.self.view_is
