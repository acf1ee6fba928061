use Rattle.std.proofs.Common.{ap, sym, ◌≡◌, ◌∙◌, List, ℕ, length, drop, take, arith}
use Rattle.spec_live.specs.Output.{sent_lines_bytes, newest}
use Rattle.muck_board.specs.inner.Sent.{lines_in}
use Rattle.muck_board.specs.inner.Waiting.{Waiting}
use Rattle.muck_board.proofs.Ended.{kept_at}
use Rattle.muck_board.proofs.lines.Lines.keep_newest.Goals as goal

pub overflow_add-self : goal.overflow_add-self
overflow_add-self c =
    let s = c.self.inside in
    let is : c.whole-whole.result.now ≡ sent_lines_bytes (lines_in (drop s.from s.bytes.items)) = c.whole-whole.ensures ∙ ap (λ (w : Waiting). sent_lines_bytes w.lines) (sym c.self.view_is) in
    let at = kept_at s.bytes.items c.whole-whole.result.now s.from c.end_behind.result c.args.room c.self.invariant.1 c.self.invariant.2 is (omega (arith, c.requires, ap length c.whole-whole.ensures)) c.end_behind.ensures in
    omega (arith, at.within, s.bytes.ok, s.bytes.small)

pub invariant_of-self : goal.invariant_of-self
invariant_of-self c =
    let s = c.self.inside in
    let is : c.whole-whole.result.now ≡ sent_lines_bytes (lines_in (drop s.from s.bytes.items)) = c.whole-whole.ensures ∙ ap (λ (w : Waiting). sent_lines_bytes w.lines) (sym c.self.view_is) in
    let at = kept_at s.bytes.items c.whole-whole.result.now s.from c.end_behind.result c.args.room c.self.invariant.1 c.self.invariant.2 is (omega (arith, c.requires, ap length c.whole-whole.ensures)) c.end_behind.ensures in
    (omega (arith, c.self.invariant.0), at.within, at.each)

pub returns : goal.returns
returns c =
    let s = c.self.inside in
    let is : c.whole-whole.result.now ≡ sent_lines_bytes (lines_in (drop s.from s.bytes.items)) = c.whole-whole.ensures ∙ ap (λ (w : Waiting). sent_lines_bytes w.lines) (sym c.self.view_is) in
    let at = kept_at s.bytes.items c.whole-whole.result.now s.from c.end_behind.result c.args.room c.self.invariant.1 c.self.invariant.2 is (omega (arith, c.requires, ap length c.whole-whole.ensures)) c.end_behind.ensures in
    ap {A = List (List ℕ)} {B = Waiting} (λ ls. record { begun = take s.begun (drop s.at s.bytes.items); lines = ls }) at.kept
    ∙ ap {A = Waiting} {B = Waiting} (λ w. record w { lines = newest c.args.room w.lines }) c.self.view_is
