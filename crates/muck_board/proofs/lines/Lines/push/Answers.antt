use Rattle.std.proofs.Common.{ap, ◌≡◌, ◌∙◌, ◌++◌, length, drop, take, arith, length-append}
use Rattle.muck_laws.proofs.Parts.{same_window}
use Rattle.muck_board.specs.inner.Sent.{lines_in}
use Rattle.muck_board.specs.inner.Waiting.{Waiting}
use Rattle.muck_board.proofs.Ended.{pushed_at}
use Rattle.muck_board.proofs.lines.Lines.push.Goals as goal

pub invariant_of-self-2 : goal.invariant_of-self-2
invariant_of-self-2 c =
    let s = c.self.inside in
    let new = c.extend_from_slice.new.self.items in
    let as_many = ap length c.in_ok-extend_from_slice.ensures.items in
    let more = length-append s.bytes.items c.as_slice.result.now in
    let at = pushed_at s.bytes.items new c.as_slice.result.now s.from c.args.sent.now c.self.invariant.1 c.self.invariant.2 c.in_ok-extend_from_slice.ensures.items c.as_slice.ensures.bytes c.as_slice.ensures.each in
    (c.self.invariant.0, omega (arith, as_many, more, c.self.invariant.1), at.each)

pub returns-clause-ok : goal.returns-clause-ok
returns-clause-ok c =
    let s = c.self.inside in
    let new = c.extend_from_slice.new.self.items in
    let at = pushed_at s.bytes.items new c.as_slice.result.now s.from c.args.sent.now c.self.invariant.1 c.self.invariant.2 c.in_ok-extend_from_slice.ensures.items c.as_slice.ensures.bytes c.as_slice.ensures.each in
    let window = same_window s.bytes.items new c.as_slice.result.now s.at s.begun (omega (arith, c.self.invariant.0, c.self.invariant.1)) c.in_ok-extend_from_slice.ensures.items in
    let seen : ◌≡◌ {A = Waiting} (record { begun = take s.begun (drop s.at new); lines = lines_in (drop s.from new) }) (record { begun = take s.begun (drop s.at s.bytes.items); lines = lines_in (drop s.from s.bytes.items) ++ c.args.sent.now }) = λ i. record { begun = window i; lines = at.lines i } in
    seen ∙ ap {A = Waiting} {B = Waiting} (λ w. record w { lines = w.lines ++ c.args.sent.now }) (c.self.view_is ∙ c.compact.ensures)
