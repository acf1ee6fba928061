use Rattle.std.proofs.Common.{ap, sym, refl, ◌≡◌, ◌∙◌, ◌<◌, length, drop, arith}
use Rattle.std.proofs.lemmas.Bool.{eqb-true, eqb-false}
use Rattle.spec_live.specs.Output.{sent_lines_bytes}
use Rattle.muck_board.specs.inner.Sent.{lines_in}
use Rattle.muck_board.specs.inner.Waiting.{Waiting}
use Rattle.muck_board.proofs.Ended.{begins_at, no_bytes}
use Rattle.muck_board.proofs.lines.Lines.begin.Goals as goal

pub returns-then-is_empty : goal.returns-then-is_empty
returns-then-is_empty c =
    let none : length c.whole-whole.result.now ≡ 0 = eqb-true _ 0 (sym c.is_empty.ensures ∙ c.if-is_empty.true) in
    (no_bytes c.args.self.now.lines (omega (arith, none, ap length c.whole-whole.ensures)), refl)

pub invariant_of-self : goal.invariant_of-self
invariant_of-self c =
    let s = c.self.inside in
    let is : c.whole-whole.result.now ≡ sent_lines_bytes (lines_in (drop s.from s.bytes.items)) = c.whole-whole.ensures ∙ ap (λ (w : Waiting). sent_lines_bytes w.lines) (sym c.self.view_is) in
    let some : 0 < length c.whole-whole.result.now = omega (arith, eqb-false _ 0 (sym c.is_empty.ensures ∙ c.if-is_empty.false)) in
    let at = begins_at s.bytes.items c.whole-whole.result.now s.from c.count_before-len.result c.self.invariant.1 c.self.invariant.2 is some c.count_before-len.ensures.at in
    (omega arith, at.within, at.each)

pub returns : goal.returns
returns c =
    let s = c.self.inside in
    let is : c.whole-whole.result.now ≡ sent_lines_bytes (lines_in (drop s.from s.bytes.items)) = c.whole-whole.ensures ∙ ap (λ (w : Waiting). sent_lines_bytes w.lines) (sym c.self.view_is) in
    let some : 0 < length c.whole-whole.result.now = omega (arith, eqb-false _ 0 (sym c.is_empty.ensures ∙ c.if-is_empty.false)) in
    let at = begins_at s.bytes.items c.whole-whole.result.now s.from c.count_before-len.result c.self.invariant.1 c.self.invariant.2 is some c.count_before-len.ensures.at in
    record {
      line = at.line;
      first = ap (λ (w : Waiting). w.lines) (sym c.self.view_is) ∙ at.first;
      begun = at.begun;
      short = omega (arith, ap length at.begun, at.short);
    }
