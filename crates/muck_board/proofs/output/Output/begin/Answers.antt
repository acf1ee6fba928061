use Rattle.std.proofs.Common.{List, ℕ, ◌≡◌, [], ap, sym, ◌∙◌, length}
use Rattle.std.proofs.lemmas.Bool.{eqb-true}
use Rattle.std.proofs.lemmas.List.{nil_from_length}
use Rattle.spec_live.specs.Output.{Output, bytes_of, output_taken}
use Rattle.muck_board.specs.inner.Bounded.{rest_of}
use Rattle.muck_board.specs.inner.Waiting.{Waiting}
use Rattle.muck_board.proofs.Outputs.{notice_some, notice_first, line_first, same_notice, same_line, nothing_waits}
use Rattle.muck_board.proofs.Sending.{notice_begins, line_begins}
use Rattle.muck_board.proofs.output.Output.begin.Goals as goal

nothing_left : (rest : List ℕ) (o : Output) (inside : Output) → length rest ≡ 0 → rest ≡ o.rest → inside ≡ o → inside.rest ≡ []
nothing_left rest o inside none e same = ap (λ (p : Output). p.rest) same ∙ sym e ∙ nil_from_length rest none

pub returns-then-self-clause-same : goal.returns-then-self-clause-same
returns-then-self-clause-same c =
    let s = c.self.inside in
    let none : rest_of s.begun s.lines ≡ [] = nothing_left c.rest.result.now _ _ (eqb-true _ 0 (sym c.is_empty.ensures ∙ c.if-not-is_empty.false)) c.rest.ensures.bytes c.self.view_is in
    same_notice (rest_of s.begun s.lines) s.flushed s.lines.lines none c.if-self.true ∙ ap bytes_of c.self.view_is

pub returns-then-self-clause-taken : goal.returns-then-self-clause-taken
returns-then-self-clause-taken c k h =
    let s = c.self.inside in
    let none : rest_of s.begun s.lines ≡ [] = nothing_left c.rest.result.now _ _ (eqb-true _ 0 (sym c.is_empty.ensures ∙ c.if-not-is_empty.false)) c.rest.ensures.bytes c.self.view_is in
    notice_first k (rest_of s.begun s.lines) s.flushed s.lines.lines h none c.if-self.true ∙ ap (output_taken k) c.self.view_is

pub returns-then-self-clause-begun : goal.returns-then-self-clause-begun
returns-then-self-clause-begun c = notice_some

pub invariant_of-self : goal.invariant_of-self
invariant_of-self c = notice_begins c.self.inside.begun c.self.inside.lines c.self.inside.flushed c.if-self.true c.self.invariant

pub returns-then-not-begin-clause-begun : goal.returns-then-not-begin-clause-begun
returns-then-not-begin-clause-begun c =
    let s = c.self.inside in
    let none : rest_of s.begun s.lines ≡ [] = nothing_left c.rest.result.now _ _ (eqb-true _ 0 (sym c.is_empty.ensures ∙ c.if-not-is_empty.false)) c.rest.ensures.bytes c.self.view_is in (
      sym (ap bytes_of c.self.view_is) ∙ nothing_waits (rest_of s.begun s.lines) s.flushed s.lines.lines none c.if-self.false c.if-not-begin.ensures.0,
      ap {A = Waiting} {B = Output} (λ w. record { rest = rest_of s.begun w; flushed = s.flushed; lines = w.lines }) c.if-not-begin.ensures.1 ∙ c.self.view_is,
    )

pub invariant_of-self-2 : goal.invariant_of-self-2
invariant_of-self-2 c = line_begins c.self.inside.begun c.self.inside.lines c.begin.new.self c.self.inside.flushed c.if-self.false c.if-not-begin.ensures c.self.invariant

pub returns-clause-same : goal.returns-clause-same
returns-clause-same c =
    let s = c.self.inside in
    let begins = c.if-not-begin.ensures in
    let none : rest_of s.begun s.lines ≡ [] = nothing_left c.rest.result.now _ _ (eqb-true _ 0 (sym c.is_empty.ensures ∙ c.if-not-is_empty.false)) c.rest.ensures.bytes c.self.view_is in
    ap (λ r. bytes_of (record { rest = r; flushed = s.flushed; lines = c.begin.new.self.lines })) begins.begun
    ∙ same_line begins.line (rest_of s.begun s.lines) s.flushed c.begin.new.self.lines s.lines.lines none c.if-self.false begins.first ∙ ap bytes_of c.self.view_is

pub returns-clause-taken : goal.returns-clause-taken
returns-clause-taken c k h =
    let s = c.self.inside in
    let begins = c.if-not-begin.ensures in
    let none : rest_of s.begun s.lines ≡ [] = nothing_left c.rest.result.now _ _ (eqb-true _ 0 (sym c.is_empty.ensures ∙ c.if-not-is_empty.false)) c.rest.ensures.bytes c.self.view_is in
    ap (λ r. output_taken k (record { rest = r; flushed = s.flushed; lines = c.begin.new.self.lines })) begins.begun
    ∙ line_first k begins.line (rest_of s.begun s.lines) s.flushed c.begin.new.self.lines s.lines.lines h none c.if-self.false begins.first ∙ ap (output_taken k) c.self.view_is
