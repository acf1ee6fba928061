use Rattle.std.proofs.Common.{◌∙◌}
use Rattle.muf_token.specs.inner.Places.{text_at}
use Rattle.muf_token.specs.inner.Spots.{spot_of}
use Rattle.muf_token.specs.inner.Readers.{state_of}
use Rattle.muf_token.proofs.Sources.{words_stepped, step_shorter}
use Rattle.muf_token.proofs.Exits.{err_read}
use Rattle.muf_token.proofs.reader.Reader.read.Goals as goal

pub returns-in_err-line-clause-read : goal.returns-in_err-line-clause-read
returns-in_err-line-clause-read g c =
    err_read (g.I.Includes.lent c.args.include.now) (state_of c.args.self.now) (state_of c.args.self.now) (spot_of c.args.place) c.in_err-line.field-0.0 c.from_residual.result c.in_err-line.ensures c.from_residual.ensures

pub returns-clause-read : goal.returns-clause-read
returns-clause-read g c =
    let at = rw c.in-Some.is at c.in_ok-line.ensures in
    let lent = g.I.Includes.lent c.args.include.now in
    let old = state_of c.args.self.now in
    let new = state_of c.take.new.self in
    let here = spot_of c.args.place in
    let next = spot_of c.in_ok-next.next in
    let found = c.in-Some.field-0 in
    let led = c.in_ok-next.ensures.leads in (
      words_stepped lent old led.0 here next found.line found.behind.line found.piece (text_at found.behind) at led.1 ∙ led.2 lent next,
      step_shorter lent old led.0 here next found.line found.behind.line found.piece (text_at found.behind) at led.1,
    )
