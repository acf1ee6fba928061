use Rattle.std.proofs.Common.{rules, Ok}
use Rattle.muf_token.specs.Source.{directed}
use Rattle.muf_token.specs.inner.Spots.{spot_of}
use Rattle.muf_token.specs.inner.Readers.{state_of}
use Rattle.muf_token.proofs.Takings.{leads_on}
use Rattle.muf_token.proofs.reader.Reader.take_directive.Goals as goal

pub returns-in_ok-take_else-in-Some-Else-clause-leads : goal.returns-in_ok-take_else-in-Some-Else-clause-leads
returns-in_ok-take_else-in-Some-Else-clause-leads g c =
    leads_on (directed (g.I.Includes.lent c.args.include.now) c.args.line c.args.directive (state_of c.args.self.now) (spot_of c.args.place)) (Ok c.args.place) (state_of c.take_else.new.self) (search rules)

pub returns-in_ok-take_endif-in-Some-Endif-clause-leads : goal.returns-in_ok-take_endif-in-Some-Endif-clause-leads
returns-in_ok-take_endif-in-Some-Endif-clause-leads g c =
    leads_on (directed (g.I.Includes.lent c.args.include.now) c.args.line c.args.directive (state_of c.args.self.now) (spot_of c.args.place)) (Ok c.args.place) (state_of c.take_endif.new.self) (search rules)
