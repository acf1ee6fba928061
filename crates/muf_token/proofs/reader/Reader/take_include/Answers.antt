use Rattle.std.proofs.Common.{ap, refl}
use Rattle.muf_token.specs.inner.Spots.{spot_of, name_of}
use Rattle.muf_token.proofs.Renewals.{included_on, renewed_taken}
use Rattle.muf_token.proofs.reader.Reader.take_include.Goals as goal

pub returns-clause-leads : goal.returns-clause-leads
returns-clause-leads g c =
    included_on (g.I.Includes.lent c.args.include.now) c.args.line c.args.self.now (record c.ready.new.self { definitions = c.renew.new.self }) c.ready.new.self.definitions (spot_of c.args.place) (name_of c.in_ok-name.name) c.in_ok-object.object
    c.in_ok-name.name.behind c.in_ok-name.ensures refl c.in_ok-object.ensures c.requires c.in_ok-ready.ensures.0
    (record { names = ap (λ m. m.entries) c.in_ok-renew.ensures.names; clock = c.in_ok-renew.ensures.clock; stamps = c.in_ok-renew.ensures.stamps }) c.in_ok-ready.ensures.1 c.in_ok-ready.ensures.2

pub returns-clause-taken : goal.returns-clause-taken
returns-clause-taken g c =
    renewed_taken (g.I.Includes.lent c.args.include.now) c.in_ok-object.object c.args.self.now.definitions c.ready.new.self.definitions c.renew.new.self c.in_ok-ready.ensures.0
    (record { names = ap (λ m. m.entries) c.in_ok-renew.ensures.names; clock = c.in_ok-renew.ensures.clock; stamps = c.in_ok-renew.ensures.stamps })
