use Rattle.std.proofs.Common.{sym, ◌∙◌, ◌≡◌, rules}
use Rattle.muck_match.specs.declared.naming.Found.TheVariants.{Many}
use Rattle.muck_match.proofs.Looks.{named_many, named_whole, named_rest, hits_known, hits_known_in}
use Rattle.muck_match.proofs.glances.named.Goals as goal

pub returns-then-matches : goal.returns-then-matches
returns-then-matches g c =
    let many : c.equal_in-carried.result ≡ Many = search rules in
    named_many _ _ _ _ c.equal_in-carried.ensures many

pub returns-then-not-is_nobody : goal.returns-then-not-is_nobody
returns-then-not-is_nobody g c = named_whole _ _ _ _ _ _ _ c.place_in-place.ensures c.equal_in-carried.ensures c.equal_in.ensures c.joined-whole.ensures (sym c.is_nobody.ensures ∙ c.if-not-is_nobody.true)

pub hit_besides-hit-requires-clause-carried : goal.hit_besides-hit-requires-clause-carried
hit_besides-hit-requires-clause-carried g c = hits_known _ _ _ _ c.look_into-own.ensures

pub hit_besides-hit-requires-clause-beside : goal.hit_besides-hit-requires-clause-beside
hit_besides-hit-requires-clause-beside g c = hits_known_in _ _ _ _ _ c.place_in-place.ensures c.look_into-beside.ensures

pub returns : goal.returns
returns g c = named_rest _ _ _ _ _ _ _ _ _ _ _ _ c.place_in-place.ensures c.equal_in-carried.ensures c.equal_in.ensures c.joined-whole.ensures (sym c.is_nobody.ensures ∙ c.if-not-is_nobody.false) c.look_into-own.ensures c.look_into-beside.ensures c.hit_besides-hit.ensures c.joined.ensures c.exit_or_part.ensures
