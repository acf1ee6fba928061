use Rattle.std.proofs.Common.{refl}
use Rattle.muf_token.specs.inner.Spots.{spot_of, name_of}
use Rattle.muf_token.proofs.Renewals.{undone}
use Rattle.muf_token.proofs.reader.Reader.take_undef.Goals as goal

pub returns-clause-leads : goal.returns-clause-leads
returns-clause-leads c =
    undone c.args.line c.args.self.now _ (spot_of c.args.place) (name_of c.in_ok-name.name) c.in_ok-name.name.behind c.in_ok-name.ensures refl c.requires
    c.in_ok-set.ensures.kept.timed c.in_ok-set.ensures.mean refl refl
