use Rattle.std.proofs.Common.{◌≡◌, ◌<◌, arith, map, length}
use Rattle.std.specs.Prelude.{pos}
use Rattle.std.proofs.lemmas.List.{length-map}
use Rattle.muf_model.specs.Datum.{int}
use Rattle.muf_model.proofs.Edited.{weight_less, nesting_less}
use Rattle.muf_model.proofs.changes.size_without.Goals as goal

pub overflow_sub-result : goal.overflow_sub-result
overflow_sub-result g c =
    omega (arith, c.size_with-flat.ensures.weight, weight_less c.args.at (map g.H.Held.held c.args.values.now) (int (pos 0)) (omega (arith, c.requires.there, length-map c.args.values.now g.H.Held.held)))

pub returns-clause-weight : goal.returns-clause-weight
returns-clause-weight g c =
    omega (arith, c.size_with-flat.ensures.weight, weight_less c.args.at (map g.H.Held.held c.args.values.now) (int (pos 0)) (omega (arith, c.requires.there, length-map c.args.values.now g.H.Held.held)))

pub returns-clause-nesting : goal.returns-clause-nesting
returns-clause-nesting g c =
    omega (arith, c.size_with-flat.ensures.nesting, nesting_less c.args.at (map g.H.Held.held c.args.values.now) (int (pos 0)) (omega (arith, c.requires.there, length-map c.args.values.now g.H.Held.held)))
