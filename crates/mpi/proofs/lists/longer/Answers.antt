use Rattle.std.proofs.Common.{rules, refl, ◌≡◌, [], ◌∷◌, None}
use Rattle.mpi.proofs.Growing.{grown_inside, grown_text}
use Rattle.mpi.proofs.Inside.{text_inside}
use Rattle.muck_model.specs.Bytes.{text_fault}
use Rattle.mpi.proofs.lists.longer.Goals as goal

pub returns-clause-text : goal.returns-clause-text
returns-clause-text c = grown_text c.grow.new.out.items c.args.item.now c.grow-2.new.out.items c.in_ok-grow-2.ensures (grown_inside c.in-Some.bytes.items (13 ∷ []) c.grow.new.out.items c.in_ok-grow.ensures (text_inside c.in-Some.bytes.items (let e : text_fault c.in-Some.bytes.items ≡ None = search rules in e)) refl) (text_inside c.args.item.now c.requires.item)
