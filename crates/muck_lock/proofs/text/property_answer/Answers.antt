use Rattle.std.proofs.Common.{arith}
use Rattle.muck_lock.specs.Opens.{holdings}
use Rattle.muck_lock.proofs.Texts.{property_answered}
use Rattle.muck_lock.proofs.text.property_answer.Goals as goal

pub returns : goal.returns
returns g c =
    let w = holdings (g.K.Keys.owners c.args.keys.now) (g.K.Keys.places c.args.keys.now) (g.K.Keys.contents c.args.keys.now) (g.K.Keys.has c.args.keys.now) in
    property_answered w c.args.x c.args.path.now c.args.value.now c.text_property_opens.result (grind (arith, c.is_path.ensures, c.if-not-is_path.ensures)) c.text_property_opens.ensures
