use Rattle.std.proofs.Common.{◌≡◌, Option, Some, subst, sym}
use Rattle.muck_model.specs.declared.dbref.Dbref.{Dbref}
use Rattle.std.specs.Option.{option_map}
use Rattle.muck_lock.specs.Grammar.{object_key}
use Rattle.muck_lock.specs.Opens.{holdings, opens_for}
use Rattle.muck_lock.specs.Answers.{no_names}
use Rattle.muck_lock.proofs.Texts.{object_answered}
use Rattle.muck_lock.proofs.text.object_answer.Goals as goal

pub returns-in-Some : goal.returns-in-Some
returns-in-Some g c =
    let w = holdings (g.K.Keys.owners c.args.keys.now) (g.K.Keys.places c.args.keys.now) (g.K.Keys.contents c.args.keys.now) (g.K.Keys.has c.args.keys.now) in
    let P : Option Dbref → Type 0 = λ d. Some c.object_opens.result ≡ option_map (λ lock. opens_for w lock c.args.x) (object_key no_names d) in
    subst P (sym c.in-Some.is) (object_answered w c.args.x c.in-Some.n c.object_opens.result c.object_opens.ensures)
