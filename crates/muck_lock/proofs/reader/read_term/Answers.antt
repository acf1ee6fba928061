-- What stands before a key waits for it.
use Rattle.std.proofs.Common.{◌≡◌, Some, ◌∙◌, ap, arith}
use Rattle.std.specs.Prelude.{slice_get}
use Rattle.std.proofs.lemmas.Option.{slice_get-get_or}
use Rattle.muck_lock.specs.Naming.{naming}
use Rattle.muck_lock.proofs.Passing.{step_not, step_group}
use Rattle.muck_lock.proofs.reader.read_term.Goals as goal

pub returns-in_ok-push-in-33 : goal.returns-in_ok-push-in-33
returns-in_ok-push-in-33 g c =
    let here : slice_get c.args.text.now c.args.at ≡ Some 33 = slice_get-get_or c.args.text.now c.args.at 0 c.requires.inside ∙ ap Some c.in-33.is in (
      step_not (naming (g.F.Finder.found c.args.finder.now) (g.F.Finder.programs c.args.finder.now)) c.args.text.now c.args.waiting.now.items c.push.new.self.items c.args.at here c.in_ok-push-in-33.ensures.items,
      omega arith,
      omega (arith, c.requires.inside),
    )

pub returns-in_ok-push-in-40 : goal.returns-in_ok-push-in-40
returns-in_ok-push-in-40 g c =
    let here : slice_get c.args.text.now c.args.at ≡ Some 40 = slice_get-get_or c.args.text.now c.args.at 0 c.requires.inside ∙ ap Some c.in-40.is in (
      step_group (naming (g.F.Finder.found c.args.finder.now) (g.F.Finder.programs c.args.finder.now)) c.args.text.now c.args.waiting.now.items c.push-in-40.new.self.items c.args.at here c.in_ok-push-in-40.ensures.items,
      omega arith,
      omega (arith, c.requires.inside),
    )
