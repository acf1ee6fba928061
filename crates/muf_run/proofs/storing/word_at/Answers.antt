use Rattle.std.proofs.Common.{rules, ◌≡◌, Some}
use Rattle.std.specs.Prelude.{slice_get}
use Rattle.muf_run.proofs.storing.word_at.Goals as goal

pub returns-in-Plain : goal.returns-in-Plain
returns-in-Plain c =
    let q : slice_get c.args.code.now.placed c.args.place ≡ Some c.in-Some.placed.now = search (rules, c.get.ensures.value, c.in-Some.is, c.in-Some.placed-is) in
    (c.in-Some.placed.now, q, c.in-Plain.is)
