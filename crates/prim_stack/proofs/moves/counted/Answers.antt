use Rattle.std.proofs.Common.{◌+◌, ◌<◌, ◌≤◌, length, ap, sym, ◌∙◌}
use Rattle.std.proofs.lemmas.List.{length-map}
use Rattle.muf_model.specs.inner.View.{view}
use Rattle.muf_model.specs.Answer.{refuses}
use Rattle.muf_frame.specs.inner.Shown.{flat, locked_by}
use Rattle.muf_frame.specs.inner.Moves.{scope_of}
use Rattle.prim_stack.proofs.Counts.{count_few, count_fits}
use Rattle.prim_stack.proofs.moves.counted.Goals as goal

pub returns-in-Ok-clause-ok : goal.returns-in-Ok-clause-ok
returns-in-Ok-clause-ok c answer =
    let f = c.args.frame.now in
    let l : locked_by (flat f).marks + (c.args.n + c.args.fixed) ≤ length f.stack = c.in-Ok.ensures in
    count_fits c.args.fixed c.args.n answer (scope_of 0 (flat f)) (flat f).stack c.requires.some (rw (length-map f.stack view) c.requires.there) c.requires.top (rw (length-map f.stack view) l)

pub returns-in-Err-clause-err : goal.returns-in-Err-clause-err
returns-in-Err-clause-err c answer =
    let f = c.args.frame.now in
    let l : length f.stack < locked_by (flat f).marks + (c.args.n + c.args.fixed) = c.in-Err.ensures.0 in
    count_few c.args.fixed c.args.n answer (scope_of 0 (flat f)) (flat f).stack c.requires.some (rw (length-map f.stack view) c.requires.there) c.requires.top (rw (length-map f.stack view) l)
    ∙ sym (ap refuses c.in-Err.ensures.1)
