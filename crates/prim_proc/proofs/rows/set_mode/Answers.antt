use Rattle.std.proofs.Common.{rules, ◌≡◌, Some, w32, to_z, of_z, sym, ap, ◌∙◌, subst}
use Rattle.muf_frame.specs.inner.Answers.{int_at}
use Rattle.muf_frame.specs.inner.Shown.{flat}
use Rattle.spec_processes.specs.ProcessRows.{mode_set}
use Rattle.prim_proc.specs.inner.Plans.{Plans}
use Rattle.prim_proc.proofs.Taking.{set_mode_at}
use Rattle.prim_proc.proofs.rows.set_mode.Goals as goal

pub returns : goal.returns
returns c = λ x a w q.
    let n = to_z w32 (of_z w32 c.in-Some.n) in
    let seen : int_at 0 (flat c.args.frame.now).stack ≡ Some n = search rules in
    subst (λ e. Plans e x w q c.mode_set.result) (sym (set_mode_at x a c.args.own.now w q (flat c.args.frame.now).stack n seen ∙ ap (λ m. mode_set m x c.args.own.now w q) (sym c.mode_numbered.ensures)))
    (c.mode_set.ensures x w q)
