use Rattle.std.proofs.Common.{rules, ◌≡◌, ◌+◌, ◌++◌, [], ◌∷◌, Some, None, ◌∙◌, arith}
use Rattle.muf_frame.specs.inner.Answers.{object_at}
use Rattle.muf_frame.specs.inner.Shown.{flat}
use Rattle.prim_talk.proofs.Excluding.{gathered, passed_by}
use Rattle.prim_talk.proofs.items.excluded.Goals.{in-Some+in_ok-push, in_default}
use Rattle.prim_talk.proofs.items.excluded.Goals as goal

pub loop-at-preserved : goal.loop-at-preserved
loop-at-preserved c =
    let stack = (flat c.args.frame.now).stack in (
      omega (arith, c.loop-at-test.true),
      elim c.match-object_at.branch [
        | in-Some+in_ok-push w ↦
            let seen : object_at (2 + c.loop-at.at) stack ≡ Some w.in-Some.object.0 = search rules in
            let pushed : c.match-object_at.objects.items ≡ c.loop-at.objects.items ++ w.in-Some.object ∷ [] = search rules in
            pushed ∙ gathered c.loop-at.at stack w.in-Some.object c.loop-at.objects.items c.loop-at.invariant.1 seen
        | in_default w ↦
            let none : object_at (2 + c.loop-at.at) stack ≡ None = search rules in
            let same : c.match-object_at.objects.items ≡ c.loop-at.objects.items = search rules in
            same ∙ passed_by c.loop-at.at stack c.loop-at.objects.items c.loop-at.invariant.1 none
      ],
    )
