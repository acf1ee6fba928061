use Rattle.std.proofs.Common.{◌∙◌, ap}
use Rattle.std.specs.Prelude.{slice_set}
use Rattle.muck_laws.proofs.Places.{same_again}
use Rattle.muck_mirror.specs.declared.world.Replaced.{Replaced}
use Rattle.muck_mirror.specs.inner.Undoing.{undone}
use Rattle.muck_mirror.proofs.Undoing.{replaced_back}
use Rattle.muck_mirror.proofs.world.exchange.Goals as goal

pub returns-in-Ok-clause-back : goal.returns-in-Ok-clause-back
returns-in-Ok-clause-back c = λ count.
    replaced_back c.args.replaced.now.items c.push.new.self.items c.args.objects.now.items c.swapped-was.new.objects.items count c.args.at c.args.object c.swapped-was.result
    c.swapped-was.ensures.was c.swapped-was.ensures.set c.in-Ok.ensures.items

pub returns-in-Err-clause-same : goal.returns-in-Err-clause-same
returns-in-Err-clause-same c =
    c.swapped.ensures.set ∙ ap (λ (r : Replaced). slice_set c.swapped-was.new.objects.items c.args.at r.was) c.in-Err.ensures.value_returned
    ∙ same_again c.args.objects.now.items c.swapped-was.new.objects.items c.args.at c.args.object c.swapped-was.result c.swapped-was.ensures.was c.swapped-was.ensures.set

pub returns-in-Err-clause-back : goal.returns-in-Err-clause-back
returns-in-Err-clause-back c = λ count.
    ap (λ l. undone count l c.swapped.new.objects.items) c.in-Err.ensures.items
    ∙ ap (undone count c.args.replaced.now.items) (c.swapped.ensures.set ∙ ap (λ (r : Replaced). slice_set c.swapped-was.new.objects.items c.args.at r.was) c.in-Err.ensures.value_returned
    ∙ same_again c.args.objects.now.items c.swapped-was.new.objects.items c.args.at c.args.object c.swapped-was.result c.swapped-was.ensures.was c.swapped-was.ensures.set)
