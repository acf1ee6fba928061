use Rattle.std.proofs.Common.{◌+◌, ◌≤◌, length, map, subst, arith}
use Rattle.std.proofs.lemmas.List.{length-map}
use Rattle.muf_model.specs.inner.View.{view}
use Rattle.muf_frame.specs.inner.Shown.{flat}
use Rattle.muf_run.specs.inner.Storing.{Stores, Stored}
use Rattle.muf_run.proofs.Overwritten.{stored_leads}
use Rattle.muf_run.proofs.storing.store_changed.Goals as goal

pub returns-clause-yes : goal.returns-clause-yes
returns-clause-yes c t =
    let here = c.place-place.ensures in
    let words : Stores c.args.code.now c.args.frame.now.place c.in-Some.storing.changer c.in-Some.storing.variable = subst (λ n. Stores c.args.code.now n c.in-Some.storing.changer c.in-Some.storing.variable) here c.in-Some.ensures.stores in
    let full : length (map view c.args.frame.now.stack) ≤ 1024 = omega (arith, length-map c.args.frame.now.stack view, c.len-height.ensures.value, c.len-height.ensures.most) in
    let done : Stored c.in-Some.storing.changer c.in-Some.storing.variable.0 (c.args.frame.now.place + 3) (flat c.args.frame.now) (flat c.store.new.frame) = subst (λ n. Stored c.in-Some.storing.changer c.in-Some.storing.variable.0 (n + 3) (flat c.args.frame.now) (flat c.store.new.frame)) here c.in_ok-store.ensures in
    stored_leads c.args.code.now c.in-Some.storing.changer c.in-Some.storing.variable (flat c.args.frame.now) (flat c.store.new.frame) words full (c.if-not-holds_many.ensures t) done
