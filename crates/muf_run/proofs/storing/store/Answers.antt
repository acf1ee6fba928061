use Rattle.std.proofs.Common.{◌≡◌, true, ap, sym, ◌∙◌, subst, map}
use Rattle.std.specs.Prelude.{pos}
use Rattle.muf_model.specs.inner.View.{view}
use Rattle.muf_model.specs.Datum.{int}
use Rattle.muf_frame.specs.inner.Shown.{flat}
use Rattle.muf_run.specs.inner.Storing.{Stored}
use Rattle.muf_run.proofs.Overwritten.{still_fine, never_bare, there_still, stores_made}
use Rattle.muf_run.proofs.storing.store.Goals as goal

pub change-requires : goal.change-requires
change-requires c =
    let v = c.args.storing.variable.0 in
    let found : c.set_variable-let_go.result ≡ true = c.set_variable-let_go.ensures.found 0 ∙ c.requires.there in
    still_fine c.args.storing.changer v (int (pos 0)) (flat c.args.frame.now) (flat c.set_variable-let_go.new.self) c.requires.fine (c.set_variable-let_go.ensures.yes found)

pub unreachable-requires : goal.unreachable-requires
unreachable-requires c =
    let v = c.args.storing.variable.0 in
    let found : c.set_variable-let_go.result ≡ true = c.set_variable-let_go.ensures.found 0 ∙ c.requires.there in
    let ready = still_fine c.args.storing.changer v (int (pos 0)) (flat c.args.frame.now) (flat c.set_variable-let_go.new.self) c.requires.fine (c.set_variable-let_go.ensures.yes found) in
    never_bare c.args.storing.changer (flat c.set_variable-let_go.new.self) (flat c.change.new.frame) ready c.in_ok-change.ensures (ap (map view) c.in-None.ensures.none)

pub returns : goal.returns
returns c =
    let v = c.args.storing.variable.0 in
    let found : c.set_variable-let_go.result ≡ true = c.set_variable-let_go.ensures.found 0 ∙ c.requires.there in
    let apart = c.set_variable-let_go.ensures.yes found in
    let off = ap flat c.in-Some.ensures.some in
    let there = there_still v (int (pos 0)) (flat c.args.frame.now) (flat c.set_variable-let_go.new.self) (flat c.change.new.frame) (flat c.pop_item.new.self) (view c.in-Some.item) c.args.storing.changer c.requires.fine apart c.in_ok-change.ensures off c.requires.there in
    let kept = c.set_variable-stored.ensures.yes (c.set_variable-stored.ensures.found 0 ∙ there) in
    subst (λ g. Stored c.args.storing.changer v c.args.next (flat c.args.frame.now) (flat g)) (sym c.go_to.ensures) (stores_made c.args.storing.changer v c.args.next (int (pos 0)) (view c.in-Some.item) (flat c.args.frame.now) (flat c.set_variable-let_go.new.self) (flat c.change.new.frame) (flat c.pop_item.new.self) (flat c.set_variable-stored.new.self) c.requires.fine apart c.in_ok-change.ensures off kept)
