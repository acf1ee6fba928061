use Rattle.std.proofs.Common.{◌≡◌, ◌++◌, ◌∙◌, ap, sym, subst, None, map}
use Rattle.muck_model.specs.Bytes.{text_fault}
use Rattle.muf_model.specs.inner.View.{view}
use Rattle.muf_debug.specs.Printed.{head_text, values_text, scope_text, top_of}
use Rattle.muf_debug.specs.inner.Printing.{AreInside}
use Rattle.muf_debug.proofs.Inside.{line_cut, line_is_text}
use Rattle.muf_debug.proofs.printing.print_view.Goals as goal

pub of_text_vec-requires : goal.of_text_vec-requires
of_text_vec-requires c =
    let head : c.in_ok-bytes.bytes.items ≡ head_text c.args.view.now = c.in_ok-bytes.ensures.text in
    let top : map view c.top_of.result.now ≡ top_of c.args.view.now.stack = c.top_of.ensures ∙ ap top_of c.as_slice.ensures in
    subst (λ bytes. text_fault bytes ≡ None)
    (sym (line_cut c.args.view.now c.in_ok-bytes.bytes.items c.push_values.new.bytes.items c.push_scope.new.bytes.items c.truncate.new.self.items head
    (c.in_ok-push_values.ensures.ok ∙ ap (λ ds. c.in_ok-bytes.bytes.items ++ values_text ds) top)
    (c.in_ok-push_scope.ensures.ok ∙ ap (λ ds. c.push_values.new.bytes.items ++ scope_text ds) c.as_slice-2.ensures) c.truncate.ensures.items))
    (line_is_text c.args.view.now (subst AreInside head c.in_ok-bytes.ensures.inside) (subst (λ ds. AreInside (values_text ds)) top c.in_ok-push_values.ensures.inside)
    (subst (λ ds. AreInside (scope_text ds)) c.as_slice-2.ensures c.in_ok-push_scope.ensures.inside))

pub returns : goal.returns
returns c =
    let head : c.in_ok-bytes.bytes.items ≡ head_text c.args.view.now = c.in_ok-bytes.ensures.text in
    let top : map view c.top_of.result.now ≡ top_of c.args.view.now.stack = c.top_of.ensures ∙ ap top_of c.as_slice.ensures in
    c.of_text_vec.ensures
    ∙ line_cut c.args.view.now c.in_ok-bytes.bytes.items c.push_values.new.bytes.items c.push_scope.new.bytes.items c.truncate.new.self.items head
    (c.in_ok-push_values.ensures.ok ∙ ap (λ ds. c.in_ok-bytes.bytes.items ++ values_text ds) top)
    (c.in_ok-push_scope.ensures.ok ∙ ap (λ ds. c.push_values.new.bytes.items ++ scope_text ds) c.as_slice-2.ensures) c.truncate.ensures.items
