use Rattle.std.proofs.Common.{◌<◌, [], ◌∷◌, ◌++◌, length, map, sym, ◌∙◌, ap, arith, append_assoc, append-nil}
use Rattle.std.proofs.lemmas.Bool.{eqb-true, eqb-false}
use Rattle.spec_commands.specs.Replies.{contents_head}
use Rattle.muck_looking.specs.Looks.{form_line, under_head}
use Rattle.muck_looking.proofs.Contents.{nothing_under, some_under}
use Rattle.muck_looking.proofs.looking.add_contents.Goals as goal

pub returns-then-is_empty : goal.returns-then-is_empty
returns-then-is_empty c =
    let none = nothing_under c.args.db.now c.as_slice-shown.result.now (eqb-true _ 0 (sym c.is_empty.ensures ∙ c.if-is_empty.true)) in
    let is = c.as_slice-shown.ensures.value ∙ c.in_ok-open.ensures in
    sym (append-nil c.args.lines.now.items) ∙ ap (λ ls. c.args.lines.now.items ++ ls) (sym none ∙ ap (λ xs. under_head (map (form_line c.args.db.now) xs)) is)

pub returns : goal.returns
unfolding contents_head
returns c =
    let old = c.args.lines.now.items in
    let shown = c.as_slice-shown.result.now in
    let forms = map (form_line c.args.db.now) shown in
    let some : 0 < length shown = omega (arith, eqb-false _ 0 (sym c.is_empty.ensures ∙ c.if-is_empty.false)) in
    c.in_ok-add_forms.ensures
    ∙ ap (λ ls. ls ++ forms) c.in_ok-push.ensures.items
    ∙ append_assoc old (c.in_ok-head.head ∷ []) forms
    ∙ ap (λ l. old ++ l ∷ forms) c.in_ok-head.ensures
    ∙ ap (λ ls. old ++ ls) (sym (some_under c.args.db.now shown some))
    ∙ ap (λ xs. old ++ under_head (map (form_line c.args.db.now) xs)) (c.as_slice-shown.ensures.value ∙ c.in_ok-open.ensures)
