use Rattle.std.proofs.Common.{◌≡◌, ◌++◌, ◌∷◌, [], ◌∙◌, true, false, rules, ap}
use Rattle.std.specs.FinMap as map
use Rattle.muf_debug.specs.Printed.{view_printed}
use Rattle.muf_debug.specs.Shown.{Tracer, is_unit_shown, spot_of}
use Rattle.muf_debug.proofs.Noting.{noted_shown, noted_hidden}
use Rattle.muf_debug.proofs.tracer.Tracer.note.Goals as goal

pub returns-in_ok-push : goal.returns-in_ok-push
returns-in_ok-push c =
    let shown : is_unit_shown c.args.view.now.pid (spot_of c.args.view.now) c.args.self.now ≡ true = search (rules, c.is_shown-shown.ensures, c.if-shown.true) in
    let put : c.put.new.self ≡ map.insert c.self.inside.last c.args.view.now.pid (spot_of c.args.view.now) = search (rules, c.in_ok-put.ensures.ok) in
    ap (λ (t : Tracer). record t { last = c.put.new.self; kept = c.push.new.self.items }) c.self.view_is
    ∙ noted_shown c.args.view.now c.args.self.now c.put.new.self c.push.new.self.items shown
    (put ∙ ap (λ (t : Tracer). map.insert t.last c.args.view.now.pid (spot_of c.args.view.now)) c.self.view_is)
    (c.in_ok-push.ensures.items ∙ ap (λ line. c.self.inside.kept.items ++ line ∷ []) c.in_ok-print_view.ensures ∙ ap (λ (t : Tracer). t.kept ++ view_printed c.args.view.now ∷ []) c.self.view_is)

pub returns-else-shown : goal.returns-else-shown
returns-else-shown c =
    let hidden : is_unit_shown c.args.view.now.pid (spot_of c.args.view.now) c.args.self.now ≡ false = search (rules, c.is_shown-shown.ensures, c.if-shown.false) in
    let put : c.put.new.self ≡ map.insert c.self.inside.last c.args.view.now.pid (spot_of c.args.view.now) = search (rules, c.in_ok-put.ensures.ok) in
    ap (λ (t : Tracer). record t { last = c.put.new.self; kept = c.self.inside.kept.items }) c.self.view_is
    ∙ noted_hidden c.args.view.now c.args.self.now c.put.new.self c.self.inside.kept.items hidden
    (put ∙ ap (λ (t : Tracer). map.insert t.last c.args.view.now.pid (spot_of c.args.view.now)) c.self.view_is)
    (ap (λ (t : Tracer). t.kept) c.self.view_is)
