use Rattle.std.proofs.Common.{◌≡◌, ◌+◌, ◌-◌, ◌≤◌, ◌++◌, length, take, drop, refl, sym, ap, ◌∙◌, arith, length-drop}
use Rattle.std.specs.Prelude.{vec_len, reverse}
use Rattle.std.proofs.lemmas.List.{length-reverse}
use Rattle.muf_frame.proofs.Binding.{bound_stack, bound_variables}
use Rattle.muf_frame.proofs.frame.Frame.bind.Goals as goal

pub returns : goal.returns
returns c =
    let e : c.len.result ≡ length (reverse c.self.inside.stack.items) = c.len.ensures.value ∙ ap (λ s. length s.stack) (sym c.self.view_is) in
    let h : c.args.count ≤ c.len.result = omega (arith, c.requires, c.len.ensures.value) in
    let n : vec_len c.in_ok-arguments.arguments ≡ c.args.count = omega (arith, h, e, length-reverse c.self.inside.stack.items, length-drop (c.len.result - c.args.count) c.self.inside.stack.items, ap length c.in_ok-arguments.ensures.tail) in
    let v : c.put_from.new.values.items ≡ take c.self.inside.base c.self.inside.variables.items ++ (drop (c.len.result - c.args.count) c.self.inside.stack.items ++ drop (c.self.inside.base + c.args.count) c.self.inside.variables.items) =
    c.in_ok-put_from.ensures
    ∙ ap (λ a. take c.self.inside.base c.self.inside.variables.items ++ (a ++ drop (c.self.inside.base + vec_len c.in_ok-arguments.arguments) c.self.inside.variables.items)) c.in_ok-arguments.ensures.tail
    ∙ ap (λ k. take c.self.inside.base c.self.inside.variables.items ++ (drop (c.len.result - c.args.count) c.self.inside.stack.items ++ drop (c.self.inside.base + k) c.self.inside.variables.items)) n in
    rw (v, c.in_ok-arguments.ensures.items, ← c.self.view_is, bound_stack c.args.count c.len.result c.self.inside.stack.items e h, bound_variables c.args.count c.len.result c.self.inside.base c.self.inside.stack.items c.self.inside.variables.items e h) refl
