use Rattle.std.proofs.Common.{◌≡◌, ◌<◌, ◌∷◌, reverse, Some, sym, ap, subst, ◌∙◌}
use Rattle.std.specs.Prelude.{slice_get}
use Rattle.std.specs.Option.{option_map}
use Rattle.std.proofs.lemmas.List.{reverse-append}
use Rattle.muf_model.specs.inner.Decode.{tree_of}
use Rattle.muf_model.specs.inner.Flat.{decode}
use Rattle.muf_model.specs.Source.{calls_running, program_entered}
use Rattle.muf_frame.specs.inner.Shown.{Shown, flat, calls_by}
use Rattle.muf_frame.specs.inner.Moves as moves
use Rattle.muf_run.proofs.Lockstep.{calls_fits}
use Rattle.muf_running.specs.Begins.{StartsAt}
use Rattle.muf_running.specs.inner.Fitting.{codes_of, program_with, ProgramsFit}
use Rattle.muf_running.proofs.Process.{call_at}
use Rattle.muf_running.proofs.running.Running.call.Goals as goal

pub enter-requires : goal.enter-requires
enter-requires c =
    subst (λ n. n < 511) (sym (ap (λ (x : Shown). calls_by (flat x).marks) c.get_mut-lent.ensures.value ∙ calls_fits c.self.invariant.0.state ∙ ap (λ s. calls_running s.marks) c.self.view_is)) c.requires.calls

pub invariant_of-result : goal.invariant_of-result
invariant_of-result c =
    let grown : reverse c.push.new.self.items ≡ record { program = c.args.program; code = c.args.code } ∷ reverse c.self.inside.programs.items = ap reverse c.in_ok-push.ensures.items ∙ reverse-append c.self.inside.programs.items _ in
    let entering = c.in_ok-enter.ensures ∙ ap (λ (x : Shown). moves.entered c.args.program.0 c.start_of-start.result.owned c.start_of-start.result.place c.start_of-start.result.variables (flat x)) c.get_mut-lent.ensures.value in
    let r = call_at (reverse c.self.inside.programs.items) (flat c.self.inside.frame) (flat c.enter.new.self) c.args.program c.args.code c.args.word c.start_of-start.result c.self.invariant c.requires.stands (subst (λ x. StartsAt x c.args.word c.start_of-start.result) c.get.ensures c.start_of-start.ensures) entering in
    subst (λ es. ProgramsFit es (flat c.enter.new.self)) (sym grown) r.0

pub returns : goal.returns
returns c =
    let grown : reverse c.push.new.self.items ≡ record { program = c.args.program; code = c.args.code } ∷ reverse c.self.inside.programs.items = ap reverse c.in_ok-push.ensures.items ∙ reverse-append c.self.inside.programs.items _ in
    let entering = c.in_ok-enter.ensures ∙ ap (λ (x : Shown). moves.entered c.args.program.0 c.start_of-start.result.owned c.start_of-start.result.place c.start_of-start.result.variables (flat x)) c.get_mut-lent.ensures.value in
    let r = call_at (reverse c.self.inside.programs.items) (flat c.self.inside.frame) (flat c.enter.new.self) c.args.program c.args.code c.args.word c.start_of-start.result c.self.invariant c.requires.stands (subst (λ x. StartsAt x c.args.word c.start_of-start.result) c.get.ensures c.start_of-start.ensures) entering in
    ap (λ s. option_map (λ d. program_entered (program_with c.args.program c.args.code) d s) (slice_get (tree_of c.args.code).words c.args.word)) (sym c.self.view_is) ∙ r.1 ∙ ap (λ es. Some (decode (codes_of es) (flat c.enter.new.self))) (sym grown)
