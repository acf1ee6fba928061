use Rattle.std.proofs.Common.{◌≡◌, [], ◌++◌, map, take, reverse, sym, ap, ◌∙◌, arith}
use Rattle.std.proofs.lemmas.List.{drop-map}
use Rattle.muck_laws.proofs.Turned.{kept_programs}
use Rattle.muf_running.specs.inner.Fitting.{numbers_of}
use Rattle.muf_running.proofs.entered.numbers_below.Goals as goal

pub loop-at-init : goal.loop-at-init
loop-at-init c =
    let row : map (λ d. d.0) c.in_ok-row.row ≡ [] = ap (map (λ d. d.0)) c.in_ok-row.ensures in
    (omega (arith, c.saturating_sub-at.ensures), ap (λ xs. xs ++ numbers_of (reverse (take c.saturating_sub-at.result c.args.programs.now))) row ∙ ap (λ n. numbers_of (reverse (take n c.args.programs.now))) c.saturating_sub-at.ensures ∙ ap numbers_of (kept_programs 1 c.args.programs.now) ∙ sym (drop-map (λ e. e.program.0) 1 (reverse c.args.programs.now)))
