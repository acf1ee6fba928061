use Rattle.std.proofs.Common.{ap, sym, ◌∙◌, ℕ, List}
use Rattle.std.specs.Prelude.{find, option_map}
use Rattle.std.specs.Str.{bytes_eq}
use Rattle.muck_laws.proofs.Tests.{found_row}
use Rattle.muf_compile.specs.declared.control.Control.{Control}
use Rattle.muf_compile.specs.Names.{word_row, control_of}
use Rattle.muf_compile.proofs.control.control_of.Goals as goal

pub returns-then-eq : goal.returns-then-eq
unfolding control_of
returns-then-eq c =
    let test = λ (r : List ℕ × Control). bytes_eq r.0 c.args.word.now in
    sym
    (ap (λ rows. option_map (λ r. r.1) (find test rows)) (sym c.words-row-items.ensures)
    ∙ ap (option_map (λ r. r.1)) (c.loop-row.invariant ∙ found_row test word_row c.words-row-items.result.now c.loop-row.row-index _ c.loop-row-test.true (sym c.eq.ensures ∙ c.if-eq.true)))
