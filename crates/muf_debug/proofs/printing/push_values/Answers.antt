use Rattle.std.proofs.Common.{◌≡◌, ◌++◌, ◌∙◌, rules, ap, subst, arith}
use Rattle.std.specs.Prelude.{codes}
use Rattle.muf_debug.specs.inner.Printing.{AreInside}
use Rattle.muf_debug.proofs.Inside.{pushed_more, kept_inside}
use Rattle.muf_debug.proofs.printing.push_values.Goals as goal

pub loop-at-preserved : goal.loop-at-preserved
loop-at-preserved c =
    let space : c.extend_from_slice.new.self.items ≡ c.loop-at.bytes.items ++ codes " " = search rules in
    let whole : c.extend_from_slice-in-loop-at.new.self.items ≡ c.extend_from_slice.new.self.items ++ c.in_ok-text.text.items = search rules in
    record {
      within = omega (arith, c.loop-at-test.true);
      pushed = pushed_more c.args.bytes.now.items c.loop-at.bytes.items c.in_ok-text.text.items c.extend_from_slice-in-loop-at.new.self.items c.args.values.now c.loop-at.at c.index-values-at.result c.loop-at-test.true c.index-values-at.is c.loop-at.invariant.pushed c.in_ok-text.ensures.text
          (whole ∙ ap (λ bytes. bytes ++ c.in_ok-text.text.items) space);
      inside = kept_inside c.args.values.now c.loop-at.at c.index-values-at.result c.loop-at-test.true c.index-values-at.is c.loop-at.invariant.inside (subst AreInside c.in_ok-text.ensures.text c.in_ok-text.ensures.inside);
    }
