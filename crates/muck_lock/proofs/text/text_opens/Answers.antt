use Rattle.std.proofs.Common.{◌≡◌, ◌<◌, List, ℕ, true, sym, ◌∙◌, subst, length, refl, ap, arith}
use Rattle.muck_lock.specs.Opens.{holdings}
use Rattle.muck_lock.specs.Answers.{text_opens}
use Rattle.muck_lock.specs.inner.Answers.{whole_opens}
use Rattle.muck_lock.proofs.Texts.{text_empty, text_whole}
use Rattle.muck_lock.proofs.text.text_opens.Goals as goal

pub returns-then-count-eq0 : goal.returns-then-count-eq0
returns-then-count-eq0 g c =
    let w = holdings (g.K.Keys.owners c.args.keys.now) (g.K.Keys.places c.args.keys.now) (g.K.Keys.contents c.args.keys.now) (g.K.Keys.has c.args.keys.now) in
    let none : length c.as_slice-bytes.result.now ≡ 0 = grind (arith, c.if-count-eq0.true) in
    let P : List ℕ → Type 0 = λ text. true ≡ text_opens w c.args.x text in
    subst P c.as_slice-bytes.ensures.bytes (sym (text_empty w c.args.x c.as_slice-bytes.result.now (length c.as_slice-bytes.result.now) refl none))

pub returns : goal.returns
returns g c =
    let w = holdings (g.K.Keys.owners c.args.keys.now) (g.K.Keys.places c.args.keys.now) (g.K.Keys.contents c.args.keys.now) (g.K.Keys.has c.args.keys.now) in
    let some : 0 < length c.as_slice-bytes.result.now = grind (arith, c.if-count-eq0.false) in
    let P : List ℕ → Type 0 = λ text. c.whole.result ≡ text_opens w c.args.x text in
    subst P c.as_slice-bytes.ensures.bytes (c.whole.ensures ∙ ap whole_opens c.part_answer.ensures ∙ sym (text_whole w c.args.x c.as_slice-bytes.result.now (length c.as_slice-bytes.result.now) refl some))
