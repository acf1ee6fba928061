use Rattle.std.proofs.Common.{ap, sym, ◌∙◌}
use Rattle.muf_token.specs.inner.Layers.{mean_of}
use Rattle.muf_token.proofs.Layered.{told_lookup}
use Rattle.muf_token.proofs.layers.Layers.get.Goals as goal

pub returns-in-Some : goal.returns-in-Some
returns-in-Some c =
    let m = c.args.self.now in
    c.meaning.ensures ∙ ap (mean_of m.stamps.entries) c.in-Some.ensures.value ∙ sym (told_lookup m.stamps.entries m.names.entries c.args.name.now c.len-count.ensures.unique)

pub returns-in-None : goal.returns-in-None
returns-in-None c =
    let m = c.args.self.now in
    ap (mean_of m.stamps.entries) c.in-None.ensures.value ∙ sym (told_lookup m.stamps.entries m.names.entries c.args.name.now c.len-count.ensures.unique)
