use Rattle.std.proofs.Common.{sym, ◌∙◌}
use Rattle.std.proofs.lemmas.Bool.{false≢true}
use Rattle.muck_db.specs.inner.Slots.{entries_of}
use Rattle.muck_db.proofs.Keeping.{is_stored}
use Rattle.muck_db.proofs.kept.is_stored.Goals as goal
use Rattle.muck_db.proofs.kept.is_stored.Goals.{then-has_fields, else-has_fields}

pub returns-then-has_links : goal.returns-then-has_links
returns-then-has_links c = λ same.
    elim c.if-has_fields.branch [
      | then-has_fields w ↦
          is_stored (entries_of c.args.slots.now.items) c.args.k c.args.object.now c.args.record.now c.requires.object
          (c.has_fields.ensures w.if-has_fields.true) (w.has_links.ensures (sym w.value-is ∙ c.if-has_links.true)) (c.has_texts.ensures same)
      | else-has_fields w ↦ absurd (false≢true (sym w.if-has_fields.false ∙ sym w.value-is ∙ c.if-has_links.true))
    ]
