use Rattle.std.proofs.Common.{◌∙◌}
use Rattle.std.specs.Arc.{arc_value}
use Rattle.muf_model.proofs.Truth.{list_true, dict_true}
use Rattle.muf_model.proofs.value.Value.is_true.Goals as goal

pub returns-in-Items : goal.returns-in-Items
returns-in-Items c =
    rw (c.is_empty-in-Items.ensures, c.in-Items.is) (list_true c.as_slice-in-Items.result.now (arc_value c.in-Items.list) (c.as_slice-in-Items.ensures.values ∙ c.deref.ensures))

pub returns-in-Dict : goal.returns-in-Dict
returns-in-Dict c =
    rw (c.is_empty-in-Dict.ensures, c.in-Dict.is) (dict_true c.as_slice-in-Dict.result.now (arc_value c.in-Dict.pairs) (c.as_slice-in-Dict.ensures.pairs ∙ c.deref-in-Dict.ensures))
