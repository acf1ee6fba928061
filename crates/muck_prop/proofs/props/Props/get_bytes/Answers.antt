use Rattle.std.proofs.Common.{sym, ◌∙◌, ◌≡◌, None, subst}
use Rattle.std.specs.Option.{option_map_or}
use Rattle.std.specs.Map.{lookup}
use Rattle.std.specs.FinMap.{get}
use Rattle.muck_prop.specs.Order.{path_eq}
use Rattle.muck_prop.specs.Paths.{segments_of, path_fault}
use Rattle.muck_prop.specs.Store.{PropMap}
use Rattle.muck_prop.proofs.Parts.{at_text, at_barred}
use Rattle.muck_prop.proofs.props.Props.get_bytes.Goals as goal

pub returns-then-has_barred : goal.returns-then-has_barred
returns-then-has_barred c = at_barred c.args.text.now _ (sym c.has_barred.ensures ∙ c.if-has_barred.true)

pub returns : goal.returns
returns c =
    let M : PropMap → Type 0 = λ m. lookup (λ path. path_eq path (segments_of c.args.text.now)) c.self.inside.values.entries ≡ option_map_or (λ fault. None) (path_fault c.args.text.now) (get m (segments_of c.args.text.now)) in
    c.found_at.ensures ∙ subst M c.self.view_is (at_text c.args.text.now c.self.inside.values.entries c.self.invariant (sym c.has_barred.ensures ∙ c.if-has_barred.false))
