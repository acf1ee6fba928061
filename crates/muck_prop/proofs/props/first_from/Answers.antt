use Rattle.std.proofs.Common.{rules, ◌≡◌, ◌∙◌, List, ℕ}
use Rattle.std.specs.Prelude.{Some, None, slice_get}
use Rattle.std.specs.Range.Bound.{bound_map}
use Rattle.std.specs.Map.{keys_of}
use Rattle.std.specs.BTreeMap.Range.{entries_between}
use Rattle.std.specs.declared.ops.Bound.{Bound}
use Rattle.std.specs.declared.ops.Bound.TheVariants.{Unbounded}
use Rattle.muck_prop.specs.Order.{path_cmp}
use Rattle.muck_prop.proofs.Maps.{first_start}
use Rattle.muck_prop.proofs.props.first_from.Goals as goal

pub returns-in-Some-clause-first : goal.returns-in-Some-clause-first
returns-in-Some-clause-first c =
    let start : Bound (List (List ℕ)) = bound_map (λ x. x.now) c.args.start in
    let raw : Some c.in-Some.path.now ≡ slice_get (keys_of (entries_between path_cmp start Unbounded c.args.values.now.entries)) 0 = search rules in
    raw ∙ first_start start c.args.values.now.entries

pub returns-in-None-clause-first : goal.returns-in-None-clause-first
returns-in-None-clause-first c =
    let start : Bound (List (List ℕ)) = bound_map (λ x. x.now) c.args.start in
    let raw : None ≡ slice_get (keys_of (entries_between path_cmp start Unbounded c.args.values.now.entries)) 0 = search rules in
    raw ∙ first_start start c.args.values.now.entries
