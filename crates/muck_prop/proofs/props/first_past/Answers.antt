use Rattle.std.proofs.Common.{◌≡◌, suc, ◌+◌, length, take, ap, sym, ◌∙◌, arith, false}
use Rattle.std.specs.Prelude.{Some}
use Rattle.std.specs.List.{find}
use Rattle.std.specs.Map.{keys_of}
use Rattle.std.specs.Option.{option_copied}
use Rattle.std.specs.Ordering.{is_lt}
use Rattle.std.specs.FinMap.{from_entries}
use Rattle.std.specs.BTreeMap.Range.{is_from_start}
use Rattle.std.specs.declared.ops.Bound.TheVariants.{Included}
use Rattle.std.specs.declared.cmp.Ordering.TheVariants.{Less}
use Rattle.muck_laws.proofs.Orders.{is_less}
use Rattle.muck_prop.specs.Order.{path_cmp, past}
use Rattle.muck_prop.specs.Store.{next_child, found_child}
use Rattle.muck_prop.proofs.First.{next_from_past, next_from_before, next_from_start}
use Rattle.muck_prop.proofs.props.first_past.Goals as goal
use Rattle.muck_prop.proofs.props.first_past.Goals.{in_default-via-in-Some+else-is_lt, in_default-via-in_default}

pub returns-in_ok-past-in-Some-clause-leads : goal.returns-in_ok-past-in-Some-clause-leads
returns-in_ok-past-in-Some-clause-leads c =
    let dir = c.args.dir.now in
    let es = c.args.values.now.entries in
    let after = c.after.inside.segments in
    let high : path_cmp dir after ≡ Less = is_less _ (ap is_lt (sym c.cmp.ensures) ∙ sym c.is_lt.ensures ∙ c.if-is_lt.true) in
    let deep : c.len.result + 1 ≡ suc (length dir) = omega arith in
    let start = c.in_ok-past-in-Some.ensures ∙ ap (λ n. past (take n after)) deep in
    let told : option_copied c.args.after ≡ Some after = ap option_copied c.in-Some.is ∙ ap Some (sym c.after.view_is) in
    ap (found_child dir) (c.first_from.ensures.first ∙ ap (λ s. find (is_from_start path_cmp (Included s)) (keys_of es)) start)
    ∙ sym (next_from_past dir after es high c.first_from.ensures.ordered)
    ∙ ap (λ o. next_child dir o (from_entries es)) (sym told)

pub returns-in_default-clause-leads : goal.returns-in_default-clause-leads
returns-in_default-clause-leads c =
    let dir = c.args.dir.now in
    let es = c.args.values.now.entries in
    let first = ap (found_child dir) c.first_from-in_default.ensures.first in
    let sorted = c.first_from-in_default.ensures.ordered in
    elim c.in_default.branch [
      | in_default-via-in-Some+else-is_lt w ↦
          let low : is_lt (path_cmp dir w.after.inside.segments) ≡ false = ap is_lt (sym w.cmp.ensures) ∙ sym w.is_lt.ensures ∙ w.if-is_lt.false in
          let told : option_copied c.args.after ≡ Some w.after.inside.segments = ap option_copied w.in-Some.is ∙ ap Some (sym w.after.view_is) in
          first ∙ sym (next_from_before dir w.after.inside.segments es low sorted) ∙ ap (λ o. next_child dir o (from_entries es)) (sym told)
      | in_default-via-in_default w ↦
          first ∙ sym (next_from_start dir es sorted) ∙ ap (λ o. next_child dir (option_copied o) (from_entries es)) (sym w.in_default.is)
    ]
