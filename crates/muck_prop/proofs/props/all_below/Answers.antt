use Rattle.std.proofs.Common.{◌≡◌, rules, sym, subst, ◌∙◌, arith}
use Rattle.std.specs.BTreeMap.Range.{entries_between}
use Rattle.std.specs.declared.ops.Bound.TheVariants.{Excluded, Unbounded}
use Rattle.muck_prop.specs.Order.{path_cmp}
use Rattle.muck_prop.proofs.Listing.{IsListed, listing_begins, listing_goes, below_is_deeper}
use Rattle.muck_prop.proofs.props.all_below.Goals as goal

pub loop-path-init : goal.loop-path-init
loop-path-init c =
    let between : c.range-left.result ≡ entries_between path_cmp (Excluded c.args.dir.now) Unbounded c.args.values.now.entries = search rules in
    rw (between, c.in_ok-list.ensures) (listing_begins c.args.dir.now c.args.values.now.entries c.range-left.ensures.ordered c.requires.kept)

pub behind-requires-clause-deeper : goal.behind-requires-clause-deeper
behind-requires-clause-deeper c =
    let deeper = below_is_deeper c.args.dir.now c.in-Some.path.now (sym c.is_below.ensures ∙ c.if-not-is_below.false) in
    omega (arith, deeper, c.len-depth.ensures)

pub loop-path-preserved : goal.loop-path-preserved
loop-path-preserved c =
    let at = subst (λ left. IsListed c.args.dir.now c.args.values.now.entries left c.loop-path.list) c.in-Some.ensures.steps c.loop-path.invariant in
    let next = listing_goes c.args.dir.now c.args.values.now.entries (c.in-Some.path.now, c.in-Some.value.now) c.next.new.self c.loop-path.list (sym c.is_below.ensures ∙ c.if-not-is_below.false) at in
    rw (c.in_ok-push.ensures.ok, c.in_ok-behind.ensures, c.value.ensures, c.len-depth.ensures) next
