use Rattle.std.proofs.Common.{◌≡◌, ◌∙◌, ◌+◌, suc, length, take, ap, sym, subst, arith}
use Rattle.std.specs.Prelude.{IfSome}
use Rattle.muck_prop.specs.Paths.{IsPath}
use Rattle.muck_prop.proofs.First.{child_is_path}
use Rattle.muck_prop.proofs.props.Props.search.Goals as goal

pub invariant_of-result : goal.invariant_of-result
invariant_of-result c =
    let first = c.in-Some-2.first.now in
    let kept = subst (λ found. IfSome found (λ path. IsPath path.now)) c.in-Some-2.is (c.in_ok-first.ensures.kept c.self.invariant) in
    let deep : c.len-depth.result + 1 ≡ suc (length c.match-dir.dir.now) = omega arith in
    let is = c.in_ok-segments-in-Some-2.ensures ∙ ap (λ n. take n first) deep in
    subst IsPath (sym is) (child_is_path c.match-dir.dir.now first kept)
