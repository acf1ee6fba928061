use Rattle.std.proofs.Common.{◌≡◌, List, ℕ, true, false, None, Some, Err, rules, ap, ◌∙◌, subst}
use Rattle.std.specs.Prelude.{is_some}
use Rattle.muck_prop.specs.declared.value.PropValue.TheVariants.{Text}
use Rattle.spec_live.specs.Objects.{object_at}
use Rattle.spec_live.specs.Setting.{every_number, checked}
use Rattle.spec_live.specs.Lives.{Change}
use Rattle.spec_rights.specs.declared.act.Act.TheVariants.{Write}
use Rattle.spec_rights.specs.Verdict.{verdict}
use Rattle.spec_rights.specs.Changing.{property_stored}
use Rattle.muck_perm.specs.inner.Guards.{objects_of, Tries}
use Rattle.spec_mpi.specs.Doing.{path_written}
use Rattle.muck_mpi.specs.inner.Seeing.{stage_of}
use Rattle.muck_mpi.proofs.Steps.{same_self, not_there, path_refused, denied_at, allowed_at, copied_none, copied_some, tried_there}
use Rattle.muck_mpi.proofs.deeds.store.Goals as goal

pub returns-then-is_none : goal.returns-then-is_none
returns-then-is_none c =
    let g = c.args.guard.now in
    let d = c.args.object in
    let f : List (List ℕ) → Change = λ p. property_stored d p (Text c.args.text.now) in
    let gone : is_some c.get.result ≡ false = search rules in
    (not_there d c.args.path.now f (stage_of g) (copied_none c.get.result (object_at d (objects_of g)) gone (c.get.ensures.object ∙ ap (object_at d) c.db.ensures)), same_self g)

pub returns-in_err-path : goal.returns-in_err-path
returns-in_err-path c =
    let g = c.args.guard.now in
    let d = c.args.object in
    let f : List (List ℕ) → Change = λ p. property_stored d p (Text c.args.text.now) in
    let there : is_some c.get.result ≡ true = search rules in
    let o = copied_some c.get.result (object_at d (objects_of g)) there (c.get.ensures.object ∙ ap (object_at d) c.db.ensures) in
    let back : c.from_residual.result ≡ Err c.in_err-path.field-0.0 = search rules in
    rw back (path_refused d c.args.path.now f (stage_of g) o.0 c.in_err-path.field-0.0 o.1 c.in_err-path.ensures, same_self g)

pub returns-in-Ok : goal.returns-in-Ok
returns-in-Ok c =
    let g = c.args.guard.now in
    let d = c.args.object in
    let f : List (List ℕ) → Change = λ p. property_stored d p (Text c.args.text.now) in
    let there : is_some c.get.result ≡ true = search rules in
    let o = copied_some c.get.result (object_at d (objects_of g)) there (c.get.ensures.object ∙ ap (object_at d) c.db.ensures) in
    let p = c.in_ok-path.path in
    let leave : verdict (objects_of g) g.actor (Write d p) ≡ None = search rules in
    let is = allowed_at d c.args.path.now f (stage_of g) o.0 p o.1 c.in_ok-path.ensures leave in
    let kept : Tries (property_stored d p (Text c.args.text.now)) (checked every_number d (objects_of g)) g c.store.new.self c.store.result = subst (λ (t : List ℕ). Tries (property_stored d p (Text t)) (checked every_number d (objects_of g)) g c.store.new.self c.store.result) c.in_ok-copy.ensures c.store.ensures in
    tried_there d o.0 (path_written d c.args.path.now f (stage_of g)) (f p) g c.store.new.self c.store.result c.written.result o.1 is kept c.written.ensures

pub returns-in-Err : goal.returns-in-Err
returns-in-Err c =
    let g = c.args.guard.now in
    let d = c.args.object in
    let f : List (List ℕ) → Change = λ p. property_stored d p (Text c.args.text.now) in
    let there : is_some c.get.result ≡ true = search rules in
    let o = copied_some c.get.result (object_at d (objects_of g)) there (c.get.ensures.object ∙ ap (object_at d) c.db.ensures) in
    let p = c.in_ok-path.path in
    let refused : verdict (objects_of g) g.actor (Write d p) ≡ Some c.in-Err.denial = search rules in
    (denied_at d c.args.path.now f (stage_of g) o.0 p c.in-Err.denial o.1 c.in_ok-path.ensures refused, same_self g)
