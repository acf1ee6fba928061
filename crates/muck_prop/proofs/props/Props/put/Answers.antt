use Rattle.std.proofs.Common.{ap, sym, subst, ◌∙◌}
use Rattle.std.specs.Prelude.{if◌then◌else◌}
use Rattle.std.specs.List.{AllByRecursion}
use Rattle.std.specs.FinMap.{get, insert, remove}
use Rattle.muck_laws.proofs.Results.{on_err_given}
use Rattle.muck_prop.specs.Store.{IsKept}
use Rattle.muck_prop.proofs.Maps.{get_is, inserted, kept_inserted}
use Rattle.muck_prop.proofs.props.Props.put.Goals as goal

pub returns-in_err-put_at-clause-only_new : goal.returns-in_err-put_at-clause-only_new
returns-in_err-put_at-clause-only_new c =
    on_err_given _ _ ((λ i. get (sym c.self.view_is i) (sym c.path.view_is i)) ∙ get_is c.path.inside.segments c.self.inside.values.entries ∙ c.in_err-put_at.ensures.absent)

pub invariant_of-self-2 : goal.invariant_of-self-2
invariant_of-self-2 c = c.put_at.ensures.kept c.self.invariant (record { path = c.path.invariant; value = sym c.is_nothing.ensures ∙ c.if-is_nothing.false })

pub returns-clause-ok : goal.returns-clause-ok
returns-clause-ok c =
    inserted c.path.inside.segments c.args.value c.self.inside.values.entries c.put_at.new.values.entries c.in_ok-put_at.ensures.updates
    ∙ (λ i. insert (c.self.view_is i) (c.path.view_is i) c.args.value)
    ∙ ap (λ b. if b then remove c.args.self.now c.args.path else insert c.args.self.now c.args.path c.args.value) (sym c.if-is_nothing.false ∙ c.is_nothing.ensures)
