use Rattle.std.proofs.Common.{◌≡◌, ◌<◌, ap, sym, refl, ◌∙◌, length, map, Some, None, arith, rules}
use Rattle.std.specs.Prelude.{slice_get}
use Rattle.std.proofs.lemmas.List.{length-map}
use Rattle.std.proofs.lemmas.Option.{slice_get_read, slice_get_past}
use Rattle.muf_model.specs.Source.{with_owned, zeros, fitted, variables_owned_by}
use Rattle.muf_frame.specs.inner.Shown.{flat_owned}
use Rattle.muf_frame.specs.inner.Owners.{owner_place, owned_values}
use Rattle.muf_frame.proofs.Data.{fitted_none}
use Rattle.muf_frame.proofs.Owners.{owned_read, owned_found, owned_kept, add_owner}
use Rattle.muf_frame.proofs.words.own.Goals as goal

pub returns-then-place-len : goal.returns-then-place-len
returns-then-place-len c =
    let os = c.args.owned.now.items in
    let n : c.len.result ≡ length c.args.owned.now.items = c.len.ensures ∙ sym c.deref.ensures.len ∙ ap length c.deref.ensures.value in
    let l : c.owner_place-place.result < c.len.result = search (rules, c.if-place-len.true) in
    let s : slice_get os c.owner_place-place.result ≡ Some c.index_mut.result.now = slice_get_read os c.len.result c.owner_place-place.result c.index_mut.result.now n l c.index_mut.ensures.value in
    let e : c.owner_place-place.result ≡ owner_place c.args.program.0 (map flat_owned os) = c.owner_place-place.ensures.value ∙ ap (λ xs. owner_place c.args.program.0 (map flat_owned xs)) c.deref.ensures.value in
    owned_kept c.args.program.0 os c.owner_place-place.result c.index_mut.result.now (record { program = c.index_mut.result.now.program; values = c.fit.new.values }) e s refl
    ∙ ap (λ vs. with_owned c.args.program.0 vs (map flat_owned os)) (c.in_ok-fit.ensures ∙ ap (fitted c.args.count) (sym (owned_found c.args.program.0 os c.owner_place-place.result c.index_mut.result.now e s)))

pub returns : goal.returns
returns c =
    let os = c.args.owned.now.items in
    let n : c.len.result ≡ length c.args.owned.now.items = c.len.ensures ∙ sym c.deref.ensures.len ∙ ap length c.deref.ensures.value in
    let e : c.owner_place-place.result ≡ owner_place c.args.program.0 (map flat_owned os) = c.owner_place-place.ensures.value ∙ ap (λ xs. owner_place c.args.program.0 (map flat_owned xs)) c.deref.ensures.value in
    let p : c.owner_place-place.result ≡ c.len.result = search (rules, c.if-place-len.false, n, c.owner_place-place.ensures.most, c.deref.ensures.value) in
    let q : slice_get os c.owner_place-place.result ≡ None = slice_get_past os c.owner_place-place.result (omega (arith, p, n)) in
    let z : variables_owned_by c.args.program.0 (map flat_owned os) ≡ zeros 0 = owned_read c.args.program.0 os ∙ ap owned_values (ap (slice_get os) (sym e) ∙ q) in
    c.in_ok-add_owned.ensures
    ∙ sym (add_owner c.args.program.0 (zeros c.args.count) (map flat_owned os) (sym e ∙ p ∙ n ∙ sym (length-map os flat_owned)))
    ∙ ap (λ vs. with_owned c.args.program.0 vs (map flat_owned os)) (sym (ap (fitted c.args.count) z ∙ fitted_none c.args.count))
