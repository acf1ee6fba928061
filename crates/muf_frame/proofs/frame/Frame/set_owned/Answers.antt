use Rattle.std.proofs.Common.{◌≡◌, ◌<◌, ap, sym, refl, ◌∙◌, length, map, Some, None, rules, is_some}
use Rattle.std.specs.Prelude.{slice_get}
use Rattle.std.proofs.lemmas.Option.{slice_get_read, slice_get_past}
use Rattle.muf_frame.specs.inner.Shown.{flat_owned}
use Rattle.muf_frame.specs.inner.Owners.{owner_place}
use Rattle.muf_frame.proofs.Owners.{owned_read, owned_found, owned_kept}
use Rattle.muf_frame.proofs.frame.Frame.set_owned.Goals as goal

pub returns-then-place-len-clause-found : goal.returns-then-place-len-clause-found
returns-then-place-len-clause-found c =
    let n : c.len.result ≡ length c.self.inside.owned.items = c.len.ensures ∙ sym c.deref.ensures.len ∙ ap length c.deref.ensures.value in
    let l : c.owner_place-place.result < c.len.result = search (rules, c.if-place-len.true) in
    let s : slice_get c.self.inside.owned.items c.owner_place-place.result ≡ Some c.index_mut.result.now = slice_get_read c.self.inside.owned.items c.len.result c.owner_place-place.result c.index_mut.result.now n l c.index_mut.ensures.value in
    let e : c.owner_place-place.result ≡ owner_place c.self.inside.program.0 (map flat_owned c.self.inside.owned.items) = c.owner_place-place.ensures.value ∙ ap (λ xs. owner_place c.self.inside.program.0 (map flat_owned xs)) c.deref.ensures.value in
    rw (← c.self.view_is) (c.set_at.ensures.found ∙ ap (λ vs. is_some (slice_get vs c.args.at)) (sym (owned_found c.self.inside.program.0 c.self.inside.owned.items c.owner_place-place.result c.index_mut.result.now e s)))

pub returns-then-place-len-clause-yes : goal.returns-then-place-len-clause-yes
returns-then-place-len-clause-yes c _ =
    let n : c.len.result ≡ length c.self.inside.owned.items = c.len.ensures ∙ sym c.deref.ensures.len ∙ ap length c.deref.ensures.value in
    let l : c.owner_place-place.result < c.len.result = search (rules, c.if-place-len.true) in
    let s : slice_get c.self.inside.owned.items c.owner_place-place.result ≡ Some c.index_mut.result.now = slice_get_read c.self.inside.owned.items c.len.result c.owner_place-place.result c.index_mut.result.now n l c.index_mut.ensures.value in
    let e : c.owner_place-place.result ≡ owner_place c.self.inside.program.0 (map flat_owned c.self.inside.owned.items) = c.owner_place-place.ensures.value ∙ ap (λ xs. owner_place c.self.inside.program.0 (map flat_owned xs)) c.deref.ensures.value in
    rw (← c.self.view_is, owned_kept c.self.inside.program.0 c.self.inside.owned.items c.owner_place-place.result c.index_mut.result.now (record { program = c.index_mut.result.now.program; values = c.set_at.new.values }) e s refl, c.set_at.ensures.yes, owned_found c.self.inside.program.0 c.self.inside.owned.items c.owner_place-place.result c.index_mut.result.now e s) refl

pub returns-else-place-len-clause-found : goal.returns-else-place-len-clause-found
returns-else-place-len-clause-found c =
    let n : c.len.result ≡ length c.self.inside.owned.items = c.len.ensures ∙ sym c.deref.ensures.len ∙ ap length c.deref.ensures.value in
    let e : c.owner_place-place.result ≡ owner_place c.self.inside.program.0 (map flat_owned c.self.inside.owned.items) = c.owner_place-place.ensures.value ∙ ap (λ xs. owner_place c.self.inside.program.0 (map flat_owned xs)) c.deref.ensures.value in
    let p : slice_get c.self.inside.owned.items c.owner_place-place.result ≡ None = slice_get_past c.self.inside.owned.items c.owner_place-place.result (search (rules, c.if-place-len.false, n)) in
    rw (← c.self.view_is, owned_read, ← e, p) refl
