use Rattle.std.proofs.Common.{rules, arith, refl, sym, subst, ap, ◌∙◌, ◌≡◌, ◌+◌, suc, [], ◌∷◌, ◌++◌, None, Ok, Err, length, drop, get_or}
use Rattle.std.proofs.Math.Seq.{drop-cons}
use Rattle.std.proofs.lemmas.Bool.{ne_eqb}
use Rattle.std.proofs.lemmas.List.{length-drop}
use Rattle.muck_laws.proofs.Lists.{no_items}
use Rattle.muck_model.specs.Bytes.{text_fault}
use Rattle.mpi.specs.Hosting.{Means}
use Rattle.mpi.specs.Made.{is_long, text_or_long}
use Rattle.mpi.proofs.AlikeItems.{texts_behind, texts_begin, texts_end, texts_next, texts_other, next_fails, next_fits}
use Rattle.mpi.proofs.alike.repeated.Goals.{then-byte-eq13+in_ok-bytes-2, else-byte-eq13}
use Rattle.mpi.proofs.alike.repeated.Goals as goal

pub loop-byte-init : goal.loop-byte-init
loop-byte-init c =
    let is : c.in_ok-bytes.bytes.items ≡ c.args.text.now = search rules in (
      texts_begin c.args.text.now c.args.list.now c.in_ok-bytes.bytes.items (omega (arith, c.as_slice.ensures.most, ap length c.as_slice.ensures.bytes)) c.requires is,
      subst (λ xs. text_fault xs ≡ None) (c.as_slice.ensures.bytes ∙ sym is) c.as_slice.ensures.text,
    )

pub returns-in_err-bytes-2 : goal.returns-in_err-bytes-2
returns-in_err-bytes-2 c =
    let l = c.loop-byte in
    let text = c.args.text.now in
    let list = c.args.list.now in
    let whole = l.bytes.items ++ 13 ∷ text in
    let fault = c.in_err-bytes-2.field-0.0 in
    let back : c.from_residual-in_err-bytes-2.result ≡ Err fault = search rules in
    let is : get_or list l.byte-index 0 ≡ 13 = omega (arith, c.if-byte-eq13.true) in
    let ahead : drop l.byte-index list ≡ 13 ∷ drop (suc l.byte-index) list = drop-cons list l.byte-index 0 (omega arith) ∙ ap (λ x. x ∷ drop (suc l.byte-index) list) is in
    let rest = texts_behind text whole (drop (suc l.byte-index) list) in
    let refused : Means (text_or_long whole) (Err fault) = subst (λ xs. Means (text_or_long (l.bytes.items ++ 13 ∷ xs)) (Err fault)) c.as_slice-then-byte-eq13.ensures.bytes c.in_err-bytes-2.ensures.value in
    rw back
    (subst (λ x. Means x (Err fault)) (sym (l.invariant.0 ∙ texts_next text l.bytes.items (drop l.byte-index list) (drop (suc l.byte-index) list) 13 ahead refl))
    (next_fails (is_long whole) whole rest fault refused))

pub loop-byte-preserved : goal.loop-byte-preserved
loop-byte-preserved c =
    let l = c.loop-byte in
    let text = c.args.text.now in
    let list = c.args.list.now in
    let first = get_or list l.byte-index 0 in
    let more = drop (l.byte-index + 1) list in
    let ahead : drop l.byte-index list ≡ first ∷ more = drop-cons list l.byte-index 0 (omega arith) ∙ ap (λ n. first ∷ drop n list) (let e : suc l.byte-index ≡ l.byte-index + 1 = omega arith in e) in
    elim c.if-byte-eq13.branch [
      | then-byte-eq13+in_ok-bytes-2 w ↦
          let whole = l.bytes.items ++ 13 ∷ text in
          let new = w.in_ok-bytes-2.bytes.items in
          let is : first ≡ 13 = omega (arith, w.if-byte-eq13.true) in
          let fits : text_or_long whole ≡ Ok new = subst (λ xs. text_or_long (l.bytes.items ++ 13 ∷ xs) ≡ Ok new) w.as_slice-then-byte-eq13.ensures.bytes w.in_ok-bytes-2.ensures.value in (
            l.invariant.0 ∙ texts_next text l.bytes.items (drop l.byte-index list) more 13 (ahead ∙ ap (λ x. x ∷ more) is) refl
                ∙ next_fits (is_long whole) whole new (λ xs. texts_behind text xs more) fits
                ∙ (λ i. texts_behind text (sym w.bytes-is i).items more),
            subst (λ b. text_fault b.items ≡ None) (sym w.bytes-is) w.in_ok-bytes-2.ensures.text,
          )
      | else-byte-eq13 w ↦ (
        l.invariant.0 ∙ texts_other text l.bytes.items (drop l.byte-index list) more first ahead (ne_eqb first 13 (λ e. omega (arith, e, w.if-byte-eq13.false)))
            ∙ (λ i. texts_behind text (sym w.bytes-is i).items more),
        subst (λ b. text_fault b.items ≡ None) (sym w.bytes-is) l.invariant.1,
      )
    ]

pub returns : goal.returns
returns c =
    let l = c.loop-byte in
    let none : drop l.byte-index c.args.list.now ≡ [] = no_items _ (omega (arith, length-drop l.byte-index c.args.list.now, c.loop-byte-test.false)) in
    l.invariant.0 ∙ texts_end c.args.text.now l.bytes.items _ none ∙ ap Ok (sym c.of_text_vec.ensures)
