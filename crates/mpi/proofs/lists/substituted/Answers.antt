use Rattle.std.proofs.Common.{rules, arith, sym, subst, ap, ◌∙◌, ◌≡◌, ◌+◌, ◌<◌, ◌≤◌, [], ◌++◌, Ok, Err, None, length}
use Rattle.std.proofs.lemmas.Bool.Decides.{nat_tests}
use Rattle.muck_laws.proofs.Lists.{whole_end, whole_new}
use Rattle.muck_model.specs.Bytes.{text_fault, text_most}
use Rattle.mpi.specs.Values.{place_in_text, replaced, text_substituted}
use Rattle.mpi.proofs.Growing.{grown_inside, grown_short, grown_text}
use Rattle.mpi.proofs.Inside.{text_inside, text_short, part_is_text, rest_is_text}
use Rattle.mpi.proofs.Replacing.{none_part, some_part, place_fits, whole_front, whole_rest, whole_long, whole_made}
use Rattle.mpi.proofs.lists.substituted.Goals as goal

pub returns-then-is_empty : goal.returns-then-is_empty
returns-then-is_empty c =
    let none : length c.args.old.now ≡ 0 = grind (arith, nat_tests) in
    whole_made (text_substituted c.args.text.now c.args.old.now c.args.new.now) c.in_ok-of_text.field-0 (none_part c.args.text.now c.args.old.now c.args.new.now none ∙ sym c.in_ok-of_text.ensures) (subst (λ xs. length xs ≤ text_most) (sym c.in_ok-of_text.ensures) (text_short c.args.text.now c.requires.text))

pub around-requires : goal.around-requires
around-requires c =
    let some : 0 < length c.args.old.now = grind (arith, nat_tests) in
    place_fits c.loop-at.rest.now c.args.old.now c.in-Some.at some (ap (λ part. place_in_text c.loop-at.rest.now part) (sym c.new-sought.ensures) ∙ sym c.place_in.ensures.value ∙ c.in-Some.is)

pub returns-in_err-grow : goal.returns-in_err-grow
returns-in_err-grow c =
    let text = c.args.text.now in
    let old = c.args.old.now in
    let new = c.args.new.now in
    let front = c.around.result.0.now in
    let behind = c.around.result.1.now in
    let some : 0 < length old = grind (arith, nat_tests) in
    let whole = whole_front (text_substituted text old new) c.loop-at.out.items old new c.loop-at.rest.now front behind c.in-Some.at (some_part text old new some ∙ c.loop-at.invariant.0) some (ap (λ part. place_in_text c.loop-at.rest.now part) (sym c.new-sought.ensures) ∙ sym c.place_in.ensures.value ∙ c.in-Some.is) c.around.ensures.front c.around.ensures.behind in
    let back : c.from_residual-in_err-grow.result ≡ Err c.in_err-grow.field-0.0 = search rules in
    rw back (whole_long (text_substituted c.args.text.now c.args.old.now c.args.new.now) c.loop-at.out.items front (new ++ replaced old new 0 behind) c.grow.new.out.items c.in_err-grow.field-0.0 whole c.in_err-grow.ensures)

pub grow-requires-in-Some-clause-out : goal.grow-requires-in-Some-clause-out
grow-requires-in-Some-clause-out c = grown_short c.loop-at.out.items c.around.result.0.now c.grow.new.out.items c.in_ok-grow.ensures

pub returns-in_err-grow-2 : goal.returns-in_err-grow-2
returns-in_err-grow-2 c =
    let text = c.args.text.now in
    let old = c.args.old.now in
    let new = c.args.new.now in
    let front = c.around.result.0.now in
    let behind = c.around.result.1.now in
    let some : 0 < length old = grind (arith, nat_tests) in
    let whole = whole_front (text_substituted text old new) c.loop-at.out.items old new c.loop-at.rest.now front behind c.in-Some.at (some_part text old new some ∙ c.loop-at.invariant.0) some (ap (λ part. place_in_text c.loop-at.rest.now part) (sym c.new-sought.ensures) ∙ sym c.place_in.ensures.value ∙ c.in-Some.is) c.around.ensures.front c.around.ensures.behind in
    let back : c.from_residual-in_err-grow-2.result ≡ Err c.in_err-grow-2.field-0.0 = search rules in
    rw back (whole_long (text_substituted c.args.text.now c.args.old.now c.args.new.now) c.grow.new.out.items new (replaced old new 0 behind) c.grow-in-Some.new.out.items c.in_err-grow-2.field-0.0 (whole_new (text_substituted text old new) c.loop-at.out.items front c.grow.new.out.items new (replaced old new 0 behind) whole c.in_ok-grow.ensures.0) c.in_err-grow-2.ensures)

pub loop-at-preserved : goal.loop-at-preserved
loop-at-preserved c =
    let text = c.args.text.now in
    let old = c.args.old.now in
    let new = c.args.new.now in
    let rest = c.loop-at.rest.now in
    let at = c.in-Some.at in
    let front = c.around.result.0.now in
    let behind = c.around.result.1.now in
    let some : 0 < length old = grind (arith, nat_tests) in
    let whole = whole_front (replaced old new 0 text) c.loop-at.out.items old new rest front behind at c.loop-at.invariant.0 some (ap (λ part. place_in_text c.loop-at.rest.now part) (sym c.new-sought.ensures) ∙ sym c.place_in.ensures.value ∙ c.in-Some.is) c.around.ensures.front c.around.ensures.behind in
    let front_text : text_fault front ≡ None = subst (λ xs. text_fault xs ≡ None) (sym c.around.ensures.front) (part_is_text at rest c.loop-at.invariant.1) in
    let made = grown_inside c.loop-at.out.items front c.grow.new.out.items c.in_ok-grow.ensures c.loop-at.invariant.3 (text_inside front front_text) in (
      whole_new (replaced old new 0 text) c.loop-at.out.items front c.grow.new.out.items new (replaced old new 0 behind) whole c.in_ok-grow.ensures.0 ∙ ap (λ xs. xs ++ replaced old new 0 behind) (sym c.in_ok-grow-2.ensures.0),
      subst (λ xs. text_fault xs ≡ None) (sym c.around.ensures.behind) (rest_is_text (at + length old) rest c.loop-at.invariant.1),
      grown_short c.grow.new.out.items new c.grow-in-Some.new.out.items c.in_ok-grow-2.ensures,
      grown_inside c.grow.new.out.items new c.grow-in-Some.new.out.items c.in_ok-grow-2.ensures made (text_inside new c.requires.new),
    )

pub returns-in_err-grow-3 : goal.returns-in_err-grow-3
returns-in_err-grow-3 c =
    let text = c.args.text.now in
    let old = c.args.old.now in
    let new = c.args.new.now in
    let rest = c.loop-at.rest.now in
    let some : 0 < length old = grind (arith, nat_tests) in
    let whole = whole_rest (text_substituted text old new) c.loop-at.out.items old new rest (some_part text old new some ∙ c.loop-at.invariant.0) (ap (λ part. place_in_text c.loop-at.rest.now part) (sym c.new-sought.ensures) ∙ sym c.place_in.ensures.value ∙ c.in_default.is) in
    let back : c.from_residual-in_err-grow-3.result ≡ Err c.in_err-grow-3.field-0.0 = search rules in
    rw back (whole_long (text_substituted c.args.text.now c.args.old.now c.args.new.now) c.loop-at.out.items rest [] c.grow-2.new.out.items c.in_err-grow-3.field-0.0 (whole_end (text_substituted text old new) (c.loop-at.out.items ++ rest) whole) c.in_err-grow-3.ensures)

pub of_text_vec-requires : goal.of_text_vec-requires
of_text_vec-requires c = grown_text c.loop-at.out.items c.loop-at.rest.now c.grow-2.new.out.items c.in_ok-grow-3.ensures c.loop-at.invariant.3 (text_inside c.loop-at.rest.now c.loop-at.invariant.1)

pub returns : goal.returns
returns c =
    let text = c.args.text.now in
    let old = c.args.old.now in
    let new = c.args.new.now in
    let some : 0 < length old = grind (arith, nat_tests) in
    let whole = whole_rest (text_substituted text old new) c.loop-at.out.items old new c.loop-at.rest.now (some_part text old new some ∙ c.loop-at.invariant.0) (ap (λ part. place_in_text c.loop-at.rest.now part) (sym c.new-sought.ensures) ∙ sym c.place_in.ensures.value ∙ c.in_default.is) in
    whole_made (text_substituted text old new) c.grow-2.new.out.items (whole ∙ sym c.in_ok-grow-3.ensures.0) (grown_short c.loop-at.out.items c.loop-at.rest.now c.grow-2.new.out.items c.in_ok-grow-3.ensures) ∙ ap Ok (sym c.of_text_vec.ensures)
