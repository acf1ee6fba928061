use Rattle.std.proofs.Common.{rules, arith, refl, sym, subst, ap, ◌∙◌, ◌≡◌, ◌+◌, ◌-◌, ◌≤◌, [], ◌∷◌, ◌++◌, suc, None, Some, Ok, Err, true, false, length, take, drop, get_or, map, option_map}
use Rattle.muck_laws.proofs.Lists.{no_items}
use Rattle.muck_laws.proofs.Mapped.{none_mapped}
use Rattle.muck_laws.proofs.Places.{next_mapped}
use Rattle.muck_model.specs.Bytes.{text_fault, text_most}
use Rattle.mpi.specs.Brackets.{formula_pieces, seen_piece, IsPart}
use Rattle.mpi.specs.Hosting.{Means}
use Rattle.mpi.specs.Made.{Inside, is_long, is_text}
use Rattle.mpi.specs.Meaning.{scene_of, meaning, body_entered, spelled, acted_by, each_value, until_wanted, while_true, turns_while, bodies_in_scope, before_body, turns_for, text_with, next_number, each_item}
use Rattle.mpi.proofs.Inside.{inside_more, inside_byte, text_inside}
use Rattle.mpi.proofs.Lengths.{short_length}
use Rattle.mpi.proofs.Replacing.{whole_made}
use Rattle.mpi.proofs.Thinking.{comes_by, known}
use Rattle.mpi.proofs.Spelling.{grown_fails, spelled_end, spelled_byte, spelled_byte_long, spelled_call, spelled_call_long, spelled_call_fails}
use Rattle.mpi.proofs.evaluator.+evaluating.Goals.{text-in-Byte+in_ok-grow-in-Byte, text-in-Call+in_ok-value-in-Call+in_ok-grow-in-Call, call-then-nesting-eq0-via-then-nesting-eq0, call-then-nesting-eq0-via-else-nesting-eq0+then-mind-eq0}
use Rattle.std.specs.Option.{option_copied}
use Rattle.mpi.specs.Functions.{row_of_function}
use Rattle.mpi.specs.Thoughts.{Thinks, given_back_in}
use Rattle.mpi.proofs.Calls.{too_deep, none_left, entered_is, variable_comes, prepared_fails, prepared_comes, first_fails, first_comes, lazy_comes, literal_comes, if_fails, if_comes, all_comes, any_comes, while_comes, with_comes, turns_begin, once_comes, numbers_come, items_come}
use Rattle.mpi.specs.Gathering.{gathered_text, kept_item, list_or_long}
use Rattle.mpi.specs.Values.{nth, is_true_text, items}
use Rattle.mpi.proofs.Mapped.{mapped_text}
use Rattle.mpi.specs.inner.Alike.{answer_alike, transposed}
use Rattle.mpi.proofs.AlikeItems.{alike_answers, alike_fails, plain_means}
use Rattle.mpi.proofs.Turns.{value_end, value_more, value_fails, until_end, until_more, until_known, until_fails, while_stops, while_turns, while_test_fails, while_count_fails, while_body_fails, while_ends, scope_fails, scope_comes, with_is, for_stops, for_turns, for_count_fails, for_body_fails, for_ends, item_end, item_more, item_long, item_fails}
use Rattle.std.specs.FinMap.{get}
use Rattle.std.specs.Fmt.{signed_decimal}
use Rattle.std.specs.List.{list_all}
use Rattle.mpi.proofs.Items.{items_are_texts}
use Rattle.mpi.proofs.evaluator.+evaluating.Goals as goal

pub text-returns-in_err-grow-in-Byte-clause-thinks : goal.text-returns-in_err-grow-in-Byte-clause-thinks
text-returns-in_err-grow-in-Byte-clause-thinks g t c =
    let back : c.from_residual.result ≡ Err c.in_err-grow-in-Byte.field-0.0 = search rules in
    let first_is : c.loop-first.rest.now ≡ c.in-Some.first.now ∷ c.in-Some.more.now = search rules in
    rw back (grown_fails c.loop-first.out.items (c.in-Byte.byte ∷ []) c.grow.new.out.items (meaning (scene_of g.H.Host.powers c.args.place.this) c.args.nesting c.args.text.now (c.args.mind.now, g.H.Host.seen c.args.host.now)) (c.loop-first.mind, g.H.Host.seen c.loop-first.host) c.in_err-grow-in-Byte.field-0.0 c.in_err-grow-in-Byte.ensures (λ long. c.loop-first.invariant.whole ∙ ap (λ xs. spelled (body_entered (scene_of g.H.Host.powers c.args.place.this) c.args.nesting) c.loop-first.out.items (formula_pieces xs) (c.loop-first.mind, g.H.Host.seen c.loop-first.host)) first_is ∙ spelled_byte_long (body_entered (scene_of g.H.Host.powers c.args.place.this) c.args.nesting) c.loop-first.out.items c.in-Some.first.now c.in-Some.more.now c.piece_ahead-ahead.result.rest.now c.in-Byte.byte (c.loop-first.mind, g.H.Host.seen c.loop-first.host) (ap (λ p. (seen_piece p, c.piece_ahead-ahead.result.rest.now)) (sym c.in-Byte.is) ∙ c.piece_ahead-ahead.ensures.value) long))

pub text-returns-in_err-value-in-Call-clause-thinks : goal.text-returns-in_err-value-in-Call-clause-thinks
text-returns-in_err-value-in-Call-clause-thinks g t c =
    let back : c.from_residual-in_err-value-in-Call.result ≡ Err c.in_err-value-in-Call.field-0.0 = search rules in
    let first_is : c.loop-first.rest.now ≡ c.in-Some.first.now ∷ c.in-Some.more.now = search rules in
    rw back (comes_by (meaning (scene_of g.H.Host.powers c.args.place.this) c.args.nesting c.args.text.now (c.args.mind.now, g.H.Host.seen c.args.host.now)) (spelled (body_entered (scene_of g.H.Host.powers c.args.place.this) c.args.nesting) c.loop-first.out.items (formula_pieces (c.in-Some.first.now ∷ c.in-Some.more.now)) (c.loop-first.mind, g.H.Host.seen c.loop-first.host)) (c.call.new.mind, g.H.Host.seen c.call.new.host) (Err c.in_err-value-in-Call.field-0.0) (c.loop-first.invariant.whole ∙ ap (λ xs. spelled (body_entered (scene_of g.H.Host.powers c.args.place.this) c.args.nesting) c.loop-first.out.items (formula_pieces xs) (c.loop-first.mind, g.H.Host.seen c.loop-first.host)) first_is) (spelled_call_fails (body_entered (scene_of g.H.Host.powers c.args.place.this) c.args.nesting) c.loop-first.out.items c.in-Some.first.now c.in-Some.more.now c.piece_ahead-ahead.result.rest.now c.in-Call.body.now (c.loop-first.mind, g.H.Host.seen c.loop-first.host) (c.call.new.mind, g.H.Host.seen c.call.new.host) c.in_err-value-in-Call.field-0.0 (ap (λ p. (seen_piece p, c.piece_ahead-ahead.result.rest.now)) (sym c.in-Call.is) ∙ c.piece_ahead-ahead.ensures.value) c.in_err-value-in-Call.ensures.thinks))

pub text-returns-in_err-grow-in-Call-clause-thinks : goal.text-returns-in_err-grow-in-Call-clause-thinks
text-returns-in_err-grow-in-Call-clause-thinks g t c =
    let back : c.from_residual-in_err-grow-in-Call.result ≡ Err c.in_err-grow-in-Call.field-0.0 = search rules in
    let first_is : c.loop-first.rest.now ≡ c.in-Some.first.now ∷ c.in-Some.more.now = search rules in
    rw back (grown_fails c.loop-first.out.items c.as_slice.result.now c.grow-in-Call.new.out.items (meaning (scene_of g.H.Host.powers c.args.place.this) c.args.nesting c.args.text.now (c.args.mind.now, g.H.Host.seen c.args.host.now)) (c.call.new.mind, g.H.Host.seen c.call.new.host) c.in_err-grow-in-Call.field-0.0 c.in_err-grow-in-Call.ensures (λ long. c.loop-first.invariant.whole ∙ ap (λ xs. spelled (body_entered (scene_of g.H.Host.powers c.args.place.this) c.args.nesting) c.loop-first.out.items (formula_pieces xs) (c.loop-first.mind, g.H.Host.seen c.loop-first.host)) first_is ∙ spelled_call_long (body_entered (scene_of g.H.Host.powers c.args.place.this) c.args.nesting) c.loop-first.out.items c.in-Some.first.now c.in-Some.more.now c.piece_ahead-ahead.result.rest.now c.in-Call.body.now c.in_ok-value-in-Call.value (c.loop-first.mind, g.H.Host.seen c.loop-first.host) (c.call.new.mind, g.H.Host.seen c.call.new.host) (ap (λ p. (seen_piece p, c.piece_ahead-ahead.result.rest.now)) (sym c.in-Call.is) ∙ c.piece_ahead-ahead.ensures.value) c.in_ok-value-in-Call.ensures.thinks (ap (λ v. is_long (c.loop-first.out.items ++ v)) (sym c.as_slice.ensures.bytes) ∙ long)))

pub text-loop-first-preserved : goal.text-loop-first-preserved
text-loop-first-preserved g t c =
    let first_is : c.loop-first.rest.now ≡ c.in-Some.first.now ∷ c.in-Some.more.now = search rules in
    let after = c.match-ahead in
    elim after.branch [
      | text-in-Byte+in_ok-grow-in-Byte w ↦
          let byte = w.in-Byte.byte in
          let grown = w.in_ok-grow-in-Byte.ensures in
          let out_is : after.out.items ≡ c.loop-first.out.items ++ byte ∷ [] = ap (λ o. o.items) w.out-is ∙ grown.0 in
          record {
            whole = c.loop-first.invariant.whole ∙ ap (λ xs. spelled (body_entered (scene_of g.H.Host.powers c.args.place.this) c.args.nesting) c.loop-first.out.items (formula_pieces xs) (c.loop-first.mind, g.H.Host.seen c.loop-first.host)) first_is ∙ spelled_byte (body_entered (scene_of g.H.Host.powers c.args.place.this) c.args.nesting) c.loop-first.out.items c.in-Some.first.now c.in-Some.more.now c.piece_ahead-ahead.result.rest.now byte (c.loop-first.mind, g.H.Host.seen c.loop-first.host) (ap (λ p. (seen_piece p, c.piece_ahead-ahead.result.rest.now)) (sym w.in-Byte.is) ∙ c.piece_ahead-ahead.ensures.value) grown.1
                ∙ (λ i. spelled (body_entered (scene_of g.H.Host.powers c.args.place.this) c.args.nesting) (sym out_is i) (formula_pieces c.piece_ahead-ahead.result.rest.now) (sym w.mind-is i, g.H.Host.seen (sym w.host-is i)));
            inside = subst (λ xs. Inside xs) (sym out_is) (inside_more c.loop-first.out.items (byte ∷ []) c.loop-first.invariant.inside (inside_byte byte (subst (λ p. IsPart p) w.in-Byte.is c.piece_ahead-ahead.ensures.parts.1)));
            short = subst (λ xs. length xs ≤ text_most) (sym out_is) (short_length (c.loop-first.out.items ++ byte ∷ []) grown.1);
            rest = c.piece_ahead-ahead.ensures.parts.0;
            same = subst (λ h. g.H.Host.same c.args.host.now h) (sym w.host-is) c.loop-first.invariant.same;
          }
      | text-in-Call+in_ok-value-in-Call+in_ok-grow-in-Call w ↦
          let value = w.in_ok-value-in-Call.value in
          let grown = w.in_ok-grow-in-Call.ensures in
          let out_is : after.out.items ≡ c.loop-first.out.items ++ value = ap (λ o. o.items) w.out-is ∙ grown.0 ∙ ap (λ v. c.loop-first.out.items ++ v) w.as_slice.ensures.bytes in
          let short : is_long (c.loop-first.out.items ++ value) ≡ false = ap (λ v. is_long (c.loop-first.out.items ++ v)) (sym w.as_slice.ensures.bytes) ∙ grown.1 in
          record {
            whole = c.loop-first.invariant.whole ∙ ap (λ xs. spelled (body_entered (scene_of g.H.Host.powers c.args.place.this) c.args.nesting) c.loop-first.out.items (formula_pieces xs) (c.loop-first.mind, g.H.Host.seen c.loop-first.host)) first_is ∙ spelled_call (body_entered (scene_of g.H.Host.powers c.args.place.this) c.args.nesting) c.loop-first.out.items c.in-Some.first.now c.in-Some.more.now c.piece_ahead-ahead.result.rest.now w.in-Call.body.now value (c.loop-first.mind, g.H.Host.seen c.loop-first.host) (w.call.new.mind, g.H.Host.seen w.call.new.host) (ap (λ p. (seen_piece p, c.piece_ahead-ahead.result.rest.now)) (sym w.in-Call.is) ∙ c.piece_ahead-ahead.ensures.value) w.in_ok-value-in-Call.ensures.thinks short
                ∙ (λ i. spelled (body_entered (scene_of g.H.Host.powers c.args.place.this) c.args.nesting) (sym out_is i) (formula_pieces c.piece_ahead-ahead.result.rest.now) (sym w.mind-is i, g.H.Host.seen (sym w.host-is i)));
            inside = subst (λ xs. Inside xs) (sym out_is) (inside_more c.loop-first.out.items value c.loop-first.invariant.inside (text_inside value (subst (λ xs. text_fault xs ≡ None) w.as_slice.ensures.bytes w.as_slice.ensures.text)));
            short = subst (λ xs. length xs ≤ text_most) (sym out_is) (short_length (c.loop-first.out.items ++ value) short);
            rest = c.piece_ahead-ahead.ensures.parts.0;
            same = subst (λ h. g.H.Host.same c.args.host.now h) (sym w.host-is) (g.met.H.Host.same_both c.args.host.now c.loop-first.host w.call.new.host c.loop-first.invariant.same w.call.ensures.same);
          }
    ]

pub text-returns-clause-thinks : goal.text-returns-clause-thinks
text-returns-clause-thinks g t c =
    let none : c.loop-first.rest.now ≡ [] = no_items c.loop-first.rest.now (omega (arith, c.in_default.ensures.cases)) in
    comes_by (meaning (scene_of g.H.Host.powers c.args.place.this) c.args.nesting c.args.text.now (c.args.mind.now, g.H.Host.seen c.args.host.now)) (Ok c.loop-first.out.items, (c.loop-first.mind, g.H.Host.seen c.loop-first.host)) (c.loop-first.mind, g.H.Host.seen c.loop-first.host) c.line_of.result (c.loop-first.invariant.whole ∙ ap (λ xs. spelled (body_entered (scene_of g.H.Host.powers c.args.place.this) c.args.nesting) c.loop-first.out.items (formula_pieces xs) (c.loop-first.mind, g.H.Host.seen c.loop-first.host)) none ∙ spelled_end (body_entered (scene_of g.H.Host.powers c.args.place.this) c.args.nesting) c.loop-first.out.items (c.loop-first.mind, g.H.Host.seen c.loop-first.host))
    (known (Ok c.loop-first.out.items) c.line_of.result (c.loop-first.mind, g.H.Host.seen c.loop-first.host) (subst (λ x. Means x c.line_of.result) (whole_made c.loop-first.out.items c.loop-first.out.items refl c.loop-first.invariant.short) c.line_of.ensures))

pub call-returns-then-nesting-eq0-clause-thinks : goal.call-returns-then-nesting-eq0-clause-thinks
call-returns-then-nesting-eq0-clause-thinks g t c =
    elim c.then-nesting-eq0.branch [
      | call-then-nesting-eq0-via-then-nesting-eq0 w ↦ too_deep (scene_of g.H.Host.powers c.args.place.this) c.args.nesting c.args.body.now (c.args.mind.now, g.H.Host.seen c.args.host.now) w.if-nesting-eq0.true
      | call-then-nesting-eq0-via-else-nesting-eq0+then-mind-eq0 w ↦ none_left (scene_of g.H.Host.powers c.args.place.this) c.args.nesting c.args.body.now (c.args.mind.now, g.H.Host.seen c.args.host.now) w.if-mind-eq0.true
    ]

pub call-returns-in-Some-clause-thinks : goal.call-returns-in-Some-clause-thinks
call-returns-in-Some-clause-thinks g t c = entered_is (scene_of g.H.Host.powers c.args.place.this) c.args.nesting c.args.body.now (c.args.mind.now, g.H.Host.seen c.args.host.now) ((record c.args.mind.now { left = c.args.mind.now.left - 1 }), g.H.Host.seen c.args.host.now) c.value_of.result (omega arith) (omega arith) (variable_comes (scene_of g.H.Host.powers c.args.place.this) (meaning (scene_of g.H.Host.powers c.args.place.this) (c.args.nesting - 1)) c.args.body.now c.in-Some.name.now (record c.args.mind.now { left = c.args.mind.now.left - 1 }) (g.H.Host.seen c.args.host.now) c.value_of.result (sym c.in-Some.ensures.value) c.value_of.ensures)

pub call-returns-in_err-called-clause-thinks : goal.call-returns-in_err-called-clause-thinks
call-returns-in_err-called-clause-thinks g t c =
    let back : c.from_residual.result ≡ Err c.in_err-called.field-0.0 = search rules in
    rw back (entered_is (scene_of g.H.Host.powers c.args.place.this) c.args.nesting c.args.body.now (c.args.mind.now, g.H.Host.seen c.args.host.now) ((record c.args.mind.now { left = c.args.mind.now.left - 1 }), g.H.Host.seen c.args.host.now) (Err c.in_err-called.field-0.0) (omega arith) (omega arith) (prepared_fails (scene_of g.H.Host.powers c.args.place.this) (meaning (scene_of g.H.Host.powers c.args.place.this) (c.args.nesting - 1)) c.args.body.now ((record c.args.mind.now { left = c.args.mind.now.left - 1 }), g.H.Host.seen c.args.host.now) c.in_err-called.field-0.0 (sym c.in_default.ensures.value) c.in_err-called.ensures.value))

pub call-returns-in_err-values-in-First-clause-thinks : goal.call-returns-in_err-values-in-First-clause-thinks
call-returns-in_err-values-in-First-clause-thinks g t c =
    let back : c.from_residual-in_err-values-in-First.result ≡ Err c.in_err-values-in-First.field-0.0 = search rules in
    rw back (entered_is (scene_of g.H.Host.powers c.args.place.this) c.args.nesting c.args.body.now (c.args.mind.now, g.H.Host.seen c.args.host.now) (c.values_of.new.mind, g.H.Host.seen c.values_of.new.host) (Err c.in_err-values-in-First.field-0.0) (omega arith) (omega arith) (prepared_comes (scene_of g.H.Host.powers c.args.place.this) (meaning (scene_of g.H.Host.powers c.args.place.this) (c.args.nesting - 1)) c.args.body.now c.in_ok-called.called.function (option_copied c.in_ok-called.called.behind) ((record c.args.mind.now { left = c.args.mind.now.left - 1 }), g.H.Host.seen c.args.host.now) (c.values_of.new.mind, g.H.Host.seen c.values_of.new.host) (Err c.in_err-values-in-First.field-0.0) (sym c.in_default.ensures.value) c.in_ok-called.ensures.value (first_fails (scene_of g.H.Host.powers c.args.place.this) (meaning (scene_of g.H.Host.powers c.args.place.this) (c.args.nesting - 1)) (row_of_function c.in_ok-called.called.function).how c.in-First.group c.in_ok-called.called.function (option_copied c.in_ok-called.called.behind) (map (λ x. x.now) c.deref.result.now) ((record c.args.mind.now { left = c.args.mind.now.left - 1 }), g.H.Host.seen c.args.host.now) (c.values_of.new.mind, g.H.Host.seen c.values_of.new.host) c.in_err-values-in-First.field-0.0 c.in-First.ensures (ap (map (λ x. x.now)) c.deref.ensures.value ∙ c.in_ok-called.ensures.texts) c.in_err-values-in-First.ensures.thinks)))

pub call-returns-in-First-clause-thinks : goal.call-returns-in-First-clause-thinks
call-returns-in-First-clause-thinks g t c =
    let acts : Thinks (acted_by c.in-First.group c.in_ok-called.called.function (scene_of g.H.Host.powers c.args.place.this) c.in_ok-values-in-First.values.items) (c.values_of.new.mind, g.H.Host.seen c.values_of.new.host) (c.act.new.mind, g.H.Host.seen c.act.new.host) c.act.result =
    subst (λ xs. Thinks (acted_by c.in-First.group c.in_ok-called.called.function (scene_of g.H.Host.powers c.args.place.this) xs) (c.values_of.new.mind, g.H.Host.seen c.values_of.new.host) (c.act.new.mind, g.H.Host.seen c.act.new.host) c.act.result) c.deref-in-First.ensures.value c.act.ensures.thinks in
    entered_is (scene_of g.H.Host.powers c.args.place.this) c.args.nesting c.args.body.now (c.args.mind.now, g.H.Host.seen c.args.host.now) (c.act.new.mind, g.H.Host.seen c.act.new.host) c.act.result (omega arith) (omega arith) (prepared_comes (scene_of g.H.Host.powers c.args.place.this) (meaning (scene_of g.H.Host.powers c.args.place.this) (c.args.nesting - 1)) c.args.body.now c.in_ok-called.called.function (option_copied c.in_ok-called.called.behind) ((record c.args.mind.now { left = c.args.mind.now.left - 1 }), g.H.Host.seen c.args.host.now) (c.act.new.mind, g.H.Host.seen c.act.new.host) c.act.result (sym c.in_default.ensures.value) c.in_ok-called.ensures.value (first_comes (scene_of g.H.Host.powers c.args.place.this) (meaning (scene_of g.H.Host.powers c.args.place.this) (c.args.nesting - 1)) (row_of_function c.in_ok-called.called.function).how c.in-First.group c.in_ok-called.called.function (option_copied c.in_ok-called.called.behind) (map (λ x. x.now) c.deref.result.now) c.in_ok-values-in-First.values.items ((record c.args.mind.now { left = c.args.mind.now.left - 1 }), g.H.Host.seen c.args.host.now) (c.values_of.new.mind, g.H.Host.seen c.values_of.new.host) (c.act.new.mind, g.H.Host.seen c.act.new.host) c.act.result c.in-First.ensures (ap (map (λ x. x.now)) c.deref.ensures.value ∙ c.in_ok-called.ensures.texts) c.in_ok-values-in-First.ensures.thinks acts))

pub call-returns-clause-thinks : goal.call-returns-clause-thinks
call-returns-clause-thinks g t c = entered_is (scene_of g.H.Host.powers c.args.place.this) c.args.nesting c.args.body.now (c.args.mind.now, g.H.Host.seen c.args.host.now) (c.lazily.new.mind, g.H.Host.seen c.lazily.new.host) c.lazily.result (omega arith) (omega arith) (prepared_comes (scene_of g.H.Host.powers c.args.place.this) (meaning (scene_of g.H.Host.powers c.args.place.this) (c.args.nesting - 1)) c.args.body.now c.in_ok-called.called.function (option_copied c.in_ok-called.called.behind) ((record c.args.mind.now { left = c.args.mind.now.left - 1 }), g.H.Host.seen c.args.host.now) (c.lazily.new.mind, g.H.Host.seen c.lazily.new.host) c.lazily.result (sym c.in_default.ensures.value) c.in_ok-called.ensures.value (lazy_comes (scene_of g.H.Host.powers c.args.place.this) (meaning (scene_of g.H.Host.powers c.args.place.this) (c.args.nesting - 1)) (row_of_function c.in_ok-called.called.function).how c.in-Lazy.way c.in_ok-called.called.function (option_copied c.in_ok-called.called.behind) ((record c.args.mind.now { left = c.args.mind.now.left - 1 }), g.H.Host.seen c.args.host.now) (c.lazily.new.mind, g.H.Host.seen c.lazily.new.host) c.lazily.result c.in-Lazy.ensures c.lazily.ensures.thinks))

pub lazily-returns-in_err-value-in-If-clause-thinks : goal.lazily-returns-in_err-value-in-If-clause-thinks
lazily-returns-in_err-value-in-If-clause-thinks g t c =
    let back : c.from_residual-in_err-value-in-If.result ≡ Err c.in_err-value-in-If.field-0.0 = search rules in
    rw back (if_fails (meaning (scene_of g.H.Host.powers c.args.place.this) c.args.deeper) c.args.way (option_copied c.args.behind) (map (λ x. x.now) c.args.texts.now) c.text_at.result.now (c.args.mind.now, g.H.Host.seen c.args.host.now) (c.text.new.mind, g.H.Host.seen c.text.new.host) c.in_err-value-in-If.field-0.0 c.in-If.is c.requires.texts c.text_at.ensures.value c.in_err-value-in-If.ensures.thinks)

pub lazily-returns-in_ok-of_text-in-Literal-clause-thinks : goal.lazily-returns-in_ok-of_text-in-Literal-clause-thinks
lazily-returns-in_ok-of_text-in-Literal-clause-thinks g t c =
    let text_is : c.unwrap_or.result.now ≡ gathered_text (option_copied c.args.behind) = search rules in
    literal_comes (meaning (scene_of g.H.Host.powers c.args.place.this) c.args.deeper) c.args.way (option_copied c.args.behind) c.in_ok-of_text-in-Literal.field-0 (c.args.mind.now, g.H.Host.seen c.args.host.now) c.in-Literal.is (c.in_ok-of_text-in-Literal.ensures ∙ text_is)

pub lazily-returns-in_ok-value-in-If-clause-thinks : goal.lazily-returns-in_ok-value-in-If-clause-thinks
lazily-returns-in_ok-value-in-If-clause-thinks g t c = if_comes (meaning (scene_of g.H.Host.powers c.args.place.this) c.args.deeper) c.args.way (option_copied c.args.behind) (map (λ x. x.now) c.args.texts.now) c.text_at.result.now c.text_at-in-If.result.now c.in_ok-value-in-If.value (c.args.mind.now, g.H.Host.seen c.args.host.now) (c.text.new.mind, g.H.Host.seen c.text.new.host) (c.text-in-If.new.mind, g.H.Host.seen c.text-in-If.new.host) c.text-in-If.result c.in-If.is c.requires.texts c.text_at.ensures.value c.in_ok-value-in-If.ensures.thinks (c.text_at-in-If.ensures.value ∙ ap (λ n. nth n (map (λ x. x.now) c.args.texts.now)) c.branch_at.ensures) c.text-in-If.ensures.thinks

pub lazily-returns-in-All-clause-thinks : goal.lazily-returns-in-All-clause-thinks
lazily-returns-in-All-clause-thinks g t c = all_comes (meaning (scene_of g.H.Host.powers c.args.place.this) c.args.deeper) c.args.way (option_copied c.args.behind) (map (λ x. x.now) c.args.texts.now) (c.args.mind.now, g.H.Host.seen c.args.host.now) (c.until.new.mind, g.H.Host.seen c.until.new.host) c.until.result c.in-All.is c.requires.texts c.until.ensures.thinks

pub lazily-returns-in-Any-clause-thinks : goal.lazily-returns-in-Any-clause-thinks
lazily-returns-in-Any-clause-thinks g t c = any_comes (meaning (scene_of g.H.Host.powers c.args.place.this) c.args.deeper) c.args.way (option_copied c.args.behind) (map (λ x. x.now) c.args.texts.now) (c.args.mind.now, g.H.Host.seen c.args.host.now) (c.until-in-Any.new.mind, g.H.Host.seen c.until-in-Any.new.host) c.until-in-Any.result c.in-Any.is c.requires.texts c.until-in-Any.ensures.thinks

pub lazily-returns-in-While-clause-thinks : goal.lazily-returns-in-While-clause-thinks
lazily-returns-in-While-clause-thinks g t c = while_comes (meaning (scene_of g.H.Host.powers c.args.place.this) c.args.deeper) c.args.way (option_copied c.args.behind) (map (λ x. x.now) c.args.texts.now) (c.args.mind.now, g.H.Host.seen c.args.host.now) (c.while_true.new.mind, g.H.Host.seen c.while_true.new.host) c.while_true.result c.in-While.is c.requires.texts c.while_true.ensures.thinks

pub lazily-returns-in-With-clause-thinks : goal.lazily-returns-in-With-clause-thinks
lazily-returns-in-With-clause-thinks g t c = with_comes (meaning (scene_of g.H.Host.powers c.args.place.this) c.args.deeper) c.args.way c.in-With.scope (option_copied c.args.behind) (map (λ x. x.now) c.args.texts.now) (c.args.mind.now, g.H.Host.seen c.args.host.now) (c.in_scope.new.mind, g.H.Host.seen c.in_scope.new.host) c.in_scope.result c.in-With.is c.requires.texts c.in_scope.ensures.thinks

pub argument-returns-in-Some-clause-thinks : goal.argument-returns-in-Some-clause-thinks
argument-returns-in-Some-clause-thinks g t c =
    plain_means (scene_of g.H.Host.powers c.args.place.this) c.args.deeper c.args.text.now c.in-Some.value (c.args.mind.now, g.H.Host.seen c.args.host.now) c.requires c.in-Some.ensures.1 c.in-Some.ensures.0

pub argument-returns-in_err-line-clause-thinks : goal.argument-returns-in_err-line-clause-thinks
argument-returns-in_err-line-clause-thinks g t c =
    let back : c.from_residual.result ≡ Err c.in_err-line.field-0.0 = search rules in
    rw back c.in_err-line.ensures.thinks

pub argument-returns-clause-thinks : goal.argument-returns-clause-thinks
argument-returns-clause-thinks g t c =
    c.in_ok-line.ensures.thinks ∙ ap (λ x. (Ok x, (c.text.new.mind, g.H.Host.seen c.text.new.host))) (sym c.made.ensures)

pub values_of-argument-requires : goal.values_of-argument-requires
values_of-argument-requires g t c κs within = let is : text_fault (get_or c.args.texts.now c.loop-each.each-index (record { ref_ptr = (0, 0); now = [] })).now ≡ None = mapped_text (λ x. x.now) c.args.texts.now c.loop-each.each-index (record { ref_ptr = (0, 0); now = [] }) c.requires (omega arith) in search rules

pub values_of-returns-in_err-value-clause-thinks : goal.values_of-returns-in_err-value-clause-thinks
values_of-returns-in_err-value-clause-thinks g t c =
    let back : c.from_residual.result ≡ Err c.in_err-value.field-0.0 = search rules in
    rw back (comes_by (each_value (meaning (scene_of g.H.Host.powers c.args.place.this) c.args.deeper) [] (map (λ x. x.now) c.args.texts.now) (c.args.mind.now, g.H.Host.seen c.args.host.now)) (each_value (meaning (scene_of g.H.Host.powers c.args.place.this) c.args.deeper) c.loop-each.values.items (drop c.loop-each.each-index (map (λ x. x.now) c.args.texts.now)) (c.loop-each.mind, g.H.Host.seen c.loop-each.host)) (c.argument.new.mind, g.H.Host.seen c.argument.new.host) (Err c.in_err-value.field-0.0) c.loop-each.invariant.whole (value_fails (meaning (scene_of g.H.Host.powers c.args.place.this) c.args.deeper) c.loop-each.values.items (drop c.loop-each.each-index (map (λ x. x.now) c.args.texts.now)) (drop (c.loop-each.each-index + 1) (map (λ x. x.now) c.args.texts.now)) (get_or c.args.texts.now c.loop-each.each-index (record { ref_ptr = (0, 0); now = [] })).now (c.loop-each.mind, g.H.Host.seen c.loop-each.host) (c.argument.new.mind, g.H.Host.seen c.argument.new.host) c.in_err-value.field-0.0 (next_mapped (λ x. x.now) c.args.texts.now c.loop-each.each-index (record { ref_ptr = (0, 0); now = [] }) (omega arith)) c.in_err-value.ensures.thinks))

pub values_of-loop-each-preserved : goal.values_of-loop-each-preserved
values_of-loop-each-preserved g t c = record {
  whole = c.loop-each.invariant.whole ∙ value_more (meaning (scene_of g.H.Host.powers c.args.place.this) c.args.deeper) c.loop-each.values.items (drop c.loop-each.each-index (map (λ x. x.now) c.args.texts.now)) (drop (c.loop-each.each-index + 1) (map (λ x. x.now) c.args.texts.now)) (get_or c.args.texts.now c.loop-each.each-index (record { ref_ptr = (0, 0); now = [] })).now c.in_ok-value.value (c.loop-each.mind, g.H.Host.seen c.loop-each.host) (c.argument.new.mind, g.H.Host.seen c.argument.new.host) (next_mapped (λ x. x.now) c.args.texts.now c.loop-each.each-index (record { ref_ptr = (0, 0); now = [] }) (omega arith)) c.in_ok-value.ensures.thinks ∙ ap (λ xs. each_value (meaning (scene_of g.H.Host.powers c.args.place.this) c.args.deeper) xs (drop (c.loop-each.each-index + 1) (map (λ x. x.now) c.args.texts.now)) (c.argument.new.mind, g.H.Host.seen c.argument.new.host)) (sym c.in_ok-push.ensures.items);
  same = g.met.H.Host.same_both c.args.host.now c.loop-each.host c.argument.new.host c.loop-each.invariant.same c.argument.ensures.same;
}

pub values_of-returns-clause-thinks : goal.values_of-returns-clause-thinks
values_of-returns-clause-thinks g t c = c.loop-each.invariant.whole ∙ value_end (meaning (scene_of g.H.Host.powers c.args.place.this) c.args.deeper) c.loop-each.values.items (drop c.loop-each.each-index (map (λ x. x.now) c.args.texts.now)) (c.loop-each.mind, g.H.Host.seen c.loop-each.host) (none_mapped (λ x. x.now) c.args.texts.now c.loop-each.each-index (omega arith))

pub until-argument-requires : goal.until-argument-requires
until-argument-requires g t c κs within = let is : text_fault (get_or c.args.texts.now c.loop-each.each-index (record { ref_ptr = (0, 0); now = [] })).now ≡ None = mapped_text (λ x. x.now) c.args.texts.now c.loop-each.each-index (record { ref_ptr = (0, 0); now = [] }) c.requires (omega arith) in search rules

pub until-returns-in_err-value-clause-thinks : goal.until-returns-in_err-value-clause-thinks
until-returns-in_err-value-clause-thinks g t c =
    let back : c.from_residual.result ≡ Err c.in_err-value.field-0.0 = search rules in
    rw back (comes_by (until_wanted c.args.wanted (meaning (scene_of g.H.Host.powers c.args.place.this) c.args.deeper) (map (λ x. x.now) c.args.texts.now) (c.args.mind.now, g.H.Host.seen c.args.host.now)) (until_wanted c.args.wanted (meaning (scene_of g.H.Host.powers c.args.place.this) c.args.deeper) (drop c.loop-each.each-index (map (λ x. x.now) c.args.texts.now)) (c.loop-each.mind, g.H.Host.seen c.loop-each.host)) (c.argument.new.mind, g.H.Host.seen c.argument.new.host) (Err c.in_err-value.field-0.0) c.loop-each.invariant.whole (until_fails (meaning (scene_of g.H.Host.powers c.args.place.this) c.args.deeper) c.args.wanted (drop c.loop-each.each-index (map (λ x. x.now) c.args.texts.now)) (drop (c.loop-each.each-index + 1) (map (λ x. x.now) c.args.texts.now)) (get_or c.args.texts.now c.loop-each.each-index (record { ref_ptr = (0, 0); now = [] })).now (c.loop-each.mind, g.H.Host.seen c.loop-each.host) (c.argument.new.mind, g.H.Host.seen c.argument.new.host) c.in_err-value.field-0.0 (next_mapped (λ x. x.now) c.args.texts.now c.loop-each.each-index (record { ref_ptr = (0, 0); now = [] }) (omega arith)) c.in_err-value.ensures.thinks))

pub until-returns-then-is_alike-clause-thinks : goal.until-returns-then-is_alike-clause-thinks
until-returns-then-is_alike-clause-thinks g t c = c.loop-each.invariant.whole ∙ until_known (meaning (scene_of g.H.Host.powers c.args.place.this) c.args.deeper) c.args.wanted (drop c.loop-each.each-index (map (λ x. x.now) c.args.texts.now)) (drop (c.loop-each.each-index + 1) (map (λ x. x.now) c.args.texts.now)) (get_or c.args.texts.now c.loop-each.each-index (record { ref_ptr = (0, 0); now = [] })).now c.in_ok-value.value (c.loop-each.mind, g.H.Host.seen c.loop-each.host) (c.argument.new.mind, g.H.Host.seen c.argument.new.host) (next_mapped (λ x. x.now) c.args.texts.now c.loop-each.each-index (record { ref_ptr = (0, 0); now = [] }) (omega arith)) c.in_ok-value.ensures.thinks (sym c.is_alike.ensures ∙ c.if-is_alike.true) ∙ ap (λ t. (Ok t, (c.argument.new.mind, g.H.Host.seen c.argument.new.host))) (sym c.in_ok-truth.ensures)

pub until-loop-each-preserved : goal.until-loop-each-preserved
until-loop-each-preserved g t c = record {
  whole = c.loop-each.invariant.whole ∙ until_more (meaning (scene_of g.H.Host.powers c.args.place.this) c.args.deeper) c.args.wanted (drop c.loop-each.each-index (map (λ x. x.now) c.args.texts.now)) (drop (c.loop-each.each-index + 1) (map (λ x. x.now) c.args.texts.now)) (get_or c.args.texts.now c.loop-each.each-index (record { ref_ptr = (0, 0); now = [] })).now c.in_ok-value.value (c.loop-each.mind, g.H.Host.seen c.loop-each.host) (c.argument.new.mind, g.H.Host.seen c.argument.new.host) (next_mapped (λ x. x.now) c.args.texts.now c.loop-each.each-index (record { ref_ptr = (0, 0); now = [] }) (omega arith)) c.in_ok-value.ensures.thinks (sym c.is_alike.ensures ∙ c.if-is_alike.false);
  same = g.met.H.Host.same_both c.args.host.now c.loop-each.host c.argument.new.host c.loop-each.invariant.same c.argument.ensures.same;
}

pub until-returns-clause-thinks : goal.until-returns-clause-thinks
until-returns-clause-thinks g t c = c.loop-each.invariant.whole ∙ until_end (meaning (scene_of g.H.Host.powers c.args.place.this) c.args.deeper) c.args.wanted (drop c.loop-each.each-index (map (λ x. x.now) c.args.texts.now)) (c.loop-each.mind, g.H.Host.seen c.loop-each.host) (none_mapped (λ x. x.now) c.args.texts.now c.loop-each.each-index (omega arith)) ∙ ap (λ t. (Ok t, (c.loop-each.mind, g.H.Host.seen c.loop-each.host))) (sym c.in_ok-truth-2.ensures)

pub while_true-loop-turn-init : goal.while_true-loop-turn-init
while_true-loop-turn-init g t c = record {
  whole = turns_begin (meaning (scene_of g.H.Host.powers c.args.place.this) c.args.deeper) (map (λ x. x.now) c.args.texts.now) c.in_ok-last.last (c.args.mind.now, g.H.Host.seen c.args.host.now) ((c.from-turns.result + 1) - 0) (omega arith) c.in_ok-last.ensures;
  same = g.met.H.Host.same_self c.args.host.now;
}

pub while_true-returns-in_err-test-clause-thinks : goal.while_true-returns-in_err-test-clause-thinks
while_true-returns-in_err-test-clause-thinks g t c =
    let back : c.from_residual-in_err-test.result ≡ Err c.in_err-test.field-0.0 = search rules in
    rw back (comes_by (while_true (meaning (scene_of g.H.Host.powers c.args.place.this) c.args.deeper) (map (λ x. x.now) c.args.texts.now) (c.args.mind.now, g.H.Host.seen c.args.host.now)) (turns_while (suc ((c.from-turns.result + 1) - c.loop-turn._turn - 1)) (meaning (scene_of g.H.Host.powers c.args.place.this) c.args.deeper) (nth 0 (map (λ x. x.now) c.args.texts.now)) (nth 1 (map (λ x. x.now) c.args.texts.now)) c.loop-turn.last (c.loop-turn.mind, g.H.Host.seen c.loop-turn.host)) (c.text.new.mind, g.H.Host.seen c.text.new.host) (Err c.in_err-test.field-0.0) (c.loop-turn.invariant.whole ∙ ap (λ n. turns_while n (meaning (scene_of g.H.Host.powers c.args.place.this) c.args.deeper) (nth 0 (map (λ x. x.now) c.args.texts.now)) (nth 1 (map (λ x. x.now) c.args.texts.now)) c.loop-turn.last (c.loop-turn.mind, g.H.Host.seen c.loop-turn.host)) (let e : (c.from-turns.result + 1) - c.loop-turn._turn ≡ suc ((c.from-turns.result + 1) - c.loop-turn._turn - 1) = omega arith in e)) (while_test_fails (meaning (scene_of g.H.Host.powers c.args.place.this) c.args.deeper) ((c.from-turns.result + 1) - c.loop-turn._turn - 1) (nth 0 (map (λ x. x.now) c.args.texts.now)) (nth 1 (map (λ x. x.now) c.args.texts.now)) c.loop-turn.last (c.loop-turn.mind, g.H.Host.seen c.loop-turn.host) (c.text.new.mind, g.H.Host.seen c.text.new.host) c.in_err-test.field-0.0 (subst (λ x. Thinks ((meaning (scene_of g.H.Host.powers c.args.place.this) c.args.deeper) x) (c.loop-turn.mind, g.H.Host.seen c.loop-turn.host) (c.text.new.mind, g.H.Host.seen c.text.new.host) (Err c.in_err-test.field-0.0)) c.text_at.ensures.value c.in_err-test.ensures.thinks)))

pub while_true-returns-then-not-is_true-clause-thinks : goal.while_true-returns-then-not-is_true-clause-thinks
while_true-returns-then-not-is_true-clause-thinks g t c = c.loop-turn.invariant.whole ∙ ap (λ n. turns_while n (meaning (scene_of g.H.Host.powers c.args.place.this) c.args.deeper) (nth 0 (map (λ x. x.now) c.args.texts.now)) (nth 1 (map (λ x. x.now) c.args.texts.now)) c.loop-turn.last (c.loop-turn.mind, g.H.Host.seen c.loop-turn.host)) (let e : (c.from-turns.result + 1) - c.loop-turn._turn ≡ suc ((c.from-turns.result + 1) - c.loop-turn._turn - 1) = omega arith in e) ∙ while_stops (meaning (scene_of g.H.Host.powers c.args.place.this) c.args.deeper) ((c.from-turns.result + 1) - c.loop-turn._turn - 1) (nth 0 (map (λ x. x.now) c.args.texts.now)) (nth 1 (map (λ x. x.now) c.args.texts.now)) c.loop-turn.last c.in_ok-test.test (c.loop-turn.mind, g.H.Host.seen c.loop-turn.host) (c.text.new.mind, g.H.Host.seen c.text.new.host) (subst (λ x. (meaning (scene_of g.H.Host.powers c.args.place.this) c.args.deeper) x (c.loop-turn.mind, g.H.Host.seen c.loop-turn.host) ≡ (Ok c.in_ok-test.test, (c.text.new.mind, g.H.Host.seen c.text.new.host))) c.text_at.ensures.value c.in_ok-test.ensures.thinks) (let no : is_true_text c.in_ok-test.test ≡ false = search rules in no)

pub while_true-returns-in_err-count-clause-thinks : goal.while_true-returns-in_err-count-clause-thinks
while_true-returns-in_err-count-clause-thinks g t c =
    let back : c.from_residual-in_err-count.result ≡ Err c.in_err-count.field-0.0 = search rules in
    rw back (comes_by (while_true (meaning (scene_of g.H.Host.powers c.args.place.this) c.args.deeper) (map (λ x. x.now) c.args.texts.now) (c.args.mind.now, g.H.Host.seen c.args.host.now)) (turns_while (suc ((c.from-turns.result + 1) - c.loop-turn._turn - 1)) (meaning (scene_of g.H.Host.powers c.args.place.this) c.args.deeper) (nth 0 (map (λ x. x.now) c.args.texts.now)) (nth 1 (map (λ x. x.now) c.args.texts.now)) c.loop-turn.last (c.loop-turn.mind, g.H.Host.seen c.loop-turn.host)) (c.count.new.self, g.H.Host.seen c.text.new.host) (Err c.in_err-count.field-0.0) (c.loop-turn.invariant.whole ∙ ap (λ n. turns_while n (meaning (scene_of g.H.Host.powers c.args.place.this) c.args.deeper) (nth 0 (map (λ x. x.now) c.args.texts.now)) (nth 1 (map (λ x. x.now) c.args.texts.now)) c.loop-turn.last (c.loop-turn.mind, g.H.Host.seen c.loop-turn.host)) (let e : (c.from-turns.result + 1) - c.loop-turn._turn ≡ suc ((c.from-turns.result + 1) - c.loop-turn._turn - 1) = omega arith in e)) (while_count_fails (meaning (scene_of g.H.Host.powers c.args.place.this) c.args.deeper) ((c.from-turns.result + 1) - c.loop-turn._turn - 1) (nth 0 (map (λ x. x.now) c.args.texts.now)) (nth 1 (map (λ x. x.now) c.args.texts.now)) c.loop-turn.last c.in_ok-test.test (c.loop-turn.mind, g.H.Host.seen c.loop-turn.host) (c.text.new.mind, g.H.Host.seen c.text.new.host) c.count.new.self c.in_err-count.field-0.0 (subst (λ x. (meaning (scene_of g.H.Host.powers c.args.place.this) c.args.deeper) x (c.loop-turn.mind, g.H.Host.seen c.loop-turn.host) ≡ (Ok c.in_ok-test.test, (c.text.new.mind, g.H.Host.seen c.text.new.host))) c.text_at.ensures.value c.in_ok-test.ensures.thinks) (let yes : is_true_text c.in_ok-test.test ≡ true = search rules in yes) c.in_err-count.ensures))

pub while_true-returns-in_err-last-2-clause-thinks : goal.while_true-returns-in_err-last-2-clause-thinks
while_true-returns-in_err-last-2-clause-thinks g t c =
    let back : c.from_residual-in_err-last-2.result ≡ Err c.in_err-last-2.field-0.0 = search rules in
    rw back (comes_by (while_true (meaning (scene_of g.H.Host.powers c.args.place.this) c.args.deeper) (map (λ x. x.now) c.args.texts.now) (c.args.mind.now, g.H.Host.seen c.args.host.now)) (turns_while (suc ((c.from-turns.result + 1) - c.loop-turn._turn - 1)) (meaning (scene_of g.H.Host.powers c.args.place.this) c.args.deeper) (nth 0 (map (λ x. x.now) c.args.texts.now)) (nth 1 (map (λ x. x.now) c.args.texts.now)) c.loop-turn.last (c.loop-turn.mind, g.H.Host.seen c.loop-turn.host)) (c.text-in-loop-turn.new.mind, g.H.Host.seen c.text-in-loop-turn.new.host) (Err c.in_err-last-2.field-0.0) (c.loop-turn.invariant.whole ∙ ap (λ n. turns_while n (meaning (scene_of g.H.Host.powers c.args.place.this) c.args.deeper) (nth 0 (map (λ x. x.now) c.args.texts.now)) (nth 1 (map (λ x. x.now) c.args.texts.now)) c.loop-turn.last (c.loop-turn.mind, g.H.Host.seen c.loop-turn.host)) (let e : (c.from-turns.result + 1) - c.loop-turn._turn ≡ suc ((c.from-turns.result + 1) - c.loop-turn._turn - 1) = omega arith in e)) (while_body_fails (meaning (scene_of g.H.Host.powers c.args.place.this) c.args.deeper) ((c.from-turns.result + 1) - c.loop-turn._turn - 1) (nth 0 (map (λ x. x.now) c.args.texts.now)) (nth 1 (map (λ x. x.now) c.args.texts.now)) c.loop-turn.last c.in_ok-test.test (c.loop-turn.mind, g.H.Host.seen c.loop-turn.host) (c.text.new.mind, g.H.Host.seen c.text.new.host) (c.text-in-loop-turn.new.mind, g.H.Host.seen c.text-in-loop-turn.new.host) c.count.new.self c.in_err-last-2.field-0.0 (subst (λ x. (meaning (scene_of g.H.Host.powers c.args.place.this) c.args.deeper) x (c.loop-turn.mind, g.H.Host.seen c.loop-turn.host) ≡ (Ok c.in_ok-test.test, (c.text.new.mind, g.H.Host.seen c.text.new.host))) c.text_at.ensures.value c.in_ok-test.ensures.thinks) (let yes : is_true_text c.in_ok-test.test ≡ true = search rules in yes) c.in_ok-count.ensures (subst (λ x. Thinks ((meaning (scene_of g.H.Host.powers c.args.place.this) c.args.deeper) x) (c.count.new.self, g.H.Host.seen c.text.new.host) (c.text-in-loop-turn.new.mind, g.H.Host.seen c.text-in-loop-turn.new.host) (Err c.in_err-last-2.field-0.0)) c.text_at-in-loop-turn.ensures.value c.in_err-last-2.ensures.thinks)))

pub while_true-loop-turn-preserved : goal.while_true-loop-turn-preserved
while_true-loop-turn-preserved g t c = record {
  whole = c.loop-turn.invariant.whole ∙ ap (λ n. turns_while n (meaning (scene_of g.H.Host.powers c.args.place.this) c.args.deeper) (nth 0 (map (λ x. x.now) c.args.texts.now)) (nth 1 (map (λ x. x.now) c.args.texts.now)) c.loop-turn.last (c.loop-turn.mind, g.H.Host.seen c.loop-turn.host)) (let e : (c.from-turns.result + 1) - c.loop-turn._turn ≡ suc ((c.from-turns.result + 1) - c.loop-turn._turn - 1) = omega arith in e) ∙ while_turns (meaning (scene_of g.H.Host.powers c.args.place.this) c.args.deeper) ((c.from-turns.result + 1) - c.loop-turn._turn - 1) (nth 0 (map (λ x. x.now) c.args.texts.now)) (nth 1 (map (λ x. x.now) c.args.texts.now)) c.loop-turn.last c.in_ok-test.test c.in_ok-last-2.last (c.loop-turn.mind, g.H.Host.seen c.loop-turn.host) (c.text.new.mind, g.H.Host.seen c.text.new.host) (c.text-in-loop-turn.new.mind, g.H.Host.seen c.text-in-loop-turn.new.host) c.count.new.self (subst (λ x. (meaning (scene_of g.H.Host.powers c.args.place.this) c.args.deeper) x (c.loop-turn.mind, g.H.Host.seen c.loop-turn.host) ≡ (Ok c.in_ok-test.test, (c.text.new.mind, g.H.Host.seen c.text.new.host))) c.text_at.ensures.value c.in_ok-test.ensures.thinks) (let yes : is_true_text c.in_ok-test.test ≡ true = search rules in yes) c.in_ok-count.ensures (subst (λ x. (meaning (scene_of g.H.Host.powers c.args.place.this) c.args.deeper) x (c.count.new.self, g.H.Host.seen c.text.new.host) ≡ (Ok c.in_ok-last-2.last, (c.text-in-loop-turn.new.mind, g.H.Host.seen c.text-in-loop-turn.new.host))) c.text_at-in-loop-turn.ensures.value c.in_ok-last-2.ensures.thinks) ∙ ap (λ n. turns_while n (meaning (scene_of g.H.Host.powers c.args.place.this) c.args.deeper) (nth 0 (map (λ x. x.now) c.args.texts.now)) (nth 1 (map (λ x. x.now) c.args.texts.now)) c.in_ok-last-2.last (c.text-in-loop-turn.new.mind, g.H.Host.seen c.text-in-loop-turn.new.host)) (let e : ((c.from-turns.result + 1) - c.loop-turn._turn - 1) ≡ (c.from-turns.result + 1) - (c.loop-turn._turn + 1) = omega arith in e);
  same = g.met.H.Host.same_both c.args.host.now c.text.new.host c.text-in-loop-turn.new.host (g.met.H.Host.same_both c.args.host.now c.loop-turn.host c.text.new.host c.loop-turn.invariant.same c.text.ensures.same) c.text-in-loop-turn.ensures.same;
}

pub while_true-returns-clause-thinks : goal.while_true-returns-clause-thinks
while_true-returns-clause-thinks g t c = c.loop-turn.invariant.whole ∙ while_ends (meaning (scene_of g.H.Host.powers c.args.place.this) c.args.deeper) ((c.from-turns.result + 1) - c.loop-turn._turn) (nth 0 (map (λ x. x.now) c.args.texts.now)) (nth 1 (map (λ x. x.now) c.args.texts.now)) c.loop-turn.last (c.loop-turn.mind, g.H.Host.seen c.loop-turn.host) (omega arith)

pub in_scope-returns-in_err-values-clause-thinks : goal.in_scope-returns-in_err-values-clause-thinks
in_scope-returns-in_err-values-clause-thinks g t c =
    let back : c.from_residual.result ≡ Err c.in_err-values.field-0.0 = search rules in
    rw back (scope_fails (meaning (scene_of g.H.Host.powers c.args.place.this) c.args.deeper) c.args.scope (map (λ x. x.now) c.args.texts.now) (map (λ x. x.now) c.texts_before.result.now) (c.args.mind.now, g.H.Host.seen c.args.host.now) (c.values_of.new.mind, g.H.Host.seen c.values_of.new.host) c.in_err-values.field-0.0 (c.texts_before.ensures.value ∙ ap (λ n. take n (map (λ x. x.now) c.args.texts.now)) c.before_body-at.ensures) c.in_err-values.ensures.thinks)

pub in_scope-returns-in_err-answer-clause-thinks : goal.in_scope-returns-in_err-answer-clause-thinks
in_scope-returns-in_err-answer-clause-thinks g t c =
    let fault = c.in_err-answer.field-0.0 in
    let back : c.from_residual-in_err-answer.result ≡ Err fault = search rules in
    rw back (alike_fails (scene_of g.H.Host.powers c.args.place.this) c.args.deeper c.args.scope (map (λ x. x.now) c.args.texts.now) (map (λ x. x.now) c.texts_before.result.now) c.in_ok-values.values.items c.text_at-body.result.now fault (c.args.mind.now, g.H.Host.seen c.args.host.now) (c.values_of.new.mind, g.H.Host.seen c.values_of.new.host)
    (c.texts_before.ensures.value ∙ ap (λ n. take n (map (λ x. x.now) c.args.texts.now)) c.before_body-at.ensures) c.in_ok-values.ensures.thinks
    (c.text_at-body.ensures.value ∙ ap (λ n. nth n (map (λ x. x.now) c.args.texts.now)) c.before_body-at.ensures) c.text_at-body.ensures.text
    (subst (λ xs. Means (transposed (answer_alike c.args.scope xs c.text_at-body.result.now)) (Err fault)) c.deref.ensures.value c.in_err-answer.ensures))

pub in_scope-returns-in-Some-clause-thinks : goal.in_scope-returns-in-Some-clause-thinks
in_scope-returns-in-Some-clause-thinks g t c =
    let known : transposed (answer_alike c.args.scope c.deref.result.now c.text_at-body.result.now) ≡ Ok (Some c.in-Some.answer) = search rules in
    alike_answers (scene_of g.H.Host.powers c.args.place.this) c.args.deeper c.args.scope (map (λ x. x.now) c.args.texts.now) (map (λ x. x.now) c.texts_before.result.now) c.in_ok-values.values.items c.text_at-body.result.now c.in-Some.answer (c.args.mind.now, g.H.Host.seen c.args.host.now) (c.values_of.new.mind, g.H.Host.seen c.values_of.new.host)
    (c.texts_before.ensures.value ∙ ap (λ n. take n (map (λ x. x.now) c.args.texts.now)) c.before_body-at.ensures) c.in_ok-values.ensures.thinks
    (c.text_at-body.ensures.value ∙ ap (λ n. nth n (map (λ x. x.now) c.args.texts.now)) c.before_body-at.ensures) c.text_at-body.ensures.text
    (subst (λ xs. transposed (answer_alike c.args.scope xs c.text_at-body.result.now) ≡ Ok (Some c.in-Some.answer)) c.deref.ensures.value known)

pub in_scope-returns-clause-thinks : goal.in_scope-returns-clause-thinks
in_scope-returns-clause-thinks g t c =
    let values = c.in_ok-values.values.items in
    let name_is : c.in_ok-name.name ≡ nth 0 values = c.in_ok-name.ensures ∙ ap (λ xs. nth 0 xs) c.deref-2.ensures.value in
    let body_is : c.text_at-body.result.now ≡ nth (before_body c.args.scope) (map (λ x. x.now) c.args.texts.now) = c.text_at-body.ensures.value ∙ ap (λ n. nth n (map (λ x. x.now) c.args.texts.now)) c.before_body-at.ensures in
    let done : Thinks (bodies_in_scope c.args.scope (meaning (scene_of g.H.Host.powers c.args.place.this) c.args.deeper) values (nth (before_body c.args.scope) (map (λ x. x.now) c.args.texts.now))) (c.values_of.new.mind, g.H.Host.seen c.values_of.new.host) (c.bodies-answer.new.mind, g.H.Host.seen c.bodies-answer.new.host) c.bodies-answer.result =
    subst (λ b. Thinks (bodies_in_scope c.args.scope (meaning (scene_of g.H.Host.powers c.args.place.this) c.args.deeper) values b) (c.values_of.new.mind, g.H.Host.seen c.values_of.new.host) (c.bodies-answer.new.mind, g.H.Host.seen c.bodies-answer.new.host) c.bodies-answer.result) body_is
    (subst (λ xs. Thinks (bodies_in_scope c.args.scope (meaning (scene_of g.H.Host.powers c.args.place.this) c.args.deeper) xs c.text_at-body.result.now) (c.values_of.new.mind, g.H.Host.seen c.values_of.new.host) (c.bodies-answer.new.mind, g.H.Host.seen c.bodies-answer.new.host) c.bodies-answer.result) c.deref-3.ensures.value c.bodies-answer.ensures.thinks) in
    let back : c.give_back.new.self ≡ given_back_in (nth 0 values) (get c.values_of.new.mind.variables (nth 0 values)) c.bodies-answer.new.mind =
    c.in_ok-give_back.ensures ∙ (λ i. given_back_in (name_is i) ((c.in_ok-old.ensures ∙ ap (λ n. get c.values_of.new.mind.variables n) name_is) i) c.bodies-answer.new.mind) in
    scope_comes (meaning (scene_of g.H.Host.powers c.args.place.this) c.args.deeper) c.args.scope (map (λ x. x.now) c.args.texts.now) (map (λ x. x.now) c.texts_before.result.now) values (c.args.mind.now, g.H.Host.seen c.args.host.now) (c.values_of.new.mind, g.H.Host.seen c.values_of.new.host) (c.bodies-answer.new.mind, g.H.Host.seen c.bodies-answer.new.host) (c.give_back.new.self, g.H.Host.seen c.bodies-answer.new.host) c.bodies-answer.result (c.texts_before.ensures.value ∙ ap (λ n. take n (map (λ x. x.now) c.args.texts.now)) c.before_body-at.ensures) c.in_ok-values.ensures.thinks done (ap (λ m. (m, g.H.Host.seen c.bodies-answer.new.host)) back)

pub bodies-returns-in_ok-value-in-Once-clause-thinks : goal.bodies-returns-in_ok-value-in-Once-clause-thinks
bodies-returns-in_ok-value-in-Once-clause-thinks g t c = once_comes (meaning (scene_of g.H.Host.powers c.args.place.this) c.args.deeper) c.args.scope c.args.values.now c.nth-name.result.now c.in_ok-value-in-Once.value c.args.body.now (c.args.mind.now, g.H.Host.seen c.args.host.now) (c.text_with.new.mind, g.H.Host.seen c.text_with.new.host) c.text_with.result c.in-Once.is c.nth-name.ensures.value c.in_ok-value-in-Once.ensures c.text_with.ensures.thinks

pub bodies-returns-in-Numbers-clause-thinks : goal.bodies-returns-in-Numbers-clause-thinks
bodies-returns-in-Numbers-clause-thinks g t c = numbers_come (meaning (scene_of g.H.Host.powers c.args.place.this) c.args.deeper) c.args.scope c.args.values.now c.nth-name.result.now c.args.body.now c.range_of.result.from c.range_of.result.end c.range_of.result.step (c.args.mind.now, g.H.Host.seen c.args.host.now) (c.turns_for.new.mind, g.H.Host.seen c.turns_for.new.host) c.turns_for.result c.in-Numbers.is c.nth-name.ensures.value c.range_of.ensures.from c.range_of.ensures.end c.range_of.ensures.step c.turns_for.ensures.thinks

pub bodies-returns-in-Items-clause-thinks : goal.bodies-returns-in-Items-clause-thinks
bodies-returns-in-Items-clause-thinks g t c = items_come (meaning (scene_of g.H.Host.powers c.args.place.this) c.args.deeper) c.args.scope c.in-Items.keep c.args.values.now c.nth-name.result.now c.nth.result.now c.args.body.now (c.args.mind.now, g.H.Host.seen c.args.host.now) (c.each_item.new.mind, g.H.Host.seen c.each_item.new.host) c.each_item.result c.in-Items.is c.nth-name.ensures.value c.nth.ensures.value c.each_item.ensures.thinks

pub text_with-returns-clause-thinks : goal.text_with-returns-clause-thinks
text_with-returns-clause-thinks g t c = with_is (meaning (scene_of g.H.Host.powers c.args.place.this) c.args.deeper) c.args.name.now c.args.value c.args.body.now (c.args.mind.now, g.H.Host.seen c.args.host.now) (c.set.new.self, g.H.Host.seen c.args.host.now) (c.text.new.mind, g.H.Host.seen c.text.new.host) c.text.result (ap (λ m. (m, g.H.Host.seen c.args.host.now)) c.in_ok-set.ensures) c.text.ensures.thinks

pub turns_for-returns-in_default-clause-thinks : goal.turns_for-returns-in_default-clause-thinks
turns_for-returns-in_default-clause-thinks g t c = c.loop-turn.invariant.whole ∙ ap (λ n. turns_for n (meaning (scene_of g.H.Host.powers c.args.place.this) c.args.deeper) c.args.name.now c.args.body.now c.args.range.end c.args.range.step c.loop-turn.next c.loop-turn.last (c.loop-turn.mind, g.H.Host.seen c.loop-turn.host)) (let e : (c.from-turns.result + 1) - c.loop-turn._turn ≡ suc ((c.from-turns.result + 1) - c.loop-turn._turn - 1) = omega arith in e) ∙ for_stops (meaning (scene_of g.H.Host.powers c.args.place.this) c.args.deeper) ((c.from-turns.result + 1) - c.loop-turn._turn - 1) c.args.name.now c.args.body.now c.args.range.end c.args.range.step c.loop-turn.next c.loop-turn.last (c.loop-turn.mind, g.H.Host.seen c.loop-turn.host) (sym c.in_default.ensures)

pub turns_for-returns-in_err-count-clause-thinks : goal.turns_for-returns-in_err-count-clause-thinks
turns_for-returns-in_err-count-clause-thinks g t c =
    let back : c.from_residual-in_err-count.result ≡ Err c.in_err-count.field-0.0 = search rules in
    rw back (comes_by (turns_for (suc c.args.mind.now.left) (meaning (scene_of g.H.Host.powers c.args.place.this) c.args.deeper) c.args.name.now c.args.body.now c.args.range.end c.args.range.step (Some c.args.range.from) [] (c.args.mind.now, g.H.Host.seen c.args.host.now)) (turns_for (suc ((c.from-turns.result + 1) - c.loop-turn._turn - 1)) (meaning (scene_of g.H.Host.powers c.args.place.this) c.args.deeper) c.args.name.now c.args.body.now c.args.range.end c.args.range.step c.loop-turn.next c.loop-turn.last (c.loop-turn.mind, g.H.Host.seen c.loop-turn.host)) (c.count.new.self, g.H.Host.seen c.loop-turn.host) (Err c.in_err-count.field-0.0) (c.loop-turn.invariant.whole ∙ ap (λ n. turns_for n (meaning (scene_of g.H.Host.powers c.args.place.this) c.args.deeper) c.args.name.now c.args.body.now c.args.range.end c.args.range.step c.loop-turn.next c.loop-turn.last (c.loop-turn.mind, g.H.Host.seen c.loop-turn.host)) (let e : (c.from-turns.result + 1) - c.loop-turn._turn ≡ suc ((c.from-turns.result + 1) - c.loop-turn._turn - 1) = omega arith in e)) (for_count_fails (meaning (scene_of g.H.Host.powers c.args.place.this) c.args.deeper) ((c.from-turns.result + 1) - c.loop-turn._turn - 1) c.args.name.now c.args.body.now c.args.range.end c.args.range.step c.loop-turn.next c.in-Some.i c.loop-turn.last (c.loop-turn.mind, g.H.Host.seen c.loop-turn.host) c.count.new.self c.in_err-count.field-0.0 (sym c.in-Some.ensures) c.in_err-count.ensures))

pub turns_for-returns-in_err-last-2-clause-thinks : goal.turns_for-returns-in_err-last-2-clause-thinks
turns_for-returns-in_err-last-2-clause-thinks g t c =
    let back : c.from_residual-in_err-last-2.result ≡ Err c.in_err-last-2.field-0.0 = search rules in
    let value_is : c.in_ok-value.value ≡ signed_decimal c.in-Some.i = search rules in
    rw back (comes_by (turns_for (suc c.args.mind.now.left) (meaning (scene_of g.H.Host.powers c.args.place.this) c.args.deeper) c.args.name.now c.args.body.now c.args.range.end c.args.range.step (Some c.args.range.from) [] (c.args.mind.now, g.H.Host.seen c.args.host.now)) (turns_for (suc ((c.from-turns.result + 1) - c.loop-turn._turn - 1)) (meaning (scene_of g.H.Host.powers c.args.place.this) c.args.deeper) c.args.name.now c.args.body.now c.args.range.end c.args.range.step c.loop-turn.next c.loop-turn.last (c.loop-turn.mind, g.H.Host.seen c.loop-turn.host)) (c.text_with.new.mind, g.H.Host.seen c.text_with.new.host) (Err c.in_err-last-2.field-0.0) (c.loop-turn.invariant.whole ∙ ap (λ n. turns_for n (meaning (scene_of g.H.Host.powers c.args.place.this) c.args.deeper) c.args.name.now c.args.body.now c.args.range.end c.args.range.step c.loop-turn.next c.loop-turn.last (c.loop-turn.mind, g.H.Host.seen c.loop-turn.host)) (let e : (c.from-turns.result + 1) - c.loop-turn._turn ≡ suc ((c.from-turns.result + 1) - c.loop-turn._turn - 1) = omega arith in e)) (for_body_fails (meaning (scene_of g.H.Host.powers c.args.place.this) c.args.deeper) ((c.from-turns.result + 1) - c.loop-turn._turn - 1) c.args.name.now c.args.body.now c.args.range.end c.args.range.step c.loop-turn.next c.in-Some.i c.loop-turn.last (c.loop-turn.mind, g.H.Host.seen c.loop-turn.host) (c.text_with.new.mind, g.H.Host.seen c.text_with.new.host) c.count.new.self c.in_err-last-2.field-0.0 (sym c.in-Some.ensures) c.in_ok-count.ensures (subst (λ x. Thinks (text_with (meaning (scene_of g.H.Host.powers c.args.place.this) c.args.deeper) c.args.name.now x c.args.body.now) (c.count.new.self, g.H.Host.seen c.loop-turn.host) (c.text_with.new.mind, g.H.Host.seen c.text_with.new.host) (Err c.in_err-last-2.field-0.0)) value_is c.in_err-last-2.ensures.thinks)))

pub turns_for-loop-turn-preserved : goal.turns_for-loop-turn-preserved
turns_for-loop-turn-preserved g t c =
    let value_is : c.in_ok-value.value ≡ signed_decimal c.in-Some.i = search rules in
    let next_is : next_number c.in-Some.i c.args.range.step ≡ c.checked_add-next.result = search rules in
    record {
      whole = c.loop-turn.invariant.whole ∙ ap (λ n. turns_for n (meaning (scene_of g.H.Host.powers c.args.place.this) c.args.deeper) c.args.name.now c.args.body.now c.args.range.end c.args.range.step c.loop-turn.next c.loop-turn.last (c.loop-turn.mind, g.H.Host.seen c.loop-turn.host)) (let e : (c.from-turns.result + 1) - c.loop-turn._turn ≡ suc ((c.from-turns.result + 1) - c.loop-turn._turn - 1) = omega arith in e) ∙ for_turns (meaning (scene_of g.H.Host.powers c.args.place.this) c.args.deeper) ((c.from-turns.result + 1) - c.loop-turn._turn - 1) c.args.name.now c.args.body.now c.args.range.end c.args.range.step c.loop-turn.next c.in-Some.i c.loop-turn.last c.in_ok-last-2.last (c.loop-turn.mind, g.H.Host.seen c.loop-turn.host) (c.text_with.new.mind, g.H.Host.seen c.text_with.new.host) c.count.new.self (sym c.in-Some.ensures) c.in_ok-count.ensures (subst (λ x. text_with (meaning (scene_of g.H.Host.powers c.args.place.this) c.args.deeper) c.args.name.now x c.args.body.now (c.count.new.self, g.H.Host.seen c.loop-turn.host) ≡ (Ok c.in_ok-last-2.last, (c.text_with.new.mind, g.H.Host.seen c.text_with.new.host))) value_is c.in_ok-last-2.ensures.thinks)
          ∙ ap (λ n. turns_for n (meaning (scene_of g.H.Host.powers c.args.place.this) c.args.deeper) c.args.name.now c.args.body.now c.args.range.end c.args.range.step (next_number c.in-Some.i c.args.range.step) c.in_ok-last-2.last (c.text_with.new.mind, g.H.Host.seen c.text_with.new.host)) (let e : ((c.from-turns.result + 1) - c.loop-turn._turn - 1) ≡ (c.from-turns.result + 1) - (c.loop-turn._turn + 1) = omega arith in e)
          ∙ ap (λ x. turns_for ((c.from-turns.result + 1) - (c.loop-turn._turn + 1)) (meaning (scene_of g.H.Host.powers c.args.place.this) c.args.deeper) c.args.name.now c.args.body.now c.args.range.end c.args.range.step x c.in_ok-last-2.last (c.text_with.new.mind, g.H.Host.seen c.text_with.new.host)) next_is;
      same = g.met.H.Host.same_both c.args.host.now c.loop-turn.host c.text_with.new.host c.loop-turn.invariant.same c.text_with.ensures.same;
    }

pub turns_for-returns-clause-thinks : goal.turns_for-returns-clause-thinks
turns_for-returns-clause-thinks g t c = c.loop-turn.invariant.whole ∙ for_ends (meaning (scene_of g.H.Host.powers c.args.place.this) c.args.deeper) ((c.from-turns.result + 1) - c.loop-turn._turn) c.args.name.now c.args.body.now c.args.range.end c.args.range.step c.loop-turn.next c.loop-turn.last (c.loop-turn.mind, g.H.Host.seen c.loop-turn.host) (omega arith)

pub each_item-of_text-requires : goal.each_item-of_text-requires
each_item-of_text-requires g t c = mapped_text (λ x. x.now) c.deref-item-items.result.now c.loop-item.item-index (record { ref_ptr = (0, 0); now = [] }) (subst (λ xs. list_all is_text xs ≡ true) (sym (let e : (map (λ x. x.now) c.deref-item-items.result.now) ≡ items c.args.list.now = ap (map (λ x. x.now)) c.deref-item-items.ensures.value ∙ c.in_ok-parts.ensures in e)) (items_are_texts c.args.list.now c.requires.list)) (omega arith)

pub each_item-returns-in_err-answer-clause-thinks : goal.each_item-returns-in_err-answer-clause-thinks
each_item-returns-in_err-answer-clause-thinks g t c =
    let back : c.from_residual-in_err-answer.result ≡ Err c.in_err-answer.field-0.0 = search rules in
    rw back (comes_by (each_item c.args.keep (meaning (scene_of g.H.Host.powers c.args.place.this) c.args.deeper) c.args.name.now c.args.body.now None (items c.args.list.now) (c.args.mind.now, g.H.Host.seen c.args.host.now)) (each_item c.args.keep (meaning (scene_of g.H.Host.powers c.args.place.this) c.args.deeper) c.args.name.now c.args.body.now (option_map (λ bytes. bytes.items) c.loop-item.gathered) (drop c.loop-item.item-index (map (λ x. x.now) c.deref-item-items.result.now)) (c.loop-item.mind, g.H.Host.seen c.loop-item.host)) (c.text_with.new.mind, g.H.Host.seen c.text_with.new.host) (Err c.in_err-answer.field-0.0) c.loop-item.invariant.whole (item_fails (meaning (scene_of g.H.Host.powers c.args.place.this) c.args.deeper) c.args.keep c.args.name.now c.args.body.now (option_map (λ bytes. bytes.items) c.loop-item.gathered) (drop c.loop-item.item-index (map (λ x. x.now) c.deref-item-items.result.now)) (drop (c.loop-item.item-index + 1) (map (λ x. x.now) c.deref-item-items.result.now)) (get_or c.deref-item-items.result.now c.loop-item.item-index (record { ref_ptr = (0, 0); now = [] })).now (c.loop-item.mind, g.H.Host.seen c.loop-item.host) (c.text_with.new.mind, g.H.Host.seen c.text_with.new.host) c.in_err-answer.field-0.0 (next_mapped (λ x. x.now) c.deref-item-items.result.now c.loop-item.item-index (record { ref_ptr = (0, 0); now = [] }) (omega arith)) (subst (λ x. Thinks (text_with (meaning (scene_of g.H.Host.powers c.args.place.this) c.args.deeper) c.args.name.now x c.args.body.now) (c.loop-item.mind, g.H.Host.seen c.loop-item.host) (c.text_with.new.mind, g.H.Host.seen c.text_with.new.host) (Err c.in_err-answer.field-0.0)) c.in_ok-value.ensures c.in_err-answer.ensures.thinks)))

pub each_item-returns-in_err-gathered-clause-thinks : goal.each_item-returns-in_err-gathered-clause-thinks
each_item-returns-in_err-gathered-clause-thinks g t c =
    let back : c.from_residual-in_err-gathered.result ≡ Err c.in_err-gathered.field-0.0 = search rules in
    rw back (comes_by (each_item c.args.keep (meaning (scene_of g.H.Host.powers c.args.place.this) c.args.deeper) c.args.name.now c.args.body.now None (items c.args.list.now) (c.args.mind.now, g.H.Host.seen c.args.host.now)) (each_item c.args.keep (meaning (scene_of g.H.Host.powers c.args.place.this) c.args.deeper) c.args.name.now c.args.body.now (option_map (λ bytes. bytes.items) c.loop-item.gathered) (drop c.loop-item.item-index (map (λ x. x.now) c.deref-item-items.result.now)) (c.loop-item.mind, g.H.Host.seen c.loop-item.host)) (c.text_with.new.mind, g.H.Host.seen c.text_with.new.host) (Err c.in_err-gathered.field-0.0) c.loop-item.invariant.whole (item_long (meaning (scene_of g.H.Host.powers c.args.place.this) c.args.deeper) c.args.keep c.args.name.now c.args.body.now (option_map (λ bytes. bytes.items) c.loop-item.gathered) (drop c.loop-item.item-index (map (λ x. x.now) c.deref-item-items.result.now)) (drop (c.loop-item.item-index + 1) (map (λ x. x.now) c.deref-item-items.result.now)) (get_or c.deref-item-items.result.now c.loop-item.item-index (record { ref_ptr = (0, 0); now = [] })).now c.in_ok-answer.answer (c.loop-item.mind, g.H.Host.seen c.loop-item.host) (c.text_with.new.mind, g.H.Host.seen c.text_with.new.host) c.in_err-gathered.field-0.0 (next_mapped (λ x. x.now) c.deref-item-items.result.now c.loop-item.item-index (record { ref_ptr = (0, 0); now = [] }) (omega arith)) (subst (λ x. text_with (meaning (scene_of g.H.Host.powers c.args.place.this) c.args.deeper) c.args.name.now x c.args.body.now (c.loop-item.mind, g.H.Host.seen c.loop-item.host) ≡ (Ok c.in_ok-answer.answer, (c.text_with.new.mind, g.H.Host.seen c.text_with.new.host))) c.in_ok-value.ensures c.in_ok-answer.ensures.thinks) (subst (λ x. Means (list_or_long (kept_item c.args.keep (option_map (λ bytes. bytes.items) c.loop-item.gathered) (get_or c.deref-item-items.result.now c.loop-item.item-index (record { ref_ptr = (0, 0); now = [] })).now x)) (Err c.in_err-gathered.field-0.0)) c.as_slice.ensures.bytes c.in_err-gathered.ensures.value)))

pub each_item-loop-item-preserved : goal.each_item-loop-item-preserved
each_item-loop-item-preserved g t c = record {
  whole = c.loop-item.invariant.whole ∙ item_more (meaning (scene_of g.H.Host.powers c.args.place.this) c.args.deeper) c.args.keep c.args.name.now c.args.body.now (option_map (λ bytes. bytes.items) c.loop-item.gathered) (option_map (λ bytes. bytes.items) c.in_ok-gathered.gathered) (drop c.loop-item.item-index (map (λ x. x.now) c.deref-item-items.result.now)) (drop (c.loop-item.item-index + 1) (map (λ x. x.now) c.deref-item-items.result.now)) (get_or c.deref-item-items.result.now c.loop-item.item-index (record { ref_ptr = (0, 0); now = [] })).now c.in_ok-answer.answer (c.loop-item.mind, g.H.Host.seen c.loop-item.host) (c.text_with.new.mind, g.H.Host.seen c.text_with.new.host) (next_mapped (λ x. x.now) c.deref-item-items.result.now c.loop-item.item-index (record { ref_ptr = (0, 0); now = [] }) (omega arith)) (subst (λ x. text_with (meaning (scene_of g.H.Host.powers c.args.place.this) c.args.deeper) c.args.name.now x c.args.body.now (c.loop-item.mind, g.H.Host.seen c.loop-item.host) ≡ (Ok c.in_ok-answer.answer, (c.text_with.new.mind, g.H.Host.seen c.text_with.new.host))) c.in_ok-value.ensures c.in_ok-answer.ensures.thinks) (subst (λ x. list_or_long (kept_item c.args.keep (option_map (λ bytes. bytes.items) c.loop-item.gathered) (get_or c.deref-item-items.result.now c.loop-item.item-index (record { ref_ptr = (0, 0); now = [] })).now x) ≡ Ok (option_map (λ bytes. bytes.items) c.in_ok-gathered.gathered)) c.as_slice.ensures.bytes c.in_ok-gathered.ensures.value);
  gathered = c.in_ok-gathered.ensures.texts;
  same = g.met.H.Host.same_both c.args.host.now c.loop-item.host c.text_with.new.host c.loop-item.invariant.same c.text_with.ensures.same;
}

pub each_item-returns-clause-thinks : goal.each_item-returns-clause-thinks
each_item-returns-clause-thinks g t c = c.loop-item.invariant.whole ∙ item_end (meaning (scene_of g.H.Host.powers c.args.place.this) c.args.deeper) c.args.keep c.args.name.now c.args.body.now (option_map (λ bytes. bytes.items) c.loop-item.gathered) (drop c.loop-item.item-index (map (λ x. x.now) c.deref-item-items.result.now)) (c.loop-item.mind, g.H.Host.seen c.loop-item.host) (none_mapped (λ x. x.now) c.deref-item-items.result.now c.loop-item.item-index (omega arith)) ∙ ap (λ t. (Ok t, (c.loop-item.mind, g.H.Host.seen c.loop-item.host))) (sym c.in_ok-line_gathered.ensures)
