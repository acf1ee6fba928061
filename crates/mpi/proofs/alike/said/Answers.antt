use Rattle.std.proofs.Common.{rules, arith, sym, subst, ap, ◌∙◌, ◌≡◌, [], ◌∷◌, ◌++◌, length, length-append}
use Rattle.std.specs.Prelude.{Some, option_map}
use Rattle.std.proofs.lemmas.List.{append-nil}
use Rattle.muck_laws.proofs.Lists.{no_items}
use Rattle.mpi.specs.Brackets.{formula_pieces, seen_piece, IsPart}
use Rattle.mpi.specs.Made.{Inside}
use Rattle.mpi.specs.inner.Alike.{said}
use Rattle.mpi.proofs.AlikeItems.{said_end, said_call, said_byte}
use Rattle.mpi.proofs.Inside.{inside_more, inside_byte, made_is_text}
use Rattle.mpi.proofs.alike.said.Goals as goal

pub returns-in-Call : goal.returns-in-Call
returns-in-Call c =
    let first_is : c.loop-first.rest.now ≡ c.in-Some.first.now ∷ c.in-Some.more.now = search rules in
    let behind = option_map (λ xs. c.loop-first.out.items ++ xs) in
    sym (c.loop-first.invariant.whole ∙ ap (λ xs. behind (said (formula_pieces xs))) first_is
    ∙ ap behind (said_call c.in-Some.first.now c.in-Some.more.now c.piece_ahead-ahead.result.rest.now c.in-Call.field-0.now (ap (λ p. (seen_piece p, c.piece_ahead-ahead.result.rest.now)) (sym c.in-Call.is) ∙ c.piece_ahead-ahead.ensures.value)))

pub loop-first-preserved : goal.loop-first-preserved
loop-first-preserved c =
    let out = c.loop-first.out.items in
    let byte = c.in-Byte.byte in
    let rest = c.piece_ahead-ahead.result.rest.now in
    let first_is : c.loop-first.rest.now ≡ c.in-Some.first.now ∷ c.in-Some.more.now = search rules in
    let pushed : c.push.new.self.items ≡ out ++ byte ∷ [] = c.in_ok-push-in-Byte.ensures.items in
    let ahead = ap (λ p. (seen_piece p, rest)) (sym c.in-Byte.is) ∙ c.piece_ahead-ahead.ensures.value in
    record {
      whole = c.loop-first.invariant.whole ∙ ap (λ xs. option_map (λ ys. out ++ ys) (said (formula_pieces xs))) first_is
          ∙ said_byte out c.in-Some.first.now c.in-Some.more.now rest byte ahead
          ∙ (λ i. option_map (λ xs. sym pushed i ++ xs) (said (formula_pieces rest)));
      inside = subst (λ xs. Inside xs) (sym pushed) (inside_more out (byte ∷ []) c.loop-first.invariant.inside (inside_byte byte (subst (λ p. IsPart p) c.in-Byte.is c.piece_ahead-ahead.ensures.parts.1)));
      short = omega (arith, ap length pushed, length-append out (byte ∷ []), c.loop-first.invariant.short, c.piece_ahead-ahead.ensures.within, ap length first_is);
      rest = c.piece_ahead-ahead.ensures.parts.0;
    }

pub of_text_vec-requires : goal.of_text_vec-requires
of_text_vec-requires c = made_is_text c.loop-first.out.items c.loop-first.invariant.inside (omega (arith, c.loop-first.invariant.short))

pub returns : goal.returns
returns c =
    let out = c.loop-first.out.items in
    let behind = option_map (λ xs. out ++ xs) in
    let none : c.loop-first.rest.now ≡ [] = no_items c.loop-first.rest.now (omega (arith, c.in_default.ensures.cases)) in
    ap Some (c.of_text_vec.ensures ∙ sym (append-nil out)) ∙ sym (c.loop-first.invariant.whole ∙ ap (λ xs. behind (said (formula_pieces xs))) none ∙ ap behind said_end)
