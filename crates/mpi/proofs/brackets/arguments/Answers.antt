use Rattle.std.proofs.Common.{arith, sym, subst, ap, ◌∙◌, ◌≡◌, ◌<◌, [], ◌∷◌, ◌++◌, suc, None, true, length, take, map}
use Rattle.std.proofs.Common.{ℕ, List, Bor}
use Rattle.std.specs.List.{list_all}
use Rattle.std.proofs.lemmas.List.{map-append}
use Rattle.muck_model.specs.Bytes.{text_fault}
use Rattle.mpi.specs.Made.{is_text}
use Rattle.mpi.specs.Brackets.{arguments}
use Rattle.mpi.proofs.Inside.{part_is_text, rest_is_text}
use Rattle.mpi.proofs.Mapped.{text_more}
use Rattle.mpi.proofs.Pieces.{one_more, last_argument}
use Rattle.mpi.proofs.brackets.arguments.Goals as goal

pub loop-size-preserved : goal.loop-size-preserved
loop-size-preserved c =
    let l = c.loop-size in
    let now = λ (x : Bor (List ℕ)). x.now in
    let part = take l.size l.rest.now in
    let less : l.size < length l.rest.now = omega arith in
    let pushed : map now c.push.new.self.items ≡ map now l.list.items ++ part ∷ [] = ap (map now) c.in_ok-push.ensures.items ∙ map-append now l.list.items _ in
    let value = c.part_len-size-in-loop-size.ensures.value in (
      one_more c.args.text.now l.rest.now c.behind-rest.result.now (map now l.list.items) l.size l.invariant.0 l.invariant.1 less c.behind-rest.ensures ∙ ap (λ xs. xs ++ arguments c.behind-rest.result.now) (sym pushed),
      value,
      c.part_len-size-in-loop-size.ensures.within,
      subst (λ xs. text_fault xs ≡ None) (sym c.behind-rest.ensures) (rest_is_text (suc l.size) l.rest.now l.invariant.3),
      subst (λ xs. list_all is_text xs ≡ true) (sym pushed) (text_more (map now l.list.items) part l.invariant.4 (part_is_text l.size l.rest.now l.invariant.3)),
    )

pub returns-clause-value : goal.returns-clause-value
returns-clause-value c =
    let l = c.loop-size in
    let now = λ (x : Bor (List ℕ)). x.now in
    ap (map now) c.in_ok-push-2.ensures.items ∙ map-append now l.list.items _ ∙ ap (λ xs. map now l.list.items ++ xs) (sym (last_argument l.rest.now (omega (arith, l.invariant.1)))) ∙ sym l.invariant.0
