use Rattle.std.proofs.Common.{◌≡◌, ℕ, suc, ◌+◌, ◌-◌, map, ap, sym, ◌∙◌, ◌∷◌, [], drop, Some, None, List, arith}
use Rattle.std.specs.Prelude.{slice_get}
use Rattle.std.specs.Option.{option_and_then}
use Rattle.std.proofs.lemmas.List.{map-append, drop-drop}
use Rattle.muck_laws.proofs.Options.{none_where_never}
use Rattle.muck_laws.proofs.Places.{get_drop}
use Rattle.muf_model.specs.Datum.{Datum}
use Rattle.muf_model.specs.inner.View.{view, pair_view}
use Rattle.muf_model.specs.ArrayRows.{map_key_of}
use Rattle.muf_frame.specs.inner.Shown.{flat}
use Rattle.muf_array.specs.inner.Shapes.{pairs_in, pairs_before, key_in}
use Rattle.muf_array.proofs.Counting.{pairs_more, pairs_none}
use Rattle.muf_array.proofs.making.pairs.Goals as goal

-- the key of the next pair
key_next : (st : List Datum) (at : ℕ) → option_and_then map_key_of (slice_get (drop (at + at + 1) st) 1) ≡ key_in (at + at + 2) st
key_next st at = let z : at + at + 1 + 1 ≡ at + at + 2 = omega arith in ap (option_and_then map_key_of) (get_drop (at + at + 1) 1 st ∙ ap (slice_get st) z)

pub returns-in_default : goal.returns-in_default
returns-in_default c =
    let st = (flat c.args.frame.now).stack in
    let at = c.loop-at.at in
    let m : c.args.n - at ≡ suc (c.args.n - (at + 1)) = omega (arith, c.loop-at-test.true) in
    sym (c.loop-at.invariant.1
    ∙ ap (λ j. pairs_before (map pair_view c.loop-at.made.items) (pairs_in j (drop (at + at + 1) st))) m
    ∙ pairs_none (map pair_view c.loop-at.made.items) (c.args.n - (at + 1)) (drop (at + at + 1) st) (key_next st at ∙ sym c.in_ok-key.ensures ∙ none_where_never _ c.in_default.not-Some))

pub loop-at-preserved : goal.loop-at-preserved
loop-at-preserved c =
    let st = (flat c.args.frame.now).stack in
    let at = c.loop-at.at in
    let ps = map pair_view c.loop-at.made.items in
    let x = view c.in_ok-value.value in
    let m : c.args.n - at ≡ suc (c.args.n - (at + 1)) = omega (arith, c.loop-at-test.true) in
    let first : slice_get (drop (at + at + 1) st) 0 ≡ Some x = (let z : at + at + 1 + 0 ≡ at + at + 1 = omega arith in get_drop (at + at + 1) 0 st ∙ ap (slice_get st) z ∙ c.in_ok-value.ensures) in
    let two : at + at + 1 + 2 ≡ at + 1 + (at + 1) + 1 = omega arith in (
      omega (arith, c.loop-at-test.true),
      c.loop-at.invariant.1
          ∙ ap (λ j. pairs_before ps (pairs_in j (drop (at + at + 1) st))) m
          ∙ pairs_more ps (c.args.n - (at + 1)) (drop (at + at + 1) st) x c.in-Some.key first (key_next st at ∙ sym c.in_ok-key.ensures ∙ c.in-Some.is)
          ∙ ap (λ qs. pairs_before qs (pairs_in (c.args.n - (at + 1)) (drop 2 (drop (at + at + 1) st)))) (sym (ap (map pair_view) c.in_ok-push.ensures.items ∙ map-append pair_view c.loop-at.made.items (_ ∷ [])))
          ∙ ap (λ r. pairs_before (map pair_view c.push.new.self.items) (pairs_in (c.args.n - (at + 1)) r)) (drop-drop 2 (at + at + 1) st ∙ ap (λ k. drop k st) two),
    )
